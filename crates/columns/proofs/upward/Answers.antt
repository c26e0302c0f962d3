-- `columns::upward` meets its contract.
use Rattle.std.proofs.Common.{ℕ, ◌+◌, ◌%◌, ◌^◌, List, get_or, ap₂, ◌∙◌}
use Rattle.columns.proofs.StepLaws.{upward_by}
use Rattle.columns.proofs.upward.Goals as goal

pub returns : goal.returns
returns c =
    let a = c.args in
    ap₂ (λ (l : List ℕ) (d : ℕ). (a.y + get_or l d 0) % 2 ^ 16) c.requires.0 c.from.ensures
    ∙ upward_by a.y a.d c.requires.1 c.requires.2 c.requires.3
