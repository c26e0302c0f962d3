-- `sheet_entry::enter_refused` meets its contract.
use mathlib.Core.Path.{subst₂}
use Prim.Native.Nat.{ℕ}
use Rattle.line_fields.specs.Put.{Wrote}
use Rattle.sheet.specs.Entry.{refused_cells}
use Rattle.sheet_entry.proofs.enter_refused.Goals as goal

pub returns : goal.returns
returns c =
    let a = c.args in
    let r = c.spell_refusal in
    subst₂ (λ (m n : ℕ). Wrote (refused_cells m n) a.at a.out.now r.result r.new.out)
    c.refusal_number-number.ensures.0 c.refusal_place-place.ensures r.ensures
