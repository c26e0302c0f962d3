-- `walk_corner::parted` meets its contract.
use mathlib.Core.Bool.{not}
use mathlib.Core.Path.{ap, ap₂, ◌∙◌}
use Rattle.grid.specs.Grid.{same}
use Rattle.grid.specs.Tree.{parent_of}
use Rattle.grid.proofs.CornerLaws.{equal_same}
use Rattle.walk_corner.proofs.PartLaws.{parents_tell}
use Rattle.walk_corner.proofs.parted.Goals as goal

pub returns : goal.returns
returns c =
    let a = c.args in
    let p = c.parent_of in
    let q = c.parent_of-2 in
    c.ne.ensures
    ∙ ap not (equal_same p.result q.result ∙ ap₂ same p.ensures (q.ensures ∙ ap parent_of c.moved-e.ensures))
    ∙ parents_tell a.d a.c
