-- `walk_corner::moved` meets its contract.
use mathlib.Core.Path.{ap₂, ◌∙◌}
use native.Mathlib.Omega.{arith}
use lib.IntN.{◌+ℤ◌}
use Rattle.grid.specs.Grid.{corner}
use Rattle.walk_corner.proofs.MoveLaws.{read_back, stepped_by}
use Rattle.walk_corner.proofs.SignedLaws.{back}
use Rattle.walk_corner.proofs.moved.Goals as goal

pub returns : goal.returns
returns c =
    let a = c.args in
    let x = c.shifted-x in
    let y = c.shifted-y in
    let e = c.east in
    let n = c.north in
    ap₂ corner
    (back x.result x.type_inv ∙ x.ensures ∙ ap₂ ◌+ℤ◌ (read_back a.c.0 (omega (arith, c.requires.0)))
    (back e.result e.type_inv ∙ e.ensures))
    (back y.result y.type_inv ∙ y.ensures ∙ ap₂ ◌+ℤ◌ (read_back a.c.1 (omega (arith, c.requires.1)))
    (back n.result n.type_inv ∙ n.ensures))
    ∙ stepped_by a.d a.c
