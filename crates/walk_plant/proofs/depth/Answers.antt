-- `walk_plant::depth` meets its contract.
use mathlib.Core.Bool.{false}
use mathlib.Core.Path.{◌≡◌, sym, subst, ◌∙◌}
use Prim.Native.Nat.{◌<◌}
use native.Mathlib.Omega.{arith}
use borrow.Author.Tests.{not-true, not-false}
use Rattle.grid.specs.declared.Corner.{Corner}
use Rattle.grid.specs.Tree.{parent_of, is_root, size_of}
use Rattle.grid.proofs.PathLaws.{size_of-parent_of}
use Rattle.walk_plant.proofs.GrowLaws.{climb_start, climb_next, climb_end}
use Rattle.walk_plant.proofs.depth.Goals as goal

less : (a b : Corner) → is_root a ≡ false → b ≡ parent_of a → size_of b < size_of a
less a b e q = subst (λ (x : Corner). size_of x < size_of a) (sym q) (size_of-parent_of a e)

pub loop-at-init : goal.loop-at-init
loop-at-init c = climb_start c.args.c

pub overflow_add-levels : goal.overflow_add-levels
overflow_add-levels c =
    let l = c.loop-at in
    let n = c.requires in
    omega (arith, l.invariant.few, n.0, n.1)

pub loop-at-smaller : goal.loop-at-smaller
loop-at-smaller c =
    let l = c.loop-at in
    less l.at c.parent_of-at.result
    (sym c.is_root.ensures ∙ not-true c.is_root.result c.loop-at-test.true-raw) c.parent_of-at.ensures

pub loop-at-preserved : goal.loop-at-preserved
loop-at-preserved c =
    let l = c.loop-at in
    climb_next c.args.c l.at c.parent_of-at.result l.levels l.invariant
    (sym c.is_root.ensures ∙ not-true c.is_root.result c.loop-at-test.true-raw) c.parent_of-at.ensures

pub returns : goal.returns
returns c =
    let l = c.loop-at in
    let r = c.is_root in
    climb_end c.args.c l.at l.levels l.invariant
    (sym r.ensures ∙ not-false r.result c.loop-at-test.false-raw)
