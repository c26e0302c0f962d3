-- `walk_corner::up_by` meets its contract.
use mathlib.Core.Path.{◌≡◌, ap, ◌∙◌}
use native.Mathlib.Numerals.{add-one}
use native.Mathlib.Omega.{arith}
use Prim.Native.Nat.{ℕ}
use Rattle.grid.specs.Tree.{parent_of, up_by}
use Rattle.walk_corner.proofs.up_by.Goals as goal

pub loop-preserved : goal.loop-preserved
loop-preserved c =
    let l = c.loop in
    rw add-one (c.parent_of-at.ensures ∙ ap parent_of l.invariant)

pub returns : goal.returns
returns c =
    let l = c.loop in
    let e : l.counter ≡ c.args.i = omega arith in
    l.invariant ∙ ap (λ (m : ℕ). up_by m c.args.c) e
