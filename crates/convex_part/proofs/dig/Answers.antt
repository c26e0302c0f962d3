-- `convex_part::dig` meets its contract.
use native.Mathlib.Omega.{arith}
use mathlib.Core.Path.{refl, ap₂, ◌∙◌}
use mathlib.Core.List.{◌++◌}
use Prim.Native.Nat.{ℕ, ◌+◌}
use lib.ListN.{length, take, drop, set, length-set}
use Rattle.convex.specs.Parts.{turned_by}
use Rattle.convex_laws.specs.Level.{depths_from}
use Rattle.convex_part.proofs.PassLaws.{dig_step, dig_end, over_le, under_le}
use Rattle.convex_part.proofs.dig.Goals as goal

pub loop-step-init : goal.loop-step-init
loop-step-init c = (omega arith, omega arith, omega arith, refl, refl)

pub bounds-ys-k : goal.bounds-ys-k
bounds-ys-k c = let l = c.loop-step in omega (arith, l.invariant.0, l.invariant.3)

pub letter-d-requires : goal.letter-d-requires
letter-d-requires c = (c.requires.0.digits c.loop-step.step-index, c.requires.1)

pub column-k-requires : goal.column-k-requires
column-k-requires c = let l = c.loop-step in omega (arith, l.invariant.0)

pub depth-y-requires : goal.depth-y-requires
depth-y-requires c = let l = c.loop-step in omega (arith, l.invariant.2)

pub loop-step-preserved : goal.loop-step-preserved
loop-step-preserved c =
    let l = c.loop-step in
    let a = c.args in
    let d = c.letter-d.result in
    let k = c.column-k.ensures in
    let y = c.depth-y.ensures in (
      omega (arith, k, over_le l.k l.step-index d l.invariant.0),
      omega arith,
      omega (arith, y, under_le (length a.part.now) l.y l.step-index d l.invariant.2),
      length-set l.ys l.k l.y ∙ l.invariant.3,
      ap₂ (λ (m n : ℕ). take m (set l.ys l.k l.y) ++ depths_from n (drop (l.step-index + 1) (turned_by a.turn a.part.now)))
          k y
          ∙ dig_step a.part.now a.turn l.ys l.k l.y l.step-index d
          (depths_from (length a.part.now) (turned_by a.turn a.part.now)) (omega arith) c.letter-d.ensures
          (omega (arith, l.invariant.0, l.invariant.3)) l.invariant.4,
    )

pub bounds-ys-k-2 : goal.bounds-ys-k-2
bounds-ys-k-2 c = let l = c.loop-step in omega (arith, l.invariant.0, l.invariant.3)

pub overflow_add-result : goal.overflow_add-result
overflow_add-result c = let l = c.loop-step in omega (arith, l.invariant.0)

pub returns : goal.returns
returns c =
    let l = c.loop-step in
    let a = c.args in
    (dig_end a.part.now a.turn l.ys l.k l.y l.step-index (depths_from (length a.part.now) (turned_by a.turn a.part.now)) (omega arith) (omega (arith, l.invariant.0, l.invariant.3)) l.invariant.4, omega (arith, l.invariant.0, l.invariant.1))
