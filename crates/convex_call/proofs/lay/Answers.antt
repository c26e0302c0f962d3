-- `convex_call::lay` meets its contract.
use Rattle.convex_call.proofs.RoundLaws.{laid_none, laid_step}
use Rattle.convex_call.specs.Laid.{LaidTwice}
use Rattle.convex_laws.specs.Way.{travelled}
use lib.ListN.{length, set, length-set}
use Prim.Native.Nat.{ℕ, ◌+◌, ◌≤◌}
use mathlib.Core.Path.{◌≡◌, refl, subst, ◌∙◌}
use native.Mathlib.Omega.{arith}
use Rattle.convex_call.proofs.lay.Goals as goal

pub loop-i-init : goal.loop-i-init
loop-i-init c = let a = c.args in (omega arith, refl, laid_none (travelled a.back a.chain.now) (length a.chain.now) a.out.now)

pub bounds-out-i : goal.bounds-out-i
bounds-out-i c = omega (arith, c.loop-i.invariant.1, c.requires.1)

pub bounds-out-n : goal.bounds-out-n
bounds-out-n c =
    let l = c.loop-i in
    omega (arith, l.invariant.1, c.requires.1, length-set l.out l.i c.step_at-d.result)

pub loop-i-preserved : goal.loop-i-preserved
loop-i-preserved c =
    let l = c.loop-i in
    let a = c.args in
    let d = c.step_at-d.result in (
      omega arith,
      length-set (set l.out l.i d) (length a.chain.now + l.i) d ∙ length-set l.out l.i d ∙ l.invariant.1,
      laid_step (travelled a.back a.chain.now) (length a.chain.now) l.out l.i d l.invariant.2 (omega arith)
          (omega (arith, l.invariant.1, c.requires.1)) c.step_at-d.ensures,
    )

pub shape_of-out : goal.shape_of-out
shape_of-out c = c.loop-i.invariant.1

pub returns : goal.returns
returns c =
    let l = c.loop-i in
    let a = c.args in
    subst (LaidTwice (travelled a.back a.chain.now) (length a.chain.now) l.out)
    (all l.i (length a.chain.now) l.invariant.0 (omega arith)) l.invariant.2
  where
    all : (i n : ℕ) → i ≤ n → n ≤ i → i ≡ n
    all i n h g = omega arith
