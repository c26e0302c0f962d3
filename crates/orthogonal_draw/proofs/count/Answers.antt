-- `orthogonal_draw::count` meets its contract.
use Rattle.orthogonal_draw.proofs.SideLaws.{count-start, count_next, count_end}
use native.Mathlib.Omega.{arith}
use mathlib.Core.Path.{ap₂, ◌∙◌}
use Prim.Native.Nat.{ℕ, ◌+◌, ◌-◌}
use lib.ListN.{length}
use Rattle.orthogonal_chain_laws.specs.Chain.{blocks_from}
use Rattle.orthogonal_draw.specs.Sides.{left_in, right_in}
use Rattle.orthogonal_draw.proofs.count.Goals as goal

pub loop-q-init : goal.loop-q-init
loop-q-init c = let a =
    c.args in (omega arith, count-start (left_in a.lo.now) (right_in a.span a.hi.now) (length a.lo.now))

pub overflow_sub-n : goal.overflow_sub-n
overflow_sub-n c = omega (arith, c.from.ensures, c.requires.3 c.loop-q.q c.loop-q-test.true)

pub overflow_sub-n-in-loop-q : goal.overflow_sub-n-in-loop-q
overflow_sub-n-in-loop-q c = omega (arith, c.from-in-loop-q.ensures, c.from.ensures, c.requires.3 c.loop-q.q c.loop-q-test.true)

pub loop-q-preserved : goal.loop-q-preserved
loop-q-preserved c =
    let l = c.loop-q in
    let a = c.args in
    let r = right_in a.span a.hi.now in
    let t = c.loop-q-test.true in (
      omega (arith, l.invariant.0, c.requires.2),
      ap₂ (λ (u v : ℕ). (l.n + (a.span - u - v)) + blocks_from (left_in a.lo.now) r (l.q + 1)
          (length a.lo.now - (l.q + 1))) c.from.ensures c.from-in-loop-q.ensures ∙ count_next (left_in a.lo.now) r l.q l.n (length a.lo.now) (blocks_from (left_in a.lo.now) r 0 (length a.lo.now)) t l.invariant.1,
    )

pub returns : goal.returns
returns c =
    let l = c.loop-q in let a = c.args in count_end (left_in a.lo.now) (right_in a.span a.hi.now) l.q
    l.n (length a.lo.now) (blocks_from (left_in a.lo.now) (right_in a.span a.hi.now) 0 (length a.lo.now))
    c.loop-q-test.false l.invariant.1
