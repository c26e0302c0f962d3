-- `orthogonal_lanes::mark` meets its contract.
use native.Mathlib.Omega.{arith}
use Prim.Native.Nat.{◌-◌}
use lib.ListN.{length}
use Rattle.orthogonal_lanes.proofs.LaneLaws.{mark-none, mark-one, row_below}
use Rattle.orthogonal_lanes.proofs.mark.Goals as goal

pub returns-then-d-eq0 : goal.returns-then-d-eq0
returns-then-d-eq0 c =
    let a = c.args in let p = c.requires in (mark-none a.lo.now a.g a.up (λ z. z) a.x a.y a.d p.0 c.if-d-eq0.true, mark-none a.hi.now a.g a.up (λ z. a.far - z) a.x a.y a.d p.0 c.if-d-eq0.true)

pub overflow_add-q : goal.overflow_add-q
overflow_add-q c = omega (arith, c.foot.ensures, c.requires.5)

pub keep-requires : goal.keep-requires
keep-requires c =
    let a = c.args in let p = c.requires in (row_below c.foot.result a.y a.up a.g (length a.lo.now) p.2 (omega (arith, c.foot.ensures)) p.6, omega (arith, p.3, p.4))

pub keep-requires-2 : goal.keep-requires-2
keep-requires-2 c =
    let a = c.args in let p = c.requires in (omega (arith, p.7, row_below c.foot.result a.y a.up a.g (length a.lo.now) p.2 (omega (arith, c.foot.ensures)) p.6), omega (arith, p.4))

pub returns : goal.returns
returns c =
    let a = c.args in
    let p = c.requires in
    let f = c.foot in (
      mark-one a.lo.now a.g a.up (λ z. z) a.x a.y a.d f.result p.0 c.if-d-eq0.false f.ensures
          c.keep.new.a c.keep.ensures,
      mark-one a.hi.now a.g a.up (λ z. a.far - z) a.x a.y a.d f.result p.0 c.if-d-eq0.false
          f.ensures c.keep-2.new.a c.keep-2.ensures,
    )
