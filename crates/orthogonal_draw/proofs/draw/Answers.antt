-- `orthogonal_draw::draw` meets its contract.
use native.Mathlib.Omega.{arith}
use mathlib.Core.Path.{refl, ap}
use Prim.Native.Nat.{ℕ, ◌-◌}
use lib.ListN.{length}
use Rattle.orthogonal_draw.specs.Sides.{left_in, right_in}
use Rattle.orthogonal_draw.proofs.SideLaws.{first_fits, second_fits, third_fits, drawn}
use Rattle.orthogonal_draw.proofs.draw.Goals as goal

pub fall-south-requires : goal.fall-south-requires
fall-south-requires c =
    let a = c.args in
    let p = c.requires in
    let l = left_in a.lo.now in
    let r = right_in a.span a.hi.now in
    (omega arith, omega (arith, p.3), first_fits (left_in a.lo.now) (right_in a.span a.hi.now) (length a.lo.now) (length a.hi.now) a.home p.1 p.2 p.3 c.from.result (l 0) (r (length a.hi.now - 1)) c.from.ensures refl refl (length a.out.now) p.5)

pub rise-north-requires : goal.rise-north-requires
rise-north-requires c =
    let a = c.args in
    let p = c.requires in
    let r = right_in a.span a.hi.now in
    let f = c.fall-south in
    (p.4, omega (arith, f.auto.out, second_fits (left_in a.lo.now) (right_in a.span a.hi.now) (length a.lo.now) (length a.hi.now) a.home p.1 p.2 p.3 c.from.result c.from-2.result (r (length a.hi.now - 1)) c.from.ensures c.from-2.ensures refl (length a.out.now) p.5 f.result f.ensures.1))

pub overflow_sub-east : goal.overflow_sub-east
overflow_sub-east c =
    let a = c.args in let p = c.requires in omega
    (arith, c.from-3.ensures, p.4 (length a.hi.now - 1) (omega (arith, p.0, p.1)))

pub fall-requires : goal.fall-requires
fall-requires c =
    let a = c.args in
    let p = c.requires in
    let f = c.fall-south in
    let u = c.rise-north in
    (omega (arith, p.3), omega arith, omega (arith, f.auto.out, u.auto.out, third_fits (left_in a.lo.now) (right_in a.span a.hi.now) (length a.lo.now) (length a.hi.now) a.home p.1 p.2 p.3 c.from.result c.from-2.result (a.span - c.from-3.result) c.from.ensures c.from-2.ensures (ap (λ (n : ℕ). a.span - n) c.from-3.ensures) (length a.out.now) p.5 f.result u.result f.ensures.1 u.ensures.1))

pub returns : goal.returns
returns c =
    let a = c.args in
    let p = c.requires in
    let f = c.fall-south in
    let u = c.rise-north in
    let v = c.fall in
    drawn (left_in a.lo.now) (right_in a.span a.hi.now) (length a.lo.now) (length a.hi.now) a.home p.1
    p.2 p.3 c.from.result c.from-2.result (a.span - c.from-3.result)
    c.from.ensures c.from-2.ensures (ap (λ (n : ℕ). a.span - n) c.from-3.ensures)
    a.out.now f.new.out u.new.out v.new.out f.result u.result f.ensures.0 f.ensures.1 u.ensures.0
    u.ensures.1 v.ensures.0
