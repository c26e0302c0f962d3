-- `polygon_call::draw` meets its contract.
use Rattle.polygon_laws.proofs.WriteLaws.{polygon_laid, draw_short, draw_done}
use Rattle.polygon_laws.proofs.BendLaws.{turning_le}
use native.Mathlib.Omega.{arith}
use Prim.Native.Nat.{ℕ, ◌+◌}
use mathlib.Core.Path.{ap}
use Rattle.polygon_call.proofs.draw.Goals as goal

pub overflow_add-n : goal.overflow_add-n
overflow_add-n c = record { fits = omega (arith, c.count-n.ensures, turning_le c.args.chain.now, c.requires.few) }

pub overflow_mul-n : goal.overflow_mul-n
overflow_mul-n c = record { fits = omega (arith, c.count-n.ensures, turning_le c.args.chain.now, c.requires.few) }

pub overflow_add-n-2 : goal.overflow_add-n-2
overflow_add-n-2 c = record { fits = omega (arith, c.count-n.ensures, turning_le c.args.chain.now, c.requires.few) }

pub overflow_cast-n : goal.overflow_cast-n
overflow_cast-n c = record { fits = omega (arith, c.count-n.ensures, turning_le c.args.chain.now, c.requires.few) }

pub returns-then-out-n : goal.returns-then-out-n
returns-then-out-n c =
    draw_short c.args.start c.args.chain.now c.args.out.now (c.count-n.result + 2)
    c.requires.digits (ap (λ (k : ℕ). k + 2) c.count-n.ensures) c.if-out-n.true

pub returns : goal.returns
returns c =
    let k = c.count-n in
    let n = ap (λ (k : ℕ). k + 2) k.ensures in
    let h = c.if-out-n.false in
    let a = c.put_prefix in
    let b = c.put_count in
    let z = c.put_ring in
    draw_done c.args.start c.args.chain.now c.args.out.now _ (k.result + 2)
    c.requires.digits n (λ w. omega (arith, h, w))
    (polygon_laid c.args.out.now a.new.buf b.new.buf z.new.buf c.args.start
    c.args.chain.now (k.result + 2) c.requires.digits n a.ensures b.ensures z.ensures)
