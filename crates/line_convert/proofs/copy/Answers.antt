-- `line_convert::copy` meets its contract.
use mathlib.Core.Path.{◌≡◌, refl, subst}
use Prim.Native.Nat.{ℕ, ◌+◌}
use native.Mathlib.Omega.{arith}
use lib.ListN.{length}
use Rattle.line_fields.specs.Put.{Wrote}
use Rattle.line_convert.proofs.ConvertLaws.{put_begun, put_next, put_done}
use Rattle.line_convert.proofs.copy.Goals as goal

pub loop-i-init : goal.loop-i-init
loop-i-init c = put_begun c.args.s.now c.args.out.now c.args.at

pub loop-i-preserved : goal.loop-i-preserved
loop-i-preserved c = put_next c.args.s.now c.loop-i.out _ c.args.at c.loop-i.i _ (omega arith) (omega arith) refl c.loop-i.invariant

pub returns : goal.returns
returns c =
    let a = c.args in
    let e : c.loop-i.i ≡ length a.s.now = omega arith in
    subst (λ (n : ℕ). Wrote a.s.now a.at a.out.now (a.at + n) c.loop-i.out) e
    (put_done a.s.now c.loop-i.out a.out.now a.at c.loop-i.i (omega arith) c.loop-i.invariant)
