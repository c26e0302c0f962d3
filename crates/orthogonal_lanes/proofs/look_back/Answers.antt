-- `orthogonal_lanes::look_back` meets its contract.
use mathlib.Core.Path.{ap}
use Prim.Native.Nat.{ℕ, ◌/◌}
use lib.ListN.{length}
use native.Mathlib.Omega.{arith}
use Rattle.orthogonal_lanes.proofs.LaneLaws.{looking_start, looking_step}
use Rattle.orthogonal_lanes.proofs.look_back.Goals as goal

pub loop-q-init : goal.loop-q-init
loop-q-init c =
    let a = c.args in
    looking_start a.a.now a.g (length a.a.now) _ a.t.now c.requires.0 (ap (λ (n : ℕ). n / a.g) c.from.ensures)

pub loop-q-preserved : goal.loop-q-preserved
loop-q-preserved c =
    let l = c.loop-q in
    looking_step l.invariant c.loop-q-test.true (omega arith) (omega (arith, c.requires.1)) _ c.min-least.result
    (ap (λ (n : ℕ). n / c.args.g) c.from-in-loop-q.ensures) c.min-least.ensures

pub returns : goal.returns
returns c = let w = c.loop-q.invariant in (λ q l. w.after q (omega arith) l, λ q l. w.minima q (omega arith) l)
