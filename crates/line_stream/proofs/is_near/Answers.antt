-- `line_stream::is_near` meets its contract.
use mathlib.Core.Path.{◌≡◌, ap, ◌∙◌}
use native.Mathlib.Omega.{arith}
use lib.Dec.{ltb}
use Rattle.line_frame.specs.Begun.{line_length}
use Rattle.line_stream.specs.Stream.{near}
use Rattle.line_stream.proofs.HoldLaws.{near_none, near_next}
use Rattle.line_stream.proofs.is_near.Goals as goal

pub loop-k-init : goal.loop-k-init
loop-k-init c = near_none c.args.s.now

pub loop-k-preserved : goal.loop-k-preserved
loop-k-preserved c = near_next c.args.s.now c.loop-k.k (omega arith) c.loop-k.invariant

pub returns : goal.returns
returns c =
    let e : c.loop-k.k ≡ near = omega arith in
    c.loop-k.invariant ∙ ap (ltb (line_length c.args.s.now)) e
