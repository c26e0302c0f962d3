-- `line_stream::hold` meets its contract.
use native.Mathlib.Omega.{arith}
use Rattle.line_stream.proofs.HoldLaws.{hold_kept}
use Rattle.line_stream.proofs.hold.Goals as goal

pub returns : goal.returns
returns c =
    let a = c.args in
    hold_kept a.line.now a.s.now a.held c.min-m.result (omega arith) (omega arith) c.min-m.ensures _ _ (omega arith) c.copy_from_slice.ensures.after
