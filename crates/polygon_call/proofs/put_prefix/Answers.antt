-- `polygon_call::put_prefix` meets its contract.
use native.Mathlib.Omega.{arith}
use Rattle.polygon.specs.Polygon.{prefix}
use Rattle.polygon_call.proofs.PrefixLaws.{laid_first, laid_more, laid_last}
use Rattle.polygon_call.proofs.put_prefix.Goals as goal

pub loop-i-init : goal.loop-i-init
loop-i-init c = laid_first

pub loop-i-preserved : goal.loop-i-preserved
loop-i-preserved c = laid_more (omega arith) (omega arith) c.loop-i.invariant

pub returns : goal.returns
returns c = laid_last {W = prefix} (omega arith) c.loop-i.invariant
