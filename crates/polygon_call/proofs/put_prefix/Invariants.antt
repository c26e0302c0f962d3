-- What the loop of `polygon_call::put_prefix` keeps.
use Rattle.polygon.specs.Polygon.{prefix}
use Rattle.polygon_call.proofs.PrefixLaws.{Laid}
use Rattle.polygon_call.proofs.put_prefix.Given as goal

abbrev pub invariant-loop-i : goal.invariant-loop-i
invariant-loop-i l = Laid l.initial.buf prefix l.buf l.i
