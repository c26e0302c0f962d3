-- `polygon_call::bent` meets its contract.
use Rattle.polygon_laws.proofs.BendLaws.{bends-differ}
use Rattle.polygon_call.proofs.bent.Goals as goal

pub returns : goal.returns
returns c = bends-differ c.args.a c.args.d c.requires.0 c.requires.1
