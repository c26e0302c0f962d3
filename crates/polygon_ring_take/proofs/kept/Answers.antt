-- `polygon_ring_take::kept` meets its contract.
use Rattle.polygon_ring_laws.proofs.FieldLaws.{kept_nan, kept_other}
use Rattle.polygon_ring_take.proofs.kept.Goals as goal

pub returns-then-bits-gt9218868437227405312 : goal.returns-then-bits-gt9218868437227405312
returns-then-bits-gt9218868437227405312 c = kept_nan c.args.bits c.if-bits-gt9218868437227405312.true

pub returns-else-bits-gt9218868437227405312 : goal.returns-else-bits-gt9218868437227405312
returns-else-bits-gt9218868437227405312 c = kept_other c.args.bits c.if-bits-gt9218868437227405312.false
