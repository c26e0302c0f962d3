-- `polygon_ring_take::in_reach` meets its contract.
use Rattle.polygon_ring_laws.proofs.FieldLaws.{reach-low, reach-up}
use Rattle.polygon_ring_take.proofs.in_reach.Goals as goal

pub returns-then-exponent-lt1032 : goal.returns-then-exponent-lt1032
returns-then-exponent-lt1032 c = reach-low c.args.size c.if-exponent-lt1032.true

pub returns : goal.returns
returns c = reach-up c.args.size c.if-exponent-lt1032.false
