-- `polygon_ring_call::is_whole` meets its contract.
use Rattle.polygon_ring_laws.proofs.RingLaws.{whole_no, whole_is}
use Rattle.polygon_ring.specs.Ring.{count_in}
use lib.ListN.{length}
use Rattle.polygon_ring_call.proofs.is_whole.Goals as goal

pub returns-then-rest-ne0 : goal.returns-then-rest-ne0
returns-then-rest-ne0 c =
    whole_no (length c.args.file.now) (count_in c.args.little c.args.file.now) c.requires
    c.if-rest-ne0.true

pub returns : goal.returns
unfolding count_in
returns c =
    whole_is (length c.args.file.now) c.number-count.result
    (count_in c.args.little c.args.file.now) c.requires c.if-rest-ne0.false c.number-count.ensures
