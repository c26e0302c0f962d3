-- `polygon_call::put_bend` meets its contract.
use Rattle.polygon_laws.proofs.BendLaws.{put_one, put-none, room, below_room}
use lib.ListN.{length}
use Prim.Native.Nat.{◌*◌}
use Rattle.polygon_call.proofs.put_bend.Goals as goal

pub put_point-requires : goal.put_point-requires
put_point-requires c =
    (room c.args.buf.now (16 * c.args.k) (below_room c.args.k c.args.bend (length c.args.buf.now) c.if-bend.true c.requires.0), c.requires.1, c.requires.2)

pub returns-then-bend : goal.returns-then-bend
returns-then-bend c =
    put_one c.args.buf.now c.put_point.new.buf c.args.k c.args.bend
    c.args.c c.if-bend.true c.requires.0 c.put_point.ensures

pub returns : goal.returns
returns c = put-none c.args.buf.now c.args.k c.args.bend c.args.c c.if-bend.false
