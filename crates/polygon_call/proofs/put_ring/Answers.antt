-- `polygon_call::put_ring` meets its contract.
use Rattle.polygon_laws.proofs.WriteLaws.{ring_laid}
use Rattle.polygon_call.proofs.put_ring.Goals as goal

pub returns : goal.returns
returns c =
    let a = c.put_point in
    let b = c.put_bends-k in
    let z = c.put_point-2 in
    ring_laid c.args.buf.now a.new.buf b.new.buf z.new.buf c.args.start
    c.args.chain.now b.result c.requires.0.digits b.ensures.0 a.ensures b.ensures.1 z.ensures
