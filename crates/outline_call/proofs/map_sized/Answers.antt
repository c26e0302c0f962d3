-- `outline_call::map_sized` meets its contract.
use Rattle.outline_call.proofs.ScanLaws.{box_lent}
use Rattle.outline_call.proofs.map_sized.Goals as goal

pub write_on-requires : goal.write_on-requires
write_on-requires g c =
    let b = c.args.b in box_lent c.args.chain.now b.width b.height b.from b.closed
    g.row.SIZE c.requires.0
