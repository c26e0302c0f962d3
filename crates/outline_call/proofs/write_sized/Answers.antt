-- `outline_call::write_sized` meets its contract.
use Rattle.outline_call.proofs.ScanLaws.{blank_of}
use Rattle.outline_call.proofs.write_sized.Goals as goal

pub write_in-requires : goal.write_in-requires
write_in-requires g c =
    let p = c.requires in
    (blank_of c.args.chain.now g.row.N _ _ p.0 p.2 p.3 c.as_flattened_mut.ensures.value c.as_flattened_mut-2.ensures.value, p.1)
