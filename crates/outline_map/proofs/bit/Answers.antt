-- `outline_map::bit` meets its contract.
use Rattle.outline_map.proofs.BitLaws.{shift_bit}
use Rattle.outline_map.proofs.bit.Goals as goal

pub returns : goal.returns
returns c = shift_bit c.args.d c.requires
