-- `outline_map::bit_back` meets its contract.
use Rattle.outline_map.proofs.BitLaws.{shift_back}
use Rattle.outline_map.proofs.bit_back.Goals as goal

pub returns : goal.returns
returns c = shift_back c.args.d c.requires
