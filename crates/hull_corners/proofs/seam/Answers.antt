-- `hull_corners::seam` meets its contract.
use Rattle.hull_corners.proofs.PartsLaws.{tally-byte}
use Rattle.hull_corners.proofs.seam.Goals as goal

pub returns : goal.returns
returns c = rw (c.from.ensures, c.meet.ensures, tally-byte)
