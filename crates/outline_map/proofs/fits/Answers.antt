-- `outline_map::fits` meets its contract.
use Rattle.std.proofs.Common.{length, ◌∙◌, ◌*◌, le-leb}
use Rattle.outline_map.proofs.WayLaws.{fits_surely}
use Rattle.outline_map.proofs.fits.Goals as goal

pub returns-then-ring-size : goal.returns-then-ring-size
returns-then-ring-size c a =
    le-leb (2 * length c.args.ring.now.chain.now) c.args.size c.if-ring-size.true
    ∙ fits_surely c.requires c.args.size c.if-ring-size.true a
