-- `line_rows::feed` meets its contract.
use mathlib.Core.Path.{refl}
use Rattle.line_fields.proofs.PutLaws.{put_one}
use Rattle.line_rows.proofs.feed.Goals as goal

pub returns : goal.returns
returns c = record { end = refl; buffer = put_one 10 c.args.at c.args.out.now c.requires }
