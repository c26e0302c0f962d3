-- `line_reply::list_hull` meets its contract.
use Rattle.line_reply.proofs.ListedLaws.{hull_listed}
use Rattle.line_reply.proofs.list_hull.Goals as goal

pub returns : goal.returns
returns c = rw c.unwrap_or.ensures (hull_listed c.list_short.ensures c.requires.below.0 c.requires.below.1 c.requires.hull_len)
