-- `line_parts::named` meets its contract.
use Rattle.line_frame.proofs.LineLaws.{kind_named_other}
use Rattle.line_parts.proofs.named.Goals as goal

pub returns : goal.returns
returns c = kind_named_other c.args.k c.if-k-eq0.false
