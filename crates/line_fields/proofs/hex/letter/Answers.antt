-- `line_fields::hex::letter` meets its contract.
use borrow.Author.Tests.{lt-ltb, le-ltb}
use Rattle.line_fields.proofs.hex.letter.Goals as goal

pub returns-then-d-lt10 : goal.returns-then-d-lt10
returns-then-d-lt10 c = simp (lt-ltb _ 10 c.if-d-lt10.true)

pub returns : goal.returns
returns c = simp (le-ltb _ 10 c.if-d-lt10.false)
