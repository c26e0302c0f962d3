-- `walk_call::clear` meets its contract.
use borrow.Author.Rules.{rules}
use Rattle.walk_call.proofs.CallLaws.{cleared}
use Rattle.walk_call.proofs.clear.Goals as goal

pub returns : goal.returns
returns c = record { marks = search (cleared, rules); chain = search (cleared, rules) }
