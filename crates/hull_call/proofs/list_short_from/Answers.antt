-- `hull_call::list_short_from` meets its contract.
use native.Mathlib.Omega.{arith}
use Rattle.hull_call.proofs.ListLaws.{walked_order, walked_across}
use Rattle.hull_call.proofs.list_short_from.Goals as goal

pub overflow_sub-extent : goal.overflow_sub-extent
overflow_sub-extent c = walked_order c.survey-extent.ensures.spans

-- so few steps go through so few columns
pub list_sized-requires : goal.list_sized-requires
list_sized-requires c =
    let k = c.survey-extent.ensures.spans in
    (k, c.requires.1, omega (arith, walked_across k, c.requires.2), omega arith)
