-- `hull_call::list_from` meets its contract.
use native.Mathlib.Omega.{arith}
use Rattle.hull_call.proofs.ListLaws.{walked_order, walked_across, walked-top, walked-width, row_hulled}
use Rattle.hull_call.proofs.list_from.Goals as goal

pub ends-requires : goal.ends-requires
ends-requires c =
    let k = c.survey-extent.ensures.spans in
    (c.requires.1, omega (arith, walked-top k), walked-top k)

pub returns-then-east-west : goal.returns-then-east-west
returns-then-east-west c = row_hulled c.survey-extent.ensures.spans (omega arith) (omega arith) c.ends.ensures

-- so few steps go through so few columns
pub list_sized-requires : goal.list_sized-requires
list_sized-requires c =
    let k = c.survey-extent.ensures.spans in
    (k, c.requires.1, omega (arith, walked_across k), omega arith)

pub overflow_sub-east-2 : goal.overflow_sub-east-2
overflow_sub-east-2 c = walked_order c.survey-extent.ensures.spans

pub list_sized-requires-2 : goal.list_sized-requires-2
list_sized-requires-2 c =
    let k = c.survey-extent.ensures.spans in
    (k, c.requires.1, omega (arith, walked-width k), omega arith)
