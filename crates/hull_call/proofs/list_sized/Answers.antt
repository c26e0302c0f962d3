-- `hull_call::list_sized` meets its contract.
use Rattle.hull_call.proofs.ListLaws.{walked_order, stored}
use Rattle.hull_call.proofs.list_sized.Goals as goal

pub overflow_sub-n : goal.overflow_sub-n
overflow_sub-n g c = walked_order c.requires.0

pub list_in-requires : goal.list_in-requires
list_in-requires g c = (c.requires.0, c.requires.1, stored g.row.SIZE c.requires.2 c.requires.3)
