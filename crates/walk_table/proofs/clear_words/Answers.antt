-- `walk_table::clear_words` meets its contract.
use native.Mathlib.Omega.{arith}
use Prim.Native.Nat.{◌+◌, ◌-◌}
use Rattle.walk_table.proofs.ErasureLaws.{filled_part}
use Rattle.walk_table.proofs.clear_words.Goals as goal

pub returns : goal.returns
returns c =
    let a = c.args in
    filled_part a.t.now c.fill.new.self a.from (a.from + a.n - a.from) a.n 0 (omega arith)
    c.requires (c.fill.ensures.after (λ y e. e))
