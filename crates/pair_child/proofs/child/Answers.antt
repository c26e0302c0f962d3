-- `pair_child::child` meets its contract.
use Prim.Native.Nat.{◌-◌}
use mathlib.Core.Path.{sym, ◌∙◌}
use native.Mathlib.Omega.{arith}
use Rattle.pair_child.proofs.child.Goals as goal

pub claim-requires : goal.claim-requires
claim-requires c =
    let n = c.word-known in
    (c.requires.by_index (n.result - 1) (sym n.ensures ∙ (omega (arith, c.if-known-eq0.false))), c.requires.in_table.1, c.requires.in_table.3)
