-- What the loops of `order::highest` keep, and how they end.
use mathlib.Core.Path.{◌≡◌}
use Prim.Native.Nat.{max}
use lib.ListN.{drop}
use Rattle.order.specs.Highest.{highest_of}
use Rattle.order.proofs.highest.Given as goal

abbrev pub invariant-loop-b : goal.invariant-loop-b
invariant-loop-b l = max l.most (highest_of (drop l.b-index l.bytes)) ≡ highest_of l.bytes
