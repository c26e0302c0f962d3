-- What the loop of `orthogonal_draw::count` keeps.
use mathlib.Core.Path.{◌≡◌}
use Prim.Native.Nat.{◌+◌, ◌*◌, ◌-◌, ◌≤◌}
use lib.ListN.{length}
use Rattle.orthogonal_chain_laws.specs.Chain.{blocks_from}
use Rattle.orthogonal_draw.specs.Sides.{left_in, right_in}
use Rattle.orthogonal_draw.proofs.count.Given as goal

abbrev pub invariant-loop-q : goal.invariant-loop-q
invariant-loop-q l = (l.n ≤ l.q * 65535) × (l.n + blocks_from (left_in l.lo) (right_in l.span l.hi) l.q (length l.lo - l.q) ≡ blocks_from (left_in l.lo) (right_in l.span l.hi) 0 (length l.lo))
