-- What the loops of `outline_map::mark` keep, and how they end.
use Rattle.std.proofs.Common.{◌≡◌, ℕ, length}
use Rattle.grid.specs.declared.Corner.{Corner}
use Rattle.outline_map.specs.Map.{Placed}
use Rattle.outline_map.proofs.MarkLaws.{Marking}
use Rattle.outline_map.proofs.mark.Given as goal

abbrev pub invariant-loop-d : goal.invariant-loop-d
invariant-loop-d l = (c : Corner) (at : Corner → ℕ) → l.from ≡ at c → Placed c l.chain l.by (length l.initial.map) at → Marking c l.chain at l.map l.b l.home l.last l.d-index
