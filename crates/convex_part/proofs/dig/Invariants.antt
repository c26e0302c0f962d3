-- What the loop of `convex_part::dig` keeps.
use mathlib.Core.Path.{◌≡◌}
use mathlib.Core.List.{◌++◌}
use Prim.Native.Nat.{◌+◌, ◌≤◌}
use lib.ListN.{length, take, drop}
use Rattle.convex.specs.Parts.{turned_by}
use Rattle.convex_laws.specs.Level.{depths_from}
use Rattle.convex_part.proofs.dig.Given as goal

abbrev pub invariant-loop-step : goal.invariant-loop-step
invariant-loop-step l = (l.k ≤ l.step-index) × (l.step-index ≤ length l.part) × (length l.part ≤ l.y + l.step-index) × (length l.ys ≡ length l.initial.ys) × (take l.k l.ys ++ depths_from l.y (drop l.step-index (turned_by l.turn l.part)) ≡ depths_from (length l.part) (turned_by l.turn l.part))
