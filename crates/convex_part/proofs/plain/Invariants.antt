-- What the loop of `convex_part::plain` keeps.
use mathlib.Core.Path.{◌≡◌}
use lib.ListN.{drop}
use Rattle.convex.specs.Parts.{turned_by}
use Rattle.convex_laws.specs.Level.{are_letters}
use Rattle.convex_part.proofs.plain.Given as goal

abbrev pub invariant-loop-d : goal.invariant-loop-d
invariant-loop-d l = are_letters (drop l.d-index (turned_by l.turn l.part)) ≡ are_letters (turned_by l.turn l.part)
