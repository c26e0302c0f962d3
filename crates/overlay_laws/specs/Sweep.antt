-- The parts of two rooms as tests, their lists, and lower ends as they are read from the numbers of spans.
-- Assumes nothing.
use Rattle.std.specs.Prelude.{Bool, false, not, ◌&&◌, List, [], ◌∷◌, ◌≡◌, ℕ, zero, suc, ◌+◌, ◌-◌, ◌*◌, ◌/◌, ◌%◌, ◌<◌, ◌≤◌, eqb, ℤ, pos, ◌+ℤ◌, nat_abs, length, get_or}
use Rattle.answer.specs.Limits.{most_steps}
use Rattle.grid.specs.declared.Corner.{Corner}
use Rattle.grid.specs.Grid.{corner}
use Rattle.panels.specs.Edges.{edges_from}
use Rattle.row.specs.Rows.{Span}
use Rattle.row_laws.specs.Feet.{feet_of, pairs_of}
use Rattle.overlay.specs.declared.{Part.Part, Part.TheVariants.First, Part.TheVariants.Second, Part.TheVariants.Both}
use Rattle.overlay_laws.specs.Join.{join, changes}

-- whether the part has what the first room has, or what it lacks, and likewise the second
abbrev pub part_has : Part → Bool → Bool → Bool
part_has First a b = a && not b
part_has Second a b = b && not a
part_has Both a b = a && b

-- the sorted lower ends of a walk
abbrev pub ends_of_walk : Corner → List ℕ → List Corner
ends_of_walk c ds = feet_of (edges_from c ds)

-- the ends of the spans of a part of two sets, by the lower ends of each
abbrev pub part_ends : Part → List Corner → List Corner → List Corner
part_ends k P Q = changes (part_has k) false false (join (length P + length Q) P Q)

-- the list of each part of two walks
abbrev pub lists_of : Corner → List ℕ → Corner → List ℕ → Part → List Span
lists_of c ds e es k = pairs_of (part_ends k (ends_of_walk c ds) (ends_of_walk e es))

-- the lower end at place i of the spans whose numbers the list has: the first panel of a span, and the one past its last
abbrev pub end_at : List ℤ → ℕ → Corner
end_at list i = corner (get_or list (3 * (i / 2) + 1 + i % 2) (pos 0) +ℤ pos (i % 2)) (get_or list (3 * (i / 2)) (pos 0))

-- k of them from place i on
abbrev pub ends_from : List ℤ → ℕ → ℕ → List Corner
ends_from list i zero = []
ends_from list i (suc k) = end_at list i ∷ ends_from list (suc i) k

-- a list of this many ends, whose numbers fit 16 bits
pub record Numbers (list : List ℤ) (n : ℕ) : Type 0 where
  pub even : n % 2 ≡ 0
  pub room : 3 * (n / 2) ≤ length list
  pub small : (k : ℕ) → k < 3 * (n / 2) → nat_abs (get_or list k (pos 0)) ≤ 32767
  pub few : n ≤ most_steps

abbrev pub odd : ℕ → Bool
odd i = eqb (i % 2) 1

-- what is left of a part's ends at the places i and j
abbrev pub part_rest : Part → List ℤ → ℕ → ℕ → List ℤ → ℕ → ℕ → ℕ → List Corner
part_rest k a i na b j nb fuel =
    changes (part_has k) (odd i) (odd j) (join fuel (ends_from a i (na - i)) (ends_from b j (nb - j)))
