-- Moments, occasions and bounds, computed on small walks.
-- Assumes nothing.
use mathlib.Core.Bool.{false≢true}
use mathlib.Core.List.{[], ◌∷◌, Memᴰ}
use mathlib.Core.Logic.{inl, ⊎_elim}
use mathlib.Core.Path.{◌≡◌, refl, sym}
use Prim.Native.Nat.{◌*◌, ◌-◌, ◌≤◌}
use native.Mathlib.Omega.{arith}
use lib.IntN.{pos, negsuc}
use Rattle.grid.specs.Grid.{corner, origin, same, corners_from}
use Rattle.grid.proofs.CornerLaws.{same_sound, same_refl}
use Rattle.grid.proofs.StepLaws.{stepped_ne}
use Rattle.lists.proofs.GatherLaws.{mem→any}
use Rattle.tree.specs.Nodes.{InUse, LinkedBy}
use Rattle.layout.specs.Table.{width}
use Rattle.steps.specs.Operations.{Fine}
use Rattle.demands.specs.Moments.{nodes_after, corners_after, visits_after, changes_at, sum_to, AtMostEight, FourLessThree, Exceeds}
use Rattle.demands.specs.Given.{HasRecords, FineAt, BadDigitAt, FirstAt, NoRoomAfter}

-- 0011 needs six nodes for its five corners at its last moment, so five records are too few and six are enough
one_record_short : Exceeds (nodes_after origin (0 ∷ 0 ∷ 1 ∷ 1 ∷ []) 4) 5
one_record_short = omega arith

just_enough : Exceeds (nodes_after origin (0 ∷ 0 ∷ 1 ∷ 1 ∷ []) 4) 6 → ⊥
just_enough h = omega arith

-- 004 has three nodes before the step back and two after it
before-a-take-back : nodes_after origin (0 ∷ 0 ∷ 4 ∷ []) 2 ≡ 3
before-a-take-back = refl

after-a-take-back : nodes_after origin (0 ∷ 0 ∷ 4 ∷ []) 3 ≡ 2
after-a-take-back = refl

-- 020 ends on the corner that its first step reached
stood_on_twice : visits_after origin (0 ∷ 2 ∷ 0 ∷ []) 3 ≡ 2
stood_on_twice = refl

-- the root alone, one node and one corner, reaches the bound
bound_is-reached : FourLessThree (nodes_after origin [] 0) (corners_after origin [] 0)
bound_is-reached = omega arith

-- (16384,0) has 16 nodes and one corner before its first step: more than eight
start-needs-more : (nodes_after (corner (pos 16384) (pos 0)) [] 0 ≤ 8 → ⊥) × AtMostEight (nodes_after (corner (pos 16384) (pos 0)) [] 0) (corners_after (corner (pos 16384) (pos 0)) [] 0)
start-needs-more = (λ h. omega arith, omega arith)

-- with two records for its three nodes (3,-2) is refused before the first operation, of an empty record
no_room-at-first : NoRoomAfter (corner (pos 3) (negsuc 1)) [] 2 0
no_room-at-first = record { inside = omega arith; before = λ h l. absurd (omega arith); here = omega arith }

-- nothing can be taken back at first
nothing-at-first : Fine 0 4 → ⊥
nothing-at-first f = ⊎_elim (λ h. omega (arith, h.1)) (λ h. omega (arith, h.0)) f

one-to-take : Fine 1 4
one-to-take = inl (refl, omega arith)

-- of two bad digits the second is not the first faulty place
second_of_two : FirstAt 2 (FineAt (5 ∷ 5 ∷ [])) (BadDigitAt (5 ∷ 5 ∷ [])) 1 → ⊥
second_of_two f = ⊎_elim (λ h. omega (arith, h.0)) (λ h. omega (arith, h.0)) (f.before 0 (omega arith))

-- the words of two records, and one word less
two_records : HasRecords (2 * width)
two_records = (2, omega arith, omega arith, refl)

part_of_a_record : HasRecords (2 * width - 1) → ⊥
part_of_a_record x = let e : 2 * width - 1 ≡ x.0 * width = x.3 in omega arith

-- a node that exists need not have been visited: 0011 uses (1,1), the parent of its end, and was never there
pub in_use_unvisited : InUse (corners_from origin (0 ∷ 0 ∷ 1 ∷ 1 ∷ [])) (corner (pos 1) (pos 1)) × (Memᴰ (corner (pos 1) (pos 1)) (corners_from origin (0 ∷ 0 ∷ 1 ∷ 1 ∷ [])) → ⊥)
in_use_unvisited = (
  (corner (pos 2) (pos 2), Memᴰ.tail (Memᴰ.tail (Memᴰ.tail (Memᴰ.tail (Memᴰ.head refl)))), (1, (refl, refl))),
  (λ m. false≢true (mem→any same same_sound same_refl m)),
)

-- nor is a link a walked edge: its step 4 links (1,0) with that node, where nobody walked
pub linked_unwalked : LinkedBy (corners_from origin (0 ∷ 0 ∷ 1 ∷ 1 ∷ [])) (corner (pos 1) (pos 0)) (corner (pos 1) (pos 1)) 4
linked_unwalked = record {
  counted = omega arith;
  within = omega arith;
  level = 1;
  joined = inl ((refl, refl), (refl, refl));
  differ = λ e. stepped_ne 1 (corner (pos 1) (pos 0)) (sym e);
}

-- two steps east from (2,2): the second, from a corner within two levels, changes two records for each of them, and two; along the axis one fewer
six_changed : changes_at (corner (pos 2) (pos 2)) (0 ∷ 0 ∷ []) 1 ≡ 6
six_changed = refl

five-changed : changes_at (corner (pos 2) (pos 0)) (0 ∷ 0 ∷ []) 1 ≡ 5
five-changed = refl

-- the records that the steps of 0011 change: 2, 2, 3 and 5
pub changed_in_all : sum_to 4 (changes_at origin (0 ∷ 0 ∷ 1 ∷ 1 ∷ [])) ≡ 12
changed_in_all = refl
