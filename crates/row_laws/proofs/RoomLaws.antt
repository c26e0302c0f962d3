-- In a room every vertical edge is walked once.
-- Assumes nothing.
use mathlib.Core.Bool.{Bool}
use mathlib.Core.List.Memᴰ
use mathlib.Core.List.{List, [], ◌∷◌, ◌++◌, Memᴰ}
use mathlib.Core.Logic.{◌⊎◌, inl, inr, ⊎_elim}
use mathlib.Core.Path.{◌≡◌, refl, ap, sym, ◌∙◌}
use Prim.Native.Nat.{ℕ, zero, suc}
use native.Mathlib.Omega.{arith}
use Rattle.lists.specs.Lists.{count, Distinct}
use Rattle.lists.proofs.FindLaws.{count-append}
use Rattle.grid.specs.declared.Corner.{Corner}
use Rattle.grid.specs.Grid.{stepped, corners_from}
use Rattle.grid.proofs.{StepLaws.stepped-back, StepLaws.stepped_ne, StepLaws.start_from_mem}
use Rattle.trace.specs.Verdict.{IsRoom}
use Rattle.trace.proofs.VisitLaws.{room_distinct}
use Rattle.panels.specs.{Edges.edge_of, Edges.edges_from}

-- the lower end of the edge that a step walks, if it is vertical
abbrev pub foot_of : ℕ → Corner → List Corner
foot_of zero c = []
foot_of (suc zero) c = c ∷ []
foot_of (suc (suc zero)) c = []
foot_of (suc (suc (suc d))) c = stepped 3 c ∷ []

-- the lower ends of a walk's vertical edges, in its order
abbrev pub feet_from : Corner → List ℕ → List Corner
feet_from c [] = []
feet_from c (d ∷ ds) = foot_of d c ++ feet_from (stepped d c) ds

pub count_feet : (t : Corner → Bool) (c : Corner) (ds : List ℕ) → count t (feet_from c ds) ≡ count (λ e. t e.foot) (edges_from c ds)
count_feet t c [] = refl
count_feet t c (d ∷ ds) =
    omega (arith, count-append t (foot_of d c) (feet_from (stepped d c) ds), count-append (λ e. t e.foot) (edge_of d c) (edges_from (stepped d c) ds), by d, count_feet t (stepped d c) ds)
  where
    by : (d : ℕ) → count t (foot_of d c) ≡ count (λ e. t e.foot) (edge_of d c)
    by zero = refl
    by (suc zero) = refl
    by (suc (suc zero)) = refl
    by (suc (suc (suc d))) = refl

-- the two ends of the edge with lower end q are a and b
abbrev Ends : Corner → Corner → Corner → Type 0
Ends a b q = ((q ≡ a) × (stepped 1 q ≡ b)) ⊎ ((q ≡ b) × (stepped 1 q ≡ a))

foot_ends : (d : ℕ) (c q : Corner) → Memᴰ q (foot_of d c) → Ends c (stepped d c) q
foot_ends zero c q m = absurd (Memᴰ.not-nil m)
foot_ends (suc zero) c q m = let e = Memᴰ.eq_of_singleton m in inl (e, ap (stepped 1) e)
foot_ends (suc (suc zero)) c q m = absurd (Memᴰ.not-nil m)
foot_ends (suc (suc (suc d))) c q m = let e = Memᴰ.eq_of_singleton m in inr (e, ap (stepped 1) e ∙ stepped-back 3 c)

-- the ends of an edge are in a list if both that they are said to be are, and the other way
both_in : {l : List Corner} (a b q : Corner) → Ends a b q → Memᴰ a l → Memᴰ b l → Memᴰ q l × Memᴰ (stepped 1 q) l
both_in a b q (inl h) m n = (Memᴰ.cast h.0 m, Memᴰ.cast h.1 n)
both_in a b q (inr h) m n = (Memᴰ.cast h.0 n, Memᴰ.cast h.1 m)

in_both : {l : List Corner} (a b q : Corner) → Ends a b q → Memᴰ q l × Memᴰ (stepped 1 q) l → Memᴰ a l × Memᴰ b l
in_both a b q (inl h) m = (Memᴰ.cast (sym h.0) m.0, Memᴰ.cast (sym h.1) m.1)
in_both a b q (inr h) m = (Memᴰ.cast (sym h.1) m.1, Memᴰ.cast (sym h.0) m.0)

-- both ends of a walked edge are corners of the walk
feet_corners : (c : Corner) (ds : List ℕ) (q : Corner) → Memᴰ q (feet_from c ds) → Memᴰ q (corners_from c ds) × Memᴰ (stepped 1 q) (corners_from c ds)
feet_corners c [] q m = absurd (Memᴰ.not-nil m)
feet_corners c (d ∷ ds) q m =
    ⊎_elim
    (λ n. both_in c (stepped d c) q (foot_ends d c q n) (Memᴰ.head refl) (Memᴰ.tail (start_from_mem (stepped d c) ds)))
    (λ n. let h = feet_corners (stepped d c) ds q n in (Memᴰ.tail h.0, Memᴰ.tail h.1))
    (Memᴰ.append_cases (foot_of d c) m)

distinct_foot : (d : ℕ) (c : Corner) (l : List Corner) → ((q : Corner) → Memᴰ q (foot_of d c) → Memᴰ q l → ⊥) → Distinct l → Distinct (foot_of d c ++ l)
distinct_foot zero c l h g = g
distinct_foot (suc zero) c l h g = (h c (Memᴰ.head refl), g)
distinct_foot (suc (suc zero)) c l h g = g
distinct_foot (suc (suc (suc d))) c l h g = (h (stepped 3 c) (Memᴰ.head refl), g)

-- a walk that meets no corner twice walks no edge twice
feet_distinct : (c : Corner) (ds : List ℕ) → Distinct (corners_from c ds) → Distinct (feet_from c ds)
feet_distinct c [] h = tt
feet_distinct c (d ∷ ds) h =
    distinct_foot d c (feet_from (stepped d c) ds) (λ q m n. h.0 (in_both c (stepped d c) q (foot_ends d c q m) (feet_corners (stepped d c) ds q n)).0) (feet_distinct (stepped d c) ds h.1)

-- two steps over one edge: there and back
there_back : (d e : ℕ) (c q : Corner) → Ends c (stepped d c) q → Ends (stepped d c) (stepped e (stepped d c)) q → stepped e (stepped d c) ≡ c
there_back d e c q (inl h) (inl g) = absurd (stepped_ne d c (sym g.0 ∙ h.0))
there_back d e c q (inl h) (inr g) = sym g.0 ∙ h.0
there_back d e c q (inr h) (inl g) = sym g.1 ∙ h.1
there_back d e c q (inr h) (inr g) = absurd (stepped_ne d c (sym g.1 ∙ h.1))

pub room_feet : (c : Corner) (ds : List ℕ) → IsRoom c ds → Distinct (feet_from c ds)
room_feet c [] r = tt
room_feet c (d ∷ []) r = absurd (omega (arith, r.four))
room_feet c (d ∷ e ∷ ds) r = distinct_foot d c (feet_from c1 (e ∷ ds)) once (feet_distinct c1 (e ∷ ds) (room_distinct c d (e ∷ ds) r))
  where
    c1 : Corner
    c1 = stepped d c

    back : stepped e (stepped d c) ≡ c → ⊥
    back k = omega (arith, r.four, (r.only 0 2 (record { earlier = omega arith; within = omega (arith, r.four); equal = sym k })).1)

    once : (q : Corner) → Memᴰ q (foot_of d c) → Memᴰ q (feet_from (stepped d c) (e ∷ ds)) → ⊥
    once q m n =
        ⊎_elim
        (λ k. back (there_back d e c q (foot_ends d c q m) (foot_ends e (stepped d c) q k)))
        (λ k. (room_distinct c d (e ∷ ds) r).0 (in_both c (stepped d c) q (foot_ends d c q m) (feet_corners (stepped e (stepped d c)) ds q k)).1)
        (Memᴰ.append_cases (foot_of e (stepped d c)) n)
