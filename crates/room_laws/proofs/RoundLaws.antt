-- A closed walk from its next corner has the same edges, so the surplus is one on the left of all its steps and one on the right.
-- Assumes nothing.
use mathlib.Core.Bool.{Bool}
use mathlib.Core.List.{List, [], ◌∷◌, ◌++◌, append_assoc, append-nil}
use mathlib.Core.Path.{◌≡◌, refl, ap, ap₂, sym, ◌∙◌, subst}
use Prim.Native.Nat.{ℕ, ◌+◌, ◌<◌}
use native.Mathlib.Omega.{arith}
use lib.IntN.{ℤ, pos, suc_ℤ, ◌-ℤ◌}
use lib.ListN.{length, length-append}
use Rattle.int_laws.proofs.NextLaws.{sucℤ_one}
use Rattle.lists.specs.Lists.{count, Distinct}
use Rattle.lists.proofs.FindLaws.{count-append}
use Rattle.lists.proofs.GatherLaws.{distinct_snoc}
use Rattle.grid.specs.declared.{Corner.Corner, Panel.Panel}
use Rattle.grid.specs.Grid.{stepped, corners_from, end_from}
use Rattle.grid.proofs.StepLaws.{corners_from_snoc, end_from_snoc}
use Rattle.panels.specs.Edges.{Edge, edge_of, edges_from, surplus_of}
use Rattle.panels.specs.Inside.{left_of, right_of, EachStep}
use Rattle.room_laws.proofs.CornerLaws.{Round, left-left, left-right}

count_snoc : (f : Edge → Bool) (c : Corner) (ds : List ℕ) (a : ℕ) → count f (edges_from c (ds ++ (a ∷ []))) ≡ count f (edges_from c ds) + count f (edge_of a (end_from c ds))
count_snoc f c [] a = omega (arith, count-append f (edge_of a c) [])
count_snoc f c (d ∷ ds) a = omega (arith, count-append f (edge_of d c) (edges_from (stepped d c) ds), count-append f (edge_of d c) (edges_from (stepped d c) (ds ++ (a ∷ []))), count_snoc f (stepped d c) ds a)

-- the first step may be walked last
count_rotated : (f : Edge → Bool) (c : Corner) (a : ℕ) (ds : List ℕ) → end_from (stepped a c) ds ≡ c → count f (edges_from (stepped a c) (ds ++ (a ∷ []))) ≡ count f (edges_from c (a ∷ ds))
count_rotated f c a ds h = omega (arith, count_snoc f (stepped a c) ds a, ap (λ (q : Corner). count f (edge_of a q)) h, count-append f (edge_of a c) (edges_from (stepped a c) ds))

surplus_rotated : (c : Corner) (a : ℕ) (ds : List ℕ) → end_from (stepped a c) ds ≡ c → (p : Panel) → surplus_of (stepped a c) (ds ++ (a ∷ [])) p ≡ surplus_of c (a ∷ ds) p
surplus_rotated c a ds h p = ap₂ (λ (n s : ℕ). pos n -ℤ pos s) (count_rotated _ c a ds h) (count_rotated _ c a ds h)

round_rotated : (c : Corner) (a b : ℕ) (ds : List ℕ) → Round c a (b ∷ ds) → Round (stepped a c) b (ds ++ (a ∷ []))
round_rotated c a b ds r =
    let v = stepped b (stepped a c) in
    let e : stepped a (end_from v ds) ≡ stepped a c = ap (stepped a) r.closed in
    record {
      closed = end_from_snoc v ds a ∙ e;
      once = subst Distinct (sym (corners_from_snoc v ds a ∙ ap (λ (q : Corner). corners_from v ds ++ (q ∷ [])) e)) (distinct_snoc (corners_from v ds) (stepped a c) r.once.1 r.once.0);
    }

-- every step of the walk has a panel of value z on its right, and one of one more on its left
abbrev pub Sided : (Panel → ℤ) → ℤ → Corner → List ℕ → Type 0
Sided W z c ds = EachStep (λ d q. (W (right_of d q) ≡ z) × (W (left_of d q) ≡ suc_ℤ z)) c ds

-- W is the surplus of a walk of more than two steps
record Runs (W : Panel → ℤ) (c : Corner) (a : ℕ) (ds : List ℕ) : Type 0 where
  pub round : Round c a ds
  pub long : 1 < length ds
  pub surplus : (p : Panel) → surplus_of c (a ∷ ds) p ≡ W p

module _ (W : Panel → ℤ) where
  runs_rotated : (c : Corner) (a b : ℕ) (ds : List ℕ) → Runs W c a (b ∷ ds) → Runs W (stepped a c) b (ds ++ (a ∷ []))
  runs_rotated c a b ds r =
      record { round = round_rotated c a b ds r.round; long = omega (arith, r.long, length-append ds (a ∷ [])); surplus = λ p. surplus_rotated c a (b ∷ ds) r.round.closed p ∙ r.surplus p }

  right_of_lem : (z : ℤ) (c : Corner) (a : ℕ) (ds : List ℕ) → Runs W c a ds → W (left_of a c) ≡ suc_ℤ z → W (right_of a c) ≡ z
  right_of_lem z c a ds r e =
      sucℤ_one (W (right_of a c)) z (ap suc_ℤ (sym (r.surplus (right_of a c))) ∙ sym (left-right c a ds r.round r.long) ∙ r.surplus (left_of a c) ∙ e)

  left_of_lem : (c : Corner) (a b : ℕ) (ds : List ℕ) → Runs W c a (b ∷ ds) → W (left_of b (stepped a c)) ≡ W (left_of a c)
  left_of_lem c a b ds r = sym (r.surplus (left_of b (stepped a c))) ∙ left-left c a b ds r.round (omega (arith, r.long)) ∙ r.surplus (left_of a c)

  -- the steps `done` were walked before, and are walked again after the others
  sided-from : (z : ℤ) (c : Corner) (a : ℕ) (ds done : List ℕ) → Runs W c a (ds ++ done) → W (left_of a c) ≡ suc_ℤ z → Sided W z c (a ∷ ds)
  sided-from z c a [] done r e = ((right_of_lem z c a done r e, e), tt)
  sided-from z c a (b ∷ ds) done r e = (
    (right_of_lem z c a (b ∷ (ds ++ done)) r e, e),
    sided-from z (stepped a c) b ds (done ++ (a ∷ []))
        (subst (Runs W (stepped a c) b) (append_assoc ds done (a ∷ [])) (runs_rotated c a b (ds ++ done) r))
        (left_of_lem c a b (ds ++ done) r ∙ e),
  )

-- all left panels of a round have one surplus, and all right panels one less
pub round-sided : (c : Corner) (d : ℕ) (ds : List ℕ) → Round c d ds → 1 < length ds → Sided (surplus_of c (d ∷ ds)) (surplus_of c (d ∷ ds) (right_of d c)) c (d ∷ ds)
round-sided c d ds r l =
    let W = surplus_of c (d ∷ ds) in
    sided-from W (W (right_of d c)) c d ds [] (subst (Runs W c d) (sym (append-nil ds)) (record { round = r; long = l; surplus = λ p. refl })) (left-right c d ds r l)
