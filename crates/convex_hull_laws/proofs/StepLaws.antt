-- Steps of a walk by their places, the steps by which it rises over a line, and the step that lies beyond a panel inside.
-- Assumes nothing.
use mathlib.Core.Bool.{Bool, true, false}
use mathlib.Core.List.{List, [], ◌∷◌, ◌++◌, Memᴰ}
use mathlib.Core.Logic.{◌⊎◌, inl, inr, ⊎_elim}
use mathlib.Core.Path.{◌≡◌, refl, sym, ap₂, subst}
use Prim.Native.Nat.{ℕ, zero, suc, ◌+◌, ◌<◌}
use native.Mathlib.Omega.{arith}
use lib.IntN.{ℤ, pos, suc_ℤ, pred_ℤ, nat_abs, pred-suc, ◌+ℤ◌, ◌-ℤ◌}
use lib.ListN.{length, get_or}
use lib.Signed.{◌<ℤ◌, ◌≤ℤ◌}
use Rattle.int_laws.proofs.LinearLaws.{zarith, bal+, bal-, le_or_lt}
use Rattle.int_laws.proofs.RangeLaws.{abs_nat}
use Rattle.int_laws.proofs.NextLaws.{bal_suc, bal_pred}
use Rattle.lists.specs.Lists.{Below}
use Rattle.grid.specs.declared.{Corner.Corner}
use Rattle.grid.specs.Grid.{corner, panel_at, stepped, corners_from, end_from, corner_at, legs_from, back}
use Rattle.grid.proofs.StepLaws.{back_small, stepped-back}
use Rattle.panels.specs.Box.{box_of}
use Rattle.panels.specs.Inside.{Inside, left_of, right_of, EachStep, InsideRight}
use Rattle.room_laws.proofs.CornerLaws.{right-back}
use Rattle.room_laws.proofs.InsideLaws.{inside_held}
use Rattle.outline.specs.Outline.{walked}
use Rattle.outline_laws.proofs.EdgeLaws.{walked_edge, edge_walked, walked_visited}
use Rattle.outline_room_laws.proofs.OutsideLaws.{inside-same}
use Rattle.outline_room_laws.proofs.SideLaws.{each_edge}

-- step d of a walk at place k leaves the corner p
pub record StepsAt (c : Corner) (ds : List ℕ) (d : ℕ) (p : Corner) (k : ℕ) : Type 0 where
  pub within : k < length ds
  pub way : get_or ds k 0 ≡ d
  pub from : corner_at c ds k ≡ p

pub steps-later : (c : Corner) (e : ℕ) (ds : List ℕ) {d : ℕ} {p : Corner} {k : ℕ} → StepsAt (stepped e c) ds d p k → StepsAt c (e ∷ ds) d p (suc k)
steps-later c e ds s = record { within = omega (arith, s.within); way = s.way; from = s.from }

steps_tail : (c : Corner) (e : ℕ) (ds : List ℕ) {d : ℕ} {p : Corner} {k : ℕ} → StepsAt c (e ∷ ds) d p (suc k) → StepsAt (stepped e c) ds d p k
steps_tail c e ds s = record { within = omega (arith, s.within); way = s.way; from = s.from }

pub steps-left : (c : Corner) (u v : List ℕ) (d : ℕ) (p : Corner) (k : ℕ) → StepsAt c u d p k → StepsAt c (u ++ v) d p k
steps-left c [] v d p k s = absurd (omega (arith, s.within))
steps-left c (e ∷ u) v d p zero s = record { within = omega arith; way = s.way; from = s.from }
steps-left c (e ∷ u) v d p (suc k) s = steps-later c e (u ++ v) (steps-left (stepped e c) u v d p k (steps_tail c e u s))

pub steps-right : (c : Corner) (u v : List ℕ) (d : ℕ) (p : Corner) (k : ℕ) → StepsAt (end_from c u) v d p k → (j : ℕ) × (j ≡ length u + k) × StepsAt c (u ++ v) d p j
steps-right c [] v d p k s = (k, omega arith, s)
steps-right c (e ∷ u) v d p k s = let r = steps-right (stepped e c) u v d p k s in (suc r.0, omega (arith, r.1), steps-later c e (u ++ v) r.2)

-- both ends of a step are corners of the walk
pub steps_visited : (c : Corner) (ds : List ℕ) (d : ℕ) (p : Corner) (k : ℕ) → StepsAt c ds d p k → Memᴰ p (corners_from c ds) × Memᴰ (stepped d p) (corners_from c ds)
steps_visited c [] d p k s = absurd (omega (arith, s.within))
steps_visited c (e ∷ ds) d p zero s = (Memᴰ.head (sym s.from), Memᴰ.tail (Memᴰ.head (sym (ap₂ stepped s.way s.from))))
steps_visited c (e ∷ ds) d p (suc k) s = let r = steps_visited (stepped e c) ds d p k (steps_tail c e ds s) in (Memᴰ.tail r.0, Memᴰ.tail r.1)

pub leg_visited : (c : Corner) (ds : List ℕ) (d : ℕ) (p : Corner) → Memᴰ (p, stepped d p) (legs_from c ds) → Memᴰ p (corners_from c ds)
leg_visited c ds d p m = (walked_visited c ds p d (edge_walked c ds p d (inl m))).0

-- what holds of each step holds of the step at a place
pub each_place : (P : ℕ → Corner → Type 0) (c : Corner) (ds : List ℕ) → EachStep P c ds → (d : ℕ) (p : Corner) (k : ℕ) → StepsAt c ds d p k → P d p
each_place P c [] f d p k s = absurd (omega (arith, s.within))
each_place P c (e ∷ ds) f d p zero s = subst (λ (x : ℕ). P x p) s.way (subst (P e) s.from f.0)
each_place P c (e ∷ ds) f d p (suc k) s = each_place P (stepped e c) ds f.1 d p k (steps_tail c e ds s)

-- a walk that comes from below a line, or from it, to above it has a step that leaves the line upwards
module _ (f : Corner → ℤ) (up : ℕ) (climbs : (d : ℕ) (c : Corner) → ((d ≡ up) × (f (stepped d c) ≡ suc_ℤ (f c))) ⊎ (f (stepped d c) ≤ℤ f c)) where
  pub rises_over : (z : ℤ) (c : Corner) (ds : List ℕ) → f c ≤ℤ z → z <ℤ f (end_from c ds) → (p : Corner) × (k : ℕ) × (f p ≡ z) × StepsAt c ds up p k
  rises_over z c [] l h = absurd (omega (zarith, l, h))
  rises_over z c (d ∷ ds) l h = go (climbs d c) (le_or_lt (f (stepped d c)) z) (λ m. rises_over z (stepped d c) ds m h)
    where
      go : ((d ≡ up) × (f (stepped d c) ≡ suc_ℤ (f c))) ⊎ (f (stepped d c) ≤ℤ f c) → (f (stepped d c) ≤ℤ z) ⊎ (z <ℤ f (stepped d c)) → (f (stepped d c) ≤ℤ z → (p : Corner) × (k : ℕ) × (f p ≡ z) × StepsAt (stepped d c) ds up p k) → (p : Corner) × (k : ℕ) × (f p ≡ z) × StepsAt c (d ∷ ds) up p k
      go e (inl m) more = let r = more m in (r.0, suc r.1, r.2, steps-later c d ds r.3)
      go (inl e) (inr m) more = (c, 0, omega (zarith, l, m, e.1, bal_suc (f c)), record { within = omega arith; way = e.0; from = refl })
      go (inr e) (inr m) more = absurd (omega (zarith, e, l, m))

pub climbs_north : (d : ℕ) (c : Corner) → ((d ≡ 1) × ((stepped d c).1 ≡ suc_ℤ c.1)) ⊎ ((stepped d c).1 ≤ℤ c.1)
climbs_north zero c = inr (omega zarith)
climbs_north (suc zero) c = inl (refl, refl)
climbs_north (suc (suc zero)) c = inr (omega zarith)
climbs_north (suc (suc (suc d))) c = inr (omega (zarith, bal_pred c.1))

pub climbs_east : (d : ℕ) (c : Corner) → ((d ≡ 0) × ((stepped d c).0 ≡ suc_ℤ c.0)) ⊎ ((stepped d c).0 ≤ℤ c.0)
climbs_east zero c = inl (refl, refl)
climbs_east (suc zero) c = inr (omega zarith)
climbs_east (suc (suc zero)) c = inr (omega (zarith, bal_pred c.0))
climbs_east (suc (suc (suc d))) c = inr (omega zarith)

-- a walk that has its inside on the right of each step
module _ (c : Corner) (ds : List ℕ) (closed : end_from c ds ≡ c) (below : Below 4 ds) (right : InsideRight c ds) where
  -- a walked edge beside a panel inside is walked with that panel on the right
  on_right : (d : ℕ) → d < 4 → (v : Corner) → Inside c ds (right_of d v) → walked c ds v d ≡ true → Memᴰ (v, stepped d v) (legs_from c ds)
  on_right d h v i w = ⊎_elim (λ m. m) (λ m. absurd (against m)) (walked_edge c ds v d w)
    where
      against : Memᴰ (stepped d v, v) (legs_from c ds) → ⊥
      against m = (each_edge (λ d q. Inside c ds (right_of d q) × (Inside c ds (left_of d q) → ⊥)) c ds below right (stepped d v) (back d) (back_small d)
          (subst (λ (x : Corner). Memᴰ (stepped d v, x) (legs_from c ds)) (sym (stepped-back d v)) m)).1
          (subst (Inside c ds) (sym (right-back d v)) i)

  -- west of a panel inside there is a step north, in its row
  west_from_lem : (n : ℕ) (v : Corner) → Inside c ds (panel_at v) → v.0 <ℤ ((box_of c ds).west +ℤ pos n) → (q : Corner) × (q.0 ≤ℤ v.0) × (q.1 ≡ v.1) × Memᴰ (q, stepped 1 q) (legs_from c ds)
  west_from_lem zero v i l = absurd (omega (zarith, l, (inside_held c ds closed (panel_at v) i).west, bal+ (box_of c ds).west (pos 0)))
  west_from_lem (suc n) v i l = go (walked c ds v 1) refl (λ j. west_from_lem n (stepped 2 v) j (omega (zarith, l, bal_pred v.0, bal+ (box_of c ds).west (pos n), bal+ (box_of c ds).west (pos (suc n)))))
    where
      go : (t : Bool) → walked c ds v 1 ≡ t → (Inside c ds (panel_at (stepped 2 v)) → (q : Corner) × (q.0 ≤ℤ (stepped 2 v).0) × (q.1 ≡ v.1) × Memᴰ (q, stepped 1 q) (legs_from c ds)) → (q : Corner) × (q.0 ≤ℤ v.0) × (q.1 ≡ v.1) × Memᴰ (q, stepped 1 q) (legs_from c ds)
      go true w more = (v, omega zarith, refl, on_right 1 (omega arith) v i w)
      go false w more = let r = more ((inside-same c ds closed 1 v w).0 i) in (r.0, omega (zarith, r.1, bal_pred v.0), r.2, r.3)

  pub west_step : (v : Corner) → Inside c ds (panel_at v) → (q : Corner) × (q.0 ≤ℤ v.0) × (q.1 ≡ v.1) × Memᴰ (q, stepped 1 q) (legs_from c ds)
  west_step v i = west_from_lem (nat_abs (v.0 -ℤ (box_of c ds).west) + 1) v i (omega (zarith, bal- v.0 (box_of c ds).west, bal+ (box_of c ds).west (pos (nat_abs (v.0 -ℤ (box_of c ds).west) + 1)), abs_nat (v.0 -ℤ (box_of c ds).west)))

  -- north of it there is a step east, in its column
  north-from : (n : ℕ) (v : Corner) → Inside c ds (right_of 0 v) → (box_of c ds).north ≤ℤ (pred_ℤ v.1 +ℤ pos n) → (q : Corner) × (q.0 ≡ v.0) × (v.1 ≤ℤ q.1) × Memᴰ (q, stepped 0 q) (legs_from c ds)
  north-from zero v i l = absurd (omega (zarith, l, (inside_held c ds closed (right_of 0 v) i).north, bal+ (pred_ℤ v.1) (pos 0)))
  north-from (suc n) v i l = go (walked c ds v 0) refl (λ j. north-from n (stepped 1 v) j (omega (zarith, l, bal_suc v.1, bal_pred v.1, bal_pred (suc_ℤ v.1), bal+ (pred_ℤ v.1) (pos (suc n)), bal+ (pred_ℤ (suc_ℤ v.1)) (pos n))))
    where
      go : (t : Bool) → walked c ds v 0 ≡ t → (Inside c ds (right_of 0 (stepped 1 v)) → (q : Corner) × (q.0 ≡ v.0) × ((stepped 1 v).1 ≤ℤ q.1) × Memᴰ (q, stepped 0 q) (legs_from c ds)) → (q : Corner) × (q.0 ≡ v.0) × (v.1 ≤ℤ q.1) × Memᴰ (q, stepped 0 q) (legs_from c ds)
      go true w more = (v, refl, omega zarith, on_right 0 (omega arith) v i w)
      go false w more = let r = more (subst (λ (y : ℤ). Inside c ds (panel_at (corner v.0 y))) (sym (pred-suc v.1)) ((inside-same c ds closed 0 v w).0 i)) in (r.0, r.1, omega (zarith, r.2, bal_suc v.1), r.3)

  pub north_step : (v : Corner) → Inside c ds (right_of 0 v) → (q : Corner) × (q.0 ≡ v.0) × (v.1 ≤ℤ q.1) × Memᴰ (q, stepped 0 q) (legs_from c ds)
  north_step v i = north-from (nat_abs ((box_of c ds).north -ℤ pred_ℤ v.1)) v i (omega (zarith, bal- (box_of c ds).north (pred_ℤ v.1), bal+ (pred_ℤ v.1) (pos (nat_abs ((box_of c ds).north -ℤ pred_ℤ v.1))), abs_nat ((box_of c ds).north -ℤ pred_ℤ v.1)))
