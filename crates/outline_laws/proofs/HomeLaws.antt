-- The lowest of the leftmost corners: it is visited, no corner comes before it, and no edge west or south of it is walked.
-- Assumes nothing.
use mathlib.Core.Bool.{Bool, true, false, ◌&&◌, true≢false}
use mathlib.Core.List.Memᴰ
use mathlib.Core.List.{List, [], ◌∷◌, Memᴰ}
use mathlib.Core.Logic.{◌⊎◌, inl, inr, ⊎_elim}
use mathlib.Core.Path.{◌≡◌, refl, sym, subst}
use Prim.Native.Nat.{ℕ, zero, suc, ◌<◌}
use native.Mathlib.Omega.{arith}
use lib.IntN.{ℤ, pos, negsuc, pred_ℤ}
use lib.Signed.{◌≤ℤ◌, ◌<ℤ◌, lt_z}
use Rattle.lists.proofs.GatherLaws.{and_left, and_right, or_cases}
use Rattle.lists.proofs.FindLaws.{or_false, bool_agree}
use Rattle.int_laws.proofs.LinearLaws.{zarith, le_or_lt}
use Rattle.int_laws.proofs.RangeLaws.{lt_true, lt_false}
use Rattle.grid.specs.declared.Corner.{Corner}
use Rattle.grid.specs.Grid.{eq_z, stepped, corners_from, Begins}
use Rattle.grid.proofs.CornerLaws.{eq_z_sound, eq_z_refl}
use Rattle.column_laws.proofs.BeginLaws.{begins_both, begins_trans, begins_self}
use Rattle.outline.specs.Outline.{begins_before, home_of, walked}
use Rattle.outline_laws.proofs.EdgeLaws.{walked_visited}

begins_before_begins : (a b : Corner) → begins_before a b ≡ true → Begins a b
begins_before_begins a b h =
    ⊎_elim
    (λ l. inl (lt_true l))
    (λ k. inr (eq_z_sound a.0 b.0 (and_left (eq_z a.0 b.0) (lt_z a.1 b.1) k), below (lt_true (and_right (eq_z a.0 b.0) (lt_z a.1 b.1) k))))
    (or_cases (lt_z a.0 b.0) (eq_z a.0 b.0 && lt_z a.1 b.1) h)
  where
    below : a.1 <ℤ b.1 → a.1 ≤ℤ b.1
    below l = omega zarith

behind_begins : (a b : Corner) → begins_before a b ≡ false → Begins b a
behind_begins a b h =
    let k = or_false (lt_z a.0 b.0) (eq_z a.0 b.0 && lt_z a.1 b.1) h in
    go (lt_false k.0) (le_or_lt a.0 b.0) k.1
  where
    level : a.0 ≡ b.0 → (eq_z a.0 b.0 && lt_z a.1 b.1) ≡ false → b.1 ≤ℤ a.1
    level e f = lt_false (rw (e, eq_z_refl b.0) at f)

    go : b.0 ≤ℤ a.0 → (a.0 ≤ℤ b.0) ⊎ (b.0 <ℤ a.0) → (eq_z a.0 b.0 && lt_z a.1 b.1) ≡ false → Begins b a
    go l (inr m) f = inl m
    go l (inl m) f = let e : a.0 ≡ b.0 = omega zarith in inr (sym e, level e f)

-- of the first corner and the home of the rest, the home
lower : (c : Corner) (d : ℕ) (ds : List ℕ)
    → ((home_of c (d ∷ ds) ≡ home_of (stepped d c) ds) × Begins (home_of (stepped d c) ds) c) ⊎ ((home_of c (d ∷ ds) ≡ c) × Begins c (home_of (stepped d c) ds))
lower c d ds = go (begins_before (home_of (stepped d c) ds) c) refl
  where
    go : (b : Bool) → begins_before (home_of (stepped d c) ds) c ≡ b
        → ((home_of c (d ∷ ds) ≡ home_of (stepped d c) ds) × Begins (home_of (stepped d c) ds) c) ⊎ ((home_of c (d ∷ ds) ≡ c) × Begins c (home_of (stepped d c) ds))
    go true e = inl (rw (e, home_of), begins_before_begins (home_of (stepped d c) ds) c e)
    go false e = inr (rw (e, home_of), behind_begins (home_of (stepped d c) ds) c e)

pub home_visited : (c : Corner) (ds : List ℕ) → Memᴰ (home_of c ds) (corners_from c ds)
home_visited c [] = Memᴰ.head refl
home_visited c (d ∷ ds) =
    ⊎_elim
    (λ h. subst (λ (x : Corner). Memᴰ x (corners_from c (d ∷ ds))) (sym h.0) (Memᴰ.tail (home_visited (stepped d c) ds)))
    (λ h. subst (λ (x : Corner). Memᴰ x (corners_from c (d ∷ ds))) (sym h.0) (Memᴰ.head refl))
    (lower c d ds)

pub home_least : (c : Corner) (ds : List ℕ) (q : Corner) → Memᴰ q (corners_from c ds) → Begins (home_of c ds) q
home_least c [] q m = subst (Begins c) (sym (Memᴰ.eq_of_singleton m)) (begins_self c)
home_least c (d ∷ ds) q m =
    ⊎_elim
    (λ h. subst (λ (x : Corner). Begins x q) (sym h.0) (⊎_elim (λ e. subst (Begins (home_of (stepped d c) ds)) (sym e) h.1) (home_least (stepped d c) ds q) (Memᴰ.cases_cons m)))
    (λ h. subst (λ (x : Corner). Begins x q) (sym h.0) (⊎_elim (λ e. subst (Begins c) (sym e) (begins_self c)) (λ t. begins_trans c (home_of (stepped d c) ds) q h.1 (home_least (stepped d c) ds q t)) (Memᴰ.cases_cons m)))
    (lower c d ds)

-- it is the only corner that has both
pub home_one : (c : Corner) (ds : List ℕ) (h : Corner) → Memᴰ h (corners_from c ds) → ((q : Corner) → Memᴰ q (corners_from c ds) → Begins h q) → home_of c ds ≡ h
home_one c ds h m f = begins_both (home_of c ds) h (home_least c ds h m) (f (home_of c ds) (home_visited c ds))

pred_less : (z : ℤ) → z ≤ℤ pred_ℤ z → ⊥
pred_less (pos zero) l = l.le
pred_less (pos (suc n)) l = omega zarith
pred_less (negsuc n) l = omega zarith

before_home : (c : Corner) (d : ℕ) → 1 < d → Begins c (stepped d c) → ⊥
before_home c zero h b = omega arith
before_home c (suc zero) h b = omega arith
before_home c (suc (suc zero)) h (inl l) = pred_less c.0 (omega zarith)
before_home c (suc (suc zero)) h (inr l) = pred_less c.0 (omega (zarith, l.0))
before_home c (suc (suc (suc d))) h (inl l) = pred_less c.0 (omega zarith)
before_home c (suc (suc (suc d))) h (inr l) = pred_less c.1 l.1

-- its walked edges lead east and north
pub home_ways : (c : Corner) (ds : List ℕ) (d : ℕ) → 1 < d → walked c ds (home_of c ds) d ≡ false
home_ways c ds d h = bool_agree (walked c ds (home_of c ds) d) false (λ w. absurd (before_home (home_of c ds) d h (home_least c ds (stepped d (home_of c ds)) (walked_visited c ds (home_of c ds) d w).1))) (λ e. absurd (true≢false (sym e)))
