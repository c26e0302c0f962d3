-- Directions: the way back, and that a corner's four neighbours differ from it and from one another; one step more at the end of a walk.
-- Assumes nothing.
use mathlib.Core.List.{List, [], ◌∷◌, ◌++◌, Memᴰ}
use mathlib.Core.Path.{◌≡◌, refl, ap, sym, ◌∙◌}
use Prim.Native.Nat.{ℕ, zero, suc, ◌+◌, ◌<◌, ◌≤◌, ◌%◌}
use native.Mathlib.Omega.{arith}
use lib.IntN.{ℤ, pos, negsuc, nat_abs, suc_ℤ, pred_ℤ, suc-pred, pred-suc, pos-ne-negsuc}
use lib.ListN.{length, get_or}
use lib.Seq.{take-length}
use Rattle.grid.specs.declared.Corner.{Corner}
use Rattle.grid.specs.Grid.{corner, stepped, back, corners_from, end_from, corner_at}

pub back-mod : (d : ℕ) → d < 4 → back d ≡ (d + 2) % 4
back-mod zero h = refl
back-mod (suc zero) h = refl
back-mod (suc (suc zero)) h = refl
back-mod (suc (suc (suc zero))) h = refl
back-mod (suc (suc (suc (suc d)))) h = absurd (omega arith)

pub back_small : (d : ℕ) → back d < 4
back_small zero = omega arith
back_small (suc zero) = omega arith
back_small (suc (suc zero)) = omega arith
back_small (suc (suc (suc d))) = omega arith

pub back-back : (d : ℕ) → d < 4 → back (back d) ≡ d
back-back zero h = refl
back-back (suc zero) h = refl
back-back (suc (suc zero)) h = refl
back-back (suc (suc (suc zero))) h = refl
back-back (suc (suc (suc (suc d)))) h = absurd (omega arith)

pub stepped-back : (d : ℕ) (c : Corner) → stepped (back d) (stepped d c) ≡ c
stepped-back zero c = ap (λ (x : ℤ). corner x c.1) (pred-suc c.0)
stepped-back (suc zero) c = ap (corner c.0) (pred-suc c.1)
stepped-back (suc (suc zero)) c = ap (λ (x : ℤ). corner x c.1) (suc-pred c.0)
stepped-back (suc (suc (suc d))) c = ap (corner c.0) (suc-pred c.1)

suc_ne : (z : ℤ) → suc_ℤ z ≡ z → ⊥
suc_ne (pos n) e = omega (arith, ap nat_abs e)
suc_ne (negsuc zero) e = pos-ne-negsuc 0 0 e
suc_ne (negsuc (suc n)) e = omega (arith, ap nat_abs e)

pred_ne : (z : ℤ) → pred_ℤ z ≡ z → ⊥
pred_ne z e = suc_ne z (ap suc_ℤ (sym e) ∙ suc-pred z)

suc_pred_ne : (z : ℤ) → suc_ℤ z ≡ pred_ℤ z → ⊥
suc_pred_ne (pos zero) e = pos-ne-negsuc 1 0 e
suc_pred_ne (pos (suc n)) e = omega (arith, ap nat_abs e)
suc_pred_ne (negsuc zero) e = pos-ne-negsuc 0 1 e
suc_pred_ne (negsuc (suc n)) e = omega (arith, ap nat_abs e)

x_of_lem : {a b : Corner} → a ≡ b → a.0 ≡ b.0
x_of_lem e = ap (λ (c : Corner). c.0) e

y_of : {a b : Corner} → a ≡ b → a.1 ≡ b.1
y_of e = ap (λ (c : Corner). c.1) e

pub stepped_ne : (d : ℕ) (c : Corner) → stepped d c ≡ c → ⊥
stepped_ne zero c e = suc_ne c.0 (x_of_lem e)
stepped_ne (suc zero) c e = suc_ne c.1 (y_of e)
stepped_ne (suc (suc zero)) c e = pred_ne c.0 (x_of_lem e)
stepped_ne (suc (suc (suc d))) c e = pred_ne c.1 (y_of e)

pub stepped_inj : (k d : ℕ) (c : Corner) → k < 4 → d < 4 → stepped k c ≡ stepped d c → k ≡ d
stepped_inj zero zero c h i e = refl
stepped_inj zero (suc zero) c h i e = absurd (suc_ne c.0 (x_of_lem e))
stepped_inj zero (suc (suc zero)) c h i e = absurd (suc_pred_ne c.0 (x_of_lem e))
stepped_inj zero (suc (suc (suc d))) c h i e = absurd (suc_ne c.0 (x_of_lem e))
stepped_inj (suc zero) zero c h i e = absurd (suc_ne c.1 (y_of e))
stepped_inj (suc zero) (suc zero) c h i e = refl
stepped_inj (suc zero) (suc (suc zero)) c h i e = absurd (suc_ne c.1 (y_of e))
stepped_inj (suc zero) (suc (suc (suc d))) c h i e = absurd (suc_pred_ne c.1 (y_of e))
stepped_inj (suc (suc zero)) zero c h i e = absurd (suc_pred_ne c.0 (sym (x_of_lem e)))
stepped_inj (suc (suc zero)) (suc zero) c h i e = absurd (pred_ne c.0 (x_of_lem e))
stepped_inj (suc (suc zero)) (suc (suc zero)) c h i e = refl
stepped_inj (suc (suc zero)) (suc (suc (suc d))) c h i e = absurd (pred_ne c.0 (x_of_lem e))
stepped_inj (suc (suc (suc k))) zero c h i e = absurd (pred_ne c.1 (y_of e))
stepped_inj (suc (suc (suc k))) (suc zero) c h i e = absurd (suc_pred_ne c.1 (sym (y_of e)))
stepped_inj (suc (suc (suc k))) (suc (suc zero)) c h i e = absurd (pred_ne c.1 (y_of e))
stepped_inj (suc (suc (suc k))) (suc (suc (suc d))) c h i e = omega arith

-- one step more at the end
pub corners_from_snoc : (c : Corner) (s : List ℕ) (d : ℕ) → corners_from c (s ++ (d ∷ [])) ≡ corners_from c s ++ (stepped d (end_from c s) ∷ [])
corners_from_snoc c [] d = refl
corners_from_snoc c (x ∷ s) d = ap (λ (l : List Corner). c ∷ l) (corners_from_snoc (stepped x c) s d)

pub length-corners_from : (c : Corner) (ds : List ℕ) → length (corners_from c ds) ≡ suc (length ds)
length-corners_from c [] = refl
length-corners_from c (d ∷ ds) = ap suc (length-corners_from (stepped d c) ds)

pub end_from_snoc : (c : Corner) (ds : List ℕ) (d : ℕ) → end_from c (ds ++ (d ∷ [])) ≡ stepped d (end_from c ds)
end_from_snoc c [] d = refl
end_from_snoc c (x ∷ ds) d = end_from_snoc (stepped x c) ds d

-- a walk goes on where its first part ends
pub end_from-append : (c : Corner) (s t : List ℕ) → end_from c (s ++ t) ≡ end_from (end_from c s) t
end_from-append c [] t = refl
end_from-append c (d ∷ s) t = end_from-append (stepped d c) s t

pub start_from_mem : (c : Corner) (ds : List ℕ) → Memᴰ c (corners_from c ds)
start_from_mem c [] = Memᴰ.head refl
start_from_mem c (d ∷ ds) = Memᴰ.head refl

pub end_from-mem : (c : Corner) (ds : List ℕ) → Memᴰ (end_from c ds) (corners_from c ds)
end_from-mem c [] = Memᴰ.head refl
end_from-mem c (d ∷ ds) = Memᴰ.tail (end_from-mem (stepped d c) ds)

-- place k of the corners is pk
pub corners_from-at : (c : Corner) (ds : List ℕ) (k : ℕ) (z : Corner) → k ≤ length ds → get_or (corners_from c ds) k z ≡ corner_at c ds k
corners_from-at c [] zero z h = refl
corners_from-at c [] (suc k) z h = absurd (omega arith)
corners_from-at c (d ∷ ds) zero z h = refl
corners_from-at c (d ∷ ds) (suc k) z h = corners_from-at (stepped d c) ds k z (omega arith)

-- pn is the last corner
pub corner_at_end : (c : Corner) (ds : List ℕ) → corner_at c ds (length ds) ≡ end_from c ds
corner_at_end c ds = ap (end_from c) (take-length ds)

-- the next corner is where the step leads
pub corners_from-next : (c : Corner) (ds : List ℕ) (k : ℕ) (z : Corner) → k < length ds → get_or (corners_from c ds) (suc k) z ≡ stepped (get_or ds k 0) (get_or (corners_from c ds) k z)
corners_from-next c [] k z h = absurd (omega arith)
corners_from-next c (d ∷ []) zero z h = refl
corners_from-next c (d ∷ e ∷ ds) zero z h = refl
corners_from-next c (d ∷ ds) (suc k) z h = corners_from-next (stepped d c) ds k z (omega arith)
