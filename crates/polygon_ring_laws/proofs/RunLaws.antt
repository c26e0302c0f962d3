-- Straight runs: k steps in one direction, and the pair of corners at their ends.
-- Assumes nothing.
use mathlib.Core.Path.{◌≡◌, refl, sym, ap, ap₂, ◌∙◌}
use mathlib.Core.Bool.{Bool, true, false, not, cond}
use Prim.Native.Nat.{ℕ, zero, suc, ◌+◌, ◌≤◌, ◌<◌}
use native.Mathlib.Omega.{arith}
use lib.Dec.{T}
use lib.IntN.{ℤ, pos, neg_ℤ, suc_ℤ, pred_ℤ, nat_abs, ◌+ℤ◌, ◌-ℤ◌}
use lib.ListN.{replicate}
use lib.Signed.{◌<ℤ◌, lt_z}
use Rattle.int_laws.proofs.NextLaws.{bal_suc, bal_pred}
use Rattle.int_laws.specs.Signed.{up, dn}
use Rattle.int_laws.proofs.LinearLaws.{nat_lt, nat_eq, eq_nat, bal+, bal-, up_neg, dn-neg, zarith}
use Rattle.int_laws.proofs.RangeLaws.{abs_neg, lt_true}
use Rattle.grid.specs.declared.Corner.{Corner}
use Rattle.grid.specs.Grid.{corner, eq_z, stepped, end_from}
use Rattle.grid.proofs.CornerLaws.{eq_z_sound, eq_z_refl}
use Rattle.polygon_ring.specs.Ring.{straight, apart, direction_of}

-- ---- one axis

holds : (b : Bool) → T b → b ≡ true
holds true t = refl
holds false t = absurd t

fails : (b : Bool) → (b ≡ true → ⊥) → b ≡ false
fails true f = absurd (f refl)
fails false f = refl

lt_z_yes : (a b : ℤ) → up a + dn b < up b + dn a → lt_z a b ≡ true
lt_z_yes a b h = holds (lt_z a b) (nat_lt a b h).lt

lt_z_no : (a b : ℤ) → up b + dn a ≤ up a + dn b → lt_z a b ≡ false
lt_z_no a b h = fails (lt_z a b) (λ e. bad (lt_true {a = a} {b = b} e))
  where
    bad : a <ℤ b → ⊥
    bad l = omega (zarith, l)

eq_z_no : (a b : ℤ) → (up a + dn b ≡ up b + dn a → ⊥) → eq_z a b ≡ false
eq_z_no a b f = fails (eq_z a b) (λ e. f (eq_nat (eq_z_sound a b e)))

module _ (x : ℤ) (k : ℕ) where
  plus-less : (x +ℤ pos k) -ℤ x ≡ pos k
  plus-less = nat_eq ((x +ℤ pos k) -ℤ x) (pos k) (omega (arith, bal+ x (pos k), bal- (x +ℤ pos k) x))

  minus_less : (x -ℤ pos k) -ℤ x ≡ neg_ℤ (pos k)
  minus_less = nat_eq ((x -ℤ pos k) -ℤ x) (neg_ℤ (pos k)) (omega (arith, bal- x (pos k), bal- (x -ℤ pos k) x, up_neg (pos k), dn-neg (pos k)))

pub self_less : (x : ℤ) → nat_abs (x -ℤ x) ≡ 0
self_less x = ap nat_abs (nat_eq (x -ℤ x) (pos 0) (omega (arith, bal- x x)))

-- ---- the corner k steps ahead

abbrev pub ahead : ℕ → ℕ → Corner → Corner
ahead k zero s = corner (s.0 +ℤ pos k) s.1
ahead k (suc zero) s = corner s.0 (s.1 +ℤ pos k)
ahead k (suc (suc zero)) s = corner (s.0 -ℤ pos k) s.1
ahead k (suc (suc (suc d))) s = corner s.0 (s.1 -ℤ pos k)

plus_zero : (x : ℤ) → x +ℤ pos 0 ≡ x
plus_zero x = nat_eq (x +ℤ pos 0) x (omega (arith, bal+ x (pos 0)))

minus_zero_lem : (x : ℤ) → x -ℤ pos 0 ≡ x
minus_zero_lem x = nat_eq (x -ℤ pos 0) x (omega (arith, bal- x (pos 0)))

suc_plus : (x : ℤ) (k : ℕ) → suc_ℤ (x +ℤ pos k) ≡ x +ℤ pos (suc k)
suc_plus x k = nat_eq (suc_ℤ (x +ℤ pos k)) (x +ℤ pos (suc k)) (omega (arith, bal+ x (pos k), bal+ x (pos (suc k)), bal_suc (x +ℤ pos k)))

plus_suc : (x : ℤ) (k : ℕ) → suc_ℤ x +ℤ pos k ≡ x +ℤ pos (suc k)
plus_suc x k = nat_eq (suc_ℤ x +ℤ pos k) (x +ℤ pos (suc k)) (omega (arith, bal+ (suc_ℤ x) (pos k), bal+ x (pos (suc k)), bal_suc x))

pred_minus : (x : ℤ) (k : ℕ) → pred_ℤ (x -ℤ pos k) ≡ x -ℤ pos (suc k)
pred_minus x k = nat_eq (pred_ℤ (x -ℤ pos k)) (x -ℤ pos (suc k)) (omega (arith, bal- x (pos k), bal- x (pos (suc k)), bal_pred (x -ℤ pos k)))

minus_pred : (x : ℤ) (k : ℕ) → pred_ℤ x -ℤ pos k ≡ x -ℤ pos (suc k)
minus_pred x k = nat_eq (pred_ℤ x -ℤ pos k) (x -ℤ pos (suc k)) (omega (arith, bal- (pred_ℤ x) (pos k), bal- x (pos (suc k)), bal_pred x))

ahead_zero : (d : ℕ) (s : Corner) → ahead 0 d s ≡ s
ahead_zero zero s = ap₂ corner (plus_zero s.0) refl
ahead_zero (suc zero) s = ap₂ corner refl (plus_zero s.1)
ahead_zero (suc (suc zero)) s = ap₂ corner (minus_zero_lem s.0) refl
ahead_zero (suc (suc (suc d))) s = ap₂ corner refl (minus_zero_lem s.1)

pub ahead_more : (k d : ℕ) (s : Corner) → stepped d (ahead k d s) ≡ ahead (suc k) d s
ahead_more k zero s = ap₂ corner (suc_plus s.0 k) refl
ahead_more k (suc zero) s = ap₂ corner refl (suc_plus s.1 k)
ahead_more k (suc (suc zero)) s = ap₂ corner (pred_minus s.0 k) refl
ahead_more k (suc (suc (suc d))) s = ap₂ corner refl (pred_minus s.1 k)

ahead-first : (k d : ℕ) (s : Corner) → ahead k d (stepped d s) ≡ ahead (suc k) d s
ahead-first k zero s = ap₂ corner (plus_suc s.0 k) refl
ahead-first k (suc zero) s = ap₂ corner refl (plus_suc s.1 k)
ahead-first k (suc (suc zero)) s = ap₂ corner (minus_pred s.0 k) refl
ahead-first k (suc (suc (suc d))) s = ap₂ corner refl (minus_pred s.1 k)

pub ahead-one : (d : ℕ) (s : Corner) → stepped d s ≡ ahead 1 d s
ahead-one d s = ap (stepped d) (sym (ahead_zero d s)) ∙ ahead_more 0 d s

pub ahead_end : (k d : ℕ) (s : Corner) → end_from s (replicate k d) ≡ ahead k d s
ahead_end zero d s = sym (ahead_zero d s)
ahead_end (suc k) d s = ahead_end k d (stepped d s) ∙ ahead-first k d s

-- ---- from its two ends the run is known

pub record Run (k d : ℕ) (a b : Corner) : Type 0 where
  pub far : apart a b ≡ k
  pub way : direction_of a b ≡ d
  pub line : straight a b ≡ true

pub direction_by : (p q r : Bool) (a b : Corner) → lt_z a.0 b.0 ≡ p → lt_z b.0 a.0 ≡ q → lt_z a.1 b.1 ≡ r → direction_of a b ≡ cond p 0 (cond q 2 (cond r 1 3))
direction_by p q r a b e f g =
    ap₂ (λ (p q : Bool). cond p 0 (cond q 2 (cond (lt_z a.1 b.1) 1 3))) e f ∙ ap (λ (r : Bool). cond p 0 (cond q 2 (cond r 1 3))) g

line_by : (p q : Bool) (a b : Corner) → eq_z a.0 b.0 ≡ p → eq_z a.1 b.1 ≡ q → straight a b ≡ cond p (not q) q
line_by p q a b e f = ap₂ (λ (p q : Bool). cond p (not q) q) e f

pub run_ahead : (k d : ℕ) (s : Corner) → 0 < k → d < 4 → Run k d s (ahead k d s)
run_ahead k zero s h i =
    let x = s.0 in
    let w = bal+ x (pos k) in
    record {
      far = ap₂ ◌+◌ (ap nat_abs (plus-less x k)) (self_less s.1) ∙ plain k;
      way = direction_by true (lt_z (x +ℤ pos k) x) (lt_z s.1 s.1) s (ahead k zero s) (lt_z_yes x (x +ℤ pos k) (omega (arith, w))) refl refl;
      line = line_by false true s (ahead k zero s) (eq_z_no x (x +ℤ pos k) (λ e. bad e)) (eq_z_refl s.1);
    }
  where
    plain : (k : ℕ) → k + 0 ≡ k
    plain k = omega arith

    bad : up s.0 + dn (s.0 +ℤ pos k) ≡ up (s.0 +ℤ pos k) + dn s.0 → ⊥
    bad e = omega (arith, bal+ s.0 (pos k))
run_ahead k (suc zero) s h i =
    let x = s.1 in
    let w = bal+ x (pos k) in
    record {
      far = ap₂ ◌+◌ (self_less s.0) (ap nat_abs (plus-less x k)) ∙ plain k;
      way = direction_by false false true s (ahead k 1 s) (lt_z_no s.0 s.0 (omega arith)) (lt_z_no s.0 s.0 (omega arith)) (lt_z_yes x (x +ℤ pos k) (omega (arith, w)));
      line = line_by true false s (ahead k 1 s) (eq_z_refl s.0) (eq_z_no x (x +ℤ pos k) (λ e. bad e));
    }
  where
    plain : (k : ℕ) → 0 + k ≡ k
    plain k = omega arith

    bad : up s.1 + dn (s.1 +ℤ pos k) ≡ up (s.1 +ℤ pos k) + dn s.1 → ⊥
    bad e = omega (arith, bal+ s.1 (pos k))
run_ahead k (suc (suc zero)) s h i =
    let x = s.0 in
    let w = bal- x (pos k) in
    record {
      far = ap₂ ◌+◌ (ap nat_abs (minus_less x k) ∙ abs_neg (pos k)) (self_less s.1) ∙ plain k;
      way = direction_by false true (lt_z s.1 s.1) s (ahead k 2 s) (lt_z_no x (x -ℤ pos k) (omega (arith, w))) (lt_z_yes (x -ℤ pos k) x (omega (arith, w))) refl;
      line = line_by false true s (ahead k 2 s) (eq_z_no x (x -ℤ pos k) (λ e. bad e)) (eq_z_refl s.1);
    }
  where
    plain : (k : ℕ) → k + 0 ≡ k
    plain k = omega arith

    bad : up s.0 + dn (s.0 -ℤ pos k) ≡ up (s.0 -ℤ pos k) + dn s.0 → ⊥
    bad e = omega (arith, bal- s.0 (pos k))
run_ahead k (suc (suc (suc d))) s h i =
    let x = s.1 in
    let w = bal- x (pos k) in
    let three : d ≡ 0 = omega arith in
    record {
      far = ap₂ ◌+◌ (self_less s.0) (ap nat_abs (minus_less x k) ∙ abs_neg (pos k)) ∙ plain k;
      way = direction_by false false false s (ahead k 3 s) (lt_z_no s.0 s.0 (omega arith)) (lt_z_no s.0 s.0 (omega arith)) (lt_z_no x (x -ℤ pos k) (omega (arith, w))) ∙ ap (λ (n : ℕ). suc (suc (suc n))) (sym three);
      line = line_by true false s (ahead k 3 s) (eq_z_refl s.0) (eq_z_no x (x -ℤ pos k) (λ e. bad e));
    }
  where
    plain : (k : ℕ) → 0 + k ≡ k
    plain k = omega arith

    bad : up s.1 + dn (s.1 -ℤ pos k) ≡ up (s.1 -ℤ pos k) + dn s.1 → ⊥
    bad e = omega (arith, bal- s.1 (pos k))
