-- Inequalities of polynomials over ℤ, by certificate. `Nn n ρ e` says that e is not negative. Hypotheses are brought in by `h≤`,
-- `h<`, `h≡`, combined by sums `◌⊞◌`, products `◌⊠◌` and multiples `◌⋆◌`, and the goal is what the ring normaliser finds equal to
-- the combination, up to a constant that is not negative: `by≤ a b c tt`. `by≤÷ m a b hm c tt` proves a ≤ b if m * (b - a) is the
-- combination, m above 0. Assumes nothing.
use mathlib.Core.Path.{◌≡◌, sym, ap, ◌∙◌, subst}
use mathlib.Core.Bool.{Bool, true}
use mathlib.Core.List.{List, [], ◌∷◌}
use Prim.Native.Nat.{ℕ, zero, suc, ◌*◌}
use lib.IntN.{ℤ, pos, negsuc, ◌+ℤ◌, ◌-ℤ◌, ◌*ℤ◌, *ℤ-zero, zero-*ℤ, +ℤ_idr}
use lib.Dec.{T}
use lib.Signed.{◌≤ℤ◌, ◌<ℤ◌, non_neg}
use native.Mathlib.Omega.{arith}
use Rattle.int_laws.proofs.LinearLaws.{zarith, bal+, bal-, nat_le, up_neg, dn-neg}
use Rattle.int_laws.proofs.RingLaws.{E, k, ◌⊕◌, ◌⊖◌, ◌⊗◌, den, norm, norm_ev, Poly, ev_p, zero_p, all_l, hd, tl, zero_p_ev, and_l, and_r, ◌&◌}

nn_add : (x y : ℤ) → pos 0 ≤ℤ x → pos 0 ≤ℤ y → pos 0 ≤ℤ (x +ℤ y)
nn_add x y h g = omega (zarith, bal+ x y)

nn_mul : (x y : ℤ) → pos 0 ≤ℤ x → pos 0 ≤ℤ y → pos 0 ≤ℤ (x *ℤ y)
nn_mul (pos a) (pos b) h g = omega zarith
nn_mul (pos a) (negsuc b) h g = absurd g.le
nn_mul (negsuc a) (pos b) h g = absurd h.le
nn_mul (negsuc a) (negsuc b) h g = absurd h.le

pub record Nn (n : ℕ) (ρ : List ℤ) (e : E) : Type 0 where
  pub nn : pos 0 ≤ℤ den n ρ e

module _ (n : ℕ) (ρ : List ℤ) where
  pub h≤ : (a b : E) → den n ρ a ≤ℤ den n ρ b → Nn n ρ (b ⊖ a)
  h≤ a b h = record { nn = go (den n ρ a) (den n ρ b) h }
    where
      go : (x y : ℤ) → x ≤ℤ y → pos 0 ≤ℤ (y -ℤ x)
      go x y h = omega (zarith, bal- y x)

  pub h< : (a b : E) → den n ρ a <ℤ den n ρ b → Nn n ρ (b ⊖ a ⊖ k (pos 1))
  h< a b h = record { nn = go (den n ρ a) (den n ρ b) h }
    where
      go : (x y : ℤ) → x <ℤ y → pos 0 ≤ℤ ((y -ℤ x) -ℤ pos 1)
      go x y h = omega (zarith, bal- y x, bal- (y -ℤ x) (pos 1))

  -- the same, one less said
  pub hw : (a b : E) → den n ρ a <ℤ den n ρ b → Nn n ρ (b ⊖ a)
  hw a b h = record { nn = go (den n ρ a) (den n ρ b) h }
    where
      go : (x y : ℤ) → x <ℤ y → pos 0 ≤ℤ (y -ℤ x)
      go x y h = omega (zarith, bal- y x)

  pub h≡ : (a b : E) → den n ρ a ≡ den n ρ b → Nn n ρ (b ⊖ a)
  h≡ a b h = record { nn = go (den n ρ a) (den n ρ b) h }
    where
      go : (x y : ℤ) → x ≡ y → pos 0 ≤ℤ (y -ℤ x)
      go x y h = omega (zarith, bal- y x)

  pub h≢ : (a b : E) → den n ρ a ≡ den n ρ b → Nn n ρ (a ⊖ b)
  h≢ a b h = h≡ b a (sym h)

  -- an equation times anything
  pub eqt : (a b f : E) → den n ρ a ≡ den n ρ b → Nn n ρ ((b ⊖ a) ⊗ f)
  eqt a b f h = record { nn = go (den n ρ a) (den n ρ b) (den n ρ f) h }
    where
      zero_sub : (x y : ℤ) → x ≡ y → y -ℤ x ≡ pos 0
      zero_sub x y h = omega (zarith, bal- y x)

      nn0 : (z : ℤ) → z ≡ pos 0 → pos 0 ≤ℤ z
      nn0 z e = omega zarith

      go : (x y f : ℤ) → x ≡ y → pos 0 ≤ℤ ((y -ℤ x) *ℤ f)
      go x y f h = nn0 ((y -ℤ x) *ℤ f) (ap (λ (t : ℤ). t *ℤ f) (zero_sub x y h) ∙ zero-*ℤ f)

  pub h0 : (a : E) → pos 0 ≤ℤ den n ρ a → Nn n ρ a
  h0 a h = record { nn = h }

  -- above 0: at least 1
  pub hp : (a : E) → pos 0 <ℤ den n ρ a → Nn n ρ (a ⊖ k (pos 1))
  hp a h = record { nn = go (den n ρ a) h }
    where
      go : (y : ℤ) → pos 0 <ℤ y → pos 0 ≤ℤ (y -ℤ pos 1)
      go y h = omega (zarith, bal- y (pos 1))

infixl 6 ◌⊞◌
infixl 7 ◌⊠◌ ◌⋆◌ ◌⊡◌
pub ◌⊞◌ : {n : ℕ} {ρ : List ℤ} {a b : E} → Nn n ρ a → Nn n ρ b → Nn n ρ (a ⊕ b)
◌⊞◌ {n} {ρ} {a} {b} h g = record { nn = nn_add (den n ρ a) (den n ρ b) h.nn g.nn }

pub ◌⊠◌ : {n : ℕ} {ρ : List ℤ} {a b : E} → Nn n ρ a → Nn n ρ b → Nn n ρ (a ⊗ b)
◌⊠◌ {n} {ρ} {a} {b} h g = record { nn = nn_mul (den n ρ a) (den n ρ b) h.nn g.nn }

pub ◌⋆◌ : {n : ℕ} {ρ : List ℤ} {b : E} (c : ℕ) → Nn n ρ b → Nn n ρ (k (pos c) ⊗ b)
◌⋆◌ {n} {ρ} {b} c g = record { nn = nn_mul (pos c) (den n ρ b) (nat_le (pos 0) (pos c) (omega arith)) g.nn }

-- at least 1 times at least 1 is at least 1
one-mul : (x y : ℤ) → pos 0 ≤ℤ (x -ℤ pos 1) → pos 0 ≤ℤ (y -ℤ pos 1) → pos 0 ≤ℤ ((x *ℤ y) -ℤ pos 1)
one-mul x y h g = go (x *ℤ y) (one x h) (one y g)
  where
    one : (x : ℤ) → pos 0 ≤ℤ (x -ℤ pos 1) → pos 1 ≤ℤ x
    one x h = omega (zarith, bal- x (pos 1))

    mul1 : (x y : ℤ) → pos 1 ≤ℤ x → pos 1 ≤ℤ y → pos 1 ≤ℤ (x *ℤ y)
    mul1 (pos zero) y h g = absurd h.le
    mul1 (pos (suc a)) (pos zero) h g = absurd g.le
    mul1 (pos (suc a)) (pos (suc b)) h g = omega zarith
    mul1 (pos (suc a)) (negsuc b) h g = absurd g.le
    mul1 (negsuc a) y h g = absurd h.le

    go : (z : ℤ) → pos 1 ≤ℤ x → pos 1 ≤ℤ y → pos 0 ≤ℤ ((x *ℤ y) -ℤ pos 1)
    go z h g = omega (zarith, bal- (x *ℤ y) (pos 1), mul1 x y h g)

pub ◌⊡◌ : {n : ℕ} {ρ : List ℤ} {a b : E} → Nn n ρ (a ⊖ k (pos 1)) → Nn n ρ (b ⊖ k (pos 1)) → Nn n ρ (a ⊗ b ⊖ k (pos 1))
◌⊡◌ {n} {ρ} {a} {b} h g = record { nn = one-mul (den n ρ a) (den n ρ b) h.nn g.nn }

-- the polynomial is a constant that is not negative
abbrev nc_l : {A : Type 0} → (A → Bool) → (A → Bool) → List A → Bool
nc_l z c [] = true
nc_l z c (a ∷ p) = ◌&◌ (c a) (all_l z p)

abbrev pub nc_p : (n : ℕ) → Poly n → Bool
nc_p zero = λ a. non_neg a
nc_p (suc n) = nc_l (zero_p n) (nc_p n)

nc_zero : (a : ℤ) → T (non_neg a) → pos 0 ≤ℤ a
nc_zero (pos a) t = nat_le (pos 0) (pos a) (omega arith)
nc_zero (negsuc a) t = absurd t

nc_p_ev : (n : ℕ) (ρ : List ℤ) (p : Poly n) → T (nc_p n p) → pos 0 ≤ℤ ev_p n ρ p
nc_p_ev zero ρ a t = nc_zero a t
nc_p_ev (suc n) ρ [] t = nat_le (pos 0) (pos 0) (omega arith)
nc_p_ev (suc n) ρ (a ∷ p) t = subst (λ (x : ℤ). pos 0 ≤ℤ x) (sym (ap (λ y. ev_p n (tl ρ) a +ℤ (hd ρ *ℤ y)) (zero_p_ev (suc n) ρ p (and_r (nc_p n a) (all_l (zero_p n) p) t)) ∙ ap (λ y. ev_p n (tl ρ) a +ℤ y) (*ℤ-zero (hd ρ)) ∙ +ℤ_idr (ev_p n (tl ρ) a))) (nc_p_ev n (tl ρ) a (and_l (nc_p n a) (all_l (zero_p n) p) t))

nc_den : (n : ℕ) (ρ : List ℤ) (e : E) → T (nc_p n (norm n e)) → pos 0 ≤ℤ den n ρ e
nc_den n ρ e t = subst (λ (x : ℤ). pos 0 ≤ℤ x) (norm_ev n ρ e) (nc_p_ev n ρ (norm n e) t)

module _ {n : ℕ} {ρ : List ℤ} {c : E} where
  pub by≤ : (a b : E) → Nn n ρ c → T (nc_p n (norm n (b ⊖ a ⊖ c))) → den n ρ a ≤ℤ den n ρ b
  by≤ a b h t = go (den n ρ a) (den n ρ b) (den n ρ c) h.nn (nc_den n ρ (b ⊖ a ⊖ c) t)
    where
      go : (x y z : ℤ) → pos 0 ≤ℤ z → pos 0 ≤ℤ ((y -ℤ x) -ℤ z) → x ≤ℤ y
      go x y z h g = omega (zarith, bal- y x, bal- (y -ℤ x) z)

  pub by< : (a b : E) → Nn n ρ c → T (nc_p n (norm n (b ⊖ a ⊖ k (pos 1) ⊖ c))) → den n ρ a <ℤ den n ρ b
  by< a b h t = go (den n ρ a) (den n ρ b) (den n ρ c) h.nn (nc_den n ρ (b ⊖ a ⊖ k (pos 1) ⊖ c) t)
    where
      go : (x y z : ℤ) → pos 0 ≤ℤ z → pos 0 ≤ℤ (((y -ℤ x) -ℤ pos 1) -ℤ z) → x <ℤ y
      go x y z h g = omega (zarith, bal- y x, bal- (y -ℤ x) (pos 1), bal- ((y -ℤ x) -ℤ pos 1) z)

  pub by⊥ : Nn n ρ c → T (nc_p n (norm n (k (negsuc 0) ⊖ c))) → ⊥
  by⊥ h t = go (den n ρ c) h.nn (nc_den n ρ (k (negsuc 0) ⊖ c) t)
    where
      go : (z : ℤ) → pos 0 ≤ℤ z → pos 0 ≤ℤ (negsuc 0 -ℤ z) → ⊥
      go z h g = omega (zarith, bal- (negsuc 0) z)

  by0 : (a : E) → Nn n ρ c → T (nc_p n (norm n (a ⊖ c))) → Nn n ρ a
  by0 a h t = record { nn = go (den n ρ a) (den n ρ c) h.nn (nc_den n ρ (a ⊖ c) t) }
    where
      go : (y z : ℤ) → pos 0 ≤ℤ z → pos 0 ≤ℤ (y -ℤ z) → pos 0 ≤ℤ y
      go y z h g = omega (zarith, bal- y z)

pub by≡ : {n : ℕ} {ρ : List ℤ} {c d : E} (a b : E) → Nn n ρ c → Nn n ρ d → T (nc_p n (norm n (b ⊖ a ⊖ c))) → T (nc_p n (norm n (a ⊖ b ⊖ d))) → den n ρ a ≡ den n ρ b
by≡ {n} {ρ} a b h g t w = both (den n ρ a) (den n ρ b) (by≤ a b h t) (by≤ b a g w)
  where
    both : (x y : ℤ) → x ≤ℤ y → y ≤ℤ x → x ≡ y
    both x y h g = omega zarith

-- a factor above 0 goes
cancel : (m t : ℤ) → pos 1 ≤ℤ m → pos 0 ≤ℤ (m *ℤ t) → pos 0 ≤ℤ t
cancel (pos zero) t h g = absurd h.le
cancel (negsuc m) t h g = absurd h.le
cancel (pos (suc m)) (pos t) h g = nat_le (pos 0) (pos t) (omega arith)
cancel (pos (suc m)) (negsuc t) h g = omega (zarith, up_neg (pos (suc m * suc t)), dn-neg (pos (suc m * suc t)))

cancel< : (m t : ℤ) → pos 0 ≤ℤ m → pos 1 ≤ℤ (m *ℤ t) → pos 1 ≤ℤ t
cancel< m (pos zero) h g = absurd (go (m *ℤ pos 0) (*ℤ-zero m) g)
  where
    go : (x : ℤ) → x ≡ pos 0 → pos 1 ≤ℤ x → ⊥
    go x e h = omega zarith
cancel< m (pos (suc t)) h g = nat_le (pos 1) (pos (suc t)) (omega arith)
cancel< (pos zero) (negsuc t) h g = omega (zarith, up_neg (pos (0 * suc t)), dn-neg (pos (0 * suc t)))
cancel< (pos (suc m)) (negsuc t) h g = omega (zarith, up_neg (pos (suc m * suc t)), dn-neg (pos (suc m * suc t)))
cancel< (negsuc m) (negsuc t) h g = absurd h.le

module _ {n : ℕ} {ρ : List ℤ} {c : E} where
  cut : (m t : E) → Nn n ρ (m ⊖ k (pos 1)) → Nn n ρ c → T (nc_p n (norm n (m ⊗ t ⊖ c))) → Nn n ρ t
  cut m t hm h w = record { nn = cancel (den n ρ m) (den n ρ t) (one (den n ρ m) hm.nn) (by0 {n = n} {ρ = ρ} {c = c} (m ⊗ t) h w).nn }
    where
      one : (x : ℤ) → pos 0 ≤ℤ (x -ℤ pos 1) → pos 1 ≤ℤ x
      one x h = omega (zarith, bal- x (pos 1))

  pub by≤÷ : (m a b : E) → Nn n ρ (m ⊖ k (pos 1)) → Nn n ρ c → T (nc_p n (norm n (m ⊗ (b ⊖ a) ⊖ c))) → den n ρ a ≤ℤ den n ρ b
  by≤÷ m a b hm h t = go (den n ρ a) (den n ρ b) (cut m (b ⊖ a) hm h t).nn
    where
      go : (x y : ℤ) → pos 0 ≤ℤ (y -ℤ x) → x ≤ℤ y
      go x y h = omega (zarith, bal- y x)

  -- strictly: m * (b - a) is at least 1, and m is not negative
  pub by<÷ : (m a b : E) → Nn n ρ m → Nn n ρ c → T (nc_p n (norm n (m ⊗ (b ⊖ a) ⊖ k (pos 1) ⊖ c))) → den n ρ a <ℤ den n ρ b
  by<÷ m a b hm h t = go (den n ρ a) (den n ρ b) (cancel< (den n ρ m) (den n ρ b -ℤ den n ρ a) hm.nn (one (den n ρ m *ℤ (den n ρ b -ℤ den n ρ a)) (by0 {n = n} {ρ = ρ} {c = c} (m ⊗ (b ⊖ a) ⊖ k (pos 1)) h t).nn))
    where
      one : (x : ℤ) → pos 0 ≤ℤ (x -ℤ pos 1) → pos 1 ≤ℤ x
      one x h = omega (zarith, bal- x (pos 1))

      go : (x y : ℤ) → pos 1 ≤ℤ (y -ℤ x) → x <ℤ y
      go x y h = omega (zarith, bal- y x)
