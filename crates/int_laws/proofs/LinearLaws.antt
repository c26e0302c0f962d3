-- ℤ by way of the native ℕ, so that `omega` proves linear facts of ℤ. z is `up z` less `dn z`, and one of the two is 0. An order
-- or an equation of ℤ is one of ℕ: a ≤ℤ b is up a + dn b ≤ up b + dn a. `omega zarith` reads hypotheses and goals a ≤ℤ b, a <ℤ b,
-- a ≡ b whose sides are atoms (or literals); for a sum, a difference or a negation that occurs list its fact: `omega (zarith,
-- bal+ x y, bal- x y)`. Assumes nothing.
use mathlib.Core.Path.{◌≡◌, refl, ap}
use mathlib.Core.Bool.{Bool, true, false, not, cond}
use mathlib.Core.Logic.{◌⊎◌, inl, inr}
use Prim.Native.Nat.{ℕ, zero, suc, ◌+◌, ◌-◌, ◌≤◌, ◌<◌}
use native.Mathlib.Omega.{arith}
use lib.IntN.{ℤ, pos, negsuc, neg_ℤ, sub_ℕ, ◌+ℤ◌, ◌-ℤ◌}
use lib.Dec.{T, leb, ltb, leb→le, le→leb, ltb→lt, lt→ltb, nltb→le, nleb→lt}
use lib.Signed.{◌≤ℤ◌, ◌<ℤ◌, le_z, lt_z}
use Rattle.int_laws.specs.Signed.{up, dn}

-- the order
le_nat' : (a b : ℤ) → T (le_z a b) → up a + dn b ≤ up b + dn a
le_nat' (pos a) (pos b) t = omega (arith, leb→le a b t)
le_nat' (pos a) (negsuc b) t = absurd t
le_nat' (negsuc a) (pos b) t = omega arith
le_nat' (negsuc a) (negsuc b) t = omega (arith, leb→le b a t)

pub le_nat : {a b : ℤ} → a ≤ℤ b → up a + dn b ≤ up b + dn a
le_nat {a} {b} h = le_nat' a b h.le

nat_le' : (a b : ℤ) → up a + dn b ≤ up b + dn a → T (le_z a b)
nat_le' (pos a) (pos b) h = le→leb a b (omega arith)
nat_le' (pos a) (negsuc b) h = bad a b h
  where
    bad : (a b : ℕ) → a + suc b ≤ 0 + 0 → ⊥
    bad a b h = omega arith
nat_le' (negsuc a) (pos b) h = tt
nat_le' (negsuc a) (negsuc b) h = le→leb b a (omega arith)

pub nat_le : (a b : ℤ) → up a + dn b ≤ up b + dn a → a ≤ℤ b
nat_le a b h = record { le = nat_le' a b h }

lt_nat' : (a b : ℤ) → T (lt_z a b) → up a + dn b < up b + dn a
lt_nat' (pos a) (pos b) t = omega (arith, ltb→lt a b t)
lt_nat' (pos a) (negsuc b) t = absurd t
lt_nat' (negsuc a) (pos b) t = omega arith
lt_nat' (negsuc a) (negsuc b) t = omega (arith, ltb→lt b a t)

pub lt_nat : {a b : ℤ} → a <ℤ b → up a + dn b < up b + dn a
lt_nat {a} {b} h = lt_nat' a b h.lt

nat_lt' : (a b : ℤ) → up a + dn b < up b + dn a → T (lt_z a b)
nat_lt' (pos a) (pos b) h = lt→ltb a b (omega arith)
nat_lt' (pos a) (negsuc b) h = bad a b h
  where
    bad : (a b : ℕ) → a + suc b < 0 + 0 → ⊥
    bad a b h = omega arith
nat_lt' (negsuc a) (pos b) h = tt
nat_lt' (negsuc a) (negsuc b) h = lt→ltb b a (omega arith)

pub nat_lt : (a b : ℤ) → up a + dn b < up b + dn a → a <ℤ b
nat_lt a b h = record { lt = nat_lt' a b h }

pub eq_nat : {a b : ℤ} → a ≡ b → up a + dn b ≡ up b + dn a
eq_nat {a} {b} e = omega (arith, ap (λ (x : ℤ). up x) e, ap (λ (x : ℤ). dn x) e)

pub nat_eq : (a b : ℤ) → up a + dn b ≡ up b + dn a → a ≡ b
nat_eq (pos a) (pos b) h = ap pos (go a b h)
  where
    go : (a b : ℕ) → a + 0 ≡ b + 0 → a ≡ b
    go a b h = omega arith
nat_eq (pos a) (negsuc b) h = absurd (bad a b h)
  where
    bad : (a b : ℕ) → a + suc b ≡ 0 + 0 → ⊥
    bad a b h = omega arith
nat_eq (negsuc a) (pos b) h = absurd (bad a b h)
  where
    bad : (a b : ℕ) → 0 + 0 ≡ b + suc a → ⊥
    bad a b h = omega arith
nat_eq (negsuc a) (negsuc b) h = ap negsuc (go a b h)
  where
    go : (a b : ℕ) → 0 + suc b ≡ 0 + suc a → a ≡ b
    go a b h = omega arith

-- the operations
cond_ind : (c : Bool) (x y : ℤ) (Q : ℤ → Type 0) → (T c → Q x) → (T (not c) → Q y) → Q (cond c x y)
cond_ind true x y Q f g = f tt
cond_ind false x y Q f g = g tt

bal_subℕ : (a b : ℕ) → up (sub_ℕ a b) + b ≡ dn (sub_ℕ a b) + a
bal_subℕ a b = cond_ind (ltb a b) (negsuc (b - suc a)) (pos (a - b)) (λ z. up z + b ≡ dn z + a)
    (λ t. below a b (ltb→lt a b t)) (λ t. above a b (nltb→le a b t))
  where
    below : (a b : ℕ) → a < b → 0 + b ≡ suc (b - suc a) + a
    below a b h = omega arith

    above : (a b : ℕ) → b ≤ a → (a - b) + b ≡ 0 + a
    above a b h = omega arith

pub bal+ : (x y : ℤ) → up (x +ℤ y) + (dn x + dn y) ≡ dn (x +ℤ y) + (up x + up y)
bal+ (pos a) (pos b) = omega arith
bal+ (pos a) (negsuc b) = omega (arith, bal_subℕ a (suc b))
bal+ (negsuc a) (pos b) = omega (arith, bal_subℕ b (suc a))
bal+ (negsuc a) (negsuc b) = omega arith

pub up_neg : (x : ℤ) → up (neg_ℤ x) ≡ dn x
up_neg (pos zero) = refl
up_neg (pos (suc n)) = refl
up_neg (negsuc n) = refl

pub dn-neg : (x : ℤ) → dn (neg_ℤ x) ≡ up x
dn-neg (pos zero) = refl
dn-neg (pos (suc n)) = refl
dn-neg (negsuc n) = refl

pub bal- : (x y : ℤ) → up (x -ℤ y) + (dn x + up y) ≡ dn (x -ℤ y) + (up x + dn y)
bal- x y = omega (arith, bal+ x (neg_ℤ y), up_neg y, dn-neg y)

pub neg_nat : (x : ℤ) → (up (neg_ℤ x) ≡ dn x) × (dn (neg_ℤ x) ≡ up x)
neg_nat x = (up_neg x, dn-neg x)

pub ruleset zarith = (arith, le_nat, nat_le, lt_nat, nat_lt, eq_nat, nat_eq)

-- decisions
pub le_or_lt : (a b : ℤ) → (a ≤ℤ b) ⊎ (b <ℤ a)
le_or_lt a b = go (leb (up a + dn b) (up b + dn a)) (λ t. nat_le a b (leb→le _ _ t)) (λ t. nat_lt b a (omega (arith, nleb→lt (up a + dn b) (up b + dn a) t)))
  where
    go : (c : Bool) → (T c → a ≤ℤ b) → (T (not c) → b <ℤ a) → (a ≤ℤ b) ⊎ (b <ℤ a)
    go true f g = inl (f tt)
    go false f g = inr (g tt)
