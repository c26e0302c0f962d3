-- The columns' test on the chain says that it passes for any two columns: all corners lie on or left of each edge of the chain.
-- Assumes nothing.
use mathlib.Core.Path.{◌≡◌, refl, sym, ap₂, ◌∙◌, subst}
use mathlib.Core.Bool.{Bool, true, false, ◌&&◌}
use mathlib.Core.List.Memᴰ
use mathlib.Core.List.{List, [], ◌∷◌, map, Memᴰ}
use mathlib.Core.Logic.{⊎_elim, ◌↔◌}
use Prim.Native.Nat.{ℕ, zero, suc, ◌+◌, ◌*◌, ◌-◌, ◌≤◌, ◌<◌}
use native.Mathlib.Omega.{arith}
use native.Mathlib.Nat.{eq-or-lt_of_le}
use native.Mathlib.Decide.{dec_lt}
use borrow.Author.Tests.{ltb-true, lt-ltb}
use lib.ListN.{length, get_or}
use lib.IntN.{ℤ, pos, ◌+ℤ◌, ◌-ℤ◌}
use lib.Signed.{◌<ℤ◌}
use Rattle.int_laws.proofs.LinearLaws.{zarith, bal+, bal-}
use Rattle.int_laws.proofs.RingLaws.{E, v, k, ◌⊕◌, ◌⊖◌, ◌⊗◌, ring}
use Rattle.int_laws.proofs.SignLaws.{h≤, h<, hw, ◌⊞◌, ◌⊠◌, ◌⊡◌, by<÷}
use Rattle.grid.specs.declared.Corner.{Corner}
use Rattle.grid.specs.Grid.{corner, numbers}
use Rattle.hull.specs.Hull.{OnLeft, AllLeft, cross}
use Rattle.hull_laws.specs.Chain.{chain_from, cut_at}
use Rattle.column_laws.specs.Columns.{spot}
use Rattle.hull_laws.proofs.ChainLaws.{Chain, chain_ok}
use Rattle.hull_laws.proofs.CornerLaws.{X, cr, O}
use Rattle.hull_laws.proofs.ScanLaws.{chain_cols, chain_in_lem, chain-last}
use Rattle.hull_laws.proofs.RoundLaws.{last_of}
use Rattle.hull_laws.proofs.SinkLaws.{up_from, at, up_from_in, cols_sorted}
use Rattle.convex_laws.specs.Level.{level, levels, level_along, level_of}

-- what lies right of the way from p to b, if a and z lie on it or left of it, lies right of the way from a to z when it stands
-- between them
right_chord : (p b a z q : Corner) → p.0 <ℤ b.0 → OnLeft p b a → OnLeft p b z → cross p b q <ℤ pos 0 → a.0 <ℤ q.0 → q.0 <ℤ z.0 → cross a z q <ℤ pos 0
unfolding cross
right_chord p b a z q i f g h l r =
    let ρ = numbers (p ∷ b ∷ a ∷ z ∷ q ∷ []) in
    by<÷ (X 1 ⊖ X 0) (cr 2 3 4) O (hw 10 ρ (X 0) (X 1) i)
    (h< 10 ρ (X 2) (X 3) (omega zarith) ⊡ h< 10 ρ (cr 0 1 4) O h ⊞ hw 10 ρ (X 4) (X 3) r ⊠ h≤ 10 ρ O (cr 0 1 2) f.on ⊞ hw 10 ρ (X 2) (X 4) l ⊠ h≤ 10 ρ O (cr 0 1 3) g.on) tt

-- the grid point next above column c, upside down: one less deep
abbrev under : List ℕ → ℕ → Corner
under ys c = corner (pos 0 +ℤ pos c) ((pos 0 +ℤ pos (get_or ys c 0)) -ℤ pos 1)

-- u and w are how far b and c lie right of p
cross-under : (p u w yp yb yc : ℕ) → cross (spot (pos 0) (pos 0) (p, yp)) (spot (pos 0) (pos 0) (p + u, yb)) (corner (pos 0 +ℤ pos (p + w)) ((pos 0 +ℤ pos yc) -ℤ pos 1)) ≡ pos (u * yc + w * yp) -ℤ pos (w * yb + u * yp + u)
unfolding cross
cross-under p u w yp yb yc =
    let Z : E = k (pos 0) in
    ring 6 (pos p ∷ pos u ∷ pos w ∷ pos yp ∷ pos yb ∷ pos yc ∷ [])
    (((Z ⊕ (v 0 ⊕ v 1)) ⊖ (Z ⊕ v 0)) ⊗ (((Z ⊕ v 5) ⊖ k (pos 1)) ⊖ (Z ⊕ v 3)) ⊖ ((Z ⊕ v 4) ⊖ (Z ⊕ v 3)) ⊗ ((Z ⊕ (v 0 ⊕ v 2)) ⊖ (Z ⊕ v 0)))
    ((v 1 ⊗ v 5 ⊕ v 2 ⊗ v 3) ⊖ (v 2 ⊗ v 4 ⊕ v 1 ⊗ v 3 ⊕ v 1)) tt

below_zero : (m n : ℕ) → (pos m -ℤ pos n) <ℤ pos 0 → m < n
below_zero m n h = omega (zarith, bal- (pos m) (pos n))

zero_below : (m n : ℕ) → m < n → (pos m -ℤ pos n) <ℤ pos 0
zero_below m n h = omega (zarith, bal- (pos m) (pos n))

module _ (ys : List ℕ) where
  level-cross : (p b c : ℕ) → p ≤ b → p ≤ c → cross (at (pos 0) (pos 0) ys p) (at (pos 0) (pos 0) ys b) (under ys c) ≡ pos ((b - p) * get_or ys c 0 + (c - p) * get_or ys p 0) -ℤ pos ((c - p) * get_or ys b 0 + (b - p) * get_or ys p 0 + (b - p))
  level-cross p b c h g =
      ap₂ (λ (m n : ℕ). cross (at (pos 0) (pos 0) ys p) (spot (pos 0) (pos 0) (m, get_or ys b 0)) (corner (pos 0 +ℤ pos n) ((pos 0 +ℤ pos (get_or ys c 0)) -ℤ pos 1))) back back'
      ∙ cross-under p (b - p) (c - p) (get_or ys p 0) (get_or ys b 0) (get_or ys c 0)
    where
      back : b ≡ p + (b - p)
      back = omega arith

      back' : c ≡ p + (c - p)
      back' = omega arith

  level-right : (p b c : ℕ) → p ≤ b → p ≤ c → level ys p b c ≡ true → cross (at (pos 0) (pos 0) ys p) (at (pos 0) (pos 0) ys b) (under ys c) <ℤ pos 0
  unfolding level
  level-right p b c h g t = subst (λ (z : ℤ). z <ℤ pos 0) (sym (level-cross p b c h g)) (zero_below ((b - p) * get_or ys c 0 + (c - p) * get_or ys p 0) ((c - p) * get_or ys b 0 + (b - p) * get_or ys p 0 + (b - p)) (ltb-true ((b - p) * get_or ys c 0 + (c - p) * get_or ys p 0) ((c - p) * get_or ys b 0 + (b - p) * get_or ys p 0 + (b - p)) t))

  right-level : (p b c : ℕ) → p ≤ b → p ≤ c → cross (at (pos 0) (pos 0) ys p) (at (pos 0) (pos 0) ys b) (under ys c) <ℤ pos 0 → level ys p b c ≡ true
  unfolding level
  right-level p b c h g t = lt-ltb ((b - p) * get_or ys c 0 + (c - p) * get_or ys p 0) ((c - p) * get_or ys b 0 + (b - p) * get_or ys p 0 + (b - p)) (below_zero ((b - p) * get_or ys c 0 + (c - p) * get_or ys p 0) ((c - p) * get_or ys b 0 + (b - p) * get_or ys p 0 + (b - p)) (subst (λ (z : ℤ). z <ℤ pos 0) (level-cross p b c h g) t))

  -- at its left end
  level_self : (p b : ℕ) → p < b → level ys p b p ≡ true
  unfolding level
  level_self p b h = lt-ltb ((b - p) * get_or ys p 0 + (p - p) * get_or ys p 0) ((p - p) * get_or ys b 0 + (b - p) * get_or ys p 0 + (b - p)) (less (p - p) none)
    where
      none : p - p ≡ 0
      none = omega arith

      less : (z : ℕ) → z ≡ 0 → (b - p) * get_or ys p 0 + z * get_or ys p 0 < z * get_or ys b 0 + (b - p) * get_or ys p 0 + (b - p)
      less zero e = omega arith
      less (suc z) e = let t : ⊥ = omega arith in absurd t

-- both tests pass
pub both : (s t : Bool) → (s && t) ≡ true → (s ≡ true) × (t ≡ true)
both true t e = (refl, e)
both false t e = absurd (clash e)
  where
    clash : false ≡ true → ⊥
    clash e = let z : ◌≡◌ {A = ℕ} 0 1 = cc in omega arith

pub two : {s t : Bool} → s ≡ true → t ≡ true → (s && t) ≡ true
two e f = ap₂ (λ (s t : Bool). s && t) e f

module _ (ys : List ℕ) (p b : ℕ) where
  levels_each : (c n j : ℕ) → levels ys p b c n ≡ true → c ≤ j → j < c + n → level ys p b j ≡ true
  unfolding levels
  levels_each c zero j t h g = let z : ⊥ = omega arith in absurd z
  levels_each c (suc n) j t h g = ⊎_elim (λ e. subst (λ (i : ℕ). level ys p b i ≡ true) e (both (level ys p b c) (levels ys p b (suc c) n) t).0) (λ l. levels_each (suc c) n j (both (level ys p b c) (levels ys p b (suc c) n) t).1 l (omega arith)) (eq-or-lt_of_le h)

  each_levels : (c n : ℕ) → ((j : ℕ) → c ≤ j → j < c + n → level ys p b j ≡ true) → levels ys p b c n ≡ true
  unfolding levels
  each_levels c zero f = refl
  each_levels c (suc n) f = two (f c (omega arith) (omega arith)) (each_levels (suc c) n (λ j h g. f j (omega arith) (omega arith)))

-- an edge of the chain, over column c, with all corners on or left of it and the grid point next above c right of it
record Over (ys : List ℕ) (Q : List Corner) (c : ℕ) : Type 0 where
  p : ℕ
  b : ℕ
  edge : (at (pos 0) (pos 0) ys p).0 <ℤ (at (pos 0) (pos 0) ys b).0
  supp : AllLeft Q (at (pos 0) (pos 0) ys p) (at (pos 0) (pos 0) ys b)
  right : cross (at (pos 0) (pos 0) ys p) (at (pos 0) (pos 0) ys b) (under ys c) <ℤ pos 0

x_order : (m n : ℕ) → (pos 0 +ℤ pos m) <ℤ (pos 0 +ℤ pos n) → m < n
x_order m n h = omega (zarith, bal+ (pos 0) (pos m), bal+ (pos 0) (pos n))

order_x : (m n : ℕ) → m < n → (pos 0 +ℤ pos m) <ℤ (pos 0 +ℤ pos n)
order_x m n h = omega (zarith, bal+ (pos 0) (pos m), bal+ (pos 0) (pos n))

module _ (ys : List ℕ) (Q : List Corner) where
  along-over : (p : ℕ) (s : List ℕ) → Chain Q (map (at (pos 0) (pos 0) ys) (p ∷ s)) → level_along ys (p ∷ s) ≡ true → (c : ℕ) → p ≤ c → c < last_of p s → Over ys Q c
  unfolding level_along last_of
  along-over p [] h t c l r = let z : ⊥ = omega arith in absurd z
  along-over p (b ∷ s) h t c l r = go (dec_lt c b) (λ g. along-over b s h.3 (both (levels ys p b (suc p) (b - suc p)) (level_along ys (b ∷ s)) t).1 c g r)
    where
      here : levels ys p b (suc p) (b - suc p) ≡ true
      here = (both (levels ys p b (suc p) (b - suc p)) (level_along ys (b ∷ s)) t).0

      pb : p < b
      pb = x_order p b h.0

      told : c < b → level ys p b c ≡ true
      told g = ⊎_elim (λ e. subst (λ (i : ℕ). level ys p b i ≡ true) e (level_self ys p b pb)) (λ q. levels_each ys p b (suc p) (b - suc p) c here q (omega arith)) (eq-or-lt_of_le l)

      go : Dec (c < b) → (b ≤ c → Over ys Q c) → Over ys Q c
      go (yes g) f = record { p = p; b = b; edge = h.0; supp = h.1; right = level-right ys p b c (omega arith) l (told g) }
      go (no g) f = f (omega arith)

-- the test passes for a column and any two on either side of it
abbrev pub Level : List ℕ → Type 0
Level ys = (a c b : ℕ) → a < c → c < b → b < length ys → level ys a b c ≡ true

module _ (ys : List ℕ) where
  Q : ℕ → List Corner
  Q n = map (at (pos 0) (pos 0) ys) (up_from 0 n)

  in_Q : (n c : ℕ) → c < n → Memᴰ (at (pos 0) (pos 0) ys c) (Q n)
  unfolding Q
  in_Q n c h = Memᴰ.map (at (pos 0) (pos 0) ys) (up_from_in 0 n c (omega arith) (omega arith))

  chained : (n : ℕ) → Chain (Q n) (map (at (pos 0) (pos 0) ys) (chain_from ys 0 n))
  unfolding Q
  chained n = subst (Chain (Q n)) (chain_cols (pos 0) (pos 0) ys 0 n) (chain_ok (Q n) (cols_sorted (pos 0) (pos 0) ys 0 n))

  over-level : (n a c b : ℕ) → a < c → c < b → b < n → Over ys (Q n) c → level ys a b c ≡ true
  over-level n a c b h g l o =
      right-level ys a b c (omega arith) (omega arith)
      (right_chord (at (pos 0) (pos 0) ys o.p) (at (pos 0) (pos 0) ys o.b) (at (pos 0) (pos 0) ys a) (at (pos 0) (pos 0) ys b) (under ys c) o.edge
      (o.supp (at (pos 0) (pos 0) ys a) (in_Q n a (omega arith))) (o.supp (at (pos 0) (pos 0) ys b) (in_Q n b l)) o.right (order_x a c h) (order_x c b g))

  along-level : (n : ℕ) → level_along ys (chain_from ys 0 n) ≡ true → (a c b : ℕ) → a < c → c < b → b < n → level ys a b c ≡ true
  unfolding chain_from last_of
  along-level zero t a c b h g l = let z : ⊥ = omega arith in absurd z
  along-level (suc n) t a c b h g l = over-level (suc n) a c b h g l (along-over ys (Q (suc n)) 0 (cut_at ys 0 (chain_from ys 1 n)) (chained (suc n)) t c (omega arith) (omega (arith, chain-last ys 0 0 n)))

  level-along : (n p : ℕ) (s : List ℕ) → ((a c b : ℕ) → a < c → c < b → b < n → level ys a b c ≡ true) → ((c : ℕ) → Memᴰ c (p ∷ s) → c < n) → level_along ys (p ∷ s) ≡ true
  unfolding level_along
  level-along n p [] f i = refl
  level-along n p (b ∷ s) f i = two (each_levels ys p b (suc p) (b - suc p) (λ j h g. f p j b h (omega arith) (i b (Memᴰ.tail (Memᴰ.head refl))))) (level-along n b s f (λ c m. i c (Memᴰ.tail m)))

  level-chain : (n : ℕ) → ((a c b : ℕ) → a < c → c < b → b < n → level ys a b c ≡ true) → level_along ys (chain_from ys 0 n) ≡ true
  unfolding chain_from level_along
  level-chain zero f = refl
  level-chain (suc n) f = level-along (suc n) 0 (cut_at ys 0 (chain_from ys 1 n)) f (λ c m. omega (arith, (chain_in_lem ys 0 (suc n) c m).1))

  -- the columns' test on the chain passes exactly when it passes for any two columns
  pub level_of_exactly : (level_of ys ≡ true) ↔ Level ys
  unfolding level_of
  level_of_exactly = (along-level (length ys), level-chain (length ys))

-- the columns of a chain stand from left to right
rises : (ys : List ℕ) (Q : List Corner) (p : ℕ) (s : List ℕ) → Chain Q (map (at (pos 0) (pos 0) ys) (p ∷ s)) → (i : ℕ) → i + 1 < length (p ∷ s) → get_or (p ∷ s) i 0 < get_or (p ∷ s) (i + 1) 0
rises ys Q p [] h i g = let z : ⊥ = omega arith in absurd z
rises ys Q p (b ∷ s) h zero g = x_order p b h.0
rises ys Q p (b ∷ s) h (suc i) g = subst (λ (m : ℕ). get_or (b ∷ s) i 0 < get_or (p ∷ (b ∷ s)) m 0) (over i) (rises ys Q b s h.3 i (omega arith))
  where
    over : (i : ℕ) → suc (i + 1) ≡ suc i + 1
    over i = omega arith

pub chain_rises : (ys : List ℕ) (n i : ℕ) → i + 1 < length (chain_from ys 0 n) → get_or (chain_from ys 0 n) i 0 < get_or (chain_from ys 0 n) (i + 1) 0
unfolding chain_from
chain_rises ys zero i h = let z : ⊥ = omega arith in absurd z
chain_rises ys (suc n) i h = rises ys (Q ys (suc n)) 0 (cut_at ys 0 (chain_from ys 1 n)) (chained ys (suc n)) i h
