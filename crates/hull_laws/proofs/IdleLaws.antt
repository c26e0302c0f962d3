-- A column that makes no left turn between its two neighbours may be passed over: the chain is the same.
-- Assumes nothing.
use mathlib.Core.Path.{◌≡◌, refl, sym, ap, ap₂, ◌∙◌, subst}
use mathlib.Core.Bool.{Bool, true, false}
use mathlib.Core.List.{List, [], ◌∷◌}
use mathlib.Core.Logic.{◌⊎◌, inl, inr}
use Prim.Native.Nat.{ℕ, zero, suc, ◌+◌, ◌-◌, ◌≤◌, ◌<◌}
use native.Mathlib.Omega.{arith}
use native.Mathlib.Decide.{dec_lt}
use lib.ListN.{drop}
use lib.IntN.{ℤ, pos}
use lib.Signed.{◌≤ℤ◌, ◌<ℤ◌}
use Rattle.int_laws.proofs.LinearLaws.{zarith, bal+}
use Rattle.int_laws.proofs.RangeLaws.{lt_true, lt_false}
use Rattle.int_laws.proofs.RingLaws.{◌⊖◌}
use Rattle.int_laws.proofs.SignLaws.{h≤, h<, hw, ◌⊞◌, ◌⊠◌, by≤÷}
use Rattle.grid.specs.declared.Corner.{Corner}
use Rattle.hull.specs.Hull.{cross}
use Rattle.grid.specs.Grid.{numbers}
use Rattle.hull_laws.specs.Chain.{turns_at, cut_at, chain_from, turn_from}
use Rattle.hull_laws.proofs.CornerLaws.{X, cr, O}
use Rattle.hull_laws.proofs.ChainLaws.{turns}
use Rattle.hull_laws.proofs.ScanLaws.{turns_cols}
use Rattle.hull_laws.proofs.SinkLaws.{at}

-- p, q, b, a from left to right without a left turn at q and at b: none at q on the way to a
near_flat : (p q b a : Corner) → p.0 <ℤ q.0 → q.0 <ℤ b.0 → b.0 <ℤ a.0 → cross p q b ≤ℤ pos 0 → cross q b a ≤ℤ pos 0 → cross p q a ≤ℤ pos 0
unfolding cross
near_flat p q b a i j l h g =
    let ρ = numbers (p ∷ q ∷ b ∷ a ∷ []) in
    by≤÷ (X 2 ⊖ X 1) (cr 0 1 3) O (h< 8 ρ (X 1) (X 2) j) ((hw 8 ρ (X 1) (X 2) j ⊞ hw 8 ρ (X 2) (X 3) l) ⊠ h≤ 8 ρ (cr 0 1 2) O h ⊞ hw 8 ρ (X 0) (X 1) i ⊠ h≤ 8 ρ (cr 1 2 3) O g) tt

-- and none at b on the way from p
far_flat : (p q b a : Corner) → p.0 <ℤ q.0 → q.0 <ℤ b.0 → b.0 <ℤ a.0 → cross p q b ≤ℤ pos 0 → cross q b a ≤ℤ pos 0 → cross p b a ≤ℤ pos 0
unfolding cross
far_flat p q b a i j l h g =
    let ρ = numbers (p ∷ q ∷ b ∷ a ∷ []) in
    by≤÷ (X 2 ⊖ X 1) (cr 0 2 3) O (h< 8 ρ (X 1) (X 2) j) (hw 8 ρ (X 2) (X 3) l ⊠ h≤ 8 ρ (cr 0 1 2) O h ⊞ (hw 8 ρ (X 0) (X 1) i ⊞ hw 8 ρ (X 1) (X 2) j) ⊠ h≤ 8 ρ (cr 1 2 3) O g) tt

-- columns from left to right, right of q
abbrev Rising : ℕ → List ℕ → Type 0
Rising q [] = Unit {0}
Rising q (b ∷ s) = (q < b) × Rising b s

module _ (ys : List ℕ) where
  flat_cross : (p b a : ℕ) → p < b → p < a → turns_at ys p b a ≡ false → cross (at (pos 0) (pos 0) ys p) (at (pos 0) (pos 0) ys b) (at (pos 0) (pos 0) ys a) ≤ℤ pos 0
  unfolding turns
  flat_cross p b a h g t = lt_false (turns_cols (pos 0) (pos 0) ys p b a h g ∙ t)

  cross_flat : (p b a : ℕ) → p < b → p < a → cross (at (pos 0) (pos 0) ys p) (at (pos 0) (pos 0) ys b) (at (pos 0) (pos 0) ys a) ≤ℤ pos 0 → turns_at ys p b a ≡ false
  unfolding turns
  cross_flat p b a h g n = go (turns_at ys p b a) refl
    where
      clash : (z : ℤ) → pos 0 <ℤ z → z ≤ℤ pos 0 → ⊥
      clash z l n = omega zarith

      go : (t : Bool) → turns_at ys p b a ≡ t → t ≡ false
      go false e = refl
      go true e = absurd (clash (cross (at (pos 0) (pos 0) ys p) (at (pos 0) (pos 0) ys b) (at (pos 0) (pos 0) ys a)) (lt_true (turns_cols (pos 0) (pos 0) ys p b a h g ∙ e)) n)

  right : (p b : ℕ) → p < b → (at (pos 0) (pos 0) ys p).0 <ℤ (at (pos 0) (pos 0) ys b).0
  right p b h = omega (zarith, bal+ (pos 0) (pos p), bal+ (pos 0) (pos b))

  -- the same of columns
  flat_near : (p q b a : ℕ) → p < q → q < b → b < a → turns_at ys p q b ≡ false → turns_at ys q b a ≡ false → turns_at ys p q a ≡ false
  flat_near p q b a i j l h g =
      cross_flat p q a i (omega arith)
      (near_flat (at (pos 0) (pos 0) ys p) (at (pos 0) (pos 0) ys q) (at (pos 0) (pos 0) ys b) (at (pos 0) (pos 0) ys a) (right p q i) (right q b j) (right b a l) (flat_cross p q b i (omega arith) h) (flat_cross q b a j (omega arith) g))

  flat_far : (p q b a : ℕ) → p < q → q < b → b < a → turns_at ys p q b ≡ false → turns_at ys q b a ≡ false → turns_at ys p b a ≡ false
  flat_far p q b a i j l h g =
      cross_flat p b a (omega arith) (omega arith)
      (far_flat (at (pos 0) (pos 0) ys p) (at (pos 0) (pos 0) ys q) (at (pos 0) (pos 0) ys b) (at (pos 0) (pos 0) ys a) (right p q i) (right q b j) (right b a l) (flat_cross p q b i (omega arith) h) (flat_cross q b a j (omega arith) g))

  -- the chain rises
  cut_rising : (p : ℕ) (s : List ℕ) → Rising p s → Rising p (cut_at ys p s)
  unfolding cut_at
  cut_rising p [] r = r
  cut_rising p (b ∷ []) r = r
  cut_rising p (b ∷ (a ∷ s)) r = go (turns_at ys p b a) (cut_rising p (a ∷ s) (omega (arith, r.0, r.1.0), r.1.1))
    where
      go : (t : Bool) → Rising p (cut_at ys p (a ∷ s)) → Rising p (elim t as (λ x. List ℕ) [ true ↦ b ∷ (a ∷ s) | false ↦ cut_at ys p (a ∷ s) ])
      go true m = r
      go false m = m

  chain_rising : (q i k : ℕ) → q < i → Rising q (chain_from ys i k)
  unfolding chain_from
  chain_rising q i zero h = tt
  chain_rising q i (suc k) h = (h, cut_rising i (chain_from ys (suc i) k) (chain_rising i (suc i) k (omega arith)))

  -- one turn of the cut
  cut-kept : (p b a : ℕ) (s : List ℕ) → turns_at ys p b a ≡ true → cut_at ys p (b ∷ (a ∷ s)) ≡ b ∷ (a ∷ s)
  unfolding cut_at
  cut-kept p b a s t = ap (λ (t : Bool). elim t as (λ x. List ℕ) [ true ↦ b ∷ (a ∷ s) | false ↦ cut_at ys p (a ∷ s) ]) t

  cut_dropped : (p b a : ℕ) (s : List ℕ) → turns_at ys p b a ≡ false → cut_at ys p (b ∷ (a ∷ s)) ≡ cut_at ys p (a ∷ s)
  unfolding cut_at
  cut_dropped p b a s t = ap (λ (t : Bool). elim t as (λ x. List ℕ) [ true ↦ b ∷ (a ∷ s) | false ↦ cut_at ys p (a ∷ s) ]) t

  cut-one : (p b : ℕ) → cut_at ys p (b ∷ []) ≡ b ∷ []
  unfolding cut_at
  cut-one p b = refl

  -- q, which makes no left turn between p and the first of a chain, may be left out
  absorb : (p q b : ℕ) (s : List ℕ) → p < q → Rising q (b ∷ s) → turns_at ys p q b ≡ false → cut_at ys p (q ∷ cut_at ys q (b ∷ s)) ≡ cut_at ys p (b ∷ s)
  absorb p q b [] i r t = ap (λ (l : List ℕ). cut_at ys p (q ∷ l)) (cut-one q b) ∙ cut_dropped p q b [] t
  absorb p q b (a ∷ s) i r t = go (turns_at ys q b a) refl (λ h. absorb p q a s i (omega (arith, r.0, r.1.0), r.1.1) h)
    where
      go : (u : Bool) → turns_at ys q b a ≡ u → (turns_at ys p q a ≡ false → cut_at ys p (q ∷ cut_at ys q (a ∷ s)) ≡ cut_at ys p (a ∷ s)) → cut_at ys p (q ∷ cut_at ys q (b ∷ (a ∷ s))) ≡ cut_at ys p (b ∷ (a ∷ s))
      go true u f = ap (λ (l : List ℕ). cut_at ys p (q ∷ l)) (cut-kept q b a s u) ∙ cut_dropped p q b (a ∷ s) t
      go false u f =
          ap (λ (l : List ℕ). cut_at ys p (q ∷ l)) (cut_dropped q b a s u)
          ∙ f (flat_near p q b a i r.0 r.1.0 t u)
          ∙ sym (cut_dropped p b a s (flat_far p q b a i r.0 r.1.0 t u))

  chain_next : (i n : ℕ) → i < n → chain_from ys i (n - i) ≡ i ∷ cut_at ys i (chain_from ys (suc i) (n - suc i))
  unfolding chain_from
  chain_next i n h = ap (chain_from ys i) more
    where
      more : n - i ≡ suc (n - suc i)
      more = omega arith

-- the columns between p and r are passed over: the chain from r on is enough for p and what lies left of it
record Skipped (ys : List ℕ) (n p r : ℕ) : Type 0 where
  right : suc p < r
  within : r < n
  flat : turns_at ys p (suc p) r ≡ false
  same : chain_from ys (suc p) (n - suc p) ≡ suc p ∷ cut_at ys (suc p) (chain_from ys r (n - r))

-- what the scan has at column p: the chain of what lies right of it, or that from a column r on after those that are passed over
record Passed (ys : List ℕ) (n p : ℕ) (l : List ℕ) : Type 0 where
  r : ℕ
  first : suc p ≤ r
  held : l ≡ chain_from ys r (n - r)
  between : (r ≡ suc p) ⊎ Skipped ys n p r

module _ (ys : List ℕ) (n : ℕ) where
  -- p meets the same chain
  met : (p r : ℕ) → (r ≡ suc p) ⊎ Skipped ys n p r → cut_at ys p (chain_from ys (suc p) (n - suc p)) ≡ cut_at ys p (chain_from ys r (n - r))
  met p r (inl e) = ap (λ (r : ℕ). cut_at ys p (chain_from ys r (n - r))) (sym e)
  met p r (inr k) =
      ap (cut_at ys p) (k.same ∙ ap (λ (l : List ℕ). suc p ∷ cut_at ys (suc p) l) (chain_next ys r n k.within))
      ∙ absorb ys p (suc p) r (cut_at ys r (chain_from ys (suc r) (n - suc r))) (omega arith) (subst (Rising (suc p)) (chain_next ys r n k.within) (chain_rising ys (suc p) r (n - r) k.right)) k.flat
      ∙ ap (cut_at ys p) (sym (chain_next ys r n k.within))

  chain-met : (p r : ℕ) → p < n → (r ≡ suc p) ⊎ Skipped ys n p r → chain_from ys p (n - p) ≡ p ∷ cut_at ys p (chain_from ys r (n - r))
  chain-met p r h k = chain_next ys p n h ∙ ap (λ (l : List ℕ). p ∷ l) (met p r k)

  passed_over : (p : ℕ) (l : List ℕ) → suc (suc p) < n → turns_at ys p (suc p) (suc (suc p)) ≡ false → Passed ys n (suc p) l → Passed ys n p l
  passed_over p l h t k = record {
    r = k.r;
    first = omega (arith, k.first);
    held = k.held;
    between = inr (record { right = omega (arith, k.first); within = inside k.between; flat = flat k.between; same = chain-met (suc p) k.r (omega arith) k.between });
  }
    where
      inside : (k.r ≡ suc (suc p)) ⊎ Skipped ys n (suc p) k.r → k.r < n
      inside (inl e) = omega (arith, e)
      inside (inr m) = m.within

      flat : (k.r ≡ suc (suc p)) ⊎ Skipped ys n (suc p) k.r → turns_at ys p (suc p) k.r ≡ false
      flat (inl e) = ap (turns_at ys p (suc p)) e ∙ t
      flat (inr m) = flat_near ys p (suc p) (suc (suc p)) k.r (omega arith) (omega arith) m.right t m.flat

  passed_turn : (j : ℕ) (l : List ℕ) → suc j < n → Passed ys n j l → Passed ys n (turn_from ys j) l
  unfolding turn_from
  passed_turn zero l h k = k
  passed_turn (suc j) l h k = go (turns_at ys j (suc j) (suc (suc j))) refl (λ m. passed_turn j l (omega arith) m)
    where
      go : (t : Bool) → turns_at ys j (suc j) (suc (suc j)) ≡ t → (Passed ys n j l → Passed ys n (turn_from ys j) l) → Passed ys n (elim t as (λ x. ℕ) [ true ↦ suc j | false ↦ turn_from ys j ]) l
      go true t f = k
      go false t f = f (passed_over j l h t k)

turns_suc : (ys : List ℕ) (j : ℕ) → turns_at ys j (suc j) (suc (suc j)) ≡ turns_at ys (suc j - 1) (suc j) (suc j + 1)
turns_suc ys j = ap₂ (λ (p a : ℕ). turns_at ys p (suc j) a) back next
  where
    back : j ≡ suc j - 1
    back = omega arith

    next : suc (suc j) ≡ suc j + 1
    next = omega arith

-- where the columns that are passed over end
turn_le : (ys : List ℕ) (j : ℕ) → turn_from ys j ≤ j
unfolding turn_from
turn_le ys zero = omega arith
turn_le ys (suc j) = go (turns_at ys j (suc j) (suc (suc j))) (turn_le ys j)
  where
    go : (t : Bool) → turn_from ys j ≤ j → (elim t as (λ x. ℕ) [ true ↦ suc j | false ↦ turn_from ys j ]) ≤ suc j
    go true h = omega arith
    go false h = omega (arith, h)

pub turn_none : (ys : List ℕ) (j : ℕ) → j ≤ 0 → j ≡ turn_from ys j
unfolding turn_from
turn_none ys zero h = refl
turn_none ys (suc j) h = let z : ⊥ = omega arith in absurd z

pub turn_here : (ys : List ℕ) (j : ℕ) → 0 < j → turns_at ys (j - 1) j (j + 1) ≡ true → j ≡ turn_from ys j
unfolding turn_from
turn_here ys zero h t = let z : ⊥ = omega arith in absurd z
turn_here ys (suc j) h t = sym (ap (λ (t : Bool). elim t as (λ x. ℕ) [ true ↦ suc j | false ↦ turn_from ys j ]) (turns_suc ys j ∙ t))

pub turn_next : (ys : List ℕ) (j : ℕ) → 0 < j → turns_at ys (j - 1) j (j + 1) ≡ false → turn_from ys (j - 1) ≡ turn_from ys j
unfolding turn_from
turn_next ys zero h t = let z : ⊥ = omega arith in absurd z
turn_next ys (suc j) h t = ap (turn_from ys) back ∙ sym (ap (λ (t : Bool). elim t as (λ x. ℕ) [ true ↦ suc j | false ↦ turn_from ys j ]) (turns_suc ys j ∙ t))
  where
    back : suc j - 1 ≡ j
    back = omega arith

-- a turn of the scan: from the chain of i on to that of the next column that is put in front
scan_turn : (ys : List ℕ) (n i r : ℕ) (l m : List ℕ) → 0 < i → i < n → r ≡ turn_from ys (i - 1) → l ≡ chain_from ys i (n - i) → m ≡ r ∷ cut_at ys r l → m ≡ chain_from ys r (n - r)
scan_turn ys n i r l m a b e f g = g ∙ front (subst (λ (j : ℕ). Passed ys n j l) (sym e) (passed_turn ys n (i - 1) l (omega arith) start))
  where
    start : Passed ys n (i - 1) l
    start = record { r = i; first = omega arith; held = f; between = inl back }
      where
        back : i ≡ suc (i - 1)
        back = omega arith

    front : Passed ys n r l → r ∷ cut_at ys r l ≡ chain_from ys r (n - r)
    front k = ap (λ (t : List ℕ). r ∷ cut_at ys r t) k.held ∙ sym (chain-met ys n r k.r (omega (arith, turn_le ys (i - 1))) k.between)

-- the last column is put in front of nothing
scan_first : (ys : List ℕ) (n i r : ℕ) (l m : List ℕ) → 0 < i → n ≡ i → r ≡ i - 1 → l ≡ chain_from ys i (n - i) → m ≡ r ∷ cut_at ys r l → m ≡ chain_from ys r (n - r)
scan_first ys n i r l m a b e f g = g ∙ ap (λ (t : List ℕ). r ∷ cut_at ys r t) (f ∙ ap (λ (j : ℕ). chain_from ys j (n - j)) back) ∙ sym (chain_next ys r n (omega arith))
  where
    back : i ≡ suc r
    back = omega arith

-- the column that comes in front, of either kind
module _ (ys : List ℕ) (n i r : ℕ) (above : 0 < i) (within : i ≤ n) (last : n ≡ i → r ≡ i - 1) (other : i < n → r ≡ turn_from ys (i - 1)) where
  pub next_lt : r < i
  next_lt = go (dec_lt i n)
    where
      go : Dec (i < n) → r < i
      go (yes h) = omega (arith, other h, turn_le ys (i - 1))
      go (no h) = omega (arith, last (omega arith))

  pub scan_next : (l m : List ℕ) → l ≡ chain_from ys i (n - i) → m ≡ r ∷ cut_at ys r l → m ≡ chain_from ys r (n - r)
  scan_next l m f g = go (dec_lt i n)
    where
      go : Dec (i < n) → m ≡ chain_from ys r (n - r)
      go (yes h) = scan_turn ys n i r l m above h (other h) f g
      go (no h) = let e : n ≡ i = omega arith in scan_first ys n i r l m above e (last e) f g

pub scan_done : (ys s : List ℕ) (q i n : ℕ) → i ≤ 0 → drop q s ≡ chain_from ys i (n - i) → drop q s ≡ chain_from ys 0 n
scan_done ys s q i n h e = e ∙ ap₂ (chain_from ys) none all
  where
    none : i ≡ 0
    none = omega arith

    all : n - i ≡ n
    all = omega arith
