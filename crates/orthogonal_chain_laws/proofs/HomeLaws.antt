-- The chain from the lowest row whose left end is least begins at the lowest of its leftmost corners.
-- Assumes nothing.
use mathlib.Core.Bool.{Bool, true, false, cond}
use mathlib.Core.List.Memᴰ
use mathlib.Core.Logic.{◌⊎◌, inl, inr, ⊎_elim}
use mathlib.Core.Path.{◌≡◌, refl, ap, sym, ◌∙◌, subst}
use Prim.Native.Nat.{ℕ, zero, suc, ◌+◌, ◌-◌, ◌*◌, ◌<◌, ◌≤◌}
use native.Mathlib.Decide.{dec_lt}
use native.Mathlib.Omega.{arith}
use borrow.Author.Tests.{ltb-true, ltb-false}
use lib.Dec.{ltb}
use lib.IntN.{pos}
use lib.ListN.{length}
use Rattle.int_laws.proofs.LinearLaws.{zarith, bal+}
use Rattle.grid.specs.declared.Corner.{Corner}
use Rattle.grid.proofs.StepLaws.{start_from_mem}
use Rattle.grid.specs.Grid.{Begins}
use Rattle.column_laws.proofs.BeginLaws.{begins_self}
use Rattle.outline.specs.Outline.{home_of}
use Rattle.outline_laws.proofs.HomeLaws.{home_one}
use Rattle.orthogonal_chain_laws.specs.Chain.{Piled, Bulges, corner_by, chain_from_row, home_row, chain_from_home}
use Rattle.orthogonal_chain_laws.proofs.ArcLaws.{Spot}
use Rattle.orthogonal_chain_laws.proofs.SideLaws.{OnLeftSide, OnRightSide, OnChain, arc_chain}
use Rattle.orthogonal_chain_laws.proofs.LengthLaws.{falls_down, bulge_least, bulge_length}

-- row m has the least left end of the rows 0 to t, and no row below it does
pub record LowestLeast (l : ℕ → ℕ) (t m : ℕ) : Type 0 where
  pub among : m ≤ t
  pub least : (q : ℕ) → q ≤ t → l m ≤ l q
  pub lowest : (q : ℕ) → q < m → l m < l q

pub home_row-is : (l : ℕ → ℕ) (t : ℕ) → LowestLeast l t (home_row l t)
home_row-is l zero = record { among = omega arith; least = λ q h. omega (arith, same q h); lowest = λ q h. absurd (omega arith) }
  where
    same : (q : ℕ) → q ≤ 0 → l 0 ≡ l q
    same q h = ap l (omega arith)
home_row-is l (suc t) = by (ltb (l (suc t)) (l (home_row l t))) refl (home_row-is l t)
  where
    last : (q : ℕ) → (q < suc t → ⊥) → q ≤ suc t → l (suc t) ≡ l q
    last q u h = ap l (omega arith)

    by : (b : Bool) → ltb (l (suc t)) (l (home_row l t)) ≡ b → LowestLeast l t (home_row l t) → LowestLeast l (suc t) (cond b (suc t) (home_row l t))
    by true e i =
        let g = ltb-true (l (suc t)) (l (home_row l t)) e in
        record { among = omega arith; least = λ q h. elim (dec_lt q (suc t)) [ yes u ↦ omega (arith, g, i.least q (omega arith)) | no u ↦ omega (arith, last q u h) ]; lowest = λ q h. omega (arith, g, i.least q (omega arith)) }
    by false e i =
        let g = ltb-false (l (suc t)) (l (home_row l t)) e in
        record { among = omega (arith, i.among); least = λ q h. elim (dec_lt q (suc t)) [ yes u ↦ i.least q (omega arith) | no u ↦ omega (arith, g, last q u h) ]; lowest = i.lowest }

module _ (o : Corner) (l r : ℕ → ℕ) (t : ℕ) (p : Piled l r t) (m : ℕ) (i : LowestLeast l t m) where
  -- (x,y) does not come before the left end of row m's foot
  abbrev After : ℕ → ℕ → Type 0
  After x y = (l m < x) ⊎ ((l m ≡ x) × (m ≤ y))

  after : (x y : ℕ) → l m ≤ x → m ≤ y → After x y
  after x y h g = elim (dec_lt (l m) x) [ yes u ↦ inl u | no u ↦ inr (omega arith, g) ]

  left_after : (a e x y : ℕ) → e ≤ t → OnLeftSide l a e x y → After x y
  left_after a e x y h s =
      elim (dec_lt y m) [
        | yes u ↦ inl (⊎_elim (λ z. omega (arith, z, i.lowest y u)) (λ z. omega (arith, z, i.lowest (y - 1) (omega arith))) s.least)
        | no u ↦ after x y (⊎_elim (λ z. omega (arith, z, i.least y (omega (arith, s.high)))) (λ z. omega (arith, z, i.least (y - 1) (omega (arith, s.high)))) s.least) (omega arith)
      ]

  right-after : (x y : ℕ) → OnRightSide r 0 t x y → After x y
  right-after x y s =
      elim (dec_lt t y) [
        | yes u ↦ inl (omega (arith, s.top (omega (arith, s.high)), p.wide t (omega arith), i.least t (omega arith)))
        | no u ↦ inl (⊎_elim (λ z. omega (arith, z, p.wide y (omega arith), i.least y (omega arith))) (λ z. omega (arith, z, p.wide (y - 1) (omega arith), i.least (y - 1) (omega arith))) (s.least (omega arith)))
      ]

  chain-after : (x y : ℕ) → OnChain l r t m x y → After x y
  chain-after x y =
      ⊎_elim (left_after 0 m x y i.among)
      (⊎_elim (λ z. inl (omega (arith, z.0.0, i.least 0 (omega arith))))
      (⊎_elim (right-after x y)
      (⊎_elim (λ z. after x y (omega (arith, z.0.0, i.least t (omega arith))) (omega (arith, z.1, i.among)))
      (left_after m t x y (omega arith)))))

  after_begins : (x y : ℕ) → After x y → Begins (corner_by o (l m) m) (corner_by o x y)
  after_begins x y (inl h) = inl (omega (zarith, h, bal+ o.0 (pos (l m)), bal+ o.0 (pos x)))
  after_begins x y (inr h) = inr (omega (zarith, h.0, bal+ o.0 (pos (l m)), bal+ o.0 (pos x)), omega (zarith, h.1, bal+ o.1 (pos m), bal+ o.1 (pos y)))

  row_home : home_of (corner_by o (l m) m) (chain_from_row l r t m) ≡ corner_by o (l m) m
  row_home = home_one c (chain_from_row l r t m) c (start_from_mem c (chain_from_row l r t m)) (λ q n. ⊎_elim (λ e. subst (Begins c) (sym e) (begins_self c)) (λ k. later q ((arc_chain o l r t p m i.among).corners q k)) (Memᴰ.cases_cons n))
    where
      c : Corner
      c = corner_by o (l m) m

      later : (q : Corner) → Spot o (OnChain l r t m) q → Begins c q
      later q s = subst (Begins c) (sym s.is) (after_begins s.x s.y (chain-after s.x s.y s.holds))

pub chain_home : (o : Corner) (l r : ℕ → ℕ) (t : ℕ) → Piled l r t → home_of (corner_by o (l (home_row l t)) (home_row l t)) (chain_from_home l r t) ≡ corner_by o (l (home_row l t)) (home_row l t)
chain_home o l r t p = row_home o l r t p (home_row l t) (home_row-is l t)

-- where the left ends turn, they may turn at that row too
home_bulges : {l r : ℕ → ℕ} {t k j : ℕ} → Bulges l r t k j → Bulges l r t (home_row l t) j
home_bulges {l} {r} {t} {k} {j} b =
    record {
      left = i.among;
      left_falls = λ q h. b.left_falls q (omega (arith, below));
      left_rises = λ q h u. elim (dec_lt q k) [ yes z ↦ omega (arith, flat q h z, i.least (suc q) (omega arith)) | no z ↦ b.left_rises q (omega arith) u ];
      right = b.right;
      right_rises = b.right_rises;
      right_falls = b.right_falls;
    }
  where
    i : LowestLeast l t (home_row l t)
    i = home_row-is l t

    below : home_row l t ≤ k
    below = elim (dec_lt k (home_row l t)) [ yes z ↦ absurd (omega (arith, i.lowest k z, bulge_least b (home_row l t) i.among)) | no z ↦ omega arith ]

    flat : (q : ℕ) → home_row l t ≤ q → q < k → l q ≤ l (home_row l t)
    flat q h z = omega (arith, falls_down l (home_row l t) (q - home_row l t) (λ n u v. b.left_falls n (omega arith)), up)
      where
        up : l (home_row l t + (q - home_row l t)) ≡ l q
        up = ap l (omega arith)

-- twice the width and twice the height
pub chain_length : {l r : ℕ → ℕ} {t k j : ℕ} → Piled l r t → Bulges l r t k j → length (chain_from_home l r t) ≡ 2 * (r j - l k) + 2 * suc t
chain_length {l} {r} {t} {k} {j} p b = bulge_length (home_bulges b) p ∙ ap (λ (n : ℕ). 2 * (r j - n) + 2 * suc t) (omega (arith, (home_row-is l t).least k b.left, bulge_least b (home_row l t) (home_row-is l t).among))
