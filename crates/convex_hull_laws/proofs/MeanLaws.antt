-- A set of panels that holds every panel whose centre lies in the convex hull of its centres: it has no gap in a row or a column, and holds what lies in a triangle.
-- Assumes nothing.
use mathlib.Core.List.Memᴰ
use mathlib.Core.List.{List, [], ◌∷◌, ◌++◌, map, Memᴰ}
use mathlib.Core.Logic.{◌⊎◌, inl, inr, ⊎_elim}
use mathlib.Core.Path.{◌≡◌, refl, sym, ap, ap₂, ◌∙◌, subst}
use Prim.Native.Nat.{ℕ, zero, suc, ◌+◌, ◌*◌, ◌<◌}
use native.Mathlib.Omega.{arith}
use lib.IntN.{ℤ, pos, suc_ℤ, pred_ℤ, neg_ℤ, nat_abs, -ℤ_one, ◌+ℤ◌, ◌-ℤ◌, ◌*ℤ◌}
use lib.ListN.{length, replicate, length-append, length-map}
use lib.Signed.{◌<ℤ◌, ◌≤ℤ◌}
use Rattle.int_laws.proofs.LinearLaws.{zarith, bal+, bal-}
use Rattle.int_laws.proofs.NextLaws.{above, bal_suc, bal_pred}
use Rattle.int_laws.proofs.RingLaws.{ring, v, k, ◌⊕◌, ◌⊖◌, ◌⊗◌, ⊝}
use Rattle.int_laws.proofs.RangeLaws.{abs_nat}
use native.Mathlib.Numerals.{unary_clauses}
use Rattle.lists.specs.Lists.{sum_of}
use Rattle.lists.proofs.CountLaws.{sum-append}
use Rattle.grid.specs.declared.{Panel.Panel}
use Rattle.grid.specs.Grid.{corner, panel_at}
use Rattle.convex.specs.Centres.{InHull}

pub pos_suc : (n : ℕ) → pos 1 +ℤ pos n ≡ pos (suc n)
pos_suc n = ap pos (omega arith)

-- panels taken as often as one likes
module _ (p : Panel) where
  sum-replicate : (f : Panel → ℤ) (n : ℕ) → sum_of f (replicate n p) ≡ pos n *ℤ f p
  sum-replicate f zero = ring 1 (f p ∷ []) (k (pos 0)) (k (pos 0) ⊗ v 0) tt
  sum-replicate f (suc n) = ap (λ (z : ℤ). f p +ℤ z) (sum-replicate f n) ∙ ring 2 (f p ∷ pos n ∷ []) (v 0 ⊕ v 1 ⊗ v 0) ((k (pos 1) ⊕ v 1) ⊗ v 0) tt ∙ ap (λ (z : ℤ). z *ℤ f p) (pos_suc n)

  length-replicate : (n : ℕ) → length (replicate n p) ≡ n
  length-replicate zero = refl
  length-replicate (suc n) = ap suc (length-replicate n)

  all_replicate : (S : Panel → Type 0) → S p → (n : ℕ) (q : Panel) → Memᴰ q (replicate n p) → S q
  all_replicate S s zero q m = absurd (Memᴰ.not-nil m)
  all_replicate S s (suc n) q m = ⊎_elim (λ e. subst S (sym e) s) (all_replicate S s n q) (Memᴰ.cases_cons m)

-- ---- panels that are carried elsewhere

-- a coordinate of the images that is a coordinate of the panels, or that one mirrored
module _ (g : Panel → Panel) (f h : Panel → ℤ) where
  abbrev Total : (Panel → ℤ) → List Panel → Panel → Type 0
  Total f ps q = sum_of f ps ≡ pos (length ps) *ℤ f q

  pub total-same : ((p : Panel) → f (g p) ≡ h p) → (ps : List Panel) (q : Panel) → Total h ps q → Total f (map g ps) (g q)
  total-same e ps q t = sum ps ∙ t ∙ ap₂ (λ (n : ℕ) (z : ℤ). pos n *ℤ z) (sym (length-map ps g)) (sym (e q))
    where
      sum : (ps : List Panel) → sum_of f (map g ps) ≡ sum_of h ps
      sum [] = refl
      sum (p ∷ ps) = ap₂ ◌+ℤ◌ (e p) (sum ps)

  pub total-mirrored : ((p : Panel) → f (g p) ≡ pred_ℤ (neg_ℤ (h p))) → (ps : List Panel) (q : Panel) → Total h ps q → Total f (map g ps) (g q)
  total-mirrored e ps q t =
      sum ps
      ∙ ap (λ (z : ℤ). neg_ℤ z -ℤ pos (length ps)) t
      ∙ ring 2 (pos (length ps) ∷ h q ∷ []) (⊝ (v 0 ⊗ v 1) ⊖ v 0) (v 0 ⊗ (⊝ (v 1) ⊖ k (pos 1))) tt
      ∙ ap₂ (λ (n : ℕ) (z : ℤ). pos n *ℤ z) (sym (length-map ps g)) (-ℤ_one (neg_ℤ (h q)) ∙ sym (e q))
    where
      sum : (ps : List Panel) → sum_of f (map g ps) ≡ neg_ℤ (sum_of h ps) -ℤ pos (length ps)
      sum [] = refl
      sum (p ∷ ps) =
          ap₂ ◌+ℤ◌ (e p ∙ sym (-ℤ_one (neg_ℤ (h p)))) (sum ps)
          ∙ ring 3 (h p ∷ sum_of h ps ∷ pos (length ps) ∷ []) ((⊝ (v 0) ⊖ k (pos 1)) ⊕ (⊝ (v 1) ⊖ v 2)) (⊝ (v 0 ⊕ v 1) ⊖ (k (pos 1) ⊕ v 2)) tt
          ∙ ap (λ (z : ℤ). neg_ℤ (h p +ℤ sum_of h ps) -ℤ z) (pos_suc (length ps))

-- what is said of the images of a list
pub all_map : (S : Panel → Type 0) (f : Panel → Panel) (ps : List Panel) → ((p : Panel) → Memᴰ p ps → S (f p)) → (p : Panel) → Memᴰ p (map f ps) → S p
all_map S f [] h p m = absurd (Memᴰ.not-nil m)
all_map S f (x ∷ ps) h p m = ⊎_elim (λ e. subst S (sym e) (h x (Memᴰ.head refl))) (λ t. all_map S f ps (λ q n. h q (Memᴰ.tail n)) p t) (Memᴰ.cases_cons m)

-- ---- sets of panels

-- every panel whose centre lies in the convex hull of the set is in the set
abbrev pub Filled : (Panel → Type 0) → Type 0
Filled S = (q : Panel) → InHull S q → S q

module _ (S : Panel → Type 0) (filled : Filled S) where
  -- the mean of three, with weights
  weighted : (a b r q : Panel) (i j l : ℕ) → S a → S b → S r → 0 < i + j + l → (pos i *ℤ a.0) +ℤ ((pos j *ℤ b.0) +ℤ (pos l *ℤ r.0)) ≡ (pos i +ℤ (pos j +ℤ pos l)) *ℤ q.0 → (pos i *ℤ a.1) +ℤ ((pos j *ℤ b.1) +ℤ (pos l *ℤ r.1)) ≡ (pos i +ℤ (pos j +ℤ pos l)) *ℤ q.1 → S q
  weighted a b r q i j l sa sb sr some ex ey = filled q (record {
    panels = ps;
    all = λ p m. ⊎_elim (all_replicate a S sa i p) (λ n. ⊎_elim (all_replicate b S sb j p) (all_replicate r S sr l p) (mem-append (replicate j b) (replicate l r) p n)) (mem-append (replicate i a) (replicate j b ++ replicate l r) p m);
    mean = record { some = omega (arith, size); mean_x = total (λ p. p.0) q.0 ex; mean_y = total (λ p. p.1) q.1 ey };
  })
    where
      ps : List Panel
      ps = replicate i a ++ (replicate j b ++ replicate l r)

      size : length ps ≡ i + (j + l)
      size = length-append (replicate i a) (replicate j b ++ replicate l r) ∙ ap₂ ◌+◌ (length-replicate a i) (length-append (replicate j b) (replicate l r) ∙ ap₂ ◌+◌ (length-replicate b j) (length-replicate r l))

      total : (f : Panel → ℤ) (z : ℤ) → (pos i *ℤ f a) +ℤ ((pos j *ℤ f b) +ℤ (pos l *ℤ f r)) ≡ (pos i +ℤ (pos j +ℤ pos l)) *ℤ z → sum_of f ps ≡ pos (length ps) *ℤ z
      total f z e =
          sum-append f (replicate i a) (replicate j b ++ replicate l r)
          ∙ ap₂ ◌+ℤ◌ (sum-replicate a f i) (sum-append f (replicate j b) (replicate l r) ∙ ap₂ ◌+ℤ◌ (sum-replicate b f j) (sum-replicate r f l))
          ∙ e ∙ ap (λ (n : ℕ). pos n *ℤ z) (sym size)

      mem-append : (l m : List Panel) (p : Panel) → Memᴰ p (l ++ m) → Memᴰ p l ⊎ Memᴰ p m
      mem-append [] m p n = inr n
      mem-append (x ∷ l) m p n = ⊎_elim (λ e. inl (Memᴰ.head e)) (λ t. ⊎_elim (λ h. inl (Memᴰ.tail h)) inr (mem-append l m p t)) (Memᴰ.cases_cons n)

  -- no gap in a row
  pub row_gap : (x x' y : ℤ) → x <ℤ x' → S (panel_at (corner x y)) → S (panel_at (corner x' y)) → S (panel_at (corner (pred_ℤ x') y))
  row_gap x x' y h s s' =
      let m = nat_abs (pred_ℤ x' -ℤ x) in
      let e : pred_ℤ x' ≡ x +ℤ pos m = above x (pred_ℤ x') (omega (zarith, h, bal_pred x')) in
      let f : x' ≡ x +ℤ (pos m +ℤ pos 1) = omega (zarith, e, bal_pred x', bal+ x (pos m), bal+ x (pos m +ℤ pos 1), bal+ (pos m) (pos 1)) in
      weighted (panel_at (corner x y)) (panel_at (corner x' y)) (panel_at (corner x y)) (panel_at (corner (pred_ℤ x') y)) 1 m 0 s s' s (omega arith)
      (ap (λ (z : ℤ). (pos 1 *ℤ x) +ℤ ((pos m *ℤ z) +ℤ (pos 0 *ℤ x))) f
      ∙ ring 2 (x ∷ pos m ∷ []) (k (pos 1) ⊗ v 0 ⊕ (v 1 ⊗ (v 0 ⊕ (v 1 ⊕ k (pos 1))) ⊕ k (pos 0) ⊗ v 0)) ((k (pos 1) ⊕ (v 1 ⊕ k (pos 0))) ⊗ (v 0 ⊕ v 1)) tt
      ∙ ap (λ (z : ℤ). (pos 1 +ℤ (pos m +ℤ pos 0)) *ℤ z) (sym e))
      (ring 2 (y ∷ pos m ∷ []) (k (pos 1) ⊗ v 0 ⊕ (v 1 ⊗ v 0 ⊕ k (pos 0) ⊗ v 0)) ((k (pos 1) ⊕ (v 1 ⊕ k (pos 0))) ⊗ v 0) tt)

  -- nor in a column
  pub column_gap : (x y y' : ℤ) → y <ℤ y' → S (panel_at (corner x y)) → S (panel_at (corner x y')) → S (panel_at (corner x (suc_ℤ y)))
  column_gap x y y' h s s' =
      let m = nat_abs (y' -ℤ suc_ℤ y) in
      let e : y' ≡ suc_ℤ y +ℤ pos m = above (suc_ℤ y) y' (omega (zarith, h, bal_suc y)) in
      let f : suc_ℤ y ≡ y +ℤ pos 1 = omega (zarith, bal_suc y, bal+ y (pos 1)) in
      weighted (panel_at (corner x y)) (panel_at (corner x y')) (panel_at (corner x y)) (panel_at (corner x (suc_ℤ y))) m 1 0 s s' s (omega arith)
      (ring 2 (x ∷ pos m ∷ []) (v 1 ⊗ v 0 ⊕ (k (pos 1) ⊗ v 0 ⊕ k (pos 0) ⊗ v 0)) ((v 1 ⊕ (k (pos 1) ⊕ k (pos 0))) ⊗ v 0) tt)
      (ap (λ (z : ℤ). (pos m *ℤ y) +ℤ ((pos 1 *ℤ z) +ℤ (pos 0 *ℤ y))) (e ∙ ap (λ (z : ℤ). z +ℤ pos m) f)
      ∙ ring 2 (y ∷ pos m ∷ []) (v 1 ⊗ v 0 ⊕ (k (pos 1) ⊗ (v 0 ⊕ k (pos 1) ⊕ v 1) ⊕ k (pos 0) ⊗ v 0)) ((v 1 ⊕ (k (pos 1) ⊕ k (pos 0))) ⊗ (v 0 ⊕ k (pos 1))) tt
      ∙ ap (λ (z : ℤ). (pos m +ℤ (pos 1 +ℤ pos 0)) *ℤ z) (sym f))

  -- what lies above one panel of a column, and not above the straight line between two panels on its sides
  pub under_line : (a b r q : Panel) → S a → S b → S r → a.0 <ℤ q.0 → q.0 <ℤ b.0 → r.0 ≡ q.0 → r.1 <ℤ q.1 → ((b.0 -ℤ a.0) *ℤ q.1) ≤ℤ (((b.0 -ℤ q.0) *ℤ a.1) +ℤ ((q.0 -ℤ a.0) *ℤ b.1)) → S q
  under_line a b r q sa sb sr la lb er lr under =
      weighted a b r q (h * α) (h * β) t sa sb sr (omega (arith, some))
      (ap₂ (λ (x z : ℤ). (pos (h * α) *ℤ a.0) +ℤ ((pos (h * β) *ℤ x) +ℤ (pos t *ℤ z))) eb (er ∙ eq)
      ∙ ring 5 (a.0 ∷ pos α ∷ pos β ∷ pos h ∷ pos t ∷ []) (v 3 ⊗ v 1 ⊗ v 0 ⊕ (v 3 ⊗ v 2 ⊗ (v 0 ⊕ (v 2 ⊕ v 1)) ⊕ v 4 ⊗ (v 0 ⊕ v 2))) ((v 3 ⊗ v 1 ⊕ (v 3 ⊗ v 2 ⊕ v 4)) ⊗ (v 0 ⊕ v 2)) tt
      ∙ ap (λ (z : ℤ). (pos (h * α) +ℤ (pos (h * β) +ℤ pos t)) *ℤ z) (sym eq))
      (ring 7 (a.1 ∷ b.1 ∷ r.1 ∷ pos α ∷ pos β ∷ pos h ∷ pos t ∷ []) (v 5 ⊗ v 3 ⊗ v 0 ⊕ (v 5 ⊗ v 4 ⊗ v 1 ⊕ v 6 ⊗ v 2)) (v 5 ⊗ (v 3 ⊗ v 0 ⊕ v 4 ⊗ v 1) ⊕ v 6 ⊗ v 2) tt
      ∙ ap (λ (z : ℤ). (pos h *ℤ z) +ℤ (pos t *ℤ r.1)) (et ∙ ap (λ (z : ℤ). ((pos α +ℤ pos β) *ℤ z) +ℤ pos t) ey)
      ∙ ring 5 (r.1 ∷ pos α ∷ pos β ∷ pos h ∷ pos t ∷ []) (v 3 ⊗ ((v 1 ⊕ v 2) ⊗ (v 0 ⊕ v 3) ⊕ v 4) ⊕ v 4 ⊗ v 0) ((v 3 ⊗ v 1 ⊕ (v 3 ⊗ v 2 ⊕ v 4)) ⊗ (v 0 ⊕ v 3)) tt
      ∙ ap (λ (z : ℤ). (pos (h * α) +ℤ (pos (h * β) +ℤ pos t)) *ℤ z) (sym ey))
    where
      α : ℕ
      α = nat_abs (b.0 -ℤ q.0)

      β : ℕ
      β = nat_abs (q.0 -ℤ a.0)

      h : ℕ
      h = nat_abs (q.1 -ℤ r.1)

      low : ℤ
      low = (pos α +ℤ pos β) *ℤ q.1

      high : ℤ
      high = (pos α *ℤ a.1) +ℤ (pos β *ℤ b.1)

      t : ℕ
      t = nat_abs (high -ℤ low)

      eq : q.0 ≡ a.0 +ℤ pos β
      eq = above a.0 q.0 (omega (zarith, la))

      eb : b.0 ≡ a.0 +ℤ (pos β +ℤ pos α)
      eb = above q.0 b.0 (omega (zarith, lb)) ∙ ap (λ (z : ℤ). z +ℤ pos α) eq ∙ ring 3 (a.0 ∷ pos β ∷ pos α ∷ []) (v 0 ⊕ v 1 ⊕ v 2) (v 0 ⊕ (v 1 ⊕ v 2)) tt

      ey : q.1 ≡ r.1 +ℤ pos h
      ey = above r.1 q.1 (omega (zarith, lr))

      et : high ≡ low +ℤ pos t
      et = above low high (subst (λ (z : ℤ). z ≤ℤ high) lower (subst (λ (z : ℤ). ((b.0 -ℤ a.0) *ℤ q.1) ≤ℤ z) higher under))
        where
          wide-b : b.0 -ℤ q.0 ≡ pos α
          wide-b = omega (zarith, bal- b.0 q.0, above q.0 b.0 (omega (zarith, lb)), bal+ q.0 (pos α))

          wide-a : q.0 -ℤ a.0 ≡ pos β
          wide-a = omega (zarith, bal- q.0 a.0, eq, bal+ a.0 (pos β))

          higher : ((b.0 -ℤ q.0) *ℤ a.1) +ℤ ((q.0 -ℤ a.0) *ℤ b.1) ≡ high
          higher = ap₂ (λ (x z : ℤ). (x *ℤ a.1) +ℤ (z *ℤ b.1)) wide-b wide-a

          lower : (b.0 -ℤ a.0) *ℤ q.1 ≡ low
          lower = let e : b.0 -ℤ a.0 ≡ pos α +ℤ pos β = omega (zarith, bal- b.0 a.0, eb, bal+ a.0 (pos β +ℤ pos α), bal+ (pos β) (pos α), bal+ (pos α) (pos β)) in ap (λ (z : ℤ). z *ℤ q.1) e

      some : 0 < h * α
      some = times h α (omega (zarith, lr, abs_nat (q.1 -ℤ r.1), bal- q.1 r.1)) (omega (zarith, lb, abs_nat (b.0 -ℤ q.0), bal- b.0 q.0))
        where
          mul-suc : (m n : ℕ) → suc m * suc n ≡ suc (suc m * n + m)
          mul-suc m n = simp unary_clauses refl

          times : (m n : ℕ) → 0 < m → 0 < n → 0 < m * n
          times (suc m) (suc n) f g = omega (arith, mul-suc m n)
          times zero n f g = absurd (omega arith)
          times (suc m) zero f g = absurd (omega arith)
