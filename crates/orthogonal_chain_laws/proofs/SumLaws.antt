-- Values to which the vertical edges of a walk alone add: for the chain around a pile they are a sum over its rows. Edges that pass a test are
-- such a value, and so is the sum of x times the change of y.
-- Assumes nothing.
use mathlib.Core.Bool.{Bool, true, false}
use mathlib.Core.List.{List, [], ◌∷◌, ◌++◌, append_assoc, append-nil}
use mathlib.Core.Path.{◌≡◌, refl, ap, ap₂, sym, ◌∙◌}
use Prim.Native.Nat.{ℕ, zero, suc, ◌+◌, ◌-◌, ◌≤◌}
use native.Mathlib.Omega.{arith}
use lib.IntN.{ℤ, pos, negsuc, neg_ℤ, ◌+ℤ◌, ◌-ℤ◌, ◌*ℤ◌, +ℤ_assoc, +ℤ_idl}
use lib.ListN.{replicate}
use Rattle.int_laws.proofs.NextLaws.{suc_sub, pred_sub}
use Rattle.int_laws.proofs.RingLaws.{ring, v, k, ◌⊕◌, ◌⊖◌, ◌⊗◌, ⊝}
use Rattle.lists.specs.Lists.{tally, count}
use Rattle.grid.specs.declared.Corner.{Corner}
use Rattle.grid.specs.Grid.{stepped}
use Rattle.trace.specs.Verdict.{sweep_from}
use Rattle.panels.specs.Edges.{Edge, edges_from}
use Rattle.orthogonal_chain_laws.specs.Chain.{corner_by, sideways, left_side, right_side, chain_from_row}
use Rattle.orthogonal_chain_laws.proofs.ArcLaws.{step_east, step_north, step_west, step_south}

-- a step north adds N of the lower end of its edge, a step south adds S of it
pub record Adds (F : Corner → List ℕ → ℤ) (N S : Corner → ℤ) : Type 0 where
  pub none : (c : Corner) → F c [] ≡ pos 0
  pub east : (c : Corner) (ds : List ℕ) → F c (0 ∷ ds) ≡ F (stepped 0 c) ds
  pub north : (c : Corner) (ds : List ℕ) → F c (1 ∷ ds) ≡ N c +ℤ F (stepped 1 c) ds
  pub west : (c : Corner) (ds : List ℕ) → F c (2 ∷ ds) ≡ F (stepped 2 c) ds
  pub south : (c : Corner) (ds : List ℕ) → F c (3 ∷ ds) ≡ S (stepped 3 c) +ℤ F (stepped 3 c) ds

-- the edges that pass a test
pub count_adds : (f : Edge → Bool) → Adds (λ c ds. pos (count f (edges_from c ds))) (λ c. pos (tally (f (record { foot = c; north = true })))) (λ c. pos (tally (f (record { foot = c; north = false }))))
count_adds f = record { none = λ c. refl; east = λ c ds. refl; north = λ c ds. refl; west = λ c ds. refl; south = λ c ds. refl }

-- x times the change of y
pub sweep_adds : Adds sweep_from (λ c. c.0) (λ c. neg_ℤ c.0)
sweep_adds =
    record {
      none = λ c. refl;
      east = λ c ds. level c (sweep_from (stepped 0 c) ds);
      north = λ c ds. ap (λ (z : ℤ). (c.0 *ℤ z) +ℤ sweep_from (stepped 1 c) ds) (suc_sub c.1) ∙ ring 2 (c.0 ∷ sweep_from (stepped 1 c) ds ∷ []) (v 0 ⊗ k (pos 1) ⊕ v 1) (v 0 ⊕ v 1) tt;
      west = λ c ds. level c (sweep_from (stepped 2 c) ds);
      south = λ c ds. ap (λ (z : ℤ). (c.0 *ℤ z) +ℤ sweep_from (stepped 3 c) ds) (pred_sub c.1) ∙ ring 2 (c.0 ∷ sweep_from (stepped 3 c) ds ∷ []) (v 0 ⊗ k (negsuc 0) ⊕ v 1) (⊝ (v 0) ⊕ v 1) tt;
    }
  where
    level : (c : Corner) (z : ℤ) → (c.0 *ℤ (c.1 -ℤ c.1)) +ℤ z ≡ z
    level c z = ring 3 (c.0 ∷ c.1 ∷ z ∷ []) (v 0 ⊗ (v 1 ⊖ v 1) ⊕ v 2) (v 2) tt

-- the sum of g over n rows from row m on
abbrev pub row_sum : (ℕ → ℤ) → ℕ → ℕ → ℤ
row_sum g m zero = pos 0
row_sum g m (suc n) = g (m + n) +ℤ row_sum g m n

add-zero : (a : ℕ) → a + 0 ≡ a
add-zero a = omega arith

add_suc : (a b : ℕ) → a + suc b ≡ suc (a + b)
add_suc a b = omega arith

module _ (g : ℕ → ℤ) where
  pub sum-front : (m n : ℕ) → row_sum g m (suc n) ≡ g m +ℤ row_sum g (suc m) n
  sum-front m zero = ap (λ (q : ℕ). g q +ℤ pos 0) (omega arith)
  sum-front m (suc n) =
      let e : g (m + suc n) ≡ g (suc m + n) = ap g (omega arith) in
      ap₂ (λ (x y : ℤ). x +ℤ y) e (sum-front m n)
      ∙ ring 3 (g (suc m + n) ∷ g m ∷ row_sum g (suc m) n ∷ []) (v 0 ⊕ (v 1 ⊕ v 2)) (v 1 ⊕ (v 0 ⊕ v 2)) tt

  sum_split : (m a b : ℕ) → row_sum g m (a + b) ≡ row_sum g m a +ℤ row_sum g (m + a) b
  sum_split m a zero = ap (row_sum g m) (add-zero a) ∙ ring 1 (row_sum g m a ∷ []) (v 0) (v 0 ⊕ k (pos 0)) tt
  sum_split m a (suc b) =
      let e : g (m + (a + b)) ≡ g ((m + a) + b) = ap g (omega arith) in
      ap (row_sum g m) (add_suc a b)
      ∙ ap₂ (λ (x y : ℤ). x +ℤ y) e (sum_split m a b)
      ∙ ring 3 (g ((m + a) + b) ∷ row_sum g m a ∷ row_sum g (m + a) b ∷ []) (v 0 ⊕ (v 1 ⊕ v 2)) (v 1 ⊕ (v 0 ⊕ v 2)) tt

module _ {F : Corner → List ℕ → ℤ} {N S : Corner → ℤ} (adds : Adds F N S) (o : Corner) where
  adds_east : (n x b y : ℕ) (ds : List ℕ) → b ≡ x + n → F (corner_by o x y) (replicate n 0 ++ ds) ≡ F (corner_by o b y) ds
  adds_east zero x b y ds e = ap (λ (i : ℕ). F (corner_by o i y) ds) (omega (arith, e))
  adds_east (suc n) x b y ds e = adds.east (corner_by o x y) (replicate n 0 ++ ds) ∙ ap (λ (c : Corner). F c (replicate n 0 ++ ds)) (step_east o x y) ∙ adds_east n (suc x) b y ds (omega (arith, e))

  adds_west : (n b x y : ℕ) (ds : List ℕ) → x ≡ b + n → F (corner_by o x y) (replicate n 2 ++ ds) ≡ F (corner_by o b y) ds
  adds_west zero b x y ds e = ap (λ (i : ℕ). F (corner_by o i y) ds) (omega (arith, e))
  adds_west (suc n) b zero y ds e = absurd (omega (arith, e))
  adds_west (suc n) b (suc x) y ds e = adds.west (corner_by o (suc x) y) (replicate n 2 ++ ds) ∙ ap (λ (c : Corner). F c (replicate n 2 ++ ds)) (step_west o x y) ∙ adds_west n b x y ds (omega (arith, e))

  adds_sideways : (a b y : ℕ) (ds : List ℕ) → F (corner_by o a y) (sideways a b ++ ds) ≡ F (corner_by o b y) ds
  adds_sideways a b y ds =
      ap (F (corner_by o a y)) (append_assoc (replicate (b - a) 0) (replicate (a - b) 2) ds)
      ∙ adds_east (b - a) a (a + (b - a)) y (replicate (a - b) 2 ++ ds) refl
      ∙ adds_west (a - b) b (a + (b - a)) y ds (omega arith)

  adds_left : (l : ℕ → ℕ) (m n : ℕ) (ds : List ℕ) → F (corner_by o (l (m + n)) (m + n)) (left_side l m n ++ ds) ≡ row_sum (λ q. S (corner_by o (l q) q)) m n +ℤ F (corner_by o (l m) m) ds
  adds_left l m zero ds = ap (λ (z : ℕ). F (corner_by o (l z) z) ds) (omega arith) ∙ sym (+ℤ_idl (F (corner_by o (l m) m) ds))
  adds_left l m (suc n) ds =
      let rest = left_side l m n ++ ds in
      let x = l (m + n) in
      ap (F (corner_by o (l (m + suc n)) (m + suc n))) (append_assoc (sideways (l (m + suc n)) x) (3 ∷ left_side l m n) ds)
      ∙ adds_sideways (l (m + suc n)) x (m + suc n) (3 ∷ rest)
      ∙ ap (λ (z : ℕ). F (corner_by o x z) (3 ∷ rest)) (omega arith)
      ∙ adds.south (corner_by o x (suc (m + n))) rest
      ∙ ap (λ (c : Corner). S c +ℤ F c rest) (step_south o x (m + n))
      ∙ ap (λ (z : ℤ). S (corner_by o x (m + n)) +ℤ z) (adds_left l m n ds)
      ∙ sym (+ℤ_assoc (S (corner_by o x (m + n))) (row_sum (λ q. S (corner_by o (l q) q)) m n) (F (corner_by o (l m) m) ds))

  adds_right : (r : ℕ → ℕ) (n q e : ℕ) (ds : List ℕ) → e ≡ q + n → F (corner_by o (r q) q) (right_side r q n ++ ds) ≡ row_sum (λ i. N (corner_by o (r i) i)) q (suc n) +ℤ F (corner_by o (r e) (suc e)) ds
  adds_right r n q e ds h = right n q h ∙ ap (λ (z : ℤ). z +ℤ F (corner_by o (r e) (suc e)) ds) (sym (sum-front g q n))
    where
      g : ℕ → ℤ
      g i = N (corner_by o (r i) i)

      up : (q : ℕ) (rest : List ℕ) → F (corner_by o (r q) q) (1 ∷ rest) ≡ g q +ℤ F (corner_by o (r q) (suc q)) rest
      up q rest = adds.north (corner_by o (r q) q) rest ∙ ap (λ (c : Corner). g q +ℤ F c rest) (step_north o (r q) q)

      right : (n q : ℕ) → e ≡ q + n → F (corner_by o (r q) q) (right_side r q n ++ ds) ≡ (g q +ℤ row_sum g (suc q) n) +ℤ F (corner_by o (r e) (suc e)) ds
      right zero q h =
          up q ds
          ∙ ap (λ (z : ℕ). g q +ℤ F (corner_by o (r z) (suc z)) ds) (omega (arith, h))
          ∙ ring 2 (g q ∷ F (corner_by o (r e) (suc e)) ds ∷ []) (v 0 ⊕ v 1) (v 0 ⊕ k (pos 0) ⊕ v 1) tt
      right (suc n) q h =
          let rest = right_side r (suc q) n ++ ds in
          let z = F (corner_by o (r e) (suc e)) ds in
          ap (λ (w : List ℕ). F (corner_by o (r q) q) (1 ∷ w)) (append_assoc (sideways (r q) (r (suc q))) (right_side r (suc q) n) ds)
          ∙ up q (sideways (r q) (r (suc q)) ++ rest)
          ∙ ap (λ (w : ℤ). g q +ℤ w) (adds_sideways (r q) (r (suc q)) (suc q) rest ∙ right n (suc q) (omega (arith, h)) ∙ ap (λ (w : ℤ). w +ℤ z) (sym (sum-front g (suc q) n)))
          ∙ sym (+ℤ_assoc (g q) (row_sum g (suc q) (suc n)) z)

  -- the whole chain: N at the right end of each row, and S at its left end
  pub adds_chain : (l r : ℕ → ℕ) (t m : ℕ) → m ≤ t → F (corner_by o (l m) m) (chain_from_row l r t m) ≡ row_sum (λ q. N (corner_by o (r q) q)) 0 (suc t) +ℤ row_sum (λ q. S (corner_by o (l q) q)) 0 (suc t)
  adds_chain l r t m h =
      ap (λ (z : ℕ). F (corner_by o (l z) z) (chain_from_row l r t m)) from
      ∙ adds_left l 0 m foot
      ∙ ap (λ (z : ℤ). row_sum s 0 m +ℤ z) (adds_sideways (l 0) (r 0) 0 right ∙ adds_right r t 0 t top (omega arith) ∙ ap (λ (z : ℤ). row_sum n 0 (suc t) +ℤ z) (adds_sideways (r t) (l t) (suc t) (3 ∷ left_side l m (t - m)) ∙ last))
      ∙ ring 4 (row_sum s 0 m ∷ row_sum n 0 (suc t) ∷ s t ∷ row_sum s m (t - m) ∷ []) (v 0 ⊕ (v 1 ⊕ (v 2 ⊕ (v 3 ⊕ k (pos 0))))) (v 1 ⊕ (v 2 ⊕ (v 0 ⊕ v 3))) tt
      ∙ ap (λ (z : ℤ). row_sum n 0 (suc t) +ℤ z) (sym all)
    where
      n : ℕ → ℤ
      n q = N (corner_by o (r q) q)

      s : ℕ → ℤ
      s q = S (corner_by o (l q) q)

      top : List ℕ
      top = sideways (r t) (l t) ++ (3 ∷ left_side l m (t - m))

      right : List ℕ
      right = right_side r 0 t ++ top

      foot : List ℕ
      foot = sideways (l 0) (r 0) ++ right

      from : m ≡ 0 + m
      from = omega arith

      up : t ≡ m + (t - m)
      up = omega arith

      last : F (corner_by o (l t) (suc t)) (3 ∷ left_side l m (t - m)) ≡ s t +ℤ (row_sum s m (t - m) +ℤ pos 0)
      last =
          adds.south (corner_by o (l t) (suc t)) (left_side l m (t - m))
          ∙ ap (λ (c : Corner). S c +ℤ F c (left_side l m (t - m))) (step_south o (l t) t)
          ∙ ap (λ (z : ℤ). s t +ℤ z) (ap₂ (λ (z : ℕ) (w : List ℕ). F (corner_by o (l z) z) w) up (sym (append-nil (left_side l m (t - m)))) ∙ adds_left l m (t - m) [] ∙ ap (λ (z : ℤ). row_sum s m (t - m) +ℤ z) (adds.none (corner_by o (l m) m)))

      all : row_sum s 0 (suc t) ≡ s t +ℤ (row_sum s 0 m +ℤ row_sum s m (t - m))
      all = ap₂ (λ (x y : ℤ). x +ℤ y) (ap s (sym zero_t)) (ap (row_sum s 0) up ∙ sum_split s 0 m (t - m) ∙ ap (λ (z : ℕ). row_sum s 0 m +ℤ row_sum s z (t - m)) (sym from))
        where
          zero_t : t ≡ 0 + t
          zero_t = omega arith
