-- Columns that keep the least of their heights: they are the lowest corners of the corners seen.
-- Assumes nothing.
use mathlib.Core.Path.{◌≡◌, refl, sym, ap, ◌∙◌, subst}
use mathlib.Core.List.Memᴰ
use mathlib.Core.List.{List, [], ◌∷◌, map, Memᴰ}
use mathlib.Core.Logic.{◌⊎◌, inl, inr, ⊎_elim}
use Prim.Native.Nat.{ℕ, zero, suc, ◌+◌, ◌≤◌, ◌<◌, min}
use native.Mathlib.Omega.{arith}
use native.Mathlib.Decide.{dec_lt, ℕ_discrete}
use native.Mathlib.Nat.{eq-or-lt_of_le}
use lib.ListN.{length, get_or, length-set}
use lib.Seq.{get_or-set_same, get_or-set_other, set_out}
use lib.IntN.{ℤ, pos, ◌+ℤ◌}
use lib.Signed.{◌≤ℤ◌, ◌<ℤ◌}
use Rattle.int_laws.proofs.LinearLaws.{zarith, bal+}
use Rattle.grid.specs.declared.Corner.{Corner}
use Rattle.hull_laws.specs.Lowest.{sink, sinks}
use Rattle.hull_laws.specs.Chain.{col_at}
use Rattle.column_laws.specs.Columns.{spot}
use Rattle.hull_laws.proofs.ChainLaws.{Sorted}
use Rattle.hull_laws.proofs.TurnedLaws.{Lows}

pub length-sink : (a : List ℕ) (v : ℕ × ℕ) → length (sink a v) ≡ length a
unfolding sink
length-sink a v = simp length-set

pub length-sinks : (a : List ℕ) (vs : List (ℕ × ℕ)) → length (sinks a vs) ≡ length a
unfolding sinks
length-sinks a [] = refl
length-sinks a (v ∷ vs) = length-sinks (sink a v) vs ∙ length-sink a v

-- what a column holds after one visit
sink-at : (a : List ℕ) (v : ℕ × ℕ) → v.0 < length a → get_or (sink a v) v.0 0 ≡ min (get_or a v.0 0) v.1
unfolding sink
sink-at a v h = get_or-set_same a v.0 (min (get_or a v.0 0) v.1) 0 h

sink_off : (a : List ℕ) (v : ℕ × ℕ) (c : ℕ) → ((c ≡ v.0) → ⊥) ⊎ (length a ≤ v.0) → get_or (sink a v) c 0 ≡ get_or a c 0
unfolding sink
sink_off a v c (inl n) = get_or-set_other a v.0 c (min (get_or a v.0 0) v.1) 0 n
sink_off a v c (inr h) = ap (λ (l : List ℕ). get_or l c 0) (set_out a v.0 (min (get_or a v.0 0) v.1) h)

sink_cases : (a : List ℕ) (v : ℕ × ℕ) (c : ℕ) → (get_or (sink a v) c 0 ≡ get_or a c 0) ⊎ ((c ≡ v.0) × (get_or (sink a v) c 0 ≡ min (get_or a c 0) v.1))
sink_cases a v c = go (ℕ_discrete c v.0) (dec_lt v.0 (length a))
  where
    go : Dec (c ≡ v.0) → Dec (v.0 < length a) → (get_or (sink a v) c 0 ≡ get_or a c 0) ⊎ ((c ≡ v.0) × (get_or (sink a v) c 0 ≡ min (get_or a c 0) v.1))
    go (no n) d = inl (sink_off a v c (inl n))
    go (yes e) (no h) = inl (sink_off a v c (inr (omega arith)))
    go (yes e) (yes h) = inr (e, subst (λ (k : ℕ). get_or (sink a v) k 0 ≡ min (get_or a k 0) v.1) (sym e) (sink-at a v h))

sink_falls : (a : List ℕ) (v : ℕ × ℕ) (c : ℕ) → get_or (sink a v) c 0 ≤ get_or a c 0
sink_falls a v c = ⊎_elim (λ e. omega arith) (λ t. omega (arith, t.1)) (sink_cases a v c)

sinks_fall : (vs : List (ℕ × ℕ)) (a : List ℕ) (c : ℕ) → get_or (sinks a vs) c 0 ≤ get_or a c 0
unfolding sinks
sinks_fall [] a c = omega arith
sinks_fall (v ∷ vs) a c = omega (arith, sinks_fall vs (sink a v) c, sink_falls a v c)

-- no corner seen is lower
sinks_le : (vs : List (ℕ × ℕ)) (a : List ℕ) (v : ℕ × ℕ) → Memᴰ v vs → v.0 < length a → get_or (sinks a vs) v.0 0 ≤ v.1
unfolding sinks
sinks_le [] a v m h = absurd (Memᴰ.not-nil m)
sinks_le (u ∷ vs) a v (Memᴰ.head e) h = subst (λ (w : ℕ × ℕ). get_or (sinks (sink a w) vs) v.0 0 ≤ v.1) e (omega (arith, sinks_fall vs (sink a v) v.0, sink-at a v h))
sinks_le (u ∷ vs) a v (Memᴰ.tail m) h = sinks_le vs (sink a u) v m (omega (arith, length-sink a u))

pair_eq : {a b c d : ℕ} → a ≡ c → b ≡ d → ◌≡◌ {A = ℕ × ℕ} (a, b) (c, d)
pair_eq e f = λ i. (e i, f i)

-- and what a column holds was seen, unless it was there before
sinks-from : (vs : List (ℕ × ℕ)) (a : List ℕ) (c : ℕ) → (get_or (sinks a vs) c 0 ≡ get_or a c 0) ⊎ Memᴰ (c, get_or (sinks a vs) c 0) vs
unfolding sinks
sinks-from [] a c = inl refl
sinks-from (v ∷ vs) a c = ⊎_elim (λ e. first e (sink_cases a v c)) (λ m. inr (Memᴰ.tail m)) (sinks-from vs (sink a v) c)
  where
    last : ℕ
    last = get_or (sinks (sink a v) vs) c 0

    least : (m n k : ℕ) → k ≡ min m n → (k ≡ m) ⊎ (k ≡ n)
    least m n k e = pick (dec_lt m n)
      where
        pick : Dec (m < n) → (k ≡ m) ⊎ (k ≡ n)
        pick (yes l) = inl (omega arith)
        pick (no l) = inr (omega arith)

    first : last ≡ get_or (sink a v) c 0 → (get_or (sink a v) c 0 ≡ get_or a c 0) ⊎ ((c ≡ v.0) × (get_or (sink a v) c 0 ≡ min (get_or a c 0) v.1)) → (last ≡ get_or a c 0) ⊎ Memᴰ (c, last) (v ∷ vs)
    first e (inl f) = inl (e ∙ f)
    first e (inr t) = ⊎_elim (λ f. inl (e ∙ f)) (λ f. inr (Memᴰ.head (pair_eq t.0 (e ∙ f)))) (least (get_or a c 0) v.1 (get_or (sink a v) c 0) t.1)

-- k columns from i on
unfoldable pub up_from : ℕ → ℕ → List ℕ
up_from i zero = []
up_from i (suc k) = i ∷ up_from (suc i) k

in_up_from : (i k c : ℕ) → Memᴰ c (up_from i k) → (i ≤ c) × (c < i + k)
unfolding up_from
in_up_from i zero c m = absurd (Memᴰ.not-nil m)
in_up_from i (suc k) c (Memᴰ.head e) = (omega arith, omega arith)
in_up_from i (suc k) c (Memᴰ.tail m) = let r = in_up_from (suc i) k c m in (omega (arith, r.0), omega (arith, r.1))

pub up_from_in : (i k c : ℕ) → i ≤ c → c < i + k → Memᴰ c (up_from i k)
unfolding up_from
up_from_in i zero c h g = let z : ⊥ = omega arith in absurd z
up_from_in i (suc k) c h g = ⊎_elim (λ e. Memᴰ.head (sym e)) (λ l. Memᴰ.tail (up_from_in (suc i) k c l (omega arith))) (eq-or-lt_of_le h)

-- the corners of the columns from left to right
module _ (x0 y0 : ℤ) (ys : List ℕ) where
  abbrev pub at : ℕ → Corner
  at c = spot x0 y0 (col_at ys c)

  pub cols_sorted : (i k : ℕ) → Sorted (map at (up_from i k))
  unfolding up_from
  cols_sorted i zero = tt
  cols_sorted i (suc k) = (right, cols_sorted (suc i) k)
    where
      right : (q : Corner) → Memᴰ q (map at (up_from (suc i) k)) → (x0 +ℤ pos i) <ℤ q.0
      right q m =
          let r = Memᴰ.of_map at (up_from (suc i) k) m in
          omega (zarith, in_up_from (suc i) k r.0 r.1, bal+ x0 (pos i), bal+ x0 (pos r.0), ap (λ (z : Corner). z.0) r.2)

-- n columns, each of them seen; none holds a height at first
module _ (x0 y0 : ℤ) (vs : List (ℕ × ℕ)) (a : List ℕ) (n top : ℕ) (room : n ≤ length a)
    (blank : (c : ℕ) → c < n → get_or a c 0 ≡ top) (inside : (v : ℕ × ℕ) → Memᴰ v vs → (v.0 < n) × (v.1 < top))
    (every : (c : ℕ) → c < n → (h : ℕ) × Memᴰ (c, h) vs) where
  ys : List ℕ
  ys = sinks a vs

  seen : (c : ℕ) → c < n → Memᴰ (c, get_or ys c 0) vs
  unfolding ys
  seen c h = ⊎_elim (λ e. absurd (clash e)) (λ m. m) (sinks-from vs a c)
    where
      clash : get_or (sinks a vs) c 0 ≡ get_or a c 0 → ⊥
      clash e =
          let t = every c h in
          omega (arith, blank c h, sinks_le vs a (c, t.0) t.1 (omega arith), inside (c, t.0) t.1)

  pub cols_lows : Lows (map (spot x0 y0) vs) (map (at x0 y0 (sinks a vs)) (up_from 0 n))
  unfolding ys
  cols_lows = record { sorted = cols_sorted x0 y0 (sinks a vs) 0 n; sub = sub; low = low }
    where
      sub : (m : Corner) → Memᴰ m (map (at x0 y0 (sinks a vs)) (up_from 0 n)) → Memᴰ m (map (spot x0 y0) vs)
      sub m h =
          let r = Memᴰ.of_map (at x0 y0 (sinks a vs)) (up_from 0 n) h in
          subst (λ (z : Corner). Memᴰ z (map (spot x0 y0) vs)) r.2 (Memᴰ.map (spot x0 y0) (seen r.0 (omega (arith, in_up_from 0 n r.0 r.1))))

      low : (q : Corner) → Memᴰ q (map (spot x0 y0) vs) → (m : Corner) × Memᴰ m (map (at x0 y0 (sinks a vs)) (up_from 0 n)) × (m.0 ≡ q.0) × (m.1 ≤ℤ q.1)
      low q h =
          let r = Memᴰ.of_map (spot x0 y0) vs h in
          let v : ℕ × ℕ = r.0 in (
            at x0 y0 (sinks a vs) v.0,
            Memᴰ.map (at x0 y0 (sinks a vs)) (up_from_in 0 n v.0 (omega arith) (omega (arith, inside v r.1))),
            ap (λ (z : Corner). z.0) r.2,
            omega (zarith, ap (λ (z : Corner). z.1) r.2, bal+ y0 (pos (get_or (sinks a vs) v.0 0)), bal+ y0 (pos v.1), sinks_le vs a v r.1 (omega (arith, inside v r.1))),
          )
