-- Columns from right to left: what is kept in them from the other side, and the pass that turns them.
-- Assumes nothing.
use mathlib.Core.Path.{◌≡◌, refl, sym, ap, ◌∙◌, subst}
use mathlib.Core.List.{List, map}
use Prim.Native.Nat.{ℕ, ◌+◌, ◌-◌, ◌≤◌, ◌<◌, min}
use native.Mathlib.Omega.{arith}
use native.Mathlib.Decide.{dec_lt, ℕ_discrete}
use lib.ListN.{length, get_or, set, replicate, get_or-replicate, length-set}
use lib.Seq.{get_or-set_same, get_or-set_other, ext_get_or}
use Rattle.hull_laws.specs.Lowest.{sink, sinks, half_turned}
use Rattle.column_laws.specs.Columns.{col_after, row_after, trail, middle, top}
use Rattle.hull_laws.proofs.FillLaws.{Filling, filling_start, filling_west, filling_east, filling_in_hi, filling_step, filling_high}
use Rattle.hull_columns.specs.Extent.{Spans, Mirrored}

-- columns of one height are the same from right to left
mirrored_even : (m v : ℕ) (a : List ℕ) → m < length a → a ≡ replicate (length a) v → Mirrored m a a
mirrored_even m v a h r = record {
  size = refl;
  inside = λ c l. even c (omega arith) ∙ sym (even (m - c) (omega arith));
  beyond = λ c l. refl;
}
  where
    even : (c : ℕ) → c < length a → get_or a c 0 ≡ v
    even c l = ap (λ (l : List ℕ). get_or l c 0) r ∙ get_or-replicate (length a) c v 0 l

-- a height kept in column k of the one is kept in column m - k of the other
mirrored-sink : {m : ℕ} {a b : List ℕ} (k k' z : ℕ) → Mirrored m a b → k < length a → k' < length b → k + k' ≡ m → Mirrored m (sink a (k, z)) (sink b (k', z))
unfolding sink
mirrored-sink {m} {a} {b} k k' z r h g e = record {
  size = simp length-set r.size;
  inside = λ c l. inside c l (ℕ_discrete c k');
  beyond = λ c l. get_or-set_other b k' c (min (get_or b k' 0) z) 0 (λ q. omega arith) ∙ r.beyond c l ∙ sym (get_or-set_other a k c (min (get_or a k 0) z) 0 (λ q. omega arith));
}
  where
    other : get_or b k' 0 ≡ get_or a k 0
    other = r.inside k' (omega arith) ∙ ap (λ (n : ℕ). get_or a n 0) back
      where
        back : m - k' ≡ k
        back = omega arith

    inside : (c : ℕ) → c ≤ m → Dec (c ≡ k') → get_or (set b k' (min (get_or b k' 0) z)) c 0 ≡ get_or (set a k (min (get_or a k 0) z)) (m - c) 0
    inside c l (yes q) =
        subst (λ (n : ℕ). get_or (set b k' (min (get_or b k' 0) z)) n 0 ≡ min (get_or b k' 0) z) (sym q) (get_or-set_same b k' (min (get_or b k' 0) z) 0 g)
        ∙ ap (λ (n : ℕ). min n z) other
        ∙ sym (subst (λ (n : ℕ). get_or (set a k (min (get_or a k 0) z)) n 0 ≡ min (get_or a k 0) z) there (get_or-set_same a k (min (get_or a k 0) z) 0 h))
      where
        there : k ≡ m - c
        there = omega arith
    inside c l (no q) = get_or-set_other b k' c (min (get_or b k' 0) z) 0 q ∙ r.inside c l ∙ sym (get_or-set_other a k (m - c) (min (get_or a k 0) z) 0 (λ p. q (omega arith)))

-- there is one such list
mirrored-one : {m : ℕ} {a b c : List ℕ} → Mirrored m a b → Mirrored m a c → b ≡ c
mirrored-one {m} {a} {b} {c} r s = ext_get_or 0 b c (sym r.size ∙ s.size) (λ n h. at n (dec_lt m n))
  where
    at : (n : ℕ) → Dec (m < n) → get_or b n 0 ≡ get_or c n 0
    at n (yes l) = r.beyond n l ∙ sym (s.beyond n l)
    at n (no l) = r.inside n (omega arith) ∙ sym (s.inside n (omega arith))

-- the pass that fills the columns, if hi is what it would be from right to left
pub record Filled (chain : List ℕ) (w e : ℕ) (lo₀ hi₀ lo hi : List ℕ) (x y i : ℕ) : Type 0 where
  pub other : List ℕ
  pub filling : Filling chain w e lo₀ hi₀ lo other x y i
  pub mirrored : Mirrored (e - w) hi other

pub filled-start : {chain : List ℕ} {w e : ℕ} (v : ℕ) (lo hi : List ℕ) → Spans chain w e → e - w < length hi → hi ≡ replicate (length hi) v → Filled chain w e lo hi lo hi middle middle 0
filled-start {chain} {w} {e} v lo hi s h r = record {
  other = hi;
  filling = filling_start chain w e lo hi s.short s.west s.east;
  mirrored = mirrored_even (e - w) v hi h r;
}

module _ {chain : List ℕ} {w e : ℕ} {lo₀ hi₀ lo hi : List ℕ} {x y i : ℕ} (f : Filled chain w e lo₀ hi₀ lo hi x y i) (room : e - w < length hi₀) where
  pub filled_in_hi : x - w < length hi
  filled_in_hi = omega (arith, filling_east f.filling, f.mirrored.size, f.filling.size2)

  sunk : (z : ℕ) → Mirrored (e - w) (sink hi (x - w, z)) (sink f.other (e - x, z))
  sunk z = mirrored-sink (x - w) (e - x) z f.mirrored filled_in_hi (filling_in_hi f.filling room) (omega (arith, filling_west f.filling, filling_east f.filling))

  pub filled_step : (x' y' : ℕ) (lo' hi' : List ℕ) → i < length chain → x' ≡ col_after x (get_or chain i 0) → y' ≡ row_after y (get_or chain i 0) → lo' ≡ sink lo (x - w, y) → hi' ≡ sink hi (x - w, top - y) → Filled chain w e lo₀ hi₀ lo' hi' x' y' (i + 1)
  filled_step x' y' lo' hi' h ex ey el eh = record {
    other = sink f.other (e - x, top - y);
    filling = filling_step f.filling x' y' lo' (sink f.other (e - x, top - y)) h ex ey el refl;
    mirrored = subst (λ (l : List ℕ). Mirrored (e - w) l (sink f.other (e - x, top - y))) (sym eh) (sunk (top - y));
  }

  -- after the last corner its columns are put the other way round
  pub filled-high : (hi' hi'' : List ℕ) → length chain ≤ i → hi' ≡ sink hi (x - w, top - y) → Mirrored (e - w) hi' hi'' → hi'' ≡ sinks hi₀ (map (half_turned e top) (trail middle middle chain))
  filled-high hi' hi'' h s m = mirrored-one m (subst (λ (l : List ℕ). Mirrored (e - w) l (sink f.other (e - x, top - y))) (sym s) (sunk (top - y))) ∙ filling_high f.filling (sink f.other (e - x, top - y)) h refl
