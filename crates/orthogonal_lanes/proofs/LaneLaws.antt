-- Lanes that keep the least column of each row, step by step, and the minima over their rows.
-- Assumes nothing.
use mathlib.Core.Path.{◌≡◌, refl, sym, ap, ap₂, ◌∙◌, subst}
use mathlib.Core.List.{List, [], ◌∷◌, ◌++◌, map}
use Prim.Native.Nat.{ℕ, zero, suc, ◌+◌, ◌*◌, ◌-◌, ◌/◌, ◌%◌, ◌<◌, ◌≤◌, min, max}
use native.Mathlib.Omega.{arith}
use native.Mathlib.Numerals.{add-one}
use native.Mathlib.Nat.{div-lt_iff_lt-mul}
use native.Mathlib.Decide.{ℕ_discrete}
use lib.Dec.{ltb}
use lib.ListN.{length, get_or, drop, set, drop_of_length-le}
use lib.Seq.{drop-cons, drop-drop, get_or-drop, get_or-set_same, get_or-set_other}
use Rattle.lists.specs.Lists.{tally}
use Rattle.hull_laws.specs.Lowest.{blank, sink, sinks}
use Rattle.column_laws.specs.Columns.{col_after, row_after}
use Rattle.room_thread_laws.specs.Threads.{Stays, along_from, columns_from, rows_from}
use Rattle.orthogonal_laws.specs.HullRows.{least_over, hull_left}
use Rattle.orthogonal_laws.proofs.RowLaws.{least_next}
use Rattle.orthogonal_row_laws.specs.Lanes.{low_end_of, low_ends_from, lane_of, lane_at, lanes_from, from_west, from_east}

sinks-append : (a : List ℕ) (us vs : List (ℕ × ℕ)) → sinks a (us ++ vs) ≡ sinks (sinks a us) vs
unfolding sinks
sinks-append a [] vs = refl
sinks-append a (u ∷ us) vs = sinks-append (sink a u) us vs

-- the edge of a step: none, or one in the row of its lower end
end_none : (x y d : ℕ) → d < 4 → d % 2 ≡ 0 → low_end_of x y d ≡ []
end_none x y zero h e = refl
end_none x y (suc zero) h e = absurd (omega arith)
end_none x y (suc (suc zero)) h e = refl
end_none x y (suc (suc (suc zero))) h e = absurd (omega arith)
end_none x y (suc (suc (suc (suc d)))) h e = absurd (omega arith)

end_one : (x y d : ℕ) → d < 4 → (d % 2 ≡ 0 → ⊥) → low_end_of x y d ≡ (x, y - tally (ltb 2 d)) ∷ []
end_one x y zero h e = absurd (e (omega arith))
end_one x y (suc zero) h e = let z : y ≡ y - 0 = omega arith in ap (λ (n : ℕ). (x, n) ∷ []) z
end_one x y (suc (suc zero)) h e = absurd (e (omega arith))
end_one x y (suc (suc (suc zero))) h e = refl
end_one x y (suc (suc (suc (suc d)))) h e = absurd (omega arith)

pub mark-none : (a : List ℕ) (g up : ℕ) (f : ℕ → ℕ) (x y d : ℕ) → d < 4 → d % 2 ≡ 0 → a ≡ sinks a (lane_at g up f x y d)
unfolding sinks
mark-none a g up f x y d h e = sym (ap (λ (l : List (ℕ × ℕ)). sinks a (map (lane_of g up f) l)) (end_none x y d h e))

pub mark-one : (a : List ℕ) (g up : ℕ) (f : ℕ → ℕ) (x y d k : ℕ) → d < 4 → (d % 2 ≡ 0 → ⊥) → k ≡ y - tally (ltb 2 d) → (a' : List ℕ) → a' ≡ sink a ((k + up) / g, f x) → a' ≡ sinks a (lane_at g up f x y d)
unfolding sinks
mark-one a g up f x y d k h e s a' w = w ∙ ap (λ (n : ℕ). sink a ((n + up) / g, f x)) s ∙ sym (ap (λ (l : List (ℕ × ℕ)). sinks a (map (lane_of g up f) l)) (end_one x y d h e))

-- a row below the number of rows
pub row_below : (k y up g rows : ℕ) → 0 < g → k ≤ y → y + up < rows * g → (k + up) / g < rows
row_below k y up g rows p h b = (div-lt_iff_lt-mul {k = g} {x = k + up} {y = rows} p).1 (omega arith)

-- where the walk is at place i
module _ (f : ℕ → ℕ → ℕ) (chain : List ℕ) (m x i : ℕ) (e : drop i (along_from f m chain) ≡ along_from f x (drop i chain)) (l : i < length chain) where
  along_here : drop i (along_from f m chain) ≡ x ∷ along_from f (f x (get_or chain i 0)) (drop (suc i) chain)
  unfolding along_from
  along_here = e ∙ ap (along_from f x) (drop-cons chain i 0 l)

  along-at : get_or (along_from f m chain) i 0 ≡ x
  along-at = ap (λ (n : ℕ). get_or (along_from f m chain) n 0) none ∙ sym (get_or-drop i (along_from f m chain) 0 0) ∙ ap (λ (s : List ℕ). get_or s 0 0) along_here
    where
      none : i ≡ i + 0
      none = omega arith

  along-next : drop (i + 1) (along_from f m chain) ≡ along_from f (f x (get_or chain i 0)) (drop (i + 1) chain)
  along-next = sym (drop-drop 1 i (along_from f m chain)) ∙ ap (drop 1) along_here ∙ ap (λ (n : ℕ). along_from f (f x (get_or chain i 0)) (drop n chain)) (sym (add-one i))

-- in the middle of a walk, at place i: the edges that are left, put into these lanes, give those of the whole walk
pub record Gathering (chain : List ℕ) (m g right up far : ℕ) (lo₀ hi₀ lo hi : List ℕ) (x y i : ℕ) : Type 0 where
  pub columns : drop i (columns_from m chain) ≡ columns_from x (drop i chain)
  pub rows : drop i (rows_from m chain) ≡ rows_from y (drop i chain)
  pub lows : sinks lo (lanes_from g up (from_west right) x y (drop i chain)) ≡ sinks lo₀ (lanes_from g up (from_west right) m m chain)
  pub highs : sinks hi (lanes_from g up (from_east far right) x y (drop i chain)) ≡ sinks hi₀ (lanes_from g up (from_east far right) m m chain)

module _ {chain : List ℕ} {m g right up far : ℕ} {lo₀ hi₀ lo hi : List ℕ} {x y i : ℕ} (w : Gathering chain m g right up far lo₀ hi₀ lo hi x y i) where
  pub gathering_bounds : i < length chain → (room : ℕ) → Stays chain m room → (0 < x) × (x < room) × (0 < y) × (y < room)
  gathering_bounds l room s =
      let a = along-at col_after chain m x i w.columns l in
      let b = along-at row_after chain m y i w.rows l in
      (omega (arith, a, (s.columns i l).0), omega (arith, a, (s.columns i l).1), omega (arith, b, (s.rows i l).0), omega (arith, b, (s.rows i l).1))

  sinks-next : (f : ℕ → ℕ) (a a' G : List ℕ) → i < length chain → a' ≡ sinks a (lane_at g up f x y (get_or chain i 0)) → sinks a (lanes_from g up f x y (drop i chain)) ≡ G → sinks a' (lanes_from g up f (col_after x (get_or chain i 0)) (row_after y (get_or chain i 0)) (drop (i + 1) chain)) ≡ G
  unfolding low_ends_from
  sinks-next f a a' G l e s =
      ap (λ (z : List ℕ). sinks z (map (lane_of g up f) rest)) e
      ∙ sym (sinks-append a (lane_at g up f x y (get_or chain i 0)) (map (lane_of g up f) rest))
      ∙ ap (sinks a) (sym (map-append (lane_of g up f) (low_end_of x y (get_or chain i 0)) rest))
      ∙ ap (λ (n : ℕ). sinks a (map (lane_of g up f) (low_end_of x y (get_or chain i 0) ++ low_ends_from (col_after x (get_or chain i 0)) (row_after y (get_or chain i 0)) (drop n chain)))) (add-one i)
      ∙ ap (λ (ds : List ℕ). sinks a (lanes_from g up f x y ds)) (sym (drop-cons chain i 0 l)) ∙ s
    where
      rest : List (ℕ × ℕ)
      rest = low_ends_from (col_after x (get_or chain i 0)) (row_after y (get_or chain i 0)) (drop (i + 1) chain)

      map-append : (k : ℕ × ℕ → ℕ × ℕ) (us vs : List (ℕ × ℕ)) → map k (us ++ vs) ≡ map k us ++ map k vs
      map-append k [] vs = refl
      map-append k (u ∷ us) vs = ap (λ (l : List (ℕ × ℕ)). k u ∷ l) (map-append k us vs)

  pub gathering_step : i < length chain → (x' y' : ℕ) (lo' hi' : List ℕ) → x' ≡ col_after x (get_or chain i 0) → y' ≡ row_after y (get_or chain i 0) → lo' ≡ sinks lo (lane_at g up (from_west right) x y (get_or chain i 0)) → hi' ≡ sinks hi (lane_at g up (from_east far right) x y (get_or chain i 0)) → Gathering chain m g right up far lo₀ hi₀ lo' hi' x' y' (i + 1)
  gathering_step l x' y' lo' hi' ex ey el eh =
      subst (λ (z : ℕ). Gathering chain m g right up far lo₀ hi₀ lo' hi' z y' (i + 1)) (sym ex)
      (subst (λ (z : ℕ). Gathering chain m g right up far lo₀ hi₀ lo' hi' (col_after x (get_or chain i 0)) z (i + 1)) (sym ey)
      (record {
        columns = along-next col_after chain m x i w.columns l;
        rows = along-next row_after chain m y i w.rows l;
        lows = sinks-next (from_west right) lo lo' (sinks lo₀ (lanes_from g up (from_west right) m m chain)) l el w.lows;
        highs = sinks-next (from_east far right) hi hi' (sinks hi₀ (lanes_from g up (from_east far right) m m chain)) l eh w.highs;
      }))

  pub gathering_end : length chain ≤ i → (lo ≡ sinks lo₀ (lanes_from g up (from_west right) m m chain)) × (hi ≡ sinks hi₀ (lanes_from g up (from_east far right) m m chain))
  unfolding low_ends_from sinks
  gathering_end h = (
    ap (λ (ds : List ℕ). sinks lo (lanes_from g up (from_west right) x y ds)) (sym (drop_of_length-le chain {i = i} h)) ∙ w.lows,
    ap (λ (ds : List ℕ). sinks hi (lanes_from g up (from_east far right) x y ds)) (sym (drop_of_length-le chain {i = i} h)) ∙ w.highs,
  )

-- an edge is counted in its own column
pub edge_shift : (g up : ℕ) (f h : ℕ → ℕ) (x z y d : ℕ) → f x ≡ h z → lane_at g up f x y d ≡ lane_at g up h z y d
edge_shift g up f h x z y zero e = refl
edge_shift g up f h x z y (suc zero) e = ap (λ (n : ℕ). ((y + up) / g, n) ∷ []) e
edge_shift g up f h x z y (suc (suc zero)) e = refl
edge_shift g up f h x z y (suc (suc (suc d))) e = ap (λ (n : ℕ). ((y - 1 + up) / g, n) ∷ []) e

-- the rows from q on are looked at
pub record Looking (a₀ : List ℕ) (g len : ℕ) (a t : List ℕ) (least q : ℕ) : Type 0 where
  pub within : q ≤ len
  pub least_is : least ≡ least_over (λ k. get_or a₀ k 0 / g) (min q (len - 1)) (len - 1 - min q (len - 1))
  pub before : (k : ℕ) → k < q → get_or a k 0 ≡ get_or a₀ k 0
  pub after : (k : ℕ) → q ≤ k → k < len → get_or a k 0 ≡ get_or a₀ k 0 / g
  pub minima : (k : ℕ) → q ≤ k → k < len → get_or t k 0 ≡ least_over (λ j. get_or a₀ j 0 / g) k (len - 1 - k)

pub looking_start : (a : List ℕ) (g len least : ℕ) (t : List ℕ) → 0 < len → least ≡ get_or a (len - 1) 0 / g → Looking a g len a t least len
looking_start a g len least t h e = record {
  within = omega arith;
  least_is = e ∙ ap₂ (least_over (λ k. get_or a k 0 / g)) (sym top) (sym none);
  before = λ k l. refl;
  after = λ k l m. absurd (omega arith);
  minima = λ k l m. absurd (omega arith);
}
  where
    top : min len (len - 1) ≡ len - 1
    top = omega arith

    none : len - 1 - min len (len - 1) ≡ 0
    none = omega arith

module _ {a₀ : List ℕ} {g len : ℕ} {a t : List ℕ} {least q : ℕ} (w : Looking a₀ g len a t least q) (some : 0 < q) (sa : len ≤ length a) (st : len ≤ length t) where
  f : ℕ → ℕ
  f k = get_or a₀ k 0 / g

  p : ℕ
  p = q - 1

  next_least : min least (f p) ≡ least_over (λ k. get_or a₀ k 0 / g) p (len - 1 - p)
  unfolding f p
  next_least = go (ℕ_discrete q len)
    where
      go : Dec (q ≡ len) → min least (get_or a₀ (q - 1) 0 / g) ≡ least_over (λ k. get_or a₀ k 0 / g) (q - 1) (len - 1 - (q - 1))
      go (yes e) = omega (arith, w.least_is, ap₂ (least_over (λ k. get_or a₀ k 0 / g)) last none, ap₂ (least_over (λ k. get_or a₀ k 0 / g)) same none')
        where
          last : min q (len - 1) ≡ q - 1
          last = omega arith

          none : len - 1 - min q (len - 1) ≡ 0
          none = omega arith

          same : q - 1 ≡ q - 1
          same = refl

          none' : len - 1 - (q - 1) ≡ 0
          none' = omega arith
      go (no e) = omega (arith, w.least_is, ap₂ (least_over (λ k. get_or a₀ k 0 / g)) here rest, ap (least_over (λ k. get_or a₀ k 0 / g) (q - 1)) more)
        where
          here : min q (len - 1) ≡ suc (q - 1)
          here = omega (arith, w.within)

          rest : len - 1 - min q (len - 1) ≡ len - 1 - q
          rest = omega (arith, w.within)

          more : len - 1 - (q - 1) ≡ suc (len - 1 - q)
          more = omega (arith, w.within)

  pub looking_step : (x least' : ℕ) → x ≡ get_or a (q - 1) 0 / g → least' ≡ min least x → Looking a₀ g len (set a (q - 1) x) (set t (q - 1) least') least' (q - 1)
  unfolding f p
  looking_step x least' ex el = record {
    within = omega (arith, w.within);
    least_is = value ∙ ap₂ (least_over (λ k. get_or a₀ k 0 / g)) (sym low) (ap (λ (n : ℕ). len - 1 - n) (sym low));
    before = λ k l. get_or-set_other a (q - 1) k x 0 (λ e. omega arith) ∙ w.before k (omega arith);
    after = λ k l m. after-at k l m (ℕ_discrete k (q - 1));
    minima = λ k l m. minima_at k l m (ℕ_discrete k (q - 1));
  }
    where
      low : min (q - 1) (len - 1) ≡ q - 1
      low = omega (arith, w.within)

      here : x ≡ get_or a₀ (q - 1) 0 / g
      here = ex ∙ ap (λ (n : ℕ). n / g) (w.before (q - 1) (omega arith))

      value : least' ≡ least_over (λ k. get_or a₀ k 0 / g) (q - 1) (len - 1 - (q - 1))
      value = el ∙ ap (min least) here ∙ next_least

      after-at : (k : ℕ) → q - 1 ≤ k → k < len → Dec (k ≡ q - 1) → get_or (set a (q - 1) x) k 0 ≡ get_or a₀ k 0 / g
      after-at k l m (yes e) = ap (λ (n : ℕ). get_or (set a (q - 1) x) n 0) e ∙ get_or-set_same a (q - 1) x 0 (omega (arith, w.within)) ∙ here ∙ ap (λ (n : ℕ). get_or a₀ n 0 / g) (sym e)
      after-at k l m (no e) = get_or-set_other a (q - 1) k x 0 e ∙ w.after k (omega arith) m

      minima_at : (k : ℕ) → q - 1 ≤ k → k < len → Dec (k ≡ q - 1) → get_or (set t (q - 1) least') k 0 ≡ least_over (λ j. get_or a₀ j 0 / g) k (len - 1 - k)
      minima_at k l m (yes e) = ap (λ (n : ℕ). get_or (set t (q - 1) least') n 0) e ∙ get_or-set_same t (q - 1) least' 0 (omega (arith, w.within)) ∙ value ∙ ap (λ (n : ℕ). least_over (λ j. get_or a₀ j 0 / g) n (len - 1 - n)) (sym e)
      minima_at k l m (no e) = get_or-set_other t (q - 1) k least' 0 e ∙ w.minima k (omega arith) m

-- the rows before q are settled
pub record Settling (a₀ : List ℕ) (len : ℕ) (a : List ℕ) (least q : ℕ) : Type 0 where
  pub within : q ≤ len
  pub least_is : least ≡ least_over (λ k. get_or a₀ k 0) 0 (q - 1)
  pub before : (k : ℕ) → k < q → get_or a k 0 ≡ hull_left (λ j. get_or a₀ j 0) (len - 1) k
  pub after : (k : ℕ) → q ≤ k → get_or a k 0 ≡ get_or a₀ k 0

module _ {a₀ : List ℕ} {len : ℕ} {a : List ℕ} {least q : ℕ} (w : Settling a₀ len a least q) (l : q < len) (sa : len ≤ length a) where
  pub settling_step : (least' v x : ℕ) → least' ≡ min least (get_or a q 0) → v ≡ least_over (λ k. get_or a₀ k 0) q (len - 1 - q) → x ≡ max least' v → Settling a₀ len (set a q x) least' (q + 1)
  settling_step least' v x el ev ex = record {
    within = omega arith;
    least_is = value ∙ ap (least_over (λ k. get_or a₀ k 0) 0) (sym last);
    before = λ k h. before_at k h (ℕ_discrete k q);
    after = λ k h. get_or-set_other a q k x 0 (λ e. omega arith) ∙ w.after k (omega arith);
  }
    where
      last : q + 1 - 1 ≡ q
      last = omega arith

      here : get_or a q 0 ≡ get_or a₀ q 0
      here = w.after q (omega arith)

      more : (n : ℕ) → q ≡ n → min (least_over (λ k. get_or a₀ k 0) 0 (n - 1)) (get_or a₀ n 0) ≡ least_over (λ k. get_or a₀ k 0) 0 n
      more zero e = omega arith
      more (suc j) e =
          ap₂ (λ (u v : ℕ). min (least_over (λ k. get_or a₀ k 0) 0 u) (get_or a₀ v 0)) less over
          ∙ sym (least_next (λ k. get_or a₀ k 0) 0 j)
        where
          less : suc j - 1 ≡ j
          less = omega arith

          over : suc j ≡ suc (0 + j)
          over = omega arith

      value : least' ≡ least_over (λ k. get_or a₀ k 0) 0 q
      value = el ∙ ap₂ min w.least_is here ∙ more q refl

      before_at : (k : ℕ) → k < q + 1 → Dec (k ≡ q) → get_or (set a q x) k 0 ≡ hull_left (λ j. get_or a₀ j 0) (len - 1) k
      before_at k h (yes e) = ap (λ (n : ℕ). get_or (set a q x) n 0) e ∙ get_or-set_same a q x 0 (omega arith) ∙ ex ∙ ap₂ max value ev ∙ ap (hull_left (λ j. get_or a₀ j 0) (len - 1)) (sym e)
      before_at k h (no e) = get_or-set_other a q k x 0 e ∙ w.before k (omega arith)

-- over rows that are equal, the ends are equal
over_eq : (f h : ℕ → ℕ) (m n : ℕ) → ((k : ℕ) → m ≤ k → k ≤ m + n → f k ≡ h k) → least_over f m n ≡ least_over h m n
over_eq f h m zero e = e m (omega arith) (omega arith)
over_eq f h m (suc n) e = ap₂ min (e m (omega arith) (omega arith)) (over_eq f h (suc m) n (λ k l b. e k (omega arith) (omega arith)))

least_eq : (f h : ℕ → ℕ) (len q : ℕ) → q < len → ((k : ℕ) → k < len → f k ≡ h k) → least_over f q (len - 1 - q) ≡ least_over h q (len - 1 - q)
least_eq f h len q l e = over_eq f h q (len - 1 - q) (λ k a b. e k (omega arith))

left_eq : (f h : ℕ → ℕ) (len q : ℕ) → q < len → ((k : ℕ) → k < len → f k ≡ h k) → hull_left f (len - 1) q ≡ hull_left h (len - 1) q
left_eq f h len q l e = ap₂ max (over_eq f h 0 q (λ k a b. e k (omega arith))) (least_eq f h len q l e)

-- one row more that has no edge
pub from_less : (a : List ℕ) (q : ℕ) → 0 < q → ((k : ℕ) → q ≤ k → k < length a → get_or a k 0 ≡ blank) → get_or a (q - 1) 0 ≡ blank → (k : ℕ) → q - 1 ≤ k → k < length a → get_or a k 0 ≡ blank
from_less a q p w e k h l = go (ℕ_discrete k (q - 1))
  where
    go : Dec (k ≡ q - 1) → get_or a k 0 ≡ blank
    go (yes f) = ap (λ (n : ℕ). get_or a n 0) f ∙ e
    go (no f) = w k (omega arith) l

-- what is looked back at is ready to be settled, and is then the ends of the hull's rows
module _ (a a' : List ℕ) (g : ℕ) (size : length a' ≡ length a) (same : (q : ℕ) → q < length a → get_or a' q 0 ≡ get_or a q 0 / g) where
  pub fill_ready : (t : List ℕ) → ((q : ℕ) → q < length a → get_or t q 0 ≡ least_over (λ k. get_or a k 0 / g) q (length a - 1 - q)) → (q : ℕ) → q < length a' → get_or t q 0 ≡ least_over (λ k. get_or a' k 0) q (length a' - 1 - q)
  fill_ready t w q l =
      w q (omega (arith, size)) ∙ sym (least_eq (λ k. get_or a' k 0) (λ k. get_or a k 0 / g) (length a) q (omega (arith, size)) same)
      ∙ ap (λ (n : ℕ). least_over (λ k. get_or a' k 0) q (n - 1 - q)) (sym size)

  pub fill_done : (b : List ℕ) → ((q : ℕ) → q < length a' → get_or b q 0 ≡ hull_left (λ k. get_or a' k 0) (length a' - 1) q) → (q : ℕ) → q < length a → get_or b q 0 ≡ hull_left (λ k. get_or a k 0 / g) (length a - 1) q
  fill_done b w q l =
      w q (omega (arith, size)) ∙ ap (λ (n : ℕ). hull_left (λ k. get_or a' k 0) (n - 1) q) size
      ∙ left_eq (λ k. get_or a' k 0) (λ k. get_or a k 0 / g) (length a) q l same
