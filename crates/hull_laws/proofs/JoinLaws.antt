-- The lower chain and what is left of the upper one, as parts of two arrays, and as numbers in a buffer.
-- Assumes nothing.
use mathlib.Core.Path.{◌≡◌, refl, sym, ap, ap₂, ◌∙◌}
use mathlib.Core.Bool.{Bool, true, false, ◌&&◌}
use mathlib.Core.List.{List, [], ◌∷◌, ◌++◌, map}
use Prim.Native.Nat.{ℕ, zero, suc, ◌+◌, ◌*◌, ◌-◌, ◌≤◌, ◌<◌}
use native.Mathlib.Omega.{arith}
use native.Mathlib.Numerals.{add-one, add-two}
use native.Mathlib.Decide.{dec_lt}
use lib.Dec.{ltb, eqb}
use borrow.Author.Tests.{lt-ltb, le-ltb}
use lib.IntN.{ℤ, pos, negsuc, ◌+ℤ◌, ◌-ℤ◌, ◌*ℤ◌}
use lib.ListN.{length, get_or, set, drop, take, length-append, length-drop, length-map, drop_of_length-le}
use lib.Seq.{sets, slice, slice-cons, slice_empty, length-slice, take-length, drop-drop}
use Rattle.int_laws.proofs.LinearLaws.{zarith, bal+}
use Rattle.lists.specs.Lists.{tally, front}
use Rattle.lists.proofs.BoolLaws.{tally_le}
use Rattle.grid.specs.declared.Corner.{Corner}
use Rattle.grid.specs.Grid.{numbers}
use Rattle.hull_laws.specs.Chain.{chain_from, spot_back, spot_by, col_at, skip, stop, upper, hull_by}
use Rattle.column_laws.specs.Columns.{spot}
use Rattle.grid.proofs.CornerLaws.{corner_eq}

-- a turn of the loop that writes, and its end
module _ (f : ℕ → Corner) (s : List ℕ) (to : ℕ) where
  pub put_turn : (i o : ℕ) (out out' R : List ℤ) → i < to → to ≤ length s → out' ≡ set (set out o (f (get_or s i 0)).0) (o + 1) (f (get_or s i 0)).1 → sets out o (numbers (map f (slice i to s))) ≡ R → sets out' (o + 2) (numbers (map f (slice (i + 1) to s))) ≡ R
  put_turn i o out out' R h g e r =
      ap (λ (l : List ℤ). sets l (o + 2) (numbers (map f (slice (i + 1) to s)))) e
      ∙ ap₂ (λ (a b : ℕ). sets (set (set out o (f (get_or s i 0)).0) a (f (get_or s i 0)).1) b (numbers (map f (slice (i + 1) to s)))) (add-one o) (add-two o)
      ∙ ap (λ (k : ℕ). sets (set (set out o (f (get_or s i 0)).0) (suc o) (f (get_or s i 0)).1) (suc (suc o)) (numbers (map f (slice k to s)))) (add-one i)
      ∙ ap (λ (l : List ℕ). sets out o (numbers (map f l))) (sym (slice-cons i to s 0 h g))
      ∙ r

  pub put_end : (i o : ℕ) (out R : List ℤ) → i ≤ to → to ≤ i → sets out o (numbers (map f (slice i to s))) ≡ R → out ≡ R
  put_end i o out R h g r = sym (ap (λ (l : List ℕ). sets out o (numbers (map f l))) (ap (λ (k : ℕ). slice k to s) one ∙ slice_empty to s)) ∙ r
    where
      one : i ≡ to
      one = omega arith

-- the same corner, counted by a direction
pub spot-by : (x0 y0 : ℤ) (w : ℕ) (v : ℕ × ℕ) → spot_by (spot x0 y0 (w, 0)) (pos 1) v ≡ spot (x0 +ℤ pos w) y0 v
spot-by x0 y0 w v = corner_eq (spot_by (spot x0 y0 (w, 0)) (pos 1) v) (spot (x0 +ℤ pos w) y0 v) (once (x0 +ℤ pos w) v.0) (once (y0 +ℤ pos 0) v.1 ∙ ap (λ (z : ℤ). z +ℤ pos v.1) none)
  where
    once : (z : ℤ) (n : ℕ) → z +ℤ (pos 1 *ℤ pos n) ≡ z +ℤ pos n
    once z n = ap (λ (m : ℕ). z +ℤ pos m) one
      where
        one : 1 * n ≡ n
        one = omega arith

    none : y0 +ℤ pos 0 ≡ y0
    none = omega (zarith, bal+ y0 (pos 0))

back_by : (x0 y0 : ℤ) (e h : ℕ) (v : ℕ × ℕ) → spot_by (spot x0 y0 (e, h)) (negsuc 0) v ≡ spot_back (x0 +ℤ pos e) (y0 +ℤ pos h) v
back_by x0 y0 e h v = corner_eq (spot_by (spot x0 y0 (e, h)) (negsuc 0) v) (spot_back (x0 +ℤ pos e) (y0 +ℤ pos h) v) (back (x0 +ℤ pos e) v.0) (back (y0 +ℤ pos h) v.1)
  where
    back : (z : ℤ) (n : ℕ) → z +ℤ (negsuc 0 *ℤ pos n) ≡ z -ℤ pos n
    back z n = ap (λ (m : ℕ). z -ℤ pos m) one
      where
        one : 1 * n ≡ n
        one = omega arith

map_same : (f g : ℕ → Corner) → ((i : ℕ) → f i ≡ g i) → (l : List ℕ) → map f l ≡ map g l
map_same f g h [] = refl
map_same f g h (i ∷ l) = ap₂ ◌∷◌ (h i) (map_same f g h l)

numbers-append : (s t : List Corner) → numbers (s ++ t) ≡ numbers s ++ numbers t
numbers-append [] t = refl
numbers-append (c ∷ s) t = ap (λ (l : List ℤ). c.0 ∷ c.1 ∷ l) (numbers-append s t)

pub length-numbers : (l : List Corner) → length (numbers l) ≡ 2 * length l
length-numbers [] = refl
length-numbers (c ∷ l) = omega (arith, length-numbers l)

sets_append : (l : List ℤ) (i : ℕ) (a b : List ℤ) → sets l i (a ++ b) ≡ sets (sets l i a) (i + length a) b
sets_append l i [] b = ap (λ (k : ℕ). sets l k b) zero_right
  where
    zero_right : i ≡ i + 0
    zero_right = omega arith
sets_append l i (x ∷ a) b = sets_append (set l i x) (suc i) a b ∙ ap (λ (k : ℕ). sets (sets (set l i x) (suc i) a) k b) step
  where
    step : suc i + length a ≡ i + suc (length a)
    step = omega arith

slice_all : (f : ℕ) (l : List ℕ) → slice f (length l) l ≡ drop f l
slice_all f l = ap (drop f) (take-length l)

-- both parts written, one after the other
module _ (x0 y0 : ℤ) (w e h : ℕ) (lo hi s t : List ℕ) (a f g : ℕ) where
  lower : List Corner
  lower = map (λ i. spot (x0 +ℤ pos w) y0 (col_at lo i)) (drop a s)

  upper' : List Corner
  upper' = map (λ i. spot_back (x0 +ℤ pos e) (y0 +ℤ pos h) (col_at hi i)) (slice f g t)

  lower_is : map (λ i. spot_by (spot x0 y0 (w, 0)) (pos 1) (col_at lo i)) (slice a (length s) s) ≡ lower
  unfolding lower
  lower_is = ap (map (λ i. spot_by (spot x0 y0 (w, 0)) (pos 1) (col_at lo i))) (slice_all a s) ∙ map_same (λ i. spot_by (spot x0 y0 (w, 0)) (pos 1) (col_at lo i)) (λ i. spot (x0 +ℤ pos w) y0 (col_at lo i)) (λ i. spot-by x0 y0 w (col_at lo i)) (drop a s)

  upper_is : map (λ i. spot_by (spot x0 y0 (e, h)) (negsuc 0) (col_at hi i)) (slice f g t) ≡ upper'
  unfolding upper'
  upper_is = map_same (λ i. spot_by (spot x0 y0 (e, h)) (negsuc 0) (col_at hi i)) (λ i. spot_back (x0 +ℤ pos e) (y0 +ℤ pos h) (col_at hi i)) (λ i. back_by x0 y0 e h (col_at hi i)) (slice f g t)

  pub write_both : (c d : Corner) (out one two : List ℤ) → c ≡ spot x0 y0 (w, 0) → d ≡ spot x0 y0 (e, h)
      → one ≡ sets out 0 (numbers (map (λ i. spot_by c (pos 1) (col_at lo i)) (slice a (length s) s)))
      → two ≡ sets one (2 * (length s - a)) (numbers (map (λ i. spot_by d (negsuc 0) (col_at hi i)) (slice f g t)))
      → two ≡ sets out 0 (numbers (map (λ i. spot (x0 +ℤ pos w) y0 (col_at lo i)) (drop a s) ++ map (λ i. spot_back (x0 +ℤ pos e) (y0 +ℤ pos h) (col_at hi i)) (slice f g t)))
  unfolding lower upper'
  write_both c d out one two ec ed p q =
      q ∙ ap₂ (λ (l : List ℤ) (k : Corner). sets l (2 * (length s - a)) (numbers (map (λ i. spot_by k (negsuc 0) (col_at hi i)) (slice f g t)))) (p ∙ ap (λ (k : Corner). sets out 0 (numbers (map (λ i. spot_by k (pos 1) (col_at lo i)) (slice a (length s) s)))) ec) ed
      ∙ ap₂ (λ (l m : List Corner). sets (sets out 0 (numbers l)) (2 * (length s - a)) (numbers m)) lower_is upper_is
      ∙ ap (λ (k : ℕ). sets (sets out 0 (numbers lower)) k (numbers upper')) count
      ∙ sym (sets_append out 0 (numbers lower) (numbers upper'))
      ∙ ap (sets out 0) (sym (numbers-append lower upper'))
    where
      count : 2 * (length s - a) ≡ 0 + length (numbers lower)
      count = omega (arith, length-numbers lower, length-map (drop a s) (λ i. spot (x0 +ℤ pos w) y0 (col_at lo i)), length-drop a s)

  pub length_both : f ≤ g → g ≤ length t → length (map (λ i. spot (x0 +ℤ pos w) y0 (col_at lo i)) (drop a s) ++ map (λ i. spot_back (x0 +ℤ pos e) (y0 +ℤ pos h) (col_at hi i)) (slice f g t)) ≡ (length s - a) + (g - f)
  length_both m n = omega (arith, length-append (map (λ i. spot (x0 +ℤ pos w) y0 (col_at lo i)) (drop a s)) (map (λ i. spot_back (x0 +ℤ pos e) (y0 +ℤ pos h) (col_at hi i)) (slice f g t)), length-map (drop a s) (λ i. spot (x0 +ℤ pos w) y0 (col_at lo i)), length-map (slice f g t) (λ i. spot_back (x0 +ℤ pos e) (y0 +ℤ pos h) (col_at hi i)), length-drop a s, length-slice f g t n)

-- what is left of the upper chain is a part of its array
chain_some : (ys t : List ℕ) (b k : ℕ) → drop b t ≡ chain_from ys 0 (suc k) → b < length t
unfolding chain_from
chain_some ys t b k e = omega (arith, length-drop b t, ap length e)

pub seam_room : (ys t : List ℕ) (b k : ℕ) (x : Bool) → drop b t ≡ chain_from ys 0 (suc k) → b + tally x ≤ length t
seam_room ys t b k x e = omega (arith, chain_some ys t b k e, tally_le x)

pub close_room : (f n : ℕ) (x : Bool) → f ≤ n → f ≤ n - tally (ltb f n && x)
close_room f n x h = go (dec_lt f n)
  where
    go : Dec (f < n) → f ≤ n - tally (ltb f n && x)
    go (yes l) = omega (arith, tally_le (ltb f n && x))
    go (no l) = omega (arith, ap (λ (s : Bool). tally (s && x)) (le-ltb f n (omega arith)))

skip_is : (x : Bool) (b : ℕ) (t : List ℕ) → skip x (drop b t) ≡ drop (b + tally x) t
skip_is true b t = drop-drop 1 b t
skip_is false b t = ap (λ (k : ℕ). drop k t) zero_right
  where
    zero_right : b ≡ b + 0
    zero_right = omega arith

front-is : (l : List ℕ) → front l ≡ take (length l - 1) l
front-is [] = refl
front-is (x ∷ []) = refl
front-is (x ∷ (y ∷ l)) = ap (λ (m : List ℕ). x ∷ m) (front-is (y ∷ l)) ∙ ap (λ (k : ℕ). take k (x ∷ (y ∷ l))) step
  where
    step : suc (suc (length l) - 1) ≡ suc (suc (length l)) - 1
    step = omega arith

front-drop : (f : ℕ) (t : List ℕ) → f < length t → front (drop f t) ≡ slice f (length t - 1) t
front-drop zero t h = front-is t
front-drop (suc f) [] h = let z : ⊥ = omega arith in absurd z
front-drop (suc f) (x ∷ t) h = front-drop f t (omega arith) ∙ ap (λ (k : ℕ). drop (suc f) (take k (x ∷ t))) step
  where
    step : suc (length t - 1) ≡ suc (length t) - 1
    step = omega arith

stop_is : (x : Bool) (f : ℕ) (t : List ℕ) → stop x (drop f t) ≡ slice f (length t - tally (ltb f (length t) && x)) t
stop_is x f t = go x (dec_lt f (length t))
  where
    go : (x : Bool) → Dec (f < length t) → stop x (drop f t) ≡ slice f (length t - tally (ltb f (length t) && x)) t
    go true (yes h) = front-drop f t h ∙ ap (λ (b : Bool). slice f (length t - tally (b && true)) t) (sym (lt-ltb f (length t) h))
    go false (yes h) = sym (slice_all f t) ∙ ap (λ (k : ℕ). slice f k t) all ∙ ap (λ (b : Bool). slice f (length t - tally (b && false)) t) (sym (lt-ltb f (length t) h))
      where
        all : length t ≡ length t - 0
        all = omega arith
    go true (no h) = ap front none ∙ sym none ∙ sym (slice_all f t) ∙ ap (λ (k : ℕ). slice f k t) all ∙ ap (λ (b : Bool). slice f (length t - tally (b && true)) t) (sym (le-ltb f (length t) (omega arith)))
      where
        none : drop f t ≡ []
        none = drop_of_length-le t {i = f} (omega arith)

        all : length t ≡ length t - 0
        all = omega arith
    go false (no h) = sym (slice_all f t) ∙ ap (λ (k : ℕ). slice f k t) all ∙ ap (λ (b : Bool). slice f (length t - tally (b && false)) t) (sym (le-ltb f (length t) (omega arith)))
      where
        all : length t ≡ length t - 0
        all = omega arith

upper_part : (h : ℕ) (lo hi t : List ℕ) (k b f g : ℕ) → drop b t ≡ chain_from hi 0 (suc k) → f ≡ b + tally (eqb (get_or lo k 0 + get_or hi 0 0) h) → g ≡ length t - tally (ltb f (length t) && eqb (get_or lo 0 0 + get_or hi k 0) h) → slice f g t ≡ upper h lo hi k
upper_part h lo hi t k b f g e p q =
    ap (λ (j : ℕ). slice f j t) q
    ∙ sym (stop_is (eqb (get_or lo 0 0 + get_or hi k 0) h) f t)
    ∙ ap (stop (eqb (get_or lo 0 0 + get_or hi k 0) h)) (ap (λ (j : ℕ). drop j t) p ∙ sym (skip_is (eqb (get_or lo k 0 + get_or hi 0 0) h) b t) ∙ ap (skip (eqb (get_or lo k 0 + get_or hi 0 0) h)) e)

-- so both parts are the hull
pub parts_hull : (x0 y0 : ℤ) (w e h : ℕ) (lo hi s t : List ℕ) (a b f g : ℕ) → drop a s ≡ chain_from lo 0 (suc (e - w)) → drop b t ≡ chain_from hi 0 (suc (e - w))
    → f ≡ b + tally (eqb (get_or lo (e - w) 0 + get_or hi 0 0) h) → g ≡ length t - tally (ltb f (length t) && eqb (get_or lo 0 0 + get_or hi (e - w) 0) h)
    → map (λ i. spot (x0 +ℤ pos w) y0 (col_at lo i)) (drop a s) ++ map (λ i. spot_back (x0 +ℤ pos e) (y0 +ℤ pos h) (col_at hi i)) (slice f g t) ≡ hull_by x0 y0 w e h lo hi
unfolding hull_by
parts_hull x0 y0 w e h lo hi s t a b f g p q r z =
    ap₂ (λ (l m : List ℕ). map (λ i. spot (x0 +ℤ pos w) y0 (col_at lo i)) l ++ map (λ i. spot_back (x0 +ℤ pos e) (y0 +ℤ pos h) (col_at hi i)) m) p (upper_part h lo hi t (e - w) b f g q r z)
