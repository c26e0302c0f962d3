-- Numbers out of bytes, and lists that begin with another.
-- Assumes nothing.
use mathlib.Core.Path.{◌≡◌, refl, sym, ap, ap₂, ◌∙◌}
use mathlib.Core.Bool.{true, false, ◌&&◌}
use mathlib.Core.List.{List, [], ◌∷◌, ◌++◌, reverse, reverse-cons}
use Prim.Native.Nat.{ℕ, zero, suc, ◌+◌, ◌-◌, ◌*◌, ◌/◌, ◌%◌, ◌^◌, ◌≤◌, ◌<◌}
use native.Mathlib.Nat.{pow-succ', div-div-eq-div-mul, le_trans, lt_of_lt_of_le, pow-le-pow_right}
use native.Mathlib.Omega.{arith}
use native.Mathlib.Numerals.{add-one}
use lib.ListN.{length, take, drop, get_or}
use lib.Seq.{drop-length, take-suc, drop-cons}
use Rattle.std.specs.Int.{w64, swap_bytes}
use Rattle.std.specs.List as list
use lib.Dec.{eqb}
use Rattle.polygon.specs.Bytes.{bytes_of}
use Rattle.polygon_ring.specs.Bytes.{number_of, number_in, starts_with}

pub number_of-bytes_of : (n b : ℕ) → b < 256 ^ n → number_of (bytes_of n b) ≡ b
unfolding bytes_of number_of
number_of-bytes_of zero b h = omega arith
number_of-bytes_of (suc n) b h =
    let p : 256 ^ suc n ≡ 256 * 256 ^ n = pow-succ' 256 n in
    let r : number_of (bytes_of n (b / 256)) ≡ b / 256 = number_of-bytes_of n (b / 256) (omega arith) in
    ap (λ (z : ℕ). b % 256 + 256 * z) r ∙ whole b
  where
    whole : (b : ℕ) → b % 256 + 256 * (b / 256) ≡ b
    whole b = omega arith

-- one more byte
pub grows : (v d k : ℕ) → v < 256 ^ k → d < 256 → v * 256 + d < 256 ^ (k + 1)
grows v d k h e =
    let p : 256 ^ (k + 1) ≡ 256 * 256 ^ k = rw add-one (pow-succ' 256 k) in
    omega arith

-- little: one more byte, taken from the end
pub little_first : (s : List ℕ) → 0 ≡ number_of (drop (length s) s)
unfolding number_of
little_first s = ap number_of (sym (drop-length s))

pub little_more : (s : List ℕ) (i v : ℕ) → 0 < i → i ≤ length s → v ≡ number_of (drop i s) → v * 256 + get_or s (i - 1) 0 ≡ number_of (drop (i - 1) s)
unfolding number_of
little_more s i v p h e =
    let c : drop (i - 1) s ≡ get_or s (i - 1) 0 ∷ drop (suc (i - 1)) s = drop-cons s (i - 1) 0 (omega arith) in
    let k : suc (i - 1) ≡ i = omega arith in
    let n : number_of (drop (i - 1) s) ≡ get_or s (i - 1) 0 + 256 * number_of (drop i s) = ap number_of c ∙ ap (λ (z : ℕ). get_or s (i - 1) 0 + 256 * number_of (drop z s)) k in
    omega arith

-- big: one more byte, taken from the start
reverse_snoc : (l : List ℕ) (a : ℕ) → reverse (l ++ (a ∷ [])) ≡ a ∷ reverse l
reverse_snoc [] a = refl
reverse_snoc (x ∷ l) a = reverse-cons x (l ++ (a ∷ [])) ∙ ap (λ (z : List ℕ). z ++ (x ∷ [])) (reverse_snoc l a) ∙ ap (λ (z : List ℕ). a ∷ z) (sym (reverse-cons x l))

pub big_more : (s : List ℕ) (i v : ℕ) → i < length s → v ≡ number_of (reverse (take i s)) → v * 256 + get_or s i 0 ≡ number_of (reverse (take (i + 1) s))
unfolding number_of
big_more s i v h e =
    let c : reverse (take (i + 1) s) ≡ get_or s i 0 ∷ reverse (take i s) = rw add-one (ap reverse (take-suc s i 0 h) ∙ reverse_snoc (take i s) (get_or s i 0)) in
    let n : number_of (reverse (take (i + 1) s)) ≡ get_or s i 0 + 256 * number_of (reverse (take i s)) = ap number_of c in
    omega arith

-- a number of at most eight bytes fits 64 bits
pub fits_eight : (v n : ℕ) → n ≤ 8 → v < 256 ^ n → v < 2 ^ 64
fits_eight v n h p = lt_of_lt_of_le p (le_trans (pow-le-pow_right (omega arith) h) (omega arith))

-- ---- a number's bytes in the other order

-- the bytes of a number that has the bytes of s are those
bytes_of-number_of : (s : List ℕ) → ((i : ℕ) → get_or s i 0 < 256) → bytes_of (length s) (number_of s) ≡ s
unfolding bytes_of number_of
bytes_of-number_of [] h = refl
bytes_of-number_of (d ∷ s) h =
    ap₂ ◌∷◌ (first d (number_of s) (h 0)) (ap (bytes_of (length s)) (later d (number_of s) (h 0)) ∙ bytes_of-number_of s (λ i. h (suc i)))
  where
    first : (d n : ℕ) → d < 256 → (d + 256 * n) % 256 ≡ d
    first d n l = omega arith

    later : (d n : ℕ) → d < 256 → (d + 256 * n) / 256 ≡ n
    later d n l = omega arith

pub eight_swapped : (s : List ℕ) (v : ℕ) → length s ≡ 8 → ((i : ℕ) → get_or s i 0 < 256) → v ≡ number_in true s → number_in false (bytes_of 8 v) ≡ number_in false s
unfolding number_in
eight_swapped s v l h e = ap (number_in false) (ap₂ bytes_of (sym l) e ∙ bytes_of-number_of s h)

-- the eight bytes of a number, in the other order
pub swapped_is : (v : ℕ) → swap_bytes w64 v ≡ number_in false (bytes_of 8 v)
unfolding number_in bytes_of
swapped_is v = simp div-div-eq-div-mul (omega arith)

-- ---- a list that begins with another

pub starts_is : (p s : List ℕ) → list.starts_with eqb s p ≡ starts_with p s
unfolding starts_with
starts_is [] s = refl
starts_is (p ∷ ps) [] = refl
starts_is (p ∷ ps) (b ∷ s) = ap₂ ◌&&◌ (either_way p b) (starts_is ps s)
  where
    either_way : (a b : ℕ) → eqb a b ≡ eqb b a
    either_way a b = grind arith
