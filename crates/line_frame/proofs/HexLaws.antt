-- Hexadecimal.
-- Assumes nothing.
use mathlib.Core.Path.{◌≡◌, refl, ap, ◌∙◌}
use mathlib.Core.Bool.{Bool, true, false, cond, ◌&&◌, ◌||◌}
use mathlib.Core.List.{List, [], ◌∷◌, ◌++◌}
use Prim.Native.Nat.{ℕ, zero, suc, ◌+◌, ◌-◌, ◌*◌, ◌/◌, ◌%◌, ◌^◌, ◌<◌, ◌≤◌}
use native.Mathlib.Omega.{arith}
use native.Mathlib.Decide.{dec_lt}
use native.Mathlib.Nat.{pow-succ', mul_assoc, mul-suc}
use borrow.Author.Tests.{leb-true, le-leb, lt-leb, lt-ltb, le-ltb, ne_eqb}
use lib.ListN.{length, drop, get_or, length-append, drop_of_length-le}
use lib.Seq.{drop-cons}
use lib.Dec.{ltb, leb}
use Rattle.line_frame.specs.Hex.{is_hex, all_hex, values_of, value_of, number_from, letter_of, hex_of}
use Rattle.line_frame.specs.Program.{feeds_in}
use Rattle.line_frame.proofs.OutputLaws.{feeds_in-append, feeds_in-more}

pub length-hex_of : (n v : ℕ) → length (hex_of n v) ≡ n
unfolding hex_of
length-hex_of zero v = refl
length-hex_of (suc n) v = simp (length-append, length-hex_of n (v / 16)) (omega arith)

pub length-values_of : (s : List ℕ) → length (values_of s) ≡ length s
unfolding values_of
length-values_of [] = refl
length-values_of (b ∷ s) = ap suc (length-values_of s)

-- only digits: of what is left
pub all_hex_here : (s : List ℕ) (i : ℕ) → i < length s → all_hex (drop i s) ≡ is_hex (get_or s i 0) && all_hex (drop (suc i) s)
unfolding all_hex
all_hex_here s i h = rw (drop-cons s i 0 h) refl

pub all_hex_end : (s : List ℕ) (i : ℕ) → length s ≤ i → all_hex (drop i s) ≡ true
unfolding all_hex
all_hex_end s i h = rw (drop_of_length-le s h) refl

pub all_hex-at : (s : List ℕ) (i : ℕ) → all_hex s ≡ true → i < length s → is_hex (get_or s i 0) ≡ true
unfolding all_hex
all_hex-at [] i e h = absurd (omega arith)
all_hex-at (b ∷ s) zero e h = go (is_hex b) e
  where
    go : (c : Bool) → c && all_hex s ≡ true → c ≡ true
    go true f = refl
    go false f = f
all_hex-at (b ∷ s) (suc i) e h = all_hex-at s i (go (is_hex b) e) (omega arith)
  where
    go : (c : Bool) → c && all_hex s ≡ true → all_hex s ≡ true
    go true f = f
    go false f = let z : ◌≡◌ {A = ℕ} 0 1 = cc in absurd (omega arith)

-- where a digit stands among the bytes
pub is_hex_range : (b : ℕ) → is_hex b ≡ true → (48 ≤ b) × (b ≤ 102) × (57 < b → 97 ≤ b)
is_hex_range b e = go (leb 48 b) (leb b 57) (leb 97 b) (leb b 102) refl refl refl refl e
  where
    go : (p q r t : Bool) → leb 48 b ≡ p → leb b 57 ≡ q → leb 97 b ≡ r → leb b 102 ≡ t → (p && q) || (r && t) ≡ true → (48 ≤ b) × (b ≤ 102) × (57 < b → 97 ≤ b)
    go true true r t a c d f h = (leb-true 48 b a, omega (arith, leb-true b 57 c), λ l. absurd (omega (arith, leb-true b 57 c)))
    go true false true true a c d f h = (leb-true 48 b a, leb-true b 102 f, λ l. leb-true 97 b d)
    go false q true true a c d f h = (omega (arith, leb-true 97 b d), leb-true b 102 f, λ l. leb-true 97 b d)
    go true false true false a c d f h = let z : ◌≡◌ {A = ℕ} 0 1 = cc in absurd (omega arith)
    go true false false t a c d f h = let z : ◌≡◌ {A = ℕ} 0 1 = cc in absurd (omega arith)
    go false q true false a c d f h = let z : ◌≡◌ {A = ℕ} 0 1 = cc in absurd (omega arith)
    go false q false t a c d f h = let z : ◌≡◌ {A = ℕ} 0 1 = cc in absurd (omega arith)

pub values_of_here : (s : List ℕ) (i : ℕ) → i < length s → values_of (drop i s) ≡ value_of (get_or s i 0) ∷ values_of (drop (suc i) s)
unfolding values_of
values_of_here s i h = rw (drop-cons s i 0 h) refl

pub values_of_end : (s : List ℕ) (i : ℕ) → length s ≤ i → values_of (drop i s) ≡ []
unfolding values_of
values_of_end s i h = rw (drop_of_length-le s h) refl

-- the digit that is worth d
pub letter_value : (d : ℕ) → d < 16 → (is_hex (letter_of d) ≡ true) × (value_of (letter_of d) ≡ d)
letter_value d h =
    elim (dec_lt d 10) [
      | yes l ↦ rw (lt-ltb d 10 l, le-leb 48 (d + 48) (omega arith), le-leb (d + 48) 57 (omega arith)) (refl, omega arith)
      | no f ↦ rw (le-ltb d 10 (omega (arith, f)), le-leb 48 (d + 87) (omega arith), lt-leb (d + 87) 57 (omega (arith, f)), le-leb 97 (d + 87) (omega (arith, f)), le-leb (d + 87) 102 (omega arith)) (refl, omega arith)
    ]

-- and the digit that a byte is
pub value_letter : (b : ℕ) → is_hex b ≡ true → (value_of b < 16) × (letter_of (value_of b) ≡ b)
value_letter b e =
    let r = is_hex_range b e in
    elim (dec_lt 57 b) [
      | yes l ↦ rw (lt-leb b 57 l, le-ltb (b - 87) 10 (omega (arith, r.2 l))) (omega (arith, r.1), omega (arith, r.2 l))
      | no f ↦ rw (le-leb b 57 (omega (arith, f)), lt-ltb (b - 48) 10 (omega (arith, f))) (omega (arith, f), omega (arith, r.0))
    ]

-- the digits of a number say it, apart from what is cut off
number_snoc : (v : ℕ) (l : List ℕ) (b : ℕ) → number_from v (l ++ (b ∷ [])) ≡ number_from v l * 16 + value_of b
unfolding number_from
number_snoc v [] b = refl
number_snoc v (a ∷ l) b = number_snoc (v * 16 + value_of a) l b

pub field_number : (n v : ℕ) → (q : ℕ) × (v ≡ 16 ^ n * q + number_from 0 (hex_of n v)) × (number_from 0 (hex_of n v) < 16 ^ n)
unfolding number_from hex_of
field_number zero v = (v, omega arith, omega arith)
field_number (suc n) v =
    let x = field_number n (v / 16) in
    let q = x.0 in
    let m = number_from 0 (hex_of n (v / 16)) in
    let p : 16 ^ suc n ≡ 16 * 16 ^ n = pow-succ' 16 n in
    let e : number_from 0 (hex_of n (v / 16) ++ (letter_of (v % 16) ∷ [])) ≡ m * 16 + v % 16 = number_snoc 0 (hex_of n (v / 16)) (letter_of (v % 16)) ∙ ap (λ (d : ℕ). m * 16 + d) (letter_value (v % 16) (omega arith)).1 in
    let w : 16 ^ suc n * q ≡ 16 * (16 ^ n * q) = ap (λ (k : ℕ). k * q) p ∙ mul_assoc 16 (16 ^ n) q in
    (q, omega (arith, e, w, x.1), omega (arith, e, p, x.2))

-- a number that the digits can say is read back
pub field_back : (n v : ℕ) → v < 16 ^ n → number_from 0 (hex_of n v) ≡ v
field_back n v h = let x = field_number n v in go x.0 x.1
  where
    go : (q : ℕ) → v ≡ 16 ^ n * q + number_from 0 (hex_of n v) → number_from 0 (hex_of n v) ≡ v
    go zero e = omega (arith, e)
    go (suc q) e = absurd (omega (arith, e, mul-suc (16 ^ n) q))

-- no digit is a line feed
letter_feeds : (d : ℕ) → feeds_in (letter_of d ∷ []) ≡ 0
letter_feeds d = go (ltb d 10)
  where
    go : (b : Bool) → feeds_in (cond b (d + 48) (d + 87) ∷ []) ≡ 0
    go true = feeds_in-more (d + 48) [] (ne_eqb (d + 48) 10 (λ e. omega arith))
    go false = feeds_in-more (d + 87) [] (ne_eqb (d + 87) 10 (λ e. omega arith))

pub none-append : (r s : List ℕ) → feeds_in r ≡ 0 → feeds_in s ≡ 0 → feeds_in (r ++ s) ≡ 0
none-append r s g h = omega (arith, feeds_in-append r s)

pub field_feeds : (n v : ℕ) → feeds_in (hex_of n v) ≡ 0
unfolding hex_of
field_feeds zero v = refl
field_feeds (suc n) v = none-append (hex_of n (v / 16)) (letter_of (v % 16) ∷ []) (field_feeds n (v / 16)) (letter_feeds (v % 16))
