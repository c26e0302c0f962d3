-- A file in the other byte order is read as the file is.
-- Assumes nothing.
use Rattle.std.specs.Prelude.{Option}
use mathlib.Core.Path.{◌≡◌, refl, sym, ap, ap₂, ◌∙◌, subst}
use mathlib.Core.Bool.{Bool, true, false, not}
use mathlib.Core.List.{List, ◌∷◌, ◌++◌, map, reverse, reverse-reverse}
use Prim.Native.Nat.{ℕ, zero, suc, ◌+◌, ◌-◌, ◌*◌, ◌/◌, ◌≤◌, ◌<◌, min}
use native.Mathlib.Omega.{arith}
use lib.Dec.{eqb}
use lib.Ieee.{binary64, of_bits}
use lib.ListN.{length, take, drop, length-append, length-take, length-drop, length-reverse}
use lib.Seq.{take_at, drop_at, drop-drop, drop-append-add}
use Rattle.polygon_ring.specs.Answers.{Given}
use Rattle.answer.specs.Answers.{Judged}
use Rattle.grid.specs.declared.Corner.{Corner}
use Rattle.answer.specs.declared.{Refusal.TheVariants.FileLength}
use Rattle.answer.specs.Refusal.{when, or_else}
use Rattle.polygon_ring.specs.Bytes.{number_of, number_in}
use Rattle.polygon_ring.specs.Coordinate.{whole_of}
use Rattle.polygon_ring.specs.Ring.{both, most_at, point_in, point_at, points_from, corner_in, chain_of_points, count_in, points_in, given_of, ReadCall}
use Rattle.polygon_ring_laws.specs.Reading.{ring_judged, points_judged, ReadIn}
use Rattle.answer.specs.Listed.{laid_if}
use Rattle.polygon_ring_laws.specs.Files.{header_in, Headed, eights_reversed, twin_of}
use Rattle.polygon_ring_laws.proofs.ReadLaws.{read_ordered, ordered_read}
use Rattle.polygon_ring_laws.proofs.FileLaws.{headed_order}

-- ---- one number

number-twin : (little : Bool) (ds : List ℕ) → number_in (not little) (reverse ds) ≡ number_in little ds
unfolding number_in
number-twin true ds = ap number_of (reverse-reverse ds)
number-twin false ds = refl

full : (s : List ℕ) (n : ℕ) → n ≤ length s → length (reverse (take n s)) ≡ n
full s n h = length-reverse (take n s) ∙ length-take n s ∙ least n (length s) h
  where
    least : (n m : ℕ) → n ≤ m → min n m ≡ n
    least n m h = omega arith

-- ---- numbers in a row

length-eights_reversed : (n : ℕ) (s : List ℕ) → length (eights_reversed n s) ≡ length s
length-eights_reversed zero s = refl
length-eights_reversed (suc n) s =
    length-append (reverse (take 8 s)) (eights_reversed n (drop 8 s))
    ∙ ap₂ ◌+◌ (length-reverse (take 8 s) ∙ length-take 8 s) (length-eights_reversed n (drop 8 s) ∙ length-drop 8 s)
    ∙ both_parts (length s)
  where
    both_parts : (n : ℕ) → min 8 n + (n - 8) ≡ n
    both_parts n = omega arith

eights_reversed-at : (m : ℕ) (s : List ℕ) (k : ℕ) → k < m → 8 * m ≤ length s → take 8 (drop (8 * k) (eights_reversed m s)) ≡ reverse (take 8 (drop (8 * k) s))
eights_reversed-at zero s k h w = absurd (omega arith)
eights_reversed-at (suc m) s zero h w = take_at (reverse (take 8 s)) (eights_reversed m (drop 8 s)) 8 (full s 8 (omega arith))
eights_reversed-at (suc m) s (suc k) h w =
    let A = reverse (take 8 s) in
    let size : length A ≡ 8 = full s 8 (omega arith) in
    ap (λ (n : ℕ). take 8 (drop n (A ++ eights_reversed m (drop 8 s)))) (next k ∙ ap (λ (n : ℕ). n + 8 * k) (sym size))
    ∙ ap (take 8) (drop-append-add A (eights_reversed m (drop 8 s)) (8 * k))
    ∙ eights_reversed-at m (drop 8 s) k (omega arith) (omega (arith, length-drop 8 s))
    ∙ ap (λ (l : List ℕ). reverse (take 8 l)) (drop-drop (8 * k) 8 s ∙ ap (λ (n : ℕ). drop n s) (sym (next k)))
  where
    next : (k : ℕ) → 8 * suc k ≡ 8 + 8 * k
    next k = omega arith

-- ---- the points

module _ (little : Bool) (m : ℕ) (s : List ℕ) (w : 8 * m ≤ length s) where
  coordinate_twin : (k j : ℕ) → 8 * k ≡ j → k < m → number_in (not little) (take 8 (drop j (eights_reversed m s))) ≡ number_in little (take 8 (drop j s))
  coordinate_twin k j e h =
      ap (λ (n : ℕ). number_in (not little) (take 8 (drop n (eights_reversed m s)))) (sym e)
      ∙ ap (number_in (not little)) (eights_reversed-at m s k h w)
      ∙ number-twin little (take 8 (drop (8 * k) s))
      ∙ ap (λ (n : ℕ). number_in little (take 8 (drop n s))) e

  point_twin : (i : ℕ) → 2 * i + 1 < m → point_at (not little) (eights_reversed m s) i ≡ point_at little s i
  unfolding point_at point_in
  point_twin i h =
      ap₂ (λ (x y : ℕ). both (whole_of (most_at i) (of_bits binary64 x)) (whole_of (most_at i) (of_bits binary64 y)))
      (coordinate_twin (2 * i) (16 * i) (omega arith) (omega arith))
      (ap (λ (l : List ℕ). number_in (not little) (take 8 l)) (drop-drop 8 (16 * i) (eights_reversed m s))
      ∙ coordinate_twin (2 * i + 1) (16 * i + 8) (omega arith) h
      ∙ ap (λ (l : List ℕ). number_in little (take 8 l)) (sym (drop-drop 8 (16 * i) s)))

  points_twin : (i n : ℕ) → 2 * (i + n) ≤ m → points_from (not little) (eights_reversed m s) i n ≡ points_from little s i n
  unfolding points_from
  points_twin i zero h = refl
  points_twin i (suc n) h = ap₂ (λ (p : Option Corner) (ps : List (Option Corner)). p ∷ ps) (point_twin i (omega arith)) (points_twin (suc i) n (omega arith))

-- ---- the header

abbrev tail_of : ℕ → List ℕ → List ℕ
tail_of m rest = reverse (take 4 rest) ++ eights_reversed m (drop 4 rest)

twin-is : (little : Bool) (rest : List ℕ) → twin_of (header_in little ++ rest) ≡ header_in (not little) ++ tail_of ((length (header_in little ++ rest) - 13) / 8) rest
twin-is true rest = refl
twin-is false rest = refl

length-headed : (little : Bool) (rest : List ℕ) → length (header_in little ++ rest) ≡ 9 + length rest
length-headed true rest = length-append (header_in true) rest
length-headed false rest = length-append (header_in false) rest

count-headed : (little : Bool) (rest : List ℕ) → count_in little (header_in little ++ rest) ≡ number_in little (take 4 rest)
unfolding count_in
count-headed true rest = refl
count-headed false rest = refl

points_headed : (little : Bool) (rest : List ℕ) → drop 13 (header_in little ++ rest) ≡ drop 4 rest
points_headed true rest = refl
points_headed false rest = refl

module _ (little : Bool) (rest : List ℕ) (h : 4 ≤ length rest) where
  abbrev file : List ℕ
  file = header_in little ++ rest

  abbrev eights : ℕ
  eights = (length file - 13) / 8

  abbrev twin : List ℕ
  twin = header_in (not little) ++ tail_of eights rest

  count-there : length (reverse (take 4 rest)) ≡ 4
  count-there = full rest 4 h

  twin-length : length twin ≡ length file
  twin-length =
      length-headed (not little) (tail_of eights rest)
      ∙ ap (λ (n : ℕ). 9 + n) (length-append (reverse (take 4 rest)) (eights_reversed eights (drop 4 rest)) ∙ ap₂ ◌+◌ count-there (length-eights_reversed eights (drop 4 rest) ∙ length-drop 4 rest) ∙ whole (length rest) h)
      ∙ sym (length-headed little rest)
    where
      whole : (n : ℕ) → 4 ≤ n → 4 + (n - 4) ≡ n
      whole n h = omega arith

  twin-count : count_in (not little) twin ≡ count_in little file
  twin-count =
      count-headed (not little) (tail_of eights rest)
      ∙ ap (number_in (not little)) (take_at (reverse (take 4 rest)) (eights_reversed eights (drop 4 rest)) 4 count-there)
      ∙ number-twin little (take 4 rest)
      ∙ sym (count-headed little rest)

  twin_points : points_in (not little) twin ≡ points_in little file
  twin_points =
      let k = (length file - 13) / 16 in
      ap₂ (λ (s : List ℕ) (n : ℕ). points_from (not little) s 0 n)
      (points_headed (not little) (tail_of eights rest) ∙ drop_at (reverse (take 4 rest)) (eights_reversed eights (drop 4 rest)) 4 count-there) (ap (λ (n : ℕ). (n - 13) / 16) twin-length)
      ∙ points_twin little eights (drop 4 rest) (enough (length file) (length rest) (length (drop 4 rest)) (length-headed little rest) (length-drop 4 rest)) 0 k (pairs (length file))
      ∙ ap (λ (s : List ℕ). points_from little s 0 k) (sym (points_headed little rest))
    where
      enough : (l n d : ℕ) → l ≡ 9 + n → d ≡ n - 4 → 8 * ((l - 13) / 8) ≤ d
      enough l n d e f = omega arith

      pairs : (l : ℕ) → 2 * (0 + (l - 13) / 16) ≤ (l - 13) / 8
      pairs l = omega arith

  twin-judged : (room : ℕ) → points_judged (not little) twin room ≡ points_judged little file room
  twin-judged room =
      ap₂ (λ (b : Bool) (ps : List (Option Corner)). or_else (when (not b) FileLength) (ring_judged ps room)) (ap₂ (λ (l n : ℕ). eqb l (13 + 16 * n)) twin-length twin-count) twin_points

  twin_in : (out : List ℕ) (g : Given) (out' : List ℕ) → ReadIn little file out g out' → ReadIn (not little) twin out g out'
  twin_in out g out' p = record {
    answer = p.answer ∙ sym (ap₂ (λ (c : Judged) (ps : List (Option Corner)). given_of c (map corner_in ps)) (twin-judged (length out)) twin_points);
    buffer = p.buffer ∙ sym (ap₂ (λ (c : Judged) (ps : List (Option Corner)). laid_if c (chain_of_points (map corner_in ps)) out) (twin-judged (length out)) twin_points);
  }

  twin_call : (out : List ℕ) (g : Given) (out' : List ℕ) → ReadCall file out g out' → ReadCall twin out g out'
  twin_call out g out' p =
      let l : 13 ≤ length file = omega (arith, length-headed little rest) in
      let k : 13 ≤ length twin = omega (arith, twin-length) in
      let o = headed_order little file (record { enough = l; rest = rest; header = refl }) in
      let q = headed_order (not little) twin (record { enough = k; rest = tail_of eights rest; header = refl }) in
      read_ordered (not little) twin k q.0 q.1 out g out' (twin_in out g out' (ordered_read little file l o.0 o.1 out g out' p))

pub twin-read : (little : Bool) (file out : List ℕ) (g : Given) (out' : List ℕ) → Headed little file → ReadCall file out g out' → ReadCall (twin_of file) out g out'
twin-read little file out g out' h p =
    subst (λ (l : List ℕ). ReadCall (twin_of l) out g out') (sym h.header)
    (subst (λ (l : List ℕ). ReadCall l out g out') (sym (twin-is little h.rest))
    (twin_call little h.rest (room (length file) (length h.rest) h.enough (ap length h.header ∙ length-headed little h.rest)) out g out' (subst (λ (l : List ℕ). ReadCall l out g out') h.header p)))
  where
    room : (l n : ℕ) → 13 ≤ l → l ≡ 9 + n → 4 ≤ n
    room l n h e = omega arith
