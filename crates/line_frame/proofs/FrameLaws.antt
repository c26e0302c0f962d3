-- A line is a frame of a kind with some digits exactly when it is what they spell.
-- Assumes nothing.
use mathlib.Core.Path.{◌≡◌, refl, sym, ap, ap₂, ◌∙◌}
use Rattle.std.specs.Prelude.{Option, Some, None}
use mathlib.Core.Bool.{Bool, true, false, cond, ◌&&◌}
use mathlib.Core.List.{List, [], ◌∷◌, ◌++◌}
use Prim.Native.Nat.{ℕ, zero, suc, ◌+◌, ◌*◌, ◌/◌, ◌%◌, ◌<◌, ◌≤◌}
use native.Mathlib.Omega.{arith}
use borrow.Author.Tests.{ltb-true}
use lib.Dec.{ltb, leb, eqb}
use lib.ListN.{length, length-append, drop}
use Rattle.lists.specs.Lists.{Below}
use Rattle.lists.proofs.GatherLaws.{and_left, and_right}
use Rattle.line_frame.specs.declared.Kind.{Kind, TheVariants.Operations, TheVariants.Turns}
use Rattle.line_frame.specs.Sizes.{head_digits, most_digits}
use Rattle.line_frame.specs.Hex.{is_hex, value_of, all_hex, values_of, number_from, letter_of, hex_of}
use Rattle.line_frame.specs.Line.{kind_of, count_of, is_frame, kind_named, frame_of, digits_of}
use Rattle.line_frame.specs.Converted.{letters_of, framed}
use Rattle.line_frame.proofs.HexLaws.{length-hex_of, letter_value, value_letter}
use Rattle.line_frame.proofs.LineLaws.{frame_of_frame, one_frame, frame_good, length-digits_of}

pub length-letters_of : (ds : List ℕ) → length (letters_of ds) ≡ length ds
unfolding letters_of
length-letters_of [] = refl
length-letters_of (d ∷ ds) = ap suc (length-letters_of ds)

letters_hex : (ds : List ℕ) → Below 16 ds → all_hex (letters_of ds) ≡ true
unfolding letters_of all_hex
letters_hex [] b = refl
letters_hex (d ∷ ds) b = rw (letter_value d b.0).0 (letters_hex ds b.1)

letters_values : (ds : List ℕ) → Below 16 ds → values_of (letters_of ds) ≡ ds
unfolding letters_of values_of
letters_values [] b = refl
letters_values (d ∷ ds) b = ap₂ (λ (x : ℕ) (l : List ℕ). x ∷ l) (letter_value d b.0).1 (letters_values ds b.1)

-- ---- what is spelled is a frame
module _ (k : ℕ) (small : k < 2) (ds : List ℕ) (b : Below 16 ds) where
  pub length-framed : length (framed k ds) ≡ head_digits + length ds
  length-framed =
      omega (arith, length-append (hex_of 2 k ++ hex_of 4 (length ds)) (letters_of ds), length-append (hex_of 2 k) (hex_of 4 (length ds)), length-hex_of 2 k, length-hex_of 4 (length ds), length-letters_of ds)

  pub framed_hex : all_hex (framed k ds) ≡ true
  unfolding all_hex hex_of
  framed_hex =
      let n : ℕ = length ds in
      rw (
        (letter_value (k / 16 % 16) (omega arith)).0,
        (letter_value (k % 16) (omega arith)).0,
        (letter_value (n / 16 / 16 / 16 % 16) (omega arith)).0,
        (letter_value (n / 16 / 16 % 16) (omega arith)).0,
        (letter_value (n / 16 % 16) (omega arith)).0,
        (letter_value (n % 16) (omega arith)).0,
      )
      (letters_hex ds b)

  framed_kind : kind_of (framed k ds) ≡ k
  unfolding number_from hex_of
  framed_kind = omega (arith, (letter_value (k / 16 % 16) (omega arith)).1, (letter_value (k % 16) (omega arith)).1)

  framed-count : length ds ≤ most_digits → length ds ≡ count_of (framed k ds)
  unfolding number_from hex_of
  framed-count h =
      let n : ℕ = length ds in
      omega (arith, (letter_value (n / 16 / 16 / 16 % 16) (omega arith)).1, (letter_value (n / 16 / 16 % 16) (omega arith)).1, (letter_value (n / 16 % 16) (omega arith)).1, (letter_value (n % 16) (omega arith)).1)

  pub frame_of-framed : length ds ≤ most_digits → frame_of (framed k ds) ≡ Some (kind_named k, length ds)
  frame_of-framed h = sym (frame_of_frame (framed k ds) (kind_named k) (length ds) framed_hex (omega (arith, framed_kind)) h length-framed (ap kind_named (sym framed_kind)) (framed-count h))

  pub digits_framed : digits_of (framed k ds) ≡ ds
  unfolding hex_of
  digits_framed = letters_values ds b

-- ---- and a frame is what its digits spell
values_letters : (s : List ℕ) → all_hex s ≡ true → Below 16 (values_of s) × (letters_of (values_of s) ≡ s)
unfolding letters_of values_of all_hex
values_letters [] e = (tt, refl)
values_letters (b ∷ s) e =
    let v = value_letter b (and_left (is_hex b) (all_hex s) e) in
    let w = values_letters s (and_right (is_hex b) (all_hex s) e) in
    ((v.0, w.0), ap₂ (λ (x : ℕ) (l : List ℕ). x ∷ l) v.1 w.1)

-- a digit that was read is written again
again : (b v : ℕ) → is_hex b ≡ true → v ≡ value_of b → letter_of v ≡ b
again b v h e = ap letter_of e ∙ (value_letter b h).1

head_letters : (a b c d e f : ℕ) (s : List ℕ) → all_hex (a ∷ b ∷ c ∷ d ∷ e ∷ f ∷ s) ≡ true
    → hex_of 2 (kind_of (a ∷ b ∷ c ∷ d ∷ e ∷ f ∷ s)) ++ hex_of 4 (count_of (a ∷ b ∷ c ∷ d ∷ e ∷ f ∷ s)) ++ s ≡ a ∷ b ∷ c ∷ d ∷ e ∷ f ∷ s
unfolding number_from hex_of all_hex
head_letters a b c d e f s h =
    let h1 = and_right (is_hex a) (all_hex (b ∷ c ∷ d ∷ e ∷ f ∷ s)) h in
    let h2 = and_right (is_hex b) (all_hex (c ∷ d ∷ e ∷ f ∷ s)) h1 in
    let h3 = and_right (is_hex c) (all_hex (d ∷ e ∷ f ∷ s)) h2 in
    let h4 = and_right (is_hex d) (all_hex (e ∷ f ∷ s)) h3 in
    let h5 = and_right (is_hex e) (all_hex (f ∷ s)) h4 in
    let ia = and_left (is_hex a) (all_hex (b ∷ c ∷ d ∷ e ∷ f ∷ s)) h in
    let ib = and_left (is_hex b) (all_hex (c ∷ d ∷ e ∷ f ∷ s)) h1 in
    let ic = and_left (is_hex c) (all_hex (d ∷ e ∷ f ∷ s)) h2 in
    let id = and_left (is_hex d) (all_hex (e ∷ f ∷ s)) h3 in
    let ie = and_left (is_hex e) (all_hex (f ∷ s)) h4 in
    let if = and_left (is_hex f) (all_hex s) h5 in
    let m : ℕ = (0 + value_of a) * 16 + value_of b in
    let n : ℕ = (((0 + value_of c) * 16 + value_of d) * 16 + value_of e) * 16 + value_of f in
    cons (again a (m / 16 % 16) ia (omega (arith, (value_letter a ia).0, (value_letter b ib).0)))
    (cons (again b (m % 16) ib (omega (arith, (value_letter b ib).0)))
    (cons (again c (n / 16 / 16 / 16 % 16) ic (omega (arith, (value_letter c ic).0, (value_letter d id).0, (value_letter e ie).0, (value_letter f if).0)))
    (cons (again d (n / 16 / 16 % 16) id (omega (arith, (value_letter d id).0, (value_letter e ie).0, (value_letter f if).0)))
    (cons (again e (n / 16 % 16) ie (omega (arith, (value_letter e ie).0, (value_letter f if).0)))
    (cons (again f (n % 16) if (omega (arith, (value_letter f if).0))) refl)))))
  where
    cons : {x y : ℕ} {l m : List ℕ} → x ≡ y → l ≡ m → ◌≡◌ {A = List ℕ} (x ∷ l) (y ∷ m)
    cons p q = ap₂ (λ (z : ℕ) (n : List ℕ). z ∷ n) p q

-- the number of a kind
abbrev pub kind_number : Kind → ℕ
kind_number Operations = 0
kind_number Turns = 1

pub kind_number_lem : (n : ℕ) → n < 2 → kind_number (kind_named n) ≡ n
kind_number_lem zero h = refl
kind_number_lem (suc zero) h = refl
kind_number_lem (suc (suc n)) h = absurd (omega arith)

frame_head : (s : List ℕ) (k : Kind) (n : ℕ) → frame_of s ≡ Some (k, n) → (kind_of s ≡ kind_number k) × (count_of s ≡ n)
unfolding frame_of
frame_head s k n e = go (is_frame s) refl e
  where
    go : (b : Bool) → is_frame s ≡ b → cond {A = Option (Kind × ℕ)} b (Some (kind_named (kind_of s), count_of s)) None ≡ Some (k, n) → (kind_of s ≡ kind_number k) × (count_of s ≡ n)
    go true p w =
        let q = one_frame w in
        let two = and_right (all_hex s) (ltb (kind_of s) 2) (and_left (all_hex s && ltb (kind_of s) 2) (leb (count_of s) most_digits) (and_left (all_hex s && ltb (kind_of s) 2 && leb (count_of s) most_digits) (eqb (length s) (head_digits + count_of s)) p)) in
        (sym (kind_number_lem (kind_of s) (ltb-true (kind_of s) 2 two)) ∙ ap kind_number q.0, q.1)
    go false p w = let z : ◌≡◌ {A = ℕ} 0 1 = cc in absurd (omega arith)

hex_after : (i : ℕ) (s : List ℕ) → all_hex s ≡ true → all_hex (drop i s) ≡ true
unfolding all_hex
hex_after zero s e = e
hex_after (suc i) [] e = refl
hex_after (suc i) (b ∷ s) e = hex_after i s (and_right (is_hex b) (all_hex s) e)

letters_again : (s : List ℕ) → all_hex s ≡ true → head_digits ≤ length s → hex_of 2 (kind_of s) ++ hex_of 4 (count_of s) ++ drop head_digits s ≡ s
letters_again (a ∷ b ∷ c ∷ d ∷ e ∷ f ∷ s) h l = head_letters a b c d e f s h
letters_again (a ∷ b ∷ c ∷ d ∷ e ∷ []) h l = absurd (omega arith)
letters_again (a ∷ b ∷ c ∷ d ∷ []) h l = absurd (omega arith)
letters_again (a ∷ b ∷ c ∷ []) h l = absurd (omega arith)
letters_again (a ∷ b ∷ []) h l = absurd (omega arith)
letters_again (a ∷ []) h l = absurd (omega arith)
letters_again [] h l = absurd (omega arith)

pub frame_spelled : (s : List ℕ) (k : Kind) (n : ℕ) → frame_of s ≡ Some (k, n) → (length (digits_of s) ≤ most_digits) × Below 16 (digits_of s) × (s ≡ framed (kind_number k) (digits_of s))
frame_spelled s k n e =
    let g = frame_good s k n e in
    let h = frame_head s k n e in
    let l = length-digits_of s n g.size in
    let v = values_letters (drop head_digits s) (hex_after head_digits s g.digits) in (
      omega (arith, l, g.most),
      v.0,
      sym (letters_again s g.digits (omega (arith, g.size)))
          ∙ ap₂ (λ (x y : ℕ). hex_of 2 x ++ hex_of 4 y ++ drop head_digits s) h.0 (h.1 ∙ l)
          ∙ ap (λ (r : List ℕ). hex_of 2 (kind_number k) ++ hex_of 4 (length (digits_of s)) ++ r) (sym v.1),
    )
