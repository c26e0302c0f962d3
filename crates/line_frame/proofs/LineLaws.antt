-- One line and its answer.
-- Assumes nothing.
use mathlib.Core.Path.{◌≡◌, refl, sym, ap, ap₂, ◌∙◌}
use Rattle.std.specs.Prelude.{Option, Some, None}
use mathlib.Core.Bool.{Bool, true, false, cond, ◌&&◌}
use mathlib.Core.List.{List, [], ◌∷◌}
use Prim.Native.Nat.{ℕ, zero, suc, ◌+◌, ◌*◌, ◌<◌, ◌≤◌}
use native.Mathlib.Omega.{arith}
use borrow.Author.Tests.{leb-true, eqb-true, ne_eqb, le-ltb, lt-leb, lt-ltb, le-leb, eq-eqb}
use lib.ListN.{length, drop, length-drop}
use lib.Dec.{leb, ltb, eqb}
use Rattle.answer.specs.declared.Refusal.TheVariants.{BadLine, RetiredKind}
use Rattle.steps.specs.Operations.{survivors}
use Rattle.steps.proofs.SurvivorLaws.{length-survivors}
use Rattle.line_frame.specs.declared.Kind.{Kind}
use Rattle.line_frame.specs.declared.Kind.TheVariants.{Turns}
use Rattle.line_frame.specs.Sizes.{head_digits, most_digits, most_line, most_answer}
use Rattle.line_frame.specs.Hex.{all_hex, pair_at, number_from}
use Rattle.line_frame.specs.Line.{frame_of, kind_named, is_frame, kind_of, count_of, digits_of, kind_walked, frame_walked, line_walked, line_answer}
use Rattle.line_frame.specs.Spelled.{refused_line, answer_line}
use Rattle.line_frame.specs.Program.{feeds_in}
use Rattle.line_frame.proofs.HexLaws.{length-values_of}
use Rattle.line_frame.proofs.SpelledLaws.{length-refused_line, answer_line_most, answer_line_feeds}

-- of four tests that pass, the last two
last-two : (a b c d : Bool) → a && b && c && d ≡ true → (c ≡ true) × (d ≡ true)
last-two true true true true e = (refl, refl)
last-two true true true false e = (refl, e)
last-two true true false d e = let z : ◌≡◌ {A = ℕ} 0 1 = cc in absurd (omega arith)
last-two true false c d e = let z : ◌≡◌ {A = ℕ} 0 1 = cc in absurd (omega arith)
last-two false b c d e = let z : ◌≡◌ {A = ℕ} 0 1 = cc in absurd (omega arith)

-- how long a frame is at most
pub is_frame-short : (s : List ℕ) → is_frame s ≡ true → length s ≤ most_line
is_frame-short s e =
    let p = last-two (all_hex s) (ltb (kind_of s) 2) (leb (count_of s) most_digits) (eqb (length s) (head_digits + count_of s)) e in
    omega (arith, leb-true (count_of s) most_digits p.0, eqb-true (length s) (head_digits + count_of s) p.1)

-- a longer line is bad
pub frame_of-long : (s : List ℕ) → most_line < length s → frame_of s ≡ None
unfolding frame_of
frame_of-long s h = go (is_frame s) refl
  where
    go : (b : Bool) → is_frame s ≡ b → cond {A = Option (Kind × ℕ)} b (Some (kind_named (kind_of s), count_of s)) None ≡ None
    go true e = absurd (omega (arith, is_frame-short s e))
    go false e = refl

-- so is its answer
pub line_answer-long : (s : List ℕ) → most_line < length s → line_answer s ≡ refused_line BadLine
unfolding line_answer line_walked
line_answer-long s h = ap (λ (f : Option (Kind × ℕ)). answer_line (frame_walked f (digits_of s)) (survivors (digits_of s))) (frame_of-long s h)

-- the first bytes of a line that has six
pub kind_of_six : (s : List ℕ) → head_digits ≤ length s → kind_of s ≡ pair_at s 0
unfolding number_from
kind_of_six (a ∷ b ∷ s) h = omega arith
kind_of_six (a ∷ []) h = absurd (omega arith)
kind_of_six [] h = absurd (omega arith)

pub count_of_six : (s : List ℕ) → head_digits ≤ length s → count_of s ≡ pair_at s 2 * 256 + pair_at s 4
unfolding number_from
count_of_six (a ∷ b ∷ c ∷ d ∷ e ∷ f ∷ s) h = omega arith
count_of_six (a ∷ b ∷ c ∷ d ∷ e ∷ []) h = absurd (omega arith)
count_of_six (a ∷ b ∷ c ∷ d ∷ []) h = absurd (omega arith)
count_of_six (a ∷ b ∷ c ∷ []) h = absurd (omega arith)
count_of_six (a ∷ b ∷ []) h = absurd (omega arith)
count_of_six (a ∷ []) h = absurd (omega arith)
count_of_six [] h = absurd (omega arith)

-- what makes a line bad
bad_by : (s : List ℕ) → is_frame s ≡ false → None ≡ frame_of s
unfolding frame_of
bad_by s e = rw e

and_false : (a b : Bool) → b ≡ false → a && b ≡ false
and_false true b e = e
and_false false b e = refl

pub frame_of_size : (s : List ℕ) → (length s ≡ head_digits + count_of s → ⊥) → None ≡ frame_of s
frame_of_size s f = bad_by s (and_false (all_hex s && ltb (kind_of s) 2 && leb (count_of s) most_digits) (eqb (length s) (head_digits + count_of s)) (ne_eqb (length s) (head_digits + count_of s) f))

pub frame_of-short : (s : List ℕ) → length s < head_digits → None ≡ frame_of s
frame_of-short s h = frame_of_size s (λ e. omega arith)

pub frame_of_digit : (s : List ℕ) → all_hex s ≡ false → None ≡ frame_of s
frame_of_digit s e = bad_by s (rw e)

pub frame_of_kind : (s : List ℕ) → 1 < kind_of s → None ≡ frame_of s
frame_of_kind s h =
    bad_by s (ap (λ (b : Bool). b && leb (count_of s) most_digits && eqb (length s) (head_digits + count_of s)) (and_false (all_hex s) (ltb (kind_of s) 2) (le-ltb (kind_of s) 2 (omega arith))))

pub frame_of-count : (s : List ℕ) → most_digits < count_of s → None ≡ frame_of s
frame_of-count s h =
    bad_by s (ap (λ (b : Bool). b && eqb (length s) (head_digits + count_of s)) (and_false (all_hex s && ltb (kind_of s) 2) (leb (count_of s) most_digits) (lt-leb (count_of s) most_digits h)))

-- any kind but 00 is named turns
pub kind_named_other : (k : ℕ) → (k ≡ 0 → ⊥) → Turns ≡ kind_named k
kind_named_other zero f = absurd (f refl)
kind_named_other (suc k) f = refl

-- what makes it a frame
pub frame_of_frame : (s : List ℕ) (k : Kind) (n : ℕ) → all_hex s ≡ true → kind_of s ≤ 1 → n ≤ most_digits → length s ≡ head_digits + n → k ≡ kind_named (kind_of s) → n ≡ count_of s → Some (k, n) ≡ frame_of s
unfolding frame_of
frame_of_frame s k n a o m l p q =
    ap₂ (λ (j : Kind) (m : ℕ). Some (j, m)) p q
    ∙ sym (simp (a, lt-ltb (kind_of s) 2 (omega arith), le-leb (count_of s) most_digits (omega arith), eq-eqb (length s) (head_digits + count_of s) (omega arith)))

-- and what follows from a frame's having n digits
pub record HasDigits (s : List ℕ) (n : ℕ) : Type 0 where
  pub digits : all_hex s ≡ true
  pub most : n ≤ most_digits
  pub size : length s ≡ head_digits + n

first_of_four : (a b c d : Bool) → a && b && c && d ≡ true → a ≡ true
first_of_four true b c d e = refl
first_of_four false b c d e = e

-- two frames that are one have one kind, and one number of operations or turns
pub one_frame : {j k : Kind} {m n : ℕ} → ◌≡◌ {A = Option (Kind × ℕ)} (Some (j, m)) (Some (k, n)) → (j ≡ k) × (m ≡ n)
one_frame {j} {k} {m} {n} e =
    let p : ◌≡◌ {A = Kind × ℕ} (j, m) (k, n) = cc in
    (ap (λ (x : Kind × ℕ). x.0) p, ap (λ (x : Kind × ℕ). x.1) p)

has_good : (s : List ℕ) (k : Kind) (n : ℕ) (b : Bool) → is_frame s ≡ b → cond {A = Option (Kind × ℕ)} b (Some (kind_named (kind_of s), count_of s)) None ≡ Some (k, n) → HasDigits s n
has_good s k n false e w = let z : ◌≡◌ {A = ℕ} 0 1 = cc in absurd (omega arith)
has_good s k n true e w =
    let p = last-two (all_hex s) (ltb (kind_of s) 2) (leb (count_of s) most_digits) (eqb (length s) (head_digits + count_of s)) e in
    let m : count_of s ≡ n = (one_frame w).1 in
    record {
      digits = first_of_four (all_hex s) (ltb (kind_of s) 2) (leb (count_of s) most_digits) (eqb (length s) (head_digits + count_of s)) e;
      most = omega (arith, leb-true (count_of s) most_digits p.0);
      size = omega (arith, eqb-true (length s) (head_digits + count_of s) p.1);
    }

pub frame_good : (s : List ℕ) (k : Kind) (n : ℕ) → frame_of s ≡ Some (k, n) → HasDigits s n
unfolding frame_of
frame_good s k n e = has_good s k n (is_frame s) refl e

-- the answer by the frame
pub line_answer-by : (s : List ℕ) (f : Option (Kind × ℕ)) → frame_of s ≡ f → answer_line (frame_walked f (digits_of s)) (survivors (digits_of s)) ≡ line_answer s
unfolding line_answer line_walked
line_answer-by s f e = sym (ap (λ (g : Option (Kind × ℕ)). answer_line (frame_walked g (digits_of s)) (survivors (digits_of s))) e)

-- a frame of kind 01 is retired, whatever its digits are
pub line_answer-turns : (s : List ℕ) (n : ℕ) → frame_of s ≡ Some (Turns, n) → line_answer s ≡ refused_line RetiredKind
line_answer-turns s n e = sym (line_answer-by s (Some (Turns, n)) e)

pub length-digits_of : (s : List ℕ) (n : ℕ) → length s ≡ head_digits + n → n ≡ length (digits_of s)
length-digits_of s n e = omega (arith, length-values_of (drop head_digits s), length-drop head_digits s)

-- an answer, with its line feed, is not longer than the limit
walked_most : (s : List ℕ) (f : Option (Kind × ℕ)) → frame_of s ≡ f → length (answer_line (frame_walked f (digits_of s)) (survivors (digits_of s))) + 1 ≤ most_answer
walked_most s (Some (k, n)) e =
    let g = frame_good s k n e in
    answer_line_most (kind_walked k (digits_of s)) (survivors (digits_of s)) (omega (arith, length-survivors [] (digits_of s), length-digits_of s n g.size, g.most))
walked_most s None e = omega (arith, length-refused_line BadLine)

pub line_answer_most : (s : List ℕ) → length (line_answer s) + 1 ≤ most_answer
unfolding line_answer line_walked
line_answer_most s = walked_most s (frame_of s) refl

-- and it is one line
pub line_answer_feeds : (s : List ℕ) → feeds_in (line_answer s) ≡ 0
unfolding line_answer
line_answer_feeds s = answer_line_feeds (line_walked s) (survivors (digits_of s))
