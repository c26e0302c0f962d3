-- Numbers in lines of three: how long they are, one line more, and the numbers of spans.
-- Assumes nothing.
use mathlib.Core.Path.{◌≡◌, refl, sym, ap, ◌∙◌, subst}
use mathlib.Core.List.{List, [], ◌∷◌, ◌++◌, append_assoc, append-nil}
use Prim.Native.Nat.{ℕ, zero, suc, ◌+◌, ◌*◌, ◌≤◌}
use native.Mathlib.Omega.{arith}
use native.Mathlib.Numerals.{add-one}
use lib.IntN.{ℤ}
use lib.ListN.{length, take, drop, length-append, length-drop}
use lib.Seq.{length-take-le, drop-drop}
use Rattle.row.specs.Rows.{Span, span_numbers}
use Rattle.line_frame.specs.Spelled.{numbers_line}
use Rattle.line_frame.proofs.SpelledLaws.{length-numbers_line}
use Rattle.line_fields.specs.Put.{Wrote}
use Rattle.line_fields.proofs.PutLaws.{wrote_append, wrote_nil, length-put}
use Rattle.line_room.specs.Told.{spans_told}
use Rattle.line_rows.specs.Numbers.{three_told, threes_told}

length_three : (zs : List ℤ) → 3 ≤ length zs → length (three_told zs) ≡ 13
length_three zs h = omega (arith, length-append (numbers_line (take 3 zs)) (10 ∷ []), length-numbers_line (take 3 zs), length-take-le 3 zs h)

length_threes : (n : ℕ) (zs : List ℤ) → 3 * n ≤ length zs → length (threes_told n zs) ≡ 13 * n
unfolding threes_told
length_threes zero zs h = refl
length_threes (suc n) zs h =
    omega (arith, length-append (three_told zs) (threes_told n (drop 3 zs)), length_three zs (omega arith), length_threes n (drop 3 zs) (omega (arith, length-drop 3 zs)))

-- one line more
threes_next : (n : ℕ) (zs : List ℤ) → threes_told (suc n) zs ≡ threes_told n zs ++ three_told (drop (3 * n) zs)
unfolding threes_told
threes_next zero zs = append-nil (three_told zs)
threes_next (suc n) zs =
    let e : 3 + 3 * n ≡ 3 * suc n = omega arith in
    ap (λ (l : List ℕ). three_told zs ++ l) (threes_next n (drop 3 zs) ∙ ap (λ (l : List ℤ). threes_told n (drop 3 zs) ++ three_told l) (drop-drop (3 * n) 3 zs ∙ ap (λ (k : ℕ). drop k zs) e))
    ∙ sym (append_assoc (three_told zs) (threes_told n (drop 3 zs)) (three_told (drop (3 * suc n) zs)))

-- none is written yet, and one more is written
pub threes_none : (zs : List ℤ) (at : ℕ) (a : List ℕ) → Wrote (threes_told 0 zs) at a at a
unfolding threes_told
threes_none zs at a = wrote_nil at a

module _ (zs : List ℤ) (i at : ℕ) {m : ℕ} {a b : List ℕ} (w : Wrote (threes_told i zs) at a m b) where
  pub threes_at : 3 * i ≤ length zs → at + 13 * i ≤ length a → (m ≡ at + 13 * i) × (length b ≡ length a)
  threes_at h l =
      let n = length_threes i zs h in
      (omega (arith, w.end), ap length w.buffer ∙ length-put (threes_told i zs) at a (omega arith))

  pub threes_more : {e : ℕ} {c : List ℕ} {ys : List ℤ} → 3 * suc i ≤ length zs → at + 13 * suc i ≤ length a → ys ≡ drop (3 * i) zs → Wrote (three_told ys) m b e c → Wrote (threes_told (i + 1) zs) at a e c
  threes_more {e} {c} h l y v =
      subst (λ (f : List ℕ). Wrote f at a e c) (sym (ap (λ (k : ℕ). threes_told k zs) (add-one i) ∙ threes_next i zs))
      (wrote_append w (subst (λ (l : List ℤ). Wrote (three_told l) m b e c) y v) (omega (arith, length_threes i zs (omega arith), length_three (drop (3 * i) zs) (omega (arith, length-drop (3 * i) zs)))))

-- the numbers of spans, before whatever comes after them
pub threes_spans : (L : List Span) (rest : List ℤ) → threes_told (length L) (span_numbers L ++ rest) ≡ spans_told L
unfolding threes_told spans_told
threes_spans [] rest = refl
threes_spans (s ∷ L) rest = ap (λ (l : List ℕ). three_told (s.row ∷ s.first ∷ s.last ∷ []) ++ l) (threes_spans L rest)
