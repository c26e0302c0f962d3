-- Fields, one after the other: two, the facts, and numbers.
-- Assumes nothing.
use mathlib.Core.Path.{◌≡◌, sym, ap, ◌∙◌, subst}
use mathlib.Core.List.{List, [], ◌∷◌, ◌++◌, append_assoc, append-nil}
use Prim.Native.Nat.{ℕ, suc, ◌+◌, ◌*◌, ◌<◌, ◌≤◌}
use native.Mathlib.Omega.{arith}
use native.Mathlib.Numerals.{add-one}
use lib.IntN.{ℤ, pos}
use lib.ListN.{length, take, get_or, length-append}
use lib.Seq.{take-suc, length-take-le}
use Rattle.answer.specs.declared.Facts.{Facts}
use Rattle.answer.specs.Refusal.{verdict_number}
use Rattle.line_frame.specs.Sizes.{facts_digits}
use Rattle.answer.specs.Words.{bits_of}
use Rattle.line_frame.specs.Hex.{hex_of}
use Rattle.line_frame.specs.Spelled.{facts_line, numbers_line}
use Rattle.line_fields.specs.Put.{Wrote}
use Rattle.line_frame.proofs.HexLaws.{length-hex_of}
use Rattle.line_frame.proofs.SpelledLaws.{length-numbers_line}
use Rattle.line_fields.proofs.PutLaws.{wrote_append, wrote_nil, length-put}

wrote_length : {f : List ℕ} {at e : ℕ} {a b : List ℕ} → Wrote f at a e b → at + length f ≤ length a → length b ≡ length a
wrote_length {f} {at} {e} {a} w h = ap length w.buffer ∙ length-put f at a h

pub length_two : (n v m w : ℕ) → length (hex_of n v ++ hex_of m w) ≡ n + m
length_two n v m w = simp (length-append, length-hex_of)

-- two fields
pub wrote_two : (n v m w at : ℕ) {i e : ℕ} {a b c : List ℕ} → Wrote (hex_of n v) at a i b → Wrote (hex_of m w) i b e c → at + n + m ≤ length a
    → Wrote (hex_of n v ++ hex_of m w) at a e c
wrote_two n v m w at p q h = wrote_append p q (omega (arith, length-hex_of n v, length-hex_of m w))

-- three pairs of fields and the area
pub wrote_facts : (f : Facts) (v at : ℕ) (z : ℤ) {i j k e : ℕ} {a b c d o : List ℕ} → v ≡ verdict_number f.verdict → z ≡ f.area
    → Wrote (hex_of 2 v ++ hex_of 4 f.steps) at a i b
    → Wrote (hex_of 8 f.nodes ++ hex_of 4 f.corners) i b j c
    → Wrote (hex_of 4 f.j ++ hex_of 4 f.k) j c k d
    → Wrote (hex_of 8 (bits_of z)) k d e o
    → at + facts_digits ≤ length a
    → Wrote (facts_line f) at a e o
wrote_facts f v at z {i} {j} {k} {e} {a} {b} {c} {d} {o} y x p q r s h =
    let p1 = subst (λ (x : ℕ). Wrote (hex_of 2 x ++ hex_of 4 f.steps) at a i b) y p in
    let s1 = subst (λ (x : ℤ). Wrote (hex_of 8 (bits_of x)) k d e o) x s in
    let A : List ℕ = hex_of 2 (verdict_number f.verdict) ++ hex_of 4 f.steps in
    let B : List ℕ = hex_of 8 f.nodes ++ hex_of 4 f.corners in
    let C : List ℕ = hex_of 4 f.j ++ hex_of 4 f.k in
    let D : List ℕ = hex_of 8 (bits_of f.area) in
    let l1 : length A ≡ 6 = length_two 2 (verdict_number f.verdict) 4 f.steps in
    let l2 : length B ≡ 12 = length_two 8 f.nodes 4 f.corners in
    let l3 : length C ≡ 8 = length_two 4 f.j 4 f.k in
    let l4 : length D ≡ 8 = length-hex_of 8 (bits_of f.area) in
    let t = wrote_append (wrote_append (wrote_append p1 q (omega arith)) r (omega (arith, length-append A B))) s1 (omega (arith, length-append (A ++ B) C, length-append A B)) in
    subst (λ (l : List ℕ). Wrote l at a e o) (simp append_assoc) t

numbers_line_snoc : (zs : List ℤ) (z : ℤ) → numbers_line (zs ++ (z ∷ [])) ≡ numbers_line zs ++ hex_of 4 (bits_of z)
unfolding numbers_line
numbers_line_snoc [] z = append-nil (hex_of 4 (bits_of z))
numbers_line_snoc (y ∷ zs) z = ap (λ (l : List ℕ). hex_of 4 (bits_of y) ++ l) (numbers_line_snoc zs z) ∙ sym (append_assoc (hex_of 4 (bits_of y)) (numbers_line zs) (hex_of 4 (bits_of z)))

-- none of the numbers, and one more
pub wrote_none : (xs : List ℤ) (at : ℕ) (a : List ℕ) → Wrote (numbers_line (take 0 xs)) at a at a
unfolding numbers_line
wrote_none xs at a = wrote_nil at a

length_some : (xs : List ℤ) (i : ℕ) → i ≤ length xs → length (numbers_line (take i xs)) ≡ 4 * i
length_some xs i h = omega (arith, length-numbers_line (take i xs), length-take-le i xs h)

pub wrote_next : (xs : List ℤ) (i at : ℕ) (z : ℤ) {m e : ℕ} {a b c : List ℕ} → i < length xs → z ≡ get_or xs i (pos 0) → at + 4 * suc i ≤ length a
    → Wrote (numbers_line (take i xs)) at a m b → Wrote (hex_of 4 (bits_of z)) m b e c → Wrote (numbers_line (take (i + 1) xs)) at a e c
wrote_next xs i at z {m} {e} {a} {b} {c} h q l p r =
    let t : take (i + 1) xs ≡ take i xs ++ (z ∷ []) =
    ap (λ (n : ℕ). take n xs) (add-one i) ∙ take-suc xs i (pos 0) h ∙ ap (λ (y : ℤ). take i xs ++ (y ∷ [])) (sym q) in
    subst (λ (f : List ℕ). Wrote f at a e c) (sym (ap numbers_line t ∙ numbers_line_snoc (take i xs) z))
    (wrote_append p r (omega (arith, length_some xs i (omega arith), length-hex_of 4 (bits_of z))))

-- where the next number goes
pub wrote_at : (xs : List ℤ) (i at : ℕ) {m : ℕ} {a b : List ℕ} → i ≤ length xs → at + 4 * i ≤ length a → Wrote (numbers_line (take i xs)) at a m b → (m ≡ at + 4 * i) × (length b ≡ length a)
wrote_at xs i at h l w =
    let n = length_some xs i h in
    (omega (arith, w.end), wrote_length w (omega arith))
