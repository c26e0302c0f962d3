-- Cells written one after the other.
-- Assumes nothing.
use mathlib.Core.Path.{◌≡◌, refl, sym, ap, ◌∙◌, subst}
use mathlib.Core.List.{List, [], ◌∷◌, ◌++◌, append_assoc, append-nil}
use Prim.Native.Nat.{ℕ, zero, suc, ◌+◌, ◌-◌, ◌*◌, ◌/◌, ◌%◌, ◌<◌, ◌≤◌}
use native.Mathlib.Omega.{arith}
use native.Mathlib.Numerals.{add-one}
use borrow.Author.Tests.{lt-ltb, le-ltb}
use lib.IntN.{ℤ, pos, negsuc}
use lib.ListN.{length, take, set, get_or, length-append}
use lib.Seq.{take-suc, take_all, length-take-le}
use mir.Syntax.{w32}
use mir.Val.{SFits}
use Rattle.std.specs.Prelude.{replicate}
use Rattle.std.proofs.lemmas.Grind.{replicate_next}
use Rattle.answer.specs.declared.Facts.{Facts}
use Rattle.answer.specs.Refusal.{verdict_number}
use Rattle.answer.specs.Words.{bits_of}
use Rattle.line_frame.specs.Hex.{hex_of}
use Rattle.line_frame.proofs.HexLaws.{length-hex_of}
use Rattle.line_fields.specs.Put.{Wrote}
use Rattle.line_fields.proofs.PutLaws.{put_one, wrote_append, wrote_nil, length-put}
use Rattle.sheet.specs.Decimal.{decimal_of, signed_of}
use Rattle.sheet.specs.Sizes.{most_decimals, most_cell}
use Rattle.sheet.specs.Entry.{cell_of, cells_of, empty_cells, refused_cells, hex_bytes}
use Rattle.sheet.proofs.SizeLaws.{length-decimal_of, length-signed_of, length-cell_of, length-empty_cells, length-hex_bytes}

-- one byte
pub wrote_byte : (b at : ℕ) (a : List ℕ) → at < length a → Wrote (b ∷ []) at a (at + 1) (set a at b)
wrote_byte b at a h = record { end = refl; buffer = put_one b at a h }

-- what was written, and a byte after it
pub wrote_then : (f : List ℕ) (b at : ℕ) {e : ℕ} {a c : List ℕ} → Wrote f at a e c → at + length f < length a → Wrote (f ++ (b ∷ [])) at a (e + 1) (set c e b)
wrote_then f b at {e} {a} {c} w h =
    let l : length c ≡ length a = ap length w.buffer ∙ length-put f at a (omega arith) in
    wrote_append w (wrote_byte b e c (omega (arith, w.end))) (omega arith)

-- no digits; one; and one more
pub decimal_none : (k n at : ℕ) (a : List ℕ) → k ≡ 0 → Wrote (decimal_of k n) at a at a
unfolding decimal_of
decimal_none zero n at a e = wrote_nil at a
decimal_none (suc k) n at a e = absurd (omega arith)

pub decimal_one : (k n at : ℕ) (a : List ℕ) → (k ≡ 0 → ⊥) → n < 10 → at < length a → Wrote (decimal_of k n) at a (at + 1) (set a at (48 + n))
unfolding decimal_of
decimal_one zero n at a z h l = absurd (z refl)
decimal_one (suc k) n at a z h l =
    let d : 48 + n % 10 ≡ 48 + n = omega arith in
    rw (lt-ltb n 10 h) (subst (λ (x : ℕ). Wrote (x ∷ []) at a (at + 1) (set a at (48 + n))) (sym d) (wrote_byte (48 + n) at a l))

pub decimal_more : (k n at : ℕ) {e : ℕ} {a b : List ℕ} → (k ≡ 0 → ⊥) → 10 ≤ n → at + k ≤ length a → Wrote (decimal_of (k - 1) (n / 10)) at a e b
    → Wrote (decimal_of k n) at a (e + 1) (set b e (48 + n % 10))
unfolding decimal_of
decimal_more zero n at z h l w = absurd (z refl)
decimal_more (suc k) n at {e} {a} {b} z h l w =
    let j : suc k - 1 ≡ k = omega arith in
    let v : Wrote (decimal_of k (n / 10)) at a e b = subst (λ (i : ℕ). Wrote (decimal_of i (n / 10)) at a e b) j w in
    rw (le-ltb n 10 h) (wrote_then (decimal_of k (n / 10)) (48 + n % 10) at v (omega (arith, length-decimal_of k (n / 10))))

-- bytes in hexadecimal: none, and one more
hex_bytes_snoc : (s : List ℕ) (b : ℕ) → hex_bytes (s ++ (b ∷ [])) ≡ hex_bytes s ++ hex_of 2 b
unfolding hex_bytes
hex_bytes_snoc [] b = append-nil (hex_of 2 b)
hex_bytes_snoc (a ∷ s) b = ap (λ (l : List ℕ). hex_of 2 a ++ l) (hex_bytes_snoc s b) ∙ sym (append_assoc (hex_of 2 a) (hex_bytes s) (hex_of 2 b))

pub bytes-none : (s : List ℕ) (at : ℕ) (a : List ℕ) → Wrote (hex_bytes (take 0 s)) at a at a
unfolding hex_bytes
bytes-none s at a = wrote_nil at a

pub bytes_next : (s : List ℕ) (i at : ℕ) {m e : ℕ} {a b c : List ℕ} → i < length s → at + 2 * length s ≤ length a → Wrote (hex_bytes (take i s)) at a m b → Wrote (hex_of 2 (get_or s i 0)) m b e c
    → Wrote (hex_bytes (take (i + 1) s)) at a e c
bytes_next s i at {m} {e} {a} {b} {c} h l p q =
    let t : take (i + 1) s ≡ take i s ++ (get_or s i 0 ∷ []) = ap (λ (n : ℕ). take n s) (add-one i) ∙ take-suc s i 0 h in
    subst (λ (f : List ℕ). Wrote f at a e c) (sym (ap hex_bytes t ∙ hex_bytes_snoc (take i s) (get_or s i 0)))
    (wrote_append p q (omega (arith, length-hex_bytes (take i s), length-take-le i s (omega arith), length-hex_of 2 (get_or s i 0))))

pub bytes-all : (s : List ℕ) (i at : ℕ) {m : ℕ} {a b : List ℕ} → length s ≤ i → i ≤ length s → Wrote (hex_bytes (take i s)) at a m b → Wrote (hex_bytes s) at a m b
bytes-all s i at {m} {a} {b} h k w = subst (λ (l : List ℕ). Wrote (hex_bytes l) at a m b) (take_all i s h) w

-- x in decimal, by its bits
pub signed_above : (k : ℕ) (x : ℤ) (b : ℕ) → SFits w32 x → b ≡ bits_of x → b < 2147483648 → decimal_of k b ≡ signed_of k x
signed_above k (pos n) b f e h = ap (decimal_of k) e
signed_above k (negsuc n) b f e h = absurd (omega (arith, f.sfits))

pub signed_below : (k : ℕ) (x : ℤ) (b : ℕ) → SFits w32 x → b ≡ bits_of x → 2147483648 ≤ b → 45 ∷ decimal_of k (4294967296 - b) ≡ signed_of k x
signed_below k (pos n) b f e h = absurd (omega (arith, f.sfits))
signed_below k (negsuc n) b f e h =
    let m : 4294967296 - b ≡ suc n = omega (arith, f.sfits) in
    ap (λ (i : ℕ). 45 ∷ decimal_of k i) m

-- a sign, and what is written after it
pub wrote_after : (b at : ℕ) (f : List ℕ) {e : ℕ} {a c : List ℕ} → at + suc (length f) ≤ length a → Wrote f (at + 1) (set a at b) e c → Wrote (b ∷ f) at a e c
wrote_after b at f {e} {a} {c} h w = wrote_append (wrote_byte b at a (omega arith)) w (omega arith)

pub length_two : (v w : ℕ) → length (cell_of v ++ cell_of w) ≤ 2 * most_cell
length_two v w = omega (arith, length-append (cell_of v) (cell_of w), length-cell_of v, length-cell_of w)

-- two cells
pub wrote_two : (v w at : ℕ) {i e : ℕ} {a b c : List ℕ} → at + 2 * most_cell ≤ length a → Wrote (cell_of v) at a i b → Wrote (cell_of w) i b e c → Wrote (cell_of v ++ cell_of w) at a e c
wrote_two v w at h p q = wrote_append p q (omega (arith, length-cell_of v, length-cell_of w))

-- empty cells are commas
pub empty_all : (k : ℕ) → replicate k 44 ≡ empty_cells k
unfolding empty_cells
empty_all zero = refl
empty_all (suc k) = ap (λ (n : ℕ). replicate n 44) (sym (add-one k)) ∙ replicate_next k 44 ∙ ap (λ (l : List ℕ). l ++ (44 ∷ [])) (empty_all k)

-- a refusal, and the cells of the facts, which are empty
pub wrote_refusal : (number place at : ℕ) {i e : ℕ} {a b c : List ℕ} → at + 2 * most_cell + 7 ≤ length a → Wrote (cell_of number ++ cell_of place) at a i b → Wrote (empty_cells 7) i b e c
    → Wrote (refused_cells number place) at a e c
wrote_refusal number place at h p q = wrote_append p q (omega (arith, length_two number place, length-empty_cells 7))

-- four pairs of cells end after eight cells at most
pub four_pairs : (number place v at : ℕ) (f : Facts) {i j k l : ℕ} {a b c d g : List ℕ} → Wrote (cell_of number ++ cell_of place) at a i b
    → Wrote (cell_of v ++ cell_of f.steps) i b j c → Wrote (cell_of f.nodes ++ cell_of f.corners) j c k d
    → Wrote (cell_of f.j ++ cell_of f.k) k d l g → l ≤ at + 8 * most_cell
four_pairs number place v at f p q r s =
    omega (
      arith,
      length_two number place,
      length_two v f.steps,
      length_two f.nodes f.corners,
      length_two f.j f.k,
      p.end,
      q.end,
      r.end,
      s.end,
    )

-- four pairs of cells, the area and a comma
pub wrote_cells : (number place v at : ℕ) (f : Facts) (z : ℤ) {i j k l e : ℕ} {a b c d g o : List ℕ} → at + 9 * most_cell + 1 ≤ length a → v ≡ verdict_number f.verdict → z ≡ f.area
    → Wrote (cell_of number ++ cell_of place) at a i b
    → Wrote (cell_of v ++ cell_of f.steps) i b j c
    → Wrote (cell_of f.nodes ++ cell_of f.corners) j c k d
    → Wrote (cell_of f.j ++ cell_of f.k) k d l g
    → Wrote (signed_of most_decimals z) l g e o
    → Wrote (cells_of number place f) at a (e + 1) (set o e 44)
wrote_cells number place v at f z {i} {j} {k} {l} {e} {a} {b} {c} {d} {g} {o} h y x p q r s t =
    let A : List ℕ = cell_of number ++ cell_of place in
    let B : List ℕ = cell_of (verdict_number f.verdict) ++ cell_of f.steps in
    let C : List ℕ = cell_of f.nodes ++ cell_of f.corners in
    let D : List ℕ = cell_of f.j ++ cell_of f.k in
    let E : List ℕ = signed_of most_decimals f.area in
    let q1 : Wrote B i b j c = subst (λ (n : ℕ). Wrote (cell_of n ++ cell_of f.steps) i b j c) y q in
    let t1 : Wrote E l g e o = subst (λ (n : ℤ). Wrote (signed_of most_decimals n) l g e o) x t in
    let la : length A ≤ 2 * most_cell = length_two number place in
    let lb : length B ≤ 2 * most_cell = length_two (verdict_number f.verdict) f.steps in
    let lc : length C ≤ 2 * most_cell = length_two f.nodes f.corners in
    let ld : length D ≤ 2 * most_cell = length_two f.j f.k in
    let le : length E ≤ suc most_decimals = length-signed_of most_decimals f.area in
    let l2 = length-append A B in
    let l3 = length-append (A ++ B) C in
    let l4 = length-append (A ++ B ++ C) D in
    let l5 = length-append (A ++ B ++ C ++ D) E in
    let w = wrote_then (A ++ B ++ C ++ D ++ E) 44 at
    (wrote_append (wrote_append (wrote_append (wrote_append p q1 (omega arith)) r (omega arith)) s (omega arith)) t1 (omega arith)) (omega arith) in
    subst (λ (m : List ℕ). Wrote m at a (e + 1) (set o e 44)) (simp append_assoc) w
