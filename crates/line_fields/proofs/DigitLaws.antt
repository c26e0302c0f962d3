-- One turn of each loop over digits.
-- Assumes nothing.
use mathlib.Core.Path.{◌≡◌, refl, sym, ap, ◌∙◌}
use mathlib.Core.Bool.{Bool, true, false, ◌&&◌}
use mathlib.Core.List.{List, ◌∷◌}
use Prim.Native.Nat.{ℕ, zero, suc, ◌+◌, ◌-◌, ◌/◌, ◌%◌, ◌<◌, ◌≤◌}
use native.Mathlib.Omega.{arith}
use native.Mathlib.Numerals.{add-one}
use lib.ListN.{length, drop, get_or, set, length-drop}
use Rattle.line_frame.specs.Sizes.{head_digits}
use Rattle.line_frame.specs.Hex.{is_hex, all_hex, value_of, values_of, letter_of, hex_of}
use Rattle.line_frame.proofs.HexLaws.{length-hex_of, all_hex_here, all_hex_end, values_of_here, values_of_end, length-values_of}
use Rattle.line_fields.specs.Put.{put, Wrote}
use Rattle.line_fields.proofs.PutLaws.{put_first, put_last, put_nil}

-- one byte more is looked at, and then all are
pub all_hex-next : (s : List ℕ) (i : ℕ) (all r : Bool) → all && all_hex (drop i s) ≡ all_hex s → i < length s → r ≡ is_hex (get_or s i 0) → (all && r) && all_hex (drop (i + 1) s) ≡ all_hex s
all_hex-next s i all r h l e =
    ap (λ (n : ℕ). (all && r) && all_hex (drop n s)) (add-one i)
    ∙ ap (λ (b : Bool). (all && b) && all_hex (drop (suc i) s)) e
    ∙ both all
    ∙ ap (λ (b : Bool). all && b) (sym (all_hex_here s i l))
    ∙ h
  where
    both : (b : Bool) → (b && is_hex (get_or s i 0)) && all_hex (drop (suc i) s) ≡ b && (is_hex (get_or s i 0) && all_hex (drop (suc i) s))
    both true = refl
    both false = refl

pub all_hex-all : (s : List ℕ) (i : ℕ) (all : Bool) → all && all_hex (drop i s) ≡ all_hex s → length s ≤ i → all ≡ all_hex s
all_hex-all s i all h l = alone all ∙ ap (λ (b : Bool). all && b) (sym (all_hex_end s i l)) ∙ h
  where
    alone : (b : Bool) → b ≡ b && true
    alone true = refl
    alone false = refl

-- one digit less is left to write
put-hex_of : (n v at : ℕ) (buf : List ℕ) → at + n < length buf → put (hex_of n (v / 16)) at (set buf (at + n) (letter_of (v % 16))) ≡ put (hex_of (suc n) v) at buf
unfolding hex_of
put-hex_of n v at buf h =
    let l = length-hex_of n (v / 16) in
    ap (λ (i : ℕ). put (hex_of n (v / 16)) at (set buf (at + i) (letter_of (v % 16)))) (sym l)
    ∙ put_last (hex_of n (v / 16)) (letter_of (v % 16)) at buf (omega arith)

put-hex_of_zero : (v at : ℕ) (buf : List ℕ) → put (hex_of 0 v) at buf ≡ buf
unfolding hex_of
put-hex_of_zero v at buf = put_nil at buf

-- the digit at the end of what is left is written
pub spell_next : (left rest at r : ℕ) (out w : List ℕ) → 0 < left → at + left ≤ length out → r ≡ letter_of (rest % 16) → put (hex_of left rest) at out ≡ w
    → put (hex_of (left - 1) (rest / 16)) at (set out (at + (left - 1)) r) ≡ w
spell_next zero rest at r out w p h e q = absurd (omega arith)
spell_next (suc k) rest at r out w p h e q =
    let d : suc k - 1 ≡ k = omega arith in
    ap (λ (n : ℕ). put (hex_of n (rest / 16)) at (set out (at + n) r)) d
    ∙ ap (λ (b : ℕ). put (hex_of k (rest / 16)) at (set out (at + k) b)) e
    ∙ put-hex_of k rest at out (omega arith)
    ∙ q

pub spell_done : (n v left rest at : ℕ) (out out₀ : List ℕ) → left ≤ 0 → put (hex_of left rest) at out ≡ put (hex_of n v) at out₀ → Wrote (hex_of n v) at out₀ (at + n) out
spell_done n v zero rest at out out₀ h q = record {
  end = ap (λ (m : ℕ). at + m) (sym (length-hex_of n v));
  buffer = sym (put-hex_of_zero rest at out) ∙ q;
}
spell_done n v (suc k) rest at out out₀ h q = absurd (omega arith)

-- the next digit's value is written
pub values_next : (s buf w : List ℕ) (i v : ℕ) → head_digits + i < length s → length s ≤ head_digits + length buf → v ≡ value_of (get_or s (head_digits + i) 0)
    → put (values_of (drop (head_digits + i) s)) i buf ≡ w → put (values_of (drop (head_digits + (i + 1)) s)) (i + 1) (set buf i v) ≡ w
values_next s buf w i v h l e q =
    let d : head_digits + (i + 1) ≡ suc (head_digits + i) = omega arith in
    let f : List ℕ = values_of (drop (suc (head_digits + i)) s) in
    let n : length f ≡ length s - suc (head_digits + i) = length-values_of (drop (suc (head_digits + i)) s) ∙ length-drop (suc (head_digits + i)) s in
    ap (λ (m : ℕ). put (values_of (drop m s)) (i + 1) (set buf i v)) d
    ∙ ap (λ (m : ℕ). put f m (set buf i v)) (add-one i)
    ∙ put_first v f i buf (omega arith)
    ∙ ap (λ (b : ℕ). put (b ∷ f) i buf) e
    ∙ ap (λ (g : List ℕ). put g i buf) (sym (values_of_here s (head_digits + i) h))
    ∙ q

pub values_done : (s buf w : List ℕ) (i : ℕ) → length s ≤ head_digits + i → put (values_of (drop (head_digits + i) s)) i buf ≡ w → buf ≡ w
values_done s buf w i h q = sym (put_nil i buf) ∙ ap (λ (f : List ℕ). put f i buf) (sym (values_of_end s (head_digits + i) h)) ∙ q
