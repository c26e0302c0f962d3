-- One line, converted: bytes written one after the other, and the call.
-- Assumes nothing.
use Rattle.std.specs.Prelude.{Err, Ok, Option, Some, None}
use mathlib.Core.Path.{◌≡◌, refl, sym, ap, ◌∙◌, subst}
use mathlib.Core.Bool.{Bool, true, false, cond, true≢false}
use mathlib.Core.List.{List, [], ◌∷◌, ◌++◌}
use Prim.Native.Nat.{ℕ, zero, suc, ◌+◌, ◌-◌, ◌<◌, ◌≤◌}
use native.Mathlib.Omega.{arith}
use native.Mathlib.Nat.{add-zero}
use native.Mathlib.Numerals.{add-one}
use native.Mathlib.Decide.{dec_lt}
use borrow.Author.Tests.{le-leb, lt-leb, le-ltb, lt-ltb, ltb-false, leb-false, eq-eqb}
use lib.ListN.{length, drop, get_or, set, length-drop, drop_of_length-le, length-append}
use lib.Seq.{drop-cons}
use lib.Dec.{leb}
use Rattle.answer.specs.Answers.{Judged}
use Rattle.lists.specs.Lists.{Below}
use Rattle.answer.specs.declared.Refusal.{Refusal}
use Rattle.steps.specs.Turns.{steps_of, turns_judged, written_if, ConvertedBy}
use Rattle.steps.proofs.TurnLaws.{steps_of_below, length-steps_of}
use Rattle.steps.proofs.TurnPromiseLaws.{turns_judged_good}
use Rattle.line_frame.specs.Sizes.{most_line}
use Rattle.line_frame.specs.declared.Kind.{Kind, TheVariants.Turns}
use Rattle.line_frame.specs.Hex.{is_hex, value_of, pair_at, letter_of}
use Rattle.line_frame.specs.Line.{kind_of, count_of, kind_named, is_frame, frame_of}
use Rattle.line_frame.specs.Converted.{letters_of, steps_frame, Turned, converted_line}
use Rattle.line_frame.proofs.HexLaws.{all_hex-at, is_hex_range}
use Rattle.line_frame.proofs.LineLaws.{kind_of_six, frame_of_kind, one_frame, frame_good}
use Rattle.line_frame.proofs.ConvertedLaws.{converted-length, converted_other}
use Rattle.line_fields.specs.Put.{put, Wrote}
use Rattle.line_fields.proofs.PutLaws.{put_first, put_nil, wrote_nil, wrote_append}
use Rattle.line_stream.specs.Stream.{is_long}
use Rattle.line_convert.specs.Convert.{ConvertedIs, names_turns}

-- nothing of f is written yet
pub put_begun : (f out : List ℕ) (at : ℕ) → put (drop 0 f) (at + 0) out ≡ put f at out
put_begun f out at = ap (λ (n : ℕ). put f n out) (add-zero at)

-- the next byte of f is written, and what is left of it gives the whole
pub put_next : (f out w : List ℕ) (at i b : ℕ) → i < length f → at + length f ≤ length out → b ≡ get_or f i 0 → put (drop i f) (at + i) out ≡ w → put (drop (i + 1) f) (at + (i + 1)) (set out (at + i) b) ≡ w
put_next f out w at i b h l e q =
    let a : at + (i + 1) ≡ suc (at + i) = omega arith in
    ap (λ (n : ℕ). put (drop n f) (at + (i + 1)) (set out (at + i) b)) (add-one i)
    ∙ ap (λ (n : ℕ). put (drop (suc i) f) n (set out (at + i) b)) a
    ∙ put_first b (drop (suc i) f) (at + i) out (omega (arith, length-drop (suc i) f))
    ∙ ap (λ (x : ℕ). put (x ∷ drop (suc i) f) (at + i) out) e
    ∙ ap (λ (g : List ℕ). put g (at + i) out) (sym (drop-cons f i 0 h))
    ∙ q

pub put_done : (f out out₀ : List ℕ) (at i : ℕ) → i ≡ length f → put (drop i f) (at + i) out ≡ put f at out₀ → Wrote f at out₀ (at + i) out
put_done f out out₀ at i e q = record {
  end = ap (λ (n : ℕ). at + n) e;
  buffer = sym (put_nil (at + i) out) ∙ ap (λ (g : List ℕ). put g (at + i) out) (sym (drop_of_length-le f {i = i} (omega (arith, e)))) ∙ q;
}

pub letter_at : (ds : List ℕ) (i : ℕ) → i < length ds → letter_of (get_or ds i 0) ≡ get_or (letters_of ds) i 0
unfolding letters_of
letter_at [] i h = absurd (omega arith)
letter_at (d ∷ ds) zero h = refl
letter_at (d ∷ ds) (suc i) h = letter_at ds i (omega arith)

pub below_at : (ds : List ℕ) (i : ℕ) → Below 4 ds → i < length ds → get_or ds i 0 < 16
below_at [] i b h = absurd (omega arith)
below_at (d ∷ ds) zero b h = omega (arith, b.0)
below_at (d ∷ ds) (suc i) b h = below_at ds i b.1 (omega arith)

-- a line that does not begin with 01 stays: the first digit of a frame of kind 01 is worth 0, the second 1
value_below : (b d : ℕ) → is_hex b ≡ true → value_of b ≡ d → d < 10 → b ≡ d + 48
value_below b d h v l = go (leb b 57) refl v
  where
    go : (c : Bool) → leb b 57 ≡ c → cond c (b - 48) (b - 87) ≡ d → b ≡ d + 48
    go true e w = omega (arith, (is_hex_range b h).0, w)
    go false e w = absurd (omega (arith, (is_hex_range b h).2 (leb-false b 57 e), w))

one-named : (s : List ℕ) (n : ℕ) → frame_of s ≡ Some (Turns, n) → kind_of s ≡ 1
unfolding frame_of
one-named s n e =
    elim (dec_lt 1 (kind_of s)) [
      | yes l ↦ absurd (bad (frame_of_kind s l ∙ e))
      | no f ↦ omega (arith, f, some (is_frame s) (kind_of s) (count_of s) e)
    ]
  where
    bad : ◌≡◌ {A = Option (Kind × ℕ)} None (Some (Turns, n)) → ⊥
    bad z = let y : ◌≡◌ {A = ℕ} 0 1 = cc in omega arith

    some : (b : Bool) (k m : ℕ) → cond {A = Option (Kind × ℕ)} b (Some (kind_named k, m)) None ≡ Some (Turns, n) → 0 < k
    some false k m z = absurd (bad z)
    some true zero m z = let x = (one_frame z).0 in let y : ◌≡◌ {A = ℕ} 0 1 = cc in absurd (omega arith)
    some true (suc k) m z = omega arith

turned_names : (s : List ℕ) → Turned s → names_turns s ≡ true
turned_names s t =
    let g = frame_good s Turns t.count t.frame in
    let k : pair_at s 0 ≡ 1 = sym (kind_of_six s (omega (arith, g.size))) ∙ one-named s t.count t.frame in
    let a = value_below (get_or s 0 0) 0 (all_hex-at s 0 g.digits (omega (arith, g.size))) (omega (arith, k)) (omega arith) in
    let b = value_below (get_or s 1 0) 1 (all_hex-at s 1 g.digits (omega (arith, g.size))) (omega (arith, k)) (omega arith) in
    rw (eq-eqb (get_or s 0 0) 48 a, eq-eqb (get_or s 1 0) 49 b) refl

pub other_stays : (s : List ℕ) {r : Bool} → r ≡ names_turns s → r ≡ false → s ≡ converted_line s
other_stays s e f = sym (converted_other s (λ t. true≢false (sym (turned_names s t) ∙ sym e ∙ f)))

-- the call, if the buffer is too short, and if it is not
pub convert_short : (s out : List ℕ) → length out < length s → ConvertedIs s out 0 out
convert_short s out h = record {
  answer = rw (lt-leb (length s) (length out) h) refl;
  buffer = rw (lt-leb (length s) (length out) h) refl;
}

pub convert_told : (s out : List ℕ) {e : ℕ} {out' : List ℕ} → length s ≤ length out → Wrote (converted_line s) 0 out e out' → ConvertedIs s out e out'
convert_told s out h w = record {
  answer = rw (le-leb (length s) (length out) h) (omega (arith, w.end, converted-length s));
  buffer = rw (le-leb (length s) (length out) h) w.buffer;
}

-- which has one answer and one state of the buffer
pub converted_is_one : {s before after₁ after₂ : List ℕ} {n₁ n₂ : ℕ} → ConvertedIs s before n₁ after₁ → ConvertedIs s before n₂ after₂ → (n₁ ≡ n₂) × (after₁ ≡ after₂)
converted_is_one g h = (g.answer ∙ sym h.answer, g.buffer ∙ sym h.buffer)

-- turns that may be converted leave their steps
pub record StepsWritten (ts steps : List ℕ) : Type 0 where
  pub below : Below 4 steps
  pub size : length steps ≡ length ts
  pub written : (s : List ℕ) → steps_frame steps ≡ written_if (turns_judged ts (length ts)) (steps_frame (steps_of ts)) s

module _ {ts out : List ℕ} {r : Judged} {out' : List ℕ} (w : ConvertedBy steps_of ts out r out') (l : length out ≡ length ts) where
  judged : r ≡ turns_judged ts (length ts)
  judged = w.answer ∙ ap (turns_judged ts) l

  pub turns_good : r ≡ Ok tt → StepsWritten ts out'
  turns_good e =
      let j : turns_judged ts (length ts) ≡ Ok tt = sym judged ∙ e in
      let k : out' ≡ steps_of ts = w.buffer ∙ ap (λ (n : ℕ). written_if (turns_judged ts n) (steps_of ts) out) l ∙ ap (λ (x : Judged). written_if x (steps_of ts) out) j in
      record {
        below = subst (Below 4) (sym k) (steps_of_below ts (turns_judged_good ts (length ts) j).digits);
        size = ap length k ∙ length-steps_of ts;
        written = λ s. ap steps_frame k ∙ sym (ap (λ (x : Judged). written_if x (steps_frame (steps_of ts)) s) j);
      }

  -- for others the line stays
  pub turns_refused : (x : Refusal) → r ≡ Err x → (s : List ℕ) → s ≡ written_if (turns_judged ts (length ts)) (steps_frame (steps_of ts)) s
  turns_refused x e s = sym (ap (λ (j : Judged). written_if j (steps_frame (steps_of ts)) s) (sym judged ∙ e))

-- what is passed on of a line that goes on: what comes, if the line was too long already; nothing, if it is not yet; or all of it
module _ (h r : List ℕ) where
  abbrev passed : List ℕ
  passed = cond (is_long h) r (cond (is_long (h ++ r)) (h ++ r) [])

  pub passed-long : most_line < length h → {at e : ℕ} {a b : List ℕ} → Wrote r at a e b → Wrote passed at a e b
  passed-long l w = rw (lt-ltb most_line (length h) l) w

  pub passed-short : (at : ℕ) (a : List ℕ) → length h + length r ≤ most_line → Wrote passed at a at a
  passed-short at a l = rw (le-ltb most_line (length h) (omega arith), le-ltb most_line (length (h ++ r)) (omega (arith, length-append h r))) (wrote_nil at a)

  pub passed_begun : length h ≤ most_line → most_line < length h + length r → {at m e : ℕ} {a b c : List ℕ} → at + length h + length r ≤ length a
      → Wrote h at a m b → Wrote r m b e c → Wrote passed at a e c
  passed_begun l k n p q = rw (le-ltb most_line (length h) l, lt-ltb most_line (length (h ++ r)) (omega (arith, length-append h r))) (wrote_append p q n)

-- what is written of the bytes that were kept of a line, where it ends
module _ (h : List ℕ) where
  abbrev ended : List ℕ
  ended = cond (is_long h) [] (converted_line h)

  pub ended-long : (at : ℕ) (a : List ℕ) → most_line < length h → Wrote ended at a at a
  ended-long at a l = rw (lt-ltb most_line (length h) l) (wrote_nil at a)

  pub ended-short : length h ≤ most_line → {at e : ℕ} {a b : List ℕ} → Wrote (converted_line h) at a e b → Wrote ended at a e b
  ended-short l w = rw (le-ltb most_line (length h) l) w

  pub ended_most : length ended ≤ most_line
  ended_most = go (is_long h) refl
    where
      go : (b : Bool) → is_long h ≡ b → length (cond b [] (converted_line h)) ≤ most_line
      go true e = omega arith
      go false e = omega (arith, converted-length h, ltb-false most_line (length h) e)
