-- The hull of a frame's steps is never refused, and its list is the one that the answer spells.
-- Assumes nothing.
use Rattle.std.specs.Prelude.{Err, Ok}
use mathlib.Core.Path.{◌≡◌, refl, ap, ◌∙◌, subst}
use mathlib.Core.List.{List, ◌++◌, append_assoc}
use Prim.Native.Nat.{ℕ, ◌+◌, ◌*◌, ◌≤◌}
use native.Mathlib.Omega.{arith}
use lib.IntN.{ℤ}
use lib.ListN.{length, take, drop, length-append}
use lib.Seq.{take_at}
use Rattle.lists.specs.Lists.{Below}
use Rattle.grid.specs.declared.Corner.{Corner}
use Rattle.grid.specs.Grid.{origin, corners_from, numbers}
use Rattle.hull.specs.Call.{hull_judged, HullCall}
use Rattle.steps.proofs.ChainLaws.{walk_good}
use Rattle.answer.specs.Listed.{counted_of, laid_if}
use Rattle.hull_laws.specs.Chain.{hull_of}
use Rattle.std.specs.Result.{result_unwrap_or}
use Rattle.answer.specs.Answers.{Counted, Judged}
use Rattle.answer.specs.declared.Refusal.{Refusal}
use Rattle.hull_laws.proofs.OneLaws.{hull_is_one}
use Rattle.hull_laws.proofs.HullLaws.{hull_of_hull, length-hull_of}
use Rattle.hull_laws.proofs.JoinLaws.{length-numbers}
use Rattle.hull_laws.proofs.CallLaws.{judged-room, room_enough}
use Rattle.line_frame.specs.Sizes.{most_digits, most_corners, hull_numbers, facts_digits, most_answer}
use Rattle.line_frame.specs.Hex.{hex_of}
use Rattle.line_frame.specs.Spelled.{numbers_line, hull_line}
use Rattle.line_fields.specs.Put.{Wrote}
use Rattle.line_frame.proofs.HexLaws.{length-hex_of}
use Rattle.line_fields.proofs.PutLaws.{wrote_append}
use Rattle.line_frame.proofs.SpelledLaws.{length-numbers_line}
use Rattle.line_reply.specs.Reply.{HoldsCorners}

hull_good : (w : List ℕ) (room n : ℕ) → Below 4 w → length w ≤ most_digits → 2 * n ≤ room → hull_judged origin w room n ≡ Ok tt
hull_good w room n b h r =
    judged-room origin w room n (walk_good origin w refl (record { digits = b; few = omega arith })) ∙ room_enough room n r

module _ {w : List ℕ} {before after : List ℤ} {r : Counted} (h : HullCall origin w before r after) (b : Below 4 w) (m : length w ≤ most_digits) (room : length before ≡ hull_numbers) where
  one : h.list ≡ hull_of origin w
  one = hull_is_one (corners_from origin w) h.list (hull_of origin w) h.hull (hull_of_hull origin w)

  fits : 2 * length h.list ≤ length before
  fits = omega (arith, ap length one, length-hull_of origin w)

  good : hull_judged origin w (length before) (length h.list) ≡ Ok tt
  good = hull_good w (length before) (length h.list) b m fits

  count : r ≡ Ok (length h.list)
  count = h.answer ∙ ap (λ (j : Judged). counted_of j (length h.list)) good

  pub hull_listed : HoldsCorners (hull_of origin w) (result_unwrap_or r 0) after
  hull_listed =
      let n : ℕ = result_unwrap_or r 0 in
      let k : n ≡ length h.list = ap (λ (x : Counted). result_unwrap_or x 0) count in
      record {
        count = k ∙ ap length one;
        buffer =
            ap (take (2 * n)) (h.buffer ∙ ap (λ (j : Judged). laid_if j (numbers h.list) before) good)
            ∙ take_at (numbers h.list) (drop (length (numbers h.list)) before) (2 * n) (omega (arith, length-numbers h.list))
            ∙ ap numbers one;
      }

  pub hull_not_refused : (x : Refusal) → r ≡ Err x → ⊥
  hull_not_refused x e = let z : ◌≡◌ {A = ℕ} 0 1 = cc count in omega arith

-- facts, count and corners, one after the other
pub wrote_accepted : (f : List ℕ) (cs : List Corner) (at n : ℕ) (buf : List ℤ) {i j e : ℕ} {a b c d : List ℕ}
    → HoldsCorners cs n buf → length cs ≤ most_corners → length f ≡ facts_digits → at + most_answer ≤ length a
    → Wrote f at a i b → Wrote (hex_of 4 n) i b j c → Wrote (numbers_line (take (2 * n) buf)) j c e d
    → Wrote (f ++ hull_line cs) at a e d
wrote_accepted f cs at n buf {i} {j} {e} {a} {b} {c} {d} l m k h p q r =
    let q1 = subst (λ (v : ℕ). Wrote (hex_of 4 v) i b j c) l.count q in
    let r1 = subst (λ (zs : List ℤ). Wrote (numbers_line zs) j c e d) l.buffer r in
    let x = length-hex_of 4 (length cs) in
    let y = length-numbers_line (numbers cs) in
    let z = length-numbers cs in
    let u = wrote_append (wrote_append p q1 (omega arith)) r1 (omega (arith, length-append f (hex_of 4 (length cs)))) in
    subst (λ (v : List ℕ). Wrote v at a e d) (append_assoc f (hex_of 4 (length cs)) (numbers_line (numbers cs))) u
