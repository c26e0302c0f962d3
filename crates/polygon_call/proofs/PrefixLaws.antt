-- A list that is laid down at the start of a buffer, number by number.
-- Assumes nothing.
use mathlib.Core.Path.{◌≡◌, refl, sym, ap, ◌∙◌}
use mathlib.Core.List.{List, [], ◌∷◌, ◌++◌}
use Prim.Native.Nat.{ℕ, ◌+◌, ◌≤◌, ◌<◌}
use native.Mathlib.Omega.{arith}
use native.Mathlib.Numerals.{add-one}
use lib.ListN.{length, take, drop, set, get_or, length-set, take-append-drop}
use lib.Seq.{take-suc-set, take-suc, drop-set-lt, drop-drop, take_all}

-- W is laid down over the start of l, as far as place i
pub record Laid (l W out : List ℕ) (i : ℕ) : Type 0 where
  pub within : i ≤ length W
  pub same : length out ≡ length l
  pub done : take i out ≡ take i W
  pub after : drop i out ≡ drop i l

module _ {l W : List ℕ} where
  pub laid_first : Laid l W l 0
  laid_first = record { within = omega arith; same = refl; done = refl; after = refl }

  pub laid_more : {out : List ℕ} {i : ℕ} → length W ≤ length l → i < length W → Laid l W out i → Laid l W (set out i (get_or W i 0)) (i + 1)
  laid_more {out} {i} fit h p =
      let o : i < length out = omega arith in
      record {
        within = omega arith;
        same = length-set out i (get_or W i 0) ∙ p.same;
        done = rw add-one (take-suc-set out i (get_or W i 0) o ∙ ap (λ (z : List ℕ). z ++ (get_or W i 0 ∷ [])) p.done ∙ sym (take-suc W i 0 h));
        after =
            drop-set-lt (i + 1) out i (get_or W i 0) (omega arith)
            ∙ sym (drop-drop 1 i out) ∙ ap (drop 1) p.after ∙ drop-drop 1 i l;
      }

  pub laid_last : {out : List ℕ} {i : ℕ} → length W ≤ i → Laid l W out i → out ≡ W ++ drop (length W) l
  laid_last {out} {i} h p =
      let e : i ≡ length W = omega arith in
      sym (take-append-drop i out)
      ∙ ap (λ (z : List ℕ). z ++ drop i out) (p.done ∙ take_all i W h)
      ∙ ap (λ (z : List ℕ). W ++ z) (p.after ∙ ap (λ (n : ℕ). drop n l) e)
