-- Pages of the sheet passed on, one after the other.
-- Assumes nothing.
use Rattle.std.proofs.Common.{◌≡◌, ℕ, ◌+◌, ◌-◌, ◌≤◌, List, ◌++◌, length, take, drop, sym, ap, ◌∙◌, subst, arith, append_assoc, take-append-drop, length-drop, drop-drop, take_all}
use Rattle.line_fields.specs.Put.{Wrote}
use Rattle.line_fields.proofs.PutLaws.{take-put-start}
use Rattle.sheet.specs.declared.Margin.{Margin}
use Rattle.sheet.specs.Sheet.{page_of, margin_after}
use Rattle.sheet.proofs.NumberLaws.{page_most, page_append, margin_append}
use Rattle.sheet_number.specs.Numbered.{most_piece, most_page, NumberedIs}
use Rattle.sheet_number.specs.declared.Numbered.{Numbered}
use Rattle.std.specs.Prelude.{Result, Ok}
use Rattle.line_io.specs.declared.Failure.{Failure}
use Rattle.line_io.specs.Send.{SentIs}

-- a page fits its buffer
pub page_fits : (m : Margin) (s : List ℕ) {before after : List ℕ} {r : Numbered} → length s ≤ most_piece → NumberedIs m s before r after → r.used ≤ most_page
page_fits m s f n = omega (arith, n.output.end, page_most m s)

-- what is written from the start of a buffer that is long enough stands there
pub wrote_start : {f before after : List ℕ} {used : ℕ} → Wrote f 0 before used after → length after ≡ length before → used ≤ length after → take used after ≡ f
wrote_start {f} {before} {after} {used} w l k = ap (take used) w.buffer ∙ take-put-start f before used (omega (arith, w.end)) (omega arith)

-- where the sheet stands, as it was answered
sent_at : {m : Margin} {r : Result Margin Failure} (q : Margin) → SentIs m r → r ≡ Ok q → q ≡ m
sent_at {m} q h e = subst (SentIs m) e h

-- the pages so far, and those to come: from the next on the sheet comes to where it comes from the first on
module _ (s : List ℕ) (first next q : Margin) (at end : ℕ) (from : at ≤ end) (i : margin_after next (drop at s) ≡ margin_after first s) {r : Result Margin Failure} (h : SentIs (margin_after next (take (end - at) (drop at s))) r) (e : r ≡ Ok q) where
  pub pages_more : margin_after q (drop end s) ≡ margin_after first s
  pages_more =
      let d : List ℕ = drop at s in
      let n : at + (end - at) ≡ end = omega arith in
      ap (λ (m : Margin). margin_after m (drop end s)) (sent_at q h e)
      ∙ ap (margin_after (margin_after next (take (end - at) d))) (sym (drop-drop (end - at) at s ∙ ap (λ (k : ℕ). drop k s) n))
      ∙ sym (margin_append next (take (end - at) d) (drop (end - at) d))
      ∙ ap (margin_after next) (take-append-drop (end - at) d)
      ∙ i

  -- and what they come to is the same
  pub bytes_more : (w all : List ℕ) → w ++ page_of next (drop at s) ≡ all → (w ++ page_of next (take (end - at) (drop at s))) ++ page_of q (drop end s) ≡ all
  bytes_more w all g =
      let d : List ℕ = drop at s in
      let n : at + (end - at) ≡ end = omega arith in
      append_assoc w (page_of next (take (end - at) d)) (page_of q (drop end s))
      ∙ ap (λ (m : Margin). w ++ (page_of next (take (end - at) d) ++ page_of m (drop end s))) (sent_at q h e)
      ∙ ap (λ (l : List ℕ). w ++ (page_of next (take (end - at) d) ++ page_of (margin_after next (take (end - at) d)) l)) (sym (drop-drop (end - at) at s ∙ ap (λ (k : ℕ). drop k s) n))
      ∙ ap (λ (l : List ℕ). w ++ l) (sym (page_append next (take (end - at) d) (drop (end - at) d)))
      ∙ ap (λ (l : List ℕ). w ++ page_of next l) (take-append-drop (end - at) d)
      ∙ g

-- the last page
pub bytes_done : (s : List ℕ) (next : Margin) (at end : ℕ) (w all : List ℕ) → at ≤ end → length s ≤ end → w ++ page_of next (drop at s) ≡ all → w ++ page_of next (take (end - at) (drop at s)) ≡ all
bytes_done s next at end w all from l g = ap (λ (d : List ℕ). w ++ page_of next d) (take_all (end - at) (drop at s) (omega (arith, length-drop at s))) ∙ g
