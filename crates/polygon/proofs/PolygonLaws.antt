-- The call has one answer and leaves the buffer in one state, and as it was if it refuses.
-- Assumes nothing.
use Rattle.std.specs.Prelude.{Err, Ok}
use mathlib.Core.List.{List}
use mathlib.Core.Path.{◌≡◌, sym, ◌∙◌}
use Prim.Native.Nat.{ℕ}
use native.Mathlib.Omega.{arith}
use lib.ListN.{length}
use Rattle.answer.specs.Answers.{Counted, Judged}
use Rattle.answer.specs.declared.{Refusal.Refusal}
use Rattle.grid.specs.declared.Corner.{Corner}
use Rattle.answer.specs.Listed.{counted_of, laid_if}
use Rattle.polygon.specs.Polygon.{polygon_of, polygon_judged, PolygonCall}
use Rattle.polygon.proofs.PolygonCases as cases

pub polygon_call_one : {s : Corner} {ds before after after' : List ℕ} {r r' : Counted} → PolygonCall s ds before r after → PolygonCall s ds before r' after' → (r ≡ r') × (after ≡ after')
polygon_call_one p q = (p.answer ∙ sym q.answer, p.buffer ∙ sym q.buffer)

-- nothing is written by a refusal
pub call_untouched : {s : Corner} {ds before after : List ℕ} (q : Refusal) → PolygonCall s ds before (Err q) after → after ≡ before
call_untouched {s} {ds} {before} {after} q p = go (polygon_judged s ds (length before)) p.answer p.buffer
  where
    go : (j : Judged) → Err q ≡ counted_of j (length (polygon_of s ds)) → after ≡ laid_if j (polygon_of s ds) before → after ≡ before
    go (Ok _) e b = absurd (let z : ◌≡◌ {A = ℕ} 0 1 = cc in omega arith)
    go (Err r) e b = b
