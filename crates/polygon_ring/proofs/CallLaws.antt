-- The call has one answer and leaves the buffer in one state, and as it was if it refuses.
-- Assumes nothing.
use Rattle.std.specs.Prelude.{Err, Ok}
use mathlib.Core.List.{List}
use mathlib.Core.Path.{◌≡◌, sym, ◌∙◌}
use Prim.Native.Nat.{ℕ}
use native.Mathlib.Omega.{arith}
use lib.ListN.{length}
use Rattle.polygon_ring.specs.Answers.{Given}
use Rattle.answer.specs.Answers.{Judged}
use Rattle.answer.specs.declared.{Refusal.Refusal}
use Rattle.answer.specs.Listed.{laid_if}
use Rattle.polygon_ring.specs.Ring.{chain_of_points, ring_of, read_judged, given_of, ReadCall}

pub read_call_one : {file before after after' : List ℕ} {r r' : Given} → ReadCall file before r after → ReadCall file before r' after' → (r ≡ r') × (after ≡ after')
read_call_one p q = (p.answer ∙ sym q.answer, p.buffer ∙ sym q.buffer)

-- nothing is written by a refusal
pub call_untouched : {file before after : List ℕ} (q : Refusal) → ReadCall file before (Err q) after → after ≡ before
call_untouched {file} {before} {after} q p = go (read_judged file (length before)) p.answer p.buffer
  where
    go : (j : Judged) → Err q ≡ given_of j (ring_of file) → after ≡ laid_if j (chain_of_points (ring_of file)) before → after ≡ before
    go (Ok _) e b = absurd (let z : ◌≡◌ {A = ℕ} 0 1 = cc in omega arith)
    go (Err r) e b = b
