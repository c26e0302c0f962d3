-- The refusals of the outline's call in their order, and that it has one answer.
-- Assumes nothing.
use Rattle.std.specs.Prelude.{Err, Ok}
use mathlib.Core.List.{List}
use mathlib.Core.Path.{◌≡◌, refl, sym, ap, ◌∙◌}
use Prim.Native.Nat.{ℕ}
use lib.Dec.{ltb}
use lib.ListN.{length}
use Rattle.answer.specs.Answers.{Counted, Judged}
use Rattle.answer.specs.declared.{Refusal.Refusal, Refusal.TheVariants.OutlineRoom}
use Rattle.answer.specs.Refusal.{when}
use Rattle.answer.specs.Listed.{counted_of, laid_if}
use Rattle.answer.proofs.RefusalLaws.{first_refused, first-last}
use Rattle.grid.specs.declared.Corner.{Corner}
use Rattle.steps.specs.Chain.{as_walk_judged}
use Rattle.outline.specs.Call.{outline_judged, OutlineCall}
use Rattle.outline.specs.Computed.{outline_of}
use Rattle.outline_laws.proofs.OutlineLaws.{outline_of-is, outline_is_one}

module _ (s : Corner) (ds : List ℕ) (room n : ℕ) where
  pub judged_refused : (r : Refusal) → as_walk_judged s ds ≡ Err r → outline_judged s ds room n ≡ Err r
  judged_refused r e = first_refused (as_walk_judged s ds) (when (ltb room n) OutlineRoom) r e

  pub judged-last : as_walk_judged s ds ≡ Ok tt → outline_judged s ds room n ≡ when (ltb room n) OutlineRoom
  judged-last e = first-last (as_walk_judged s ds) (when (ltb room n) OutlineRoom) e

-- every call has an answer
pub outline_call_some : (s : Corner) (ds before : List ℕ) → (r : Counted) × (after : List ℕ) × OutlineCall s ds before r after
outline_call_some s ds before =
    let es = outline_of s ds in
    let j = outline_judged s ds (length before) (length es) in
    (counted_of j (length es), laid_if j es before, record { steps = es; outline = outline_of-is s ds; answer = refl; buffer = refl })

-- and only one
pub outline_call_one : {s : Corner} {ds before after after' : List ℕ} {r r' : Counted} → OutlineCall s ds before r after → OutlineCall s ds before r' after' → (r ≡ r') × (after ≡ after')
outline_call_one {s} {ds} {before} p q = (
  p.answer ∙ ap (λ (es : List ℕ). counted_of (outline_judged s ds (length before) (length es)) (length es)) one ∙ sym q.answer,
  p.buffer ∙ ap (λ (es : List ℕ). laid_if (outline_judged s ds (length before) (length es)) es before) one ∙ sym q.buffer,
)
  where
    one : p.steps ≡ q.steps
    one = outline_is_one p.outline q.outline

-- a refused call leaves the buffer as it was
pub call_refused : (s : Corner) (ds before : List ℕ) (r : Refusal) → as_walk_judged s ds ≡ Err r → OutlineCall s ds before (Err r) before
call_refused s ds before r e =
    let es = outline_of s ds in
    let j = judged_refused s ds (length before) (length es) r e in
    record {
      steps = es;
      outline = outline_of-is s ds;
      answer = sym (ap (λ (k : Judged). counted_of k (length es)) j);
      buffer = sym (ap (λ (k : Judged). laid_if k es before) j);
    }
