-- Nothing is written by a refusal.
-- Assumes nothing.
use Rattle.std.specs.Prelude.{Err, Ok}
use mathlib.Core.List.{List}
use mathlib.Core.Path.{◌≡◌}
use Prim.Native.Nat.{ℕ}
use native.Mathlib.Omega.{arith}
use lib.ListN.{length}
use Rattle.answer.specs.Answers.{Judged}
use Rattle.answer.specs.declared.{Refusal.Refusal}
use Rattle.grid.specs.declared.Corner.{Corner}
use Rattle.answer.specs.Listed.{counted_of, laid_if}
use Rattle.outline.specs.Call.{outline_judged, OutlineCall}
use Rattle.outline.proofs.OutlineCases as cases

pub call_untouched : {s : Corner} {ds before after : List ℕ} (q : Refusal) → OutlineCall s ds before (Err q) after → after ≡ before
call_untouched {s} {ds} {before} {after} q p = go (outline_judged s ds (length before) (length p.steps)) p.answer p.buffer
  where
    go : (j : Judged) → Err q ≡ counted_of j (length p.steps) → after ≡ laid_if j p.steps before → after ≡ before
    go (Ok _) e b = absurd (let z : ◌≡◌ {A = ℕ} 0 1 = cc in omega arith)
    go (Err r) e b = b
