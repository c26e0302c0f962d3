-- The refusals of the hull call in their order, and the buffer after a list is written.
-- Assumes nothing.
use Rattle.std.specs.Prelude.{Err, Ok}
use mathlib.Core.Path.{◌≡◌, sym, ap, ◌∙◌}
use mathlib.Core.Bool.{Bool}
use mathlib.Core.List.{List, ◌++◌}
use Prim.Native.Nat.{ℕ, ◌+◌, ◌*◌, ◌≤◌, ◌<◌}
use native.Mathlib.Omega.{arith}
use borrow.Author.Tests.{lt-ltb, le-ltb}
use lib.Dec.{ltb}
use lib.IntN.{ℤ}
use lib.ListN.{length, drop}
use lib.Seq.{sets, sets-eq}
use Rattle.answer.specs.Answers.{Counted, Judged}
use Rattle.grid.specs.declared.Corner.{Corner}
use Rattle.grid.specs.Grid.{corners_from, numbers}
use Rattle.answer.specs.declared.Refusal.{Refusal}
use Rattle.answer.specs.declared.Refusal.TheVariants.{HullRoom}
use Rattle.answer.specs.Refusal.{when}
use Rattle.answer.specs.Listed.{counted_of, laid_if}
use Rattle.answer.proofs.RefusalLaws.{first_refused, first-last}
use Rattle.steps.specs.Chain.{as_walk_judged}
use Rattle.hull.specs.Call.{hull_judged, HullCall}
use Rattle.hull_laws.specs.Chain.{hull_of}
use Rattle.hull_laws.proofs.OneLaws.{hull_is_one}
use Rattle.hull_laws.proofs.HullLaws.{hull_of_hull}
use Rattle.hull_laws.proofs.JoinLaws.{length-numbers}

pub room-short : (room n : ℕ) → room < 2 * n → when (ltb room (2 * n)) HullRoom ≡ Err HullRoom
room-short room n h = ap (λ (b : Bool). when b HullRoom) (lt-ltb room (2 * n) h)

pub room_enough : (room n : ℕ) → 2 * n ≤ room → when (ltb room (2 * n)) HullRoom ≡ Ok tt
room_enough room n h = ap (λ (b : Bool). when b HullRoom) (le-ltb room (2 * n) h)

-- stores from the first place on
pub written : (L : List Corner) (before : List ℤ) → 2 * length L ≤ length before → sets before 0 (numbers L) ≡ numbers L ++ drop (length (numbers L)) before
written L before h = sets-eq (numbers L) before 0 (omega (arith, length-numbers L)) ∙ ap (λ (k : ℕ). numbers L ++ drop k before) none
  where
    none : 0 + length (numbers L) ≡ length (numbers L)
    none = omega arith

module _ (s : Corner) (chain : List ℕ) (room n : ℕ) where
  pub judged_refused : (r : Refusal) → as_walk_judged s chain ≡ Err r → hull_judged s chain room n ≡ Err r
  judged_refused r e = first_refused (as_walk_judged s chain) (when (ltb room (2 * n)) HullRoom) r e

  pub judged-room : as_walk_judged s chain ≡ Ok tt → hull_judged s chain room n ≡ when (ltb room (2 * n)) HullRoom
  judged-room e = first-last (as_walk_judged s chain) (when (ltb room (2 * n)) HullRoom) e

-- a refused call leaves the buffer as it was
pub call_refused : (s : Corner) (chain : List ℕ) (before : List ℤ) (r : Refusal) → as_walk_judged s chain ≡ Err r → HullCall s chain before (Err r) before
call_refused s chain before r e =
    let L = hull_of s chain in
    let j = judged_refused s chain (length before) (length L) r e in
    record {
      list = L;
      hull = hull_of_hull s chain;
      answer = sym (ap (λ (j : Judged). counted_of j (length L)) j);
      buffer = sym (ap (λ (j : Judged). laid_if j (numbers L) before) j);
    }

-- there is one answer and one buffer
pub hull_call_one : {s : Corner} {chain : List ℕ} {before : List ℤ} {r r' : Counted} {after after' : List ℤ} → HullCall s chain before r after → HullCall s chain before r' after' → (r ≡ r') × (after ≡ after')
hull_call_one {s} {chain} {before} h g = (h.answer ∙ ap (λ (L : List Corner). counted_of (hull_judged s chain (length before) (length L)) (length L)) one ∙ sym g.answer, h.buffer ∙ ap (λ (L : List Corner). laid_if (hull_judged s chain (length before) (length L)) (numbers L) before) one ∙ sym g.buffer)
  where
    one : h.list ≡ g.list
    one = hull_is_one (corners_from s chain) h.list g.list h.hull g.hull
