-- A walk is threaded in the columns that it can reach as it is in all.
-- Assumes nothing.
use mathlib.Core.Path.{◌∙◌}
use mathlib.Core.List.{List}
use Prim.Native.Nat.{ℕ, ◌≤◌}
use native.Mathlib.Omega.{arith}
use lib.ListN.{length, take}
use lib.Seq.{get_or-take, length-take-le}
use Rattle.room_thread_laws.specs.Threads.{Laid}

pub laid_reach : (chain : List ℕ) (m : ℕ) (head next hs : List ℕ) (k : ℕ) → k ≤ length head → Laid chain m (length chain) head next hs → Laid chain m (length chain) (take k head) next hs
laid_reach chain m head next hs k h t = record {
  threaded = record { heads = λ c l. get_or-take k head c 0 (omega (arith, l, length-take-le k head h)) ∙ t.threaded.heads c (omega (arith, l, length-take-le k head h)); nexts = t.threaded.nexts };
  heights = t.heights;
  nexts_end = t.nexts_end;
  heights_end = t.heights_end;
}
