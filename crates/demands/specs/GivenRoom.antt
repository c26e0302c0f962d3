-- When each answer of a call on a room is given (RULES 12.1, 13.6).
-- Assumes nothing.
use Rattle.std.specs.Prelude.{List, ℕ, ◌<◌, Err, Ok, ◌≤◌}
use Rattle.answer.specs.Answers.{Judged}
use Rattle.answer.specs.declared.Refusal.{Refusal}
use Rattle.answer.specs.declared.Refusal.TheVariants.{NotRoom, PolygonRoom}
use Rattle.grid.specs.declared.Corner.{Corner}
use Rattle.trace.specs.Verdict.{IsRoom}
use Rattle.demands.specs.GivenChain.{GivenChain}

-- the occasion of each judgement of a start and a chain as a room: those of a start and a chain, then 12
pub data GivenRoom (c : Corner) (ds : List ℕ) : Judged → Type 0 where
  not_walk : (q : Refusal) → GivenChain c ds (Err q) → GivenRoom c ds (Err q)
  not_room : GivenChain c ds (Ok tt) → (IsRoom c ds → ⊥) → GivenRoom c ds (Err NotRoom)
  is_room : GivenChain c ds (Ok tt) → IsRoom c ds → GivenRoom c ds (Ok tt)

-- that of each judgement of a room whose polygon has this many bytes: those, then 13
pub data GivenPolygon (c : Corner) (ds : List ℕ) (size bytes : ℕ) : Judged → Type 0 where
  refused : (q : Refusal) → GivenRoom c ds (Err q) → GivenPolygon c ds size bytes (Err q)
  polygon_room : GivenRoom c ds (Ok tt) → size < bytes → GivenPolygon c ds size bytes (Err PolygonRoom)
  accepted : GivenRoom c ds (Ok tt) → bytes ≤ size → GivenPolygon c ds size bytes (Ok tt)
