-- When each answer of the hull's call is given (RULES 6.1 to 6.3).
-- Assumes nothing.
use Rattle.std.specs.Prelude.{List, ℕ, ◌*◌, ◌<◌, Err, Ok, ◌≤◌}
use Rattle.answer.specs.Answers.{Judged}
use Rattle.answer.specs.declared.Refusal.{Refusal}
use Rattle.answer.specs.declared.Refusal.TheVariants.{HullRoom}
use Rattle.grid.specs.declared.Corner.{Corner}
use Rattle.demands.specs.GivenChain.{GivenChain}

-- the occasion of each judgement, for a hull with this many corners: those of a start and a chain, then 8
pub data GivenHull (c : Corner) (chain : List ℕ) (size corners : ℕ) : Judged → Type 0 where
  not_walk : (q : Refusal) → GivenChain c chain (Err q) → GivenHull c chain size corners (Err q)
  hull_room : GivenChain c chain (Ok tt) → size < 2 * corners → GivenHull c chain size corners (Err HullRoom)
  accepted : GivenChain c chain (Ok tt) → 2 * corners ≤ size → GivenHull c chain size corners (Ok tt)
