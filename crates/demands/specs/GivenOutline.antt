-- When each answer of the outline's call is given (RULES 15.6).
-- Assumes nothing.
use Rattle.std.specs.Prelude.{List, ℕ, ◌<◌, Err, Ok, ◌≤◌}
use Rattle.answer.specs.Answers.{Judged}
use Rattle.answer.specs.declared.Refusal.{Refusal}
use Rattle.answer.specs.declared.Refusal.TheVariants.{OutlineRoom}
use Rattle.grid.specs.declared.Corner.{Corner}
use Rattle.demands.specs.GivenChain.{GivenChain}

-- the occasion of each judgement, for an outline of this many steps: those of a start and a chain, then 11
pub data GivenOutline (c : Corner) (ds : List ℕ) (size steps : ℕ) : Judged → Type 0 where
  not_walk : (q : Refusal) → GivenChain c ds (Err q) → GivenOutline c ds size steps (Err q)
  outline_room : GivenChain c ds (Ok tt) → size < steps → GivenOutline c ds size steps (Err OutlineRoom)
  accepted : GivenChain c ds (Ok tt) → steps ≤ size → GivenOutline c ds size steps (Ok tt)
