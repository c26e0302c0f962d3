-- Whether a start and a chain are a room, and the refusals of every call that asks for one (RULES 12.1). Assumes nothing.
use Rattle.std.specs.Prelude.{Bool, not, List, [], ◌∷◌, ℕ, eqb}
use Rattle.answer.specs.Answers.{Judged}
use Rattle.grid.specs.declared.Corner.{Corner}
use Rattle.answer.specs.declared.{Refusal.TheVariants.NotRoom, Verdict.TheVariants.Room}
use Rattle.answer.specs.{Refusal.when, Refusal.first_of, Refusal.verdict_number}
use Rattle.steps.specs.Chain.{as_walk_judged}
use Rattle.trace.specs.Verdict.{verdict_of}

-- the verdict is a room's
abbrev pub is_room : Corner → List ℕ → Bool
is_room c ds = eqb (verdict_number (verdict_of c ds)) (verdict_number Room)

-- what is wrong with a start and a chain as a room: the refusals of a walk, then 12
abbrev pub as_room_judged : Corner → List ℕ → Judged
as_room_judged c ds = first_of (as_walk_judged c ds ∷ when (not (is_room c ds)) NotRoom ∷ [])
