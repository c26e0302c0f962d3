-- What every call judges first of a start and a chain of steps (RULES 6.3). Assumes nothing.
use Rattle.std.specs.Prelude.{not, List, [], ◌∷◌, length, ℕ, suc, eqb, Ok, ltb}
use Rattle.answer.specs.Answers.{Judged}
use Rattle.grid.specs.declared.Corner.{Corner}
use Rattle.answer.specs.declared.{Refusal.TheVariants.TooMany, Refusal.TheVariants.BadDigit, Refusal.TheVariants.TooLong, Refusal.TheVariants.StartRange}
use Rattle.answer.specs.{Limits.most_input, Limits.most_steps, Limits.start_fits, Refusal.when, Refusal.or_else, Refusal.first_of}

-- at place i: 4 if the byte is above 3, otherwise 6 if its step would be the 16,385th
abbrev pub fault_at : ℕ → ℕ → Judged
fault_at i d = or_else (when (ltb 3 d) (BadDigit i)) (when (eqb i most_steps) (TooLong i))

-- the refusal at the first faulty place, if the first byte stands at place i
abbrev pub chain_judged : ℕ → List ℕ → Judged
chain_judged i [] = Ok tt
chain_judged i (d ∷ ds) = or_else (fault_at i d) (chain_judged (suc i) ds)

-- what is wrong with a start and a chain as a walk: 1, then 10, then 4 or 6 at the first faulty place
abbrev pub as_walk_judged : Corner → List ℕ → Judged
as_walk_judged c ds =
    first_of (when (ltb most_input (length ds)) TooMany ∷ when (not (start_fits c)) StartRange ∷ chain_judged 0 ds ∷ [])
