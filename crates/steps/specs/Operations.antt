-- The surviving steps of a string of operations, and the refusals 4, 5 and 6 (RULES 1.3, 6.1). Assumes nothing.
use Rattle.lists.specs.Lists.{front, Below}
use Rattle.std.specs.Prelude.{◌≡◌, ◌⊎◌, true, false, not, ◌&&◌, List, [], ◌∷◌, ◌++◌, length, ℕ, suc, ◌+◌, ◌-◌, ◌<◌, ◌≤◌, eqb, Ok, ltb}
use Rattle.answer.specs.Answers.{Judged}
use Rattle.answer.specs.declared.{Refusal.TheVariants.BadDigit, Refusal.TheVariants.NothingToTake, Refusal.TheVariants.TooLong}
use Rattle.answer.specs.{Limits.most_steps, Refusal.when, Refusal.or_else, Refusal.first_of}

-- one operation: 4 takes the last surviving step back, any other is a step
abbrev pub operate : List ℕ → ℕ → List ℕ
operate steps o = elim (eqb o 4) [ true ↦ front steps | false ↦ steps ++ (o ∷ []) ]

abbrev pub survivors_from : List ℕ → List ℕ → List ℕ
survivors_from steps [] = steps
survivors_from steps (o ∷ os) = survivors_from (operate steps o) os

-- the surviving steps of a string of operations
abbrev pub survivors : List ℕ → List ℕ
survivors os = survivors_from [] os

-- what is wrong with operation o at place i, if n steps survive: 4, a byte above 4; 5, nothing to take; 6, a step too many
abbrev pub fault_of : ℕ → ℕ → ℕ → Judged
fault_of i n o =
    first_of (when (ltb 4 o) (BadDigit i)
    ∷ when (eqb o 4 && eqb n 0) (NothingToTake i)
    ∷ when (not (eqb o 4) && not (ltb n most_steps)) (TooLong i)
    ∷ [])

-- an operation with no fault, if n steps survive: a take-back with a step to take, or a step that is not too many
abbrev pub Fine : ℕ → ℕ → Type 0
Fine n o = ((o ≡ 4) × (0 < n)) ⊎ ((o < 4) × (n < most_steps))

-- the steps of a walk: digits below 4, and not too many
pub record Walkable (ds : List ℕ) : Type 0 where
  pub digits : Below 4 ds
  pub few : length ds ≤ most_steps

-- how many steps survive the operation
abbrev pub after : ℕ → ℕ → ℕ
after n o = elim (eqb o 4) [ true ↦ n - 1 | false ↦ n + 1 ]

-- the first fault, with n steps surviving at place i
abbrev pub operations_judged : ℕ → ℕ → List ℕ → Judged
operations_judged i n [] = Ok tt
operations_judged i n (o ∷ os) = or_else (fault_of i n o) (operations_judged (suc i) (after n o) os)
