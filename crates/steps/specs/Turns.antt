-- Steps as turns and turns as steps (RULES 2.1, 2.2, 6.3), and the refusals of both calls. Assumes nothing.
use Rattle.std.specs.Prelude.{◌≡◌, not, List, [], ◌∷◌, length, ℕ, suc, ◌+◌, ◌-◌, ◌%◌, eqb, Err, Ok, ltb}
use Rattle.answer.specs.Answers.{Judged}
use Rattle.answer.specs.declared.{Refusal.TheVariants.TooMany, Refusal.TheVariants.ResultRoom, Refusal.TheVariants.BadDigit}
use Rattle.answer.specs.{Limits.most_input, Refusal.when, Refusal.or_else, Refusal.first_of}

-- a step minus the one before it, modulo 4
abbrev pub turn_of : ℕ → ℕ → ℕ
turn_of a b = (b + (4 - a)) % 4

-- the step that a turn leads to
abbrev pub step_after : ℕ → ℕ → ℕ
step_after a t = (a + t) % 4

abbrev pub turns_from : ℕ → List ℕ → List ℕ
turns_from a [] = []
turns_from a (b ∷ ds) = turn_of a b ∷ turns_from b ds

-- the turns of steps: the first digit is the first step, each later digit is that step minus the one before
abbrev pub turns_of : List ℕ → List ℕ
turns_of [] = []
turns_of (d ∷ ds) = d ∷ turns_from d ds

abbrev pub steps_from : ℕ → List ℕ → List ℕ
steps_from a [] = []
steps_from a (t ∷ ts) = step_after a t ∷ steps_from (step_after a t) ts

-- the steps of turns
abbrev pub steps_of : List ℕ → List ℕ
steps_of [] = []
steps_of (t ∷ ts) = t ∷ steps_from t ts

-- the first digit above 3, from place i on
abbrev pub digits_judged : ℕ → List ℕ → Judged
digits_judged i [] = Ok tt
digits_judged i (d ∷ ds) = or_else (when (ltb 3 d) (BadDigit i)) (digits_judged (suc i) ds)

-- 1, then 3, then 4, for digits and a buffer of that length
abbrev pub turns_judged : List ℕ → ℕ → Judged
turns_judged ds size =
    first_of (when (ltb most_input (length ds)) TooMany
    ∷ when (not (eqb size (length ds))) ResultRoom
    ∷ digits_judged 0 ds
    ∷ [])

-- a buffer after the call: written if accepted, untouched if refused
abbrev pub written_if : Judged → List ℕ → List ℕ → List ℕ
written_if (Ok _) new old = new
written_if (Err r) new old = old

-- the promise of a conversion, turns_of or steps_of: the answer, and what the buffer holds then
pub record ConvertedBy (convert : List ℕ → List ℕ) (ds out : List ℕ) (r : Judged) (out' : List ℕ) : Type 0 where
  pub answer : r ≡ turns_judged ds (length out)
  pub buffer : out' ≡ written_if (turns_judged ds (length out)) (convert ds) out
