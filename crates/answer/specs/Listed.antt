-- The answer of a call that lists something, and its buffer after the call (RULES 6.6). Assumes nothing.
use Rattle.std.specs.Prelude.{Err, List, Ok, ◌++◌, length, drop, ℕ}
use Rattle.answer.specs.Answers.{Counted, Judged}

-- how many there are, unless there is a refusal
abbrev pub counted_of : Judged → ℕ → Counted
counted_of (Ok _) n = Ok n
counted_of (Err r) n = Err r

-- the list and then what stood after it, unless there is a refusal
abbrev pub laid_if : {A : Type 0} → Judged → List A → List A → List A
laid_if (Ok _) new old = new ++ drop (length new) old
laid_if (Err r) new old = old
