-- What the calls answer: what was asked for, or a refusal. Assumes nothing.
use Rattle.std.specs.Prelude.{ℕ, Result, ⊤}
use Rattle.answer.specs.declared.{Facts.Facts, PairFacts.PairFacts, Refusal.Refusal}

-- nothing but whether there is a refusal
abbrev pub Judged : Type 0
Judged = Result ⊤ Refusal

-- the facts of a walk
abbrev pub Answer : Type 0
Answer = Result Facts Refusal

-- how many corners, steps, bytes or spans there are; or 1 for yes and 0 for no
abbrev pub Counted : Type 0
Counted = Result ℕ Refusal

-- the facts of two parties
abbrev pub PairAnswer : Type 0
PairAnswer = Result PairFacts Refusal
