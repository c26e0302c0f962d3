-- The judgement of a walk's input: all refusals but "no room", which the table decides.
-- Assumes nothing.
use Rattle.std.specs.Prelude.{List, ℕ}
use Rattle.answer.specs.Answers.{Judged}
use Rattle.answer.specs.Refusal.{first_of}
use Rattle.grid.specs.declared.Corner.{Corner}
use Rattle.walk.specs.Walk.{input_judgements}

abbrev pub input_judged : Corner → List ℕ → ℕ → ℕ → ℕ → Judged
input_judged c os words marks chain = first_of (input_judgements c os words marks chain)
