-- `undrwyth_words::counted_words` meets its contract.
use mathlib.Core.Path.{ap, sym, subst, ◌∙◌}
use native.Mathlib.Omega.{arith}
use borrow.Author.Rules.{rules}
use Rattle.answer.specs.Words.{counted_words}
use Rattle.undrwyth_words.specs.Words.{CountedFits}
use Rattle.undrwyth_words.proofs.counted_words.Goals as goal

pub overflow_cast-result : goal.overflow_cast-result
overflow_cast-result c = omega (arith, subst CountedFits c.in-Ok.is c.requires)

pub returns-in-Ok : goal.returns-in-Ok
returns-in-Ok c = sym (ap counted_words c.in-Ok.is)

pub refused-requires : goal.refused-requires
refused-requires c = (omega arith, (search rules, subst CountedFits c.in-Err.is c.requires))

pub returns-in-Err : goal.returns-in-Err
returns-in-Err c = c.refused.ensures ∙ sym (ap counted_words c.in-Err.is)
