-- `undrwyth_words::walk_words` meets its contract.
use mathlib.Core.Path.{ap, sym, subst, ◌∙◌}
use native.Mathlib.Omega.{arith}
use borrow.Author.Rules.{rules}
use Rattle.answer.specs.Words.{answer_words}
use Rattle.undrwyth_words.specs.Words.{AnswerFits}
use Rattle.undrwyth_words.proofs.walk_words.Goals as goal

pub facts_words-requires : goal.facts_words-requires
facts_words-requires c = subst AnswerFits c.in-Ok.is c.requires

pub returns-in-Ok : goal.returns-in-Ok
returns-in-Ok c = c.facts_words.ensures ∙ sym (ap answer_words c.in-Ok.is)

pub refused-requires : goal.refused-requires
refused-requires c = (omega arith, (search rules, subst AnswerFits c.in-Err.is c.requires))

pub returns-in-Err : goal.returns-in-Err
returns-in-Err c = c.refused.ensures ∙ sym (ap answer_words c.in-Err.is)
