-- `undrwyth_words::pair_answer_words` meets its contract.
use mathlib.Core.Path.{ap, sym, subst, ◌∙◌}
use native.Mathlib.Omega.{arith}
use borrow.Author.Rules.{rules}
use Rattle.pair.specs.Words.{pair_answer_words}
use Rattle.undrwyth_words.specs.Words.{PairAnswerFits}
use Rattle.undrwyth_words.proofs.pair_answer_words.Goals as goal

pub pair_facts_words-requires : goal.pair_facts_words-requires
pair_facts_words-requires c = subst PairAnswerFits c.in-Ok.is c.requires

pub returns-in-Ok : goal.returns-in-Ok
returns-in-Ok c = c.pair_facts_words.ensures ∙ sym (ap pair_answer_words c.in-Ok.is)

pub refused-requires : goal.refused-requires
refused-requires c = (omega arith, (search rules, subst PairAnswerFits c.in-Err.is c.requires))

pub returns-in-Err : goal.returns-in-Err
returns-in-Err c = c.refused.ensures ∙ sym (ap pair_answer_words c.in-Err.is)
