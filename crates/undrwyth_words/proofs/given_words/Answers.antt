-- `undrwyth_words::given_words` meets its contract.
use mathlib.Core.Path.{ap, sym, subst, ◌∙◌}
use native.Mathlib.Omega.{arith}
use borrow.Author.Rules.{rules}
use Rattle.polygon_ring.specs.Words.{given_words}
use Rattle.undrwyth_words.specs.Words.{GivenFits}
use Rattle.undrwyth_words.proofs.given_words.Goals as goal

pub found_words-requires : goal.found_words-requires
found_words-requires c = subst GivenFits c.in-Ok.is c.requires

pub returns-in-Ok : goal.returns-in-Ok
returns-in-Ok c = c.found_words.ensures ∙ sym (ap given_words c.in-Ok.is)

pub refused-requires : goal.refused-requires
refused-requires c = (omega arith, (search rules, subst GivenFits c.in-Err.is c.requires))

pub returns-in-Err : goal.returns-in-Err
returns-in-Err c = c.refused.ensures ∙ sym (ap given_words c.in-Err.is)
