-- `undrwyth_words::overlaid_words` meets its contract.
use mathlib.Core.Path.{ap, sym, subst, ◌∙◌}
use native.Mathlib.Omega.{arith}
use borrow.Author.Rules.{rules}
use Rattle.overlay.specs.Call.{overlaid_words}
use Rattle.undrwyth_words.specs.Words.{OverlaidFits}
use Rattle.undrwyth_words.proofs.overlaid_words.Goals as goal

pub measures_words-requires : goal.measures_words-requires
measures_words-requires c = subst OverlaidFits c.in-Ok.is c.requires

pub returns-in-Ok : goal.returns-in-Ok
returns-in-Ok c = c.measures_words.ensures ∙ sym (ap overlaid_words c.in-Ok.is)

pub refused-requires : goal.refused-requires
refused-requires c = (omega arith, (search rules, subst OverlaidFits c.in-Err.is c.requires))

pub returns-in-Err : goal.returns-in-Err
returns-in-Err c = c.refused.ensures ∙ sym (ap overlaid_words c.in-Err.is)
