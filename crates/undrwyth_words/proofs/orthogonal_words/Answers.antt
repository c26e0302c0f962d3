-- `undrwyth_words::orthogonal_words` meets its contract.
use mathlib.Core.Path.{ap, sym, subst, ◌∙◌}
use native.Mathlib.Omega.{arith}
use borrow.Author.Rules.{rules}
use Rattle.orthogonal.specs.Call.{orthogonal_words}
use Rattle.undrwyth_words.specs.Words.{OrthogonalFits}
use Rattle.undrwyth_words.proofs.orthogonal_words.Goals as goal

pub enclosed_words-requires : goal.enclosed_words-requires
enclosed_words-requires c = subst OrthogonalFits c.in-Ok.is c.requires

pub returns-in-Ok : goal.returns-in-Ok
returns-in-Ok c = c.enclosed_words.ensures ∙ sym (ap orthogonal_words c.in-Ok.is)

pub refused-requires : goal.refused-requires
refused-requires c = (omega arith, (search rules, subst OrthogonalFits c.in-Err.is c.requires))

pub returns-in-Err : goal.returns-in-Err
returns-in-Err c = c.refused.ensures ∙ sym (ap orthogonal_words c.in-Err.is)
