-- `undrwyth_words::turns_words` meets its contract.
use mathlib.Core.Path.{ap, sym, subst, ◌∙◌}
use Prim.Native.Nat.{◌<◌, ◌^◌}
use native.Mathlib.Omega.{arith}
use borrow.Author.Rules.{rules}
use Rattle.answer.specs.Answers.{Judged}
use Rattle.answer.specs.Refusal.{judged_place}
use Rattle.answer.specs.Words.{judged_words}
use Rattle.undrwyth_words.proofs.turns_words.Goals as goal

pub returns-in-Ok : goal.returns-in-Ok
returns-in-Ok c = sym (ap judged_words c.in-Ok.is)

pub refused-requires : goal.refused-requires
refused-requires c = (omega arith, (search rules, subst (λ (j : Judged). judged_place j < 2 ^ 32) c.in-Err.is c.requires))

pub returns-in-Err : goal.returns-in-Err
returns-in-Err c = c.refused.ensures ∙ sym (ap judged_words c.in-Err.is)
