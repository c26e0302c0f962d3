-- `undrwyth_words::facts_words` meets its contract.
use mathlib.Core.Path.{ap, ◌∙◌}
use native.Mathlib.Omega.{arith}
use Rattle.answer.specs.Words.{bits_of}
use Rattle.walk_corner.proofs.SignedLaws.{back}
use Rattle.undrwyth_words.proofs.WordLaws.{verdict_small, accepted_words}
use Rattle.undrwyth_words.proofs.facts_words.Goals as goal

pub overflow_cast-verdict : goal.overflow_cast-verdict
overflow_cast-verdict c = omega (arith, verdict_small c.args.f.verdict c.verdict_number-verdict.result c.verdict_number-verdict.ensures)

pub overflow_cast-result-5 : goal.overflow_cast-result-5
overflow_cast-result-5 c = omega (arith, c.requires.4)

pub returns : goal.returns
returns c =
    let v = c.verdict_number-verdict in
    let b = c.bits-area in
    let a = c.bits-x in
    let d = c.bits-y in
    let f = c.args.f in
    accepted_words f v.result b.result a.result d.result v.ensures
    (b.ensures ∙ ap bits_of (back f.area c.struct_told-1.given.1.1.1.1.1.1.0.1))
    (a.ensures ∙ ap bits_of (back f.last.0 c.struct_told-2-1.given.0.1))
    (d.ensures ∙ ap bits_of (back f.last.1 c.struct_told-3-1.given.1.0.1))
