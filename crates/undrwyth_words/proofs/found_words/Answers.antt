-- `undrwyth_words::found_words` meets its contract.
use mathlib.Core.Path.{ap, ◌∙◌}
use Rattle.answer.specs.Words.{bits_of}
use Rattle.walk_corner.proofs.SignedLaws.{back}
use Rattle.undrwyth_words.proofs.WordLaws.{found-words}
use Rattle.undrwyth_words.proofs.found_words.Goals as goal

pub returns : goal.returns
returns c =
    let f = c.args.f in
    found-words f c.bits-x.result c.bits-y.result
    (c.bits-x.ensures ∙ ap bits_of (back f.start.0 c.struct_told-1.given.0.1))
    (c.bits-y.ensures ∙ ap bits_of (back f.start.1 c.struct_told-2-1.given.1.0.1))
