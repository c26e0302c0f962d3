-- `undrwyth_words::enclosed_words` meets its contract.
use mathlib.Core.Path.{ap, ◌∙◌}
use Rattle.answer.specs.Words.{bits_of}
use Rattle.walk_corner.proofs.SignedLaws.{back}
use Rattle.undrwyth_words.proofs.WordLaws.{enclosed_words}
use Rattle.undrwyth_words.proofs.enclosed_words.Goals as goal

pub returns : goal.returns
returns c =
    let h = c.args.h in
    enclosed_words h c.bits-x.result c.bits-y.result
    (c.bits-x.ensures ∙ ap bits_of (back h.start.0 c.struct_told-1.given.0.1))
    (c.bits-y.ensures ∙ ap bits_of (back h.start.1 c.struct_told-2-1.given.1.0.1))
