-- `convex_part::plain` meets its contract.
use native.Mathlib.Omega.{arith}
use mathlib.Core.Path.{◌∙◌}
use Rattle.convex_part.proofs.PassLaws.{letters_here, letters_next, letters_none}
use Rattle.convex_part.proofs.plain.Goals as goal

pub letter-requires : goal.letter-requires
letter-requires c = (c.requires.0.digits c.loop-d.d-index, c.requires.1)

pub returns-then-letter-gt1 : goal.returns-then-letter-gt1
returns-then-letter-gt1 c =
    let l = c.loop-d in
    let a = c.args in
    letters_here a.part.now a.turn l.d-index c.letter.result (omega arith) c.letter.ensures
    (omega arith) ∙ l.invariant

pub loop-d-preserved : goal.loop-d-preserved
loop-d-preserved c =
    let l = c.loop-d in
    let a = c.args in
    letters_next a.part.now a.turn l.d-index c.letter.result (omega arith) c.letter.ensures
    (omega arith) ∙ l.invariant

pub returns : goal.returns
returns c =
    let l = c.loop-d in
    let a = c.args in
    letters_none a.part.now a.turn l.d-index (omega arith) ∙ l.invariant
