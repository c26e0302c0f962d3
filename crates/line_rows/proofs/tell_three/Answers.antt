-- `line_rows::tell_three` meets its contract.
use native.Mathlib.Omega.{arith}
use lib.ListN.{take}
use lib.Seq.{length-take-le}
use Rattle.line_frame.proofs.SpelledLaws.{length-numbers_line}
use Rattle.line_fields.proofs.PutLaws.{wrote_append}
use Rattle.line_rows.proofs.tell_three.Goals as goal

pub feed-requires : goal.feed-requires
feed-requires c =
    let w = c.spell_numbers-end in
    omega (arith, w.ensures.end, w.auto.out, length-numbers_line (take 3 c.args.xs.now), length-take-le 3 c.args.xs.now c.requires.0, c.requires.1)

pub returns : goal.returns
returns c =
    wrote_append c.spell_numbers-end.ensures c.feed.ensures
    (omega (arith, length-numbers_line (take 3 c.args.xs.now), length-take-le 3 c.args.xs.now c.requires.0, c.requires.1))
