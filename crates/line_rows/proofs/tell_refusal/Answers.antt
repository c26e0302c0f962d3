-- `line_rows::tell_refusal` meets its contract.
use native.Mathlib.Omega.{arith}
use Rattle.line_frame.proofs.SpelledLaws.{length-refused_line}
use Rattle.line_fields.proofs.PutLaws.{wrote_append}
use Rattle.line_rows.proofs.tell_refusal.Goals as goal

pub feed-requires : goal.feed-requires
feed-requires c =
    let w = c.spell_refusal-end in
    omega (arith, w.ensures.end, w.auto.out, length-refused_line c.args.r, c.requires)

pub returns : goal.returns
returns c =
    wrote_append c.spell_refusal-end.ensures c.feed.ensures
    (omega (arith, length-refused_line c.args.r, c.requires))
