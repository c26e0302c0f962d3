-- `line_convert::spell_frame` meets its contract.
use native.Mathlib.Omega.{arith}
use lib.ListN.{length, length-append}
use Rattle.line_frame.specs.Hex.{hex_of}
use Rattle.line_frame.proofs.HexLaws.{length-hex_of}
use Rattle.line_frame.proofs.FrameLaws.{length-letters_of}
use Rattle.line_fields.proofs.PutLaws.{wrote_append}
use Rattle.line_convert.proofs.spell_frame.Goals as goal

pub spell-b-requires : goal.spell-b-requires
spell-b-requires c =
    let w = c.spell-a in
    omega (arith, length-hex_of 2 0, w.ensures.end, w.auto.out, c.requires.steps_in_bounds)

pub spell_steps-requires : goal.spell_steps-requires
spell_steps-requires c =
    let v = c.spell-b in
    let w = c.spell-a in
    record {
      below = c.requires.below;
      steps_in_bounds = omega (arith, length-hex_of 2 0, w.ensures.end, w.auto.out, simp length-hex_of at v.ensures.end, v.auto.out, c.requires.steps_in_bounds);
    }

pub returns : goal.returns
returns c =
    let n = length c.args.steps.now in
    let a = length-hex_of 2 0 in
    let b = length-hex_of 4 n in
    let p = wrote_append c.spell-a.ensures c.spell-b.ensures (omega (arith, a, b, c.requires.steps_in_bounds)) in
    wrote_append p c.spell_steps.ensures
    (omega (arith, a, b, length-append (hex_of 2 0) (hex_of 4 n), length-letters_of c.args.steps.now, c.requires.steps_in_bounds))
