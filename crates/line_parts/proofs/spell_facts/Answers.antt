-- `line_parts::spell_facts` meets its contract.
use native.Mathlib.Omega.{arith}
use mir.Val.{to_z, of_z}
use mir.Syntax.{w32}
use mir.ValLaws.{to_z-of_z}
use Rattle.line_parts.proofs.WroteLaws.{length_two, wrote_facts}
use Rattle.line_parts.proofs.spell_facts.Goals as goal

pub spell_two-b-requires : goal.spell_two-b-requires
spell_two-b-requires c =
    let f = c.args.f in
    omega (arith, length_two 2 c.verdict_number.result 4 f.steps)

pub spell_two-c-requires : goal.spell_two-c-requires
spell_two-c-requires c =
    let f = c.args.f in
    omega (arith, length_two 2 c.verdict_number.result 4 f.steps, length_two 8 f.nodes 4 f.corners)

pub spell_signed-requires : goal.spell_signed-requires
spell_signed-requires c =
    let f = c.args.f in
    omega (arith, length_two 2 c.verdict_number.result 4 f.steps, length_two 8 f.nodes 4 f.corners, length_two 4 f.j 4 f.k)

pub returns : goal.returns
returns c =
    let a = c.args in
    let z = a.f.area in
    wrote_facts a.f c.verdict_number.result a.at (to_z w32 (of_z w32 z))
    c.verdict_number.ensures
    (to_z-of_z w32 z (record { sfits = c.struct_told-1.given.1.1.1.1.1.1.0.1 }))
    c.spell_two-a.ensures c.spell_two-b.ensures c.spell_two-c.ensures
    c.spell_signed.ensures (omega arith)
