-- `sheet_cells::spell_cells` meets its contract.
use native.Mathlib.Omega.{arith}
use lib.ListN.{length-set}
use mir.Val.{to_z, of_z}
use mir.Syntax.{w32}
use mir.ValLaws.{to_z-of_z}
use Rattle.sheet.specs.Sizes.{most_decimals}
use Rattle.sheet.proofs.SizeLaws.{length-signed_of}
use Rattle.sheet_cells.proofs.CellLaws.{length_two, four_pairs, wrote_cells}
use Rattle.sheet_cells.proofs.spell_cells.Goals as goal

pub spell_two-b-requires : goal.spell_two-b-requires
spell_two-b-requires c =
    let a = c.args in
    omega (arith, c.requires, length_two a.number a.place)

pub spell_two-c-requires : goal.spell_two-c-requires
spell_two-c-requires c =
    let a = c.args in
    omega (arith, c.requires, length_two a.number a.place, length_two c.verdict_number.result a.f.steps)

pub spell_two-d-requires : goal.spell_two-d-requires
spell_two-d-requires c =
    let a = c.args in
    omega (arith, c.requires, length_two a.number a.place, length_two c.verdict_number.result a.f.steps, length_two a.f.nodes a.f.corners)

pub spell_signed-e-requires : goal.spell_signed-e-requires
spell_signed-e-requires c =
    let b = c.spell_two-a in
    let d = c.spell_two-b in
    let e = c.spell_two-c in
    let g = c.spell_two-d in
    let a = c.args in
    let pairs = four_pairs a.number a.place c.verdict_number.result a.at a.f b.ensures
    d.ensures e.ensures g.ensures in
    omega (arith, c.requires, pairs, g.auto.out, e.auto.out, d.auto.out, b.auto.out)

pub bounds-out-e : goal.bounds-out-e
bounds-out-e c =
    let b = c.spell_two-a in
    let d = c.spell_two-b in
    let e = c.spell_two-c in
    let g = c.spell_two-d in
    let a = c.args in
    let pairs = four_pairs a.number a.place c.verdict_number.result a.at a.f b.ensures
    d.ensures e.ensures g.ensures in
    omega (arith, c.requires, pairs, length-signed_of most_decimals (to_z w32 (of_z w32 a.f.area)), c.spell_signed-e.ensures.end, c.spell_signed-e.auto.out, g.auto.out, e.auto.out, d.auto.out, b.auto.out)

pub overflow_add-result : goal.overflow_add-result
overflow_add-result c =
    let b = c.spell_two-a in
    let d = c.spell_two-b in
    let e = c.spell_two-c in
    let g = c.spell_two-d in
    let a = c.args in
    let pairs = four_pairs a.number a.place c.verdict_number.result a.at a.f b.ensures
    d.ensures e.ensures g.ensures in
    record { fits = omega (arith, c.ranges, c.requires, pairs, length-signed_of most_decimals (to_z w32 (of_z w32 a.f.area)), c.spell_signed-e.ensures.end, c.spell_signed-e.auto.out, g.auto.out, e.auto.out, d.auto.out, b.auto.out) }

pub shape_of-out : goal.shape_of-out
shape_of-out c =
    let s = c.spell_signed-e in
    omega (arith, s.auto.out, c.spell_two-d.auto.out, c.spell_two-c.auto.out, c.spell_two-b.auto.out, c.spell_two-a.auto.out, length-set s.new.out s.result 44)

pub returns : goal.returns
returns c =
    let v = c.verdict_number in
    let a = c.args in
    let z = a.f.area in
    wrote_cells a.number a.place v.result a.at a.f (to_z w32 (of_z w32 z)) c.requires v.ensures
    (to_z-of_z w32 z (record { sfits = c.struct_told-1.given.1.1.1.1.1.1.0.1 }))
    c.spell_two-a.ensures c.spell_two-b.ensures c.spell_two-c.ensures
    c.spell_two-d.ensures c.spell_signed-e.ensures
