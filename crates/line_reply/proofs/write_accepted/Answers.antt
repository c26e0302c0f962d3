-- `line_reply::write_accepted` meets its contract.
use native.Mathlib.Omega.{arith}
use Rattle.line_frame.proofs.HexLaws.{length-hex_of}
use Rattle.grid.specs.Grid.{origin}
use Rattle.hull_laws.specs.Chain.{hull_of}
use Rattle.line_frame.specs.Spelled.{facts_line}
use Rattle.hull_laws.proofs.HullLaws.{length-hull_of}
use Rattle.line_frame.proofs.SpelledLaws.{length-facts_line}
use Rattle.line_reply.proofs.ListedLaws.{wrote_accepted}
use Rattle.line_reply.proofs.write_accepted.Goals as goal

pub spell-b-requires : goal.spell-b-requires
spell-b-requires c =
    let w = c.spell_facts-a in
    omega (arith, length-facts_line c.args.f, w.ensures.end, w.auto.out)

pub overflow_mul-n : goal.overflow_mul-n
overflow_mul-n c =
    record { fits = omega (arith, c.list_hull-n.ensures.count, length-hull_of origin c.args.steps.now, c.requires.below) }

pub spell_numbers-requires : goal.spell_numbers-requires
spell_numbers-requires c =
    let h = c.list_hull-n in
    let w = c.spell_facts-a in
    let v = c.spell-b in
    let l = length-hull_of origin c.args.steps.now in
    let a = length-facts_line c.args.f in
    let b = length-hex_of 4 h.result in
    (omega (arith, h.auto.hull, h.ensures.count, c.requires.below, c.requires.hull_len), omega (arith, h.ensures.count, c.requires.below, w.ensures.end, w.auto.out, v.ensures.end, v.auto.out, c.requires.most_answer_in_bounds))

pub returns : goal.returns
returns c =
    let f = c.args.f in
    let h = c.list_hull-n in
    let cs = hull_of origin c.args.steps.now in
    wrote_accepted (facts_line f) cs c.args.at h.result h.new.hull h.ensures
    (omega (arith, length-hull_of origin c.args.steps.now, c.requires.below)) (length-facts_line f)
    c.requires.most_answer_in_bounds
    c.spell_facts-a.ensures c.spell-b.ensures c.spell_numbers.ensures
