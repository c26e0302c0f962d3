-- `overlay_parts::put_parts` meets its contract.
use native.Mathlib.Omega.{arith}
use Rattle.overlay.specs.declared.Part.TheVariants.{First, Second, Both}
use Rattle.overlay_sweep.specs.Parts.{ends_in, part_spans}
use Rattle.overlay_parts.proofs.PartLaws.{part_most, parts_spans, parts_short, parts_room, spans_few}
use Rattle.overlay_parts.proofs.put_parts.Goals as goal

pub put_all-requires : goal.put_all-requires
put_all-requires c =
    let a = c.args in
    let e = c.enough.ensures c.if-enough.true in
    let m = part_most a.a.now (ends_in a.a.now) a.b.now (ends_in a.b.now) in
    (c.requires.0, c.requires.1, parts_room (part_spans a.a.now (ends_in a.a.now) a.b.now (ends_in a.b.now)) a.first.now a.second.now a.both.now (omega (arith, m First, e.0)) (omega (arith, m Second, e.1)) (omega (arith, m Both, e.2)))

pub overflow_mul-f : goal.overflow_mul-f
overflow_mul-f c = record { fits = omega (arith, spans_few c.requires.0 c.requires.1 c.measure-m.result c.measure-m.ensures First) }

pub returns-then-first-f : goal.returns-then-first-f
returns-then-first-f c = parts_short _ c.args.first.now c.args.second.now c.args.both.now c.measure-m.result c.measure-m.ensures First c.if-first-f.true

pub overflow_mul-g : goal.overflow_mul-g
overflow_mul-g c = record { fits = omega (arith, spans_few c.requires.0 c.requires.1 c.measure-m.result c.measure-m.ensures Second) }

pub returns-then-second-g : goal.returns-then-second-g
returns-then-second-g c = parts_short _ c.args.first.now c.args.second.now c.args.both.now c.measure-m.result c.measure-m.ensures Second c.if-second-g.true

pub overflow_mul-h : goal.overflow_mul-h
overflow_mul-h c = record { fits = omega (arith, spans_few c.requires.0 c.requires.1 c.measure-m.result c.measure-m.ensures Both) }

pub returns-then-both-h : goal.returns-then-both-h
returns-then-both-h c = parts_short _ c.args.first.now c.args.second.now c.args.both.now c.measure-m.result c.measure-m.ensures Both c.if-both-h.true

pub put_all-requires-2 : goal.put_all-requires-2
put_all-requires-2 c =
    let a = c.args in
    let m = c.measure-m in
    let s = parts_spans (part_spans a.a.now (ends_in a.a.now) a.b.now (ends_in a.b.now)) m.result m.ensures in
    (c.requires.0, c.requires.1, parts_room (part_spans a.a.now (ends_in a.a.now) a.b.now (ends_in a.b.now)) a.first.now a.second.now a.both.now (omega (arith, s First, c.if-first-f.false)) (omega (arith, s Second, c.if-second-g.false)) (omega (arith, s Both, c.if-both-h.false)))
