-- `convex_part::judge` meets its contract.
use native.Mathlib.Omega.{arith}
use mathlib.Core.Path.{sym, ◌∙◌}
use lib.ListN.{length, take}
use lib.Seq.{length-take-le}
use Rattle.convex.specs.Parts.{turned_by}
use Rattle.convex_part.proofs.PassLaws.{length-turned, judge_letters, judge_columns}
use Rattle.convex_part.proofs.judge.Goals as goal

pub returns-then-not-plain : goal.returns-then-not-plain
returns-then-not-plain c =
    let a = c.args in
    judge_letters (turned_by a.turn a.part.now)
    (sym c.plain.ensures ∙ c.if-not-plain.true)

pub slice_bounds-columns-end : goal.slice_bounds-columns-end
slice_bounds-columns-end c = let d = c.dig-n in omega (arith, d.ensures.1, d.auto.ys, c.requires.2.depths)

pub slice_bounds-columns-end-2 : goal.slice_bounds-columns-end-2
slice_bounds-columns-end-2 c =
    let d = c.dig-n in
    sym (length-take-le d.result d.new.ys (omega (arith, d.ensures.1, d.auto.ys, c.requires.2.depths)))

pub columns-requires : goal.columns-requires
columns-requires c =
    let d = c.dig-n in
    let p = c.requires.2 in
    let l = length-take-le d.result d.new.ys (omega (arith, d.ensures.1, d.auto.ys, p.depths)) in
    (omega (arith, l, d.ensures.1, p.stack), omega (arith, l, d.ensures.1, p.depths, p.narrow))

pub returns : goal.returns
returns c =
    let d = c.dig-n in
    let p = c.plain in
    let i = c.if-not-plain in
    let a = c.args in
    let e = c.columns.ensures in
    e ∙ judge_columns (turned_by a.turn a.part.now) (take d.result d.new.ys) (length a.part.now)
    (sym p.ensures ∙ i.false) (sym (length-turned a.turn a.part.now)) d.ensures.0
