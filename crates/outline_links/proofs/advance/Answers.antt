-- `outline_links::advance` meets its contract.
use mathlib.Core.Path.{◌∙◌}
use native.Mathlib.Omega.{arith}
use lib.ListN.{length-set}
use Rattle.grid.proofs.StepLaws.{back_small}
use Rattle.outline_roster.proofs.EnterLaws.{seated_small}
use Rattle.outline_links.proofs.AdvanceLaws.{along_link, joined_new}
use Rattle.outline_links.proofs.advance.Goals as goal

pub returns-then-l-ne0 : goal.returns-then-l-ne0
returns-then-l-ne0 c =
    let a = c.args in
    along_link a.keys.now a.kids.now a.links.now a.used a.node a.k a.d c.from-l.result
    (rw c.from.ensures at c.from-l.ensures) c.if-l-ne0.true

pub overflow_mul-to : goal.overflow_mul-to
overflow_mul-to c =
    let s = seated_small c.enter-s.ensures in
    omega (arith, s.0, s.1, c.requires.0.small)

pub overflow_add-to : goal.overflow_add-to
overflow_add-to c =
    let s = seated_small c.enter-s.ensures in
    omega (arith, s.0, s.1, c.requires.0.small, c.opposite.ensures, back_small c.args.d)

pub overflow_add-links : goal.overflow_add-links
overflow_add-links c =
    let s = seated_small c.enter-s.ensures in
    omega (arith, s.0, s.1, c.requires.0.small)

pub overflow_cast-links : goal.overflow_cast-links
overflow_cast-links c =
    let s = seated_small c.enter-s.ensures in
    omega (arith, s.0, s.1, c.requires.0.small)

pub offset_bounds-links-to : goal.offset_bounds-links-to
offset_bounds-links-to c =
    let s = seated_small c.enter-s.ensures in
    omega (arith, s.0, s.1, c.requires.0.small, c.opposite.ensures, back_small c.args.d)

pub bounds-links-to : goal.bounds-links-to
bounds-links-to c =
    let s = seated_small c.enter-s.ensures in
    simp length-set (omega (arith, s.0, s.1, c.requires.0.words, c.opposite.ensures, back_small c.args.d))

pub returns : goal.returns
returns c =
    let a = c.args in
    let w = c.from-l in
    rw c.from.ensures (joined_new a.keys.now a.kids.now a.links.now a.used a.node a.k a.d w.result (rw c.from.ensures at w.ensures)
    c.from-2.result c.if-l-ne0.false (c.from-2.ensures ∙ c.opposite.ensures) c.enter-s.ensures)
