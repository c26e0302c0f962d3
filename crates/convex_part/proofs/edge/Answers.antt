-- `convex_part::edge` meets its contract.
use native.Mathlib.Omega.{arith}
use mathlib.Core.Path.{refl, sym, ◌∙◌}
use Rattle.convex_part.proofs.PassLaws.{levels_here, levels-next, levels-none}
use Rattle.convex_part.proofs.edge.Goals as goal

pub loop-c-init : goal.loop-c-init
loop-c-init c = (omega arith, omega arith, refl)

pub stands-requires : goal.stands-requires
stands-requires c = let l = c.loop-c in (omega arith, omega (arith, l.invariant.0), omega arith, omega arith, omega arith)

pub returns-then-not-stands : goal.returns-then-not-stands
returns-then-not-stands c =
    let l = c.loop-c in
    let a = c.args in
    sym (levels_here a.ys.now a.p a.b l.c (omega arith)
    (sym c.stands.ensures ∙ c.if-not-stands.true)) ∙ l.invariant.2

pub loop-c-preserved : goal.loop-c-preserved
loop-c-preserved c =
    let l = c.loop-c in
    let a = c.args in
    (omega (arith, l.invariant.0), omega arith, levels-next a.ys.now a.p a.b l.c (omega arith) (sym c.stands.ensures ∙ c.if-not-stands.false) ∙ l.invariant.2)

pub returns : goal.returns
returns c =
    let l = c.loop-c in
    let a = c.args in
    levels-none a.ys.now a.p a.b l.c (omega arith) ∙ l.invariant.2
