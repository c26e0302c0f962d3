-- `hull_chains::pass` meets its contract.
use native.Mathlib.Omega.{arith}
use mathlib.Core.Path.{◌≡◌, refl, sym, ◌∙◌}
use Rattle.hull_laws.proofs.IdleLaws.{turn_none, turn_here, turn_next}
use Rattle.hull_chains.proofs.pass.Goals as goal

pub loop-j-init : goal.loop-j-init
loop-j-init c = (omega arith, refl)

pub returns-then-turns : goal.returns-then-turns
returns-then-turns c =
    let l = c.loop-j in
    turn_here c.args.ys.now l.j (omega arith) (sym c.turns.ensures ∙ c.if-turns.true)
    ∙ l.invariant.1

pub loop-j-preserved : goal.loop-j-preserved
loop-j-preserved c =
    let l = c.loop-j in
    (omega arith, turn_next c.args.ys.now l.j (omega arith) (sym c.turns.ensures ∙ c.if-turns.false) ∙ l.invariant.1)

pub returns : goal.returns
returns c =
    let l = c.loop-j in
    let done : 0 ≡ l.j = omega arith in
    done ∙ turn_none c.args.ys.now l.j (omega arith) ∙ l.invariant.1
