-- `walk_run::perform` meets its contract.
use native.Mathlib.Omega.{arith}
use lib.ListN.{length}
use Rattle.steps.specs.Operations.{operate}
use Rattle.walk_run.proofs.ApplyLaws.{acted_bounds, performed_to, performed_full}
use Rattle.walk_run.proofs.perform.Goals as goal

pub mark-requires : goal.mark-requires
mark-requires c =
    let a = c.args in
    let k = c.requires.0 in
    let b = c.apply in
    let g = acted_bounds (length a.t.now) a.marks.now a.i k.start b.new.t b.new.chain k.steps
    (operate k.steps a.op) b.result c.in_ok-x.x c.in_ok-x.was (b.ensures k.start k.steps k.chained) in
    (g.0, omega (arith, c.requires.1), omega (arith, g.1, k.words), omega (arith, c.requires.2))

pub returns : goal.returns
returns c =
    let a = c.args in
    let b = c.apply in
    λ x ds h.
    performed_to (length a.t.now) a.marks.now a.i x b.new.t b.new.chain ds (operate ds a.op) b.result c.in_ok-x.x c.in_ok-x.was
    (b.ensures x ds h) c.mark.new.marks c.mark.ensures

pub returns-in_err-x : goal.returns-in_err-x
returns-in_err-x c =
    let a = c.args in
    let b = c.apply in
    rw c.from_residual.ensures (λ x ds h. performed_full (length a.t.now) a.marks.now a.i x b.new.t b.new.chain ds (operate ds a.op)
    b.result c.in_err-x.was (b.ensures x ds h) a.marks.now)
