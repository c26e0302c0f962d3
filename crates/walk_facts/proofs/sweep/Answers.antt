-- `walk_facts::sweep` meets its contract.
use mathlib.Core.Path.{ap, ◌∙◌}
use borrow.Author.Rules.{rules}
use lib.IntN.{ℤ, ◌+ℤ◌}
use lib.ListN.{get_or}
use mir.Syntax.{w32}
use mir.Val.{to_z, of_z}
use Rattle.trace.specs.Verdict.{sweep_from}
use Rattle.walk_corner.proofs.SignedLaws.{back}
use Rattle.walk_facts.specs.Settled.{gain}
use Rattle.walk_facts.proofs.FactLaws.{sweep_again}
use Rattle.walk_facts.proofs.sweep.Goals as goal

pub loop-d-preserved : goal.loop-d-preserved
loop-d-preserved c =
    let l = c.loop-d in
    let g = c.gained-sum in
    let ds = c.args.steps.now in
    let e = back g.result g.type_inv ∙ g.ensures ∙ ap (λ (x : ℤ). (to_z w32 l.sum-bits) +ℤ gain (get_or ds l.d-index 0) x)
    (back l.at.0 (search rules)) in
    sweep_again ds l.d-index l.at c.moved-at.result (to_z w32 l.sum-bits) (to_z w32 (of_z w32 g.result))
    (sweep_from c.args.start ds) c.requires.1 c.loop-d-test.true l.invariant.0 l.invariant.1 l.invariant.2
    l.invariant.3 c.moved-at.ensures e
