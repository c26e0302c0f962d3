-- `polygon_call::count` meets its contract.
use mathlib.Core.Path.{ap, ◌∙◌}
use native.Mathlib.Omega.{arith}
use Rattle.lists.specs.Lists.{tally}
use Rattle.lists.proofs.BelowLaws.{below_get_d}
use Rattle.lists.proofs.BoolLaws.{tally_le}
use Rattle.polygon_laws.proofs.BendLaws.{count-first, count-more, count-last}
use Rattle.polygon_call.proofs.count.Goals as goal

pub loop-d-init : goal.loop-d-init
loop-d-init c = count-first c.args.chain.now c.first-last.result c.requires.0 c.first-last.ensures

pub bent-requires : goal.bent-requires
bent-requires c = (c.loop-d.invariant.small, below_get_d 4 c.args.chain.now c.loop-d.d-index c.requires.0 c.loop-d-test.true)

pub overflow_add-k : goal.overflow_add-k
overflow_add-k c =
    let p = c.loop-d.invariant in
    record { fits = omega (arith, p.few, p.within, c.requires.1, c.from-k.ensures, tally_le c.bent.result) }

pub loop-d-preserved : goal.loop-d-preserved
loop-d-preserved c =
    let at = c.loop-d in
    count-more c.args.chain.now at.last at.k c.from-k.result at.d-index c.requires.0
    c.loop-d-test.true (c.from-k.ensures ∙ ap tally c.bent.ensures) at.invariant

pub returns : goal.returns
returns c = c.from.ensures ∙ count-last _ _ _ _ (omega arith) c.loop-d.invariant
