-- `pair_call::conclude` meets its contract.
use native.Mathlib.Omega.{arith}
use Rattle.walk_step.proofs.ChainLaws.{keeps_zeros}
use Rattle.pair_call.proofs.conclude.Goals as goal

pub zero_from-requires : goal.zero_from-requires
zero_from-requires c = let k = c.requires.over in omega (arith, k.steps, k.own.space)

pub returns : goal.returns
returns c =
    let a = c.args in
    let z = c.zero_from in
    λ ds k. (c.party_facts-f.ensures ds k, keeps_zeros a.start a.chain.now ds k.own a.p.steps k.steps z.new.s z.ensures)
