-- `pair_call::facts` meets its contract.
use mathlib.Core.Path.{ap₂}
use Rattle.answer.specs.declared.PartyFacts.{PartyFacts}
use Rattle.pair_call.proofs.facts.Goals as goal

pub returns : goal.returns
returns c =
    let a = c.args in
    let x = c.conclude in
    let y = c.conclude-2 in
    λ ds es k l.
    let f = x.ensures ds k in
    let g = y.ensures es l in
    (ap₂ (λ (u v : PartyFacts). record { nodes = a.w.stock.nodes; first = u; second = v }) f.0 g.0, f.1, g.1)
