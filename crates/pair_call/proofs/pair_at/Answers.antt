-- `pair_call::pair_at` meets its contract.
use mathlib.Core.Path.{ap₂}
use Rattle.pair_move.specs.declared.Party.{Party}
use Rattle.pair_call.proofs.pair_at.Goals as goal

pub returns : goal.returns
returns c =
    let a = c.args in
    ap₂ (λ (f g : Party). record { first = f; second = g; stock = a.two.stock }) c.new.ensures c.new-2.ensures
