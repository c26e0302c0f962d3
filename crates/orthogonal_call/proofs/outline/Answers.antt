-- `orthogonal_call::outline` meets its contract.
use mathlib.Core.Path.{sym, ◌∙◌}
use Rattle.orthogonal_call.proofs.outline.Goals as goal

pub invariant_of-site : goal.invariant_of-site
invariant_of-site c = record { judged = sym c.judge.ensures ∙ c.in_ok-judge.was }
