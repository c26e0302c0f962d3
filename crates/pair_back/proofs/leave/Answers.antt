-- `pair_back::leave` meets its contract.
use mathlib.Core.Path.{refl, ◌∙◌}
use native.Mathlib.Omega.{arith}
use Rattle.pair_back.proofs.leave.Goals as goal

pub returns-then-others-eq0 : goal.returns-then-others-eq0
returns-then-others-eq0 c =
    record { alone = λ p. c.free.ensures; shared = λ p. absurd (omega (arith, c.others.ensures, c.if-others-eq0.true)) }

pub returns : goal.returns
returns c =
    record { alone = λ p. absurd (c.if-others-eq0.false (c.others.ensures ∙ p)); shared = λ p. (c.put_own.ensures, refl) }
