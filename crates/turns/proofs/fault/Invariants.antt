-- What the loops of `turns::fault` keep, and how they end.
use Rattle.std.proofs.Common.{◌≡◌, drop}
use Rattle.steps.specs.Turns.{digits_judged}
use Rattle.turns.proofs.fault.Given as goal

abbrev pub invariant-loop-i : goal.invariant-loop-i
invariant-loop-i l = digits_judged l.i (drop l.i l.digits) ≡ digits_judged 0 l.digits
