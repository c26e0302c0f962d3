-- `turns::Heading::digit` meets its contract.
use Rattle.std.proofs.Common.{◌≡◌, ◌+◌, ◌-◌, ◌%◌, ◌^◌, sym, ap, ◌∙◌, arith}
use Rattle.steps.specs.Turns.{turn_of, step_after}
use Rattle.turns.specs.declared.Way.{Way}
use Rattle.turns.specs.Way.{digit_by}
use Rattle.turns.proofs.Heading.digit.Goals as goal

pub returns-in-ToTurns : goal.returns-in-ToTurns
returns-in-ToTurns c =
    let a = c.args in
    let e : (a.x + (2 ^ 8 - a.self.0)) % 2 ^ 8 % 4 ≡ turn_of a.self.0 a.x = omega arith in
    (e ∙ sym (ap (λ (w : Way). digit_by w a.self.0 a.x) c.in-ToTurns.is), omega arith)

pub returns-in-ToSteps : goal.returns-in-ToSteps
returns-in-ToSteps c =
    let a = c.args in
    let e : (a.self.0 + a.x) % 2 ^ 8 % 4 ≡ step_after a.self.0 a.x = omega arith in
    (e ∙ sym (ap (λ (w : Way). digit_by w a.self.0 a.x) c.in-ToSteps.is), omega arith)
