-- `walk_step::withdraw` meets its contract.
use mathlib.Core.List.{[], ◌∷◌, ◌++◌}
use mathlib.Core.Path.{refl}
use Rattle.walk_step.specs.declared.Walk.{Walk}
use Rattle.walk_step.proofs.WalkLaws.{corners_some, withdraw_to}
use Rattle.walk_step.proofs.withdraw.Goals as goal

pub untallied-counts-requires : goal.untallied-counts-requires
untallied-counts-requires c =
    let a = c.args in
    let k = c.requires.withdrawable in
    record {
      stepped = record { start = k.start; chain = k.chain; walked = k.known.walked };
      steps_lt_no_meeting = (c.requires.at_bound.3, corners_some a.t.now k.start (k.chain ++ (a.d ∷ [])) a.w k.known);
    }

pub returns : goal.returns
returns c =
    let a = c.args in
    let u = c.untallied-counts in
    let b = c.take_back-there in
    let v : Walk = record { spot = b.result; tally = u.result } in
    withdraw_to a.t.now b.new.t a.w a.d b.result u.result u.ensures b.ensures v refl refl
