-- `pair_move::untallied` meets its contract.
use mathlib.Core.Path.{refl}
use Prim.Native.Nat.{◌-◌}
use Rattle.answer.specs.Limits.{no_meeting}
use Rattle.walk_step.specs.declared.Tally.{Tally}
use Rattle.walk_step.proofs.TallyLaws.{untally_new, untally_same, untally_meets}
use Rattle.pair_move.proofs.untallied.Goals as goal

pub returns-then-visits-eq1 : goal.returns-then-visits-eq1
returns-then-visits-eq1 c =
    let a = c.args in
    let r : Tally = record { corners = a.m.corners - 1; j = a.m.j; k = a.m.k } in
    λ x ds d e i h. untally_new x ds d a.m h a.visits e c.if-visits-eq1.true r refl refl refl

pub returns-then-m-n : goal.returns-then-m-n
returns-then-m-n c =
    let a = c.args in
    let r : Tally = record { corners = a.m.corners; j = no_meeting; k = no_meeting } in
    λ x ds d e i h. untally_meets x ds d a.m h a.visits e c.if-visits-eq1.false a.n i c.if-m-n.true
    c.requires.1 r refl refl refl

pub returns : goal.returns
returns c =
    let a = c.args in
    λ x ds d e i h. untally_same x ds d a.m h a.visits e c.if-visits-eq1.false a.n i c.if-m-n.false
