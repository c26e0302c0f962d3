-- `pair_move::tallied` meets its contract.
use mathlib.Core.Path.{refl}
use Prim.Native.Nat.{◌+◌, ◌-◌}
use Rattle.walk_step.specs.declared.Tally.{Tally}
use Rattle.walk_step.proofs.TallyLaws.{tally_new, tally-same, tally_meets}
use Rattle.pair_move.proofs.tallied.Goals as goal

pub returns-then-visits-eq1 : goal.returns-then-visits-eq1
returns-then-visits-eq1 c =
    let a = c.args in
    let r : Tally = record { corners = a.m.corners + 1; j = a.m.j; k = a.m.k } in
    λ x ds d k h. tally_new x ds d a.m h a.visits k.seen c.if-visits-eq1.true r refl refl refl

pub returns-then-m-eq-NO_MEETING : goal.returns-then-m-eq-NO_MEETING
returns-then-m-eq-NO_MEETING c =
    let a = c.args in
    let r : Tally = record { corners = a.m.corners; j = a.first - 1; k = a.n } in
    λ x ds d k h. tally_meets x ds d a.m h a.visits k.seen c.if-visits-eq1.false c.if-m-eq-NO_MEETING.true a.n k.number
    c.requires.2 a.first k.found r refl refl refl

pub returns : goal.returns
returns c =
    let a = c.args in
    λ x ds d k h. tally-same x ds d a.m h a.visits k.seen c.if-visits-eq1.false c.if-m-eq-NO_MEETING.false
