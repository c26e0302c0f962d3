-- `walk_step::tallied` meets its contract.
use mathlib.Core.Path.{refl, ◌∙◌}
use Prim.Native.Nat.{◌+◌, ◌-◌}
use native.Mathlib.Omega.{arith}
use Rattle.walk_step.specs.declared.Tally.{Tally}
use Rattle.walk_step.proofs.TallyLaws.{tally_bound, steps_here, tally_seen, tally-found, tally-first, tally_new, tally-same, tally_meets}
use Rattle.walk_step.proofs.tallied.Goals as goal

pub word-requires : goal.word-requires
word-requires c =
    let a = c.args in
    let k = c.requires.stepped in
    let T = a.t.now in
    let b = tally_bound T k.start k.chain a.d a.w k.walked in
    omega (arith, b)

pub returns-then-word-eq1 : goal.returns-then-word-eq1
returns-then-word-eq1 c =
    let a = c.args in
    let k = c.requires.stepped in
    let T = a.t.now in
    let b = tally_bound T k.start k.chain a.d a.w k.walked in
    let v = c.word in
    let r : Tally = record { corners = a.m.corners + 1; j = a.m.j; k = a.m.k } in
    λ x ds h n. tally_new x ds a.d a.m n v.result (v.ensures ∙ tally_seen T x ds a.d a.w h)
    c.if-word-eq1.true r refl refl refl

pub word-first-requires : goal.word-first-requires
word-first-requires c =
    let a = c.args in
    let k = c.requires.stepped in
    let T = a.t.now in
    let b = tally_bound T k.start k.chain a.d a.w k.walked in
    omega (arith, b)

pub overflow_sub-result : goal.overflow_sub-result
overflow_sub-result c =
    let a = c.args in
    let k = c.requires.stepped in
    let T = a.t.now in
    let b = tally_bound T k.start k.chain a.d a.w k.walked in
    omega (arith, tally-first T k.start k.chain a.d a.w k.walked c.word-first.result c.word-first.ensures)

pub returns-then-k-eq-NO_MEETING : goal.returns-then-k-eq-NO_MEETING
returns-then-k-eq-NO_MEETING c =
    let a = c.args in
    let k = c.requires.stepped in
    let T = a.t.now in
    let b = tally_bound T k.start k.chain a.d a.w k.walked in
    let v = c.word in
    let f = c.word-first in
    let r : Tally = record { corners = a.m.corners; j = f.result - 1; k = a.w.steps } in
    λ x ds h n. tally_meets x ds a.d a.m n v.result (v.ensures ∙ tally_seen T x ds a.d a.w h) c.if-word-eq1.false
    c.if-k-eq-NO_MEETING.true a.w.steps (steps_here T x ds a.d a.w h) c.requires.steps_lt_no_meeting.0 f.result
    (f.ensures ∙ tally-found T x ds a.d a.w h) r refl refl refl

pub returns : goal.returns
returns c =
    let a = c.args in
    let k = c.requires.stepped in
    let T = a.t.now in
    let b = tally_bound T k.start k.chain a.d a.w k.walked in
    let v = c.word in
    λ x ds h n. tally-same x ds a.d a.m n v.result (v.ensures ∙ tally_seen T x ds a.d a.w h)
    c.if-word-eq1.false c.if-k-eq-NO_MEETING.false
