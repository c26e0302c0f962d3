-- `walk_step::untallied` meets its contract.
use mathlib.Core.Path.{refl, ◌∙◌}
use Prim.Native.Nat.{◌-◌}
use native.Mathlib.Omega.{arith}
use Rattle.answer.specs.Limits.{no_meeting}
use Rattle.walk_step.specs.declared.Tally.{Tally}
use Rattle.walk_step.proofs.TallyLaws.{tally_bound, steps_here, tally_seen, untally_new, untally_same, untally_meets}
use Rattle.walk_step.proofs.untallied.Goals as goal

pub word-requires : goal.word-requires
word-requires c =
    let a = c.args in
    let k = c.requires.stepped in
    let T = a.t.now in
    omega (arith, tally_bound T k.start k.chain a.d a.w k.walked)

pub returns-then-word-eq1 : goal.returns-then-word-eq1
returns-then-word-eq1 c =
    let a = c.args in
    let k = c.requires.stepped in
    let T = a.t.now in
    let v = c.word in
    let r : Tally = record { corners = a.m.corners - 1; j = a.m.j; k = a.m.k } in
    λ x ds h n. untally_new x ds a.d a.m n v.result (v.ensures ∙ tally_seen T x ds a.d a.w h)
    c.if-word-eq1.true r refl refl refl

pub returns-then-k-n : goal.returns-then-k-n
returns-then-k-n c =
    let a = c.args in
    let k = c.requires.stepped in
    let T = a.t.now in
    let v = c.word in
    let r : Tally = record { corners = a.m.corners; j = no_meeting; k = no_meeting } in
    λ x ds h n. untally_meets x ds a.d a.m n v.result (v.ensures ∙ tally_seen T x ds a.d a.w h)
    c.if-word-eq1.false a.w.steps (steps_here T x ds a.d a.w h) c.if-k-n.true c.requires.steps_lt_no_meeting.0 r refl refl
    refl

pub returns : goal.returns
returns c =
    let a = c.args in
    let k = c.requires.stepped in
    let T = a.t.now in
    let v = c.word in
    λ x ds h n. untally_same x ds a.d a.m n v.result (v.ensures ∙ tally_seen T x ds a.d a.w h)
    c.if-word-eq1.false a.w.steps (steps_here T x ds a.d a.w h) c.if-k-n.false
