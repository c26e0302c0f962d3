-- `walk_step::advance` meets its contract.
use mathlib.Core.Path.{refl}
use Rattle.walk_step.specs.declared.Walk.{Walk}
use Rattle.walk_step.proofs.WalkLaws.{advance_stepped, advance_to, advance_full}
use Rattle.walk_step.proofs.advance.Goals as goal

pub tallied-counts-requires : goal.tallied-counts-requires
tallied-counts-requires c =
    let a = c.args in
    let g = c.go in
    let h = advance_stepped a.t.now g.new.t a.w a.d g.result c.in_ok-next.next g.ensures c.in_ok-next.was c.requires.knowing
    c.requires.at_bound.3 in
    record { stepped = h.0; steps_lt_no_meeting = (h.1, h.2) }

pub returns : goal.returns
returns c =
    let a = c.args in
    let g = c.go in
    let v : Walk = record { spot = c.in_ok-next.next; tally = c.tallied-counts.result } in
    advance_to a.t.now g.new.t a.w a.d g.result c.in_ok-next.next g.ensures c.in_ok-next.was c.tallied-counts.result
    c.tallied-counts.ensures v refl refl

pub returns-in_err-next : goal.returns-in_err-next
returns-in_err-next c =
    let a = c.args in
    let g = c.go in
    rw c.from_residual.ensures (advance_full a.t.now g.new.t a.w a.d g.result g.ensures c.in_err-next.was)
