-- `walk_back::unlink_up` meets its contract.
use mathlib.Core.Path.{ap, ◌∙◌}
use native.Mathlib.Omega.{arith}
use Rattle.walk_table.specs.Refs.{ref_by}
use Rattle.walk_back.proofs.RoundLaws.{unlinked_joined, unlinked_falls, unlinked_next}
use Rattle.walk_back.proofs.unlink_up.Goals as goal

pub unlink_level-next-requires : goal.unlink_level-next-requires
unlink_level-next-requires c =
    let l = c.loop-next in
    let a = c.args in
    let at = c.in-Some in
    unlinked_joined a.t.now a.u a.d a.step c.requires l.t (ref_by l.next) at.at (ap ref_by at.is) l.invariant.1

pub loop-next-smaller : goal.loop-next-smaller
loop-next-smaller c =
    let l = c.loop-next in
    let a = c.args in
    let at = c.in-Some in
    let n = c.unlink_level-next in
    omega (arith, unlinked_falls a.t.now a.u a.d a.step c.requires l.t (ref_by l.next) at.at (ap ref_by at.is) l.invariant.1 n.new.t (ref_by n.result) n.ensures)

pub loop-next-preserved : goal.loop-next-preserved
loop-next-preserved c =
    let l = c.loop-next in
    let a = c.args in
    let at = c.in-Some in
    let n = c.unlink_level-next in (
      n.auto.t ∙ l.invariant.0,
      unlinked_next a.t.now a.u a.d a.step c.requires l.t (ref_by l.next) at.at (ap ref_by at.is) l.invariant.1
          n.new.t (ref_by n.result) n.ensures l.invariant.0,
    )
