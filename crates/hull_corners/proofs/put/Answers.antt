-- `hull_corners::put` meets its contract.
use native.Mathlib.Omega.{arith}
use mathlib.Core.Path.{refl, ◌∙◌}
use mathlib.Core.List.{map}
use lib.ListN.{length}
use lib.Seq.{sets, take-length}
use mir.Syntax.{w32}
use mir.Val.{to_z, of_z}
use mir.Facts.{to_z-of_z}
use Rattle.grid.specs.Grid.{numbers}
use Rattle.hull_laws.proofs.JoinLaws.{put_turn, put_end}
use Rattle.hull_corners.proofs.put.Invariants.{corner}
use Rattle.hull_corners.proofs.put.Goals as goal

pub loop-c-init : goal.loop-c-init
loop-c-init c = (omega arith, refl, simp take-length)

pub bounds-ys-from : goal.bounds-ys-from
bounds-ys-from c = omega (arith, c.from.ensures, c.requires.columns c.loop-c.c-index c.loop-c-test.true)

pub put_corner-requires : goal.put_corner-requires
put_corner-requires c =
    (omega (arith, c.requires.fits), c.requires.x, c.requires.y, simp (to_z-of_z c.ranges.way) c.requires.one)

pub loop-c-preserved : goal.loop-c-preserved
loop-c-preserved c =
    let l = c.loop-c in
    let a = c.args in
    let p = rw c.from.ensures at c.put_corner.ensures in
    let f = corner a.base (to_z w32 (of_z w32 a.way)) a.ys.now in
    let R = sets a.out.now a.at (numbers (map f a.s.now)) in
    (omega arith, c.put_corner.auto.out ∙ l.invariant.1, put_turn f a.s.now (length a.s.now) l.c-index l.o l.out c.put_corner.new.out R c.loop-c-test.true (omega arith) p l.invariant.2)

pub returns : goal.returns
returns c =
    let l = c.loop-c in
    let a = c.args in
    let f = corner a.base a.way a.ys.now in
    put_end f a.s.now (length a.s.now) l.c-index l.o l.out (sets a.out.now a.at (numbers (map f a.s.now)))
    (omega arith) (omega arith) (simp (to_z-of_z c.ranges.way) at l.invariant.2)
