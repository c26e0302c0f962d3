-- `sheet_entry::enter_polygon` meets its contract.
use mathlib.Core.Path.{refl, sym, subst}
use mathlib.Core.List.{List}
use Prim.Native.Nat.{ℕ}
use native.Mathlib.Omega.{arith}
use lib.Seq.{length-take-le}
use Rattle.line_fields.specs.Put.{Wrote}
use Rattle.line_fields.proofs.PutLaws.{wrote_nil}
use Rattle.sheet_entry.proofs.EnterLaws.{polygon_many, polygon_none}
use Rattle.sheet_entry.proofs.enter_polygon.Goals as goal

pub slice_bounds-polygon-end : goal.slice_bounds-polygon-end
slice_bounds-polygon-end c =
    let w = c.write in
    omega (arith, (polygon_many c.args.steps.now c.requires.below.0 c.requires.below.1 w.ensures refl c.in-Ok.n c.in-Ok.is).0, w.auto.out)

pub slice_bounds-spell_bytes-end : goal.slice_bounds-spell_bytes-end
slice_bounds-spell_bytes-end c =
    let w = c.write in
    sym (length-take-le c.in-Ok.n w.new.out
    (omega (arith, (polygon_many c.args.steps.now c.requires.below.0 c.requires.below.1 w.ensures refl c.in-Ok.n c.in-Ok.is).0, w.auto.out)))

pub spell_bytes-requires : goal.spell_bytes-requires
spell_bytes-requires c =
    let w = c.write in
    let n = c.in-Ok.n in
    let m = (polygon_many c.args.steps.now c.requires.below.0 c.requires.below.1 w.ensures refl c.in-Ok.n c.in-Ok.is).0 in
    omega (arith, m, c.requires.most_polygon_in_bounds, length-take-le n w.new.out (omega (arith, m, w.auto.out)))

pub returns-in-Ok : goal.returns-in-Ok
returns-in-Ok c =
    let a = c.args in
    let r = c.spell_bytes in
    subst (λ (l : List ℕ). Wrote l a.at a.out.now r.result r.new.out)
    (polygon_many a.steps.now c.requires.below.0 c.requires.below.1 c.write.ensures refl c.in-Ok.n c.in-Ok.is).1
    r.ensures

pub returns-in-Err : goal.returns-in-Err
returns-in-Err c =
    let a = c.args in
    subst (λ (l : List ℕ). Wrote l a.at a.out.now a.at a.out.now)
    (polygon_none a.steps.now c.requires.below.0 c.requires.below.1 c.write.ensures refl _
    c.in-Err.is) (wrote_nil a.at a.out.now)
