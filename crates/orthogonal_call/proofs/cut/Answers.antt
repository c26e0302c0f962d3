-- `orthogonal_call::cut` meets its contract.
use native.Mathlib.Omega.{arith}
use mathlib.Core.Path.{refl}
use Prim.Native.Nat.{◌<◌}
use Rattle.orthogonal_call.proofs.CallLaws.{laned_rows, laned_small, laned_shaped, part_length}
use Rattle.orthogonal_call.proofs.cut.Goals as goal
use Rattle.orthogonal_call.proofs.cut.Goals.{After-end_row-north}

-- there is a row with an edge
edged : (c : After-end_row-north) → c.first_row-south.result < c.end_row-north.result
edged c =
    let p = c.requires in
    let k = c.first_row-south in
    let n = c.end_row-north in
    laned_rows p.6.3 p.0 k.result n.result k.ensures n.ensures

pub slice_bounds-shape-count : goal.slice_bounds-shape-count
slice_bounds-shape-count c = omega (arith, edged (goal.at.slice_bounds-shape-count c).After-end_row-north)

pub slice_bounds-shape-start : goal.slice_bounds-shape-start
slice_bounds-shape-start c = omega (arith, edged (goal.at.slice_bounds-shape-start c).After-end_row-north)

pub slice_bounds-shape-count-2 : goal.slice_bounds-shape-count-2
slice_bounds-shape-count-2 c = omega (arith, edged (goal.at.slice_bounds-shape-count-2 c).After-end_row-north)

pub slice_bounds-shape-start-2 : goal.slice_bounds-shape-start-2
slice_bounds-shape-start-2 c = omega (arith, edged (goal.at.slice_bounds-shape-start-2 c).After-end_row-north)

pub slice_bounds-shape-count-3 : goal.slice_bounds-shape-count-3
slice_bounds-shape-count-3 c = omega (arith, edged (goal.at.slice_bounds-shape-count-3 c).After-end_row-north)

pub slice_bounds-shape-start-3 : goal.slice_bounds-shape-start-3
slice_bounds-shape-start-3 c = omega (arith, edged (goal.at.slice_bounds-shape-start-3 c).After-end_row-north)

pub overflow_add-y : goal.overflow_add-y
overflow_add-y c =
    let p = c.requires in
    record { fits = omega (arith, (laned_small p.6.3 p.0 c.first_row-south.result c.end_row-north.result c.first_row-south.ensures c.end_row-north.ensures p.4 p.5 p.3 refl p.1).south) }

pub shape-requires : goal.shape-requires
shape-requires c =
    let a = c.args in
    let p = c.requires in
    let w = p.6.3 in
    let k = c.first_row-south in
    let n = c.end_row-north in
    (laned_small w p.0 k.result n.result k.ensures n.ensures p.4 p.5 p.3 refl p.1, omega (arith, part_length w p.0 k.result n.result k.ensures n.ensures a.lo.now refl, part_length w p.0 k.result n.result k.ensures n.ensures a.t.now p.2), p.0, (p.6.0, p.6.1, laned_shaped w p.0 k.result n.result k.ensures n.ensures refl))

pub returns : goal.returns
returns c =
    let p = c.requires in
    let k = c.first_row-south in
    let n = c.end_row-north in
    λ s ds m w. c.shape.ensures s ds (laned_shaped w p.0 k.result n.result k.ensures n.ensures refl)
