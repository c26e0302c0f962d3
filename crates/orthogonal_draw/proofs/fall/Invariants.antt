-- What the loop of `orthogonal_draw::fall` keeps.
use Prim.Native.Nat.{◌-◌}
use Rattle.orthogonal_draw.specs.Sides.{left_in, descent}
use Rattle.orthogonal_draw.proofs.SideLaws.{Drawing}
use Rattle.orthogonal_draw.proofs.fall.Given as goal

abbrev pub invariant-loop-q : goal.invariant-loop-q
invariant-loop-q l = Drawing l.initial.out l.from (descent (left_in l.lo) l.x l.first (l.end - l.first)) l.out l.at (descent (left_in l.lo) l.col l.first (l.q - l.first))
