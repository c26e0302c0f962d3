-- What the loop of `orthogonal_draw::rise` keeps.
use Prim.Native.Nat.{◌-◌}
use lib.ListN.{length}
use Rattle.orthogonal_draw.specs.Sides.{right_in, ascent}
use Rattle.orthogonal_draw.proofs.SideLaws.{Drawing}
use Rattle.orthogonal_draw.proofs.rise.Given as goal

abbrev pub invariant-loop-east : goal.invariant-loop-east
invariant-loop-east l = Drawing l.initial.out l.from (ascent (right_in l.span l.hi) l.x 0 (length l.hi)) l.out l.at (ascent (right_in l.span l.hi) l.col l.east-index (length l.hi - l.east-index))
