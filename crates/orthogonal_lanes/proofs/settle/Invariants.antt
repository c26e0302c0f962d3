-- What the loop of `orthogonal_lanes::settle` keeps.
use lib.ListN.{length}
use Rattle.orthogonal_lanes.proofs.LaneLaws.{Settling}
use Rattle.orthogonal_lanes.proofs.settle.Given as goal

abbrev pub invariant-loop-q : goal.invariant-loop-q
invariant-loop-q l = Settling l.initial.a (length l.initial.a) l.a l.least l.q
