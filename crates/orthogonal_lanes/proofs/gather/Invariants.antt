-- What the loop of `orthogonal_lanes::gather` keeps.
use Rattle.orthogonal_lanes.proofs.LaneLaws.{Gathering}
use Rattle.orthogonal_lanes.proofs.gather.Given as goal

abbrev pub invariant-loop-d : goal.invariant-loop-d
invariant-loop-d l = Gathering l.chain l.m l.g l.right l.up l.far l.initial.lo l.initial.hi l.lo l.hi l.x l.y l.d-index
