-- What the loop of `orthogonal_lanes::look_back` keeps.
use lib.ListN.{length}
use Rattle.orthogonal_lanes.proofs.LaneLaws.{Looking}
use Rattle.orthogonal_lanes.proofs.look_back.Given as goal

abbrev pub invariant-loop-q : goal.invariant-loop-q
invariant-loop-q l = Looking l.initial.a l.g (length l.initial.a) l.a l.t l.least l.q
