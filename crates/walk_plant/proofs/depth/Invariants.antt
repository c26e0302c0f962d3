-- What the loops of `walk_plant::depth` keep, and how they end.
use Rattle.grid.specs.Tree.{size_of}
use Rattle.walk_plant.proofs.GrowLaws.{Climbed}
use Rattle.walk_plant.proofs.depth.Given as goal

abbrev pub invariant-loop-at : goal.invariant-loop-at
invariant-loop-at l = Climbed l.initial.at l.at l.levels

abbrev pub decreases-loop-at : goal.decreases-loop-at
decreases-loop-at l = size_of l.at
