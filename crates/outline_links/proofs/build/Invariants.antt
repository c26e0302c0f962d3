-- What the loops of `outline_links::build` keep, and how they end.
use Rattle.grid.specs.declared.Corner.{Corner}
use Rattle.outline_links.proofs.BuildLaws.{Building}
use Rattle.outline_links.proofs.build.Given as goal

abbrev pub invariant-loop-d : goal.invariant-loop-d
invariant-loop-d l = (c : Corner) → Building c l.chain l.keys l.kids l.links l.k l.least l.home l.used l.node l.d-index
