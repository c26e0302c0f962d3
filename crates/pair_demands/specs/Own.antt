-- What belongs to one of two parties (RULES 19.8). Assumes nothing.
use Rattle.answer.specs.declared.{Facts.Facts, PartyFacts.PartyFacts}

-- the facts of a walk in a table of its own, apart from the nodes
abbrev pub own_in : Facts → PartyFacts
own_in g =
    record { verdict = g.verdict; steps = g.steps; corners = g.corners; j = g.j; k = g.k; area = g.area; last = g.last }
