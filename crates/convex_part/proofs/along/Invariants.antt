-- What the loop of `convex_part::along` keeps.
use mathlib.Core.Path.{◌≡◌}
use Prim.Native.Nat.{◌-◌}
use lib.ListN.{drop}
use Rattle.convex_laws.specs.Level.{level_along}
use Rattle.convex_part.proofs.along.Given as goal

abbrev pub invariant-loop-q : goal.invariant-loop-q
invariant-loop-q l = level_along l.ys (drop (l.q - 1) l.s) ≡ level_along l.ys l.s
