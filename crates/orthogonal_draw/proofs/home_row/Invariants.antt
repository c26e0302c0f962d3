-- What the loop of `orthogonal_draw::home_row` keeps.
use mathlib.Core.Path.{◌≡◌}
use Prim.Native.Nat.{◌-◌, ◌<◌}
use Rattle.orthogonal_chain_laws.specs.Chain.{home_row}
use Rattle.orthogonal_draw.specs.Sides.{left_in}
use Rattle.orthogonal_draw.proofs.home_row.Given as goal

abbrev pub invariant-loop-q : goal.invariant-loop-q
invariant-loop-q l = (l.home < l.q) × (l.home ≡ home_row (left_in l.a) (l.q - 1))
