-- `convex_place::number` meets its contract.
use mathlib.Core.Path.{sym, ap}
use Prim.Native.Nat.{ℕ}
use Rattle.convex_laws.specs.Place.{rank}
use Rattle.convex_place.proofs.FindLaws.{rank-last}
use Rattle.convex_place.proofs.number.Goals as goal

pub returns-in-0 : goal.returns-in-0
returns-in-0 c = let a = c.args in ap (λ (t : ℕ). rank t a.x a.y) (sym c.in-0.is)

pub returns-in-1 : goal.returns-in-1
returns-in-1 c = let a = c.args in ap (λ (t : ℕ). rank t a.x a.y) (sym c.in-1.is)

pub returns-in-2 : goal.returns-in-2
returns-in-2 c = let a = c.args in ap (λ (t : ℕ). rank t a.x a.y) (sym c.in-2.is)

pub returns-in_default : goal.returns-in_default
returns-in_default c = let a =
    c.args in rank-last a.turn a.x a.y c.in_default.in_default-own.rest.0.0.1 c.in_default.in_default-own.rest.0.1 c.in_default.in_default-own.rest.1
