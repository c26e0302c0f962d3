-- What the hull call answers, and what it leaves in the buffer (RULES 5.5, 6.3, 6.6). Assumes nothing.
use Rattle.std.specs.Prelude.{◌≡◌, List, [], ◌∷◌, length, ℕ, ◌*◌, ltb, ℤ}
use Rattle.answer.specs.Answers.{Counted, Judged}
use Rattle.grid.specs.{declared.Corner.Corner, Grid.corners_from, Grid.numbers}
use Rattle.answer.specs.declared.{Refusal.TheVariants.HullRoom}
use Rattle.answer.specs.{Refusal.when, Refusal.first_of, Listed.counted_of, Listed.laid_if}
use Rattle.steps.specs.Chain.{as_walk_judged}
use Rattle.hull.specs.Hull.{HullIs}

-- the refusals of a start and a chain, then 8 where the room is shorter than twice the hull corners
abbrev pub hull_judged : Corner → List ℕ → ℕ → ℕ → Judged
hull_judged c chain size corners = first_of (as_walk_judged c chain ∷ when (ltb size (2 * corners)) HullRoom ∷ [])

-- a call with this chain, from the corner c: `list` is the hull of the walk. A chain that has a digit above 3 is refused,
-- whatever its list
pub record HullCall (c : Corner) (chain : List ℕ) (before : List ℤ) (r : Counted) (after : List ℤ) : Type 0 where
  pub list : List Corner
  pub hull : HullIs (corners_from c chain) list
  pub answer : r ≡ counted_of (hull_judged c chain (length before) (length list)) (length list)
  pub buffer : after ≡ laid_if (hull_judged c chain (length before) (length list)) (numbers list) before
