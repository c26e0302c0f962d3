-- What the call that outlines the orthogonal hull of a room answers, and what it leaves in the buffer (RULES 21.4 to 21.6).
-- Assumes nothing.
use Rattle.lists.specs.Lists.{Below}
use Rattle.std.specs.Prelude.{◌≡◌, Bool, true, not, ◌&&◌, List, [], ◌∷◌, length, ℕ, leb, Err, Ok, ltb}
use Rattle.orthogonal.specs.Answers.{Orthogonal}
use Rattle.answer.specs.Answers.{Judged}
use Rattle.grid.specs.declared.Corner.{Corner}
use Rattle.answer.specs.declared.{Refusal.TheVariants.TooMany, Refusal.TheVariants.StartRange, Refusal.TheVariants.GridSize, Refusal.TheVariants.NotRoom, Refusal.TheVariants.ChainRoom}
use Rattle.answer.specs.{Limits.most_input, Limits.start_fits, Refusal.when, Refusal.first_of, Refusal.refusal_number, Refusal.refusal_place, Words.bits_of}
use Rattle.answer.specs.Listed.{laid_if}
use Rattle.steps.specs.Chain.{chain_judged}
use Rattle.room.specs.Room.{is_room}
use Rattle.outline.specs.Outline.{home_of}
use Rattle.panels.specs.Inside.{inside, panels_inside, InsideLeft}
use Rattle.orthogonal.specs.declared.{Enclosed.Enclosed}
use Rattle.orthogonal.specs.Blocks.{HoldsInside, OrthogonalHullIs}

-- a grid size: from 1 to 16,384
abbrev pub most_grid : ℕ
most_grid = 16384

abbrev pub grid_fits : ℕ → Bool
grid_fits g = leb 1 g && leb g most_grid

-- the chain of these steps outlines the orthogonal hull of the room's blocks: its digits are steps, it is a room in block
-- coordinates, counterclockwise from the lowest of its leftmost corners, and the blocks inside it are the hull
pub record OutlinesHull (c : Corner) (ds : List ℕ) (g : ℕ) (start : Corner) (steps : List ℕ) : Type 0 where
  pub digits : Below 4 steps
  pub room : is_room start steps ≡ true
  pub home : home_of start steps ≡ start
  pub left : InsideLeft start steps
  pub hull : OrthogonalHullIs (HoldsInside c ds g) (inside start steps)

-- what is wrong before the buffer is asked: 1, then 10, then 22, then 4 or 6 at the first faulty place, then 12
abbrev pub on_grid_judged : Corner → List ℕ → ℕ → Judged
on_grid_judged c ds g =
    first_of (when (ltb most_input (length ds)) TooMany
    ∷ when (not (start_fits c)) StartRange
    ∷ when (not (grid_fits g)) GridSize
    ∷ chain_judged 0 ds
    ∷ when (not (is_room c ds)) NotRoom
    ∷ [])

-- and then 18, if the buffer has fewer bytes than the outline has steps
abbrev pub orthogonal_judged : Corner → List ℕ → ℕ → ℕ → ℕ → Judged
orthogonal_judged c ds g size steps = first_of (on_grid_judged c ds g ∷ when (ltb size steps) ChainRoom ∷ [])

-- how many steps there are, where they start, and how many blocks are inside
abbrev pub enclosed_of : Corner → List ℕ → Enclosed
enclosed_of start steps = record { steps = length steps; start = start; blocks = panels_inside start steps }

-- that of the outline, unless there is a refusal
abbrev pub orthogonal_of : Judged → Corner → List ℕ → Orthogonal
orthogonal_of (Ok _) start steps = Ok (enclosed_of start steps)
orthogonal_of (Err r) start steps = Err r

-- the promise of the call: `steps` from `start` outlines the hull. It is counted, and the buffer holds it and then what stood
-- after it, unless there is a refusal. What is not a room, or has no grid size, is refused, whatever the outline
pub record OrthogonalCall (c : Corner) (ds : List ℕ) (g : ℕ) (before : List ℕ) (r : Orthogonal) (after : List ℕ) : Type 0 where
  pub start : Corner
  pub steps : List ℕ
  pub outline : on_grid_judged c ds g ≡ Ok tt → OutlinesHull c ds g start steps
  pub answer : r ≡ orthogonal_of (orthogonal_judged c ds g (length before) (length steps)) start steps
  pub buffer : after ≡ laid_if (orthogonal_judged c ds g (length before) (length steps)) steps before

-- number, place, steps, x and y of the start in two's complement, blocks; a refused answer holds number and place, and 0 in all
-- other words
abbrev pub orthogonal_words : Orthogonal → List ℕ
orthogonal_words (Ok h) = 0 ∷ 0 ∷ h.steps ∷ bits_of h.start.0 ∷ bits_of h.start.1 ∷ h.blocks ∷ []
orthogonal_words (Err r) = refusal_number r ∷ refusal_place r ∷ 0 ∷ 0 ∷ 0 ∷ 0 ∷ []

-- the refusal's number, 0 if the room is accepted
abbrev pub orthogonal_number : Orthogonal → ℕ
orthogonal_number (Ok h) = 0
orthogonal_number (Err r) = refusal_number r
