-- The tally of a walk.
-- Assumes nothing.
use Rattle.std.specs.Prelude.{List, ◌≡◌, ℕ, ◌<◌, length}
use Rattle.answer.specs.Limits.{no_meeting}
use Rattle.grid.specs.declared.Corner.{Corner}
use Rattle.grid.specs.Grid.{corners_from}
use Rattle.trace.specs.Meeting.{Meeting, none, meet, meeting_of, visited_of}
use Rattle.walk_step.specs.declared.Tally.{Tally}

-- a meeting as two numbers, no_meeting twice for none
abbrev pub Says : Meeting → ℕ → ℕ → Type 0
Says none j k = (j ≡ no_meeting) × (k ≡ no_meeting)
Says (meet a b) j k = (j ≡ a) × (k ≡ b) × (b < no_meeting)

pub record TallyIs (c : Corner) (ds : List ℕ) (m : Tally) : Type 0 where
  pub seen : m.corners ≡ length (visited_of (corners_from c ds))
  pub met : Says (meeting_of c ds) m.j m.k
