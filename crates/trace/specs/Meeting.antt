-- Meetings of two visits, and the different corners (RULES 1.4, 1.5). Assumes nothing.
use Rattle.lists.specs.Lists.{find, gather}
use Rattle.std.specs.Prelude.{◌≡◌, List, [], ◌∷◌, ◌++◌, length, ℕ, zero, suc, ◌<◌, ◌≤◌}
use Rattle.answer.specs.Limits.{no_meeting}
use Rattle.grid.specs.{declared.Corner.Corner, Grid.same, Grid.corners_from, Grid.corner_at}

-- j < k with pj = pk
pub record Meets (c : Corner) (ds : List ℕ) (j k : ℕ) : Type 0 where
  pub earlier : j < k
  pub within : k ≤ length ds
  pub equal : corner_at c ds j ≡ corner_at c ds k

-- the first meeting has the least k
pub record FirstMeets (c : Corner) (ds : List ℕ) (j k : ℕ) : Type 0 where
  pub meets : Meets c ds j k
  pub least : (i m : ℕ) → Meets c ds i m → k ≤ m

-- a meeting (j,k), or none
pub data Meeting : Type 0 where
  none : Meeting
  meet : ℕ → ℕ → Meeting

-- the first k whose corner is among those before it, and the place j there
abbrev pub meeting_from : List Corner → List Corner → Meeting
meeting_from seen [] = none
meeting_from seen (p ∷ ps) =
    elim (find (same p) seen) [ zero ↦ meeting_from (seen ++ (p ∷ [])) ps | suc j ↦ meet j (length seen) ]

-- the first meeting of a walk, if there is one
abbrev pub meeting_of : Corner → List ℕ → Meeting
meeting_of c ds = meeting_from [] (corners_from c ds)

-- j and k of a meeting, 65,535 if there is none
abbrev pub meeting_j : Meeting → ℕ
meeting_j none = no_meeting
meeting_j (meet j k) = j

abbrev pub meeting_k : Meeting → ℕ
meeting_k none = no_meeting
meeting_k (meet j k) = k

-- the different corners, in the order of the first visit
abbrev pub visited_of : List Corner → List Corner
visited_of ps = gather same [] ps
