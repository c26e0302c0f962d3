-- The limits of the calls (RULES 6.1, 6.3). Assumes nothing.
use Rattle.std.specs.Prelude.{Bool, ◌&&◌, ℕ, ◌+◌, ◌*◌, ◌≤◌, leb, nat_abs}
use Rattle.grid.specs.declared.Corner.{Corner}

-- input bytes at most
abbrev pub most_input : ℕ
most_input = 32768

-- surviving steps at most, at any moment
abbrev pub most_steps : ℕ
most_steps = 16384

-- records at most: eight for each corner of the longest walk, and 68 for its start
abbrev pub most_records : ℕ
most_records = 8 * (most_steps + 1) + 68

-- records at most in a table that two parties share: as many as each may have alone
abbrev pub most_pair_records : ℕ
most_pair_records = 2 * most_records

-- j and k if there is no meeting
abbrev pub no_meeting : ℕ
no_meeting = 65535

-- the magnitude of a start's coordinates at most
abbrev pub most_start : ℕ
most_start = 16384

-- how far from 0 a coordinate of a walk's corner can be (RULES 12.1): as far as a start's, and one farther with each step
abbrev pub farthest : ℕ
farthest = most_start + most_steps

-- a corner at which a walk may start
abbrev pub Near : Corner → Type 0
Near c = (nat_abs c.0 ≤ most_start) × (nat_abs c.1 ≤ most_start)

-- the same, as a test
abbrev pub start_fits : Corner → Bool
start_fits c = leb (nat_abs c.0) most_start && leb (nat_abs c.1) most_start
