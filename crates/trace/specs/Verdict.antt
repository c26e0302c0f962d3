-- The verdict on a walk, and the signed area of a room (RULES 1.6, 1.7). Assumes nothing.
use Rattle.std.specs.Prelude.{◌≡◌, Bool, true, false, cond, ◌&&◌, List, [], ◌∷◌, length, ℕ, zero, suc, ◌<◌, ◌≤◌, eqb, ℤ, pos, ◌+ℤ◌, ◌-ℤ◌, ◌*ℤ◌}
use Rattle.answer.specs.declared.Verdict.{Verdict, TheVariants.Nowhere, TheVariants.Open, TheVariants.Room, TheVariants.OpenMeeting, TheVariants.ClosedMeeting, TheVariants.ThereAndBack}
use Rattle.answer.specs.Refusal.{verdict_number}
use Rattle.grid.specs.{declared.Corner.Corner, Grid.same, Grid.stepped, Grid.end_from}
use Rattle.trace.specs.Meeting.{Meets, Meeting, none, meet, meeting_of}

-- the first meeting is (0,n)
abbrev pub only_ends : ℕ → Meeting → Bool
only_ends n none = false
only_ends n (meet j k) = eqb j 0 && eqb k n

-- a closed walk with no meeting but (0,n): with two steps it goes there and back, with more it is a room
abbrev pub round_by : ℕ → Verdict
round_by n = cond (eqb n 2) ThereAndBack Room

-- by the number of steps, whether the walk is closed, and its first meeting
abbrev pub verdict_by : ℕ → Bool → Meeting → Verdict
verdict_by zero closed m = Nowhere
verdict_by (suc n) false none = Open
verdict_by (suc n) false (meet j k) = OpenMeeting
verdict_by (suc n) true m = cond (only_ends (suc n) m) (round_by (suc n)) ClosedMeeting

-- the verdict on the walk of these steps from c
abbrev pub verdict_of : Corner → List ℕ → Verdict
verdict_of c ds = verdict_by (length ds) (same (end_from c ds) c) (meeting_of c ds)

-- a room: at least four steps, closed, with no meeting but (0,n)
pub record IsRoom (c : Corner) (ds : List ℕ) : Type 0 where
  pub four : 4 ≤ length ds
  pub closed : end_from c ds ≡ c
  pub only : (j k : ℕ) → Meets c ds j k → (j ≡ 0) × (k ≡ length ds)

-- what each verdict says: 0, no step; 1, open, no meeting; 2, a room; 3, open, some meeting; 4, closed, a meeting other than
-- (0,n); 5, there and back
abbrev pub VerdictSays : Corner → List ℕ → Verdict → Type 0
VerdictSays c ds Nowhere = length ds ≡ 0
VerdictSays c ds Open = (0 < length ds) × (end_from c ds ≡ c → ⊥) × ((j k : ℕ) → Meets c ds j k → ⊥)
VerdictSays c ds Room = IsRoom c ds
VerdictSays c ds OpenMeeting = (0 < length ds) × (end_from c ds ≡ c → ⊥) × ((j : ℕ) × (k : ℕ) × Meets c ds j k)
VerdictSays c ds ClosedMeeting =
    (0 < length ds) × (end_from c ds ≡ c) × ((j : ℕ) × (k : ℕ) × Meets c ds j k × ((j ≡ 0) × (k ≡ length ds) → ⊥))
VerdictSays c ds ThereAndBack = (length ds ≡ 2) × (end_from c ds ≡ c)

-- the sum over the steps of x times the change of y
abbrev pub sweep_from : Corner → List ℕ → ℤ
sweep_from c [] = pos 0
sweep_from c (d ∷ ds) = c.0 *ℤ ((stepped d c).1 -ℤ c.1) +ℤ sweep_from (stepped d c) ds

-- of a room; for other verdicts it is 0
abbrev pub area_by : Verdict → ℤ → ℤ
area_by v z = cond (eqb (verdict_number v) (verdict_number Room)) z (pos 0)

-- the signed area
abbrev pub area_of : Corner → List ℕ → ℤ
area_of c ds = area_by (verdict_of c ds) (sweep_from c ds)
