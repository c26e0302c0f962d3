-- Meetings, verdicts and areas, computed on small walks.
-- Assumes nothing.
use mathlib.Core.List.{[], ◌∷◌}
use mathlib.Core.Path.{◌≡◌, refl}
use lib.IntN.{pos, negsuc}
use lib.ListN.{length}
use Rattle.answer.specs.declared.Verdict.TheVariants.{Nowhere, Open, Room, OpenMeeting, ClosedMeeting, ThereAndBack}
use Rattle.grid.specs.Grid.{origin, corners_from}
use Rattle.trace.specs.Meeting.{none, meet, meeting_of, visited_of}
use Rattle.trace.specs.Verdict.{verdict_of, area_of}

-- p2 = p0, p3 = p1 and p4 = p0: the least k is 2
least_k : meeting_of origin (0 ∷ 2 ∷ 0 ∷ 2 ∷ []) ≡ meet 0 2
least_k = refl

-- p3 = p1 comes before p4 = p0
not_the_first-corner : meeting_of origin (0 ∷ 0 ∷ 2 ∷ 2 ∷ []) ≡ meet 1 3
not_the_first-corner = refl

no_meeting_lem : meeting_of origin (0 ∷ 0 ∷ []) ≡ none
no_meeting_lem = refl

no_step : verdict_of origin [] ≡ Nowhere
no_step = refl

one_step : verdict_of origin (0 ∷ []) ≡ Open
one_step = refl

-- the closing corner of a room is not a crossing
round-one-panel : verdict_of origin (0 ∷ 1 ∷ 2 ∷ 3 ∷ []) ≡ Room
round-one-panel = refl

there_and_back : verdict_of origin (0 ∷ 2 ∷ []) ≡ ThereAndBack
there_and_back = refl

past_the_start : verdict_of origin (0 ∷ 2 ∷ 2 ∷ []) ≡ OpenMeeting
past_the_start = refl

two-there_and_back : verdict_of origin (0 ∷ 0 ∷ 2 ∷ 2 ∷ []) ≡ ClosedMeeting
two-there_and_back = refl

there_and_back-twice : verdict_of origin (0 ∷ 2 ∷ 0 ∷ 2 ∷ []) ≡ ClosedMeeting
there_and_back-twice = refl

-- a there_and_back is not a room
no_area_there_and_back : area_of origin (1 ∷ 3 ∷ []) ≡ pos 0
no_area_there_and_back = refl

left-round : area_of origin (0 ∷ 1 ∷ 2 ∷ 3 ∷ []) ≡ pos 1
left-round = refl

right-round : area_of origin (3 ∷ 2 ∷ 1 ∷ 0 ∷ []) ≡ negsuc 0
right-round = refl

-- the sum over the steps is 1 here too, but the walk is not a room
not_a-room_no_area : area_of origin (0 ∷ 1 ∷ []) ≡ pos 0
not_a-room_no_area = refl

-- five corners, two of them the same
different-corners : length (visited_of (corners_from origin (0 ∷ 1 ∷ 2 ∷ 3 ∷ []))) ≡ 4
different-corners = refl
