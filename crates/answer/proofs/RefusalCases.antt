-- The numbers of refusals and verdicts, and the first of several refusals, computed.
-- Assumes nothing.
use Rattle.std.specs.Prelude.{Err, Ok}
use mathlib.Core.List.{[], ◌∷◌, map}
use mathlib.Core.Path.{◌≡◌, refl}
use Rattle.answer.specs.declared.Refusal.TheVariants.{TooMany, Table, ResultRoom, BadDigit, NothingToTake, TooLong, NoRoom, HullRoom, BadLine, StartRange, OutlineRoom, NotRoom, PolygonRoom, FileLength, FileKind, BadCoordinate, BadRing, ChainRoom, RetiredKind, UnknownParty, SpanRoom, GridSize}
use Rattle.answer.specs.declared.Verdict.TheVariants.{Nowhere, Open, Room, OpenMeeting, ClosedMeeting, ThereAndBack}
use Rattle.answer.specs.Refusal.{refusal_number, refusal_place, judged_number, judged_place, verdict_number, first_of}

pub numbers_of_refusals : map refusal_number (TooMany ∷ Table ∷ ResultRoom ∷ BadDigit 5 ∷ NothingToTake 5 ∷ TooLong 5 ∷ NoRoom 5 ∷ HullRoom ∷ BadLine ∷ StartRange ∷ OutlineRoom ∷ NotRoom ∷ PolygonRoom ∷ FileLength ∷ FileKind ∷ BadCoordinate ∷ BadRing ∷ ChainRoom ∷ RetiredKind ∷ UnknownParty 5 ∷ SpanRoom ∷ GridSize ∷ []) ≡ 1 ∷ 2 ∷ 3 ∷ 4 ∷ 5 ∷ 6 ∷ 7 ∷ 8 ∷ 9 ∷ 10 ∷ 11 ∷ 12 ∷ 13 ∷ 14 ∷ 15 ∷ 16 ∷ 17 ∷ 18 ∷ 19 ∷ 20 ∷ 21 ∷ 22 ∷ []
numbers_of_refusals = refl

pub places_of_refusals : map refusal_place (TooMany ∷ Table ∷ ResultRoom ∷ BadDigit 5 ∷ NothingToTake 5 ∷ TooLong 5 ∷ NoRoom 5 ∷ HullRoom ∷ BadLine ∷ StartRange ∷ OutlineRoom ∷ NotRoom ∷ PolygonRoom ∷ FileLength ∷ FileKind ∷ BadCoordinate ∷ BadRing ∷ ChainRoom ∷ RetiredKind ∷ UnknownParty 5 ∷ SpanRoom ∷ GridSize ∷ []) ≡ 0 ∷ 0 ∷ 0 ∷ 5 ∷ 5 ∷ 5 ∷ 5 ∷ 0 ∷ 0 ∷ 0 ∷ 0 ∷ 0 ∷ 0 ∷ 0 ∷ 0 ∷ 0 ∷ 0 ∷ 0 ∷ 0 ∷ 5 ∷ 0 ∷ 0 ∷ []
places_of_refusals = refl

-- an accepted answer holds 0 for both
pub nothing_refused : judged_number (Ok tt) ∷ judged_place (Ok tt) ∷ [] ≡ 0 ∷ 0 ∷ []
nothing_refused = refl

pub numbers_of_verdicts : map verdict_number (Nowhere ∷ Open ∷ Room ∷ OpenMeeting ∷ ClosedMeeting ∷ ThereAndBack ∷ []) ≡ 0 ∷ 1 ∷ 2 ∷ 3 ∷ 4 ∷ 5 ∷ []
numbers_of_verdicts = refl

first_of_three : first_of (Ok tt ∷ Err Table ∷ Err ResultRoom ∷ []) ≡ Err Table
first_of_three = refl
