-- Refusals and verdicts as the numbers of RULES 1.6 and 6.1, and the first of several refusals. Assumes nothing.
use Rattle.std.specs.Prelude.{Bool, true, false, List, [], ◌∷◌, Err, Ok, ℕ}
use Rattle.answer.specs.Answers.{Judged}
use Rattle.answer.specs.declared.{Refusal.Refusal, Verdict.Verdict}
use Rattle.answer.specs.declared.Refusal.TheVariants.{TooMany, Table, ResultRoom, BadDigit, NothingToTake, TooLong, NoRoom, HullRoom, BadLine, StartRange, OutlineRoom, NotRoom, PolygonRoom, FileLength, FileKind, BadCoordinate, BadRing, ChainRoom, RetiredKind, UnknownParty, SpanRoom, GridSize}
use Rattle.answer.specs.declared.Verdict.TheVariants.{Nowhere, Open, Room, OpenMeeting, ClosedMeeting, ThereAndBack}

-- the number of a refusal
abbrev pub refusal_number : Refusal → ℕ
refusal_number TooMany = 1
refusal_number Table = 2
refusal_number ResultRoom = 3
refusal_number (BadDigit i) = 4
refusal_number (NothingToTake i) = 5
refusal_number (TooLong i) = 6
refusal_number (NoRoom i) = 7
refusal_number HullRoom = 8
refusal_number BadLine = 9
refusal_number StartRange = 10
refusal_number OutlineRoom = 11
refusal_number NotRoom = 12
refusal_number PolygonRoom = 13
refusal_number FileLength = 14
refusal_number FileKind = 15
refusal_number BadCoordinate = 16
refusal_number BadRing = 17
refusal_number ChainRoom = 18
refusal_number RetiredKind = 19
refusal_number (UnknownParty i) = 20
refusal_number SpanRoom = 21
refusal_number GridSize = 22

-- refusals without a place give 0
abbrev pub refusal_place : Refusal → ℕ
refusal_place TooMany = 0
refusal_place Table = 0
refusal_place ResultRoom = 0
refusal_place (BadDigit i) = i
refusal_place (NothingToTake i) = i
refusal_place (TooLong i) = i
refusal_place (NoRoom i) = i
refusal_place HullRoom = 0
refusal_place BadLine = 0
refusal_place StartRange = 0
refusal_place OutlineRoom = 0
refusal_place NotRoom = 0
refusal_place PolygonRoom = 0
refusal_place FileLength = 0
refusal_place FileKind = 0
refusal_place BadCoordinate = 0
refusal_place BadRing = 0
refusal_place ChainRoom = 0
refusal_place RetiredKind = 0
refusal_place (UnknownParty i) = i
refusal_place SpanRoom = 0
refusal_place GridSize = 0

-- the number and the place of a judgement: 0 for both if nothing is refused
abbrev pub judged_number : Judged → ℕ
judged_number (Ok _) = 0
judged_number (Err r) = refusal_number r

abbrev pub judged_place : Judged → ℕ
judged_place (Ok _) = 0
judged_place (Err r) = refusal_place r

-- the number of a verdict
abbrev pub verdict_number : Verdict → ℕ
verdict_number Nowhere = 0
verdict_number Open = 1
verdict_number Room = 2
verdict_number OpenMeeting = 3
verdict_number ClosedMeeting = 4
verdict_number ThereAndBack = 5

-- a refusal if the test passes
abbrev pub when : Bool → Refusal → Judged
when true r = Err r
when false r = Ok tt

-- the first of two that is a refusal
abbrev pub or_else : Judged → Judged → Judged
or_else (Ok _) k = k
or_else (Err r) k = Err r

-- the first of a list that is one
abbrev pub first_of : List Judged → Judged
first_of [] = Ok tt
first_of (j ∷ js) = or_else j (first_of js)
