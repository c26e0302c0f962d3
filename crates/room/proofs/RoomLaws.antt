-- Refusal 12 is given exactly if the walk is not a room, and what an accepted start and chain are.
-- Assumes nothing.
use Rattle.std.specs.Prelude.{Err, Ok}
use mathlib.Core.Bool.{true, not}
use mathlib.Core.List.{List, [], ◌∷◌}
use mathlib.Core.Logic.{◌↔◌}
use mathlib.Core.Path.{◌≡◌, refl, ap}
use Prim.Native.Nat.{ℕ}
use native.Mathlib.Omega.{arith}
use borrow.Author.Tests.{eqb-true}
use lib.Dec.{eqb, ltb}
use lib.ListN.{length}
use Rattle.answer.specs.Answers.{Judged}
use Rattle.lists.proofs.BoolLaws.{not-false}
use Rattle.answer.specs.declared.{Refusal.Refusal}
use Rattle.answer.specs.declared.Verdict.{Verdict}
use Rattle.answer.specs.declared.Verdict.TheVariants.{Nowhere, Open, Room, OpenMeeting, ClosedMeeting, ThereAndBack}
use Rattle.answer.specs.declared.Refusal.TheVariants.{TooMany, StartRange, NotRoom}
use Rattle.answer.specs.Limits.{most_input, Near, start_fits}
use Rattle.answer.specs.Refusal.{verdict_number, when, first_of}
use Rattle.answer.proofs.RefusalLaws.{when_good, first_refused, first-last, first_good}
use Rattle.grid.specs.declared.Corner.{Corner}
use Rattle.steps.specs.Chain.{chain_judged, as_walk_judged}
use Rattle.steps.proofs.ChainLaws.{good_walk}
use Rattle.trace.specs.Verdict.{verdict_of, IsRoom}
use Rattle.trace.proofs.VerdictLaws.{verdict_room, says_verdict}
use Rattle.room.specs.Room.{is_room, as_room_judged}
use Rattle.room.proofs.RoomCases as cases

number-room : (v : Verdict) → verdict_number v ≡ verdict_number Room → v ≡ Room
number-room Nowhere e = absurd (omega arith)
number-room Open e = absurd (omega arith)
number-room Room e = refl
number-room OpenMeeting e = absurd (omega arith)
number-room ClosedMeeting e = absurd (omega arith)
number-room ThereAndBack e = absurd (omega arith)

-- a room's verdict is given exactly to a room
pub is_room_exactly : (c : Corner) (ds : List ℕ) → (is_room c ds ≡ true) ↔ IsRoom c ds
is_room_exactly c ds = (
  (λ e. verdict_room c ds (number-room (verdict_of c ds) (eqb-true (verdict_number (verdict_of c ds)) (verdict_number Room) e))),
  (λ r. ap (λ (v : Verdict). eqb (verdict_number v) (verdict_number Room)) (says_verdict c ds Room r)),
)

-- ---- the refusals in their order

module _ (c : Corner) (ds : List ℕ) where
  pub judged_refused : (r : Refusal) → as_walk_judged c ds ≡ Err r → as_room_judged c ds ≡ Err r
  judged_refused r e = first_refused (as_walk_judged c ds) (when (not (is_room c ds)) NotRoom) r e

  pub judged-room : as_walk_judged c ds ≡ Ok tt → as_room_judged c ds ≡ when (not (is_room c ds)) NotRoom
  judged-room e = first-last (as_walk_judged c ds) (when (not (is_room c ds)) NotRoom) e

-- all four in one list
pub judged_four : (c : Corner) (ds : List ℕ) → as_room_judged c ds ≡ first_of (when (ltb most_input (length ds)) TooMany ∷ when (not (start_fits c)) StartRange ∷ chain_judged 0 ds ∷ when (not (is_room c ds)) NotRoom ∷ [])
judged_four c ds = by (when (ltb most_input (length ds)) TooMany) (when (not (start_fits c)) StartRange) (chain_judged 0 ds) (when (not (is_room c ds)) NotRoom)
  where
    by : (a b d e : Judged) → first_of (first_of (a ∷ b ∷ d ∷ []) ∷ e ∷ []) ≡ first_of (a ∷ b ∷ d ∷ e ∷ [])
    by (Err q) b d e = refl
    by (Ok _) (Err q) d e = refl
    by (Ok _) (Ok _) (Err q) e = refl
    by (Ok _) (Ok _) (Ok _) e = refl

-- what a start and a chain are that nothing is wrong with
pub record AsRoom (c : Corner) (ds : List ℕ) : Type 0 where
  pub near : Near c
  pub steps : chain_judged 0 ds ≡ Ok tt
  pub room : IsRoom c ds

pub good_room : (c : Corner) (ds : List ℕ) → as_room_judged c ds ≡ Ok tt → AsRoom c ds
good_room c ds e =
    let h = first_good (as_walk_judged c ds) (when (not (is_room c ds)) NotRoom) e in
    let w = good_walk c ds h.0 in
    record {
      near = w.near;
      steps = w.steps;
      room = (is_room_exactly c ds).0 (not-false (is_room c ds) (when_good (not (is_room c ds)) NotRoom h.1));
    }
