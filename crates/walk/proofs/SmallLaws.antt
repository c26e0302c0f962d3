-- The numbers of an answer are small: a place is one of the input, and a walk that is accepted has few steps, nodes and corners.
-- Assumes nothing.
use Rattle.std.specs.Prelude.{Err, Ok}
use mathlib.Core.Bool.{Bool, true, false, not, ◌&&◌}
use mathlib.Core.List.{List, [], ◌∷◌}
use mathlib.Core.Path.{◌≡◌, refl}
use Prim.Native.Nat.{ℕ, suc, ◌+◌, ◌*◌, ◌%◌, ◌≤◌, zero}
use native.Mathlib.Omega.{arith}
use borrow.Author.Tests.{ltb-false, leb-true}
use lib.Dec.{eqb, ltb, leb}
use lib.ListN.{length}
use Rattle.answer.specs.Answers.{Judged}
use Rattle.answer.specs.declared.Refusal.{Refusal}
use Rattle.answer.specs.declared.Refusal.TheVariants.{Table, ResultRoom, BadDigit, NothingToTake, TooLong, NoRoom, StartRange}
use Rattle.answer.specs.Refusal.{when, or_else, refusal_place}
use Rattle.answer.specs.Limits.{most_input, most_steps, most_records, no_meeting, start_fits}
use Rattle.grid.specs.declared.Corner.{Corner}
use Rattle.grid.specs.Grid.{same, corners_from}
use Rattle.trace.specs.Meeting.{Meeting, none, meet, meeting_of, meeting_j, meeting_k, visited_of}
use Rattle.tree.specs.Nodes.{nodes_of}
use Rattle.steps.specs.Operations.{operate, survivors, fault_of, operations_judged, after, Walkable}
use Rattle.layout.specs.Marks.{mark_words}
use Rattle.layout.specs.Table.{width, records_in}
use Rattle.grid.proofs.StepLaws.{length-corners_from}
use Rattle.lists.proofs.GatherLaws.{and_left, and_right, gather_le}
use Rattle.trace.proofs.MeetingLaws.{meeting_of_meets}
use Rattle.steps.proofs.SurvivorLaws.{walkable_survivors}
use Rattle.walk.specs.Walk.{table_fits, room_from, walk_judged, room_at}
use Rattle.walk.proofs.JudgedLaws.{walk_fits}
use Rattle.walk.proofs.RoomLaws.{room-last}

-- a refusal's place is at most b
abbrev pub Placed : ℕ → Judged → Type 0
Placed b (Ok _) = Unit {0}
Placed b (Err r) = refusal_place r ≤ b

pub placed-when : (b : ℕ) (t : Bool) (r : Refusal) → refusal_place r ≤ b → Placed b (when t r)
placed-when b true r h = h
placed-when b false r h = tt

pub placed_or : (b : ℕ) (j k : Judged) → Placed b j → Placed b k → Placed b (or_else j k)
placed_or b (Ok _) k p q = q
placed_or b (Err r) k p q = p

pub placed-more : (a b : ℕ) (j : Judged) → a ≤ b → Placed a j → Placed b j
placed-more a b (Ok _) h p = tt
placed-more a b (Err r) h p = omega arith

pub placed_fault : (i n o : ℕ) → Placed i (fault_of i n o)
placed_fault i n o =
    let a = when (ltb 4 o) (BadDigit i) in
    let b = when (eqb o 4 && eqb n 0) (NothingToTake i) in
    let d = when (not (eqb o 4) && not (ltb n most_steps)) (TooLong i) in
    placed_or i a (or_else b (or_else d (Ok tt))) (placed-when i (ltb 4 o) (BadDigit i) (omega arith))
    (placed_or i b (or_else d (Ok tt)) (placed-when i (eqb o 4 && eqb n 0) (NothingToTake i) (omega arith))
    (placed_or i d (Ok tt) (placed-when i (not (eqb o 4) && not (ltb n most_steps)) (TooLong i) (omega arith)) tt))

placed_faults : (i n : ℕ) (os : List ℕ) → Placed (i + length os) (operations_judged i n os)
placed_faults i n [] = tt
placed_faults i n (o ∷ os) =
    let b = i + suc (length os) in
    let f = operations_judged (suc i) (after n o) os in
    placed_or b (fault_of i n o) f (placed-more i b (fault_of i n o) (omega arith) (placed_fault i n o)) (placed-more (suc i + length os) b f (omega arith) (placed_faults (suc i) (after n o) os))

placed_at : (b r : ℕ) (c : Corner) (k : ℕ) (ds : List ℕ) → k ≤ b → Placed b (room_at r c k ds)
placed_at b r c zero ds h = placed-when b (ltb r (length (nodes_of (corners_from c ds)))) (NoRoom 0) (omega arith)
placed_at b r c (suc k) ds h = placed-when b (ltb r (length (nodes_of (corners_from c ds)))) (NoRoom k) (omega arith)

placed-room : (r : ℕ) (c : Corner) (k : ℕ) (ds os : List ℕ) → Placed (k + length os) (room_from r c k ds os)
placed-room r c k ds [] = placed_at (k + 0) r c k ds (omega arith)
placed-room r c k ds (o ∷ os) =
    let b = k + suc (length os) in
    let j = room_from r c (suc k) (operate ds o) os in
    placed_or b (room_at r c k ds) j (placed_at b r c k ds (omega arith)) (placed-more (suc k + length os) b j (omega arith) (placed-room r c (suc k) (operate ds o) os))

-- the place of a walk's refusal
pub walk_placed : (c : Corner) (os : List ℕ) (w m k : ℕ) → Placed most_input (walk_judged c os w m k)
walk_placed c os w m k = go (ltb most_input (length os)) refl
  where
    b : Judged
    b = when (not (table_fits w)) Table

    d : Judged
    d = when (not (eqb m (mark_words * length os) && eqb k (length os))) ResultRoom

    s : Judged
    s = when (not (start_fits c)) StartRange

    rest : length os ≤ most_input → Placed most_input (or_else b (or_else d (or_else s (or_else (operations_judged 0 0 os) (or_else (room_from (records_in w) c 0 [] os) (Ok tt))))))
    rest h =
        let f = operations_judged 0 0 os in
        let r = room_from (records_in w) c 0 [] os in
        placed_or most_input b (or_else d (or_else s (or_else f (or_else r (Ok tt))))) (placed-when most_input (not (table_fits w)) Table (omega arith))
        (placed_or most_input d (or_else s (or_else f (or_else r (Ok tt)))) (placed-when most_input (not (eqb m (mark_words * length os) && eqb k (length os))) ResultRoom (omega arith))
        (placed_or most_input s (or_else f (or_else r (Ok tt))) (placed-when most_input (not (start_fits c)) StartRange (omega arith))
        (placed_or most_input f (or_else r (Ok tt)) (placed-more (0 + length os) most_input f (omega arith) (placed_faults 0 0 os))
        (placed_or most_input r (Ok tt) (placed-more (0 + length os) most_input r (omega arith) (placed-room (records_in w) c 0 [] os)) tt))))

    go : (t : Bool) → ltb most_input (length os) ≡ t → Placed most_input (walk_judged c os w m k)
    go true e = rw e (omega arith)
    go false e = rw e (rest (ltb-false most_input (length os) e))

-- the facts of a walk of this many steps
pub record FewSeen (c : Corner) (ds : List ℕ) : Type 0 where
  pub steps : length ds ≤ most_steps
  pub corners : length (visited_of (corners_from c ds)) ≤ suc most_steps
  pub j : meeting_j (meeting_of c ds) ≤ no_meeting
  pub k : meeting_k (meeting_of c ds) ≤ no_meeting

pub seen_few : (c : Corner) (ds : List ℕ) → length ds ≤ most_steps → FewSeen c ds
seen_few c ds h = record {
  steps = h;
  corners = omega (arith, gather_le same [] (corners_from c ds), length-corners_from c ds);
  j = (go (meeting_of c ds) refl).0;
  k = (go (meeting_of c ds) refl).1;
}
  where
    go : (m : Meeting) → meeting_of c ds ≡ m → (meeting_j (meeting_of c ds) ≤ no_meeting) × (meeting_k (meeting_of c ds) ≤ no_meeting)
    go none e = (rw e (omega arith), rw e (omega arith))
    go (meet j k) e =
        let f = (meeting_of_meets c ds j k e).meets in
        (rw e (omega (arith, f.earlier, f.within)), rw e (omega (arith, f.within)))

-- and those of an accepted walk
pub record Few (c : Corner) (ds : List ℕ) : Type 0 where
  pub seen : FewSeen c ds
  pub nodes : length (nodes_of (corners_from c ds)) ≤ most_records

fits_records : (w : ℕ) → table_fits w ≡ true → (1 ≤ records_in w) × (records_in w ≤ most_records)
fits_records w e =
    let a = eqb (w % width) 0 in
    let b = leb 1 (records_in w) in
    let d = leb (records_in w) most_records in
    (leb-true 1 (records_in w) (and_right a b (and_left (a && b) d e)), leb-true (records_in w) most_records (and_right (a && b) d e))

pub walk_few : (c : Corner) (os : List ℕ) (w m k : ℕ) → walk_judged c os w m k ≡ Ok tt → Few c (survivors os)
walk_few c os w m k e =
    let ds = survivors os in
    let h = walk_fits c os w m k e in
    let s : Walkable ds = walkable_survivors 0 [] os (record { digits = tt; few = omega arith }) h.0.fine in
    record { seen = seen_few c ds s.few; nodes = omega (arith, room-last (records_in w) c 0 [] os h.1, (fits_records w h.0.table).1) }
