-- Lines taken as rooms: each answer of the rows program is given on its occasion and on no other, and its spans are read back.
-- Assumes nothing.
use Rattle.std.specs.Prelude.{Err, Ok}
use mathlib.Core.Bool.{Bool, true, false}
use mathlib.Core.List.{List, [], ◌∷◌, ◌++◌}
use mathlib.Core.Logic.{◌↔◌}
use mathlib.Core.Path.{◌≡◌, refl, ap, sym, ◌∙◌, subst}
use Prim.Native.Nat.{ℕ, ◌^◌, ◌<◌}
use native.Mathlib.Omega.{arith}
use lib.IntN.{pos, nat_abs}
use lib.ListN.{length, take, get_or}
use lib.Seq.{take-append_seam}
use Rattle.answer.specs.Answers.{Judged}
use Rattle.answer.specs.declared.Refusal.{Refusal}
use Rattle.answer.specs.declared.Refusal.TheVariants.{NotRoom}
use Rattle.answer.specs.Refusal.{refusal_place}
use Rattle.grid.specs.Grid.{origin}
use Rattle.panels.specs.Inside.{Inside}
use Rattle.steps.specs.Operations.{survivors, Walkable}
use Rattle.trace.specs.Verdict.{IsRoom}
use Rattle.walk.specs.Walk.{facts_of}
use Rattle.room.specs.Room.{is_room}
use Rattle.room.proofs.RoomLaws.{is_room_exactly}
use Rattle.row.specs.Rows.{Span, RowsIs, span_numbers}
use Rattle.row_laws.specs.Feet.{rows_of}
use Rattle.row_laws.proofs.RowLaws.{rows_of-rows, rows_is_rows_of}
use Rattle.overlay_laws.proofs.ReadLaws.{room_small}
use Rattle.line_frame.specs.Sizes.{refused_digits}
use Rattle.line_frame.specs.Line.{digits_of}
use Rattle.line_frame.specs.Spelled.{refused_line}
use Rattle.line_frame.specs.Program.{feeds_in}
use Rattle.line_frame.proofs.SpelledLaws.{length-refused_line, refused_line_feeds}
use Rattle.line_room.specs.Told.{spans_told, refused_told, rows_told}
use Rattle.line_room.proofs.ToldLaws.{length-spans_told, length-refused_told, refused_told_lem, room_told_lem, not_room_told}
use Rattle.line_room.proofs.WalkedLaws.{line_sound}
use Rattle.demands.specs.GivenLine.{FrameIs, GivenLine, GivenLineRoom}
use Rattle.demands.specs.GivenLine as line
use Rattle.demands.specs.Fields.{RefusalRead, SpansRead}
use Rattle.demands.proofs.FieldLaws.{refusal_read, spans_read}
use Rattle.demands.proofs.LineCallLaws.{frame_read, accepted_frame, line_given, line_judged, place_few, refusal_one}

module _ (s : List ℕ) where
  abbrev left : List ℕ
  left = survivors (digits_of s)

  -- every line has an occasion
  pub line_room_given : (j : Judged) × GivenLineRoom s j
  line_room_given = let x = line_given s in by x.0 x.1
    where
      by : (j : Judged) → GivenLine s j → (i : Judged) × GivenLineRoom s i
      by (Err q) g = (Err q, line.refused q g)
      by (Ok _) g = room (is_room origin left) refl
        where
          room : (b : Bool) → is_room origin left ≡ b → (i : Judged) × GivenLineRoom s i
          room true e = (Ok tt, line.is_room (digits_of s) g (accepted_frame s g) ((is_room_exactly origin left).0 e))
          room false e = (Err NotRoom, line.not_room (digits_of s) g (accepted_frame s g) (λ r. let z : ◌≡◌ {A = ℕ} 0 1 = cc ((is_room_exactly origin left).1 r) in omega arith))

  pub rows_refused : (q : Refusal) → GivenLineRoom s (Err q) → rows_told s ≡ refused_told q
  rows_refused _ (line.refused q g) = (refused_told_lem s q (line_judged s (Err q) g)).0
  rows_refused _ (line.not_room os g f n) =
      not_room_told s (facts_of origin left) (line_judged s (Ok tt) g) (λ r. n (subst (λ (ds : List ℕ). IsRoom origin (survivors ds)) (frame_read (omega arith) f).1 r))

  place_small : (q : Refusal) → GivenLineRoom s (Err q) → refusal_place q < 16 ^ 8
  place_small _ (line.refused q g) = omega (arith, place_few q g)
  place_small _ (line.not_room os g f n) = omega arith

  -- the steps of a room
  room_of : GivenLineRoom s (Ok tt) → GivenLine s (Ok tt) × IsRoom origin left
  room_of (line.is_room os g f r) = (g, subst (λ (ds : List ℕ). IsRoom origin (survivors ds)) (sym (frame_read (omega arith) f).1) r)

  module _ (L : List Span) (rows : RowsIs (Inside origin left) L) where
    rows-room : GivenLineRoom s (Ok tt) → rows_told s ≡ spans_told L
    rows-room g = let x = room_of g in room_told_lem s (facts_of origin left) (line_judged s (Ok tt) x.0) x.1 L rows

    rows_spans : GivenLineRoom s (Ok tt) → SpansRead (rows_told s) L
    rows_spans g =
        let x = room_of g in
        let w : Walkable left = line_sound s (facts_of origin left) (line_judged s (Ok tt) x.0) in
        subst (λ (l : List ℕ). SpansRead l L) (sym (rows-room g))
        (spans_read L (λ k. subst (λ (M : List Span). nat_abs (get_or (span_numbers M) k (pos 0)) < 2 ^ 15) (sym (rows_is_rows_of origin left L x.1.closed rows)) (omega (arith, room_small origin left x.1 w.digits w.few (omega arith, omega arith) k))))

    room-rows : rows_told s ≡ spans_told L → GivenLineRoom s (Ok tt)
    room-rows e = let x = line_room_given in by x.0 x.1
      where
        by : (j : Judged) → GivenLineRoom s j → GivenLineRoom s (Ok tt)
        by (Ok _) g = g
        by (Err q) g = absurd (omega (arith, ap length (sym (rows_refused q g) ∙ e), length-refused_told q, length-spans_told L))

  pub refused_rows : (q : Refusal) → refusal_place q < 16 ^ 8 → rows_told s ≡ refused_told q → GivenLineRoom s (Err q)
  refused_rows q h e = let x = line_room_given in by x.0 x.1
    where
      seam : (r : Refusal) → take refused_digits (refused_told r) ≡ refused_line r
      seam r = ap (λ (n : ℕ). take n (refused_told r)) (sym (length-refused_line r)) ∙ take-append_seam (refused_line r) (10 ∷ [])

      bare : (r : Refusal) → refused_told r ≡ refused_told q → refused_line r ≡ refused_line q
      bare r f = sym (seam r) ∙ ap (take refused_digits) f ∙ seam q

      by : (j : Judged) → GivenLineRoom s j → GivenLineRoom s (Err q)
      by (Ok _) g =
          let L = rows_of origin left in
          absurd (omega (arith, ap length (sym (rows-room L (rows_of-rows origin left (room_of g).1.closed) g) ∙ e), length-refused_told q, length-spans_told L))
      by (Err r) g = subst (λ (x : Refusal). GivenLineRoom s (Err x)) (refusal_one r q (refusal_read r (place_small r g)) (subst (λ (l : List ℕ). RefusalRead l q) (sym (bare r (sym (rows_refused r g) ∙ e))) (refusal_read q h))) g

-- of a frame with these operations
module _ (s os : List ℕ) (frame : FrameIs s 0 os) (L : List Span) (rows : RowsIs (Inside origin (survivors os)) L) where
  read-rows : RowsIs (Inside origin (survivors (digits_of s))) L
  read-rows = subst (λ (ds : List ℕ). RowsIs (Inside origin (survivors ds)) L) (sym (frame_read (omega arith) frame).1) rows

  pub rows-when : rows_told s ≡ spans_told L ↔ GivenLineRoom s (Ok tt)
  rows-when = (room-rows s L read-rows, rows-room s L read-rows)

  pub spans_when : GivenLineRoom s (Ok tt) → SpansRead (rows_told s) L
  spans_when = rows_spans s L read-rows

pub rows_refusal : (s : List ℕ) (q : Refusal) → GivenLineRoom s (Err q) → (l : List ℕ) × (rows_told s ≡ l ++ (10 ∷ [])) × RefusalRead l q × (feeds_in l ≡ 0)
rows_refusal s q g = (refused_line q, rows_refused s q g, refusal_read q (place_small s q g), refused_line_feeds q)
