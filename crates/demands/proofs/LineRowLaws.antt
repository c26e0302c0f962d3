-- Lines in the table of polygons: what is read in the row of each.
-- Assumes nothing.
use Rattle.std.specs.Prelude.{Err, Ok}
use mathlib.Core.Bool.{Bool, true, false, cond}
use mathlib.Core.List.{List, [], ◌++◌}
use mathlib.Core.Logic.{◌↔◌}
use mathlib.Core.Path.{◌≡◌, refl, ap, sym, ◌∙◌, subst}
use Prim.Native.Nat.{ℕ, ◌^◌, ◌<◌, ◌≤◌}
use native.Mathlib.Omega.{arith}
use lib.ListN.{length}
use Rattle.answer.specs.Answers.{Judged}
use Rattle.answer.specs.declared.Refusal.{Refusal}
use Rattle.answer.specs.Refusal.{refusal_number, refusal_place}
use Rattle.lists.specs.Lists.{Below}
use Rattle.grid.specs.Grid.{origin}
use Rattle.steps.specs.Operations.{survivors}
use Rattle.steps.proofs.SurvivorLaws.{length-survivors}
use Rattle.trace.specs.Verdict.{IsRoom}
use Rattle.hull_laws.specs.Chain.{hull_of}
use Rattle.hull_laws.proofs.HullLaws.{hull_of_hull}
use Rattle.walk.specs.Walk.{facts_of}
use Rattle.room.specs.Room.{is_room}
use Rattle.room.proofs.RoomLaws.{is_room_exactly}
use Rattle.polygon.specs.Polygon.{points_of, polygon_of}
use Rattle.line_frame.specs.Sizes.{most_digits}
use Rattle.line_frame.specs.Line.{digits_of}
use Rattle.sheet.specs.Sizes.{most_decimals}
use Rattle.sheet.specs.Entry.{cell_of, cells_of, hex_bytes, polygon_cell, entry_by, entry_of}
use Rattle.sheet.proofs.EntryLaws.{entry_of-by}
use Rattle.demands.specs.GivenLine.{FrameIs, GivenLine}
use Rattle.demands.specs.Cells.{number_at, RefusedRow, RowRead}
use Rattle.demands.proofs.FieldLaws.{number_few, verdict_few}
use Rattle.demands.proofs.LineCallLaws.{frame_read, accepted_frame, line_given, line_judged, place_few, refusal_same, line_spellable}
use Rattle.demands.proofs.CellLaws.{Decimals, polygon_below, refused_read, row_read}

facts_decimals : (ds : List ℕ) → length ds ≤ most_digits → Decimals (facts_of origin ds)
facts_decimals ds h =
    let s = line_spellable ds (hull_of origin ds) h (hull_of_hull origin ds) in
    record {
      verdict = omega (arith, verdict_few (facts_of origin ds).verdict);
      steps = omega (arith, s.steps);
      nodes = omega (arith, s.nodes);
      corners = omega (arith, s.corners);
      j = omega (arith, s.j);
      k = omega (arith, s.k);
      area = omega (arith, s.area);
    }

module _ (s : List ℕ) (n : ℕ) (few : n < 10 ^ most_decimals) where
  abbrev row : List ℕ
  row = cell_of n ++ entry_of s

  pub row_refused : (q : Refusal) → GivenLine s (Err q) → RefusedRow (cell_of n ++ entry_of s) n (refusal_number q) (refusal_place q)
  row_refused q g =
      subst (λ (l : List ℕ). RefusedRow (cell_of n ++ l) n (refusal_number q) (refusal_place q)) (entry_of-by s (Err q) (line_judged s (Err q) g))
      (refused_read n (refusal_number q) (refusal_place q) few (omega (arith, number_few q)) (omega (arith, place_few q g)))

  module _ (os : List ℕ) (frame : FrameIs s 0 os) (g : GivenLine s (Ok tt)) where
    abbrev left : List ℕ
    left = survivors os

    left_few : length left ≤ most_digits
    left_few = omega (arith, length-survivors [] os, frame.few)

    -- by the bytes in the last cell
    row_by : (bytes : List ℕ) → Below 256 bytes → polygon_cell left ≡ hex_bytes bytes → RowRead (cell_of n ++ entry_of s) n 0 0 (facts_of origin left) bytes
    row_by bytes b e =
        let d : digits_of s ≡ os = (frame_read (omega arith) frame).1 in
        subst (λ (l : List ℕ). RowRead (cell_of n ++ l) n 0 0 (facts_of origin left) bytes)
        (ap (λ (l : List ℕ). cells_of 0 0 (facts_of origin left) ++ l) (sym e) ∙ ap (λ (ds : List ℕ). entry_by (Ok (facts_of origin (survivors ds))) (survivors ds)) (sym d) ∙ entry_of-by s (Ok (facts_of origin (survivors (digits_of s)))) (line_judged s (Ok tt) g))
        (row_read n 0 0 (facts_of origin left) bytes few (omega arith) (omega arith) (facts_decimals left left_few) b)

    pub row_room : IsRoom origin (survivors os) → RowRead (cell_of n ++ entry_of s) n 0 0 (facts_of origin (survivors os)) (polygon_of origin (survivors os))
    row_room r = row_by (polygon_of origin left) (polygon_below (points_of origin left)) (ap (λ (b : Bool). cond b (hex_bytes (polygon_of origin left)) []) ((is_room_exactly origin left).1 r))

    pub row_other : (IsRoom origin (survivors os) → ⊥) → RowRead (cell_of n ++ entry_of s) n 0 0 (facts_of origin (survivors os)) []
    unfolding hex_bytes
    row_other f = row_by [] tt (by (is_room origin left) refl)
      where
        by : (b : Bool) → is_room origin left ≡ b → cond (is_room origin left) (hex_bytes (polygon_of origin left)) [] ≡ []
        by true e = absurd (f ((is_room_exactly origin left).0 e))
        by false e = ap (λ (b : Bool). cond b (hex_bytes (polygon_of origin left)) []) e

  -- number and place are 0 in the row of an accepted line
  row_accepted : GivenLine s (Ok tt) → number_at row 1 ≡ 0
  row_accepted g = by (is_room origin (survivors (digits_of s))) refl
    where
      by : (b : Bool) → is_room origin (survivors (digits_of s)) ≡ b → number_at row 1 ≡ 0
      by true e = (row_room (digits_of s) (accepted_frame s g) g ((is_room_exactly origin (survivors (digits_of s))).0 e)).number
      by false e = (row_other (digits_of s) (accepted_frame s g) g (λ r. let z : ◌≡◌ {A = ℕ} 0 1 = cc ((is_room_exactly origin (survivors (digits_of s))).1 r) in omega arith)).number

  pub row_refused_exactly : (q : Refusal) → (number_at (cell_of n ++ entry_of s) 1 ≡ refusal_number q) × (number_at (cell_of n ++ entry_of s) 2 ≡ refusal_place q) ↔ GivenLine s (Err q)
  row_refused_exactly q = (λ e. let x = line_given s in by e x.0 x.1, λ g. let r = row_refused q g in (r.number, r.place))
    where
      by : (number_at row 1 ≡ refusal_number q) × (number_at row 2 ≡ refusal_place q) → (j : Judged) → GivenLine s j → GivenLine s (Err q)
      by e (Ok _) g = absurd (omega (arith, e.0, row_accepted g, number_few q))
      by e (Err r) g = let x = row_refused r g in subst (λ (y : Refusal). GivenLine s (Err y)) (refusal_same r q (sym x.number ∙ e.0) (sym x.place ∙ e.1)) g

  pub row_accepted_exactly : number_at (cell_of n ++ entry_of s) 1 ≡ 0 ↔ GivenLine s (Ok tt)
  row_accepted_exactly = (λ e. let x = line_given s in by e x.0 x.1, row_accepted)
    where
      by : number_at row 1 ≡ 0 → (j : Judged) → GivenLine s j → GivenLine s (Ok tt)
      by e (Ok _) g = g
      by e (Err r) g = absurd (omega (arith, e, (row_refused r g).number, number_few r))
