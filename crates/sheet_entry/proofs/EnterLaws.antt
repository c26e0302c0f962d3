-- What is said of a line: the polygon of a frame's steps, and a walk that is accepted or refused.
-- Assumes nothing.
use Rattle.std.specs.Prelude.{Err, Ok}
use mathlib.Core.Path.{◌≡◌, refl, sym, ap, ◌∙◌, subst}
use mathlib.Core.Bool.{Bool, true, false, not, cond}
use mathlib.Core.List.{List, []}
use Prim.Native.Nat.{ℕ, ◌+◌, ◌≤◌}
use native.Mathlib.Omega.{arith}
use borrow.Author.Tests.{le-ltb}
use lib.ListN.{length, take, drop}
use lib.Seq.{take_at}
use Rattle.answer.specs.Answers.{Answer, Counted, Judged}
use Rattle.lists.specs.Lists.{Below}
use Rattle.grid.specs.Grid.{origin}
use Rattle.answer.specs.declared.Facts.{Facts}
use Rattle.answer.specs.declared.Refusal.{Refusal}
use Rattle.answer.specs.declared.Refusal.TheVariants.{NotRoom, PolygonRoom}
use Rattle.answer.specs.Refusal.{when, or_else}
use Rattle.answer.specs.Listed.{counted_of, laid_if}
use Rattle.steps.proofs.ChainLaws.{walk_good}
use Rattle.room.specs.Room.{is_room, as_room_judged}
use Rattle.room.proofs.RoomLaws.{judged-room}
use Rattle.polygon.specs.Polygon.{polygon_of, polygon_judged, PolygonCall}
use Rattle.line_frame.specs.Sizes.{most_digits}
use Rattle.line_frame.specs.Line.{digits_of, line_walked}
use Rattle.line_fields.specs.Put.{Wrote}
use Rattle.line_fields.proofs.PutLaws.{wrote_append}
use Rattle.line_walk.specs.Walk.{WalkedBy}
use Rattle.sheet.specs.Sizes.{most_polygon, most_entry}
use Rattle.sheet.specs.Entry.{cells_of, hex_bytes, polygon_cell, entry_by, entry_of}
use Rattle.sheet.proofs.SizeLaws.{polygon_of_most, polygon_cell_most, length-cells_of}
use Rattle.sheet.proofs.EntryLaws.{entry_of-by}

-- the steps of a frame as a room: refusal 12 alone
module _ (w : List ℕ) (b : Below 4 w) (m : length w ≤ most_digits) where
  room-judged : as_room_judged origin w ≡ when (not (is_room origin w)) NotRoom
  room-judged = judged-room origin w (walk_good origin w refl (record { digits = b; few = omega arith }))

  polygon_judged_lem : (room : ℕ) → most_polygon ≤ room → polygon_judged origin w room ≡ when (not (is_room origin w)) NotRoom
  polygon_judged_lem room h =
      ap (λ (t : Bool). or_else (as_room_judged origin w) (or_else (when t PolygonRoom) (Ok tt))) (le-ltb room (length (polygon_of origin w)) (omega (arith, polygon_of_most origin w m)))
      ∙ ap (λ (j : Judged). or_else j (Ok tt)) room-judged
      ∙ last (is_room origin w)
    where
      last : (t : Bool) → or_else (when (not t) NotRoom) (Ok tt) ≡ when (not t) NotRoom
      last true = refl
      last false = refl

  module _ {before after : List ℕ} {r : Counted} (h : PolygonCall origin w before r after) (room : length before ≡ most_polygon) where
    by : r ≡ counted_of (when (not (is_room origin w)) NotRoom) (length (polygon_of origin w))
    by = h.answer ∙ ap (λ (j : Judged). counted_of j (length (polygon_of origin w))) (polygon_judged_lem (length before) (omega arith))

    buffer : after ≡ laid_if (when (not (is_room origin w)) NotRoom) (polygon_of origin w) before
    buffer = h.buffer ∙ ap (λ (j : Judged). laid_if j (polygon_of origin w) before) (polygon_judged_lem (length before) (omega arith))

    -- a room has its polygon at the start of the buffer
    pub polygon_many : (n : ℕ) → r ≡ Ok n → (n ≤ most_polygon) × (hex_bytes (take n after) ≡ polygon_cell w)
    polygon_many n e = go (is_room origin w) by buffer
      where
        go : (t : Bool) → r ≡ counted_of (when (not t) NotRoom) (length (polygon_of origin w))
            → after ≡ laid_if (when (not t) NotRoom) (polygon_of origin w) before
            → (n ≤ most_polygon) × (hex_bytes (take n after) ≡ cond t (hex_bytes (polygon_of origin w)) [])
        go true p q =
            let k : n ≡ length (polygon_of origin w) = cc in (
              omega (arith, polygon_of_most origin w m),
              ap (λ (l : List ℕ). hex_bytes (take n l)) q ∙ ap hex_bytes (take_at (polygon_of origin w) (drop (length (polygon_of origin w)) before) n (sym k)),
            )
        go false p q = let z : ◌≡◌ {A = ℕ} 0 1 = cc in absurd (omega arith)

    -- any other walk has none
    pub polygon_none : (x : Refusal) → r ≡ Err x → [] ≡ polygon_cell w
    polygon_none x e = go (is_room origin w) by
      where
        go : (t : Bool) → r ≡ counted_of (when (not t) NotRoom) (length (polygon_of origin w)) → [] ≡ cond t (hex_bytes (polygon_of origin w)) []
        go true p = let z : ◌≡◌ {A = ℕ} 0 1 = cc in absurd (omega arith)
        go false p = refl

-- the facts, and then the polygon
pub wrote_accepted : (f : Facts) (w : List ℕ) (at : ℕ) {i e : ℕ} {a b c : List ℕ} → length w ≤ most_digits → at + most_entry ≤ length a → Wrote (cells_of 0 0 f) at a i b → Wrote (polygon_cell w) i b e c
    → Wrote (entry_by (Ok f) w) at a e c
wrote_accepted f w at m h p q = wrote_append p q (omega (arith, length-cells_of 0 0 f, polygon_cell_most w m))

-- the steps of an accepted walk, and a refusal
module _ (s : List ℕ) {r : Answer} {ch : List ℕ} (w : WalkedBy (line_walked s) (digits_of s) r ch) where
  pub walk_accepted : (f : Facts) → r ≡ Ok f → entry_by (Ok f) (take f.steps ch) ≡ entry_of s
  walk_accepted f e =
      ap (entry_by (Ok f)) (w.survived f e).chain
      ∙ entry_of-by s (Ok f) (sym w.answer ∙ e)

  pub steps_good : (f : Facts) → r ≡ Ok f → Below 4 (take f.steps ch) × (length (take f.steps ch) ≤ most_digits)
  steps_good f e =
      let g = w.survived f e in
      subst (λ (l : List ℕ). Below 4 l × (length l ≤ most_digits)) (sym g.chain) (g.digits, g.few)

  pub walk_refused : (x : Refusal) → r ≡ Err x → entry_by (Err x) [] ≡ entry_of s
  walk_refused x e = entry_of-by s (Err x) (sym w.answer ∙ e)
