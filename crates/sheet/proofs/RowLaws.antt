-- Every line of the input has one row of the sheet, with its number.
-- Assumes nothing.
use Rattle.std.specs.Prelude.{Err, Ok}
use mathlib.Core.Path.{◌≡◌, refl, sym, ap, ◌∙◌}
use mathlib.Core.Bool.{Bool, true, false, not, cond}
use mathlib.Core.List.{List, [], ◌∷◌, ◌++◌, append_assoc}
use Prim.Native.Nat.{ℕ, zero, suc, ◌+◌, ◌<◌}
use native.Mathlib.Omega.{arith}
use lib.IntN.{ℤ, pos, negsuc}
use lib.Dec.{eqb}
use lib.ListN.{length}
use Rattle.answer.specs.Answers.{Answer}
use Rattle.lists.specs.Lists.{tally}
use Rattle.grid.specs.Grid.{origin}
use Rattle.answer.specs.declared.Facts.{Facts}
use Rattle.answer.specs.Refusal.{verdict_number, refusal_number, refusal_place}
use Rattle.polygon.specs.Polygon.{polygon_of}
use Rattle.room.specs.Room.{is_room}
use Rattle.steps.specs.Operations.{survivors}
use Rattle.line_frame.specs.Hex.{hex_of}
use Rattle.line_frame.specs.Line.{digits_of, line_walked}
use Rattle.line_frame.specs.Program.{output_from, feeds_in}
use Rattle.line_frame.proofs.OutputLaws.{feeds_in-append, feeds_in_feed, feeds_in-more, output_line, output_last}
use Rattle.line_frame.proofs.HexLaws.{none-append, field_feeds}
use Rattle.sheet.specs.Decimal.{decimal_of, signed_of}
use Rattle.sheet.specs.Sizes.{most_decimals}
use Rattle.sheet.specs.Entry.{cell_of, cells_of, empty_cells, fact_count, refused_cells, hex_bytes, polygon_cell, entry_by, entry_of}
use Rattle.sheet.specs.Sheet.{entered, entries, numbered_from, entries_from, begins_after, lines_in, header, sheet}
use Rattle.sheet.proofs.NumberLaws.{decimal_feeds, cell_feeds, numbered_feeds}

signed_feeds : (k : ℕ) (z : ℤ) → feeds_in (signed_of k z) ≡ 0
signed_feeds k (pos n) = decimal_feeds k n
signed_feeds k (negsuc n) = feeds_in-more 45 (decimal_of k (suc n)) refl ∙ decimal_feeds k (suc n)

cells_feeds : (number place : ℕ) (f : Facts) → feeds_in (cells_of number place f) ≡ 0
cells_feeds number place f =
    let more : (l : List ℕ) (n : ℕ) → feeds_in l ≡ 0 → feeds_in (l ++ cell_of n) ≡ 0 = λ l n h. none-append l (cell_of n) h (cell_feeds n) in
    let l2 : List ℕ = cell_of number ++ cell_of place in
    let l3 : List ℕ = l2 ++ cell_of (verdict_number f.verdict) in
    let l4 : List ℕ = l3 ++ cell_of f.steps in
    let l5 : List ℕ = l4 ++ cell_of f.nodes in
    let l6 : List ℕ = l5 ++ cell_of f.corners in
    let l7 : List ℕ = l6 ++ cell_of f.j in
    let l8 : List ℕ = l7 ++ cell_of f.k in
    let h2 = more (cell_of number) place (cell_feeds number) in
    let h5 = more l4 f.nodes (more l3 f.steps (more l2 (verdict_number f.verdict) h2)) in
    let h8 = more l7 f.k (more l6 f.j (more l5 f.corners h5)) in
    none-append (l8 ++ signed_of most_decimals f.area) (44 ∷ []) (none-append l8 (signed_of most_decimals f.area) h8 (signed_feeds most_decimals f.area)) refl

bytes_feeds : (s : List ℕ) → feeds_in (hex_bytes s) ≡ 0
unfolding hex_bytes
bytes_feeds [] = refl
bytes_feeds (b ∷ s) = none-append (hex_of 2 b) (hex_bytes s) (field_feeds 2 b) (bytes_feeds s)

polygon_feeds : (w : List ℕ) → feeds_in (polygon_cell w) ≡ 0
polygon_feeds w = go (is_room origin w)
  where
    go : (t : Bool) → feeds_in (cond t (hex_bytes (polygon_of origin w)) []) ≡ 0
    go true = bytes_feeds (polygon_of origin w)
    go false = refl

empty_feeds : (k : ℕ) → feeds_in (empty_cells k) ≡ 0
unfolding empty_cells
empty_feeds zero = refl
empty_feeds (suc k) = none-append (empty_cells k) (44 ∷ []) (empty_feeds k) refl

refused_feeds : (number place : ℕ) → feeds_in (refused_cells number place) ≡ 0
refused_feeds number place = none-append (cell_of number ++ cell_of place) (empty_cells fact_count) (none-append (cell_of number) (cell_of place) (cell_feeds number) (cell_feeds place)) (empty_feeds fact_count)

by_feeds : (a : Answer) (w : List ℕ) → feeds_in (entry_by a w) ≡ 0
by_feeds (Ok f) w = none-append (cells_of 0 0 f) (polygon_cell w) (cells_feeds 0 0 f) (polygon_feeds w)
by_feeds (Err r) w = refused_feeds (refusal_number r) (refusal_place r)

-- what is said of a line is one line
entry_feeds : (s : List ℕ) → feeds_in (entry_of s) ≡ 0
unfolding entry_of
entry_feeds s = by_feeds (line_walked s) (survivors (digits_of s))

entered_feeds : (s : List ℕ) → feeds_in (entered s) ≡ 1
entered_feeds s = omega (arith, feeds_in-append (entry_of s) (10 ∷ []), entry_feeds s)

-- the rest of a line, and a line from its number on
numbered_rest : (n : ℕ) (e t : List ℕ) → feeds_in e ≡ 0 → numbered_from false n (e ++ (10 ∷ t)) ≡ e ++ (10 ∷ numbered_from true (suc n) t)
unfolding numbered_from
numbered_rest n [] t h = refl
numbered_rest n (b ∷ e) t h = go (eqb b 10) refl (λ k. numbered_rest n e t k)
  where
    go : (c : Bool) → eqb b 10 ≡ c → (feeds_in e ≡ 0 → numbered_from false n (e ++ (10 ∷ t)) ≡ e ++ (10 ∷ numbered_from true (suc n) t))
        → b ∷ numbered_from c (cond c (suc n) n) (e ++ (10 ∷ t)) ≡ b ∷ (e ++ (10 ∷ numbered_from true (suc n) t))
    go true p f = absurd (omega (arith, feeds_in_feed b e p))
    go false p f = ap (λ (l : List ℕ). b ∷ l) (f (omega (arith, feeds_in-more b e p)))

numbered_line : (n : ℕ) (e t : List ℕ) → feeds_in e ≡ 0 → numbered_from true n (e ++ (10 ∷ t)) ≡ cell_of n ++ (e ++ (10 ∷ numbered_from true (suc n) t))
unfolding numbered_from
numbered_line n [] t h = refl
numbered_line n (b ∷ e) t h = go (eqb b 10) refl
  where
    go : (c : Bool) → eqb b 10 ≡ c → cell_of n ++ (b ∷ numbered_from c (cond c (suc n) n) (e ++ (10 ∷ t))) ≡ cell_of n ++ (b ∷ (e ++ (10 ∷ numbered_from true (suc n) t)))
    go true p = absurd (omega (arith, feeds_in_feed b e p))
    go false p = ap (λ (l : List ℕ). cell_of n ++ (b ∷ l)) (numbered_rest n e t (omega (arith, feeds_in-more b e p)))

-- a line that a line feed ends has its number and what is said of it, and then come the rows of the rest
pub rows_line : (n : ℕ) (l s : List ℕ) → feeds_in l ≡ 0 → entries_from n (l ++ (10 ∷ s)) ≡ (cell_of n ++ entered l) ++ entries_from (suc n) s
rows_line n l s h =
    ap (numbered_from true n) (output_line entered entered l s h ∙ append_assoc (entry_of l) (10 ∷ []) (entries s))
    ∙ numbered_line n (entry_of l) (entries s) (entry_feeds l)
    ∙ ap (λ (x : List ℕ). cell_of n ++ x) (sym (append_assoc (entry_of l) (10 ∷ []) (entries_from (suc n) s)))
    ∙ sym (append_assoc (cell_of n) (entered l) (entries_from (suc n) s))

-- so has a last line that lacks it
pub rows_last : (n : ℕ) (l : List ℕ) → feeds_in l ≡ 0 → 0 < length l → entries_from n l ≡ cell_of n ++ entered l
unfolding numbered_from
rows_last n l h p = ap (numbered_from true n) (output_last entered entered l h p) ∙ numbered_line n (entry_of l) [] (entry_feeds l)

-- and there is nothing else
pub rows_none : (n : ℕ) → entries_from n [] ≡ []
unfolding numbered_from output_from
rows_none n = refl

-- nothing was read of a line
abbrev is_none : List ℕ → Bool
is_none [] = true
is_none (b ∷ r) = false

none_snoc : (r : List ℕ) (b : ℕ) → is_none (r ++ (b ∷ [])) ≡ false
none_snoc [] b = refl
none_snoc (a ∷ r) b = refl

-- an output that has one line for each line has as many as there are
module _ (told : List ℕ → List ℕ) (one : (l : List ℕ) → feeds_in (told l) ≡ 1) where
  output_feeds : (r s : List ℕ) → feeds_in (output_from told told r s) ≡ feeds_in s + tally (not (begins_after (is_none r) s))
  unfolding output_from begins_after
  output_feeds [] [] = refl
  output_feeds (b ∷ r) [] = one (b ∷ r)
  output_feeds r (b ∷ s) = go (eqb b 10) refl (output_feeds [] s) (output_feeds (r ++ (b ∷ [])) s)
    where
      go : (c : Bool) → eqb b 10 ≡ c → feeds_in (output_from told told [] s) ≡ feeds_in s + tally (not (begins_after true s))
          → feeds_in (output_from told told (r ++ (b ∷ [])) s) ≡ feeds_in s + tally (not (begins_after (is_none (r ++ (b ∷ []))) s))
          → feeds_in (elim c [ true ↦ told r ++ output_from told told [] s | false ↦ output_from told told (r ++ (b ∷ [])) s ]) ≡ feeds_in (b ∷ s) + tally (not (begins_after c s))
      go true e f g = omega (arith, feeds_in-append (told r) (output_from told told [] s), one r, f, feeds_in_feed b s e)
      go false e f g = omega (arith, g, feeds_in-more b s e, ap (λ (t : Bool). tally (not (begins_after t s))) (none_snoc r b))

  pub output_lines : (s : List ℕ) → feeds_in (output_from told told [] s) ≡ lines_in s
  output_lines s = output_feeds [] s

-- as many rows as lines, after the header
pub sheet-rows : (s : List ℕ) → feeds_in (sheet s) ≡ suc (lines_in s)
sheet-rows s = omega (arith, feeds_in-append header (entries_from 1 s), numbered_feeds true 1 (entries s), output_lines entered entered_feeds s)
