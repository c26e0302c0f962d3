-- Every pair of closed walks has the list of each part.
-- Assumes nothing.
use mathlib.Core.Bool.{Bool, true, false, true≢false}
use mathlib.Core.List.Memᴰ
use mathlib.Core.List.{List, [], ◌++◌}
use mathlib.Core.Logic.{◌⊎◌, inl, inr, ◌↔◌, ⊎_elim, ⊎_map}
use mathlib.Core.Path.{◌≡◌, refl, ap, ap₂, sym, ◌∙◌}
use Prim.Native.Nat.{ℕ, ◌+◌, ◌%◌}
use borrow.Author.Tests.{eqb-true, eq-eqb}
use lib.Dec.{eqb}
use lib.ListN.{length, length-append}
use Rattle.lists.proofs.DistinctLaws.{distinct_append}
use Rattle.grid.specs.declared.{Corner.Corner, Panel.Panel}
use Rattle.grid.specs.Grid.{end_from}
use Rattle.panels.specs.Edges.{edges_from, beside}
use Rattle.panels.specs.Inside.{edges_beside, Inside, inside, ListsInside}
use Rattle.area_laws.proofs.EvenLaws.{row_even}
use Rattle.row.specs.Rows.{Span, RowsIs, lengths_of}
use Rattle.row_laws.proofs.FootLaws.{feet_in_turn, feet_parity}
use Rattle.row_laws.proofs.PairLaws.{on_row}
use Rattle.row_laws.proofs.OneLaws.{rows_is_one}
use Rattle.row_laws.proofs.SpanLaws.{panels_of, length_panels, spans_panels}
use Rattle.overlay.specs.declared.{Part.Part, Part.TheVariants.First, Part.TheVariants.Second, Part.TheVariants.Both}
use Rattle.overlay.specs.Overlay.{InPart}
use Rattle.overlay_laws.specs.Sweep.{part_has, ends_of_walk, lists_of}
use Rattle.overlay_laws.proofs.PartLaws.{within, Ends, part_rows}

pub none-none : (k : Part) → part_has k false false ≡ false
none-none First = refl
none-none Second = refl
none-none Both = refl

pub walk_ends : (s : Corner) (ds : List ℕ) → end_from s ds ≡ s → Ends (ends_of_walk s ds)
walk_ends s ds e = record { sorted = feet_in_turn (edges_from s ds); even = λ b. feet_parity (on_row b) (edges_from s ds) ∙ row_even b s ds e }

within-inside : (s : Corner) (ds : List ℕ) (p : Panel) → within (ends_of_walk s ds) p ≡ inside s ds p
within-inside s ds p = ap (λ (n : ℕ). eqb n 1) (feet_parity (beside p) (edges_from s ds))

-- the test of a part is the part
has_in : (k : Part) (s : Corner) (ds : List ℕ) (t : Corner) (es : List ℕ) (p : Panel) → (part_has k (inside s ds p) (inside t es p) ≡ true) ↔ InPart k s ds t es p
has_in k s ds t es p = by k (inside s ds p) (inside t es p) refl refl
  where
    yes_in : (c : Corner) (l : List ℕ) → inside c l p ≡ true → Inside c l p
    yes_in c l e = eqb-true (edges_beside c l p % 2) 1 e

    not_in : (c : Corner) (l : List ℕ) → inside c l p ≡ false → Inside c l p → ⊥
    not_in c l e i = true≢false (sym (eq-eqb (edges_beside c l p % 2) 1 i) ∙ e)

    by : (k : Part) (a b : Bool) → inside s ds p ≡ a → inside t es p ≡ b → (part_has k a b ≡ true) ↔ InPart k s ds t es p
    by First true true e f = (λ h. absurd (true≢false (sym h)), λ h. absurd (h.1 (yes_in t es f)))
    by First true false e f = (λ h. (yes_in s ds e, not_in t es f), λ h. refl)
    by First false b e f = (λ h. absurd (true≢false (sym h)), λ h. absurd (not_in s ds e h.0))
    by Second true true e f = (λ h. absurd (true≢false (sym h)), λ h. absurd (h.1 (yes_in s ds e)))
    by Second false true e f = (λ h. (yes_in t es f, not_in s ds e), λ h. refl)
    by Second a false e f = (λ h. absurd (true≢false (sym h)), λ h. absurd (not_in t es f h.0))
    by Both true true e f = (λ h. (yes_in s ds e, yes_in t es f), λ h. refl)
    by Both true false e f = (λ h. absurd (true≢false (sym h)), λ h. absurd (not_in t es f h.1))
    by Both false b e f = (λ h. absurd (true≢false (sym h)), λ h. absurd (not_in s ds e h.0))

-- the list of a part
pub lists-rows : (s : Corner) (ds : List ℕ) (t : Corner) (es : List ℕ) → end_from s ds ≡ s → end_from t es ≡ t → (k : Part) → RowsIs (InPart k s ds t es) (lists_of s ds t es k)
lists-rows s ds t es e f k =
    let r = part_rows (ends_of_walk s ds) (ends_of_walk t es) (walk_ends s ds e) (walk_ends t es f) (part_has k) (none-none k) in
    let w : (p : Panel) → part_has k (within (ends_of_walk s ds) p) (within (ends_of_walk t es) p) ≡ part_has k (inside s ds p) (inside t es p) = λ p. ap₂ (part_has k) (within-inside s ds p) (within-inside t es p) in
    record { order = r.order; panels = λ p. (λ n. (has_in k s ds t es p).0 (sym (w p) ∙ (r.panels p).0 n), λ n. (r.panels p).1 (w p ∙ (has_in k s ds t es p).1 n)) }

-- ---- how many panels the parts have

-- what is in the first room is in the first only or in both
first_or_both : (s : Corner) (ds : List ℕ) (t : Corner) (es : List ℕ) (p : Panel) → Inside s ds p ↔ (InPart First s ds t es p ⊎ InPart Both s ds t es p)
first_or_both s ds t es p = (λ h. by h (inside t es p) refl, ⊎_elim (λ h. h.0) (λ h. h.0))
  where
    by : Inside s ds p → (b : Bool) → inside t es p ≡ b → InPart First s ds t es p ⊎ InPart Both s ds t es p
    by h true e = inr (h, eqb-true (edges_beside t es p % 2) 1 e)
    by h false e = inl (h, λ i. true≢false (sym (eq-eqb (edges_beside t es p % 2) 1 i) ∙ e))

-- the panels of both lists are those of the first room, each once
pub parts_listed : (s : Corner) (ds : List ℕ) (t : Corner) (es : List ℕ) (L M : List Span) → RowsIs (InPart First s ds t es) L → RowsIs (InPart Both s ds t es) M → ListsInside s ds (panels_of L ++ panels_of M)
parts_listed s ds t es L M h k =
    let x = spans_panels (InPart First s ds t es) L h in
    let y = spans_panels (InPart Both s ds t es) M k in
    record {
      once = distinct_append (panels_of L) (panels_of M) x.0 y.0 (λ p m n. ((x.1 p).0 m).1 ((y.1 p).0 n).1);
      panels = λ p. (
        (λ m. (first_or_both s ds t es p).1 (⊎_map (x.1 p).0 (y.1 p).0 (Memᴰ.append_cases (panels_of L) m))),
        (λ i. ⊎_elim (λ g. Memᴰ.append_left (panels_of M) ((x.1 p).1 g)) (λ g. Memᴰ.append_right (panels_of L) ((y.1 p).1 g)) ((first_or_both s ds t es p).0 i)),
      );
    }

pub length_parts : (L M : List Span) → length (panels_of L ++ panels_of M) ≡ lengths_of L + lengths_of M
length_parts L M = length-append (panels_of L) (panels_of M) ∙ ap₂ ◌+◌ (length_panels L) (length_panels M)

-- a set without panels has an empty list
pub none_listed : (M : Panel → Type 0) (L : List Span) → RowsIs M L → ((p : Panel) → M p → ⊥) → L ≡ []
none_listed M L k f = rows_is_one M L [] k (record { order = tt; panels = λ p. (λ n. absurd n, λ m. absurd (f p m)) })
