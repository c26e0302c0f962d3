-- The panels of spans in order, each once: if the spans are the rows of a walk, they are the panels inside it.
-- Assumes nothing.
use mathlib.Core.List.Memᴰ
use mathlib.Core.List.{List, [], ◌∷◌, ◌++◌, Memᴰ}
use mathlib.Core.Logic.{◌↔◌, ⊎_elim, ⊎_map}
use mathlib.Core.Path.{◌≡◌, refl, ap}
use Prim.Native.Nat.{ℕ, zero, suc}
use native.Mathlib.Omega.{arith}
use lib.IntN.{ℤ, pos, suc_ℤ, ◌+ℤ◌}
use lib.ListN.{length, length-append}
use lib.Signed.{◌≤ℤ◌}
use Rattle.int_laws.proofs.LinearLaws.{zarith}
use Rattle.int_laws.proofs.NextLaws.{bal_suc, above}
use Rattle.lists.specs.Lists.{Distinct}
use Rattle.lists.proofs.DistinctLaws.{distinct_append}
use Rattle.grid.specs.declared.{Corner.Corner, Panel.Panel}
use Rattle.panels.specs.Inside.{Inside, ListsInside}
use Rattle.panels.specs.Box.{panel_row}
use Rattle.row.specs.Rows.{Span, OnSpan, Covers, Before, Every, InOrder, RowsIs, span_length, lengths_of}
use Rattle.area_laws.proofs.PanelLaws.{row-mem, mem-row, row_once}

-- the panels of a span, and of a list of spans
abbrev panels_on : Span → List Panel
panels_on s = panel_row s.row s.first (span_length s)

abbrev pub panels_of : List Span → List Panel
panels_of [] = []
panels_of (s ∷ l) = panels_on s ++ panels_of l

length-row : (b a : ℤ) (n : ℕ) → length (panel_row b a n) ≡ n
length-row b a zero = refl
length-row b a (suc n) = ap suc (length-row b (suc_ℤ a) n)

pub length_panels : (l : List Span) → length (panels_of l) ≡ lengths_of l
length_panels [] = refl
length_panels (s ∷ l) = omega (arith, length-append (panels_on s) (panels_of l), length-row s.row s.first (span_length s), length_panels l)

-- the end of a span is its length further
span_end : (s : Span) → s.first ≤ℤ s.last → suc_ℤ s.last ≡ s.first +ℤ pos (span_length s)
span_end s h = above s.first (suc_ℤ s.last) (omega (zarith, bal_suc s.last))

on_mem : (s : Span) (p : Panel) → s.first ≤ℤ s.last → Memᴰ p (panels_on s) ↔ OnSpan s p
on_mem s p h = (
  λ m. let g = row-mem s.row s.first (span_length s) p m in record { row = g.row; after = g.west; before = omega (zarith, g.east, span_end s h, bal_suc s.last) },
  λ g. mem-row s.row s.first (span_length s) p (record { row = g.row; west = g.after; east = omega (zarith, g.before, span_end s h, bal_suc s.last) }),
)

covers_mem : (l : List Span) → InOrder l → (p : Panel) → Memᴰ p (panels_of l) ↔ Covers l p
covers_mem [] o p = (λ m. absurd (Memᴰ.not-nil m), λ f. absurd f)
covers_mem (s ∷ l) o p = (
  λ m. ⊎_map (on_mem s p o.0).0 (covers_mem l o.2 p).0 (Memᴰ.append_cases (panels_on s) m),
  λ k. ⊎_elim (λ g. Memᴰ.append_left (panels_of l) ((on_mem s p o.0).1 g)) (λ g. Memᴰ.append_right (panels_on s) ((covers_mem l o.2 p).1 g)) k,
)

-- spans in order have no panel in common
apart : (s : Span) (l : List Span) (p : Panel) → Every (Before s) l → OnSpan s p → Covers l p → ⊥
apart s [] p e g k = k
apart s (t ∷ l) p e g k = ⊎_elim (λ h. ⊎_elim (λ b. omega (zarith, b, g.row, h.row)) (λ b. omega (zarith, b.1, g.before, h.after, bal_suc s.last)) e.0) (apart s l p e.1 g) k

panels_distinct : (l : List Span) → InOrder l → Distinct (panels_of l)
panels_distinct [] o = tt
panels_distinct (s ∷ l) o =
    distinct_append (panels_on s) (panels_of l) (row_once s.row s.first (span_length s)) (panels_distinct l o.2)
    (λ p m n. apart s l p o.1 ((on_mem s p o.0).0 m) ((covers_mem l o.2 p).0 n))

-- the panels of the spans are those of the set, each once
pub spans_panels : (M : Panel → Type 0) (L : List Span) → RowsIs M L → Distinct (panels_of L) × ((p : Panel) → Memᴰ p (panels_of L) ↔ M p)
spans_panels M L k = (panels_distinct L k.order, λ p. (λ m. (k.panels p).0 ((covers_mem L k.order p).0 m), λ i. (covers_mem L k.order p).1 ((k.panels p).1 i)))

-- of a walk, those inside
pub spans_listed : (c : Corner) (ds : List ℕ) (L : List Span) → RowsIs (Inside c ds) L → ListsInside c ds (panels_of L)
spans_listed c ds L k = let h = spans_panels (Inside c ds) L k in record { once = h.0; panels = h.1 }
