-- Spans of panels by rows (RULES 14.2, 14.3). Assumes nothing.
use Rattle.std.specs.Prelude.{◌≡◌, List, [], ◌∷◌, ◌⊎◌, ◌↔◌, ℕ, ◌+◌, ℤ, nat_abs, ◌-ℤ◌, ◌≤ℤ◌, ◌<ℤ◌}
use Rattle.std.proofs.Math.IntN.{suc_ℤ}
use Rattle.grid.specs.declared.Panel.{Panel}

-- the panels of one row from the first to the last
pub record Span : Type 0 where
  pub row : ℤ
  pub first : ℤ
  pub last : ℤ

-- the panel is one of the span's
pub record OnSpan (s : Span) (p : Panel) : Type 0 where
  pub row : p.1 ≡ s.row
  pub after : s.first ≤ℤ p.0
  pub before : p.0 ≤ℤ s.last

-- it is in a span of the list
abbrev pub Covers : List Span → Panel → Type 0
Covers [] p = ⊥
Covers (s ∷ l) p = OnSpan s p ⊎ Covers l p

-- s comes before t and does not touch it: its row is further south, or in one row a panel at least lies between
abbrev pub Before : Span → Span → Type 0
Before s t = (s.row <ℤ t.row) ⊎ ((s.row ≡ t.row) × (suc_ℤ s.last <ℤ t.first))

abbrev pub Every : {A : Type 0} → (A → Type 0) → List A → Type 0
Every P [] = Unit {0}
Every P (x ∷ l) = P x × Every P l

-- rows from south to north, in each row spans from west to east, each of a panel at least, and none touch
abbrev pub InOrder : List Span → Type 0
InOrder [] = Unit {0}
InOrder (s ∷ l) = (s.first ≤ℤ s.last) × Every (Before s) l × InOrder l

-- L lists the panels of M by rows: a panel is in a span exactly when it is in M
pub record RowsIs (M : Panel → Type 0) (L : List Span) : Type 0 where
  pub order : InOrder L
  pub panels : (p : Panel) → Covers L p ↔ M p

-- q stands next to a span: in its row, one panel west or east of it at most, and not on it
pub record NextTo (s : Span) (q : Panel) : Type 0 where
  pub row : q.1 ≡ s.row
  pub west : s.first ≤ℤ suc_ℤ q.0
  pub east : q.0 ≤ℤ suc_ℤ s.last
  pub off : OnSpan s q → ⊥

-- how many panels a span has, and how many those of a list have together
abbrev pub span_length : Span → ℕ
span_length s = nat_abs (suc_ℤ s.last -ℤ s.first)

abbrev pub lengths_of : List Span → ℕ
lengths_of [] = 0
lengths_of (s ∷ l) = span_length s + lengths_of l

-- row, first and last panel of each span
abbrev pub span_numbers : List Span → List ℤ
span_numbers [] = []
span_numbers (s ∷ l) = s.row ∷ s.first ∷ s.last ∷ span_numbers l
