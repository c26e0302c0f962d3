-- Orders of spans, decided; the refusals and the buffer of the call, computed.
-- Assumes nothing.
use Rattle.std.specs.Prelude.{Err, Ok}
use mathlib.Core.List.{[], ◌∷◌}
use mathlib.Core.Logic.{inl, inr, ⊎_elim}
use mathlib.Core.Path.{◌≡◌, refl}
use Prim.Native.Nat.{ℕ}
use native.Mathlib.Omega.{arith}
use lib.IntN.{ℤ, pos, negsuc}
use lib.Signed.{le_z_yes, lt_z_yes}
use Rattle.answer.specs.declared.Refusal.TheVariants.{NotRoom, SpanRoom}
use Rattle.answer.specs.Listed.{laid_if}
use Rattle.grid.specs.Grid.{corner, origin, panel_at}
use Rattle.row.specs.{Rows.Span, Rows.OnSpan, Rows.InOrder, Rows.lengths_of, Call.rows_judged, Rows.span_numbers}

abbrev pub span : ℤ → ℤ → ℤ → Span
span b x y = record { row = b; first = x; last = y }

-- two spans with a panel between, and one in the row above that begins further west
pub in_order : InOrder (span (pos 0) (pos 0) (pos 1) ∷ span (pos 0) (pos 3) (pos 3) ∷ span (pos 1) (negsuc 0) (negsuc 0) ∷ [])
in_order = (le_z_yes tt, (inr (refl, lt_z_yes tt), (inl (lt_z_yes tt), tt)), (le_z_yes tt, (inl (lt_z_yes tt), tt), (le_z_yes tt, tt, tt)))

-- one span cut in two is not the list
pub touching : InOrder (span (pos 0) (pos 0) (pos 0) ∷ span (pos 0) (pos 1) (pos 1) ∷ []) → ⊥
touching h = ⊎_elim (λ k. k.lt) (λ k. k.1.lt) h.1.0

-- nor is one from north to south, nor one with a span of no panel
pub north-first : InOrder (span (pos 1) (pos 0) (pos 0) ∷ span (pos 0) (pos 2) (pos 2) ∷ []) → ⊥
north-first h = ⊎_elim (λ k. k.lt) (λ k. one k.0) h.1.0
  where
    one : pos 1 ≡ pos 0 → ⊥
    one e = let z : ◌≡◌ {A = ℕ} 0 1 = cc in omega arith

empty_span : InOrder (span (pos 0) (pos 1) (pos 0) ∷ []) → ⊥
empty_span h = h.0.le

-- the first and the last panel are on a span
on_both-ends : OnSpan (span (pos 4) (negsuc 0) (pos 1)) (panel_at (corner (negsuc 0) (pos 4))) × OnSpan (span (pos 4) (negsuc 0) (pos 1)) (panel_at (corner (pos 1) (pos 4)))
on_both-ends = (record { row = refl; after = le_z_yes tt; before = le_z_yes tt }, record { row = refl; after = le_z_yes tt; before = le_z_yes tt })

-- both ends count
lengths : lengths_of (span (pos 0) (pos 0) (pos 1) ∷ span (pos 0) (pos 3) (pos 3) ∷ span (pos 1) (negsuc 0) (negsuc 0) ∷ []) ≡ 4
lengths = refl

-- what is not a room is refused before a buffer that is too short
not_a-room-first : rows_judged origin (0 ∷ 2 ∷ []) 0 1 ≡ Err NotRoom
not_a-room-first = refl

-- three numbers for each span are enough, two are not
three-numbers : rows_judged origin (0 ∷ 1 ∷ 2 ∷ 3 ∷ []) 3 1 ≡ Ok tt
three-numbers = refl

two-numbers : rows_judged origin (0 ∷ 1 ∷ 2 ∷ 3 ∷ []) 2 1 ≡ Err SpanRoom
two-numbers = refl

-- row, first panel, last panel, and a number that stays
written : laid_if (Ok tt) (span_numbers (span (negsuc 1) (pos 3) (pos 5) ∷ [])) (pos 7 ∷ pos 7 ∷ pos 7 ∷ pos 7 ∷ []) ≡ negsuc 1 ∷ pos 3 ∷ pos 5 ∷ pos 7 ∷ []
written = refl
