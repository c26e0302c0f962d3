-- There is only one list of rows.
-- Assumes nothing.
use mathlib.Core.List.Memᴰ
use mathlib.Core.List.{List, [], ◌∷◌, Memᴰ}
use mathlib.Core.Logic.{◌⊎◌, inl, inr, ⊎_elim}
use mathlib.Core.Path.{◌≡◌, refl, ap₂, sym, subst}
use lib.IntN.{ℤ, suc_ℤ}
use lib.Signed.{◌≤ℤ◌, ◌<ℤ◌, ≤ℤ_refl}
use Rattle.int_laws.proofs.LinearLaws.{zarith, le_or_lt}
use Rattle.int_laws.proofs.NextLaws.{bal_suc}
use Rattle.grid.specs.declared.Panel.{Panel}
use Rattle.grid.specs.Grid.{corner, panel_at}
use Rattle.row.specs.Rows.{Span, OnSpan, Covers, Before, Every, InOrder, RowsIs, NextTo}

abbrev panel : ℤ → ℤ → Panel
panel a b = panel_at (corner a b)

-- the order of panels: further south first, in one row further west first
abbrev From : ℤ → ℤ → Panel → Type 0
From b a p = (b <ℤ p.1) ⊎ ((b ≡ p.1) × (a ≤ℤ p.0))

-- a panel of a span that comes after s lies past the panel next to s
past_span : (s t : Span) (p : Panel) → Before s t → OnSpan t p → From s.row (suc_ℤ (suc_ℤ s.last)) p
past_span s t p (inl h) o = inl (omega (zarith, o.row))
past_span s t p (inr h) o = inr (omega (zarith, h.0, o.row), omega (zarith, h.1, o.after, bal_suc (suc_ℤ s.last)))

past_spans : (s : Span) (l : List Span) (p : Panel) → Every (Before s) l → Covers l p → From s.row (suc_ℤ (suc_ℤ s.last)) p
past_spans s [] p h n = absurd n
past_spans s (t ∷ l) p h n = ⊎_elim (past_span s t p h.0) (past_spans s l p h.1) n

-- the first panel of the first span comes first
head_first : (s : Span) (l : List Span) (p : Panel) → InOrder (s ∷ l) → Covers (s ∷ l) p → From s.row s.first p
head_first s l p h (inl o) = inr (sym o.row, o.after)
head_first s l p h (inr n) =
    ⊎_elim inl (λ g. inr (g.0, omega (zarith, h.0, g.1, bal_suc s.last, bal_suc (suc_ℤ s.last)))) (past_spans s l p h.1 n)

every_mem : {A : Type 0} (P : A → Type 0) (l : List A) (x : A) → Every P l → Memᴰ x l → P x
every_mem P [] x h m = absurd (Memᴰ.not-nil m)
every_mem P (y ∷ l) x h m = ⊎_elim (λ e. subst P (sym e) h.0) (every_mem P l x h.1) (Memᴰ.cases_cons m)

next_head : (s : Span) (l : List Span) (q : Panel) → Every (Before s) l → NextTo s q → Covers (s ∷ l) q → ⊥
next_head s l q h x (inl o) = x.off o
next_head s l q h x (inr n) =
    ⊎_elim (λ g. omega (zarith, g, x.row)) (λ g. omega (zarith, g.1, x.east, bal_suc (suc_ℤ s.last))) (past_spans s l q h n)

next-before : (t s : Span) (q : Panel) → Before t s → NextTo s q → OnSpan t q → ⊥
next-before t s q (inl h) x o = omega (zarith, h, x.row, o.row)
next-before t s q (inr h) x o = omega (zarith, h.1, x.west, o.before, bal_suc t.last, bal_suc q.0)

-- spans are as long as possible: no panel next to one is in any
spans_maximal : (l : List Span) (s : Span) (q : Panel) → InOrder l → Memᴰ s l → NextTo s q → Covers l q → ⊥
spans_maximal [] s q h m x n = n
spans_maximal (t ∷ l) s q h m x n =
    ⊎_elim
    (λ e. next_head t l q h.1 (subst (λ (z : Span). NextTo z q) e x) n)
    (λ k. ⊎_elim (next-before t s q (every_mem (Before t) l s h.1 k) x) (spans_maximal l s q h.2 k x) n)
    (Memᴰ.cases_cons m)

-- the panel past the end of a span
ends : (s : Span) → s.first ≤ℤ s.last → NextTo s (panel (suc_ℤ s.last) s.row)
ends s h = record { row = refl; west = omega (zarith, h, bal_suc (suc_ℤ s.last), bal_suc s.last); east = ≤ℤ_refl (suc_ℤ s.last); off = λ o. omega (zarith, o.before, bal_suc s.last) }

starts : (s : Span) → s.first ≤ℤ s.last → OnSpan s (panel s.first s.row)
starts s h = record { row = refl; after = ≤ℤ_refl s.first; before = h }

from-both : (a b : Panel) → From a.1 a.0 b → From b.1 b.0 a → (a.1 ≡ b.1) × (a.0 ≡ b.0)
from-both a b (inl h) (inl g) = absurd (omega (zarith, h, g))
from-both a b (inl h) (inr g) = absurd (omega (zarith, h, g.0))
from-both a b (inr h) (inl g) = absurd (omega (zarith, h.0, g))
from-both a b (inr h) (inr g) = (h.0, omega (zarith, h.1, g.1))

-- the shorter of two first spans would leave out a panel that the other has
no_longer : (s t : Span) (l m : List Span) → InOrder (s ∷ l) → ((p : Panel) → Covers (t ∷ m) p → Covers (s ∷ l) p) → s.row ≡ t.row → s.first ≡ t.first → t.last ≤ℤ s.last
no_longer s t l m h f r e = ⊎_elim (λ g. g) (λ g. absurd (next_head s l q h.1 (ends s h.0) (f q (inl (on g))))) (le_or_lt t.last s.last)
  where
    q : Panel
    q = panel (suc_ℤ s.last) s.row

    on : s.last <ℤ t.last → OnSpan t q
    on g = record { row = r; after = omega (zarith, e, h.0, bal_suc s.last); before = omega (zarith, g, bal_suc s.last) }

tails : (s : Span) (l m : List Span) → InOrder (s ∷ l) → ((p : Panel) → Covers (s ∷ l) p → Covers (s ∷ m) p) → (p : Panel) → Covers l p → Covers m p
tails s l m h f p n = ⊎_elim (λ o. absurd (apart o)) (λ k. k) (f p (inr n))
  where
    apart : OnSpan s p → ⊥
    apart o = ⊎_elim (λ g. omega (zarith, g, o.row)) (λ g. omega (zarith, g.1, o.before, bal_suc s.last, bal_suc (suc_ℤ s.last))) (past_spans s l p h.1 n)

-- two lists in order that cover the same panels are one
covers_one : (l m : List Span) → InOrder l → InOrder m → ((p : Panel) → Covers l p → Covers m p) → ((p : Panel) → Covers m p → Covers l p) → l ≡ m
covers_one [] [] h g f b = refl
covers_one [] (t ∷ m) h g f b = absurd (b (panel t.first t.row) (inl (starts t g.0)))
covers_one (s ∷ l) [] h g f b = absurd (f (panel s.first s.row) (inl (starts s h.0)))
covers_one (s ∷ l) (t ∷ m) h g f b = ap₂ ◌∷◌ e (covers_one l m h.2 g.2 (tails s l m h (λ p n. over p (f p n))) (tails t m l g (λ p n. over' p (b p n))))
  where
    start : (s.row ≡ t.row) × (s.first ≡ t.first)
    start = from-both (panel s.first s.row) (panel t.first t.row) (head_first s l (panel t.first t.row) h (b (panel t.first t.row) (inl (starts t g.0)))) (head_first t m (panel s.first s.row) g (f (panel s.first s.row) (inl (starts s h.0))))

    end : s.last ≡ t.last
    end = omega (zarith, no_longer s t l m h b start.0 start.1, no_longer t s m l g f (sym start.0) (sym start.1))

    e : s ≡ t
    e = λ i. record { row = start.0 i; first = start.1 i; last = end i }

    over : (p : Panel) → Covers (t ∷ m) p → Covers (s ∷ m) p
    over p = subst (λ (z : Span). Covers (z ∷ m) p) (sym e)

    over' : (p : Panel) → Covers (s ∷ l) p → Covers (t ∷ l) p
    over' p = subst (λ (z : Span). Covers (z ∷ l) p) e

pub rows_is_one : (M : Panel → Type 0) (L L' : List Span) → RowsIs M L → RowsIs M L' → L ≡ L'
rows_is_one M L L' h g = covers_one L L' h.order g.order (λ p n. (g.panels p).1 ((h.panels p).0 n)) (λ p n. (h.panels p).1 ((g.panels p).0 n))

-- no panel next to a span is in M
pub rows_is_maximal : (M : Panel → Type 0) (L : List Span) (s : Span) (q : Panel) → RowsIs M L → Memᴰ s L → NextTo s q → ¬ (M q)
rows_is_maximal M L s q h m x k = spans_maximal L s q h.order m x ((h.panels q).1 k)
