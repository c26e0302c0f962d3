-- Sorted lower ends in pairs: a panel is in a span exactly when an odd number of them is beside it. Equal ones may stand in the list: they leave
-- an empty span or spans that touch. Without equal ones the spans are in order.
-- Assumes nothing.
use mathlib.Core.Bool.{Bool, true, false, true≢false}
use mathlib.Core.List.{List, [], ◌∷◌}
use mathlib.Core.Logic.{◌⊎◌, inl, inr, ◌↔◌, ⊎_elim}
use mathlib.Core.Path.{◌≡◌, refl, ap, ap₂, sym, ◌∙◌, subst}
use Prim.Native.Nat.{ℕ, ◌*◌, ◌%◌}
use native.Mathlib.Omega.{arith}
use lib.IntN.{ℤ, suc_ℤ, suc-pred}
use lib.ListN.{length}
use lib.Signed.{◌≤ℤ◌, ◌<ℤ◌}
use Rattle.int_laws.proofs.LinearLaws.{zarith, le_or_lt}
use Rattle.int_laws.proofs.NextLaws.{bal_pred, true_lt, false_lt}
use Rattle.lists.specs.Lists.{tally, count}
use Rattle.grid.specs.declared.{Corner.Corner, Panel.Panel}
use Rattle.grid.specs.Grid.{corner, eq_z}
use Rattle.grid.proofs.CornerLaws.{eq_z_sound, eq_z_refl, eq_z_not}
use Rattle.panels.specs.Edges.{beside}
use Rattle.row.specs.Rows.{Span, OnSpan, Covers, Before, Every, InOrder, RowsIs}
use Rattle.panels.proofs.BesideLaws.{beside_other, beside_past, beside-row}
use Rattle.row_laws.specs.Feet.{span_of, pairs_of}
use Rattle.row_laws.proofs.FootLaws.{Ahead, UpTo, Climbs, InTurn, climbs_in_turn, climbs_lower, ahead_trans}

abbrev pub on_row : ℤ → Corner → Bool
on_row b q = eq_z q.1 b

-- an even number in every row
abbrev pub EvenRows : List Corner → Type 0
EvenRows qs = (b : ℤ) → count (on_row b) qs % 2 ≡ 0

-- as a corner, to compare a panel with lower ends
abbrev place : Panel → Corner
place p = corner p.0 p.1

rows-later : (b : ℤ) (lo : Corner) (qs : List Corner) → b <ℤ lo.1 → Climbs UpTo lo qs → count (on_row b) qs ≡ 0
rows-later b lo [] h g = refl
rows-later b lo (q ∷ qs) h g =
    let k : b <ℤ q.1 = ⊎_elim (λ r. omega (zarith, r, h)) (λ r. omega (zarith, r.0, h)) g.0 in
    omega (arith, ap tally (eq_z_not q.1 b (λ e. omega (zarith, e, k))), rows-later b q qs k g.1)

-- an even number in the first's row: so the second is in it
pub pair_row : (p q : Corner) (qs : List Corner) → Climbs UpTo p (q ∷ qs) → EvenRows (p ∷ q ∷ qs) → p.1 ≡ q.1
pair_row p q qs g even = ⊎_elim (λ h. absurd (alone h)) (λ h. h.0) g.0
  where
    alone : p.1 <ℤ q.1 → ⊥
    alone h = omega (arith, even p.1, ap tally (eq_z_refl p.1), ap tally (eq_z_not q.1 p.1 (λ e. omega (zarith, e, h))), rows-later p.1 q qs h g.1)

-- past the panel's place every lower end of its row is beside it
all-beside : (p : Panel) (lo : Corner) (qs : List Corner) → Ahead (place p) lo → Climbs UpTo lo qs → count (beside p) qs ≡ count (on_row p.1) qs
all-beside p lo [] h g = refl
all-beside p lo (q ∷ qs) h g =
    let k = past h g.0 in
    omega (arith, here k, all-beside p q qs k g.1)
  where
    past : Ahead (place p) lo → UpTo lo q → Ahead (place p) q
    past (inl a) (inl b) = inl (omega (zarith, a, b))
    past (inl a) (inr b) = inl (omega (zarith, a, b.0))
    past (inr a) (inl b) = inl (omega (zarith, a.0, b))
    past (inr a) (inr b) = inr (a.0 ∙ b.0, omega (zarith, a.1, b.1))

    here : Ahead (place p) q → tally (beside p q) ≡ tally (on_row p.1 q)
    here (inl a) = let f : q.1 ≡ p.1 → ⊥ = λ e. omega (zarith, e, a) in ap tally (beside_other p q f ∙ sym (eq_z_not q.1 p.1 f))
    here (inr a) = ap tally (beside-row p q (sym a.0) ∙ true_lt p.0 q.0 a.1 ∙ sym (ap (eq_z q.1) a.0 ∙ eq_z_refl q.1))

-- a pair before others; an even number of those is beside any panel that lies ahead of the second
pair_cover : (x y : Corner) (qs : List Corner) (p : Panel) (C : Type 0) → x.1 ≡ y.1 → x.0 ≤ℤ y.0 → C ↔ (count (beside p) qs % 2 ≡ 1) → (Ahead (place p) y → count (beside p) qs % 2 ≡ 0)
    → (OnSpan (span_of x y) p ⊎ C) ↔ (count (beside p) (x ∷ y ∷ qs) % 2 ≡ 1)
pair_cover x y qs p C r h ih even = by (eq_z x.1 p.1) refl (le_or_lt x.0 p.0) (le_or_lt y.0 p.0)
  where
    -- the pair counts twice or not at all, and the panel is not on its span
    none : (n : ℕ) → tally (beside p x) ≡ n → tally (beside p y) ≡ n → ¬ (OnSpan (span_of x y) p)
        → (OnSpan (span_of x y) p ⊎ C) ↔ (count (beside p) (x ∷ y ∷ qs) % 2 ≡ 1)
    none n u w off = (⊎_elim (λ o. absurd (off o)) (λ k. omega (arith, u, w, ih.0 k)), λ k. inr (ih.1 (omega (arith, u, w, k))))

    by : (b : Bool) → eq_z x.1 p.1 ≡ b → (x.0 ≤ℤ p.0) ⊎ (p.0 <ℤ x.0) → (y.0 ≤ℤ p.0) ⊎ (p.0 <ℤ y.0) → (OnSpan (span_of x y) p ⊎ C) ↔ (count (beside p) (x ∷ y ∷ qs) % 2 ≡ 1)
    by false e k l =
        let f : x.1 ≡ p.1 → ⊥ = λ q. true≢false (sym (ap (eq_z x.1) (sym q) ∙ eq_z_refl x.1) ∙ e) in
        none 0 (ap tally (beside_other p x f)) (ap tally (beside_other p y (λ q. f (r ∙ q)))) (λ o. f (sym o.row))
    by true e (inl k) (inl l) = none 0 (ap tally (beside_past p x (false_lt p.0 x.0 k))) (ap tally (beside_past p y (false_lt p.0 y.0 l))) (λ o. omega (zarith, o.before, l, bal_pred y.0))
    by true e (inl k) (inr l) =
        let f = eq_z_sound x.1 p.1 e in
        let odd : count (beside p) (x ∷ y ∷ qs) % 2 ≡ 1 = omega (arith, ap tally (beside_past p x (false_lt p.0 x.0 k)), ap tally (beside-row p y (sym r ∙ f) ∙ true_lt p.0 y.0 l), even (inr (sym f ∙ r, l))) in
        ((λ n. odd), λ n. inl (record { row = sym f; after = k; before = omega (zarith, l, bal_pred y.0) }))
    by true e (inr k) (inl l) = absurd (omega (zarith, h, k, l))
    by true e (inr k) (inr l) =
        let f = eq_z_sound x.1 p.1 e in
        none 1 (ap tally (beside-row p x f ∙ true_lt p.0 x.0 k)) (ap tally (beside-row p y (sym r ∙ f) ∙ true_lt p.0 y.0 l)) (λ o. omega (zarith, o.after, k))

pub pairs_even : (x y : Corner) (qs : List Corner) → x.1 ≡ y.1 → EvenRows (x ∷ y ∷ qs) → EvenRows qs
pairs_even x y qs r even b = omega (arith, even b, ap (λ (z : ℤ). tally (eq_z z b)) r)

pairs_cover : (qs : List Corner) (p : Panel) → InTurn UpTo qs → EvenRows qs → Covers (pairs_of qs) p ↔ (count (beside p) qs % 2 ≡ 1)
pairs_cover [] p g even = (λ n. absurd n, λ n. absurd (omega (arith, n)))
pairs_cover (x ∷ []) p g even = absurd (omega (arith, even x.1, ap tally (eq_z_refl x.1)))
pairs_cover (x ∷ y ∷ qs) p g even =
    let r = pair_row x y qs g even in
    let rest = pairs_even x y qs r even in
    pair_cover x y qs p (Covers (pairs_of qs) p) r (⊎_elim (λ h. absurd (omega (zarith, h, r))) (λ h. h.1) g.0) (pairs_cover qs p (climbs_in_turn UpTo y qs g.1) rest)
    (λ h. omega (arith, all-beside p y qs h g.1, rest p.1))

up_to : (p q : Corner) → Ahead p q → UpTo p q
up_to p q (inl h) = inl h
up_to p q (inr h) = inr (h.0, omega (zarith, h.1))

climbs_up-to : (p : Corner) (qs : List Corner) → Climbs Ahead p qs → Climbs UpTo p qs
climbs_up-to p [] h = tt
climbs_up-to p (q ∷ qs) h = (up_to p q h.0, climbs_up-to q qs h.1)

pub turn_up-to : (qs : List Corner) → InTurn Ahead qs → InTurn UpTo qs
turn_up-to [] h = tt
turn_up-to (q ∷ qs) h = climbs_up-to q qs h

-- where a span ends: those before it are the spans that begin past there
abbrev end_of : Span → Corner
end_of s = corner (suc_ℤ s.last) s.row

pairs_after : (s : Span) (qs : List Corner) → Climbs Ahead (end_of s) qs → Every (Before s) (pairs_of qs)
pairs_after s [] g = tt
pairs_after s (x ∷ []) g = tt
pairs_after s (x ∷ y ∷ qs) g = (g.0, pairs_after s qs (climbs_lower (end_of s) y qs (ahead_trans (end_of s) x y g.0 g.1.0) g.1.1))

pairs_order : (qs : List Corner) → InTurn Ahead qs → EvenRows qs → InOrder (pairs_of qs)
pairs_order [] g even = tt
pairs_order (x ∷ []) g even = tt
pairs_order (x ∷ y ∷ qs) g even =
    let r = pair_row x y qs (climbs_up-to x (y ∷ qs) g) even in
    let less : x.0 <ℤ y.0 = ⊎_elim (λ h. absurd (omega (zarith, h, r))) (λ h. h.1) g.0 in
    let ends : y ≡ end_of (span_of x y) = ap₂ corner (sym (suc-pred y.0)) (sym r) in
    (omega (zarith, less, bal_pred y.0), pairs_after (span_of x y) qs (subst (λ (z : Corner). Climbs Ahead z qs) ends g.1), pairs_order qs (climbs_in_turn Ahead y qs g.1) (pairs_even x y qs r even))

-- sorted lower ends, all different and an even number in each row, list the panels that an odd number of them is beside
pub pairs_rows : (qs : List Corner) → InTurn Ahead qs → EvenRows qs → RowsIs (λ p. count (beside p) qs % 2 ≡ 1) (pairs_of qs)
pairs_rows qs g even = record { order = pairs_order qs g even; panels = λ p. pairs_cover qs p (turn_up-to qs g) even }

-- half as many
pub pairs_length : (qs : List Corner) → InTurn UpTo qs → EvenRows qs → 2 * length (pairs_of qs) ≡ length qs
pairs_length [] g even = refl
pairs_length (x ∷ []) g even = absurd (omega (arith, even x.1, ap tally (eq_z_refl x.1)))
pairs_length (x ∷ y ∷ qs) g even = omega (arith, pairs_length qs (climbs_in_turn UpTo y qs g.1) (pairs_even x y qs (pair_row x y qs g even) even))
