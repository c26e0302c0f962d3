-- Corners along one line: their hull is the two outermost.
-- Assumes nothing.
use mathlib.Core.Path.{◌≡◌, refl, sym, ap, ◌∙◌, subst}
use mathlib.Core.List.Memᴰ
use mathlib.Core.List.{List, [], ◌∷◌, Memᴰ}
use mathlib.Core.Logic.{◌⊎◌, inl, inr, ⊎_elim}
use lib.IntN.{ℤ, pos, neg_ℤ}
use lib.Signed.{◌≤ℤ◌, ◌<ℤ◌}
use Rattle.int_laws.proofs.LinearLaws.{zarith, le_or_lt, up_neg, dn-neg}
use Rattle.int_laws.proofs.RingLaws.{◌⊖◌}
use Rattle.int_laws.proofs.SignLaws.{eqt, by≡, ◌⊞◌}
use Rattle.grid.specs.declared.Corner.{Corner}
use Rattle.hull.specs.Hull.{cross, Exposed, HullIs}
use Rattle.grid.specs.Grid.{Begins, numbers}
use Rattle.hull_laws.proofs.CornerLaws.{X, Y, cr, O}
use Rattle.column_laws.proofs.BeginLaws.{begins_both, begins_trans, begins_self}
use Rattle.hull_laws.proofs.ExposedLaws.{first_exposed}
use Rattle.hull_laws.proofs.TurnedLaws.{neg, negs, neg-neg, in_negs, negs_in, neg_exposed}

begins_total : (a b : Corner) → Begins a b ⊎ Begins b a
begins_total a b = go (le_or_lt b.0 a.0) (le_or_lt a.0 b.0) (le_or_lt a.1 b.1)
  where
    go : (b.0 ≤ℤ a.0) ⊎ (a.0 <ℤ b.0) → (a.0 ≤ℤ b.0) ⊎ (b.0 <ℤ a.0) → (a.1 ≤ℤ b.1) ⊎ (b.1 <ℤ a.1) → Begins a b ⊎ Begins b a
    go (inr h) g k = inl (inl h)
    go (inl h) (inr g) k = inr (inl g)
    go (inl h) (inl g) (inl k) = inl (inr (omega zarith, k))
    go (inl h) (inl g) (inr k) = inr (inr (omega zarith, omega zarith))

-- the highest of the rightmost
greatest : (p : Corner) (l : List Corner) → (e : Corner) × Memᴰ e (p ∷ l) × ((q : Corner) → Memᴰ q (p ∷ l) → Begins q e)
greatest p [] = (p, Memᴰ.head refl, only)
  where
    only : (q : Corner) → Memᴰ q (p ∷ []) → Begins q p
    only q (Memᴰ.head r) = subst (λ (z : Corner). Begins z p) (sym r) (begins_self p)
    only q (Memᴰ.tail m) = absurd (Memᴰ.not-nil m)
greatest p (b ∷ l) = go (greatest b l)
  where
    go : (e : Corner) × Memᴰ e (b ∷ l) × ((q : Corner) → Memᴰ q (b ∷ l) → Begins q e) → (e : Corner) × Memᴰ e (p ∷ (b ∷ l)) × ((q : Corner) → Memᴰ q (p ∷ (b ∷ l)) → Begins q e)
    go t = ⊎_elim (λ h. (t.0, Memᴰ.tail t.1, later h)) (λ h. (p, Memᴰ.head refl, first h)) (begins_total p t.0)
      where
        later : Begins p t.0 → (q : Corner) → Memᴰ q (p ∷ (b ∷ l)) → Begins q t.0
        later h q (Memᴰ.head r) = subst (λ (z : Corner). Begins z t.0) (sym r) h
        later h q (Memᴰ.tail m) = t.2 q m

        first : Begins t.0 p → (q : Corner) → Memᴰ q (p ∷ (b ∷ l)) → Begins q p
        first h q (Memᴰ.head r) = subst (λ (z : Corner). Begins z p) (sym r) (begins_self p)
        first h q (Memᴰ.tail m) = begins_trans q t.0 p (t.2 q m) h

neg_begins : (a b : Corner) → Begins a b → Begins (neg b) (neg a)
neg_begins a b (inl h) = inl (omega (zarith, up_neg a.0, dn-neg a.0, up_neg b.0, dn-neg b.0))
neg_begins a b (inr h) = inr (ap neg_ℤ (sym h.0), omega (zarith, h.1, up_neg a.1, dn-neg a.1, up_neg b.1, dn-neg b.1))

-- it is exposed
greatest_exposed : (P : List Corner) (e : Corner) → Memᴰ e P → ((q : Corner) → Memᴰ q P → Begins q e) → Exposed P e
greatest_exposed P e m f = neg_exposed P e (first_exposed (negs P) (neg e) (in_negs P e m) turned)
  where
    turned : (q : Corner) → Memᴰ q (negs P) → Begins (neg e) q
    turned q n = subst (Begins (neg e)) (neg-neg q) (neg_begins (neg q) e (f (neg q) (negs_in P (neg q) (subst (λ (z : Corner). Memᴰ z (negs P)) (sym (neg-neg q)) n))))

-- all of P are in a line
abbrev pub InLine : List Corner → Type 0
InLine P = (a b c : Corner) → Memᴰ a P → Memᴰ b P → Memᴰ c P → cross a b c ≡ pos 0

-- one corner, or the first and the last, between which all lie
abbrev pub Outermost : List Corner → List Corner → Type 0
Outermost P [] = ⊥
Outermost P (a ∷ []) = (q : Corner) → Memᴰ q P → q ≡ a
Outermost P (a ∷ (b ∷ [])) = (q : Corner) → Memᴰ q P → Begins a q × Begins q b
Outermost P (a ∷ (b ∷ (c ∷ l))) = ⊥

pub hull_of_line : (P L : List Corner) → HullIs P L → InLine P → Outermost P L
hull_of_line P [] h f = h.starts
hull_of_line [] (a ∷ l) h f = absurd (Memᴰ.not-nil h.starts.0)
hull_of_line (p ∷ P) (a ∷ []) h f = λ q m. sym (begins_both a q (h.starts.1 q m) (subst (Begins q) one (last.2 q m)))
  where
    last : (e : Corner) × Memᴰ e (p ∷ P) × ((q : Corner) → Memᴰ q (p ∷ P) → Begins q e)
    last = greatest p P

    one : last.0 ≡ a
    one = go ((h.corners last.0).1 (greatest_exposed (p ∷ P) last.0 last.1 last.2))
      where
        go : Memᴰ last.0 (a ∷ []) → last.0 ≡ a
        go (Memᴰ.head e) = e
        go (Memᴰ.tail m) = absurd (Memᴰ.not-nil m)
hull_of_line (p ∷ P) (a ∷ (b ∷ [])) h f = λ q m. (h.starts.1 q m, subst (Begins q) (other ((h.corners last.0).1 (greatest_exposed (p ∷ P) last.0 last.1 last.2))) (last.2 q m))
  where
    last : (e : Corner) × Memᴰ e (p ∷ P) × ((q : Corner) → Memᴰ q (p ∷ P) → Begins q e)
    last = greatest p P

    second : Memᴰ b (p ∷ P)
    second = ((h.corners b).0 (Memᴰ.tail (Memᴰ.head refl))).visited

    other : Memᴰ last.0 (a ∷ (b ∷ [])) → last.0 ≡ b
    other (Memᴰ.head e) = absurd (h.once.0 (Memᴰ.head (begins_both a b (h.starts.1 b second) (subst (Begins b) e (last.2 b second)))))
    other (Memᴰ.tail (Memᴰ.head e)) = e
    other (Memᴰ.tail (Memᴰ.tail m)) = absurd (Memᴰ.not-nil m)
hull_of_line (p ∷ P) (a ∷ (b ∷ (c ∷ l))) h f = clash (f a b c h.starts.0 ((h.corners b).0 (Memᴰ.tail (Memᴰ.head refl))).visited ((h.corners c).0 (Memᴰ.tail (Memᴰ.tail (Memᴰ.head refl)))).visited) (h.ccw.0.0 c (Memᴰ.head refl)).left
  where
    clash : cross a b c ≡ pos 0 → pos 0 <ℤ cross a b c → ⊥
    clash e g = omega zarith

-- corners of one height, and of one column
pub row_in_line : (P : List Corner) (y : ℤ) → ((q : Corner) → Memᴰ q P → q.1 ≡ y) → InLine P
unfolding cross
row_in_line P y f a b c i j l =
    let ρ = numbers (a ∷ b ∷ c ∷ []) in
    let ab : a.1 ≡ b.1 = f a i ∙ sym (f b j) in
    let ac : a.1 ≡ c.1 = f a i ∙ sym (f c l) in
    by≡ (cr 0 1 2) O (eqt 6 ρ (Y 0) (Y 2) (X 0 ⊖ X 1) ac ⊞ eqt 6 ρ (Y 0) (Y 1) (X 2 ⊖ X 0) ab) (eqt 6 ρ (Y 0) (Y 2) (X 1 ⊖ X 0) ac ⊞ eqt 6 ρ (Y 0) (Y 1) (X 0 ⊖ X 2) ab) tt tt

pub column_in_line : (P : List Corner) (x : ℤ) → ((q : Corner) → Memᴰ q P → q.0 ≡ x) → InLine P
unfolding cross
column_in_line P x f a b c i j l =
    let ρ = numbers (a ∷ b ∷ c ∷ []) in
    let ab : a.0 ≡ b.0 = f a i ∙ sym (f b j) in
    let ac : a.0 ≡ c.0 = f a i ∙ sym (f c l) in
    by≡ (cr 0 1 2) O (eqt 6 ρ (X 0) (X 1) (Y 0 ⊖ Y 2) ab ⊞ eqt 6 ρ (X 0) (X 2) (Y 1 ⊖ Y 0) ac) (eqt 6 ρ (X 0) (X 1) (Y 2 ⊖ Y 0) ab ⊞ eqt 6 ρ (X 0) (X 2) (Y 0 ⊖ Y 1) ac) tt tt
