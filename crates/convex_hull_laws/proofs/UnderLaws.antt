-- A panel is under a part if some corner of the part lies neither right of the panel's upper left corner nor below it. If panels are under a convex part, then so
-- is a panel whose centre lies in the convex hull of their centres: else a straight line over its upper left corner would have the others on or below it.
-- Assumes nothing.
use mathlib.Core.List.Memᴰ
use mathlib.Core.List.{List, [], ◌∷◌, Memᴰ}
use mathlib.Core.Logic.{◌⊎◌, inl, inr, ⊎_elim}
use mathlib.Core.Path.{◌≡◌, refl, sym, ap, ap₂, ◌∙◌, subst}
use Prim.Native.Nat.{ℕ}
use lib.IntN.{ℤ, pos, ◌+ℤ◌, ◌-ℤ◌, ◌*ℤ◌}
use lib.ListN.{length}
use lib.Signed.{◌<ℤ◌, ◌≤ℤ◌}
use Rattle.int_laws.proofs.LinearLaws.{zarith, bal+, bal-, le_or_lt}
use Rattle.int_laws.proofs.RingLaws.{ring, v, k, ◌⊕◌, ◌⊖◌, ◌⊗◌}
use Rattle.int_laws.proofs.SignLaws.{h≤, h<, hw, ◌⊞◌, ◌⊠◌, ◌⊡◌, by≤, by<, by≤÷, by<÷}
use Rattle.lists.specs.Lists.{sum_of}
use Rattle.grid.specs.declared.{Corner.Corner, Panel.Panel}
use Rattle.grid.specs.Grid.{corner, origin, corners_from, numbers}
use Rattle.hull.specs.Hull.{cross}
use Rattle.hull_laws.proofs.CornerLaws.{X, Y, O, cr}
use Rattle.grid.proofs.CornerLaws.{corner_eq}
use Rattle.convex.specs.Centres.{MeanOf}
use Rattle.convex.specs.Convex.{Between, ConvexPart}
use Rattle.convex_hull_laws.proofs.MeanLaws.{pos_suc}
use Rattle.convex_hull_laws.proofs.LineLaws.{there, moved_in, moved_out, cross-moved}

abbrev pub Under : List Corner → Panel → Type 0
Under P r = (p : Corner) × Memᴰ p P × (p.0 ≤ℤ r.0) × (r.1 <ℤ p.1)

under_or_not : (P : List Corner) (r : Panel) → Under P r ⊎ ((p : Corner) → Memᴰ p P → p.0 ≤ℤ r.0 → p.1 ≤ℤ r.1)
under_or_not [] r = inr (λ p m. absurd (Memᴰ.not-nil m))
under_or_not (x ∷ P) r = go (le_or_lt x.0 r.0) (le_or_lt x.1 r.1) (under_or_not P r)
  where
    go : (x.0 ≤ℤ r.0) ⊎ (r.0 <ℤ x.0) → (x.1 ≤ℤ r.1) ⊎ (r.1 <ℤ x.1) → Under P r ⊎ ((p : Corner) → Memᴰ p P → p.0 ≤ℤ r.0 → p.1 ≤ℤ r.1) → Under (x ∷ P) r ⊎ ((p : Corner) → Memᴰ p (x ∷ P) → p.0 ≤ℤ r.0 → p.1 ≤ℤ r.1)
    go h g (inl u) = inl (u.0, Memᴰ.tail u.1, u.2, u.3)
    go (inl h) (inr g) (inr f) = inl (x, Memᴰ.head refl, h, g)
    go (inr h) g (inr f) = inr (λ p m l. ⊎_elim (λ e. absurd (omega (zarith, h, l, ap (λ (z : Corner). z.0) e))) (λ t. f p t l) (Memᴰ.cases_cons m))
    go (inl h) (inl g) (inr f) = inr (λ p m l. ⊎_elim (λ e. omega (zarith, g, ap (λ (z : Corner). z.1) e)) (λ t. f p t l) (Memᴰ.cases_cons m))

-- of lines from Q to the right the one that is not below another
steeper : (Q b x p : Corner) → Q.0 <ℤ b.0 → Q.0 <ℤ x.0 → Q.0 <ℤ p.0 → cross Q b p ≤ℤ pos 0 → pos 0 <ℤ cross Q b x → cross Q x p ≤ℤ pos 0
unfolding cross
steeper Q b x p hb hx hp l g =
    by≤÷ (X 1 ⊖ X 0) (cr 0 2 3) O (h< 8 ρ (X 0) (X 1) hb) (hw 8 ρ (X 0) (X 2) hx ⊠ h≤ 8 ρ (cr 0 1 3) O l ⊞ hw 8 ρ (X 0) (X 3) hp ⊠ hw 8 ρ O (cr 0 1 2) g) tt
  where
    ρ : List ℤ
    ρ = numbers (Q ∷ b ∷ x ∷ p ∷ [])

cross_self : (Q x : Corner) → cross Q x x ≤ℤ pos 0
unfolding cross
cross_self Q x = by≤ (cr 0 1 1) O (h≤ 4 (numbers (Q ∷ x ∷ [])) O O (omega zarith)) tt

record Best (Q : Corner) (P : List Corner) : Type 0 where
  b : Corner
  is_in : Memᴰ b P
  right : Q.0 <ℤ b.0
  over : (p : Corner) → Memᴰ p P → Q.0 <ℤ p.0 → cross Q b p ≤ℤ pos 0

best : (Q : Corner) (P : List Corner) → Best Q P ⊎ ((p : Corner) → Memᴰ p P → p.0 ≤ℤ Q.0)
best Q [] = inr (λ p m. absurd (Memᴰ.not-nil m))
best Q (x ∷ P) = go (le_or_lt x.0 Q.0) (best Q P)
  where
    go : (x.0 ≤ℤ Q.0) ⊎ (Q.0 <ℤ x.0) → Best Q P ⊎ ((p : Corner) → Memᴰ p P → p.0 ≤ℤ Q.0) → Best Q (x ∷ P) ⊎ ((p : Corner) → Memᴰ p (x ∷ P) → p.0 ≤ℤ Q.0)
    go (inl h) (inl t) = inl (record { b = t.b; is_in = Memᴰ.tail t.is_in; right = t.right; over = λ p m l. ⊎_elim (λ e. absurd (omega (zarith, h, l, ap (λ (z : Corner). z.0) e))) (λ n. t.over p n l) (Memᴰ.cases_cons m) })
    go (inl h) (inr f) = inr (λ p m. ⊎_elim (λ e. omega (zarith, h, ap (λ (z : Corner). z.0) e)) (f p) (Memᴰ.cases_cons m))
    go (inr h) (inr f) = inl (record { b = x; is_in = Memᴰ.head refl; right = h; over = λ p m l. ⊎_elim (λ e. subst (λ (z : Corner). cross Q x z ≤ℤ pos 0) (sym e) (cross_self Q x)) (λ n. absurd (omega (zarith, l, f p n))) (Memᴰ.cases_cons m) })
    go (inr h) (inl t) = by (le_or_lt (cross Q t.b x) (pos 0))
      where
        by : (cross Q t.b x ≤ℤ pos 0) ⊎ (pos 0 <ℤ cross Q t.b x) → Best Q (x ∷ P) ⊎ ((p : Corner) → Memᴰ p (x ∷ P) → p.0 ≤ℤ Q.0)
        by (inl g) = inl (record { b = t.b; is_in = Memᴰ.tail t.is_in; right = t.right; over = λ p m l. ⊎_elim (λ e. subst (λ (z : Corner). cross Q t.b z ≤ℤ pos 0) (sym e) g) (λ n. t.over p n l) (Memᴰ.cases_cons m) })
        by (inr g) = inl (record { b = x; is_in = Memᴰ.head refl; right = h; over = λ p m l. ⊎_elim (λ e. subst (λ (z : Corner). cross Q x z ≤ℤ pos 0) (sym e) (cross_self Q x)) (λ n. steeper Q t.b x p t.right h l (t.over p n l) g) (Memᴰ.cases_cons m) })

-- ---- sums

sum_below : (f : Panel → ℤ) (z : ℤ) (ps : List Panel) → ((p : Panel) → Memᴰ p ps → f p <ℤ z) → (sum_of f ps +ℤ pos (length ps)) ≤ℤ (pos (length ps) *ℤ z)
sum_below f z [] h = by≤ (k (pos 0) ⊕ k (pos 0)) (k (pos 0) ⊗ v 0) (h≤ 1 (z ∷ []) (k (pos 0)) (k (pos 0)) (omega zarith)) tt
sum_below f z (p ∷ ps) h =
    subst (λ (n : ℤ). ((f p +ℤ sum_of f ps) +ℤ n) ≤ℤ (n *ℤ z)) (pos_suc (length ps))
    (by≤ ((v 1 ⊕ v 2) ⊕ (k (pos 1) ⊕ v 3)) ((k (pos 1) ⊕ v 3) ⊗ v 0) (h< 4 ρ (v 1) (v 0) (h p (Memᴰ.head refl)) ⊞ h≤ 4 ρ (v 2 ⊕ v 3) (v 3 ⊗ v 0) (sum_below f z ps (λ q m. h q (Memᴰ.tail m)))) tt)
  where
    ρ : List ℤ
    ρ = z ∷ f p ∷ sum_of f ps ∷ pos (length ps) ∷ []

sum_weighed : (u w x y : ℤ) (ps : List Panel) → sum_of (λ r. (u *ℤ (r.1 -ℤ y)) -ℤ (w *ℤ (r.0 -ℤ x))) ps ≡ (u *ℤ (sum_of (λ r. r.1) ps -ℤ (pos (length ps) *ℤ y))) -ℤ (w *ℤ (sum_of (λ r. r.0) ps -ℤ (pos (length ps) *ℤ x)))
sum_weighed u w x y [] = ring 4 (u ∷ w ∷ x ∷ y ∷ []) (k (pos 0)) (v 0 ⊗ (k (pos 0) ⊖ k (pos 0) ⊗ v 3) ⊖ v 1 ⊗ (k (pos 0) ⊖ k (pos 0) ⊗ v 2)) tt
sum_weighed u w x y (p ∷ ps) =
    ap (λ (z : ℤ). ((u *ℤ (p.1 -ℤ y)) -ℤ (w *ℤ (p.0 -ℤ x))) +ℤ z) (sum_weighed u w x y ps)
    ∙ ring 9 (u ∷ w ∷ x ∷ y ∷ p.0 ∷ p.1 ∷ sum_of (λ r. r.0) ps ∷ sum_of (λ r. r.1) ps ∷ pos (length ps) ∷ [])
    ((v 0 ⊗ (v 5 ⊖ v 3) ⊖ v 1 ⊗ (v 4 ⊖ v 2)) ⊕ (v 0 ⊗ (v 7 ⊖ v 8 ⊗ v 3) ⊖ v 1 ⊗ (v 6 ⊖ v 8 ⊗ v 2)))
    (v 0 ⊗ ((v 5 ⊕ v 7) ⊖ (k (pos 1) ⊕ v 8) ⊗ v 3) ⊖ v 1 ⊗ ((v 4 ⊕ v 6) ⊖ (k (pos 1) ⊕ v 8) ⊗ v 2)) tt
    ∙ ap (λ (n : ℤ). (u *ℤ ((p.1 +ℤ sum_of (λ r. r.1) ps) -ℤ (n *ℤ y))) -ℤ (w *ℤ ((p.0 +ℤ sum_of (λ r. r.0) ps) -ℤ (n *ℤ x)))) (pos_suc (length ps))

-- a value that is not above 0, and below 0 unless the panel is right of x
module _ (f : Panel → ℤ) (x : ℤ) where
  abbrev Low : Panel → Type 0
  Low r = (f r ≤ℤ pos 0) × (r.0 ≤ℤ x → f r <ℤ pos 0)

  sum_low : (ps : List Panel) → ((r : Panel) → Memᴰ r ps → Low r) → sum_of f ps ≤ℤ pos 0
  sum_low [] h = omega zarith
  sum_low (p ∷ ps) h = omega (zarith, (h p (Memᴰ.head refl)).0, sum_low ps (λ q m. h q (Memᴰ.tail m)), bal+ (f p) (sum_of f ps))

  -- some panel is not right of x, and the sum is below 0; or all are right of it
  sum-right : (ps : List Panel) → ((r : Panel) → Memᴰ r ps → Low r) → (sum_of f ps <ℤ pos 0) ⊎ ((r : Panel) → Memᴰ r ps → x <ℤ r.0)
  sum-right [] h = inr (λ r m. absurd (Memᴰ.not-nil m))
  sum-right (p ∷ ps) h = go (le_or_lt p.0 x) (sum-right ps (λ q m. h q (Memᴰ.tail m)))
    where
      go : (p.0 ≤ℤ x) ⊎ (x <ℤ p.0) → (sum_of f ps <ℤ pos 0) ⊎ ((r : Panel) → Memᴰ r ps → x <ℤ r.0) → (sum_of f (p ∷ ps) <ℤ pos 0) ⊎ ((r : Panel) → Memᴰ r (p ∷ ps) → x <ℤ r.0)
      go (inl l) g = inl (omega (zarith, (h p (Memᴰ.head refl)).1 l, sum_low ps (λ q m. h q (Memᴰ.tail m)), bal+ (f p) (sum_of f ps)))
      go (inr l) (inl g) = inl (omega (zarith, (h p (Memᴰ.head refl)).0, g, bal+ (f p) (sum_of f ps)))
      go (inr l) (inr g) = inr (λ r m. ⊎_elim (λ e. omega (zarith, l, ap (λ (z : Panel). z.0) e)) (g r) (Memᴰ.cases_cons m))

sum-above : (f : Panel → ℤ) (z : ℤ) (ps : List Panel) → ((p : Panel) → Memᴰ p ps → z <ℤ f p) → ((pos (length ps) *ℤ z) +ℤ pos (length ps)) ≤ℤ sum_of f ps
sum-above f z [] h = by≤ (k (pos 0) ⊗ v 0 ⊕ k (pos 0)) (k (pos 0)) (h≤ 1 (z ∷ []) (k (pos 0)) (k (pos 0)) (omega zarith)) tt
sum-above f z (p ∷ ps) h =
    subst (λ (n : ℤ). ((n *ℤ z) +ℤ n) ≤ℤ (f p +ℤ sum_of f ps)) (pos_suc (length ps))
    (by≤ ((k (pos 1) ⊕ v 3) ⊗ v 0 ⊕ (k (pos 1) ⊕ v 3)) (v 1 ⊕ v 2) (h< 4 ρ (v 0) (v 1) (h p (Memᴰ.head refl)) ⊞ h≤ 4 ρ (v 3 ⊗ v 0 ⊕ v 3) (v 2) (sum-above f z ps (λ q m. h q (Memᴰ.tail m)))) tt)
  where
    ρ : List ℤ
    ρ = z ∷ f p ∷ sum_of f ps ∷ pos (length ps) ∷ []

-- ---- no grid point lies between a convex part and its hull, wherever the part lies

none-there : (a : Corner) (w : List ℕ) → ConvexPart w → (Q : Corner) → Between (corners_from a w) Q → ⊥
none-there a w convex Q t = convex.none q (record {
  a = oa.0;
  b = ob.0;
  from = oa.1;
  to = ob.1;
  left = omega (zarith, t.left, ap (λ (z : Corner). z.0) oa.2, ap (λ (z : Corner). z.0) over, bal+ oa.0.0 a.0, bal+ q.0 a.0);
  right = omega (zarith, t.right, ap (λ (z : Corner). z.0) ob.2, ap (λ (z : Corner). z.0) over, bal+ ob.0.0 a.0, bal+ q.0 a.0);
  under = subst (λ (z : ℤ). z ≤ℤ pos 0) (ap₂ (λ (x y : Corner). cross x y Q) oa.2 ob.2 ∙ ap (cross (there a w oa.0) (there a w ob.0)) (sym over) ∙ cross-moved a.0 a.1 oa.0 ob.0 q) t.under;
  above = λ p m e. omega (zarith, t.above (there a w p) (moved_in a w p m) (ap (λ (x : ℤ). x +ℤ a.0) e ∙ ap (λ (z : Corner). z.0) over), ap (λ (z : Corner). z.1) over, bal+ p.1 a.1, bal+ q.1 a.1);
})
  where
    q : Corner
    q = corner (Q.0 -ℤ a.0) (Q.1 -ℤ a.1)

    over : there a w q ≡ Q
    over = corner_eq (there a w q) Q (omega (zarith, bal+ (Q.0 -ℤ a.0) a.0, bal- Q.0 a.0)) (omega (zarith, bal+ (Q.1 -ℤ a.1) a.1, bal- Q.1 a.1))

    oa : (p : Corner) × Memᴰ p (corners_from origin w) × (t.a ≡ there a w p)
    oa = moved_out a w t.a t.from

    ob : (p : Corner) × Memᴰ p (corners_from origin w) × (t.b ≡ there a w p)
    ob = moved_out a w t.b t.to

-- ---- the mean

module _ (a : Corner) (w : List ℕ) (convex : ConvexPart w) (ps : List Panel) (q : Panel) (mean : MeanOf ps q) (under : (r : Panel) → Memᴰ r ps → Under (corners_from a w) r) where
  abbrev P : List Corner
  P = corners_from a w

  abbrev Q : Corner
  Q = corner q.0 (q.1 +ℤ pos 1)

  -- some corner is higher than the panel
  not_low : ((p : Corner) → Memᴰ p P → p.1 ≤ℤ q.1) → ⊥
  not_low f = omega (zarith, mean.some, mean.mean_y, sum_below (λ r. r.1) q.1 ps (λ r m. let u = under r m in omega (zarith, u.3, f u.0 u.1)), bal+ (sum_of (λ r. r.1) ps) (pos (length ps)))

  module _ (out : (p : Corner) → Memᴰ p P → p.0 ≤ℤ q.0 → p.1 ≤ℤ q.1) (t : Best Q P) where
    abbrev b : Corner
    b = t.b

    -- a line that falls to the right has all corners below Q
    falls : b.1 <ℤ Q.1 → ⊥
    unfolding cross
    falls h = not_low (λ p m. go p m (le_or_lt p.0 q.0))
      where
        go : (p : Corner) → Memᴰ p P → (p.0 ≤ℤ q.0) ⊎ (q.0 <ℤ p.0) → p.1 ≤ℤ q.1
        go p m (inl l) = out p m l
        go p m (inr l) =
            let ρ = numbers (Q ∷ b ∷ p ∷ []) in
            let g : p.1 <ℤ Q.1 = by<÷ (X 1 ⊖ X 0) (Y 2) (Y 0) (hw 6 ρ (X 0) (X 1) t.right) (h≤ 6 ρ (cr 0 1 2) O (t.over p m l) ⊞ (h< 6 ρ (Y 1) (Y 0) h ⊡ h< 6 ρ (X 0) (X 2) l)) tt in
            omega (zarith, g, bal+ q.1 (pos 1))

    module _ (h : Q.1 ≤ℤ b.1) where
      -- of a corner
      corner-low : (p : Corner) → Memᴰ p P → (cross Q b p ≤ℤ pos 0) × (p.0 ≤ℤ q.0 → cross Q b p <ℤ pos 0)
      unfolding cross
      corner-low p m = go (le_or_lt p.0 q.0) (le_or_lt q.0 p.0)
        where
          below : p.0 ≤ℤ q.0 → (q.0 ≤ℤ p.0) ⊎ (p.0 <ℤ q.0) → cross Q b p <ℤ pos 0
          below l (inl g) =
              let ρ = numbers (Q ∷ b ∷ p ∷ []) in
              by< (cr 0 1 2) O ((h< 6 ρ (X 0) (X 1) t.right ⊡ h< 6 ρ (Y 2) (Y 0) (omega (zarith, out p m l, bal+ q.1 (pos 1)))) ⊞ h≤ 6 ρ (Y 0) (Y 1) h ⊠ h≤ 6 ρ (X 0) (X 2) g) tt
          below l (inr g) = by (le_or_lt (cross p b Q) (pos 0))
            where
              by : (cross p b Q ≤ℤ pos 0) ⊎ (pos 0 <ℤ cross p b Q) → cross Q b p <ℤ pos 0
              by (inl z) = absurd (none-there a w convex Q (record { a = p; b = b; from = m; to = t.is_in; left = g; right = t.right; under = z; above = λ p' m' e. omega (zarith, out p' m' (omega (zarith, e)), bal+ q.1 (pos 1)) }))
              by (inr z) = let ρ = numbers (Q ∷ b ∷ p ∷ []) in by< (cr 0 1 2) O (h< 6 ρ O (cr 2 1 0) z) tt

          go : (p.0 ≤ℤ q.0) ⊎ (q.0 <ℤ p.0) → (q.0 ≤ℤ p.0) ⊎ (p.0 <ℤ q.0) → (cross Q b p ≤ℤ pos 0) × (p.0 ≤ℤ q.0 → cross Q b p <ℤ pos 0)
          go (inl l) g = let z = below l g in (omega (zarith, z), λ i. z)
          go (inr l) g = (t.over p m l, λ i. absurd (omega (zarith, l, i)))

      -- of a panel
      value : Panel → ℤ
      value r = ((b.0 -ℤ q.0) *ℤ (r.1 -ℤ q.1)) -ℤ ((b.1 -ℤ (q.1 +ℤ pos 1)) *ℤ (r.0 -ℤ q.0))

      panel-low : (r : Panel) → Memᴰ r ps → (value r ≤ℤ pos 0) × (r.0 ≤ℤ q.0 → value r <ℤ pos 0)
      unfolding value cross
      panel-low r m = go (under r m)
        where
          go : Under P r → (value r ≤ℤ pos 0) × (r.0 ≤ℤ q.0 → value r <ℤ pos 0)
          go (p, n, px, py) = (omega (zarith, less, low.0), λ l. omega (zarith, less, low.1 (omega (zarith, px, l))))
            where
              low : (cross Q b p ≤ℤ pos 0) × (p.0 ≤ℤ q.0 → cross Q b p <ℤ pos 0)
              low = corner-low p n

              ρ : List ℤ
              ρ = q.0 ∷ q.1 ∷ b.0 ∷ b.1 ∷ p.0 ∷ p.1 ∷ r.0 ∷ r.1 ∷ []

              less : value r ≤ℤ cross Q b p
              less = by≤ ((v 2 ⊖ v 0) ⊗ (v 7 ⊖ v 1) ⊖ (v 3 ⊖ (v 1 ⊕ k (pos 1))) ⊗ (v 6 ⊖ v 0)) ((v 2 ⊖ v 0) ⊗ (v 5 ⊖ (v 1 ⊕ k (pos 1))) ⊖ (v 3 ⊖ (v 1 ⊕ k (pos 1))) ⊗ (v 4 ⊖ v 0))
                  (hw 8 ρ (v 0) (v 2) t.right ⊠ h< 8 ρ (v 7) (v 5) py ⊞ h≤ 8 ρ (v 1 ⊕ k (pos 1)) (v 3) h ⊠ h≤ 8 ρ (v 4) (v 6) px) tt

      sum-none : sum_of value ps ≡ pos 0
      unfolding value
      sum-none =
          sum_weighed (b.0 -ℤ q.0) (b.1 -ℤ (q.1 +ℤ pos 1)) q.0 q.1 ps
          ∙ ap₂ (λ (x y : ℤ). ((b.0 -ℤ q.0) *ℤ (x -ℤ (pos (length ps) *ℤ q.1))) -ℤ ((b.1 -ℤ (q.1 +ℤ pos 1)) *ℤ (y -ℤ (pos (length ps) *ℤ q.0)))) mean.mean_y mean.mean_x
          ∙ ring 4 ((b.0 -ℤ q.0) ∷ (b.1 -ℤ (q.1 +ℤ pos 1)) ∷ (pos (length ps) *ℤ q.1) ∷ (pos (length ps) *ℤ q.0) ∷ []) (v 0 ⊗ (v 2 ⊖ v 2) ⊖ v 1 ⊗ (v 3 ⊖ v 3)) (k (pos 0)) tt

      not_there : ⊥
      not_there = ⊎_elim
          (λ g. omega (zarith, g, sum-none))
          (λ g. omega (zarith, mean.some, mean.mean_x, sum-above (λ r. r.0) q.0 ps g, bal+ (pos (length ps) *ℤ q.0) (pos (length ps))))
          (sum-right value q.0 ps panel-low)

  pub under_mean : Under P q
  under_mean = go (under_or_not P q)
    where
      go : Under P q ⊎ ((p : Corner) → Memᴰ p P → p.0 ≤ℤ q.0 → p.1 ≤ℤ q.1) → Under P q
      go (inl u) = u
      go (inr out) = absurd (by (best Q P))
        where
          by : Best Q P ⊎ ((p : Corner) → Memᴰ p P → p.0 ≤ℤ Q.0) → ⊥
          by (inr f) = not_low (λ p m. out p m (f p m))
          by (inl t) = ⊎_elim (not_there out t) (falls out t) (le_or_lt Q.1 t.b.1)
