-- There is only one list of the corners of the hull.
-- Assumes nothing.
use mathlib.Core.Path.{◌≡◌, refl, sym, ap₂, ◌∙◌, subst}
use mathlib.Core.List.Memᴰ
use mathlib.Core.List.{List, [], ◌∷◌, Memᴰ}
use mathlib.Core.Logic.{◌⊎◌, inl, inr}
use Rattle.int_laws.proofs.SignLaws.{h<, by⊥, ◌⊞◌}
use Rattle.grid.specs.declared.Corner.{Corner}
use Rattle.grid.specs.Grid.{numbers}
use Rattle.hull.specs.Hull.{HullIs, Left, Pairs, cross}
use Rattle.column_laws.proofs.BeginLaws.{begins_both}
use Rattle.hull_laws.proofs.CornerLaws.{O, cr}

left_asym : {a b c : Corner} → Left a b c → Left a c b → ⊥
unfolding cross
left_asym {a} {b} {c} h g =
    let ρ = numbers (a ∷ b ∷ c ∷ []) in
    by⊥ (h< 6 ρ O (cr 0 1 2) h.left ⊞ h< 6 ρ O (cr 0 2 1) g.left) tt

-- two lists in the order of a relation that goes one way only, with the same members, are one list
module _ (R : Corner → Corner → Type 0) (asym : (a b : Corner) → R a b → R b a → ⊥) where
  sorted_unique : (l l' : List Corner) → Pairs R l → Pairs R l' → ((q : Corner) → Memᴰ q l → Memᴰ q l') → ((q : Corner) → Memᴰ q l' → Memᴰ q l) → l ≡ l'
  sorted_unique [] [] s s' f g = refl
  sorted_unique [] (b ∷ l') s s' f g = absurd (Memᴰ.not-nil (g b (Memᴰ.head refl)))
  sorted_unique (a ∷ l) [] s s' f g = absurd (Memᴰ.not-nil (f a (Memᴰ.head refl)))
  sorted_unique (a ∷ l) (b ∷ l') s s' f g = ap₂ ◌∷◌ e (sorted_unique l l' s.1 s'.1 (tail e) (tail' e))
    where
      heads : (a ≡ b) ⊎ Memᴰ a l' → (b ≡ a) ⊎ Memᴰ b l → a ≡ b
      heads (inl p) y = p
      heads (inr m) (inl p) = sym p
      heads (inr m) (inr n) = absurd (asym a b (s.0 b n) (s'.0 a m))

      e : a ≡ b
      e = heads (Memᴰ.cases_cons (f a (Memᴰ.head refl))) (Memᴰ.cases_cons (g b (Memᴰ.head refl)))

      tail : a ≡ b → (q : Corner) → Memᴰ q l → Memᴰ q l'
      tail e q m = go (Memᴰ.cases_cons (f q (Memᴰ.tail m)))
        where
          go : (q ≡ b) ⊎ Memᴰ q l' → Memᴰ q l'
          go (inl p) = absurd (asym a a (self) (self))
            where
              self : R a a
              self = subst (λ (z : Corner). R a z) (p ∙ sym e) (s.0 q m)
          go (inr n) = n

      tail' : a ≡ b → (q : Corner) → Memᴰ q l' → Memᴰ q l
      tail' e q m = go (Memᴰ.cases_cons (g q (Memᴰ.tail m)))
        where
          go : (q ≡ a) ⊎ Memᴰ q l → Memᴰ q l
          go (inl p) = absurd (asym b b (self) (self))
            where
              self : R b b
              self = subst (λ (z : Corner). R b z) (p ∙ e) (s'.0 q m)
          go (inr n) = n

-- two lists that are the hull of the same corners are one
pub hull_is_one : (P L L' : List Corner) → HullIs P L → HullIs P L' → L ≡ L'
hull_is_one P [] L' h h' = absurd h.starts
hull_is_one P (a ∷ l) [] h h' = absurd h'.starts
hull_is_one P (a ∷ l) (b ∷ l') h h' = ap₂ ◌∷◌ e (sorted_unique (λ p q. Left a p q) (λ p q x y. left_asym x y) l l' h.ccw.0 (subst (λ (z : Corner). Pairs (λ p q. Left z p q) l') (sym e) h'.ccw.0) fwd bwd)
  where
    e : a ≡ b
    e = begins_both a b (h.starts.1 b h'.starts.0) (h'.starts.1 a h.starts.0)

    fwd : (q : Corner) → Memᴰ q l → Memᴰ q l'
    fwd q m = go (Memᴰ.cases_cons ((h'.corners q).1 ((h.corners q).0 (Memᴰ.tail m))))
      where
        go : (q ≡ b) ⊎ Memᴰ q l' → Memᴰ q l'
        go (inl p) = absurd (h.once.0 (Memᴰ.cast (e ∙ sym p) m))
        go (inr n) = n

    bwd : (q : Corner) → Memᴰ q l' → Memᴰ q l
    bwd q m = go (Memᴰ.cases_cons ((h.corners q).1 ((h'.corners q).0 (Memᴰ.tail m))))
      where
        go : (q ≡ a) ⊎ Memᴰ q l → Memᴰ q l
        go (inl p) = absurd (h'.once.0 (Memᴰ.cast (sym e ∙ sym p) m))
        go (inr n) = n
