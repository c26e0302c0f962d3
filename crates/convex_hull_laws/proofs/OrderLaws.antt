-- Walks whose steps keep to an order of the corners: a corner of such a walk comes before a step of it or after it.
-- Assumes nothing.
use mathlib.Core.List.Memᴰ
use mathlib.Core.List.{List, [], ◌∷◌, ◌++◌, Memᴰ}
use mathlib.Core.Logic.{◌⊎◌, inl, inr, ⊎_elim}
use mathlib.Core.Path.{◌≡◌, refl, sym, ap, ap₂, ◌∙◌, subst}
use Prim.Native.Nat.{ℕ, zero, suc, ◌+◌, ◌%◌, ◌<◌}
use native.Mathlib.Omega.{arith}
use Rattle.lists.specs.Lists.{Below}
use Rattle.grid.specs.declared.Corner.{Corner}
use Rattle.grid.specs.Grid.{stepped, corners_from, end_from, legs_from}
use Rattle.panels.specs.Inside.{EachStep}
use Rattle.outline_room_laws.proofs.SideLaws.{each_edge}
use Rattle.convex.specs.Parts.{turned_by}
use Rattle.convex_hull_laws.proofs.StepLaws.{StepsAt}

pub legs_append : (c : Corner) (u v : List ℕ) (e : Corner × Corner) → Memᴰ e (legs_from c (u ++ v)) → Memᴰ e (legs_from c u) ⊎ Memᴰ e (legs_from (end_from c u) v)
legs_append c [] v e m = inr m
legs_append c (d ∷ u) v e m = ⊎_elim (λ z. inl (Memᴰ.head z)) (λ t. ⊎_elim (λ n. inl (Memᴰ.tail n)) inr (legs_append (stepped d c) u v e t)) (Memᴰ.cases_cons m)

pub legs_left : (c : Corner) (u v : List ℕ) (e : Corner × Corner) → Memᴰ e (legs_from c u) → Memᴰ e (legs_from c (u ++ v))
legs_left c [] v e m = absurd (Memᴰ.not-nil m)
legs_left c (d ∷ u) v e m = ⊎_elim (λ z. Memᴰ.head z) (λ t. Memᴰ.tail (legs_left (stepped d c) u v e t)) (Memᴰ.cases_cons m)

pub legs_right : (c : Corner) (u v : List ℕ) (e : Corner × Corner) → Memᴰ e (legs_from (end_from c u) v) → Memᴰ e (legs_from c (u ++ v))
legs_right c [] v e m = m
legs_right c (d ∷ u) v e m = Memᴰ.tail (legs_right (stepped d c) u v e m)

-- the step at a place is a leg
pub steps_leg : (c : Corner) (ds : List ℕ) (d : ℕ) (p : Corner) (j : ℕ) → StepsAt c ds d p j → Memᴰ (p, stepped d p) (legs_from c ds)
steps_leg c [] d p j s = absurd (omega (arith, s.within))
steps_leg c (e ∷ ds) d p zero s = Memᴰ.head (ap₂ (λ (x y : Corner). (x, y)) (sym s.from) (sym (ap₂ stepped s.way s.from)))
steps_leg c (e ∷ ds) d p (suc j) s = Memᴰ.tail (steps_leg (stepped e c) ds d p j (record { within = omega (arith, s.within); way = s.way; from = s.from }))

-- each letter of a part that is turned back
each_letter : (i : ℕ) (c : Corner) (w : List ℕ) → Below 2 (turned_by i w) → EachStep (λ d q. (d + i) % 4 < 2) c w
each_letter i c [] b = tt
each_letter i c (d ∷ w) b = (b.0, each_letter i (stepped d c) w b.1)

pub leg_letter : (i : ℕ) (c : Corner) (w : List ℕ) → Below 4 w → Below 2 (turned_by i w) → (d : ℕ) → d < 4 → (p : Corner) → Memᴰ (p, stepped d p) (legs_from c w) → (d + i) % 4 < 2
leg_letter i c w b l d h p m = each_edge (λ e q. (e + i) % 4 < 2) c w b (each_letter i c w l) p d h m

leg_start : (c : Corner) (w : List ℕ) (s t : Corner) → Memᴰ (s, t) (legs_from c w) → Memᴰ s (corners_from c w)
leg_start c [] s t m = absurd (Memᴰ.not-nil m)
leg_start c (d ∷ w) s t m = ⊎_elim (λ e. Memᴰ.head (ap (λ (z : Corner × Corner). z.0) e)) (λ n. Memᴰ.tail (leg_start (stepped d c) w s t n)) (Memᴰ.cases_cons m)

pub leg_end : (c : Corner) (w : List ℕ) (s t : Corner) → Memᴰ (s, t) (legs_from c w) → Memᴰ t (corners_from c w)
leg_end c [] s t m = absurd (Memᴰ.not-nil m)
leg_end c (d ∷ w) s t m = ⊎_elim (λ e. Memᴰ.tail (Memᴰ.head (ap (λ (z : Corner × Corner). z.1) e))) (λ n. Memᴰ.tail (leg_end (stepped d c) w s t n)) (Memᴰ.cases_cons m)

-- a part that is turned back keeps to an order if its two letters do
pub keeps_letters : (R : Corner → Corner → Type 0) (i : ℕ) → ((d : ℕ) → d < 4 → (d + i) % 4 < 2 → (q : Corner) → R q (stepped d q)) → (c : Corner) (w : List ℕ) → Below 4 w → Below 2 (turned_by i w) → EachStep (λ d q. R q (stepped d q)) c w
keeps_letters R i f c [] b l = tt
keeps_letters R i f c (d ∷ w) b l = (f d b.0 l.0 c, keeps_letters R i f (stepped d c) w b.1 l.1)

-- corners in an order that every step keeps
module _ (R : Corner → Corner → Type 0) (self : (a : Corner) → R a a) (over : (a b c : Corner) → R a b → R b c → R a c) where
  abbrev Keeps : Corner → List ℕ → Type 0
  Keeps c w = EachStep (λ d q. R q (stepped d q)) c w

  pub reach : (c : Corner) (w : List ℕ) → Keeps c w → (p : Corner) → Memᴰ p (corners_from c w) → R c p
  reach c [] f p m = subst (R c) (sym (Memᴰ.eq_of_singleton m)) (self c)
  reach c (d ∷ w) f p m = ⊎_elim (λ e. subst (R c) (sym e) (self c)) (λ t. over c (stepped d c) p f.0 (reach (stepped d c) w f.1 p t)) (Memᴰ.cases_cons m)

  pub reach_end : (c : Corner) (w : List ℕ) → Keeps c w → (p : Corner) → Memᴰ p (corners_from c w) → R p (end_from c w)
  reach_end c [] f p m = subst (λ (z : Corner). R z c) (sym (Memᴰ.eq_of_singleton m)) (self c)
  reach_end c (d ∷ w) f p m = ⊎_elim (λ e. subst (λ (z : Corner). R z (end_from (stepped d c) w)) (sym e) (over c (stepped d c) (end_from (stepped d c) w) f.0 (reach_end (stepped d c) w f.1 (stepped d c) (Memᴰ.head refl)))) (λ t. reach_end (stepped d c) w f.1 p t) (Memᴰ.cases_cons m)

  -- a corner comes before a step or after it
  pub leg_order : (c : Corner) (w : List ℕ) → Keeps c w → (s t : Corner) → Memᴰ (s, t) (legs_from c w) → (p : Corner) → Memᴰ p (corners_from c w) → R p s ⊎ R t p
  leg_order c [] f s t m p n = absurd (Memᴰ.not-nil m)
  leg_order c (d ∷ w) f s t m p n = go (Memᴰ.cases_cons m) (Memᴰ.cases_cons n) (λ m' n'. leg_order (stepped d c) w f.1 s t m' p n')
    where
      first : Memᴰ (s, t) (legs_from (stepped d c) w) → Memᴰ s (corners_from (stepped d c) w)
      first m' = leg_start (stepped d c) w s t m'

      go : (◌≡◌ {A = Corner × Corner} (s, t) (c, stepped d c)) ⊎ Memᴰ (s, t) (legs_from (stepped d c) w) → (p ≡ c) ⊎ Memᴰ p (corners_from (stepped d c) w) → (Memᴰ (s, t) (legs_from (stepped d c) w) → Memᴰ p (corners_from (stepped d c) w) → R p s ⊎ R t p) → R p s ⊎ R t p
      go (inl e) (inl g) more = inl (subst (R p) (g ∙ sym (ap (λ (z : Corner × Corner). z.0) e)) (self p))
      go (inl e) (inr g) more = inr (subst (λ (z : Corner). R z p) (sym (ap (λ (z : Corner × Corner). z.1) e)) (reach (stepped d c) w f.1 p g))
      go (inr e) (inl g) more = inl (subst (λ (z : Corner). R z s) (sym g) (over c (stepped d c) s f.0 (reach (stepped d c) w f.1 s (first e))))
      go (inr e) (inr g) more = more e g
