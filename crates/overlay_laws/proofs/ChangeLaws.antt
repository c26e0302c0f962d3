-- The stops at which a part changes: in order, even in every row, and an odd number of them is beside a panel exactly if the part
-- has the panel. Assumes nothing.
use mathlib.Core.Bool.{Bool, true, false, cond, ◌&&◌}
use mathlib.Core.List.{List, [], ◌∷◌}
use mathlib.Core.Path.{◌≡◌, refl, ap, ap₂, sym, ◌∙◌}
use Prim.Native.Nat.{ℕ, ◌+◌, ◌%◌}
use native.Mathlib.Omega.{arith}
use lib.ListN.{length}
use Rattle.lists.specs.Lists.{tally, count}
use Rattle.grid.specs.declared.{Corner.Corner}
use Rattle.row_laws.proofs.FootLaws.{Ahead, Climbs, InTurn, climbs_lower, climbs_in_turn}
use Rattle.overlay_laws.specs.Join.{Stop, differ, changes}
use Rattle.overlay_laws.proofs.JoinLaws.{ats, ones_in, twos_in}

tally-one : (a b : Bool) → tally a ≡ tally b → a ≡ b
tally-one true true e = refl
tally-one true false e = absurd (omega (arith, e))
tally-one false true e = absurd (omega (arith, e))
tally-one false false e = refl

-- one change more
tally-differ : (a b : Bool) (n : ℕ) → tally a ≡ (tally b + n) % 2 → tally (differ a b) ≡ n % 2
tally-differ true true n e = omega (arith, e)
tally-differ true false n e = omega (arith, e)
tally-differ false true n e = omega (arith, e)
tally-differ false false n e = omega (arith, e)

differ-tally : (a b : Bool) (n : ℕ) → n % 2 ≡ tally b → (tally (differ a b) + n) % 2 ≡ tally a
differ-tally true true n e = omega (arith, e)
differ-tally true false n e = omega (arith, e)
differ-tally false true n e = omega (arith, e)
differ-tally false false n e = omega (arith, e)

abbrev pub ones : List Stop → ℕ
ones J = count (λ t. t.one) J

abbrev pub twos : List Stop → ℕ
twos J = count (λ t. t.two) J

module _ (part : Bool → Bool → Bool) (none : part false false ≡ false) where
  -- how many changes are left shows whether the part is there
  changes-length : (J : List Stop) (a b : Bool) → tally a ≡ ones J % 2 → tally b ≡ twos J % 2 → length (changes part a b J) % 2 ≡ tally (part a b)
  changes-length [] a b e f = sym (ap tally (ap₂ part (tally-one a false e) (tally-one b false f) ∙ none))
  changes-length (t ∷ J) a b e f =
      by (differ (part a b) (part (differ a t.one) (differ b t.two))) refl (changes-length J (differ a t.one) (differ b t.two) (tally-differ a t.one (ones J) e) (tally-differ b t.two (twos J) f))
    where
      by : (d : Bool) → differ (part a b) (part (differ a t.one) (differ b t.two)) ≡ d → length (changes part (differ a t.one) (differ b t.two) J) % 2 ≡ tally (part (differ a t.one) (differ b t.two))
          → length (cond d (t.at ∷ changes part (differ a t.one) (differ b t.two) J) (changes part (differ a t.one) (differ b t.two) J)) % 2 ≡ tally (part a b)
      by true x ih = omega (arith, ih, differ-tally (part a b) (part (differ a t.one) (differ b t.two)) (length (changes part (differ a t.one) (differ b t.two) J)) ih, ap tally x)
      by false x ih = omega (arith, ih, differ-tally (part a b) (part (differ a t.one) (differ b t.two)) (length (changes part (differ a t.one) (differ b t.two) J)) ih, ap tally x)

  -- a test that stays passed
  module _ (T : Corner → Bool) (mono : (p q : Corner) → Ahead p q → T p ≡ true → T q ≡ true) where
    pass_ones : (lo : Corner) (J : List Stop) → T lo ≡ true → Climbs Ahead lo (ats J) → (ones_in T J ≡ ones J) × (twos_in T J ≡ twos J)
    pass_ones lo [] e g = (refl, refl)
    pass_ones lo (t ∷ J) e g =
        let p = mono lo t.at g.0 e in
        let r = pass_ones t.at J p g.1 in
        (omega (arith, r.0, ap tally (and_yes t.one (T t.at) p)), omega (arith, r.1, ap tally (and_yes t.two (T t.at) p)))
      where
        and_yes : (a b : Bool) → b ≡ true → (a && b) ≡ a
        and_yes true b e = e
        and_yes false b e = refl

    pass_changes : (lo : Corner) (J : List Stop) (a b : Bool) → T lo ≡ true → Climbs Ahead lo (ats J) → count T (changes part a b J) ≡ length (changes part a b J)
    pass_changes lo [] a b e g = refl
    pass_changes lo (t ∷ J) a b e g = by (differ (part a b) (part (differ a t.one) (differ b t.two))) (pass_changes t.at J (differ a t.one) (differ b t.two) (mono lo t.at g.0 e) g.1)
      where
        by : (d : Bool) → count T (changes part (differ a t.one) (differ b t.two) J) ≡ length (changes part (differ a t.one) (differ b t.two) J)
            → count T (cond d (t.at ∷ changes part (differ a t.one) (differ b t.two) J) (changes part (differ a t.one) (differ b t.two) J)) ≡ length (cond d (t.at ∷ changes part (differ a t.one) (differ b t.two) J) (changes part (differ a t.one) (differ b t.two) J))
        by true ih = omega (arith, ih, ap tally (mono lo t.at g.0 e))
        by false ih = ih

    -- what passes shows whether the part is there afterwards
    pub changes_pass : (J : List Stop) (a b x y : Bool) → tally a ≡ ones J % 2 → tally b ≡ twos J % 2 → tally x ≡ ones_in T J % 2 → tally y ≡ twos_in T J % 2 → InTurn Ahead (ats J)
        → count T (changes part a b J) % 2 ≡ tally (part x y)
    changes_pass [] a b x y e f g h s = sym (ap tally (ap₂ part (tally-one x false g) (tally-one y false h) ∙ none))
    changes_pass (t ∷ J) a b x y e f g h s = by (T t.at) refl (λ u v w. changes_pass J (differ a t.one) (differ b t.two) x y (tally-differ a t.one (ones J) e) (tally-differ b t.two (twos J) f) u v w)
      where
        by : (p : Bool) → T t.at ≡ p → (tally x ≡ ones_in T J % 2 → tally y ≡ twos_in T J % 2 → InTurn Ahead (ats J) → count T (changes part (differ a t.one) (differ b t.two) J) % 2 ≡ tally (part x y))
            → count T (changes part a b (t ∷ J)) % 2 ≡ tally (part x y)
        by true p ih =
            let r = pass_ones t.at J p s in
            let u = pass_changes t.at J (differ a t.one) (differ b t.two) p s in
            all (differ (part a b) (part (differ a t.one) (differ b t.two))) p u ∙ changes-length (t ∷ J) a b e f ∙ ap tally (ap₂ part (tally-one a x (e ∙ ap (λ (n : ℕ). n % 2) (sym (here t.one p r.0)) ∙ sym g)) (tally-one b y (f ∙ ap (λ (n : ℕ). n % 2) (sym (here t.two p r.1)) ∙ sym h)))
          where
            here : {m n : ℕ} (c : Bool) → T t.at ≡ true → m ≡ n → tally (c && T t.at) + m ≡ tally c + n
            here true q i = omega (arith, i, ap tally q)
            here false q i = omega (arith, i)

            all : (d : Bool) → T t.at ≡ true → count T (changes part (differ a t.one) (differ b t.two) J) ≡ length (changes part (differ a t.one) (differ b t.two) J)
                → count T (cond d (t.at ∷ changes part (differ a t.one) (differ b t.two) J) (changes part (differ a t.one) (differ b t.two) J)) % 2 ≡ length (cond d (t.at ∷ changes part (differ a t.one) (differ b t.two) J) (changes part (differ a t.one) (differ b t.two) J)) % 2
            all true q i = omega (arith, i, ap tally q)
            all false q i = omega (arith, i)
        by false p ih =
            skip (differ (part a b) (part (differ a t.one) (differ b t.two))) p
            ∙ ih (g ∙ ap (λ (n : ℕ). n % 2) (gone t.one p)) (h ∙ ap (λ (n : ℕ). n % 2) (gone t.two p)) (climbs_in_turn Ahead t.at (ats J) s)
          where
            skip : (d : Bool) → T t.at ≡ false → count T (cond d (t.at ∷ changes part (differ a t.one) (differ b t.two) J) (changes part (differ a t.one) (differ b t.two) J)) % 2 ≡ count T (changes part (differ a t.one) (differ b t.two) J) % 2
            skip true q = omega (arith, ap tally q)
            skip false q = refl

            gone : {n : ℕ} (c : Bool) → T t.at ≡ false → tally (c && T t.at) + n ≡ n
            gone true q = omega (arith, ap tally q)
            gone false q = omega arith

-- the changes are in order
changes_climbs : (part : Bool → Bool → Bool) (lo : Corner) (J : List Stop) (a b : Bool) → Climbs Ahead lo (ats J) → Climbs Ahead lo (changes part a b J)
changes_climbs part lo [] a b g = tt
changes_climbs part lo (t ∷ J) a b g = by (differ (part a b) (part (differ a t.one) (differ b t.two))) (changes_climbs part t.at J (differ a t.one) (differ b t.two) g.1)
  where
    by : (d : Bool) → Climbs Ahead t.at (changes part (differ a t.one) (differ b t.two) J) → Climbs Ahead lo (cond d (t.at ∷ changes part (differ a t.one) (differ b t.two) J) (changes part (differ a t.one) (differ b t.two) J))
    by true ih = (g.0, ih)
    by false ih = climbs_lower lo t.at (changes part (differ a t.one) (differ b t.two) J) g.0 ih

pub changes_turn : (part : Bool → Bool → Bool) (J : List Stop) (a b : Bool) → InTurn Ahead (ats J) → InTurn Ahead (changes part a b J)
changes_turn part [] a b g = tt
changes_turn part (t ∷ J) a b g = by (differ (part a b) (part (differ a t.one) (differ b t.two))) (changes_climbs part t.at J (differ a t.one) (differ b t.two) g)
  where
    by : (d : Bool) → Climbs Ahead t.at (changes part (differ a t.one) (differ b t.two) J) → InTurn Ahead (cond d (t.at ∷ changes part (differ a t.one) (differ b t.two) J) (changes part (differ a t.one) (differ b t.two) J))
    by true ih = ih
    by false ih = climbs_in_turn Ahead t.at (changes part (differ a t.one) (differ b t.two) J) ih
