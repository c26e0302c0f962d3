-- The joined stops are in order and have all of both lists; the changes of a part are in order, even in every row, and of them an odd number is
-- beside a panel exactly if the part has the panel.
-- Assumes nothing.
use mathlib.Core.Bool.{Bool, true, false, not, ◌&&◌, true≢false}
use mathlib.Core.List.{List, [], ◌∷◌, map}
use mathlib.Core.Logic.{inl, inr, ⊎_elim}
use mathlib.Core.Path.{◌≡◌, refl, ap, sym, ◌∙◌, subst}
use Prim.Native.Nat.{ℕ, zero, suc, ◌+◌, ◌≤◌}
use native.Mathlib.Omega.{arith}
use lib.ListN.{length, drop}
use Rattle.lists.specs.Lists.{tally, count}
use Rattle.grid.specs.declared.Corner.{Corner}
use Rattle.int_laws.proofs.LinearLaws.{zarith}
use Rattle.row_laws.specs.Feet.{ahead}
use Rattle.row_laws.proofs.FootLaws.{Ahead, Climbs, InTurn, ahead_true, ahead_yes, ahead-three, ahead_trans, climbs_in_turn}
use Rattle.overlay_laws.specs.Join.{Stop, first, leads, stops_by, join}

abbrev pub ats : List Stop → List Corner
ats J = map (λ t. t.at) J

-- ---- order of the joined stops

not_ahead : (p q : Corner) → not (ahead q p) ≡ false → Ahead q p
not_ahead p q e = by (ahead q p) refl e
  where
    by : (b : Bool) → ahead q p ≡ b → not b ≡ false → Ahead q p
    by true f g = ahead_true q p f
    by false f g = absurd (true≢false g)

-- if P does not lead, Q comes after its own first
behind : (P Q : List Corner) → leads P Q ≡ true → leads Q P ≡ false → InTurn Ahead Q → Climbs Ahead (first P) Q
behind [] Q e f g = absurd (true≢false (sym e))
behind (p ∷ P) [] e f g = tt
behind (p ∷ P) (q ∷ Q) e f g = (not_ahead q p f, g)

rest_in_turn : (P : List Corner) → InTurn Ahead P → Climbs Ahead (first P) (drop 1 P)
rest_in_turn [] g = tt
rest_in_turn (p ∷ P) g = g

turn_lower : (lo : Corner) (P : List Corner) → Climbs Ahead lo P → InTurn Ahead P
turn_lower lo P g = climbs_in_turn Ahead lo P g

lead_above : (lo : Corner) (P Q : List Corner) → leads P Q ≡ true → Climbs Ahead lo P → Ahead lo (first P)
lead_above lo [] Q e g = absurd (true≢false (sym e))
lead_above lo (p ∷ P) Q e g = g.0

-- two that lead are one
lead_same : (P Q : List Corner) → leads P Q ≡ true → leads Q P ≡ true → first P ≡ first Q
lead_same [] Q e f = absurd (true≢false (sym e))
lead_same (p ∷ P) [] e f = absurd (true≢false (sym f))
lead_same (p ∷ P) (q ∷ Q) e f = ⊎_elim (λ h. absurd (no p q f h)) (⊎_elim (λ h. h) (λ h. absurd (no q p e h))) (ahead-three p q)
  where
    no : (x y : Corner) → not (ahead x y) ≡ true → Ahead x y → ⊥
    no x y g h = true≢false (sym g ∙ ap not (ahead_yes x y h))

join_climbs : (n : ℕ) (lo : Corner) (P Q : List Corner) → Climbs Ahead lo P → Climbs Ahead lo Q → Climbs Ahead lo (ats (join n P Q))
join_climbs zero lo P Q g h = tt
join_climbs (suc n) lo P Q g h = by (leads P Q) (leads Q P) refl refl (join_climbs n (first P) (drop 1 P)) (join_climbs n (first Q) P (drop 1 Q))
  where
    by : (a b : Bool) → leads P Q ≡ a → leads Q P ≡ b
        → ((Q' : List Corner) → Climbs Ahead (first P) (drop 1 P) → Climbs Ahead (first P) Q' → Climbs Ahead (first P) (ats (join n (drop 1 P) Q')))
        → (Climbs Ahead (first Q) P → Climbs Ahead (first Q) (drop 1 Q) → Climbs Ahead (first Q) (ats (join n P (drop 1 Q))))
        → Climbs Ahead lo (ats (stops_by (λ (X Y : List Corner). join n X Y) P Q a b))
    by true true e f k l =
        (lead_above lo P Q e g, k (drop 1 Q) (rest_in_turn P (turn_lower lo P g)) (subst (λ (c : Corner). Climbs Ahead c (drop 1 Q)) (sym (lead_same P Q e f)) (rest_in_turn Q (turn_lower lo Q h))))
    by true false e f k l = (lead_above lo P Q e g, k Q (rest_in_turn P (turn_lower lo P g)) (behind P Q e f (turn_lower lo Q h)))
    by false true e f k l = (lead_above lo Q P f h, l (behind Q P f e (turn_lower lo P g)) (rest_in_turn Q (turn_lower lo Q h)))
    by false false e f k l = tt

-- ---- both lists are there, by any test

module _ (T : Corner → Bool) where
  abbrev pub ones_in : List Stop → ℕ
  ones_in J = count (λ t. t.one && T t.at) J

  abbrev pub twos_in : List Stop → ℕ
  twos_in J = count (λ t. t.two && T t.at) J

  count-first : (P Q : List Corner) → leads P Q ≡ true → tally (T (first P)) + count T (drop 1 P) ≡ count T P
  count-first [] Q e = absurd (true≢false (sym e))
  count-first (p ∷ P) Q e = refl

  length-first : (P Q : List Corner) → leads P Q ≡ true → suc (length (drop 1 P)) ≡ length P
  length-first [] Q e = absurd (true≢false (sym e))
  length-first (p ∷ P) Q e = refl

  -- if none leads there is none
  pub none_left : (P Q : List Corner) → leads P Q ≡ false → leads Q P ≡ false → (count T P ≡ 0) × (count T Q ≡ 0)
  none_left [] [] e f = (refl, refl)
  none_left [] (q ∷ Q) e f = absurd (true≢false f)
  none_left (p ∷ P) [] e f = absurd (true≢false e)
  none_left (p ∷ P) (q ∷ Q) e f = let a = not_ahead p q e in let b = not_ahead q p f in absurd (twice (ahead_trans p q p b a))
    where
      twice : Ahead p p → ⊥
      twice (inl h) = omega (zarith, h)
      twice (inr h) = omega (zarith, h.1)

  pub join-all : (n : ℕ) (P Q : List Corner) → length P + length Q ≤ n → (ones_in (join n P Q) ≡ count T P) × (twos_in (join n P Q) ≡ count T Q)
  join-all zero [] [] h = (refl, refl)
  join-all zero [] (q ∷ Q) h = absurd (omega arith)
  join-all zero (p ∷ P) Q h = absurd (omega arith)
  join-all (suc n) P Q h = by (leads P Q) (leads Q P) refl refl (join-all n (drop 1 P) Q) (join-all n P (drop 1 Q)) (join-all n (drop 1 P) (drop 1 Q))
    where
      by : (a b : Bool) → leads P Q ≡ a → leads Q P ≡ b
          → (length (drop 1 P) + length Q ≤ n → (ones_in (join n (drop 1 P) Q) ≡ count T (drop 1 P)) × (twos_in (join n (drop 1 P) Q) ≡ count T Q))
          → (length P + length (drop 1 Q) ≤ n → (ones_in (join n P (drop 1 Q)) ≡ count T P) × (twos_in (join n P (drop 1 Q)) ≡ count T (drop 1 Q)))
          → (length (drop 1 P) + length (drop 1 Q) ≤ n → (ones_in (join n (drop 1 P) (drop 1 Q)) ≡ count T (drop 1 P)) × (twos_in (join n (drop 1 P) (drop 1 Q)) ≡ count T (drop 1 Q)))
          → (ones_in (stops_by (λ (X Y : List Corner). join n X Y) P Q a b) ≡ count T P) × (twos_in (stops_by (λ (X Y : List Corner). join n X Y) P Q a b) ≡ count T Q)
      by true true e f i j k =
          let r = k (omega (arith, h, length-first P Q e, length-first Q P f)) in
          (omega (arith, r.0, count-first P Q e), omega (arith, r.1, count-first Q P f, ap (λ (c : Corner). tally (T c)) (lead_same P Q e f)))
      by true false e f i j k = let r = i (omega (arith, h, length-first P Q e)) in (omega (arith, r.0, count-first P Q e), omega (arith, r.1))
      by false true e f i j k = let r = j (omega (arith, h, length-first Q P f)) in (omega (arith, r.0), omega (arith, r.1, count-first Q P f))
      by false false e f i j k = let r = none_left P Q e f in (sym r.0, sym r.1)

pub join_turn : (n : ℕ) (P Q : List Corner) → InTurn Ahead P → InTurn Ahead Q → InTurn Ahead (ats (join n P Q))
join_turn zero P Q g h = tt
join_turn (suc n) P Q g h = by (leads P Q) (leads Q P) refl refl
  where
    by : (a b : Bool) → leads P Q ≡ a → leads Q P ≡ b → InTurn Ahead (ats (stops_by (λ (X Y : List Corner). join n X Y) P Q a b))
    by true true e f = join_climbs n (first P) (drop 1 P) (drop 1 Q) (rest_in_turn P g) (subst (λ (c : Corner). Climbs Ahead c (drop 1 Q)) (sym (lead_same P Q e f)) (rest_in_turn Q h))
    by true false e f = join_climbs n (first P) (drop 1 P) Q (rest_in_turn P g) (behind P Q e f h)
    by false true e f = join_climbs n (first Q) P (drop 1 Q) (behind Q P f e g) (rest_in_turn Q h)
    by false false e f = tt
