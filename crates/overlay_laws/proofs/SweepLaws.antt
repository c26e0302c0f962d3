-- What the sweep over two lists of spans does at each stop.
-- Assumes nothing.
use mathlib.Core.Bool.{Bool, true, false, cond, not, true≢false}
use mathlib.Core.List.{List, [], ◌∷◌}
use mathlib.Core.Path.{◌≡◌, refl, ap, ap₂, sym, ◌∙◌}
use Prim.Native.Nat.{ℕ, zero, suc, ◌+◌, ◌-◌, ◌%◌, ◌<◌, ◌≤◌}
use native.Mathlib.Omega.{arith}
use lib.Dec.{eqb}
use lib.IntN.{ℤ}
use lib.ListN.{length}
use Rattle.lists.specs.Lists.{tally, count}
use Rattle.grid.specs.declared.Corner.{Corner}
use Rattle.row_laws.specs.Feet.{ahead}
use Rattle.overlay.specs.declared.Part.{Part}
use Rattle.overlay_laws.specs.Join.{leads, stops_by, join, differ, changes}
use Rattle.overlay_laws.specs.Sweep.{part_has, part_ends, end_at, ends_from, odd, part_rest}
use Rattle.overlay_laws.proofs.JoinLaws.{none_left}

-- ---- which list leads

one_more : (n i : ℕ) → i < n → n - i ≡ suc (n - suc i)
one_more n i h = omega arith

none_more : (n i : ℕ) → n ≤ i → n - i ≡ 0
none_more n i h = omega arith

ends-one : (a : List ℤ) (n i : ℕ) → i < n → ends_from a i (n - i) ≡ end_at a i ∷ ends_from a (suc i) (n - suc i)
ends-one a n i h = ap (ends_from a i) (one_more n i h)

ends-none : (a : List ℤ) (n i : ℕ) → n ≤ i → ends_from a i (n - i) ≡ []
ends-none a n i h = ap (ends_from a i) (none_more n i h)

-- the ends from the next one on, and from the same one on
ends_next : (a : List ℤ) (n i : ℕ) → ends_from a (suc i) (n - suc i) ≡ ends_from a (i + 1) (n - (i + 1))
ends_next a n i = let e : suc i ≡ i + 1 = omega arith in ap (λ (m : ℕ). ends_from a m (n - m)) e

ends_stay : (a : List ℤ) (n i : ℕ) → ends_from a i (n - i) ≡ ends_from a (i + 0) (n - (i + 0))
ends_stay a n i = let e : i ≡ i + 0 = omega arith in ap (λ (m : ℕ). ends_from a m (n - m)) e

module _ (a : List ℤ) (i na : ℕ) (b : List ℤ) (j nb : ℕ) where
  pub lead_none : na ≤ i → leads (ends_from a i (na - i)) (ends_from b j (nb - j)) ≡ false
  lead_none h = ap (λ (P : List Corner). leads P (ends_from b j (nb - j))) (ends-none a na i h)

  pub lead_alone : i < na → nb ≤ j → leads (ends_from a i (na - i)) (ends_from b j (nb - j)) ≡ true
  lead_alone h g = ap₂ leads (ends-one a na i h) (ends-none b nb j g)

  pub lead_both : i < na → j < nb → leads (ends_from a i (na - i)) (ends_from b j (nb - j)) ≡ not (ahead (end_at b j) (end_at a i))
  lead_both h g = ap₂ leads (ends-one a na i h) (ends-one b nb j g)

  -- a list that leads is not at its end
  lead_there : leads (ends_from a i (na - i)) (ends_from b j (nb - j)) ≡ true → i < na
  lead_there e = by (na - i) refl e
    where
      by : (k : ℕ) → na - i ≡ k → leads (ends_from a i k) (ends_from b j (nb - j)) ≡ true → i < na
      by zero f g = absurd (true≢false (sym g))
      by (suc k) f g = omega (arith, f)

-- ---- the next stop

odd_step : (i : ℕ) (b : Bool) → differ (odd i) b ≡ odd (i + tally b)
odd_step i true = by (i % 2) (i + 1) (omega arith) (omega arith)
  where
    by : (m n : ℕ) → m < 2 → (m + n) % 2 ≡ 1 → differ (eqb m 1) true ≡ eqb (n % 2) 1
    by zero n h e = ap (λ (k : ℕ). eqb k 1) (sym (low n e))
      where
        low : (n : ℕ) → (0 + n) % 2 ≡ 1 → n % 2 ≡ 1
        low n e = omega (arith, e)
    by (suc zero) n h e = ap (λ (k : ℕ). eqb k 1) (sym (high n e))
      where
        high : (n : ℕ) → (1 + n) % 2 ≡ 1 → n % 2 ≡ 0
        high n e = omega (arith, e)
    by (suc (suc m)) n h e = absurd (omega (arith, h))
odd_step i false = same (odd i) ∙ ap odd none
  where
    same : (c : Bool) → differ c false ≡ c
    same true = refl
    same false = refl

    none : i ≡ i + 0
    none = omega arith

length-ends : (a : List ℤ) (i k : ℕ) → count (λ q. true) (ends_from a i k) ≡ k
length-ends a i zero = refl
length-ends a i (suc k) = omega (arith, length-ends a (suc i) k)

module _ (k : Part) (a : List ℤ) (i na : ℕ) (b : List ℤ) (j nb f : ℕ) (one two : Bool)
    (e : leads (ends_from a i (na - i)) (ends_from b j (nb - j)) ≡ one) (g : leads (ends_from b j (nb - j)) (ends_from a i (na - i)) ≡ two) (more : i + j < na + nb) (first : i ≤ na) (second : j ≤ nb) where
  abbrev rest : List Corner
  rest = part_rest k a (i + tally one) na b (j + tally two) nb f

  abbrev was : Bool
  was = part_has k (odd i) (odd j)

  abbrev is : Bool
  is = part_has k (odd (i + tally one)) (odd (j + tally two))

  abbrev stop : Corner
  stop = cond one (end_at a i) (end_at b j)

  -- the changes at and after the next stop, if the lists X and Y are at it, and x and y say which of them lead
  abbrev stops : List Corner → List Corner → Bool → Bool → List Corner
  stops X Y x y = changes (part_has k) (odd i) (odd j) (stops_by (λ (X Y : List Corner). join f X Y) X Y x y)

  -- those after it, if X and Y are then left
  abbrev after : Bool → Bool → List Corner → List Corner → List Corner
  after x y X Y = changes (part_has k) (odd (i + tally x)) (odd (j + tally y)) (join f X Y)

  -- and those with the stop c, if the part begins or ends there
  abbrev passed : Bool → Bool → Corner → List Corner → List Corner → List Corner
  passed x y c X Y = cond (differ was (part_has k (odd (i + tally x)) (odd (j + tally y)))) (c ∷ after x y X Y) (after x y X Y)

  one-stop : (x y : Bool) (c : Corner) (X Y : List Corner) → changes (part_has k) (odd i) (odd j) (record { at = c; one = x; two = y } ∷ join f X Y) ≡ passed x y c X Y
  one-stop x y c X Y =
      ap₂ (λ (u v : Bool). cond (differ was (part_has k u v)) (c ∷ changes (part_has k) u v (join f X Y)) (changes (part_has k) u v (join f X Y)))
      (odd_step i x) (odd_step j y)

  pub stop-left : part_rest k a i na b j nb (suc f) ≡ cond (differ was is) (stop ∷ rest) rest
  stop-left = by one two e g
    where
      by : (x y : Bool) → leads (ends_from a i (na - i)) (ends_from b j (nb - j)) ≡ x → leads (ends_from b j (nb - j)) (ends_from a i (na - i)) ≡ y
          → part_rest k a i na b j nb (suc f) ≡ passed x y (cond x (end_at a i) (end_at b j)) (ends_from a (i + tally x) (na - (i + tally x))) (ends_from b (j + tally y) (nb - (j + tally y)))
      by true true p q =
          let h = lead_there a i na b j nb p in
          let l = lead_there b j nb a i na q in
          ap₂ (stops (ends_from a i (na - i)) (ends_from b j (nb - j))) p q
          ∙ ap₂ (λ (X Y : List Corner). stops X Y true true) (ends-one a na i h) (ends-one b nb j l)
          ∙ one-stop true true (end_at a i) (ends_from a (suc i) (na - suc i)) (ends_from b (suc j) (nb - suc j))
          ∙ ap₂ (passed true true (end_at a i)) (ends_next a na i) (ends_next b nb j)
      by true false p q =
          ap₂ (stops (ends_from a i (na - i)) (ends_from b j (nb - j))) p q
          ∙ ap (λ (X : List Corner). stops X (ends_from b j (nb - j)) true false) (ends-one a na i (lead_there a i na b j nb p))
          ∙ one-stop true false (end_at a i) (ends_from a (suc i) (na - suc i)) (ends_from b j (nb - j))
          ∙ ap₂ (passed true false (end_at a i)) (ends_next a na i) (ends_stay b nb j)
      by false true p q =
          ap₂ (stops (ends_from a i (na - i)) (ends_from b j (nb - j))) p q
          ∙ ap (λ (Y : List Corner). stops (ends_from a i (na - i)) Y false true) (ends-one b nb j (lead_there b j nb a i na q))
          ∙ one-stop false true (end_at b j) (ends_from a i (na - i)) (ends_from b (suc j) (nb - suc j))
          ∙ ap₂ (passed false true (end_at b j)) (ends_stay a na i) (ends_next b nb j)
      by false false p q =
          let n = none_left (λ c. true) (ends_from a i (na - i)) (ends_from b j (nb - j)) p q in
          absurd (omega (arith, n.0, n.1, length-ends a i (na - i), length-ends b j (nb - j)))

-- ---- one step

pub length-ends_from : (a : List ℤ) (i k : ℕ) → length (ends_from a i k) ≡ k
length-ends_from a i zero = refl
length-ends_from a i (suc k) = ap suc (length-ends_from a (suc i) k)

-- if there is a stop there is fuel
pub some_fuel : (n f : ℕ) → 0 < n → n ≤ f → (m : ℕ) × (f ≡ suc m)
some_fuel n zero h g = absurd (omega arith)
some_fuel n (suc f) h g = (f, refl)

module _ (k : Part) (a : List ℤ) (i na : ℕ) (b : List ℤ) (j nb : ℕ) (one two : Bool)
    (e : leads (ends_from a i (na - i)) (ends_from b j (nb - j)) ≡ one) (g : leads (ends_from b j (nb - j)) (ends_from a i (na - i)) ≡ two) (more : i + j < na + nb) where
  stepped-first : i ≤ na → i + tally one ≤ na
  stepped-first h = by one e
    where
      by : (x : Bool) → leads (ends_from a i (na - i)) (ends_from b j (nb - j)) ≡ x → i + tally x ≤ na
      by true p = omega (arith, lead_there a i na b j nb p)
      by false p = omega arith

  stepped_second : j ≤ nb → j + tally two ≤ nb
  stepped_second h = by two g
    where
      by : (x : Bool) → leads (ends_from b j (nb - j)) (ends_from a i (na - i)) ≡ x → j + tally x ≤ nb
      by true p = omega (arith, lead_there b j nb a i na p)
      by false p = omega arith

  -- one of the two goes on
  some_step : 0 < tally one + tally two
  some_step = by one two e g
    where
      by : (x y : Bool) → leads (ends_from a i (na - i)) (ends_from b j (nb - j)) ≡ x → leads (ends_from b j (nb - j)) (ends_from a i (na - i)) ≡ y → 0 < tally x + tally y
      by true y p q = omega arith
      by false true p q = omega arith
      by false false p q = let n = none_left (λ c. true) (ends_from a i (na - i)) (ends_from b j (nb - j)) p q in absurd (omega (arith, n.0, n.1, length-ends a i (na - i), length-ends b j (nb - j), more))

  -- it comes nearer to the end
  pub step_nearer : i ≤ na → j ≤ nb → (i + tally one ≤ na) × (j + tally two ≤ nb) × (i + j < (i + tally one) + (j + tally two))
  step_nearer h l = (stepped-first h, stepped_second l, omega (arith, some_step))

-- nothing is left
pub left-none : (k : Part) (a : List ℤ) (i na : ℕ) (b : List ℤ) (j nb fuel : ℕ) → na ≤ i → nb ≤ j → part_rest k a i na b j nb fuel ≡ []
left-none k a i na b j nb zero h g = refl
left-none k a i na b j nb (suc f) h g =
    ap₂ (λ (X Y : List Corner). changes (part_has k) (odd i) (odd j) (join (suc f) X Y)) (ends-none a na i h) (ends-none b nb j g)

-- all of it is left at the start
pub rest-start : (k : Part) (a : List ℤ) (na : ℕ) (b : List ℤ) (nb : ℕ) → part_rest k a 0 na b 0 nb (length (ends_from a 0 na) + length (ends_from b 0 nb)) ≡ part_ends k (ends_from a 0 na) (ends_from b 0 nb)
rest-start k a na b nb = ap₂ (λ (m n : ℕ). changes (part_has k) false false (join (length (ends_from a 0 na) + length (ends_from b 0 nb)) (ends_from a 0 m) (ends_from b 0 n))) (less na) (less nb)
  where
    less : (n : ℕ) → n - 0 ≡ n
    less n = omega arith
