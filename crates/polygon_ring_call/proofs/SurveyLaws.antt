-- What the survey of a ring answers, by what the first pass finds. Assumes nothing.
use Rattle.std.specs.Prelude.{Err, Ok, Option}
use mathlib.Core.Path.{◌≡◌, refl, sym, ap, ap₂, ◌∙◌}
use mathlib.Core.Bool.{Bool, true, false, cond, ◌&&◌}
use mathlib.Core.List.{List, map}
use Prim.Native.Nat.{ℕ, suc, ◌≤◌, ◌<◌}
use native.Mathlib.Omega.{arith}
use borrow.Author.Tests.{lt-ltb, le-ltb, ltb-true, ltb-false}
use lib.Dec.{ltb, leb}
use Rattle.answer.specs.Answers.{Judged}
use Rattle.polygon_ring.specs.Answers.{Given}
use Rattle.lists.specs.Lists.{any}
use Rattle.answer.specs.Limits.{most_steps}
use Rattle.answer.specs.declared.{Refusal.Refusal, Refusal.TheVariants.BadCoordinate, Refusal.TheVariants.BadRing, Refusal.TheVariants.TooLong, Refusal.TheVariants.ChainRoom}
use Rattle.grid.specs.declared.Corner.{Corner}
use Rattle.grid.specs.Grid.{same}
use Rattle.polygon_ring.specs.Ring.{point_at, points_from, is_faulty, corner_in, start_of, length_of, is_ring, given_of}
use Rattle.polygon_ring.specs.declared.Found.{Found}
use Rattle.polygon_ring_laws.specs.Reading.{ring_from, capped, ring_judged}
use Rattle.polygon_ring_laws.proofs.ReadLaws.{judged_by, ring_tests}
use Rattle.polygon_ring_laws.proofs.RingLaws as ring_laws
use Rattle.polygon_ring_laws.proofs.RingLaws.{ring-first, no_points}
use Rattle.polygon_ring_call.specs.Measure.{measured_by, measured_of}

clash : ◌≡◌ {A = ℕ} 0 1 → ⊥
clash z = omega arith

-- ---- what the first pass answers

pub measured_none : (little : Bool) (s : List ℕ) (n : ℕ) → n ≡ 0 → Err BadRing ≡ measured_of (points_from little s 0 n)
measured_none little s n e = ap measured_of (no_points little s n e)

pub measured_faulty : (ps : List (Option Corner)) → true ≡ any is_faulty ps → Err BadCoordinate ≡ measured_of ps
measured_faulty ps e = ap (λ (b : Bool). measured_by b (is_ring (map corner_in ps)) (start_of (map corner_in ps)) (capped (length_of (map corner_in ps)))) e

pub measured_whole : (little : Bool) (s : List ℕ) (n : ℕ) (first last : Corner) (line : Bool) (steps : ℕ) (m : Given) → 0 < n → first ≡ corner_in (point_at little s 0)
    → ring_laws.Measured little s n first last line steps → m ≡ measured_by false (leb 4 n && same last first && line) first steps → m ≡ measured_of (points_from little s 0 n)
measured_whole little s n first last line steps m h f p e =
    e
    ∙ ap₂ (λ (r : Bool) (k : ℕ). measured_by false r first k) (sym p.ring) (sym p.total)
    ∙ ap₂ (λ (b : Bool) (c : Corner). measured_by b (is_ring (ring_from little s 0 n)) c (capped (length_of (ring_from little s 0 n)))) (sym p.sound) (f ∙ sym (ap start_of (ring-first little s n h)))

is-ring : (f r : Bool) (c : Corner) (n : ℕ) (k : Found) → measured_by f r c n ≡ Ok k → (f ≡ false) × (r ≡ true) × (record { start = c; steps = n } ≡ k)
is-ring false true c n k e = (refl, refl, cc)
is-ring false false c n k e = let z : ◌≡◌ {A = ℕ} 0 1 = cc in absurd (clash z)
is-ring true r c n k e = let z : ◌≡◌ {A = ℕ} 0 1 = cc in absurd (clash z)

capped-above : (n k : ℕ) → capped n ≡ k → most_steps < k → most_steps < n
capped-above n k e h = go (ltb most_steps n) refl
  where
    go : (b : Bool) → ltb most_steps n ≡ b → most_steps < n
    go true f = ltb-true most_steps n f
    go false f =
        let g : n ≡ k = ap (λ (b : Bool). cond b (suc most_steps) n) (sym f) ∙ e in
        omega (arith, ltb-false most_steps n f)

capped_below : (n k : ℕ) → capped n ≡ k → k ≤ most_steps → n ≡ k
capped_below n k e h = go (ltb most_steps n) refl
  where
    go : (b : Bool) → ltb most_steps n ≡ b → n ≡ k
    go true f =
        let g : suc most_steps ≡ k = ap (λ (b : Bool). cond b (suc most_steps) n) (sym f) ∙ e in
        absurd (omega arith)
    go false f = ap (λ (b : Bool). cond b (suc most_steps) n) (sym f) ∙ e

-- ---- the answer, by four tests

module _ (ps : List (Option Corner)) (room : ℕ) (m : Given) (g : m ≡ measured_of ps) where
  abbrev ring : List Corner
  ring = map corner_in ps

  by : (bad is long short : Bool) → any is_faulty ps ≡ bad → is_ring ring ≡ is → ltb most_steps (length_of ring) ≡ long → ltb room (length_of ring) ≡ short
      → given_of (ring_judged ps room) ring ≡ given_of (judged_by bad is long short) ring
  by bad is long short e f u v = ap (λ (c : Judged). given_of c ring) (ring_tests ps room bad is long short e f u v)

  pub refused_measured : (q : Refusal) → m ≡ Err q → Err q ≡ given_of (ring_judged ps room) (map corner_in ps)
  refused_measured q h = go (any is_faulty ps) (is_ring ring) refl refl
    where
      go : (bad is : Bool) → any is_faulty ps ≡ bad → is_ring ring ≡ is → Err q ≡ given_of (ring_judged ps room) ring
      go true is e f =
          sym h ∙ g ∙ ap (λ (b : Bool). measured_by b (is_ring ring) (start_of ring) (capped (length_of ring))) e
          ∙ sym (by true is (ltb most_steps (length_of ring)) (ltb room (length_of ring)) e f refl refl)
      go false false e f =
          sym h ∙ g ∙ ap₂ (λ (b r : Bool). measured_by b r (start_of ring) (capped (length_of ring))) e f
          ∙ sym (by false false (ltb most_steps (length_of ring)) (ltb room (length_of ring)) e f refl refl)
      go false true e f =
          let w : Err q ≡ measured_by false true (start_of ring) (capped (length_of ring)) =
          sym h ∙ g ∙ ap₂ (λ (b r : Bool). measured_by b r (start_of ring) (capped (length_of ring))) e f in
          let z : ◌≡◌ {A = ℕ} 0 1 = cc w in absurd (clash z)

  module _ (k : Found) (h : m ≡ Ok k) where
    told : (any is_faulty ps ≡ false) × (is_ring ring ≡ true) × (record { start = start_of ring; steps = capped (length_of ring) } ≡ k)
    told = is-ring (any is_faulty ps) (is_ring ring) (start_of ring) (capped (length_of ring)) k (sym g ∙ h)

    counted : capped (length_of ring) ≡ k.steps
    counted = ap (λ (f : Found). f.steps) told.2

    pub refused_long : most_steps < k.steps → Err (TooLong most_steps) ≡ given_of (ring_judged ps room) (map corner_in ps)
    refused_long u =
        sym (by false true true (ltb room (length_of ring)) told.0 told.1 (lt-ltb most_steps (length_of ring) (capped-above (length_of ring) k.steps counted u)) refl)

    module _ (u : k.steps ≤ most_steps) where
      exact : length_of ring ≡ k.steps
      exact = capped_below (length_of ring) k.steps counted u

      pub refused_short : room < k.steps → Err ChainRoom ≡ given_of (ring_judged ps room) (map corner_in ps)
      refused_short v =
          sym (by false true false true told.0 told.1 (le-ltb most_steps (length_of ring) (omega (arith, exact))) (lt-ltb room (length_of ring) (omega (arith, exact))))

      pub accepted_all : k.steps ≤ room → Ok k ≡ given_of (ring_judged ps room) (map corner_in ps)
      accepted_all v =
          ap Ok (sym told.2)
          ∙ ap (λ (i : ℕ). Ok (record { start = start_of ring; steps = i })) (counted ∙ sym exact)
          ∙ sym (by false true false false told.0 told.1 (le-ltb most_steps (length_of ring) (omega (arith, exact))) (le-ltb room (length_of ring) (omega (arith, exact))))
