-- Steps to turns and back: digit by digit, and as lists of digits below 4 the two are inverse.
-- Assumes nothing.
use mathlib.Core.List.{List, [], ◌∷◌}
use mathlib.Core.Path.{◌≡◌, refl, ap, ap₂}
use Prim.Native.Nat.{ℕ, suc, ◌<◌}
use native.Mathlib.Omega.{arith}
use lib.ListN.{length}
use Rattle.lists.specs.Lists.{Below}
use Rattle.steps.specs.Turns.{turn_of, step_after, turns_from, turns_of, steps_from, steps_of}
use Rattle.steps.proofs.TurnCases as cases

turn_of_lt : (a b : ℕ) → turn_of a b < 4
turn_of_lt a b = omega arith

step_after_lt : (a t : ℕ) → step_after a t < 4
step_after_lt a t = omega arith

step_after-turn_of : (a b : ℕ) → a < 4 → b < 4 → step_after a (turn_of a b) ≡ b
step_after-turn_of a b ha hb = omega arith

turn_of-step_after : (a t : ℕ) → a < 4 → t < 4 → turn_of a (step_after a t) ≡ t
turn_of-step_after a t ha ht = omega arith

steps_from-turns_from : (a : ℕ) (ds : List ℕ) → a < 4 → Below 4 ds → steps_from a (turns_from a ds) ≡ ds
steps_from-turns_from a [] h b = refl
steps_from-turns_from a (d ∷ ds) h b = rw (step_after-turn_of a d h b.0) (ap (λ (l : List ℕ). d ∷ l) (steps_from-turns_from d ds b.0 b.1))

turns_from-steps_from : (a : ℕ) (ts : List ℕ) → a < 4 → Below 4 ts → turns_from a (steps_from a ts) ≡ ts
turns_from-steps_from a [] h b = refl
turns_from-steps_from a (t ∷ ts) h b = ap₂ (λ (x : ℕ) (l : List ℕ). x ∷ l) (turn_of-step_after a t h b.0) (turns_from-steps_from (step_after a t) ts (step_after_lt a t) b.1)

-- there and back
pub steps_of-turns_of : (ds : List ℕ) → Below 4 ds → steps_of (turns_of ds) ≡ ds
steps_of-turns_of [] b = refl
steps_of-turns_of (d ∷ ds) b = ap (λ (l : List ℕ). d ∷ l) (steps_from-turns_from d ds b.0 b.1)

pub turns_of-steps_of : (ts : List ℕ) → Below 4 ts → turns_of (steps_of ts) ≡ ts
turns_of-steps_of [] b = refl
turns_of-steps_of (t ∷ ts) b = ap (λ (l : List ℕ). t ∷ l) (turns_from-steps_from t ts b.0 b.1)

-- each digit is below 4
turns_from_below : (a : ℕ) (ds : List ℕ) → Below 4 (turns_from a ds)
turns_from_below a [] = tt
turns_from_below a (d ∷ ds) = (turn_of_lt a d, turns_from_below d ds)

steps_from_below : (a : ℕ) (ts : List ℕ) → Below 4 (steps_from a ts)
steps_from_below a [] = tt
steps_from_below a (t ∷ ts) = (step_after_lt a t, steps_from_below (step_after a t) ts)

pub turns_of_below : (ds : List ℕ) → Below 4 ds → Below 4 (turns_of ds)
turns_of_below [] b = tt
turns_of_below (d ∷ ds) b = (b.0, turns_from_below d ds)

pub steps_of_below : (ts : List ℕ) → Below 4 ts → Below 4 (steps_of ts)
steps_of_below [] b = tt
steps_of_below (t ∷ ts) b = (b.0, steps_from_below t ts)

-- there are as many turns as steps
length-turns_from : (a : ℕ) (ds : List ℕ) → length (turns_from a ds) ≡ length ds
length-turns_from a [] = refl
length-turns_from a (d ∷ ds) = ap suc (length-turns_from d ds)

length-steps_from : (a : ℕ) (ts : List ℕ) → length (steps_from a ts) ≡ length ts
length-steps_from a [] = refl
length-steps_from a (t ∷ ts) = ap suc (length-steps_from (step_after a t) ts)

pub length-turns_of : (ds : List ℕ) → length (turns_of ds) ≡ length ds
length-turns_of [] = refl
length-turns_of (d ∷ ds) = ap suc (length-turns_from d ds)

pub length-steps_of : (ts : List ℕ) → length (steps_of ts) ≡ length ts
length-steps_of [] = refl
length-steps_of (t ∷ ts) = ap suc (length-steps_from t ts)

-- the first digit is the turn from east
pub turns_from-east : (ds : List ℕ) → Below 4 ds → turns_from 0 ds ≡ turns_of ds
turns_from-east [] b = refl
turns_from-east (d ∷ ds) b = let e : turn_of 0 d ≡ d = omega (arith, b.0) in ap (λ (x : ℕ). x ∷ turns_from d ds) e

pub steps_from-east : (ts : List ℕ) → Below 4 ts → steps_from 0 ts ≡ steps_of ts
steps_from-east [] b = refl
steps_from-east (t ∷ ts) b = let e : step_after 0 t ≡ t = omega (arith, b.0) in ap (λ (x : ℕ). x ∷ steps_from x ts) e
