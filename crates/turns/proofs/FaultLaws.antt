-- The judgement of digits, place by place.
-- Assumes nothing.
use Rattle.std.specs.Prelude.{Err, Ok}
use Rattle.std.proofs.Common.{◌≡◌, ℕ, suc, ◌+◌, ◌<◌, ◌≤◌, List, [], ◌∷◌, length, get_or, drop, refl, add-one, drop_of_length-le, drop-cons, le-ltb, lt-ltb}
use Rattle.answer.specs.declared.Refusal.TheVariants.{BadDigit}
use Rattle.steps.specs.Turns.{digits_judged}

-- the digits before place i are good, so the first fault is that of the rest
pub fault_here : (ds : List ℕ) (i : ℕ) → i < length ds → 3 < get_or ds i 0 → digits_judged i (drop i ds) ≡ Err (BadDigit i)
fault_here ds i h b = rw (drop-cons ds i 0 h, lt-ltb 3 (get_or ds i 0) b)

pub fault_later : (ds : List ℕ) (i : ℕ) → i < length ds → get_or ds i 0 ≤ 3 → digits_judged i (drop i ds) ≡ digits_judged (i + 1) (drop (i + 1) ds)
fault_later ds i h b = rw (add-one, drop-cons ds i 0 h, le-ltb 3 (get_or ds i 0) b)

pub fault_none : (ds : List ℕ) (i : ℕ) → length ds ≤ i → digits_judged i (drop i ds) ≡ Ok tt
fault_none ds i h = rw (drop_of_length-le ds h)

-- no digit is above 3
pub no_fault : (i : ℕ) (ds : List ℕ) → ((k : ℕ) → get_or ds k 0 ≤ 3) → digits_judged i ds ≡ Ok tt
no_fault i [] f = refl
no_fault i (d ∷ ds) f = rw (le-ltb 3 d (f 0)) (no_fault (suc i) ds (λ k. f (suc k)))
