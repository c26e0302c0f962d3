-- What the promise of a conversion gives: when it is accepted, that there is one answer and one buffer, and both round trips.
-- Assumes nothing.
use Rattle.std.specs.Prelude.{Err, Ok}
use mathlib.Core.Bool.{not}
use mathlib.Core.List.{List, [], ◌∷◌}
use mathlib.Core.Path.{◌≡◌, refl, ap, sym, ◌∙◌, subst}
use Prim.Native.Nat.{ℕ, suc, ◌<◌, ◌≤◌}
use native.Mathlib.Omega.{arith}
use borrow.Author.Tests.{ltb-false, lt-ltb, le-ltb, eqb-true, eq-eqb, ne_eqb}
use lib.Dec.{eqb, ltb}
use lib.ListN.{length}
use Rattle.answer.specs.Answers.{Judged}
use Rattle.lists.specs.Lists.{Below}
use Rattle.lists.proofs.BoolLaws.{not-false}
use Rattle.answer.specs.declared.Refusal.TheVariants.{TooMany, ResultRoom, BadDigit}
use Rattle.answer.specs.Limits.{most_input}
use Rattle.answer.specs.Refusal.{when, or_else}
use Rattle.answer.proofs.RefusalLaws.{or_else_good, when_good, clear}
use Rattle.steps.specs.Turns.{turns_of, steps_of, digits_judged, turns_judged, written_if, ConvertedBy}
use Rattle.steps.proofs.TurnLaws.{steps_of-turns_of, turns_of-steps_of, turns_of_below, steps_of_below, length-turns_of, length-steps_of}

-- the judgement: 1, else 3, else 4 at the first bad digit
pub judged_many : (ds : List ℕ) (room : ℕ) → most_input < length ds → turns_judged ds room ≡ Err TooMany
judged_many ds room h = rw (lt-ltb most_input (length ds) h)

pub judged-room : (ds : List ℕ) (room : ℕ) → length ds ≤ most_input → (room ≡ length ds → ⊥) → turns_judged ds room ≡ Err ResultRoom
judged-room ds room h f = rw (le-ltb most_input (length ds) h, ne_eqb room (length ds) f)

pub judged_digits : (ds : List ℕ) (room : ℕ) → length ds ≤ most_input → room ≡ length ds → turns_judged ds room ≡ digits_judged 0 ds
judged_digits ds room h e = rw (le-ltb most_input (length ds) h, eq-eqb room (length ds) e) (last (digits_judged 0 ds))
  where
    last : (j : Judged) → or_else j (Ok tt) ≡ j
    last (Ok _) = refl
    last (Err r) = refl

digit_faults_below : (i : ℕ) (ds : List ℕ) → digits_judged i ds ≡ Ok tt → Below 4 ds
digit_faults_below i [] e = tt
digit_faults_below i (d ∷ ds) e =
    let h = or_else_good (when (ltb 3 d) (BadDigit i)) (digits_judged (suc i) ds) e in
    let k : d ≤ 3 = ltb-false 3 d (when_good (ltb 3 d) (BadDigit i) h.0) in
    (omega arith, digit_faults_below (suc i) ds h.1)

below_digit_faults : (i : ℕ) (ds : List ℕ) → Below 4 ds → digits_judged i ds ≡ Ok tt
below_digit_faults i [] b = refl
below_digit_faults i (d ∷ ds) b = rw (le-ltb 3 d (omega (arith, b.0))) (below_digit_faults (suc i) ds b.1)

-- what acceptance says of the digits and the buffer's length
pub record Convertible (ds : List ℕ) (room : ℕ) : Type 0 where
  pub few : length ds ≤ most_input
  pub long : room ≡ length ds
  pub digits : Below 4 ds

pub turns_judged_good : (ds : List ℕ) (room : ℕ) → turns_judged ds room ≡ Ok tt → Convertible ds room
turns_judged_good ds room e =
    let h = clear (when (ltb most_input (length ds)) TooMany ∷ when (not (eqb room (length ds))) ResultRoom ∷ digits_judged 0 ds ∷ []) e in
    record {
      few = ltb-false most_input (length ds) (when_good (ltb most_input (length ds)) TooMany h.0);
      long = eqb-true room (length ds) (not-false (eqb room (length ds)) (when_good (not (eqb room (length ds))) ResultRoom h.1.0));
      digits = digit_faults_below 0 ds h.1.1.0;
    }

pub good_turns_judged : (ds : List ℕ) (room : ℕ) → Convertible ds room → turns_judged ds room ≡ Ok tt
good_turns_judged ds room g =
    rw (le-ltb most_input (length ds) g.few, eq-eqb room (length ds) g.long, below_digit_faults 0 ds g.digits)

-- one answer and one buffer
pub converted_by-one : (f : List ℕ → List ℕ) {ds out out₁ out₂ : List ℕ} {r₁ r₂ : Judged} → ConvertedBy f ds out r₁ out₁ → ConvertedBy f ds out r₂ out₂ → (r₁ ≡ r₂) × (out₁ ≡ out₂)
converted_by-one f p q = (p.answer ∙ sym q.answer, p.buffer ∙ sym q.buffer)

-- f keeps the number of digits below 4, and g undoes it
record Undoes (f g : List ℕ → List ℕ) : Type 0 where
  pub below : (ds : List ℕ) → Below 4 ds → Below 4 (f ds)
  pub long : (ds : List ℕ) → length (f ds) ≡ length ds
  undone : (ds : List ℕ) → Below 4 ds → g (f ds) ≡ ds

-- an accepted conversion leaves its result
accepted : (f : List ℕ → List ℕ) (ds out out' : List ℕ) → ConvertedBy f ds out (Ok tt) out' → (out' ≡ f ds) × Convertible ds (length out)
accepted f ds out out' p =
    (p.buffer ∙ ap (λ (j : Judged). written_if j (f ds) out) (sym p.answer), turns_judged_good ds (length out) (sym p.answer))

-- what an accepted call wrote is accepted by the other call, which gives back what the first got
back_again : {f g : List ℕ → List ℕ} → Undoes f g → (s t₀ t u₀ u : List ℕ) (r : Judged)
    → ConvertedBy f s t₀ (Ok tt) t → ConvertedBy g t u₀ r u → length u₀ ≡ length s → (r ≡ Ok tt) × (u ≡ s)
back_again {f} {g} w s t₀ t u₀ u r p q e =
    let h = accepted f s t₀ t p in
    let l : length t ≡ length s = ap length h.0 ∙ w.long s in
    let b : Below 4 t = subst (Below 4) (sym h.0) (w.below s h.1.digits) in
    let j : turns_judged t (length u₀) ≡ Ok tt = good_turns_judged t (length u₀) (record { few = subst (λ (n : ℕ). n ≤ most_input) (sym l) h.1.few; long = e ∙ sym l; digits = b }) in
    (q.answer ∙ j, q.buffer ∙ ap (λ (k : Judged). written_if k (g t) u₀) j ∙ ap g h.0 ∙ w.undone s h.1.digits)

-- steps to turns to steps
pub turns_and_back : (s t₀ t u₀ u : List ℕ) (r : Judged) → ConvertedBy turns_of s t₀ (Ok tt) t → ConvertedBy steps_of t u₀ r u → length u₀ ≡ length s → (r ≡ Ok tt) × (u ≡ s)
turns_and_back = back_again (record { below = turns_of_below; long = length-turns_of; undone = steps_of-turns_of })

-- turns to steps to turns
pub steps_and_back : (s t₀ t u₀ u : List ℕ) (r : Judged) → ConvertedBy steps_of s t₀ (Ok tt) t → ConvertedBy turns_of t u₀ r u → length u₀ ≡ length s → (r ≡ Ok tt) × (u ≡ s)
steps_and_back = back_again (record { below = steps_of_below; long = length-steps_of; undone = turns_of-steps_of })
