-- The refusals of a start and a chain in their order, and the pass that finds the first faulty place.
-- Assumes nothing.
use Rattle.std.specs.Prelude.{Err, Ok}
use mathlib.Core.Path.{◌≡◌, refl, sym, ap, ap₂, ◌∙◌, subst}
use mathlib.Core.Bool.{Bool, true, false, not}
use mathlib.Core.List.{List, [], ◌∷◌}
use Prim.Native.Nat.{ℕ, zero, suc, ◌+◌, ◌≤◌, ◌<◌}
use native.Mathlib.Omega.{arith}
use native.Mathlib.Numerals.{add-one}
use lib.Dec.{ltb, eqb}
use borrow.Author.Tests.{lt-ltb, le-ltb, eq-eqb, ne_eqb, ltb-false, eqb-false}
use lib.ListN.{length, get_or, drop, drop_of_length-le}
use lib.Seq.{drop-cons}
use Rattle.answer.specs.Answers.{Judged}
use Rattle.lists.specs.Lists.{Below}
use Rattle.lists.proofs.BoolLaws.{not-false}
use Rattle.grid.specs.declared.Corner.{Corner}
use Rattle.answer.specs.declared.Refusal.TheVariants.{TooMany, BadDigit, TooLong, StartRange}
use Rattle.answer.specs.Limits.{most_input, most_steps, Near, start_fits}
use Rattle.answer.specs.Refusal.{when, or_else}
use Rattle.answer.proofs.RefusalLaws.{or_else_good, or_else-right, when_good, clear}
use Rattle.answer.proofs.StartLaws.{fits_near}
use Rattle.steps.specs.Operations.{Walkable}
use Rattle.steps.specs.Chain.{fault_at, chain_judged, as_walk_judged}
use Rattle.steps.proofs.ChainCases as cases

-- what a byte at place i gives
at_bad : (i d : ℕ) → 3 < d → fault_at i d ≡ Err (BadDigit i)
at_bad i d h = ap (λ (b : Bool). or_else (when b (BadDigit i)) (when (eqb i most_steps) (TooLong i))) (lt-ltb 3 d h)

at_long : (i d : ℕ) → d ≤ 3 → i ≡ most_steps → fault_at i d ≡ Err (TooLong i)
at_long i d h e = ap₂ (λ (a b : Bool). or_else (when a (BadDigit i)) (when b (TooLong i))) (le-ltb 3 d h) (eq-eqb i most_steps e)

at_good : (i d : ℕ) → d ≤ 3 → ¬ (i ≡ most_steps) → fault_at i d ≡ Ok tt
at_good i d h e = ap₂ (λ (a b : Bool). or_else (when a (BadDigit i)) (when b (TooLong i))) (le-ltb 3 d h) (ne_eqb i most_steps e)

-- a chain with digits up to 3, and not too many, has none
pub no_fault : (i : ℕ) (chain : List ℕ) → i + length chain ≤ most_steps → ((k : ℕ) → get_or chain k 0 ≤ 3) → chain_judged i chain ≡ Ok tt
no_fault i [] h f = refl
no_fault i (d ∷ ds) h f = ap (λ (j : Judged). or_else j (chain_judged (suc i) ds)) (at_good i d (f 0) (λ e. omega arith)) ∙ no_fault (suc i) ds (omega arith) (λ k. f (suc k))

fault_here : (chain : List ℕ) (i : ℕ) → i < length chain → chain_judged i (drop i chain) ≡ or_else (fault_at i (get_or chain i 0)) (chain_judged (suc i) (drop (suc i) chain))
fault_here chain i h = ap (chain_judged i) (drop-cons chain i 0 h)

-- the first i bytes have no fault
pub record Judging (chain : List ℕ) (i : ℕ) : Type 0 where
  pub within : i ≤ length chain
  pub few : i ≤ most_steps
  pub fault : chain_judged i (drop i chain) ≡ chain_judged 0 chain

pub judging_start : (chain : List ℕ) → Judging chain 0
judging_start chain = record { within = omega arith; few = omega arith; fault = refl }

none_left : (chain : List ℕ) (i : ℕ) → length chain ≤ i → drop i chain ≡ []
none_left chain i h = drop_of_length-le chain {i = i} h

module _ (chain : List ℕ) (i : ℕ) (s : Judging chain i) where
  rest : Judged → Judged
  rest j = or_else j (chain_judged (suc i) (drop (suc i) chain))

  pub judging_step : i < length chain → get_or chain i 0 ≤ 3 → ¬ (i ≡ most_steps) → Judging chain (i + 1)
  unfolding rest
  judging_step h g n = subst (Judging chain) (sym (add-one i)) (record {
    within = omega arith;
    few = below n;
    fault = sym (fault_here chain i h ∙ ap rest (at_good i (get_or chain i 0) g n)) ∙ s.fault;
  })
    where
      below : ¬ (i ≡ most_steps) → suc i ≤ most_steps
      below n = omega (arith, s.few)

  pub judging_bad : i < length chain → 3 < get_or chain i 0 → chain_judged 0 chain ≡ Err (BadDigit i)
  unfolding rest
  judging_bad h g = sym s.fault ∙ fault_here chain i h ∙ ap rest (at_bad i (get_or chain i 0) g)

  pub judging_long : i < length chain → get_or chain i 0 ≤ 3 → i ≡ most_steps → chain_judged 0 chain ≡ Err (TooLong i)
  unfolding rest
  judging_long h g e = sym s.fault ∙ fault_here chain i h ∙ ap rest (at_long i (get_or chain i 0) g e)

  pub judging_good : length chain ≤ i → chain_judged 0 chain ≡ Ok tt
  judging_good h = sym s.fault ∙ ap (chain_judged i) (none_left chain i h)

-- a chain that is not refused has digits below 4, and not too many
good_at : (i d : ℕ) → fault_at i d ≡ Ok tt → (d ≤ 3) × (¬ (i ≡ most_steps))
good_at i d e =
    let t = or_else_good (when (ltb 3 d) (BadDigit i)) (when (eqb i most_steps) (TooLong i)) e in
    (ltb-false 3 d (when_good (ltb 3 d) (BadDigit i) t.0), eqb-false i most_steps (when_good (eqb i most_steps) (TooLong i) t.1))

pub good_digits : (i : ℕ) (chain : List ℕ) → chain_judged i chain ≡ Ok tt → (k : ℕ) → get_or chain k 0 < 4
good_digits i [] e k = omega arith
good_digits i (d ∷ ds) e zero = let t = good_at i d (or_else_good (fault_at i d) (chain_judged (suc i) ds) e).0 in omega (arith, t.0)
good_digits i (d ∷ ds) e (suc k) = good_digits (suc i) ds (or_else_good (fault_at i d) (chain_judged (suc i) ds) e).1 k

pub good_short : (i : ℕ) (chain : List ℕ) → i ≤ most_steps → chain_judged i chain ≡ Ok tt → i + length chain ≤ most_steps
good_short i [] h e = omega arith
good_short i (d ∷ ds) h e = omega (arith, good_short (suc i) ds (below (good_at i d t.0).1) t.1)
  where
    t : (fault_at i d ≡ Ok tt) × (chain_judged (suc i) ds ≡ Ok tt)
    t = or_else_good (fault_at i d) (chain_judged (suc i) ds) e

    below : ¬ (i ≡ most_steps) → suc i ≤ most_steps
    below n = omega arith

-- ---- the three judgements one after the other

module _ (s : Corner) (ds : List ℕ) where
  pub walk_many : most_input < length ds → as_walk_judged s ds ≡ Err TooMany
  walk_many h = rw (lt-ltb most_input (length ds) h)

  module _ (h : length ds ≤ most_input) where
    walk_by : (t : Bool) (j : Judged) → start_fits s ≡ t → chain_judged 0 ds ≡ j → as_walk_judged s ds ≡ or_else (when (not t) StartRange) (or_else j (Ok tt))
    walk_by t j e f = rw (le-ltb most_input (length ds) h) (ap₂ (λ (u : Bool) (k : Judged). or_else (when (not u) StartRange) (or_else k (Ok tt))) e f)

    pub walk_start : start_fits s ≡ false → as_walk_judged s ds ≡ Err StartRange
    walk_start e = walk_by false (chain_judged 0 ds) e refl

    pub walk_chain : start_fits s ≡ true → as_walk_judged s ds ≡ chain_judged 0 ds
    walk_chain e = walk_by true (chain_judged 0 ds) e refl ∙ or_else-right (chain_judged 0 ds)

-- what a start and a chain are that nothing is wrong with
pub record AsWalk (s : Corner) (ds : List ℕ) : Type 0 where
  pub fits : start_fits s ≡ true
  pub near : Near s
  pub steps : chain_judged 0 ds ≡ Ok tt
  pub digits : (k : ℕ) → get_or ds k 0 < 4
  pub short : length ds ≤ most_steps

pub good_walk : (s : Corner) (ds : List ℕ) → as_walk_judged s ds ≡ Ok tt → AsWalk s ds
good_walk s ds e =
    let h = clear (when (ltb most_input (length ds)) TooMany ∷ when (not (start_fits s)) StartRange ∷ chain_judged 0 ds ∷ []) e in
    let f = not-false (start_fits s) (when_good (not (start_fits s)) StartRange h.1.0) in
    let c = h.1.1.0 in
    record { fits = f; near = fits_near s f; steps = c; digits = good_digits 0 ds c; short = omega (arith, good_short 0 ds (omega arith) c) }

-- and nothing is wrong with steps from a start in range
pub walk_good : (s : Corner) (ds : List ℕ) → start_fits s ≡ true → Walkable ds → as_walk_judged s ds ≡ Ok tt
walk_good s ds f w = walk_chain s ds (omega (arith, w.few)) f ∙ no_fault 0 ds (omega (arith, w.few)) (most ds w.digits)
  where
    most : (l : List ℕ) → Below 4 l → (k : ℕ) → get_or l k 0 ≤ 3
    most [] b k = omega arith
    most (d ∷ l) b zero = omega (arith, b.0)
    most (d ∷ l) b (suc k) = most l b.1 k
