-- The judgements of turns, of a start and a chain, and of a hull are given on their occasions and on no other, and for every call there is one.
-- Assumes nothing.
use Rattle.std.specs.Prelude.{Err, Ok}
use mathlib.Core.Bool.{Bool, true, false, true≢false}
use mathlib.Core.List.{List, [], ◌∷◌}
use mathlib.Core.Logic.{◌⊎◌, inl, inr, ⊎_elim, ◌↔◌}
use mathlib.Core.Path.{◌≡◌, refl, ap, sym, ◌∙◌, subst}
use Prim.Native.Nat.{ℕ, zero, suc, ◌+◌, ◌*◌, ◌<◌, ◌≤◌}
use native.Mathlib.Decide.{ℕ_discrete, dec_lt}
use native.Mathlib.Omega.{arith}
use borrow.Author.Tests.{lt-ltb, le-ltb, eq-eqb, ne_eqb}
use lib.Dec.{ltb}
use lib.IntN.{ℤ}
use lib.ListN.{length, get_or}
use Rattle.answer.specs.Answers.{Counted, Judged}
use Rattle.lists.proofs.BoolLaws.{unfit}
use Rattle.answer.specs.declared.Refusal.{Refusal}
use Rattle.answer.specs.declared.Refusal.TheVariants.{TooMany, ResultRoom, BadDigit, TooLong, HullRoom, StartRange}
use Rattle.answer.specs.Limits.{most_input, most_steps, start_fits}
use Rattle.answer.proofs.StartLaws.{fits_near, near_fits}
use Rattle.answer.specs.Refusal.{when, or_else}
use Rattle.grid.specs.declared.Corner.{Corner}
use Rattle.steps.specs.Turns.{digits_judged, turns_judged, ConvertedBy}
use Rattle.steps.proofs.TurnPromiseLaws as turns
use Rattle.hull.specs.Call.{hull_judged, HullCall}
use Rattle.steps.specs.Chain.{fault_at, chain_judged, as_walk_judged}
use Rattle.steps.proofs.ChainLaws.{walk_many, walk_start, walk_chain}
use Rattle.answer.specs.Listed.{counted_of}
use Rattle.answer.proofs.ListedLaws.{count_refused, count_good}
use Rattle.hull_laws.proofs.CallLaws as hulls
use Rattle.demands.specs.Given.{FirstAt}
use Rattle.demands.specs.GivenTurns.{DigitAt, AboveThreeAt, GivenTurns}
use Rattle.demands.specs.GivenTurns as turn
use Rattle.demands.specs.GivenChain.{StepAt, StepTooManyAt, ChainSized, GivenChain}
use Rattle.demands.specs.GivenChain as goal
use Rattle.demands.specs.GivenHull.{GivenHull}
use Rattle.demands.specs.GivenHull as hull
use Rattle.demands.proofs.FirstLaws.{all_or_first}

-- ---- the first fault of a list, if place p is judged by itself and its digit
module _ (at : ℕ → ℕ → Judged) (from : ℕ → List ℕ → Judged) (none : (p : ℕ) → from p [] ≡ Ok tt) (next : (p d : ℕ) (ds : List ℕ) → from p (d ∷ ds) ≡ or_else (at p d) (from (suc p) ds)) where
  skipped : (b d : ℕ) (ds : List ℕ) → at b d ≡ Ok tt → from b (d ∷ ds) ≡ from (suc b) ds
  skipped b d ds e = next b d ds ∙ ap (λ (j : Judged). or_else j (from (suc b) ds)) e

  none_from : (b : ℕ) (ds : List ℕ) → ((i p : ℕ) → i < length ds → p ≡ b + i → at p (get_or ds i 0) ≡ Ok tt) → from b ds ≡ Ok tt
  none_from b [] f = none b
  none_from b (d ∷ ds) f = skipped b d ds (f 0 b (omega arith) (omega arith)) ∙ none_from (suc b) ds (λ i p h e. f (suc i) p (omega arith) (omega arith))

  first-from : (b : ℕ) (ds : List ℕ) (i p : ℕ) (r : Refusal) → i < length ds → ((h q : ℕ) → h < i → q ≡ b + h → at q (get_or ds h 0) ≡ Ok tt) → p ≡ b + i → at p (get_or ds i 0) ≡ Err r → from b ds ≡ Err r
  first-from b [] i p r h f q e = absurd (omega arith)
  first-from b (d ∷ ds) zero p r h f q e =
      let g : p ≡ b = omega arith in
      next b d ds ∙ ap (λ (j : Judged). or_else j (from (suc b) ds)) (subst (λ (n : ℕ). at n d ≡ Err r) g e)
  first-from b (d ∷ ds) (suc i) p r h f q e =
      skipped b d ds (f 0 b (omega arith) (omega arith)) ∙ first-from (suc b) ds i p r (omega arith) (λ h q m g. f (suc h) q (omega arith) (omega arith)) (omega arith) e

digit_or_above : (d : ℕ) → (d < 4) ⊎ (3 < d)
digit_or_above d = elim (dec_lt d 4) [ yes h ↦ inl h | no h ↦ inr (omega arith) ]

-- ---- turns
module _ (ds : List ℕ) (room : ℕ) where
  digit_none : (p d : ℕ) → d < 4 → when (ltb 3 d) (BadDigit p) ≡ Ok tt
  digit_none p d h = rw (le-ltb 3 d (omega arith))

  digit_above : (p d : ℕ) → 3 < d → when (ltb 3 d) (BadDigit p) ≡ Err (BadDigit p)
  digit_above p d h = rw (lt-ltb 3 d h)

  abbrev judge_digit : ℕ → ℕ → Judged
  judge_digit p d = when (ltb 3 d) (BadDigit p)

  given_turns : (j : Judged) → GivenTurns ds room j → turns_judged ds room ≡ j
  given_turns _ (turn.too_many h) = turns.judged_many ds room h
  given_turns _ (turn.result_room h f) = turns.judged-room ds room h f
  given_turns _ (turn.bad_digit i h e f) =
      turns.judged_digits ds room h e
      ∙ first-from judge_digit digits_judged (λ p. refl) (λ p d l. refl) 0 ds i i (BadDigit i) f.inside (λ k q m g. digit_none q (get_or ds k 0) (f.before k m)) (omega arith) (digit_above i (get_or ds i 0) f.here)
  given_turns _ (turn.accepted h e f) =
      turns.judged_digits ds room h e
      ∙ none_from judge_digit digits_judged (λ p. refl) (λ p d l. refl) 0 ds (λ i p k g. digit_none p (get_or ds i 0) (f i k))

  some_turns : (j : Judged) × GivenTurns ds room j
  some_turns =
      elim (dec_lt most_input (length ds)) [
        | yes h ↦ (Err TooMany, turn.too_many h)
        | no h ↦ elim (ℕ_discrete room (length ds)) [
          | no g ↦ (Err ResultRoom, turn.result_room (omega arith) g)
          | yes e ↦ ⊎_elim
              (λ f. (Ok tt, turn.accepted (omega arith) e f))
              (λ x. (Err (BadDigit x.0), turn.bad_digit x.0 (omega arith) e x.1))
              (all_or_first (length ds) (DigitAt ds) (AboveThreeAt ds) (λ i. digit_or_above (get_or ds i 0)))
        ]
      ]

pub turns-when : {convert : List ℕ → List ℕ} {ds out out' : List ℕ} {r : Judged} → ConvertedBy convert ds out r out' → (j : Judged) → r ≡ j ↔ GivenTurns ds (length out) j
turns-when {ds = ds} {out = out} {r = r} w j =
    let x = some_turns ds (length out) in
    let e : turns_judged ds (length out) ≡ x.0 = given_turns ds (length out) x.0 x.1 in
    (λ q. subst (GivenTurns ds (length out)) (sym e ∙ sym w.answer ∙ q) x.1, λ g. w.answer ∙ given_turns ds (length out) j g)

-- ---- a start and a chain
step_none : (p d : ℕ) → d < 4 → p < most_steps → fault_at p d ≡ Ok tt
step_none p d h k = rw (le-ltb 3 d (omega arith), ne_eqb p most_steps (λ e. omega arith))

step_above : (p d : ℕ) → 3 < d → fault_at p d ≡ Err (BadDigit p)
step_above p d h = rw (lt-ltb 3 d h)

step_long : (p d : ℕ) → d < 4 → p ≡ most_steps → fault_at p d ≡ Err (TooLong p)
step_long p d h e = rw (le-ltb 3 d (omega arith), eq-eqb p most_steps e)

module _ (c : Corner) (chain : List ℕ) where
  -- the first step too many is that at place 16,384
  at_most : (i : ℕ) → ((h : ℕ) → h < i → StepAt chain h) → most_steps ≤ i → i ≡ most_steps
  at_most i f h = elim (ℕ_discrete i most_steps) [ yes e ↦ e | no g ↦ absurd (omega (arith, (f most_steps (omega arith)).1)) ]

  sized : ChainSized c chain → as_walk_judged c chain ≡ chain_judged 0 chain
  sized h = walk_chain c chain h.few (near_fits c h.start)

  chain_fault : (bad : ℕ → Type 0) (i : ℕ) (r : Refusal) → ChainSized c chain → FirstAt (length chain) (StepAt chain) bad i → fault_at i (get_or chain i 0) ≡ Err r → as_walk_judged c chain ≡ Err r
  chain_fault bad i r h f e =
      sized h
      ∙ first-from fault_at chain_judged (λ p. refl) (λ p d l. refl) 0 chain i i r f.inside (λ k q m g. step_none q (get_or chain k 0) (f.before k m).0 (omega (arith, (f.before k m).1))) (omega arith) e

  given_chain : (j : Judged) → GivenChain c chain j → as_walk_judged c chain ≡ j
  given_chain _ (goal.too_many h) = walk_many c chain h
  given_chain _ (goal.start_range h f) = walk_start c chain h (unfit (start_fits c) (fits_near c) f)
  given_chain _ (goal.bad_digit i h f) = chain_fault (AboveThreeAt chain) i (BadDigit i) h f (step_above i (get_or chain i 0) f.here)
  given_chain _ (goal.too_long i h f) = chain_fault (StepTooManyAt chain) i (TooLong i) h f (step_long i (get_or chain i 0) f.here.0 (at_most i f.before f.here.1))
  given_chain _ (goal.walkable h f) =
      sized h
      ∙ none_from fault_at chain_judged (λ p. refl) (λ p d l. refl) 0 chain (λ i p k g. step_none p (get_or chain i 0) (f i k).0 (omega (arith, (f i k).1)))

  step_or_fault : (i : ℕ) → StepAt chain i ⊎ (AboveThreeAt chain i ⊎ StepTooManyAt chain i)
  step_or_fault i =
      ⊎_elim
      (λ h. elim (dec_lt i most_steps) [ yes k ↦ inl (h, k) | no k ↦ inr (inr (h, omega arith)) ])
      (λ h. inr (inl h))
      (digit_or_above (get_or chain i 0))

  by_kind : ChainSized c chain → (i : ℕ) → FirstAt (length chain) (StepAt chain) (λ h. AboveThreeAt chain h ⊎ StepTooManyAt chain h) i → (j : Judged) × GivenChain c chain j
  by_kind l i f =
      ⊎_elim
      (λ h. (Err (BadDigit i), goal.bad_digit i l (record { inside = f.inside; before = f.before; here = h })))
      (λ h. (Err (TooLong i), goal.too_long i l (record { inside = f.inside; before = f.before; here = h })))
      f.here

  some_chain : (j : Judged) × GivenChain c chain j
  some_chain =
      elim (dec_lt most_input (length chain)) [
        | yes h ↦ (Err TooMany, goal.too_many h)
        | no h ↦ from (start_fits c) refl (omega arith)
      ]
    where
      by-steps : ChainSized c chain → (j : Judged) × GivenChain c chain j
      by-steps l =
          ⊎_elim
          (λ f. (Ok tt, goal.walkable l f))
          (λ x. by_kind l x.0 x.1)
          (all_or_first (length chain) (StepAt chain) (λ i. AboveThreeAt chain i ⊎ StepTooManyAt chain i) step_or_fault)

      from : (b : Bool) → start_fits c ≡ b → length chain ≤ most_input → (j : Judged) × GivenChain c chain j
      from true e l = by-steps (record { few = l; start = fits_near c e })
      from false e l = (Err StartRange, goal.start_range l (λ n. absurd (true≢false (sym (near_fits c n) ∙ e))))

  pub chain-when : (j : Judged) → as_walk_judged c chain ≡ j ↔ GivenChain c chain j
  chain-when j = let x = some_chain in (λ e. subst (GivenChain c chain) (sym (given_chain x.0 x.1) ∙ e) x.1, given_chain j)

-- ---- hulls
module _ (c : Corner) (chain : List ℕ) (room corners : ℕ) where
  given_hull : (j : Judged) → GivenHull c chain room corners j → hull_judged c chain room corners ≡ j
  given_hull _ (hull.not_walk q g) = hulls.judged_refused c chain room corners q ((chain-when c chain (Err q)).1 g)
  given_hull _ (hull.hull_room g k) = hulls.judged-room c chain room corners ((chain-when c chain (Ok tt)).1 g) ∙ hulls.room-short room corners k
  given_hull _ (hull.accepted g k) = hulls.judged-room c chain room corners ((chain-when c chain (Ok tt)).1 g) ∙ hulls.room_enough room corners k

  by_chain : (j : Judged) → GivenChain c chain j → (k : Judged) × GivenHull c chain room corners k
  by_chain (Ok _) g = elim (dec_lt room (2 * corners)) [ yes h ↦ (Err HullRoom, hull.hull_room g h) | no h ↦ (Ok tt, hull.accepted g (omega arith)) ]
  by_chain (Err q) g = (Err q, hull.not_walk q g)

  hull_given : GivenHull c chain room corners (hull_judged c chain room corners)
  hull_given =
      let y = some_chain c chain in
      let x = by_chain y.0 y.1 in
      subst (GivenHull c chain room corners) (sym (given_hull x.0 x.1)) x.1

module _ {c : Corner} {chain : List ℕ} {before after : List ℤ} {r : Counted} (w : HullCall c chain before r after) where
  abbrev n : ℕ
  n = length w.list

  pub hull_refused_when : (q : Refusal) → r ≡ Err q ↔ GivenHull c chain (length before) (length w.list) (Err q)
  hull_refused_when q = (
    λ e. subst (GivenHull c chain (length before) n) (count_refused (hull_judged c chain (length before) n) n q (sym e ∙ w.answer)) (hull_given c chain (length before) n),
    λ g. w.answer ∙ ap (λ (j : Judged). counted_of j n) (given_hull c chain (length before) n (Err q) g),
  )

  pub hull_counted_when : r ≡ Ok (length w.list) ↔ GivenHull c chain (length before) (length w.list) (Ok tt)
  hull_counted_when = (
    λ e. subst (GivenHull c chain (length before) n) (count_good (hull_judged c chain (length before) n) n (sym e ∙ w.answer)) (hull_given c chain (length before) n),
    λ g. w.answer ∙ ap (λ (j : Judged). counted_of j n) (given_hull c chain (length before) n (Ok tt) g),
  )
