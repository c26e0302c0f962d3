-- Operations with no fault, and what survives of them: digits below 4, and not too many. Steps alone survive as they are.
-- Assumes nothing.
use Rattle.std.specs.Prelude.{Ok}
use mathlib.Core.Bool.{Bool, true, false}
use mathlib.Core.List.{List, [], ◌∷◌, ◌++◌, append-nil, append_assoc}
use mathlib.Core.Logic.{inl, inr, ⊎_elim}
use mathlib.Core.Path.{◌≡◌, refl, ap, sym, ◌∙◌, subst}
use Prim.Native.Nat.{ℕ, suc, ◌+◌, ◌-◌, ◌<◌, ◌≤◌}
use native.Mathlib.Omega.{arith}
use borrow.Author.Tests.{ltb-true, ltb-false, eqb-true, eqb-false, ne_eqb, lt-ltb, le-ltb}
use lib.Dec.{eqb, ltb}
use lib.ListN.{length, length-append}
use Rattle.answer.specs.declared.Refusal.TheVariants.{BadDigit, NothingToTake, TooLong}
use Rattle.lists.specs.Lists.{front, Below}
use Rattle.answer.proofs.RefusalLaws.{refused_not_good, or_else_good}
use Rattle.answer.specs.Limits.{most_steps}
use Rattle.steps.specs.Operations.{operate, survivors_from, fault_of, after, Fine, Walkable, operations_judged}
use Rattle.steps.proofs.OperationCases as cases

pub operate_step : (s : List ℕ) (d : ℕ) → d < 4 → operate s d ≡ s ++ (d ∷ [])
operate_step s d h = rw (ne_eqb d 4 (λ e. omega arith), operate)

pub front_snoc : (s : List ℕ) (d : ℕ) → front (s ++ (d ∷ [])) ≡ s
front_snoc [] d = refl
front_snoc (x ∷ []) d = refl
front_snoc (x ∷ y ∷ s) d = ap (λ (l : List ℕ). x ∷ l) (front_snoc (y ∷ s) d)

pub operate-back : (s : List ℕ) (d : ℕ) → operate (s ++ (d ∷ [])) 4 ≡ s
operate-back s d = front_snoc s d

pub survivors-steps : (s ds : List ℕ) → Below 4 ds → survivors_from s ds ≡ s ++ ds
survivors-steps s [] b = sym (append-nil s)
survivors-steps s (d ∷ ds) b = rw (operate_step s d b.0) (survivors-steps (s ++ (d ∷ [])) ds b.1 ∙ append_assoc s (d ∷ []) ds)

length_front : (s : List ℕ) → length (front s) ≡ length s - 1
length_front [] = refl
length_front (x ∷ []) = refl
length_front (x ∷ y ∷ s) = omega (arith, length_front (y ∷ s))

below_front : (s : List ℕ) → Below 4 s → Below 4 (front s)
below_front [] b = tt
below_front (x ∷ []) b = tt
below_front (x ∷ y ∷ s) b = (b.0, below_front (y ∷ s) b.1)

below_snoc : (s : List ℕ) (d : ℕ) → Below 4 s → d < 4 → Below 4 (s ++ (d ∷ []))
below_snoc [] d b h = (h, tt)
below_snoc (x ∷ s) d b h = (b.0, below_snoc s d b.1 h)

pub below_last : (s : List ℕ) (d : ℕ) → Below 4 (s ++ (d ∷ [])) → d < 4
below_last [] d b = b.0
below_last (x ∷ s) d b = below_last s d b.1

pub fault_none : (i n o : ℕ) → fault_of i n o ≡ Ok tt → Fine n o
fault_none i n o e = go (ltb 4 o) refl (eqb o 4) refl (eqb n 0) refl (ltb n most_steps) refl
  where
    go : (a : Bool) → ltb 4 o ≡ a → (b : Bool) → eqb o 4 ≡ b → (c : Bool) → eqb n 0 ≡ c → (d : Bool) → ltb n most_steps ≡ d → Fine n o
    go true p b q c r d s = absurd (refused_not_good (BadDigit i) (rw p at e))
    go false p true q true r d s = absurd (refused_not_good (NothingToTake i) (rw (p, q, r) at e))
    go false p true q false r d s = inl (eqb-true o 4 q, omega (arith, eqb-false n 0 r))
    go false p false q c r true s = inr (omega (arith, ltb-false 4 o p, eqb-false o 4 q), ltb-true n most_steps s)
    go false p false q c r false s = absurd (refused_not_good (TooLong i) (rw (p, q, s) at e))

pub fault_step : (i n o : ℕ) (os : List ℕ) → operations_judged i n (o ∷ os) ≡ Ok tt → (fault_of i n o ≡ Ok tt) × (operations_judged (suc i) (after n o) os ≡ Ok tt)
fault_step i n o os e = or_else_good (fault_of i n o) (operations_judged (suc i) (after n o) os) e

pub after-length : (s : List ℕ) (o : ℕ) → after (length s) o ≡ length (operate s o)
after-length s o = go (eqb o 4) refl
  where
    go : (b : Bool) → eqb o 4 ≡ b → after (length s) o ≡ length (operate s o)
    go true e = rw (e, after, operate) (sym (length_front s))
    go false e = rw (e, after, operate) (sym (length-append s (o ∷ [])))

pub fine_back : (n o : ℕ) → Fine n o → o ≡ 4 → 0 < n
fine_back n o f p = ⊎_elim (λ k. k.1) (λ k. absurd (let z = k.0 in omega arith)) f

pub fine_step : (n o : ℕ) → Fine n o → (o ≡ 4 → ⊥) → (o < 4) × (n < most_steps)
fine_step n o f g = ⊎_elim (λ k. absurd (g k.0)) (λ k. k) f

-- what survives of a record with no fault
pub walkable_operate : (s : List ℕ) (o : ℕ) → Walkable s → Fine (length s) o → Walkable (operate s o)
walkable_operate s o h f =
    ⊎_elim
    (λ k. rw k.0 (record { digits = below_front s h.digits; few = omega (arith, length_front s, h.few) }))
    (λ k. rw (operate_step s o k.0) (record { digits = below_snoc s o h.digits k.0; few = omega (arith, length-append s (o ∷ []), k.1) }))
    f

pub walkable_survivors : (i : ℕ) (s os : List ℕ) → Walkable s → operations_judged i (length s) os ≡ Ok tt → Walkable (survivors_from s os)
walkable_survivors i s [] h e = h
walkable_survivors i s (o ∷ os) h e =
    let k = fault_step i (length s) o os e in
    walkable_survivors (suc i) (operate s o) os (walkable_operate s o h (fault_none i (length s) o k.0)) (subst (λ n. operations_judged (suc i) n os ≡ Ok tt) (after-length s o) k.1)

-- steps alone have no fault
step_fault : (i n d : ℕ) → d < 4 → n < most_steps → fault_of i n d ≡ Ok tt
step_fault i n d h k = rw (le-ltb 4 d (omega arith), ne_eqb d 4 (λ e. omega arith), lt-ltb n most_steps k, fault_of)

pub steps_accepted : (i n : ℕ) (ds : List ℕ) → Below 4 ds → n + length ds ≤ most_steps → operations_judged i n ds ≡ Ok tt
steps_accepted i n [] b h = refl
steps_accepted i n (d ∷ ds) b h =
    let a : after n d ≡ n + 1 = rw (ne_eqb d 4 (λ e. omega (arith, b.0)), after) in
    rw (step_fault i n d b.0 (omega arith)) (rw a (steps_accepted (suc i) (n + 1) ds b.1 (omega arith)))

pub length-operate : (s : List ℕ) (o : ℕ) → length (operate s o) ≤ length s + 1
length-operate s o = go (eqb o 4) refl
  where
    go : (b : Bool) → eqb o 4 ≡ b → length (operate s o) ≤ length s + 1
    go true e = rw (e, operate) (omega (arith, length_front s))
    go false e = rw (e, operate) (omega (arith, length-append s (o ∷ [])))

pub length-survivors : (s os : List ℕ) → length (survivors_from s os) ≤ length s + length os
length-survivors s [] = omega arith
length-survivors s (o ∷ os) = omega (arith, length-survivors (operate s o) os, length-operate s o)
