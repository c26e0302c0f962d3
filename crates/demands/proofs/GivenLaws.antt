-- Each judgement is given on its occasion and on no other, and for every call there is one.
-- Assumes nothing.
use Rattle.std.specs.Prelude.{Err, Ok}
use mathlib.Core.Bool.{Bool, true, false, not, ◌&&◌}
use mathlib.Core.List.{List, []}
use mathlib.Core.Logic.{◌⊎◌, inl, inr, ⊎_elim, ⊎_map}
use mathlib.Core.Path.{◌≡◌, refl, ap, sym, ◌∙◌, subst}
use Prim.Native.Nat.{ℕ, suc, ◌*◌, ◌%◌, ◌<◌, ◌≤◌, pred}
use native.Mathlib.Decide.{dec_lt}
use native.Mathlib.Omega.{arith}
use borrow.Author.Tests.{leb-true, eqb-true, lt-ltb, le-ltb, le-leb, eq-eqb}
use lib.Dec.{eqb, ltb, leb}
use lib.ListN.{length, get_or}
use Rattle.answer.specs.Answers.{Judged}
use Rattle.answer.specs.declared.Refusal.{Refusal}
use Rattle.answer.specs.declared.Refusal.TheVariants.{TooMany, Table, ResultRoom, BadDigit, NothingToTake, TooLong, NoRoom, StartRange}
use Rattle.answer.specs.Limits.{most_input, most_records, start_fits}
use Rattle.answer.specs.Refusal.{when, or_else}
use Rattle.grid.specs.declared.Corner.{Corner}
use Rattle.steps.specs.Operations.{fault_of, operations_judged}
use Rattle.layout.specs.Marks.{mark_words}
use Rattle.layout.specs.Table.{width, records_in}
use Rattle.walk.specs.Walk.{table_fits, room_from, walk_judged}
use Rattle.answer.proofs.RefusalLaws.{or_else-right}
use Rattle.answer.proofs.StartLaws.{fits_near, near_fits}
use Rattle.lists.proofs.GatherLaws.{and_left, and_right}
use Rattle.lists.proofs.BoolLaws.{unfit}
use Rattle.demands.specs.Moments.{steps_after, nodes_after}
use Rattle.demands.specs.Given.{HasRecords, HasRoom, FineAt, BadDigitAt, NothingAt, TooLongAt, FirstAt, WalkSized, Faultless, NoRoomAfter, GivenWalk}
use Rattle.demands.specs.Given as goal
use Rattle.demands.proofs.FirstLaws.{all_or_first, fine_or_fault, fault_digit, fault_nothing, fault_long, faults_none, faults_first, room-none, room-first}

-- ---- the tests of 2 and 3
fits_records : (w : ℕ) → table_fits w ≡ true → HasRecords w
fits_records w e =
    let a = eqb (w % width) 0 in
    let b = leb 1 (records_in w) in
    let d = leb (records_in w) most_records in
    let h : a && b ≡ true = and_left (a && b) d e in
    let z : w % width ≡ 0 = eqb-true (w % width) 0 (and_left a b h) in
    (records_in w, leb-true 1 (records_in w) (and_right a b h), leb-true (records_in w) most_records (and_right (a && b) d e), omega arith)

records_fit : (w : ℕ) → HasRecords w → table_fits w ≡ true
records_fit w x =
    let r = x.0 in
    let l : 1 ≤ r = x.1 in
    let m : r ≤ most_records = x.2 in
    let e : w ≡ r * width = x.3 in
    rw (eq-eqb (w % width) 0 (omega arith), le-leb 1 (records_in w) (omega arith), le-leb (records_in w) most_records (omega arith))

-- a test that shows whether something holds
decided : {P : Type 0} (b : Bool) → (b ≡ true → P) → (P → b ≡ true) → P ⊎ ((P → ⊥) × (b ≡ false))
decided true f g = inl (f refl)
decided false f g = inr (λ p. let z : ◌≡◌ {A = ℕ} 0 1 = cc (g p) in omega arith, refl)

module _ (os : List ℕ) (m k : ℕ) where
  abbrev room_fits : Bool
  room_fits = eqb m (mark_words * length os) && eqb k (length os)

  fits_room : room_fits ≡ true → HasRoom os m k
  fits_room e = (eqb-true m (mark_words * length os) (and_left (eqb m (mark_words * length os)) (eqb k (length os)) e), eqb-true k (length os) (and_right (eqb m (mark_words * length os)) (eqb k (length os)) e))

  room_fit : HasRoom os m k → room_fits ≡ true
  room_fit h = rw (eq-eqb m (mark_words * length os) h.0, eq-eqb k (length os) h.1)

module _ (c : Corner) (os : List ℕ) (w m k : ℕ) where
  -- the six judgements one after the other
  judged-by : (a b d e f g : Judged)
      → when (ltb most_input (length os)) TooMany ≡ a → when (not (table_fits w)) Table ≡ b → when (not (room_fits os m k)) ResultRoom ≡ d → when (not (start_fits c)) StartRange ≡ e → operations_judged 0 0 os ≡ f → room_from (records_in w) c 0 [] os ≡ g
      → walk_judged c os w m k ≡ or_else a (or_else b (or_else d (or_else e (or_else f (or_else g (Ok tt))))))
  judged-by a b d e f g p q r o s t = rw (p, q, r, o, s, t)

  judged_sized : WalkSized c os w m k → walk_judged c os w m k ≡ or_else (operations_judged 0 0 os) (room_from (records_in w) c 0 [] os)
  judged_sized s =
      judged-by (Ok tt) (Ok tt) (Ok tt) (Ok tt) (operations_judged 0 0 os) (room_from (records_in w) c 0 [] os)
      (ap (λ (b : Bool). when b TooMany) (le-ltb most_input (length os) s.few))
      (ap (λ (b : Bool). when (not b) Table) (records_fit w s.table))
      (ap (λ (b : Bool). when (not b) ResultRoom) (room_fit os m k s.room))
      (ap (λ (b : Bool). when (not b) StartRange) (near_fits c s.start))
      refl
      refl
      ∙ ap (or_else (operations_judged 0 0 os)) (or_else-right (room_from (records_in w) c 0 [] os))

  judged_fault : (bad : ℕ → Type 0) (i : ℕ) (r : Refusal) → WalkSized c os w m k → FirstAt (length os) (FineAt os) bad i → (bad i → fault_of i (length (steps_after os i)) (get_or os i 0) ≡ Err r) → walk_judged c os w m k ≡ Err r
  judged_fault bad i r s f e =
      judged_sized s ∙ ap (λ (j : Judged). or_else j (room_from (records_in w) c 0 [] os)) (faults_first 0 [] os i i r f.inside f.before (omega arith) (e f.here))

  judged_faultless : Faultless c os w m k → walk_judged c os w m k ≡ room_from (records_in w) c 0 [] os
  judged_faultless h = judged_sized h.sized ∙ ap (λ (j : Judged). or_else j (room_from (records_in w) c 0 [] os)) (faults_none 0 [] os h.fine)

  -- on each occasion, that judgement
  pub given_judged : (j : Judged) → GivenWalk c os w m k j → walk_judged c os w m k ≡ j
  given_judged _ (goal.too_many h) = rw (lt-ltb most_input (length os) h)
  given_judged _ (goal.table h f) = rw (le-ltb most_input (length os) h, unfit (table_fits w) (fits_records w) f)
  given_judged _ (goal.result_room h t f) = rw (le-ltb most_input (length os) h, records_fit w t, unfit (room_fits os m k) (fits_room os m k) f)
  given_judged _ (goal.start_range h t r f) = rw (le-ltb most_input (length os) h, records_fit w t, room_fit os m k r, unfit (start_fits c) (fits_near c) f)
  given_judged _ (goal.bad_digit i s f) = judged_fault (BadDigitAt os) i (BadDigit i) s f (fault_digit i (length (steps_after os i)) (get_or os i 0))
  given_judged _ (goal.nothing_to_take i s f) = judged_fault (NothingAt os) i (NothingToTake i) s f (fault_nothing i (length (steps_after os i)) (get_or os i 0))
  given_judged _ (goal.too_long i s f) = judged_fault (TooLongAt os) i (TooLong i) s f (fault_long i (length (steps_after os i)) (get_or os i 0))
  given_judged _ (goal.no_room i k h f e) =
      judged_faultless h
      ∙ room-first (records_in w) c 0 [] os k k (omega (arith, f.inside)) f.before (omega arith) f.here
      ∙ ap (λ (n : ℕ). Err (NoRoom n)) (sym e)
  given_judged _ (goal.accepted h f) = judged_faultless h ∙ room-none (records_in w) c 0 [] os f

  -- the place of a fault, by its kind
  by_fault : WalkSized c os w m k → (i : ℕ) → FirstAt (length os) (FineAt os) (λ h. BadDigitAt os h ⊎ (NothingAt os h ⊎ TooLongAt os h)) i → (j : Judged) × GivenWalk c os w m k j
  by_fault s i f =
      ⊎_elim
      (λ h. (Err (BadDigit i), goal.bad_digit i s (record { inside = f.inside; before = f.before; here = h })))
      (⊎_elim
      (λ h. (Err (NothingToTake i), goal.nothing_to_take i s (record { inside = f.inside; before = f.before; here = h })))
      (λ h. (Err (TooLong i), goal.too_long i s (record { inside = f.inside; before = f.before; here = h }))))
      f.here

  roomy : (k : ℕ) → (nodes_after c os k ≤ records_in w) ⊎ (records_in w < nodes_after c os k)
  roomy k = elim (dec_lt (records_in w) (nodes_after c os k)) [ yes h ↦ inr h | no h ↦ inl (omega arith) ]

  -- the table is large enough at every moment, or one moment is the first at which it is not
  pub room_or_not : ((k : ℕ) → k ≤ length os → nodes_after c os k ≤ records_in w) ⊎ ((k : ℕ) × NoRoomAfter c os (records_in w) k)
  room_or_not =
      ⊎_map
      (λ f k h. f k (omega arith))
      (λ x. x)
      (all_or_first (suc (length os)) (λ k. nodes_after c os k ≤ records_in w) (λ k. records_in w < nodes_after c os k) roomy)

  by-room : Faultless c os w m k → (j : Judged) × GivenWalk c os w m k j
  by-room h =
      ⊎_elim
      (λ f. (Ok tt, goal.accepted h f))
      (λ x. (Err (NoRoom (pred x.0)), goal.no_room (pred x.0) x.0 h x.1 refl))
      room_or_not

  by_size : WalkSized c os w m k → (j : Judged) × GivenWalk c os w m k j
  by_size s =
      ⊎_elim
      (λ f. by-room (record { sized = s; fine = f }))
      (λ x. by_fault s x.0 x.1)
      (all_or_first (length os) (FineAt os) (λ h. BadDigitAt os h ⊎ (NothingAt os h ⊎ TooLongAt os h)) (λ i. fine_or_fault (steps_after os i) (get_or os i 0)))

  some_occasion : (j : Judged) × GivenWalk c os w m k j
  some_occasion =
      elim (dec_lt most_input (length os)) [
        | yes h ↦ (Err TooMany, goal.too_many h)
        | no h ↦ ⊎_elim
            (λ t. ⊎_elim
            (λ r. ⊎_elim
            (λ n. by_size (record { few = omega arith; table = t; room = r; start = n }))
            (λ f. (Err StartRange, goal.start_range (omega arith) t r f.0))
            (decided (start_fits c) (fits_near c) (near_fits c)))
            (λ f. (Err ResultRoom, goal.result_room (omega arith) t f.0))
            (decided (room_fits os m k) (fits_room os m k) (room_fit os m k)))
            (λ f. (Err Table, goal.table (omega arith) f.0))
            (decided (table_fits w) (fits_records w) (records_fit w))
      ]

  -- and the judgement on no other
  pub judged_given : GivenWalk c os w m k (walk_judged c os w m k)
  judged_given = let x = some_occasion in subst (GivenWalk c os w m k) (sym (given_judged x.0 x.1)) x.1
