-- The first bad place: either all places are fine, or there is one. And what the searches of the definitions find.
-- Assumes nothing.
use Rattle.std.specs.Prelude.{Err, Ok}
use mathlib.Core.List.{List, [], ◌∷◌}
use mathlib.Core.Logic.{◌⊎◌, inl, inr, ⊎_elim}
use mathlib.Core.Path.{◌≡◌, refl, ap, sym, ◌∙◌, subst}
use Prim.Native.Nat.{ℕ, zero, suc, pred, ◌+◌, ◌<◌, ◌≤◌}
use native.Mathlib.Decide.{ℕ_discrete, dec_lt}
use native.Mathlib.Omega.{arith}
use borrow.Author.Tests.{lt-ltb, le-ltb, ne_eqb}
use lib.ListN.{length, get_or, take}
use Rattle.answer.specs.Answers.{Judged}
use Rattle.answer.specs.declared.Refusal.{Refusal}
use Rattle.answer.specs.declared.Refusal.TheVariants.{BadDigit, NothingToTake, TooLong, NoRoom}
use Rattle.answer.specs.Limits.{most_steps}
use Rattle.answer.specs.Refusal.{or_else}
use Rattle.grid.specs.declared.Corner.{Corner}
use Rattle.grid.specs.Grid.{corners_from}
use Rattle.tree.specs.Nodes.{nodes_of}
use Rattle.steps.specs.Operations.{operate, survivors_from, fault_of, Fine, operations_judged, after}
use Rattle.steps.proofs.SurvivorLaws.{after-length}
use Rattle.walk.specs.Walk.{room_from}
use Rattle.walk.proofs.RoomLaws.{room_full, room_fits, room_end}
use Rattle.demands.specs.Given.{FirstAt}

-- if each place is fine or bad, all are fine or one is the first that is bad
pub all_or_first : (n : ℕ) (fine bad : ℕ → Type 0) → ((i : ℕ) → fine i ⊎ bad i) → ((i : ℕ) → i < n → fine i) ⊎ ((i : ℕ) × FirstAt n fine bad i)
all_or_first zero fine bad f = inl (λ i h. absurd (omega arith))
all_or_first (suc n) fine bad f =
    ⊎_elim
    (λ a. ⊎_elim (λ b. inl (every a b)) (λ b. inr (n, record { inside = omega arith; before = a; here = b })) (f n))
    (λ x. let y = x.1 in inr (x.0, record { inside = omega (arith, y.inside); before = y.before; here = y.here }))
    (all_or_first n fine bad f)
  where
    every : ((i : ℕ) → i < n → fine i) → fine n → (i : ℕ) → i < suc n → fine i
    every a b i h = elim (ℕ_discrete i n) [ yes e ↦ subst fine (sym e) b | no g ↦ a i (omega arith) ]

-- ---- 4, 5 and 6
-- an operation is fine, or has one of the three faults
pub fine_or_fault : (s : List ℕ) (o : ℕ) → Fine (length s) o ⊎ ((4 < o) ⊎ (((o ≡ 4) × (length s ≡ 0)) ⊎ ((o < 4) × (most_steps ≤ length s))))
fine_or_fault s o =
    elim (dec_lt 4 o) [
      | yes a ↦ inr (inl a)
      | no a ↦ elim (ℕ_discrete o 4) [
        | yes b ↦ elim (dec_lt 0 (length s)) [ yes d ↦ inl (inl (b, d)) | no d ↦ inr (inr (inl (b, omega arith))) ]
        | no b ↦ elim (dec_lt (length s) most_steps) [ yes d ↦ inl (inr (omega arith, d)) | no d ↦ inr (inr (inr (omega arith, omega arith))) ]
      ]
    ]

fine_fault : (i : ℕ) (s : List ℕ) (o : ℕ) → Fine (length s) o → fault_of i (length s) o ≡ Ok tt
fine_fault i s o (inl k) = rw (k.0, ne_eqb (length s) 0 (λ e. omega (arith, k.1)))
fine_fault i s o (inr k) = rw (le-ltb 4 o (omega (arith, k.0)), ne_eqb o 4 (λ e. omega (arith, k.0)), lt-ltb (length s) most_steps k.1)

pub fault_digit : (i n o : ℕ) → 4 < o → fault_of i n o ≡ Err (BadDigit i)
fault_digit i n o h = rw (lt-ltb 4 o h)

pub fault_nothing : (i n o : ℕ) → (o ≡ 4) × (n ≡ 0) → fault_of i n o ≡ Err (NothingToTake i)
fault_nothing i n o h = rw (h.0, h.1)

pub fault_long : (i n o : ℕ) → (o < 4) × (most_steps ≤ n) → fault_of i n o ≡ Err (TooLong i)
fault_long i n o h = rw (le-ltb 4 o (omega (arith, h.0)), ne_eqb o 4 (λ e. omega (arith, h.0)), le-ltb n most_steps h.1)

-- what is left of the operations after a fine one
faults_next : (b : ℕ) (s : List ℕ) (o : ℕ) (os : List ℕ) → Fine (length s) o → operations_judged b (length s) (o ∷ os) ≡ operations_judged (suc b) (length (operate s o)) os
faults_next b s o os f =
    ap (λ (j : Judged). or_else j (operations_judged (suc b) (after (length s) o) os)) (fine_fault b s o f)
    ∙ ap (λ (n : ℕ). operations_judged (suc b) n os) (after-length s o)

pub faults_none : (b : ℕ) (s os : List ℕ) → ((i : ℕ) → i < length os → Fine (length (survivors_from s (take i os))) (get_or os i 0)) → operations_judged b (length s) os ≡ Ok tt
faults_none b s [] f = refl
faults_none b s (o ∷ os) f = faults_next b s o os (f 0 (omega arith)) ∙ faults_none (suc b) (operate s o) os (λ i h. f (suc i) (omega arith))

pub faults_first : (b : ℕ) (s os : List ℕ) (i p : ℕ) (r : Refusal) → i < length os → ((h : ℕ) → h < i → Fine (length (survivors_from s (take h os))) (get_or os h 0))
    → p ≡ b + i → fault_of p (length (survivors_from s (take i os))) (get_or os i 0) ≡ Err r → operations_judged b (length s) os ≡ Err r
faults_first b s [] i p r h f q e = absurd (omega arith)
faults_first b s (o ∷ os) zero p r h f q e =
    let g : p ≡ b = omega arith in
    ap (λ (j : Judged). or_else j (operations_judged (suc b) (after (length s) o) os)) (subst (λ (n : ℕ). fault_of n (length s) o ≡ Err r) g e)
faults_first b s (o ∷ os) (suc i) p r h f q e =
    faults_next b s o os (f 0 (omega arith)) ∙ faults_first (suc b) (operate s o) os i p r (omega arith) (λ h k. f (suc h) (omega arith)) (omega arith) e

-- ---- 7
module _ (r : ℕ) (c : Corner) where
  -- the nodes needed after k of the operations
  abbrev needs : List ℕ → List ℕ → ℕ → ℕ
  needs s os k = length (nodes_of (corners_from c (survivors_from s (take k os))))

  pub room-none : (b : ℕ) (s os : List ℕ) → ((k : ℕ) → k ≤ length os → needs s os k ≤ r) → room_from r c b s os ≡ Ok tt
  room-none b s [] f = room_end r c b s (f 0 (omega arith))
  room-none b s (o ∷ os) f = room_fits r c b s o os (f 0 (omega arith)) ∙ room-none (suc b) (operate s o) os (λ k h. f (suc k) (omega arith))

  pub room-first : (b : ℕ) (s os : List ℕ) (k n : ℕ) → k ≤ length os → ((h : ℕ) → h < k → needs s os h ≤ r) → n ≡ b + k → r < needs s os k → room_from r c b s os ≡ Err (NoRoom (pred n))
  room-first b s os zero n h f q e = let g : b ≡ n = omega arith in room_full r c b s os e ∙ ap (λ (m : ℕ). Err (NoRoom (pred m))) g
  room-first b s [] (suc k) n h f q e = absurd (omega arith)
  room-first b s (o ∷ os) (suc k) n h f q e =
      room_fits r c b s o os (f 0 (omega arith)) ∙ room-first (suc b) (operate s o) os k n (omega arith) (λ h l. f (suc h) (omega arith)) (omega arith) e
