-- The record of the surviving steps alone gives the same; the nodes at every moment; and tables that are large enough.
-- Assumes nothing.
use Rattle.std.specs.Prelude.{Err, Ok}
use mathlib.Core.List.{List, [], ◌++◌, append-nil, Memᴰ}
use mathlib.Core.Path.{◌≡◌, refl, ap, ap₂, sym, ◌∙◌, subst}
use Prim.Native.Nat.{ℕ, suc, ◌+◌, ◌-◌, ◌*◌, ◌<◌, ◌≤◌}
use native.Mathlib.Omega.{arith}
use lib.IntN.{nat_abs}
use lib.ListN.{length, get_or, take, replicate}
use lib.Seq.{take_at, take-take, get_or-take, length-take-le}
use Rattle.answer.specs.Answers.{Answer, Judged}
use Rattle.answer.specs.declared.Facts.{Facts}
use Rattle.answer.specs.declared.Refusal.TheVariants.{NoRoom}
use Rattle.answer.specs.Limits.{most_steps, farthest, Near}
use Rattle.grid.specs.declared.Corner.{Corner}
use Rattle.grid.specs.Grid.{origin, corners_from, end_from}
use Rattle.grid.specs.Tree.{WithinLevels}
use Rattle.steps.specs.Operations.{survivors, Fine, Walkable}
use Rattle.layout.specs.Marks.{chain_of}
use Rattle.layout.specs.Table.{records_in, table_of}
use Rattle.walk.specs.Walk.{walk_judged, facts_of, answer_by, buffer_by, WalkIs}
use Rattle.grid.proofs.BoundLaws.{end_from_bound}
use Rattle.grid.proofs.StepLaws.{length-corners_from, corners_from-at}
use Rattle.lists.proofs.DistinctLaws.{get_d_mem}
use Rattle.steps.proofs.SurvivorLaws.{walkable_survivors}
use Rattle.trace.proofs.VisitLaws.{length_visited_le}
use Rattle.walk.proofs.RoomLaws.{alone}
use Rattle.tree_laws.proofs.CountLaws.{few_nodes, few_nodes_from}
use Rattle.demands.specs.Moments.{steps_after, nodes_after, corners_after, AtMostEight, FourAndStart, FourLessThree}
use Rattle.demands.specs.Given.{Faultless}
use Rattle.demands.specs.Alone.{LentAlone}
use Rattle.demands.proofs.FirstLaws.{faults_none}
use Rattle.demands.proofs.WalkLaws.{judged_good, its_facts, its_table, its-chain, no_room-at}

-- steps that all survive are their own chain
chain_alone : (ds : List ℕ) → survivors ds ≡ ds → chain_of ds ≡ ds
chain_alone ds e =
    let n : length ds - length (survivors ds) ≡ 0 = omega (arith, ap length e) in
    ap₂ (λ (s : List ℕ) (k : ℕ). s ++ replicate k 0) e n ∙ append-nil ds

-- the first words of the chain are the surviving steps
chain_steps : {c : Corner} {os t ms ch t' ms' ch' : List ℕ} {f : Facts} → WalkIs c os t ms ch (Ok f) t' ms' ch' → take f.steps ch' ≡ survivors os
chain_steps {os = os} w =
    ap₂ (λ (k : ℕ) (l : List ℕ). take k l) (ap (λ (g : Facts). g.steps) (its_facts w)) (its-chain w)
    ∙ take_at (survivors os) (replicate (length os - length (survivors os)) 0) (length (survivors os)) refl

module _ {c : Corner} {os t ms ch t' ms' ch' t₁ ms₁ ch₁ t₂ ms₂ ch₂ : List ℕ} {f : Facts} {r : Answer}
    (w : WalkIs c os t ms ch (Ok f) t' ms' ch') (v : WalkIs c (survivors os) t₁ ms₁ ch₁ r t₂ ms₂ ch₂)
    (lent : LentAlone (survivors os) t t₁ ms₁ ch₁) where
  abbrev ds : List ℕ
  ds = survivors os

  kept : survivors ds ≡ ds
  kept = (alone c os (length t) (length ms) (length ch) (judged_good w)).0

  good : walk_judged c ds (length t₁) (length ms₁) (length ch₁) ≡ Ok tt
  good = rw (lent.table, lent.marks, lent.chain) (alone c os (length t) (length ms) (length ch) (judged_good w)).1

  pub same_answer : r ≡ Ok f
  same_answer =
      v.answer
      ∙ ap₂ answer_by good (ap (facts_of c) kept)
      ∙ ap (λ (g : Facts). Ok g) (sym (its_facts w))

  pub same_table : t₂ ≡ t'
  same_table =
      v.table
      ∙ ap (λ (j : Judged). buffer_by j (table_of (length t₁) c (survivors ds)) t₁) good
      ∙ ap₂ (λ (n : ℕ) (s : List ℕ). table_of n c s) lent.table kept
      ∙ sym (its_table w)

  pub same-steps : ch₂ ≡ take f.steps ch'
  same-steps = v.chain ∙ ap (λ (j : Judged). buffer_by j (chain_of ds) ch₁) good ∙ chain_alone ds kept ∙ sym (chain_steps w)

-- ---- nodes and corners at every moment
pub four_less-three : (os : List ℕ) (k : ℕ) → FourLessThree (nodes_after origin os k) (corners_after origin os k)
four_less-three os k = few_nodes (steps_after os k)

-- the steps that survive at any moment are digits, and no more than a walk may have
pub walkable_after : (os : List ℕ) → ((i : ℕ) → i < length os → Fine (length (steps_after os i)) (get_or os i 0)) → (k : ℕ) → k ≤ length os → Walkable (steps_after os k)
walkable_after os f k h =
    let l : length (take k os) ≡ k = length-take-le k os h in
    let g : (i : ℕ) → i < length (take k os) → Fine (length (steps_after (take k os) i)) (get_or (take k os) i 0) =
    λ i b.
    let p : i < k = omega (arith, b) in
    subst (λ (o : ℕ). Fine (length (steps_after (take k os) i)) o) (sym (get_or-take k os i 0 p)) (subst (λ (s : List ℕ). Fine (length (survivors s)) (get_or os i 0)) (sym (take-take i k os (omega arith))) (f i (omega arith))) in
    walkable_survivors 0 [] (take k os) (record { digits = tt; few = omega arith }) (faults_none 0 [] (take k os) g)

-- every corner of a walk is as near as its start, and one farther with each step
pub corners-near : (c : Corner) (ds : List ℕ) (q : Corner) → Memᴰ q (corners_from c ds) → (nat_abs q.0 ≤ nat_abs c.0 + length ds) × (nat_abs q.1 ≤ nat_abs c.1 + length ds)
corners-near c ds q m =
    let k = get_d_mem (corners_from c ds) c m in
    let i : k.0 ≤ length ds = omega (arith, k.1, length-corners_from c ds) in
    let e : q ≡ end_from c (take k.0 ds) = sym k.2 ∙ corners_from-at c ds k.0 c i in
    let b = end_from_bound (take k.0 ds) c in
    let t : length (take k.0 ds) ≡ k.0 = length-take-le k.0 ds i in (
      subst (λ (z : Corner). nat_abs z.0 ≤ nat_abs c.0 + length ds) (sym e) (omega (arith, b.0)),
      subst (λ (z : Corner). nat_abs z.1 ≤ nat_abs c.1 + length ds) (sym e) (omega (arith, b.1)),
    )

pub corners-far : (c : Corner) (ds : List ℕ) → Near c → length ds ≤ most_steps → (q : Corner) → Memᴰ q (corners_from c ds) → (nat_abs q.0 ≤ farthest) × (nat_abs q.1 ≤ farthest)
corners-far c ds n l q m = let b = corners-near c ds q m in (omega (arith, b.0, n.0), omega (arith, b.1, n.1))

-- every corner of a walk that may start there is within 16 levels
pub corners-within : (c : Corner) (ds : List ℕ) → Near c → length ds ≤ most_steps → (q : Corner) → Memᴰ q (corners_from c ds) → WithinLevels 16 q
corners-within c ds n l q m = let b = corners-far c ds n l q m in record { x = omega (arith, b.0); y = omega (arith, b.1) }

module _ {c : Corner} {os : List ℕ} {words marks chain : ℕ} (f : Faultless c os words marks chain) (k : ℕ) (h : k ≤ length os) where
  pub few_steps : length (steps_after os k) ≤ most_steps
  few_steps = (walkable_after os f.fine k h).few

  pub four_and_start : FourAndStart (nodes_after c os k) (corners_after c os k)
  four_and_start = few_nodes_from 16 c (steps_after os k) (corners-within c (steps_after os k) f.sized.start few_steps)

  pub at_most_eight : AtMostEight (nodes_after c os k) (corners_after c os k)
  at_most_eight = omega (arith, four_and_start)

  most_corners_lem : corners_after c os k ≤ suc most_steps
  most_corners_lem = omega (arith, few_steps, length_visited_le (corners_from c (steps_after os k)), length-corners_from c (steps_after os k))

-- ---- tables that are large enough at every moment
module _ {c : Corner} {os t ms ch t' ms' ch' : List ℕ} {r : Answer} (w : WalkIs c os t ms ch r t' ms' ch') where
  pub enough_four : ((k : ℕ) → k ≤ length os → 4 * corners_after c os k + 64 ≤ records_in (length t)) → (i : ℕ) → r ≡ Err (NoRoom i) → ⊥
  enough_four f i e =
      let n = (no_room-at w i).0 e in
      let k = n.1.0 in
      let m : k ≤ length os = omega (arith, n.1.1.inside) in
      omega (arith, f k m, n.1.1.here, four_and_start n.0 k m)

  pub enough_eight : ((k : ℕ) → k ≤ length os → 8 * corners_after c os k + 68 ≤ records_in (length t)) → (i : ℕ) → r ≡ Err (NoRoom i) → ⊥
  enough_eight f = enough_four (λ k h. omega (arith, f k h))

  -- whatever the walk
  pub enough_largest : 65604 ≤ records_in (length t) → (i : ℕ) → r ≡ Err (NoRoom i) → ⊥
  enough_largest l i e =
      let n = (no_room-at w i).0 e in
      let k = n.1.0 in
      let m : k ≤ length os = omega (arith, n.1.1.inside) in
      omega (arith, n.1.1.here, four_and_start n.0 k m, most_corners_lem n.0 k m)

-- from the origin
pub enough_origin : {os t ms ch t' ms' ch' : List ℕ} {r : Answer} → WalkIs origin os t ms ch r t' ms' ch' → ((k : ℕ) → k ≤ length os → 4 * corners_after origin os k ≤ records_in (length t) + 3) → (i : ℕ) → r ≡ Err (NoRoom i) → ⊥
enough_origin {os} w f i e =
    let n = ((no_room-at w i).0 e).1 in
    omega (arith, f n.0 (omega (arith, n.1.inside)), n.1.here, four_less-three os n.0)
