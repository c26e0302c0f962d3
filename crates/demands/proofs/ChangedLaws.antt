-- No operation changes more than 32 records.
-- Assumes nothing.
use Rattle.std.specs.Prelude.{Ok}
use mathlib.Core.Bool.{Bool, true, false, cond, true≢false}
use mathlib.Core.List.{List, [], ◌∷◌, ◌++◌}
use mathlib.Core.Logic.{⊎_elim}
use mathlib.Core.Path.{◌≡◌, refl, ap, ap₂, sym, ◌∙◌, subst}
use Prim.Native.Nat.{ℕ, zero, suc, ◌+◌, ◌*◌, ◌<◌, ◌≤◌}
use native.Mathlib.Omega.{arith}
use lib.ListN.{length, get_or, take, length-append}
use Rattle.answer.specs.declared.Facts.{Facts}
use Rattle.answer.specs.Limits.{most_steps, Near}
use Rattle.grid.specs.declared.Corner.{Corner}
use Rattle.grid.specs.Grid.{same, stepped, corners_from, end_from}
use Rattle.grid.specs.Tree.{root, parent_of, is_root, size_of, WithinLevels}
use Rattle.grid.proofs.BoundLaws.{end_from_bound}
use Rattle.grid.proofs.CornerLaws.{same_refl}
use Rattle.grid.proofs.PathLaws.{root_of_size}
use Rattle.steps.specs.Operations.{operate, survivors_from, Fine, Walkable}
use Rattle.layout.specs.Marks.{mark_words, changes_of}
use Rattle.walk.specs.Walk.{WalkIs}
use Rattle.steps.proofs.SurvivorLaws.{operate_step, operate-back, below_last}
use Rattle.tree_laws.specs.State.{State, state_of, links_up, is_fresh, but, risen_by}
use Rattle.tree_laws.proofs.CountLaws.{within_parent}
use Rattle.tree_laws.proofs.LevelLaws.{root_is}
use Rattle.tree_laws.proofs.PushLaws.{sound_walk}
use Rattle.tree_laws.proofs.RiseLaws.{goes_up_lem, risen_up, risen_top, up-near}
use Rattle.table_laws.proofs.ChangeLaws.{rooted}
use Rattle.table_laws.proofs.DiffLaws.{walk_changes, changes-back}
use Rattle.demands.specs.Moments.{steps_after}
use Rattle.demands.specs.Given.{GivenWalk}
use Rattle.demands.specs.Given as goal
use Rattle.demands.proofs.AcceptedLaws.{its-mark}
use Rattle.demands.proofs.AloneLaws.{walkable_after}
use Rattle.demands.proofs.WalkLaws.{its_occasion}

-- what survives one operation more
pub steps_next : (s os : List ℕ) (k : ℕ) → k < length os → survivors_from s (take (suc k) os) ≡ operate (survivors_from s (take k os)) (get_or os k 0)
steps_next s [] k h = absurd (omega arith)
steps_next s (o ∷ os) zero h = refl
steps_next s (o ∷ os) (suc k) h = steps_next (operate s o) os k (omega arith)

-- a list that is not empty has a last element
last_split : (s : List ℕ) → 0 < length s → (r : List ℕ) × (d : ℕ) × (s ≡ r ++ (d ∷ []))
last_split [] h = absurd (omega arith)
last_split (x ∷ []) h = ([], x, refl)
last_split (x ∷ y ∷ s) h = let l = last_split (y ∷ s) (omega arith) in (x ∷ l.0, l.1, ap (λ (z : List ℕ). x ∷ z) l.2)

-- the nodes above a step from a whose records change: at most two for each level of a
module _ (L : Corner → Corner → ℕ) (ns : List Corner) (rooted : (e : Corner) → is_fresh ns e ≡ true → is_root e ≡ false) where
  short : (x y : Corner) → length (but x y) ≤ 1
  short x y = by (same x y)
    where
      by : (b : Bool) → length (cond b [] (x ∷ [])) ≤ 1
      by true = omega arith
      by false = omega arith

  -- the root has neighbours whose parent it is
  from-root : (d : ℕ) → parent_of (stepped d root) ≡ root
  from-root zero = refl
  from-root (suc zero) = refl
  from-root (suc (suc zero)) = refl
  from-root (suc (suc (suc d))) = refl

  risen_near : (n k d : ℕ) (a e : Corner) → e ≡ stepped d a → WithinLevels n a → length (risen_by L ns k a e) ≤ 2 * n
  risen_near n zero d a e p w = omega arith
  risen_near zero (suc k) d a e p w = go (links_up L a e) refl
    where
      low : is_root a ≡ true
      low = root_of_size a (omega (arith, w.x, w.y))

      up : parent_of e ≡ a
      up = ap parent_of (p ∙ ap (stepped d) (root_is a low)) ∙ from-root d ∙ sym (root_is a low)

      top : (b : Bool) → length (cond b (but (parent_of e) a) []) ≡ 0
      top true = ap (λ (x : Corner). length (but x a)) up ∙ ap (λ (b : Bool). length (cond b [] (a ∷ []))) (same_refl a)
      top false = refl

      go : (b : Bool) → links_up L a e ≡ b → length (risen_by L ns (suc k) a e) ≤ 2 * 0
      go true q = absurd (true≢false (sym low ∙ (goes_up_lem L a e q).0))
      go false q = omega (arith, ap length (risen_top L ns rooted k a e q), top (is_fresh ns e))
  risen_near (suc n) (suc k) d a e p w = go (links_up L a e) refl (λ q. risen_near n k d (parent_of a) (parent_of e) q (within_parent n a w))
    where
      top : (b : Bool) → length (cond b (but (parent_of e) a) []) ≤ 1
      top true = short (parent_of e) a
      top false = omega arith

      go : (b : Bool) → links_up L a e ≡ b → (parent_of e ≡ stepped d (parent_of a) → length (risen_by L ns k (parent_of a) (parent_of e)) ≤ 2 * n) → length (risen_by L ns (suc k) a e) ≤ 2 * suc n
      go false q f = omega (arith, ap length (risen_top L ns rooted k a e q), top (is_fresh ns e))
      go true q f =
          let l = risen_by L ns k (parent_of a) (parent_of e) in
          omega (
            arith,
            ap length (risen_up L ns rooted k a e q),
            length-append (but (parent_of a) e) (but (parent_of e) a ++ l),
            length-append (but (parent_of e) a) l,
            short (parent_of a) e,
            short (parent_of e) a,
            f (up-near L ns rooted d a e p q),
          )

-- the corner before the last step that a walk may have is within 15 levels
one_step : (c : Corner) (ds : List ℕ) (d : ℕ) → Near c → Walkable (ds ++ (d ∷ [])) → changes_of c ds (ds ++ (d ∷ [])) ≤ 32
one_step c ds d n w =
    let S : State = state_of (corners_from c ds) in
    let a = end_from c ds in
    let b = end_from_bound ds c in
    let m : suc (length ds) ≤ most_steps = omega (arith, length-append ds (d ∷ []), w.few) in
    let near : WithinLevels 15 a = record { x = omega (arith, b.0, n.0); y = omega (arith, b.1, n.1) } in
    let small : d < 4 = below_last ds d w.digits in
    let k = suc (size_of a) in
    omega (arith, walk_changes c ds d small k (omega arith), risen_near S.step S.nodes (rooted S (sound_walk c ds) (suc (length ds)) d (omega arith) small) 15 k d a (stepped d a) refl near)

-- forwards or backwards
one_operation : (c : Corner) (ds es : List ℕ) (o : ℕ) → Near c → Walkable ds → Walkable es → Fine (length ds) o → es ≡ operate ds o → changes_of c ds es ≤ 32
one_operation c ds es o n v w f e =
    ⊎_elim
    (λ h.
    let l = last_split ds h.1 in
    let r : es ≡ l.0 = e ∙ ap₂ operate l.2 h.0 ∙ operate-back l.0 l.1 in
    subst (λ (k : ℕ). k ≤ 32) (sym (ap₂ (changes_of c) l.2 r ∙ changes-back c l.0 (l.0 ++ (l.1 ∷ [])))) (one_step c l.0 l.1 n (subst Walkable l.2 v)))
    (λ h.
    let r : es ≡ ds ++ (o ∷ []) = e ∙ operate_step ds o h.0 in
    subst (λ (l : List ℕ). changes_of c ds l ≤ 32) (sym r) (one_step c ds o n (subst Walkable r w)))
    f

pub its_fewer : {c : Corner} {os t ms ch t' ms' ch' : List ℕ} {f : Facts} → WalkIs c os t ms ch (Ok f) t' ms' ch' → (k : ℕ) → k < length os → get_or ms' (mark_words * k + 2) 0 ≤ 32
its_fewer {c} {os} {t} {ms} {ch} {ms' = ms'} w k h = by (its_occasion w)
  where
    by : GivenWalk c os (length t) (length ms) (length ch) (Ok tt) → get_or ms' (mark_words * k + 2) 0 ≤ 32
    by (goal.accepted g a) =
        subst (λ (n : ℕ). n ≤ 32) (sym (its-mark w k h).2)
        (one_operation c (steps_after os k) (steps_after os (suc k)) (get_or os k 0) g.sized.start (walkable_after os g.fine k (omega arith)) (walkable_after os g.fine (suc k) h) (g.fine k h) (steps_next [] os k h))

pub its_few : {c : Corner} {os t ms ch t' ms' ch' : List ℕ} {f : Facts} → WalkIs c os t ms ch (Ok f) t' ms' ch' → (k : ℕ) → k < length os → get_or ms' (mark_words * k + 2) 0 ≤ 33
its_few w k h = omega (arith, its_fewer w k h)
