-- The first walked edge of right turn, straight on, left turn, back: it is walked, and it shows by which edge the path came.
-- Assumes nothing.
use mathlib.Core.Bool.{Bool, true, false, cond, true≢false, false≢true}
use mathlib.Core.Path.{◌≡◌, refl, sym, ◌∙◌}
use Prim.Native.Nat.{ℕ, ◌<◌}
use native.Mathlib.Omega.{arith}
use Rattle.lists.proofs.FindLaws.{bool_agree}
use Rattle.grid.specs.Grid.{back}
use Rattle.grid.proofs.StepLaws.{back-mod}
use Rattle.steps.specs.Turns.{step_after}
use Rattle.outline.specs.Outline.{onward}

pub step_after_lt : (d t : ℕ) → step_after d t < 4
step_after_lt d t = omega arith

pub onward_small : (w : ℕ → Bool) (d : ℕ) → onward w d < 4
onward_small w d = step_after_lt d (cond (w (step_after d 3)) 3 (cond (w (step_after d 0)) 0 (cond (w (step_after d 1)) 1 2)))

module _ (w : ℕ → Bool) where
  -- the direction by which a path came that goes on by e: opposite to the first walked edge of right turn, back, left turn, straight on, seen from e
  abbrev pub came_by : ℕ → ℕ
  came_by e = step_after e (cond (w (step_after e 3)) 1 (cond (w (step_after e 2)) 0 (cond (w (step_after e 1)) 3 2)))

-- two turns are one
twice : (d t u : ℕ) → step_after (step_after d t) u ≡ step_after d (step_after t u)
twice d t u = omega arith

-- no turn at all
straight : (d : ℕ) → d < 4 → step_after d 0 ≡ d
straight d h = omega arith

module _ (w : ℕ → Bool) where
  abbrev pub Turned : ℕ → Type 0
  Turned d = w (back d) ≡ true → (w (onward w d) ≡ true) × (came_by w (onward w d) ≡ d)

  -- a path that came by a walked edge goes on by a walked edge, and that shows how it came
  by-turns : (d : ℕ) → d < 4 → (r s l : Bool) → w (step_after d 3) ≡ r → w (step_after d 0) ≡ s → w (step_after d 1) ≡ l → w (step_after d 2) ≡ true → (w (onward w d) ≡ true) × (came_by w (onward w d) ≡ d)
  by-turns d h true s l p q r b = (rw p p, rw (p, twice d 3 3, b, twice d 3 1, straight d h))
  by-turns d h false true l p q r b = (rw (p, q) q, rw (p, q, twice d 0 3, p, twice d 0 2, b, twice d 0 0, straight d h))
  by-turns d h false false true p q r b = (rw (p, q, r) r, rw (p, q, r, twice d 1 3, q, twice d 1 2, p, twice d 1 1, b, twice d 1 3, straight d h))
  by-turns d h false false false p q r b = (rw (p, q, r) b, rw (p, q, r, twice d 2 3, r, twice d 2 2, q, twice d 2 1, p, twice d 2 2, straight d h))

  pub turned : (d : ℕ) → d < 4 → Turned d
  turned d h b = by-turns d h (w (step_after d 3)) (w (step_after d 0)) (w (step_after d 1)) refl refl refl (rw (← back-mod d h) b)

-- with fewer walked edges, but the chosen one among them, the choice is the same
module _ (w v : ℕ → Bool) (fewer : (e : ℕ) → v e ≡ true → w e ≡ true) where
  not_there : (e : ℕ) → w e ≡ false → v e ≡ false
  not_there e p = bool_agree (v e) false (λ q. absurd (true≢false (sym (fewer e q) ∙ p))) (λ q. absurd (false≢true q))

  by_choice : (d : ℕ) (r s l : Bool) → w (step_after d 3) ≡ r → w (step_after d 0) ≡ s → w (step_after d 1) ≡ l → v (onward w d) ≡ true → onward v d ≡ onward w d
  by_choice d true s l p q r k = let m : v (step_after d 3) ≡ true = rw p at k in rw (p, m)
  by_choice d false true l p q r k = let m : v (step_after d 0) ≡ true = rw (p, q) at k in rw (p, q, not_there (step_after d 3) p, m)
  by_choice d false false true p q r k = let m : v (step_after d 1) ≡ true = rw (p, q, r) at k in rw (p, q, r, not_there (step_after d 3) p, not_there (step_after d 0) q, m)
  by_choice d false false false p q r k = rw (p, q, r, not_there (step_after d 3) p, not_there (step_after d 0) q, not_there (step_after d 1) r)

  pub onward_fewer : (d : ℕ) → v (onward w d) ≡ true → onward v d ≡ onward w d
  onward_fewer d k = by_choice d (w (step_after d 3)) (w (step_after d 0)) (w (step_after d 1)) refl refl refl k
