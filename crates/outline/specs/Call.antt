-- What the outline's call answers, and what it leaves in the buffer (RULES 15.5, 15.6). Assumes nothing.
use Rattle.std.specs.Prelude.{◌≡◌, List, [], ◌∷◌, length, ℕ, ltb}
use Rattle.answer.specs.Answers.{Counted, Judged}
use Rattle.grid.specs.declared.Corner.{Corner}
use Rattle.answer.specs.declared.{Refusal.TheVariants.OutlineRoom}
use Rattle.answer.specs.{Refusal.when, Refusal.first_of, Listed.counted_of, Listed.laid_if}
use Rattle.steps.specs.Chain.{as_walk_judged}
use Rattle.outline.specs.Outline.{OutlineIs}

-- the refusals of a start and a chain, then 11 where the buffer has fewer bytes than the outline has steps
abbrev pub outline_judged : Corner → List ℕ → ℕ → ℕ → Judged
outline_judged c ds size steps = first_of (as_walk_judged c ds ∷ when (ltb size steps) OutlineRoom ∷ [])

-- a call with this chain, from the corner c: `steps` is the outline of the walk. It is counted, and the buffer holds it and then
-- what stood after it, unless there is a refusal
pub record OutlineCall (c : Corner) (ds before : List ℕ) (r : Counted) (after : List ℕ) : Type 0 where
  pub steps : List ℕ
  pub outline : OutlineIs c ds steps
  pub answer : r ≡ counted_of (outline_judged c ds (length before) (length steps)) (length steps)
  pub buffer : after ≡ laid_if (outline_judged c ds (length before) (length steps)) steps before
