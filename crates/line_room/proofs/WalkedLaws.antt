-- The walk of a line: what it answers by the line's frame, that the line program's answer is made of it, and what an accepted walk is.
-- Assumes nothing.
use Rattle.std.specs.Prelude.{Err, Ok, Option, Some, None}
use mathlib.Core.Path.{◌≡◌, refl, sym, ap}
use mathlib.Core.List.{List, []}
use Prim.Native.Nat.{ℕ, ◌*◌, ◌<◌}
use native.Mathlib.Omega.{arith}
use lib.ListN.{length}
use Rattle.answer.specs.Answers.{Answer, Judged}
use Rattle.grid.specs.Grid.{origin}
use Rattle.answer.specs.declared.Facts.{Facts}
use Rattle.answer.specs.declared.Refusal.TheVariants.{BadLine}
use Rattle.steps.specs.Operations.{survivors, Walkable}
use Rattle.steps.proofs.SurvivorLaws.{walkable_survivors}
use Rattle.layout.specs.Marks.{mark_words}
use Rattle.walk.specs.Walk.{walk_judged, facts_of, answer_by, walk_answer}
use Rattle.walk.proofs.JudgedLaws.{walk_fits}
use Rattle.line_frame.specs.declared.Kind.TheVariants.{Operations, Turns}
use Rattle.line_frame.specs.Sizes.{most_line, table_words}
use Rattle.line_frame.specs.Line.{frame_of, digits_of, line_answer, frame_walked, line_walked}
use Rattle.line_frame.specs.Spelled.{answer_line}
use Rattle.line_frame.proofs.LineLaws.{frame_of-long}
use Rattle.line_frame.specs.declared.Kind.{Kind}

-- by the frame
pub line_walked-by : (s : List ℕ) (f : Option (Kind × ℕ)) → frame_of s ≡ f → frame_walked f (digits_of s) ≡ line_walked s
unfolding line_walked
line_walked-by s f e = sym (ap (λ (g : Option (Kind × ℕ)). frame_walked g (digits_of s)) e)

-- a line that is longer than a frame is refused
pub line_walked-long : (s : List ℕ) → most_line < length s → line_walked s ≡ Err BadLine
line_walked-long s h = sym (line_walked-by s None (frame_of-long s h))

-- the line program answers by the walk and the surviving steps
pub line_answer-walked : (s : List ℕ) (a : Answer) → line_walked s ≡ a → answer_line a (survivors (digits_of s)) ≡ line_answer s
unfolding line_answer
line_answer-walked s a e = ap (λ (b : Answer). answer_line b (survivors (digits_of s))) (sym e)

-- an answer that accepts was judged good
by_good : (j : Judged) (f g : Facts) → answer_by j g ≡ Ok f → (j ≡ Ok tt) × (g ≡ f)
by_good (Ok _) f g e = (refl, cc)
by_good (Err r) f g e = let z : ◌≡◌ {A = ℕ} 0 1 = cc in absurd (omega arith)

-- what an accepted walk of operations leaves: as many steps as its facts say, and all of them steps
module _ (os : List ℕ) (words marks chain : ℕ) (f : Facts) (e : walk_answer origin os words marks chain ≡ Ok f) where
  pub accepted_good : walk_judged origin os words marks chain ≡ Ok tt
  accepted_good = (by_good (walk_judged origin os words marks chain) f (facts_of origin (survivors os)) e).0

  pub accepted_steps : f.steps ≡ length (survivors os)
  accepted_steps = sym (ap (λ (g : Facts). g.steps) (by_good (walk_judged origin os words marks chain) f (facts_of origin (survivors os)) e).1)

  pub accepted_sound : Walkable (survivors os)
  accepted_sound = walkable_survivors 0 [] os (record { digits = tt; few = omega arith }) (walk_fits origin os words marks chain accepted_good).0.fine

-- so of a line
pub line_sound : (s : List ℕ) (f : Facts) → line_walked s ≡ Ok f → Walkable (survivors (digits_of s))
unfolding line_walked
line_sound s f e = by (frame_of s) e
  where
    by : (g : Option (Kind × ℕ)) → frame_walked g (digits_of s) ≡ Ok f → Walkable (survivors (digits_of s))
    by (Some (Operations, n)) h = accepted_sound (digits_of s) table_words (mark_words * length (digits_of s)) (length (digits_of s)) f h
    by (Some (Turns, n)) h = let z : ◌≡◌ {A = ℕ} 0 1 = cc in absurd (omega arith)
    by None h = let z : ◌≡◌ {A = ℕ} 0 1 = cc in absurd (omega arith)
