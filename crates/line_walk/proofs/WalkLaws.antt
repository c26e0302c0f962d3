-- A walk in lent buffers: what it passes on, accepted or refused.
-- Assumes nothing.
use Rattle.std.specs.Prelude.{Err, Ok}
use mathlib.Core.Path.{◌≡◌, refl, sym, ap, ap₂, ◌∙◌, subst}
use mathlib.Core.List.{List, [], ◌++◌, append_assoc}
use Prim.Native.Nat.{ℕ, ◌-◌, ◌*◌, ◌≤◌}
use native.Mathlib.Omega.{arith}
use lib.ListN.{length, take, replicate, length-append}
use lib.Seq.{take_at}
use Rattle.answer.specs.Answers.{Answer, Judged}
use Rattle.grid.specs.Grid.{origin}
use Rattle.answer.specs.declared.Refusal.{Refusal}
use Rattle.answer.specs.declared.Facts.{Facts}
use Rattle.steps.specs.Operations.{survivors}
use Rattle.steps.proofs.SurvivorLaws.{length-survivors}
use Rattle.layout.specs.Marks.{mark_words, chain_of}
use Rattle.walk.specs.Walk.{walk_answer, buffer_by, WalkIs}
use Rattle.line_frame.specs.declared.Kind.TheVariants.{Operations}
use Rattle.line_frame.specs.Sizes.{most_digits, table_words}
use Rattle.line_frame.specs.Line.{kind_walked}
use Rattle.line_room.proofs.WalkedLaws.{accepted_good, accepted_steps, accepted_sound}
use Rattle.line_walk.specs.Walk.{Survived, WalkedBy}

module _ {os t ms ch : List ℕ} {r : Answer} {t' ms' ch' : List ℕ} (w : WalkIs origin os t ms ch r t' ms' ch') (table : length t ≡ table_words) (marks : length ms ≡ mark_words * length os) (chain : length ch ≡ length os) (most : length os ≤ most_digits) (rest : List ℕ) where
  answer_is : r ≡ kind_walked Operations os
  answer_is =
      w.answer
      ∙ ap (λ (n : ℕ). walk_answer origin os n (length ms) (length ch)) table
      ∙ ap₂ (λ (m n : ℕ). walk_answer origin os table_words m n) marks chain

  module _ (f : Facts) (e : r ≡ Ok f) where
    accepted : walk_answer origin os (length t) (length ms) (length ch) ≡ Ok f
    accepted = sym w.answer ∙ e

    count : f.steps ≡ length (survivors os)
    count = accepted_steps os (length t) (length ms) (length ch) f accepted

    abbrev behind : List ℕ
    behind = replicate (length os - length (survivors os)) 0 ++ rest

    chain-is : ch' ++ rest ≡ survivors os ++ behind
    chain-is =
        ap (λ (l : List ℕ). l ++ rest) (w.chain ∙ ap (λ (j : Judged). buffer_by j (chain_of os) ch) (accepted_good os (length t) (length ms) (length ch) f accepted))
        ∙ append_assoc (survivors os) (replicate (length os - length (survivors os)) 0) rest

    survived : Survived os f (ch' ++ rest)
    survived = record {
      steps = count;
      digits = (accepted_sound os (length t) (length ms) (length ch) f accepted).digits;
      few = omega (arith, length-survivors [] os);
      chain = ap (take f.steps) chain-is ∙ take_at (survivors os) behind f.steps (sym count);
      within = omega (arith, count, ap length chain-is ∙ length-append (survivors os) behind);
    }

  -- the answer, and of an accepted walk the surviving steps before the rest of the chain
  pub walk_handed : (ds : List ℕ) → os ≡ ds → WalkedBy (kind_walked Operations ds) ds r (ch' ++ rest)
  walk_handed ds e = subst (λ (l : List ℕ). WalkedBy (kind_walked Operations l) l r (ch' ++ rest)) e (record { answer = answer_is; survived = survived })

-- a refusal passes nothing on
pub refused_handed : (x : Refusal) (os ch : List ℕ) → WalkedBy (Err x) os (Err x) ch
refused_handed x os ch = record { answer = refl; survived = λ f e. let z : ◌≡◌ {A = ℕ} 0 1 = cc in absurd (omega arith) }

-- the same answer by another name
pub handed_by : {a b r : Answer} {os ch : List ℕ} → a ≡ b → WalkedBy a os r ch → WalkedBy b os r ch
handed_by {a} {b} {r} {os} {ch} e w = subst (λ (x : Answer). WalkedBy x os r ch) e w
