-- What a walk leaves in a table of zeros: the records in use, which its answer counts, and zeros after them.
-- Assumes nothing.
use Rattle.std.specs.Prelude.{Err, Ok}
use mathlib.Core.Bool.{Bool, true, false, cond}
use mathlib.Core.Path.{◌≡◌, sym, ap, ◌∙◌, subst}
use mathlib.Core.List.{List, ◌++◌}
use Prim.Native.Nat.{ℕ, ◌+◌, ◌-◌, ◌*◌, ◌≤◌}
use native.Mathlib.Omega.{arith}
use lib.Dec.{eqb}
use lib.ListN.{length, take, drop, replicate, length-append, length-replicate, replicate-append-replicate}
use lib.Seq.{drop_at, length-take-le}
use Rattle.answer.specs.Answers.{Answer, Judged}
use Rattle.grid.specs.declared.Corner.{Corner}
use Rattle.grid.specs.Grid.{corners_from}
use Rattle.answer.specs.Refusal.{refusal_number}
use Rattle.steps.specs.Operations.{survivors}
use Rattle.tree.specs.Nodes.{nodes_of}
use Rattle.layout.specs.Table.{width, records_of, table_of}
use Rattle.layout.proofs.IndexLaws.{length-records}
use Rattle.walk.specs.Walk.{walk_judged, facts_of, answer_by, buffer_by, WalkIs}
use Rattle.line_frame.specs.Sizes.{table_words}
use Rattle.line_walk.specs.Walk.{Clear, records_left}

-- such a table has as many words as a frame's
pub clear_length : {t : List ℕ} → Clear t → length t ≡ table_words
clear_length h = ap length h ∙ length-replicate {A = ℕ} table_words 0

pub clear_zero : {t : List ℕ} → Clear t → t ≡ replicate (length t) 0
clear_zero h = h ∙ ap (λ (m : ℕ). replicate m 0) (sym (clear_length h))

-- zeros for the first k words of a table that is zero from there on
cleared : (k : ℕ) (t p q : List ℕ) → t ≡ p ++ q → length p ≡ k → q ≡ replicate (length q) 0 → length t ≡ table_words → (k ≤ length t) × Clear (replicate k 0 ++ drop k t)
cleared k t p q e l z n =
    let s : k + length q ≡ table_words = omega (arith, ap length e, length-append p q) in (
      omega (arith, s),
      ap (λ (x : List ℕ). replicate k 0 ++ x) (ap (drop k) e ∙ drop_at p q k l ∙ z)
          ∙ replicate-append-replicate k (length q) 0
          ∙ ap (λ (m : ℕ). replicate m 0) s,
    )

module _ {c : Corner} {os t ms ch : List ℕ} {r : Answer} {t' ms' ch' : List ℕ} (w : WalkIs c os t ms ch r t' ms' ch') (clear : Clear t) (same : length t' ≡ length t) where
  abbrev After : Type 0
  After = (width * records_left r ≤ length t') × Clear (replicate (width * records_left r) 0 ++ drop (width * records_left r) t')

  by : (j : Judged) → r ≡ answer_by j (facts_of c (survivors os)) → t' ≡ buffer_by j (table_of (length t) c (survivors os)) t → After
  by (Ok _) e b =
      let ps = corners_from c (survivors os) in
      let rs = records_of ps (nodes_of ps) (nodes_of ps) in
      let zs : List ℕ = replicate (length t - length rs) 0 in
      let n : width * records_left r ≡ length rs = ap (λ (a : Answer). width * records_left a) e ∙ sym (length-records ps (nodes_of ps) (nodes_of ps)) in
      cleared (width * records_left r) t' rs zs b (sym n) (ap (λ (m : ℕ). replicate m 0) (sym (length-replicate {A = ℕ} (length t - length rs) 0))) (same ∙ clear_length clear)
  by (Err x) e b = zeros (eqb (refusal_number x) 7) b
    where
      none : records_left r ≡ 0
      none = ap records_left e

      all : t' ≡ replicate table_words 0 → After
      all z = rw none (omega arith, z)

      zeros : (k : Bool) → t' ≡ cond k (replicate (length t) 0) t → After
      zeros true b = all (b ∙ ap (λ (m : ℕ). replicate m 0) (clear_length clear))
      zeros false b = all (b ∙ clear)

  left_clear : After
  left_clear = by (walk_judged c os (length t) (length ms) (length ch)) w.answer w.table

  -- clearing the records in use makes it a table of zeros again
  pub cleared_by : (k : ℕ) → k ≡ records_left r → (width * k ≤ length t') × ((z : List ℕ) → z ≡ replicate (length (take (width * k) t')) 0 → Clear (z ++ drop (width * k) t'))
  cleared_by k e =
      let h : (width * k ≤ length t') × Clear (replicate (width * k) 0 ++ drop (width * k) t') =
      subst (λ (n : ℕ). (width * n ≤ length t') × Clear (replicate (width * n) 0 ++ drop (width * n) t')) (sym e) left_clear
      in
      (h.0, λ z q. ap (λ (x : List ℕ). x ++ drop (width * k) t') (q ∙ ap (λ (n : ℕ). replicate n 0) (length-take-le (width * k) t' h.0)) ∙ h.1)
