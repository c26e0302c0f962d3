-- What the walk's promise gives: there is one answer and one state of the buffers, each refusal has its occasion and its buffers, and
-- "no room" is given if some moment needs too many nodes.
-- Assumes nothing.
use Rattle.std.specs.Prelude.{Err, Ok}
use mathlib.Core.List.{List}
use mathlib.Core.Logic.{⊎_elim, ◌↔◌}
use mathlib.Core.Path.{◌≡◌, refl, ap, sym, ◌∙◌, subst}
use Prim.Native.Nat.{ℕ, ◌≤◌, pred}
use native.Mathlib.Omega.{arith}
use borrow.Author.Tests.{ne_eqb}
use lib.ListN.{length, replicate}
use Rattle.answer.specs.Answers.{Answer, Judged}
use Rattle.answer.specs.declared.Facts.{Facts}
use Rattle.answer.specs.declared.Refusal.{Refusal}
use Rattle.answer.specs.declared.Refusal.TheVariants.{NoRoom}
use Rattle.answer.specs.Refusal.{refusal_number}
use Rattle.grid.specs.declared.Corner.{Corner}
use Rattle.layout.specs.Marks.{marks_of, chain_of}
use Rattle.layout.specs.Table.{records_in, table_of}
use Rattle.steps.specs.Operations.{survivors}
use Rattle.walk.specs.Walk.{walk_judged, walk_answer, facts_of, answer_by, buffer_by, WalkIs}
use Rattle.demands.specs.Moments.{nodes_after, Exceeds}
use Rattle.demands.specs.Given.{Faultless, NoRoomAfter, GivenWalk}
use Rattle.demands.specs.Given as goal
use Rattle.demands.proofs.GivenLaws.{room_or_not, given_judged, judged_given}

-- ---- one answer, one state of the buffers
pub walk_is_some : (c : Corner) (os t ms ch : List ℕ) → (r : Answer) × (t' : List ℕ) × (ms' : List ℕ) × (ch' : List ℕ) × WalkIs c os t ms ch r t' ms' ch'
walk_is_some c os t ms ch =
    let j = walk_judged c os (length t) (length ms) (length ch) in (
      walk_answer c os (length t) (length ms) (length ch),
      buffer_by j (table_of (length t) c (survivors os)) t,
      buffer_by j (marks_of c os) ms,
      buffer_by j (chain_of os) ch,
      record { answer = refl; table = refl; marks = refl; chain = refl },
    )

pub walk_is_one : {c : Corner} {os t ms ch t₁ ms₁ ch₁ t₂ ms₂ ch₂ : List ℕ} {r₁ r₂ : Answer} → WalkIs c os t ms ch r₁ t₁ ms₁ ch₁ → WalkIs c os t ms ch r₂ t₂ ms₂ ch₂
    → (r₁ ≡ r₂) × (t₁ ≡ t₂) × (ms₁ ≡ ms₂) × (ch₁ ≡ ch₂)
walk_is_one p q = (p.answer ∙ sym q.answer, p.table ∙ sym q.table, p.marks ∙ sym q.marks, p.chain ∙ sym q.chain)

-- ---- the judgement of an answer
answer_refused : (j : Judged) (f : Facts) (q : Refusal) → Err q ≡ answer_by j f → j ≡ Err q
answer_refused (Ok _) f q e = absurd (let z : ◌≡◌ {A = ℕ} 0 1 = cc in omega arith)
answer_refused (Err r) f q e = cc

answer_accepted : (j : Judged) (f g : Facts) → Ok g ≡ answer_by j f → (j ≡ Ok tt) × (g ≡ f)
answer_accepted (Ok _) f g e = (refl, cc)
answer_accepted (Err r) f g e = absurd (let z : ◌≡◌ {A = ℕ} 0 1 = cc in omega arith)

module _ {c : Corner} {os t ms ch t' ms' ch' : List ℕ} {r : Answer} (w : WalkIs c os t ms ch r t' ms' ch') where
  -- each refusal is given exactly on its occasion
  pub refused_when : (q : Refusal) → r ≡ Err q ↔ GivenWalk c os (length t) (length ms) (length ch) (Err q)
  refused_when q = (
    λ e. subst (GivenWalk c os (length t) (length ms) (length ch)) (answer_refused (walk_judged c os (length t) (length ms) (length ch)) (facts_of c (survivors os)) q (sym e ∙ w.answer)) (judged_given c os (length t) (length ms) (length ch)),
    λ g. w.answer ∙ ap (λ (j : Judged). answer_by j (facts_of c (survivors os))) (given_judged c os (length t) (length ms) (length ch) (Err q) g),
  )

  -- and so is acceptance, with the facts of the surviving steps
  pub accepted_when : r ≡ Ok (facts_of c (survivors os)) ↔ GivenWalk c os (length t) (length ms) (length ch) (Ok tt)
  accepted_when = (
    λ e. subst (GivenWalk c os (length t) (length ms) (length ch)) (answer_accepted (walk_judged c os (length t) (length ms) (length ch)) (facts_of c (survivors os)) (facts_of c (survivors os)) (sym e ∙ w.answer)).0 (judged_given c os (length t) (length ms) (length ch)),
    λ g. w.answer ∙ ap (λ (j : Judged). answer_by j (facts_of c (survivors os))) (given_judged c os (length t) (length ms) (length ch) (Ok tt) g),
  )

  -- "no room" at a place, and at some place
  pub no_room-at : (i : ℕ) → r ≡ Err (NoRoom i) ↔ Faultless c os (length t) (length ms) (length ch) × ((k : ℕ) × NoRoomAfter c os (records_in (length t)) k × (i ≡ pred k))
  no_room-at i = (λ e. parts ((refused_when (NoRoom i)).0 e), λ g. (refused_when (NoRoom i)).1 (goal.no_room i g.1.0 g.0 g.1.1 g.1.2))
    where
      parts : GivenWalk c os (length t) (length ms) (length ch) (Err (NoRoom i)) → Faultless c os (length t) (length ms) (length ch) × ((k : ℕ) × NoRoomAfter c os (records_in (length t)) k × (i ≡ pred k))
      parts (goal.no_room _ k f n e) = (f, (k, n, e))

  pub no_room-when : ((i : ℕ) × (r ≡ Err (NoRoom i))) ↔ Faultless c os (length t) (length ms) (length ch) × ((k : ℕ) × (k ≤ length os) × Exceeds (nodes_after c os k) (records_in (length t)))
  no_room-when = (
    λ x. let h = (no_room-at x.0).0 x.1 in let n = h.1.1 in (h.0, (h.1.0, omega (arith, n.inside), n.here)),
    λ x.
        ⊎_elim
        (λ a. let y = x.1 in absurd (omega (arith, a y.0 y.1, y.2)))
        (λ y. (pred y.0, (no_room-at (pred y.0)).1 (x.0, (y.0, y.1, refl))))
        (room_or_not c os (length t) (length ms) (length ch)),
  )

-- ---- the buffers of a refused call
left_untouched : (q : Refusal) (new old : List ℕ) → (refusal_number q ≡ 7 → ⊥) → buffer_by (Err q) new old ≡ old
left_untouched q new old f = rw (ne_eqb (refusal_number q) 7 f)

module _ {c : Corner} {os t ms ch t' ms' ch' : List ℕ} where
  judged_refused : (q : Refusal) → WalkIs c os t ms ch (Err q) t' ms' ch' → walk_judged c os (length t) (length ms) (length ch) ≡ Err q
  judged_refused q w = answer_refused (walk_judged c os (length t) (length ms) (length ch)) (facts_of c (survivors os)) q w.answer

  pub untouched : (q : Refusal) → (refusal_number q ≡ 7 → ⊥) → WalkIs c os t ms ch (Err q) t' ms' ch' → (t' ≡ t) × (ms' ≡ ms) × (ch' ≡ ch)
  untouched q f w =
      let e = judged_refused q w in (
        w.table ∙ ap (λ (j : Judged). buffer_by j (table_of (length t) c (survivors os)) t) e ∙ left_untouched q (table_of (length t) c (survivors os)) t f,
        w.marks ∙ ap (λ (j : Judged). buffer_by j (marks_of c os) ms) e ∙ left_untouched q (marks_of c os) ms f,
        w.chain ∙ ap (λ (j : Judged). buffer_by j (chain_of os) ch) e ∙ left_untouched q (chain_of os) ch f,
      )

  pub all_zero : (i : ℕ) → WalkIs c os t ms ch (Err (NoRoom i)) t' ms' ch' → (t' ≡ replicate (length t) 0) × (ms' ≡ replicate (length ms) 0) × (ch' ≡ replicate (length ch) 0)
  all_zero i w =
      let e = judged_refused (NoRoom i) w in (
        w.table ∙ ap (λ (j : Judged). buffer_by j (table_of (length t) c (survivors os)) t) e,
        w.marks ∙ ap (λ (j : Judged). buffer_by j (marks_of c os) ms) e,
        w.chain ∙ ap (λ (j : Judged). buffer_by j (chain_of os) ch) e,
      )

  -- ---- an accepted call
  pub judged_good : {f : Facts} → WalkIs c os t ms ch (Ok f) t' ms' ch' → walk_judged c os (length t) (length ms) (length ch) ≡ Ok tt
  judged_good {f} w = (answer_accepted (walk_judged c os (length t) (length ms) (length ch)) (facts_of c (survivors os)) f w.answer).0

  pub its_facts : {f : Facts} → WalkIs c os t ms ch (Ok f) t' ms' ch' → f ≡ facts_of c (survivors os)
  its_facts {f} w = (answer_accepted (walk_judged c os (length t) (length ms) (length ch)) (facts_of c (survivors os)) f w.answer).1

  pub its_occasion : {f : Facts} → WalkIs c os t ms ch (Ok f) t' ms' ch' → GivenWalk c os (length t) (length ms) (length ch) (Ok tt)
  its_occasion w = subst (GivenWalk c os (length t) (length ms) (length ch)) (judged_good w) (judged_given c os (length t) (length ms) (length ch))

  pub its_table : {f : Facts} → WalkIs c os t ms ch (Ok f) t' ms' ch' → t' ≡ table_of (length t) c (survivors os)
  its_table w = w.table ∙ ap (λ (j : Judged). buffer_by j (table_of (length t) c (survivors os)) t) (judged_good w)

  pub its_marks : {f : Facts} → WalkIs c os t ms ch (Ok f) t' ms' ch' → ms' ≡ marks_of c os
  its_marks w = w.marks ∙ ap (λ (j : Judged). buffer_by j (marks_of c os) ms) (judged_good w)

  pub its-chain : {f : Facts} → WalkIs c os t ms ch (Ok f) t' ms' ch' → ch' ≡ chain_of os
  its-chain w = w.chain ∙ ap (λ (j : Judged). buffer_by j (chain_of os) ch) (judged_good w)
