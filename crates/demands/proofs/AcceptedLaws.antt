-- The facts and the buffers of an accepted walk.
-- Assumes nothing.
use Rattle.std.specs.Prelude.{Ok}
use mathlib.Core.List.{List, []}
use mathlib.Core.Logic.{◌⊎◌, inl, inr}
use mathlib.Core.Path.{◌≡◌, refl, ap, sym, ◌∙◌, subst}
use Prim.Native.Nat.{ℕ, suc, ◌+◌, ◌*◌, ◌<◌, ◌≤◌}
use native.Mathlib.Omega.{arith}
use lib.IntN.{pos, nat_abs}
use lib.ListN.{length, get_or}
use lib.Seq.{take-length}
use Rattle.answer.specs.declared.Facts.{Facts}
use Rattle.answer.specs.Limits.{no_meeting}
use Rattle.grid.specs.declared.Corner.{Corner}
use Rattle.grid.specs.Grid.{origin, corners_from}
use Rattle.steps.specs.Operations.{survivors}
use Rattle.trace.specs.Meeting.{Meets, FirstMeets, Meeting, none, meet, meeting_of, meeting_j, meeting_k}
use Rattle.trace.specs.Verdict.{VerdictSays, IsRoom, sweep_from}
use Rattle.tree.specs.Nodes.{nodes_of}
use Rattle.layout.specs.Marks.{mark_words}
use Rattle.layout.specs.Table.{width, records_in, word_at}
use Rattle.walk.specs.Walk.{facts_of, WalkIs}
use Rattle.panels.specs.Inside.{panels_inside}
use Rattle.room_laws.proofs.RoomLaws.{room_magnitude}
use Rattle.lists.proofs.DistinctLaws.{mem_get_d}
use Rattle.trace.proofs.MeetingLaws.{meeting_of_meets, meeting_of-none}
use Rattle.trace.proofs.VerdictLaws.{verdict_says, area_room, area_other}
use Rattle.tree.proofs.InUseLaws.{node_in_use}
use Rattle.demands.specs.Moments.{nodes_after, visits_after, changes_at}
use Rattle.demands.specs.Given.{GivenWalk}
use Rattle.demands.specs.Given as goal
use Rattle.demands.specs.Record.{RecordSays}
use Rattle.demands.proofs.BufferLaws.{table_word, table_unused, table_length, marks_from_lem, marks_length, chain_length}
use Rattle.demands.proofs.RecordLaws.{record_says}
use Rattle.demands.proofs.WalkLaws.{its_facts, its_occasion, its_table, its_marks, its-chain}

-- the first meeting, or there is none and both are 65,535
abbrev pub MeetingIs : Corner → List ℕ → ℕ → ℕ → Type 0
MeetingIs c ds j k = FirstMeets c ds j k ⊎ ((j ≡ no_meeting) × (k ≡ no_meeting) × ((i m : ℕ) → Meets c ds i m → ⊥))

meeting_is_lem : (c : Corner) (ds : List ℕ) → MeetingIs c ds (meeting_j (meeting_of c ds)) (meeting_k (meeting_of c ds))
meeting_is_lem c ds = by (meeting_of c ds) refl
  where
    by : (m : Meeting) → meeting_of c ds ≡ m → MeetingIs c ds (meeting_j m) (meeting_k m)
    by none e = inr (refl, refl, meeting_of-none c ds e)
    by (meet j k) e = inl (meeting_of_meets c ds j k e)

module _ {c : Corner} {os t ms ch t' ms' ch' : List ℕ} {f : Facts} (w : WalkIs c os t ms ch (Ok f) t' ms' ch') where
  abbrev ds : List ℕ
  ds = survivors os

  abbrev ps : List Corner
  ps = corners_from c ds

  -- what holds of the facts of the surviving steps holds of the answer
  told : (P : Facts → Type 0) → P (facts_of c ds) → P f
  told P x = subst P (sym (its_facts w)) x

  pub its_meeting : MeetingIs c (survivors os) f.j f.k
  its_meeting = told (λ g. MeetingIs c ds g.j g.k) (meeting_is_lem c ds)

  pub its_verdict : VerdictSays c (survivors os) f.verdict
  its_verdict = told (λ g. VerdictSays c ds g.verdict) (verdict_says c ds)

  pub its_area : (IsRoom c (survivors os) → f.area ≡ sweep_from c (survivors os)) × ((IsRoom c (survivors os) → ⊥) → f.area ≡ pos 0)
  its_area = told (λ g. (IsRoom c ds → g.area ≡ sweep_from c ds) × ((IsRoom c ds → ⊥) → g.area ≡ pos 0)) (area_room c ds, area_other c ds)

  pub its_panels : IsRoom c (survivors os) → nat_abs f.area ≡ panels_inside c (survivors os)
  its_panels r = told (λ g. nat_abs g.area ≡ panels_inside c ds) (room_magnitude c ds r)

  pub its_record : (i : ℕ) → i < length (nodes_of (corners_from c (survivors os)))
      → RecordSays (corners_from c (survivors os)) (get_or (nodes_of (corners_from c (survivors os))) i origin) (λ n. get_or t' (word_at i n) 0)
  its_record i h =
      record_says ps (get_or (nodes_of ps) i origin) (λ n. get_or t' (word_at i n) 0) (node_in_use ps (get_or (nodes_of ps) i origin) (mem_get_d (nodes_of ps) i origin h))
      (λ n k. ap (λ (l : List ℕ). get_or l (word_at i n) 0) (its_table w) ∙ table_word (length t) c ds i n h k)

  pub its_unused : (n : ℕ) → width * f.nodes ≤ n → get_or t' n 0 ≡ 0
  its_unused n h =
      ap (λ (l : List ℕ). get_or l n 0) (its_table w)
      ∙ table_unused (length t) c ds n (omega (arith, ap (λ (g : Facts). g.nodes) (its_facts w)))

  pub its-mark : (k : ℕ) → k < length os → (get_or ms' (mark_words * k) 0 ≡ nodes_after c os (suc k)) × (get_or ms' (mark_words * k + 1) 0 ≡ visits_after c os (suc k)) × (get_or ms' (mark_words * k + 2) 0 ≡ changes_at c os k)
  its-mark k h =
      let x = marks_from_lem c [] os k h in
      (ap (λ (l : List ℕ). get_or l (mark_words * k) 0) (its_marks w) ∙ x.0, ap (λ (l : List ℕ). get_or l (mark_words * k + 1) 0) (its_marks w) ∙ x.1, ap (λ (l : List ℕ). get_or l (mark_words * k + 2) 0) (its_marks w) ∙ x.2)

  -- no buffer changes its length
  pub its_lengths : (length t' ≡ length t) × (length ms' ≡ length ms) × (length ch' ≡ length ch)
  its_lengths = by (its_occasion w)
    where
      by : GivenWalk c os (length t) (length ms) (length ch) (Ok tt) → (length t' ≡ length t) × (length ms' ≡ length ms) × (length ch' ≡ length ch)
      by (goal.accepted h a) =
          let n : length (nodes_of (corners_from c (survivors os))) ≤ records_in (length t) =
          subst (λ (l : List ℕ). length (nodes_of (corners_from c (survivors l))) ≤ records_in (length t)) (take-length os) (a (length os) (omega arith)) in
          let r = h.sized.room in (
            ap length (its_table w) ∙ table_length (length t) c (survivors os) (omega arith),
            ap length (its_marks w) ∙ marks_length c [] os ∙ sym r.0,
            ap length (its-chain w) ∙ chain_length os ∙ sym r.1,
          )
