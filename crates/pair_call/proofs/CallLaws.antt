-- The parts of the call of two parties put together: its input, the run, the walks that are over, and the refusals.
-- Assumes nothing.
use Rattle.std.specs.Prelude.{Err, Ok}
use mathlib.Core.Bool.{Bool, true, false}
use mathlib.Core.List.{List, [], ◌∷◌, ◌++◌}
use mathlib.Core.Path.{◌≡◌, refl, ap, sym, subst, ◌∙◌}
use Prim.Native.Nat.{ℕ, suc, pred, ◌-◌, ◌<◌}
use lib.Dec.{ltb}
use lib.ListN.{length, replicate}
use Rattle.answer.specs.Answers.{Judged, PairAnswer}
use Rattle.answer.specs.declared.PairFacts.{PairFacts}
use Rattle.answer.specs.declared.Refusal.{Refusal}
use Rattle.answer.specs.declared.Refusal.TheVariants.{NoRoom}
use Rattle.answer.specs.Refusal.{when, or_else}
use Rattle.grid.specs.declared.Corner.{Corner}
use Rattle.walk.specs.Walk.{buffer_by}
use Rattle.pair_steps.specs.Parties.{steps_by, moved_by}
use Rattle.pair_table.specs.Slots.{Slot, needs_of, slots_of}
use Rattle.pair_table.specs.Words.{pair_records_in, pair_table_of, pair_marks_of, own_chain_of}
use Rattle.pair.specs.Call.{pair_room_at, pair_room_from, pair_judged, pair_facts_of, pair_answer_by, PairLent, PairIs}
use Rattle.pair_laws.proofs.CountLaws.{held_nodes}
use Rattle.pair_laws.proofs.RoomLaws.{room_full}
use Rattle.pair_laws.proofs.UnionLaws.{union_distinct}
use Rattle.pair_table_laws.proofs.WalkLaws.{walked-is}
use Rattle.pair_child.specs.declared.Stock.{Stock}
use Rattle.pair_move.specs.declared.Party.{Party}
use Rattle.grid.specs.Grid.{corners_from}
use Rattle.walk_facts.specs.Settled.{WalkOver}
use Rattle.walk_input.proofs.JudgeLaws.{Early, untouched}
use Rattle.pair_input.specs.Judges.{pair_input_judged}
use Rattle.pair_input.proofs.InputLaws.{pair_judged_split, early_pair}
use Rattle.pair_run.specs.declared.Pair.{Pair}
use Rattle.pair_run.specs.Runs.{BothKept, PairRan}
use Rattle.pair_call.specs.Parts.{ChainEnds, facts_with}

module _ (t first second : List ℕ) (c e : Corner) (ds es : List ℕ) (slots : List Slot) (one two : Party) (s : Stock) (k : BothKept t first second c e ds es slots one two s) where
  -- the walks are over
  pub over_first : WalkOver c first ds one.steps one.at one.tally
  over_first = record { own = k.one_keeps; steps = k.one-is.steps; corner = k.one-is.corner; counted = k.one-is.counted }

  pub over_second : WalkOver e second es two.steps two.at two.tally
  over_second = record { own = k.two_keeps; steps = k.two_is.steps; corner = k.two_is.corner; counted = k.two_is.counted }

  over_nodes : s.nodes ≡ length (needs_of c e ds es)
  over_nodes = k.stock.nodes ∙ held_nodes slots (needs_of c e ds es) k.walked.place (union_distinct (corners_from c ds) (corners_from e es))

-- "no room" is all that the size of the table can decide: after such a refusal a buffer is all zero
abbrev Zero : Judged → Type 0
Zero j = (r : Refusal) → j ≡ Err r → (new old : List ℕ) → buffer_by (Err r) new old ≡ replicate (length old) 0

zero_when : (b : Bool) (i : ℕ) → Zero (when b (NoRoom i))
zero_when true i r e new old = let f : NoRoom i ≡ r = cc in rw (← f) refl
zero_when false i r e new old = absurd (cc)

zero_or : (j k : Judged) → Zero j → Zero k → Zero (or_else j k)
zero_or (Ok x) k f g = g
zero_or (Err r) k f g = f

room_zero : (n : ℕ) (c e : Corner) (k : ℕ) (ds es os : List ℕ) → Zero (pair_room_from n c e k ds es os)
room_zero n c e k ds es [] = zero_when (ltb n (length (needs_of c e ds es))) (pred k)
room_zero n c e k ds es (o ∷ os) =
    zero_or (pair_room_at n c e k ds es) (pair_room_from n c e (suc k) (moved_by 0 ds o) (moved_by 1 es o) os)
    (zero_when (ltb n (length (needs_of c e ds es))) (pred k)) (room_zero n c e (suc k) (moved_by 0 ds o) (moved_by 1 es o) os)

-- the table is too small for the starts
pub starts_full : (words : ℕ) (c e : Corner) (os t ms first second : List ℕ) → pair_records_in words < length (needs_of c e [] []) → PairRan words c e os t ms first second (Err (NoRoom 0))
starts_full words c e os t ms first second h = room_full (pair_records_in words) c e 0 [] [] os h

module _ (c e : Corner) (os : List ℕ) (b : PairLent) where
  abbrev W : ℕ
  W = length b.table

  abbrev room : Judged
  room = pair_room_from (pair_records_in W) c e 0 [] [] os

  abbrev judged : Judged
  judged = pair_judged c e os W (length b.marks) (length b.first) (length b.second)

  -- what the call leaves, by its judgement
  by : (j : Judged) → judged ≡ j → (r : PairAnswer) (b' : PairLent) → r ≡ pair_answer_by j (pair_facts_of c e (steps_by 0 os) (steps_by 1 os))
      → b'.table ≡ buffer_by j (pair_table_of W c e (slots_of c e os) (steps_by 0 os) (steps_by 1 os)) b.table → b'.marks ≡ buffer_by j (pair_marks_of (pair_records_in W) c e os) b.marks
      → b'.first ≡ buffer_by j (own_chain_of 0 os) b.first → b'.second ≡ buffer_by j (own_chain_of 1 os) b.second → PairIs c e os b r b'
  by j i r b' x y z u v = record {
    answer = x ∙ ap (λ (m : Judged). pair_answer_by m (pair_facts_of c e (steps_by 0 os) (steps_by 1 os))) (sym i);
    table = y ∙ ap (λ (m : Judged). buffer_by m (pair_table_of W c e (slots_of c e os) (steps_by 0 os) (steps_by 1 os)) b.table) (sym i);
    marks = z ∙ ap (λ (m : Judged). buffer_by m (pair_marks_of (pair_records_in W) c e os) b.marks) (sym i);
    first = u ∙ ap (λ (m : Judged). buffer_by m (own_chain_of 0 os) b.first) (sym i);
    second = v ∙ ap (λ (m : Judged). buffer_by m (own_chain_of 1 os) b.second) (sym i);
  }

  -- a refused input
  pub pair_refused : (r : Refusal) → Err r ≡ pair_input_judged c e os (length b.table) (length b.marks) (length b.first) (length b.second) → PairIs c e os b (Err r) b
  pair_refused r i =
      let n : Early (Err r) = subst Early (sym i) (early_pair c e os W (length b.marks) (length b.first) (length b.second)) in
      by (Err r) (pair_judged_split c e os W (length b.marks) (length b.first) (length b.second) ∙ ap (λ (j : Judged). or_else j room) (sym i)) (Err r) b refl
      (sym (untouched r (pair_table_of W c e (slots_of c e os) (steps_by 0 os) (steps_by 1 os)) b.table n))
      (sym (untouched r (pair_marks_of (pair_records_in W) c e os) b.marks n))
      (sym (untouched r (own_chain_of 0 os) b.first n))
      (sym (untouched r (own_chain_of 1 os) b.second n))

  module _ (good : Ok tt ≡ pair_input_judged c e os (length b.table) (length b.marks) (length b.first) (length b.second)) where
    decides : judged ≡ room
    decides = pair_judged_split c e os W (length b.marks) (length b.first) (length b.second) ∙ ap (λ (j : Judged). or_else j room) (sym good)

    -- the table is full
    pub pair_full : (t ms ch ch' : List ℕ) (r : Refusal) → PairRan (length b.table) c e os t ms ch ch' (Err r) → (b' : PairLent)
        → b'.table ≡ replicate (length b.table) 0 → b'.marks ≡ replicate (length b.marks) 0 → b'.first ≡ replicate (length b.first) 0 → b'.second ≡ replicate (length b.second) 0
        → PairIs c e os b (Err r) b'
    pair_full t ms ch ch' r h b' x y z u =
        let zero : (new old : List ℕ) → buffer_by (Err r) new old ≡ replicate (length old) 0 = room_zero (pair_records_in W) c e 0 [] [] os r h in
        by (Err r) (decides ∙ h) (Err r) b' refl
        (x ∙ sym (zero (pair_table_of W c e (slots_of c e os) (steps_by 0 os) (steps_by 1 os)) b.table))
        (y ∙ sym (zero (pair_marks_of (pair_records_in W) c e os) b.marks))
        (z ∙ sym (zero (own_chain_of 0 os) b.first))
        (u ∙ sym (zero (own_chain_of 1 os) b.second))

    -- both walks, accepted
    pub pair_all : (t ms ch ch' : List ℕ) (w : Pair) → PairRan (length b.table) c e os t ms ch ch' (Ok w) → length t ≡ length b.table → length ch ≡ length os → length ch' ≡ length os
        → (f : PairFacts) → f ≡ facts_with w.stock.nodes c e (steps_by 0 os) (steps_by 1 os) → (b' : PairLent) → b'.table ≡ t → b'.marks ≡ ms → ChainEnds ch (steps_by 0 os) b'.first → ChainEnds ch' (steps_by 1 os) b'.second
        → PairIs c e os b (Ok f) b'
    pair_all t ms ch ch' w h l m n f x b' y z u v =
        let ds = steps_by 0 os in
        let es = steps_by 1 os in
        by (Ok tt) (decides ∙ h.2) (Ok f) b'
        (ap Ok (x ∙ ap (λ (k : ℕ). facts_with k c e ds es) (over_nodes t ch ch' c e ds es (slots_of c e os) w.first w.second w.stock h.0)))
        (y ∙ walked-is t c e ds es (slots_of c e os) h.0.walked ∙ ap (λ (k : ℕ). pair_table_of k c e (slots_of c e os) ds es) l)
        (z ∙ h.1)
        (u ∙ ap (λ (k : ℕ). ds ++ replicate (k - length ds) 0) m)
        (v ∙ ap (λ (k : ℕ). es ++ replicate (k - length es) 0) n)
