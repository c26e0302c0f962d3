-- The buffers of an accepted walk, word by word: records, marks and chain. And the digits of turns.
-- Assumes nothing.
use mathlib.Core.List.{List, [], ◌∷◌}
use mathlib.Core.Path.{◌≡◌, refl, ap, ◌∙◌}
use Prim.Native.Nat.{ℕ, zero, suc, ◌+◌, ◌-◌, ◌*◌, ◌<◌, ◌≤◌}
use native.Mathlib.Decide.{dec_lt}
use native.Mathlib.Omega.{arith}
use lib.ListN.{length, get_or, take, replicate, length-append, length-replicate, get_or-replicate, get_or-append, get_or-eq_default}
use lib.Seq.{get_or-append-add}
use Rattle.lists.specs.Lists.{count}
use Rattle.grid.specs.declared.Corner.{Corner}
use Rattle.grid.specs.Grid.{origin, same, corners_from, end_from}
use Rattle.steps.specs.Operations.{operate, survivors_from, survivors}
use Rattle.steps.specs.Turns.{turn_of, turns_from, turns_of, step_after, steps_from, steps_of}
use Rattle.tree.specs.Nodes.{nodes_of}
use Rattle.layout.specs.Marks.{mark_words, changes_of, marks_from, chain_of, mark_of}
use Rattle.layout.specs.Table.{width, word_at, record_of, records_of, table_of}
use Rattle.steps.proofs.SurvivorLaws.{length-survivors}
use Rattle.layout.proofs.IndexLaws.{length-records, word_at_lem}

zeros : (n i : ℕ) → get_or {A = ℕ} (replicate n 0) i 0 ≡ 0
zeros n i = elim (dec_lt i n) [ yes h ↦ get_or-replicate n i 0 0 h | no h ↦ get_or-eq_default {A = ℕ} (replicate n 0) 0 {n = i} (omega (arith, length-replicate {A = ℕ} n 0)) ]

module _ (words : ℕ) (c : Corner) (ds : List ℕ) where
  abbrev ps : List Corner
  ps = corners_from c ds

  abbrev ns : List Corner
  ns = nodes_of ps

  abbrev rs : List ℕ
  rs = records_of ps ns ns

  -- word w of the record of node i
  pub table_word : (i w : ℕ) → i < length ns → w < width → get_or (table_of words c ds) (word_at i w) 0 ≡ get_or (record_of ps ns (get_or ns i origin)) w 0
  table_word i w h k =
      get_or-append rs (replicate (words - length rs) 0) 0 (word_at i w) (omega (arith, length-records ps ns ns))
      ∙ word_at_lem ps ns ns i w origin h k

  -- past the nodes in use
  pub table_unused : (n : ℕ) → width * length ns ≤ n → get_or (table_of words c ds) n 0 ≡ 0
  table_unused n h =
      let e : n ≡ length rs + (n - length rs) = omega (arith, length-records ps ns ns) in
      ap (λ (m : ℕ). get_or (table_of words c ds) m 0) e
      ∙ get_or-append-add rs (replicate (words - length rs) 0) (n - length rs) 0
      ∙ zeros (words - length rs) (n - length rs)

  pub table_length : width * length ns ≤ words → length (table_of words c ds) ≡ words
  table_length h = omega (arith, length-append rs (replicate (words - length rs) 0), length-replicate {A = ℕ} (words - length rs) 0, length-records ps ns ns)

-- the marks after operation k
module _ (c : Corner) where
  abbrev stood : List ℕ → ℕ
  stood ds = count (same (end_from c ds)) (corners_from c ds)

  -- word w of mark k
  marks_word : (s os : List ℕ) (k w : ℕ) → k < length os → w < mark_words → get_or (marks_from c s os) (mark_words * k + w) 0 ≡ get_or (mark_of c (survivors_from s (take k os)) (survivors_from s (take (suc k) os))) w 0
  marks_word s [] k w h l = absurd (omega arith)
  marks_word s (o ∷ os) zero w h l =
      let e : mark_words * 0 + w ≡ w = omega arith in
      ap (λ (n : ℕ). get_or (marks_from c s (o ∷ os)) n 0) e ∙ get_or-append (mark_of c s (operate s o)) (marks_from c (operate s o) os) 0 w l
  marks_word s (o ∷ os) (suc k) w h l =
      let e : mark_words * suc k + w ≡ mark_words + (mark_words * k + w) = omega arith in
      ap (λ (n : ℕ). get_or (marks_from c s (o ∷ os)) n 0) e ∙ get_or-append-add (mark_of c s (operate s o)) (marks_from c (operate s o) os) (mark_words * k + w) 0 ∙ marks_word (operate s o) os k w (omega arith) l

  pub marks_from_lem : (s os : List ℕ) (k : ℕ) → k < length os → (get_or (marks_from c s os) (mark_words * k) 0 ≡ length (nodes_of (corners_from c (survivors_from s (take (suc k) os))))) × (get_or (marks_from c s os) (mark_words * k + 1) 0 ≡ stood (survivors_from s (take (suc k) os)))
      × (get_or (marks_from c s os) (mark_words * k + 2) 0 ≡ changes_of c (survivors_from s (take k os)) (survivors_from s (take (suc k) os)))
  marks_from_lem s os k h =
      let e : mark_words * k ≡ mark_words * k + 0 = omega arith in
      (ap (λ (n : ℕ). get_or (marks_from c s os) n 0) e ∙ marks_word s os k 0 h (omega arith), marks_word s os k 1 h (omega arith), marks_word s os k 2 h (omega arith))

  pub marks_length : (s os : List ℕ) → length (marks_from c s os) ≡ mark_words * length os
  marks_length s [] = refl
  marks_length s (o ∷ os) = omega (arith, marks_length (operate s o) os)

pub chain_length : (os : List ℕ) → length (chain_of os) ≡ length os
chain_length os =
    let n = length os - length (survivors os) in
    omega (arith, length-append (survivors os) (replicate n 0), length-replicate {A = ℕ} n 0, length-survivors [] os)

-- each later digit of turns is its step minus the one before
turns-from : (a : ℕ) (ds : List ℕ) (k : ℕ) → k < length ds → get_or (turns_from a ds) k 0 ≡ turn_of (get_or (a ∷ ds) k 0) (get_or ds k 0)
turns-from a [] k h = absurd (omega arith)
turns-from a (b ∷ ds) zero h = refl
turns-from a (b ∷ ds) (suc k) h = turns-from b ds k (omega arith)

pub turn_digit : (ds : List ℕ) (k : ℕ) → suc k < length ds → get_or (turns_of ds) (suc k) 0 ≡ turn_of (get_or ds k 0) (get_or ds (suc k) 0)
turn_digit [] k h = absurd (omega arith)
turn_digit (d ∷ ds) k h = turns-from d ds k (omega arith)

pub turn_first : (ds : List ℕ) → get_or (turns_of ds) 0 0 ≡ get_or ds 0 0
turn_first [] = refl
turn_first (d ∷ ds) = refl

-- each later step is the one before it, turned by its digit
steps-from : (a : ℕ) (ts : List ℕ) (k : ℕ) → k < length ts → get_or (steps_from a ts) k 0 ≡ step_after (get_or (a ∷ steps_from a ts) k 0) (get_or ts k 0)
steps-from a [] k h = absurd (omega arith)
steps-from a (t ∷ ts) zero h = refl
steps-from a (t ∷ ts) (suc k) h = steps-from (step_after a t) ts k (omega arith)

pub step_digit : (ts : List ℕ) (k : ℕ) → suc k < length ts → get_or (steps_of ts) (suc k) 0 ≡ step_after (get_or (steps_of ts) k 0) (get_or ts (suc k) 0)
step_digit [] k h = absurd (omega arith)
step_digit (t ∷ ts) k h = steps-from t ts k (omega arith)

pub step_first : (ts : List ℕ) → get_or (steps_of ts) 0 0 ≡ get_or ts 0 0
step_first [] = refl
step_first (t ∷ ts) = refl
