-- The laws of a run, as its proof cites them: before operation i, the walk of those before it, and what is left to do.
-- Assumes nothing.
use Rattle.std.specs.Prelude.{Err, None, Ok, Option, Some}
use mathlib.Core.List.{List, [], ◌∷◌, ◌++◌, append_assoc, append-nil}
use mathlib.Core.Path.{◌≡◌, refl, ap, ap₂, sym, ◌∙◌, subst}
use Prim.Native.Nat.{ℕ, suc, ◌+◌, ◌-◌, ◌*◌, ◌^◌, ◌<◌, ◌≤◌}
use native.Mathlib.Omega.{arith}
use lib.ListN.{length, length-append, take, drop, get_or, replicate, drop_of_length-le}
use lib.Seq.{sets, length-sets, sets-eq, length-take-le, drop-cons, take_at, take_all}
use Rattle.answer.specs.declared.Refusal.TheVariants.{NoRoom}
use Rattle.walk.specs.Walk.{room_from}
use Rattle.grid.specs.declared.Corner.{Corner}
use Rattle.grid.specs.Grid.{corners_from}
use Rattle.layout.specs.Marks.{mark_words, mark_of, marks_of, marks_from}
use Rattle.layout.specs.Table.{width, records_in}
use Rattle.walk_step.specs.declared.Walk.{Walk}
use Rattle.walk_step.specs.Walks.{fresh}
use Rattle.walk_step.proofs.ChainLaws.{keeps_none, keeps_zeros, keeps_end}
use Rattle.tree.specs.Nodes.{nodes_of}
use Rattle.steps.specs.Operations.{operate, survivors_from, survivors, fault_of, operations_judged, after, Fine}
use Rattle.walk.proofs.RoomLaws.{room_full, room_fits, room_end}
use Rattle.steps.proofs.SurvivorLaws.{fault_none, fault_step, after-length, length-operate}
use Rattle.walk_run.specs.Runs.{Chained, Ready, WalkStarts, Performed, PerformedAll, Ended}

-- what stands before a run of stores, and the run
pub take_sets : (l vs : List ℕ) (i n : ℕ) → i + length vs ≤ length l → i + length vs ≡ n → take n (sets l i vs) ≡ take i l ++ vs
take_sets l vs i n h e =
    ap (take n) (sets-eq vs l i h)
    ∙ take_at (take i l ++ vs) (drop (i + length vs) l) n (omega (arith, length-append (take i l) vs, length-take-le i l (omega arith)))

-- before operation i: the walk of those before it, and what is left to do
pub record Running (words : ℕ) (c : Corner) (ops t ms ch : List ℕ) (w : Walk) (i : ℕ) : Type 0 where
  pub steps : List ℕ
  pub chained : Chained c t ch steps w
  pub rest : survivors ops ≡ survivors_from steps (drop i ops)
  pub fine : operations_judged i (length steps) (drop i ops) ≡ Ok tt
  pub fits : length (nodes_of (corners_from c steps)) ≤ records_in words
  pub room : room_from (records_in words) c 0 [] ops ≡ room_from (records_in words) c i steps (drop i ops)
  pub marked : marks_of c ops ≡ take (mark_words * i) ms ++ marks_from c steps (drop i ops)
  pub few : length steps ≤ i

-- the start
pub running_start : (c : Corner) (node : ℕ) (ops t ms ch : List ℕ) → WalkStarts c node ops t ms ch → (w : Walk) → w ≡ fresh c node → Running (length t) c ops t ms ch w 0
running_start c node ops t ms ch b w q = subst (λ (v : Walk). Running (length t) c ops t ms ch v 0) (sym q) (record {
  steps = [];
  chained = record { known = record { walked = b.walked; counted = record { seen = refl; met = (refl, refl) } }; own = keeps_none c ch b.near };
  rest = refl;
  fine = b.fine;
  fits = omega (arith, b.walked.count, b.walked.room);
  room = refl;
  marked = refl;
  few = omega arith;
})

module _ (words : ℕ) (c : Corner) (ops t ms ch : List ℕ) (w : Walk) (i : ℕ) (k : Running words c ops t ms ch w i) (more : i < length ops) where
  left : drop i ops ≡ get_or ops i 0 ∷ drop (suc i) ops
  left = drop-cons ops i 0 more

  faults : (fault_of i (length k.steps) (get_or ops i 0) ≡ Ok tt) × (operations_judged (suc i) (after (length k.steps) (get_or ops i 0)) (drop (suc i) ops) ≡ Ok tt)
  faults = fault_step i (length k.steps) (get_or ops i 0) (drop (suc i) ops) (subst (λ (l : List ℕ). operations_judged i (length k.steps) l ≡ Ok tt) left k.fine)

  pub running_ready : length ch ≡ length ops → length t < 2 ^ 32 → Ready t ch w (get_or ops i 0)
  running_ready l small = record {
    start = c;
    steps = k.steps;
    chained = k.chained;
    fine = subst (λ (n : ℕ). Fine n (get_or ops i 0)) (sym k.chained.known.walked.steps) (fault_none i (length k.steps) (get_or ops i 0) faults.0);
    next = λ f. omega (arith, k.few, k.chained.known.walked.steps);
    words = small;
  }

  -- the table was large enough so far
  went : room_from (records_in words) c 0 [] ops ≡ room_from (records_in words) c (suc i) (operate k.steps (get_or ops i 0)) (drop (suc i) ops)
  went = k.room ∙ ap (λ (l : List ℕ). room_from (records_in words) c i k.steps l) left ∙ room_fits (records_in words) c i k.steps (get_or ops i 0) (drop (suc i) ops) k.fits

  -- the table is full
  pub running_full : (t' ms' ch' : List ℕ) (r : Option Walk) → ((ds : List ℕ) → Chained c t ch ds w → Performed words ms i c t' ms' ch' ds (operate ds (get_or ops i 0)) r) → r ≡ None → PerformedAll words c ops t' ms' ch' (Err (NoRoom i))
  running_full t' ms' ch' r f e =
      let h : (words < width * length (nodes_of (corners_from c (operate k.steps (get_or ops i 0))))) × (t' ≡ replicate words 0) = subst (λ y. Performed words ms i c t' ms' ch' k.steps (operate k.steps (get_or ops i 0)) y) e (f k.steps k.chained) in
      (went ∙ room_full (records_in words) c (suc i) (operate k.steps (get_or ops i 0)) (drop (suc i) ops) (over words (length (nodes_of (corners_from c (operate k.steps (get_or ops i 0))))) h.0), h.1)
    where
      over : (a n : ℕ) → a < width * n → records_in a < n
      over a n p = omega arith

  -- the walk goes on, and is marked
  pub running_next : (t' ms' ch' : List ℕ) (r : Option Walk) → ((ds : List ℕ) → Chained c t ch ds w → Performed words ms i c t' ms' ch' ds (operate ds (get_or ops i 0)) r) → (v : Walk) → r ≡ Some v → mark_words * suc i ≤ length ms → (length t' ≡ words) × (length ms' ≡ length ms) × Running words c ops t' ms' ch' v (i + 1)
  running_next t' ms' ch' r f v e l =
      let o = get_or ops i 0 in
      let ds = operate k.steps o in
      let g : Chained c t' ch' ds v × (length t' ≡ words) × (ms' ≡ sets ms (mark_words * i) (mark_of c k.steps ds)) = subst (λ y. Performed words ms i c t' ms' ch' k.steps ds y) e (f k.steps k.chained) in
      let h = g.0.known.walked in
      let n₁ : length (mark_of c k.steps ds) ≡ mark_words = refl in
      let n₃ : suc i ≡ i + 1 = omega arith in
      let a = length (nodes_of (corners_from c ds)) in
      let two : take (mark_words * (i + 1)) ms' ≡ take (mark_words * i) ms ++ mark_of c k.steps ds = ap (take (mark_words * (i + 1))) g.2 ∙ take_sets ms (mark_of c k.steps ds) (mark_words * i) (mark_words * (i + 1)) (omega arith) (omega arith) in (
        g.1,
        ap length g.2 ∙ length-sets ms (mark_words * i) (mark_of c k.steps ds),
        record {
          steps = ds;
          chained = g.0;
          rest = k.rest ∙ ap (survivors_from k.steps) left ∙ ap (λ (j : ℕ). survivors_from ds (drop j ops)) n₃;
          fine = subst (λ (j : ℕ). operations_judged j (length ds) (drop j ops) ≡ Ok tt) n₃ (subst (λ (n : ℕ). operations_judged (suc i) n (drop (suc i) ops) ≡ Ok tt) (after-length k.steps o) faults.1);
          fits = under v.spot.nodes a words (length t') h.count h.room g.1;
          room = went ∙ ap (λ (j : ℕ). room_from (records_in words) c j ds (drop j ops)) n₃;
          marked =
              k.marked ∙ ap (λ (x : List ℕ). take (mark_words * i) ms ++ marks_from c k.steps x) left
              ∙ sym (append_assoc (take (mark_words * i) ms) (mark_of c k.steps ds) (marks_from c ds (drop (suc i) ops)))
              ∙ ap₂ (λ (x : List ℕ) (j : ℕ). x ++ marks_from c ds (drop j ops)) (sym two) n₃;
          few = omega (arith, length-operate k.steps o, k.few);
        },
      )
    where
      under : (m n l q : ℕ) → m ≡ n → width * m ≤ q → q ≡ l → n ≤ records_in l
      under m n l q p s r = omega arith

-- the end
pub running_end : (words : ℕ) (c : Corner) (ops t ms ch : List ℕ) (w : Walk) (i : ℕ) → Running words c ops t ms ch w i → length ops ≤ i → length ms ≡ mark_words * length ops → i ≤ length ops → PerformedAll words c ops t ms ch (Ok w)
running_end words c ops t ms ch w i k h l b =
    let e : drop i ops ≡ [] = drop_of_length-le ops h in (
      subst (λ (ds : List ℕ). Chained c t ch ds w) (sym (k.rest ∙ ap (survivors_from k.steps) e)) k.chained,
      sym (k.marked ∙ ap (λ (x : List ℕ). take (mark_words * i) ms ++ marks_from c k.steps x) e ∙ append-nil (take (mark_words * i) ms) ∙ take_all (mark_words * i) ms (omega arith)),
      k.room ∙ ap (λ (x : List ℕ). room_from (records_in words) c i k.steps x) e ∙ room_end (records_in words) c i k.steps k.fits,
    )

-- the buffers cleared
pub ended-all : (words : ℕ) (c : Corner) (ops t ms ch : List ℕ) (w : Walk) → length ch ≡ length ops → PerformedAll words c ops t ms ch (Ok w)
    → (ch' : List ℕ) → ch' ≡ take w.spot.steps ch ++ replicate (length ch - w.spot.steps) 0 → Ended words c ops t ms ch' (Ok w)
ended-all words c ops t ms ch w l h ch' e =
    let k = h.0 in
    let ds = survivors ops in (
      record { known = k.known; own = keeps_end c ch ds k.own w.spot.steps k.known.walked.steps ch' e },
      keeps_zeros c ch ds k.own w.spot.steps k.known.walked.steps ch' e ∙ ap (λ (n : ℕ). ds ++ replicate (n - length ds) 0) l,
      h.1,
      h.2,
    )

pub ended-steps : (words : ℕ) (c : Corner) (ops t ms ch : List ℕ) (w : Walk) → PerformedAll words c ops t ms ch (Ok w) → w.spot.steps ≤ length ch
ended-steps words c ops t ms ch w h = omega (arith, h.0.known.walked.steps, h.0.own.space)

pub cleared_from-0 : (ch ch' : List ℕ) → length ch' ≡ length ch → ch' ≡ take 0 ch ++ replicate (length ch - 0) 0 → ch' ≡ replicate (length ch') 0
cleared_from-0 ch ch' l e = let n : length ch - 0 ≡ length ch' = omega arith in e ∙ ap (λ (k : ℕ). replicate k 0) n
