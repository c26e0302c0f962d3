-- The parts of the call put together: its input, its start, the walk that is over, and the refusals.
-- Assumes nothing.
use Rattle.std.specs.Prelude.{Err, Ok}
use mathlib.Core.Bool.{Bool, true, false}
use mathlib.Core.List.{List, [], ◌∷◌, ◌++◌}
use mathlib.Core.Logic.{◌⊎◌, inl, inr}
use mathlib.Core.Path.{◌≡◌, refl, ap, ap₂, sym, subst, ◌∙◌}
use Prim.Native.Nat.{ℕ, suc, ◌+◌, pred, ◌-◌, ◌*◌, ◌<◌, ◌≤◌}
use native.Mathlib.Decide.{dec_lt}
use native.Mathlib.Omega.{arith}
use lib.Dec.{ltb}
use lib.ListN.{length, replicate, take}
use Rattle.answer.specs.Answers.{Answer, Judged}
use Rattle.answer.specs.declared.Facts.{Facts}
use Rattle.answer.specs.declared.Refusal.{Refusal}
use Rattle.answer.specs.declared.Refusal.TheVariants.{NoRoom}
use Rattle.answer.specs.Refusal.{when, or_else}
use Rattle.walk.specs.Walk.{room_at, room_from, walk_judged, facts_of, answer_by, buffer_by, WalkIs}
use Rattle.walk_run.specs.Runs.{Chained}
use Rattle.grid.specs.declared.Corner.{Corner}
use Rattle.grid.specs.Grid.{corners_from}
use Rattle.layout.specs.Marks.{marks_of, chain_of}
use Rattle.layout.specs.Table.{width, records_in, table_of}
use Rattle.walk_step.specs.declared.Walk.{Walk}
use Rattle.tree.specs.Nodes.{nodes_of, ref_of}
use Rattle.steps.specs.Operations.{operate, survivors}
use Rattle.walk.proofs.JudgedLaws.{judged_split}
use Rattle.walk_input.specs.Input.{input_judged}
use Rattle.walk_facts.specs.Settled.{Settled}
use Rattle.walk_input.proofs.JudgeLaws.{Early, untouched, early_input}
use Rattle.tree.proofs.InUseLaws.{nodes_of-first}
use Rattle.walk.proofs.RoomLaws.{room_full}
use Rattle.walk_plant.specs.Plants.{Planted}
use Rattle.walk_step.specs.Spots.{Walked}
use Rattle.walk_step.specs.Walks.{fresh}
use Rattle.walk_call.specs.Followed.{Followed}

-- ---- a chain that is cleared
pub cleared : (ch ch' : List ℕ) → ch' ≡ take 0 ch ++ replicate (length ch - 0) 0 → ch' ≡ replicate (length ch) 0
cleared ch ch' e = let n : length ch - 0 ≡ length ch = omega arith in e ∙ ap (λ (k : ℕ). replicate k 0) n

-- ---- the input
-- a refused input
pub walk_refused : (c : Corner) (os t ms ch : List ℕ) (r : Refusal) → Err r ≡ input_judged c os (length t) (length ms) (length ch) → WalkIs c os t ms ch (Err r) t ms ch
walk_refused c os t ms ch r e =
    let j : walk_judged c os (length t) (length ms) (length ch) ≡ Err r = judged_split c os (length t) (length ms) (length ch) ∙ ap (λ (x : Judged). or_else x (room_from (records_in (length t)) c 0 [] os)) (sym e) in
    let n : Early (Err r) = subst Early (sym e) (early_input c os (length t) (length ms) (length ch)) in
    record {
      answer = sym (ap (λ (x : Judged). answer_by x (facts_of c (survivors os))) j);
      table = sym (ap (λ (x : Judged). buffer_by x (table_of (length t) c (survivors os)) t) j ∙ untouched r (table_of (length t) c (survivors os)) t n);
      marks = sym (ap (λ (x : Judged). buffer_by x (marks_of c os) ms) j ∙ untouched r (marks_of c os) ms n);
      chain = sym (ap (λ (x : Judged). buffer_by x (chain_of os) ch) j ∙ untouched r (chain_of os) ch n);
    }

-- ---- the start
starts : (c : Corner) → 0 < length (nodes_of (corners_from c []))
starts c = let h = nodes_of-first c [] in omega (arith, ap length h.1)

-- the table is too small for it: refused before the first operation, and the table is cleared
pub planted_full : (words : ℕ) (c : Corner) (os t : List ℕ) → Planted words c t 0 → (room_from (records_in words) c 0 [] os ≡ Err (NoRoom 0)) × (t ≡ replicate words 0)
planted_full words c os t k = elim (dec_lt words (width * n)) [
  | yes h ↦ (room_full (records_in words) c 0 [] os (over words n h), (k.full h).1)
  | no h ↦ absurd (omega (arith, (k.fits (omega arith)).1, starts c))
]
  where
    n : ℕ
    n = length (nodes_of (corners_from c []))

    over : (a n : ℕ) → a < width * n → records_in a < n
    over a n p = omega arith

-- planted: the walk stands there
pub planted_walked : (c : Corner) (t₀ t : List ℕ) (u : ℕ) → Planted (length t₀) c t (u + 1) → length t ≡ length t₀ → Walked t c [] (fresh c u).spot
planted_walked c t₀ t u k l = elim (dec_lt (length t₀) (width * n)) [ yes h ↦ absurd (omega (arith, (k.full h).0)) | no h ↦ at (k.fits (omega arith)) (omega arith) ]
  where
    n : ℕ
    n = length (nodes_of (corners_from c []))

    at : (t ≡ table_of (length t₀) c []) × (u + 1 ≡ n) × (u + 1 ≡ ref_of (nodes_of (corners_from c [])) c) → width * n ≤ length t₀ → Walked t c [] (fresh c u).spot
    at g h = record {
      whole = g.0 ∙ ap (λ (m : ℕ). table_of m c []) (sym l);
      count = omega (arith, g.1);
      room = omega (arith, g.1);
      here = let e : u + 1 ≡ suc u = omega arith in sym g.2 ∙ e;
      corner = refl;
      steps = refl;
    }

-- ---- the walk that is over
pub settled_of : (c : Corner) (t ch ds : List ℕ) (w : Walk) → Chained c t ch ds w → Settled c ch ds w
settled_of c t ch ds w k = record {
  over = record { own = k.own; steps = k.known.walked.steps; corner = k.known.walked.corner; counted = k.known.counted };
  nodes = k.known.walked.count;
}

-- ---- the operations
-- "no room" is all that the size of the table can decide
abbrev RoomAlone : Judged → Type 0
RoomAlone j = (j ≡ Ok tt) ⊎ ((i : ℕ) × (j ≡ Err (NoRoom i)))

room-when : (b : Bool) (i : ℕ) → RoomAlone (when b (NoRoom i))
room-when true i = inr (i, refl)
room-when false i = inl refl

room_or : (j k : Judged) → RoomAlone j → RoomAlone k → RoomAlone (or_else j k)
room_or (Ok _) k p q = q
room_or (Err r) k p q = p

room_cases : (r : ℕ) (c : Corner) (k : ℕ) (ds os : List ℕ) → RoomAlone (room_from r c k ds os)
room_cases r c k ds [] = room-when (ltb r (length (nodes_of (corners_from c ds)))) (pred k)
room_cases r c k ds (o ∷ os) = room_or (room_at r c k ds) (room_from r c (suc k) (operate ds o) os) (room-when (ltb r (length (nodes_of (corners_from c ds)))) (pred k)) (room_cases r c (suc k) (operate ds o) os)

-- what was there before does not matter, apart from its length
room_buffer : (j : Judged) (new old old' : List ℕ) → length old ≡ length old' → RoomAlone j → buffer_by j new old ≡ buffer_by j new old'
room_buffer j new old old' l (inl e) = rw e
room_buffer j new old old' l (inr e) = rw e.1 (ap (λ (n : ℕ). replicate n 0) l)

-- "no room" leaves zeros
zeros_left : (j : Judged) (r : Refusal) (new old : List ℕ) → RoomAlone j → j ≡ Err r → replicate (length old) 0 ≡ buffer_by j new old
zeros_left j r new old (inl e) q = absurd (cc)
zeros_left j r new old (inr e) q = rw e.1

pub followed_full : (c : Corner) (os t ms ch t' ms' ch' : List ℕ) (r : Refusal) → room_from (records_in (length t)) c 0 [] os ≡ Err r
    → t' ≡ replicate (length t) 0 → ms' ≡ replicate (length ms) 0 → ch' ≡ replicate (length ch) 0 → Followed c os t ms ch (Err r) t' ms' ch'
followed_full c os t ms ch t' ms' ch' r e p q s =
    let j = room_from (records_in (length t)) c 0 [] os in
    let k = room_cases (records_in (length t)) c 0 [] os in
    record {
      answer = sym (ap (λ (x : Judged). answer_by x (facts_of c (survivors os))) e);
      table = p ∙ zeros_left j r (table_of (length t) c (survivors os)) t k e;
      marks = q ∙ zeros_left j r (marks_of c os) ms k e;
      chain = s ∙ zeros_left j r (chain_of os) ch k e;
    }

pub followed_all : (c : Corner) (os t ms ch t' ms' ch' : List ℕ) (w : Walk) (f : Facts) → Chained c t' ch' (survivors os) w → ch' ≡ chain_of os → ms' ≡ marks_of c os → room_from (records_in (length t)) c 0 [] os ≡ Ok tt
    → length t' ≡ length t → f ≡ facts_of c (survivors os) → Followed c os t ms ch (Ok f) t' ms' ch'
followed_all c os t ms ch t' ms' ch' w f k h q e l g = record {
  answer = ap Ok g ∙ sym (ap (λ (x : Judged). answer_by x (facts_of c (survivors os))) e);
  table = k.known.walked.whole ∙ ap (λ (x : ℕ). table_of x c (survivors os)) l ∙ sym (ap (λ (x : Judged). buffer_by x (table_of (length t) c (survivors os)) t) e);
  marks = q ∙ sym (ap (λ (x : Judged). buffer_by x (marks_of c os) ms) e);
  chain = h ∙ sym (ap (λ (x : Judged). buffer_by x (chain_of os) ch) e);
}

pub followed_from : (c : Corner) (os t t₁ ms ch : List ℕ) (r : Answer) (t' ms' ch' : List ℕ) → length t₁ ≡ length t → Followed c os t₁ ms ch r t' ms' ch' → Followed c os t ms ch r t' ms' ch'
followed_from c os t t₁ ms ch r t' ms' ch' l f =
    let R : ℕ → Judged = λ n. room_from (records_in n) c 0 [] os in
    let k : R (length t₁) ≡ R (length t) = ap R l in
    record {
      answer = f.answer ∙ ap (λ (x : Judged). answer_by x (facts_of c (survivors os))) k;
      table =
          f.table
          ∙ room_buffer (R (length t₁)) (table_of (length t₁) c (survivors os)) t₁ t l (room_cases (records_in (length t₁)) c 0 [] os)
          ∙ ap₂ (λ (x : Judged) (n : ℕ). buffer_by x (table_of n c (survivors os)) t) k l;
      marks = f.marks ∙ ap (λ (x : Judged). buffer_by x (marks_of c os) ms) k;
      chain = f.chain ∙ ap (λ (x : Judged). buffer_by x (chain_of os) ch) k;
    }

-- an input with no fault, followed
pub walk_followed : (c : Corner) (os t ms ch : List ℕ) (r : Answer) (t' ms' ch' : List ℕ) → Ok tt ≡ input_judged c os (length t) (length ms) (length ch)
    → Followed c os t ms ch r t' ms' ch' → WalkIs c os t ms ch r t' ms' ch'
walk_followed c os t ms ch r t' ms' ch' e f =
    let R : Judged = room_from (records_in (length t)) c 0 [] os in
    let k : R ≡ walk_judged c os (length t) (length ms) (length ch) = sym (judged_split c os (length t) (length ms) (length ch) ∙ ap (λ (x : Judged). or_else x R) (sym e)) in
    record {
      answer = f.answer ∙ ap (λ (x : Judged). answer_by x (facts_of c (survivors os))) k;
      table = f.table ∙ ap (λ (x : Judged). buffer_by x (table_of (length t) c (survivors os)) t) k;
      marks = f.marks ∙ ap (λ (x : Judged). buffer_by x (marks_of c os) ms) k;
      chain = f.chain ∙ ap (λ (x : Judged). buffer_by x (chain_of os) ch) k;
    }
