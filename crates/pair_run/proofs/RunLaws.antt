-- The run of two parties: before operation i, both after the operations before it, and what is left to do.
-- Assumes nothing.
use Rattle.std.specs.Prelude.{Err, Ok, Result}
use mathlib.Core.Bool.{Bool, cond}
use mathlib.Core.List.{List, [], ◌∷◌, ◌++◌, append_assoc, append-nil}
use mathlib.Core.Path.{◌≡◌, refl, ap, ap₂, sym, ◌∙◌, subst, subst₂}
use Prim.Native.Nat.{ℕ, zero, suc, ◌+◌, ◌-◌, ◌*◌, ◌<◌, ◌≤◌}
use native.Mathlib.Omega.{arith}
use borrow.Author.Tests.{eq-eqb, ne_eqb}
use lib.ListN.{length, take, drop, get_or, drop_of_length-le}
use lib.Seq.{length-sets, drop-cons, take_all}
use Rattle.answer.specs.declared.Refusal.{Refusal}
use Rattle.grid.specs.declared.Corner.{Corner}
use Rattle.layout.specs.Marks.{mark_words, changes_by}
use Rattle.steps.specs.Operations.{survivors_from}
use Rattle.answer.proofs.RefusalLaws.{or_else_good}
use Rattle.steps.proofs.SurvivorLaws.{length-operate}
use Rattle.walk_run.proofs.RunLaws.{take_sets}
use Rattle.pair_steps.specs.Parties.{by_party, party_of, op_of, moves, own_ops, steps_by, moved_by, after_by, byte_fault_of, bytes_judged}
use Rattle.pair_steps.proofs.PartyLaws.{moved_mine, moved_other, own-next, after_by-length, pair_fault_none}
use Rattle.pair_table.specs.Slots.{Slot, needs_of, settle, slots_from, slots_of}
use Rattle.pair_table.specs.Words.{pair_width, pair_records_in, pair_table_of, visits_of, pair_mark_of, pair_marks_from, pair_marks_of}
use Rattle.pair.specs.Call.{pair_room_from}
use Rattle.pair_laws.proofs.RoomLaws.{room_end, room_full, room_fits}
use Rattle.pair_child.specs.declared.Stock.{Stock}
use Rattle.pair_move.specs.declared.Party.{Party}
use Rattle.pair_move.specs.declared.Stride.{Stride}
use Rattle.pair_move.proofs.MoveLaws.{party_stays}
use Rattle.pair_move.proofs.BackLaws.{own-needed}
use Rattle.pair_run.specs.declared.Pair.{Pair}
use Rattle.pair_run.specs.Runs.{first_by, second_by, slots_by, PairKept, mark_by, PairPerformed, BothKept, PairRan}
use Rattle.pair_run.proofs.TurnLaws.{kept_nodes, kept-room}

-- ---- the party of a byte, and its operation
pub byte_first : (o : ℕ) → o < 16 → (party_of o ≡ 0) × (o ≡ op_of o)
byte_first o l = (omega arith, omega arith)

pub byte_second : (o : ℕ) → 16 ≤ o → o < 32 → (party_of o ≡ 1) × (o - 16 ≡ op_of o)
byte_second o l h = (omega arith, omega arith)

-- ---- by the party whose operation the byte o is
moved-first : (q : ℕ) (ds : List ℕ) (o : ℕ) → party_of o ≡ q → moved_by 0 ds o ≡ first_by q ds (op_of o)
moved-first zero ds o m = moved_mine 0 o ds (eq-eqb (party_of o) 0 m)
moved-first (suc q) ds o m = moved_other 0 o ds (ne_eqb (party_of o) 0 (λ z. omega (arith, m, z)))

moved_second : (q : ℕ) → q < 2 → (es : List ℕ) (o : ℕ) → party_of o ≡ q → moved_by 1 es o ≡ second_by q es (op_of o)
moved_second zero l es o m = moved_other 1 o es (ne_eqb (party_of o) 1 (λ z. omega (arith, m, z)))
moved_second (suc zero) l es o m = moved_mine 1 o es (eq-eqb (party_of o) 1 m)
moved_second (suc (suc q)) l es o m = absurd (omega arith)

chosen : {A : Type 0} (q : ℕ) (o : ℕ) → party_of o ≡ q → (x y : A) → cond (moves 0 o) x y ≡ by_party q x y
chosen zero o m x y = ap (λ (b : Bool). cond b x y) (eq-eqb (party_of o) 0 m)
chosen (suc q) o m x y = ap (λ (b : Bool). cond b x y) (ne_eqb (party_of o) 0 (λ z. omega (arith, m, z)))

visits_by : (q : ℕ) (c e : Corner) (xs ys : List ℕ) → by_party q (visits_of c xs) (visits_of e ys) ≡ visits_of (by_party q c e) (by_party q xs ys)
visits_by zero c e xs ys = refl
visits_by (suc q) c e xs ys = refl

few_by-first : (q : ℕ) (ds : List ℕ) (o : ℕ) → length (first_by q ds o) ≤ length ds + 1
few_by-first zero ds o = length-operate ds o
few_by-first (suc q) ds o = omega arith

few_by_second : (q : ℕ) (es : List ℕ) (o : ℕ) → length (second_by q es o) ≤ length es + 1
few_by_second zero es o = omega arith
few_by_second (suc q) es o = length-operate es o

mark-by : (r : ℕ) (c e : Corner) (slots : List Slot) (q : ℕ) → q < 2 → (ds es : List ℕ) (o : ℕ) → party_of o ≡ q → pair_mark_of r c e slots ds es o ≡ mark_by r c e slots q ds es (op_of o)
mark-by r c e slots q l ds es o m =
    let xs = first_by q ds (op_of o) in
    let ys = second_by q es (op_of o) in
    ap₂ (λ (f g : List ℕ). length (needs_of c e f g) ∷ cond (moves 0 o) (visits_of c f) (visits_of e g) ∷ changes f g ∷ []) (moved-first q ds o m) (moved_second q l es o m)
    ∙ ap (λ (n : ℕ). length (needs_of c e xs ys) ∷ n ∷ changes xs ys ∷ []) (chosen q o m (visits_of c xs) (visits_of e ys) ∙ visits_by q c e xs ys)
  where
    changes : List ℕ → List ℕ → ℕ
    changes f g = changes_by pair_width r (pair_table_of (r * pair_width) c e slots ds es) (pair_table_of (r * pair_width) c e (settle slots (needs_of c e f g)) f g)

-- ---- one party of both, and both after its operation
both-kept : (t first second : List ℕ) (c e : Corner) (ds es : List ℕ) (slots : List Slot) (one two : Party) (s : Stock) → BothKept t first second c e ds es slots one two s
    → (q : ℕ) → PairKept t (by_party q first second) c e ds es slots q (by_party q one two) s
both-kept t first second c e ds es slots one two s k zero = record { moves = record { walked = k.walked; party = k.one-is; stock = k.stock }; own = k.one_keeps }
both-kept t first second c e ds es slots one two s k (suc q) = record { moves = record { walked = k.walked; party = k.two_is; stock = k.stock }; own = k.two_keeps }

both-next : (t first second : List ℕ) (c e : Corner) (ds es : List ℕ) (slots : List Slot) (one two : Party) (s : Stock) → BothKept t first second c e ds es slots one two s
    → (q o : ℕ) (t' ch : List ℕ) (p : Party) (s' : Stock) → PairKept t' ch c e (first_by q ds o) (second_by q es o) (slots_by c e slots q ds es o) q p s'
    → BothKept t' (by_party q ch first) (by_party q second ch) c e (first_by q ds o) (second_by q es o) (slots_by c e slots q ds es o) (by_party q p one) (by_party q two p) s'
both-next t first second c e ds es slots one two s k zero o t' ch p s' h = record {
  walked = h.moves.walked;
  stock = h.moves.stock;
  one-is = h.moves.party;
  two_is = party_stays slots e es two (needs_of c e (first_by 0 ds o) es) k.two_is (own-needed 1 c e (first_by 0 ds o) es);
  one_keeps = h.own;
  two_keeps = k.two_keeps;
}
both-next t first second c e ds es slots one two s k (suc q) o t' ch p s' h = record {
  walked = h.moves.walked;
  stock = h.moves.stock;
  one-is = party_stays slots c ds one (needs_of c e ds (second_by 1 es o)) k.one-is (own-needed 0 c e ds (second_by 1 es o));
  two_is = h.moves.party;
  one_keeps = k.one_keeps;
  two_keeps = h.own;
}

-- ---- before operation i: both after those before it, and what is left to do
pub record PairRunning (words : ℕ) (c e : Corner) (ops t ms first second : List ℕ) (one two : Party) (s : Stock) (i : ℕ) : Type 0 where
  pub firsts : List ℕ
  pub seconds : List ℕ
  pub slots : List Slot
  pub both : BothKept t first second c e firsts seconds slots one two s
  pub rest-first : steps_by 0 ops ≡ survivors_from firsts (own_ops 0 (drop i ops))
  pub rest_second : steps_by 1 ops ≡ survivors_from seconds (own_ops 1 (drop i ops))
  pub rest-slots : slots_of c e ops ≡ slots_from c e slots firsts seconds (drop i ops)
  pub fine : bytes_judged i (length firsts) (length seconds) (drop i ops) ≡ Ok tt
  pub room : pair_room_from (pair_records_in words) c e 0 [] [] ops ≡ pair_room_from (pair_records_in words) c e i firsts seconds (drop i ops)
  pub marked : pair_marks_of (pair_records_in words) c e ops ≡ take (mark_words * i) ms ++ pair_marks_from (pair_records_in words) c e slots firsts seconds (drop i ops)
  pub few_first : length firsts ≤ i
  pub few_second : length seconds ≤ i

-- the nodes that both need have records
fits : (t first second : List ℕ) (c e : Corner) (ds es : List ℕ) (slots : List Slot) (one two : Party) (s : Stock) → BothKept t first second c e ds es slots one two s → length (needs_of c e ds es) ≤ pair_records_in (length t)
fits t first second c e ds es slots one two s k =
    let h = both-kept t first second c e ds es slots one two s k 0 in
    omega (arith, kept_nodes t first c e ds es slots 0 one s h (omega arith), kept-room t first c e ds es slots 0 one s h (omega arith))

module _ (words : ℕ) (c e : Corner) (ops t ms first second : List ℕ) (one two : Party) (s : Stock) (i : ℕ) (k : PairRunning words c e ops t ms first second one two s i) (long : length t ≡ words) (more : i < length ops) where
  abbrev b : ℕ
  b = get_or ops i 0

  abbrev rest : List ℕ
  rest = drop (suc i) ops

  abbrev R : ℕ
  R = pair_records_in words

  abbrev ds : List ℕ
  ds = k.firsts

  abbrev es : List ℕ
  es = k.seconds

  left : drop i ops ≡ b ∷ rest
  left = drop-cons ops i 0 more

  faults : (byte_fault_of i (length ds) (length es) b ≡ Ok tt) × (bytes_judged (suc i) (after_by 0 (length ds) b) (after_by 1 (length es) b) rest ≡ Ok tt)
  faults = or_else_good (byte_fault_of i (length ds) (length es) b) (bytes_judged (suc i) (after_by 0 (length ds) b) (after_by 1 (length es) b) rest) (subst (λ (l : List ℕ). bytes_judged i (length ds) (length es) l ≡ Ok tt) left k.fine)

  -- the party is known
  pub running_known : get_or ops i 0 < 32
  running_known = (pair_fault_none i (length ds) (length es) b faults.0).0

  -- the byte is operation o of party q
  module _ (q : ℕ) (known : q < 2) (mine : party_of (get_or ops i 0) ≡ q) (o : ℕ) (is : o ≡ op_of (get_or ops i 0)) where
    abbrev xs : List ℕ
    xs = first_by q ds o

    abbrev ys : List ℕ
    ys = second_by q es o

    to-first : moved_by 0 ds b ≡ xs
    to-first = moved-first q ds b mine ∙ ap (first_by q ds) (sym is)

    to_second : moved_by 1 es b ≡ ys
    to_second = moved_second q known es b mine ∙ ap (second_by q es) (sym is)

    -- the table was large enough so far
    went : pair_room_from R c e 0 [] [] ops ≡ pair_room_from R c e (suc i) xs ys rest
    went =
        k.room
        ∙ ap (pair_room_from R c e i ds es) left
        ∙ room_fits R c e i ds es b rest (subst (λ (n : ℕ). length (needs_of c e ds es) ≤ pair_records_in n) long (fits t first second c e ds es k.slots one two s k.both))
        ∙ ap₂ (λ (f g : List ℕ). pair_room_from R c e (suc i) f g rest) to-first to_second

    module _ (t' ms' ch : List ℕ) (r : Result Stride Refusal)
        (f : (c e : Corner) (ds es : List ℕ) (slots : List Slot) → PairKept t (by_party q first second) c e ds es slots q (by_party q one two) s → PairPerformed (length t) ms i c e ds es slots q o t' ms' ch r) where
      done : PairPerformed words ms i c e ds es k.slots q o t' ms' ch r
      done = subst (λ (n : ℕ). PairPerformed n ms i c e ds es k.slots q o t' ms' ch r) long (f c e ds es k.slots (both-kept t first second c e ds es k.slots one two s k.both q))

      -- the table is full
      pub running_full : (n : Refusal) → r ≡ Err n → pair_room_from (pair_records_in words) c e 0 [] [] ops ≡ Err n
      running_full n j =
          let g = subst (PairPerformed words ms i c e ds es k.slots q o t' ms' ch) j done in
          subst (λ (x : Refusal). pair_room_from R c e 0 [] [] ops ≡ Err x) (sym g.0) (went ∙ room_full R c e (suc i) xs ys rest g.1)

      -- both go on, and the operation is marked
      pub running_next : (x : Stride) → r ≡ Ok x → mark_words * suc i ≤ length ms
          → (length t' ≡ words) × (length ms' ≡ length ms) × PairRunning words c e ops t' ms' (by_party q ch first) (by_party q second ch) (by_party q x.party one) (by_party q two x.party) x.stock (i + 1)
      running_next x j l =
          let g = subst (PairPerformed words ms i c e ds es k.slots q o t' ms' ch) j done in
          let slots' = slots_by c e k.slots q ds es o in
          let mark = mark_by R c e k.slots q ds es o in
          let n₁ : length mark ≡ mark_words = refl in
          let n : suc i ≡ i + 1 = omega arith in
          let stored : take (mark_words * (i + 1)) ms' ≡ take (mark_words * i) ms ++ mark = ap (take (mark_words * (i + 1))) g.2 ∙ take_sets ms mark (mark_words * i) (mark_words * (i + 1)) (omega arith) (omega arith) in
          let marks : List ℕ → List ℕ = pair_marks_from R c e slots' xs ys in (
            g.1,
            ap length g.2 ∙ length-sets ms (mark_words * i) mark,
            record {
              firsts = xs;
              seconds = ys;
              slots = slots';
              both = both-next t first second c e ds es k.slots one two s k.both q o t' ch x.party x.stock g.0;
              rest-first = k.rest-first ∙ ap (λ (y : List ℕ). survivors_from ds (own_ops 0 y)) left ∙ own-next 0 ds b rest ∙ ap₂ (λ (y : List ℕ) (m : ℕ). survivors_from y (own_ops 0 (drop m ops))) to-first n;
              rest_second = k.rest_second ∙ ap (λ (y : List ℕ). survivors_from es (own_ops 1 y)) left ∙ own-next 1 es b rest ∙ ap₂ (λ (y : List ℕ) (m : ℕ). survivors_from y (own_ops 1 (drop m ops))) to_second n;
              rest-slots = k.rest-slots ∙ ap (slots_from c e k.slots ds es) left ∙ ap₂ (λ (f g : List ℕ). slots_from c e (settle k.slots (needs_of c e f g)) f g rest) to-first to_second ∙ ap (λ (m : ℕ). slots_from c e slots' xs ys (drop m ops)) n;
              fine =
                  subst (λ (m : ℕ). bytes_judged m (length xs) (length ys) (drop m ops) ≡ Ok tt) n
                  (subst₂ (λ (f g : ℕ). bytes_judged (suc i) f g rest ≡ Ok tt) (after_by-length 0 ds b ∙ ap length to-first) (after_by-length 1 es b ∙ ap length to_second) faults.1);
              room = went ∙ ap (λ (m : ℕ). pair_room_from R c e m xs ys (drop m ops)) n;
              marked =
                  k.marked
                  ∙ ap (λ (y : List ℕ). take (mark_words * i) ms ++ pair_marks_from R c e k.slots ds es y) left
                  ∙ ap₂ (λ (f g : List ℕ). take (mark_words * i) ms ++ (pair_mark_of R c e k.slots ds es b ++ pair_marks_from R c e (settle k.slots (needs_of c e f g)) f g rest)) to-first to_second
                  ∙ ap (λ (y : List ℕ). take (mark_words * i) ms ++ (y ++ marks rest)) (mark-by R c e k.slots q known ds es b mine ∙ ap (mark_by R c e k.slots q ds es) (sym is))
                  ∙ sym (append_assoc (take (mark_words * i) ms) mark (marks rest))
                  ∙ ap₂ (λ (y : List ℕ) (m : ℕ). y ++ marks (drop m ops)) (sym stored) n;
              few_first = omega (arith, few_by-first q ds o, k.few_first);
              few_second = omega (arith, few_by_second q es o, k.few_second);
            },
          )

-- the end
pub running_end : (words : ℕ) (c e : Corner) (ops t ms first second : List ℕ) (one two : Party) (s : Stock) (i : ℕ) → PairRunning words c e ops t ms first second one two s i → length t ≡ words
    → length ops ≤ i → length ms ≡ mark_words * length ops → i ≤ length ops → (w : Pair) → w.first ≡ one → w.second ≡ two → w.stock ≡ s → PairRan words c e ops t ms first second (Ok w)
running_end words c e ops t ms first second one two s i k long h l m w p q r =
    let R = pair_records_in words in
    let d : drop i ops ≡ [] = drop_of_length-le ops h in
    let f : k.firsts ≡ steps_by 0 ops = sym (k.rest-first ∙ ap (λ (y : List ℕ). survivors_from k.firsts (own_ops 0 y)) d) in
    let g : k.seconds ≡ steps_by 1 ops = sym (k.rest_second ∙ ap (λ (y : List ℕ). survivors_from k.seconds (own_ops 1 y)) d) in
    let o : k.slots ≡ slots_of c e ops = sym (k.rest-slots ∙ ap (slots_from c e k.slots k.firsts k.seconds) d) in (
      subst₂ (λ (x y : Party). BothKept t first second c e (steps_by 0 ops) (steps_by 1 ops) (slots_of c e ops) x y w.stock) (sym p) (sym q)
          (subst (BothKept t first second c e (steps_by 0 ops) (steps_by 1 ops) (slots_of c e ops) one two) (sym r)
          (subst (λ (x : List Slot). BothKept t first second c e (steps_by 0 ops) (steps_by 1 ops) x one two s) o
          (subst₂ (λ (x y : List ℕ). BothKept t first second c e x y k.slots one two s) f g k.both))),
      sym (k.marked ∙ ap (λ (y : List ℕ). take (mark_words * i) ms ++ pair_marks_from R c e k.slots k.firsts k.seconds y) d ∙ append-nil (take (mark_words * i) ms) ∙ take_all (mark_words * i) ms (omega arith)),
      k.room ∙ ap (pair_room_from R c e i k.firsts k.seconds) d ∙ room_end R c e i k.firsts k.seconds (subst (λ (n : ℕ). length (needs_of c e k.firsts k.seconds) ≤ pair_records_in n) long (fits t first second c e k.firsts k.seconds k.slots one two s k.both)),
    )
