-- One operation of one of two parties: a step or a take-back, with its chain, the records that it changed, and its mark.
-- Assumes nothing.
use Rattle.std.specs.Prelude.{Err, None, Ok, Option, Some}
use mathlib.Core.List.{List, [], ◌∷◌, ◌++◌}
use mathlib.Core.Path.{◌≡◌, refl, ap, ap₂, sym, ◌∙◌, subst, subst₂}
use Prim.Native.Nat.{ℕ, zero, suc, ◌+◌, ◌-◌, ◌*◌, ◌%◌, ◌<◌, ◌≤◌}
use native.Mathlib.Omega.{arith}
use lib.IntN.{nat_abs}
use lib.ListN.{length, length-append, take, get_or, set}
use lib.Seq.{sets}
use Rattle.answer.specs.Limits.{most_steps}
use Rattle.answer.specs.declared.Refusal.TheVariants.{NoRoom}
use Rattle.grid.specs.declared.Corner.{Corner}
use Rattle.grid.specs.Grid.{stepped, corners_from, end_from}
use Rattle.layout.specs.Marks.{mark_words, changes_by}
use Rattle.layout.specs.Table.{visits_word}
use Rattle.steps.specs.Operations.{operate}
use Rattle.tree_laws.specs.State.{State}
use Rattle.grid.proofs.StepLaws.{end_from_snoc}
use Rattle.steps.proofs.SurvivorLaws.{operate_step, operate-back}
use Rattle.pair_steps.specs.Parties.{by_party}
use Rattle.pair_table.specs.Slots.{Slot, needs_of, settle}
use Rattle.pair_table.specs.Words.{pair_width, pair_records_in, pair_table_of, visits_of}
use Rattle.pair_laws.specs.Stand.{At}
use Rattle.pair_laws.proofs.CountLaws.{held_nodes, held_most}
use Rattle.pair_laws.proofs.UnionLaws.{union_distinct}
use Rattle.pair_table_laws.specs.Hold.{both_of, of_party, words_in}
use Rattle.pair_table_laws.proofs.FrameLaws.{at_below}
use Rattle.pair_child.specs.declared.Stock.{Stock}
use Rattle.walk_step.specs.Chains.{ChainKeeps}
use Rattle.walk_step.proofs.ChainLaws.{keeps_near, keeps_place, keeps_split, keeps_digit, keeps_back, keeps_step}
use Rattle.pair_move.specs.declared.Party.{Party}
use Rattle.pair_move.specs.declared.Stride.{Stride}
use Rattle.pair_move.specs.Moves.{first_after, second_after, Moves, PairAdvanced}
use Rattle.pair_move.proofs.MoveLaws.{own_state, own-after}
use Rattle.pair_move.proofs.BackLaws.{back-corner, back-steps}
use Rattle.pair_change.specs.Counts.{WithStep, SomeStep, Changes}
use Rattle.pair_change.proofs.WalkedLaws.{step_with, back_with, mark_step, mark-back}
use Rattle.pair_run.specs.declared.PairTurn.{PairTurn}
use Rattle.pair_run.specs.Runs.{first_by, second_by, slots_by, PairKept, PairActed, PairPerformed}

-- ---- by the party: an operation that is a step, and one that takes the last step d back, before which the steps l of that party stand
by_step_first : (q : ℕ) (ds : List ℕ) (d : ℕ) → d < 4 → first_by q ds d ≡ first_after q ds d
by_step_first zero ds d l = operate_step ds d l
by_step_first (suc q) ds d l = refl

by_step_second : (q : ℕ) (es : List ℕ) (d : ℕ) → d < 4 → second_by q es d ≡ second_after q es d
by_step_second zero es d l = refl
by_step_second (suc q) es d l = operate_step es d l

module _ (ds es l : List ℕ) (d : ℕ) where
  with_first : (q : ℕ) → by_party q ds es ≡ l ++ (d ∷ []) → ds ≡ first_after q (by_party q l ds) d
  with_first zero h = h
  with_first (suc q) h = refl

  with_second : (q : ℕ) → by_party q ds es ≡ l ++ (d ∷ []) → es ≡ second_after q (by_party q es l) d
  with_second zero h = refl
  with_second (suc q) h = h

  by-back-first : (q : ℕ) → by_party q ds es ≡ l ++ (d ∷ []) → first_by q ds 4 ≡ by_party q l ds
  by-back-first zero h = ap (λ (x : List ℕ). operate x 4) h ∙ operate-back l d
  by-back-first (suc q) h = refl

  by-back_second : (q : ℕ) → by_party q ds es ≡ l ++ (d ∷ []) → second_by q es 4 ≡ by_party q es l
  by-back_second zero h = refl
  by-back_second (suc q) h = ap (λ (x : List ℕ). operate x 4) h ∙ operate-back l d

  own-less : (q : ℕ) → l ≡ by_party q (by_party q l ds) (by_party q es l)
  own-less zero = refl
  own-less (suc q) = refl

-- ---- one operation of party q
module _ (t ch : List ℕ) (c e : Corner) (ds es : List ℕ) (slots : List Slot) (q : ℕ) (p : Party) (s : Stock) (k : PairKept t ch c e ds es slots q p s) where
  abbrev start : Corner
  start = by_party q c e

  abbrev own : List ℕ
  own = by_party q ds es

  pub kept_few : p.steps ≤ most_steps
  kept_few = omega (arith, k.moves.party.steps, k.own.sound.few)

  pub kept_near : (nat_abs p.at.0 < 65536) × (nat_abs p.at.1 < 65536)
  kept_near = keeps_near start ch own k.own p.at k.moves.party.corner

  module _ (known : q < 2) where
    -- ---- a step
    module _ (d : ℕ) (small : d < 4) (t' : List ℕ) where
      pub turned_full : PairAdvanced t c e ds es slots q d t' None → (ch' : List ℕ) → PairActed (length t) c e ds es slots q d t' ch' None
      turned_full h ch' = subst₂ (λ (xs ys : List ℕ). pair_records_in (length t) < length (needs_of c e xs ys)) (sym (by_step_first q ds d small)) (sym (by_step_second q es d small)) h

      module _ (w : Stride) (h : PairAdvanced t c e ds es slots q d t' (Some w)) where
        abbrev more : List Slot
        more = settle slots (needs_of c e (first_after q ds d) (second_after q es d))

        ends : end_from start (by_party q (first_after q ds d) (second_after q es d)) ≡ stepped d (end_from start own)
        ends = ap (end_from start) (sym (own-after q ds es d)) ∙ end_from_snoc start own d

        counts : w.party.steps ≡ suc (length own)
        counts = omega (arith, h.party.steps, ap length (own-after q ds es d), length-append own (d ∷ []))

        pub step_holds : WithStep t' q w.party.node w.party.steps d (both_of (corners_from c ds) (corners_from e es)) slots (settle slots (needs_of c e (first_after q ds d) (second_after q es d))) (end_from (by_party q c e) (by_party q ds es))
        step_holds =
            subst (λ (n : ℕ). WithStep t' q w.party.node n d (both_of (corners_from c ds) (corners_from e es)) slots more (end_from start own)) (sym counts)
            (step_with q known c e ds es d small slots t' w.party.node k.moves.walked.place h.walked (subst (At more w.party.node) ends h.party.here))

        pub step_corner : w.party.at ≡ stepped d (end_from (by_party q c e) (by_party q ds es))
        step_corner = h.party.corner ∙ ends

        pub step_some : SomeStep t' q w.party.node w.party.at w.party.steps d
        step_some = record { both = both_of (corners_from c ds) (corners_from e es); slots = slots; more = more; start = end_from start own; holds = step_holds; end = step_corner }

        module _ (few : p.steps < most_steps) (place : p.steps < length ch) where
          keeps : ChainKeeps start (set ch p.steps d) (by_party q (first_after q ds d) (second_after q es d))
          keeps = subst (ChainKeeps start (set ch p.steps d)) (own-after q ds es d) (keeps_step start ch own k.own p.steps k.moves.party.steps d small few place)

          pub step_bounds : (nat_abs w.party.at.0 < 65536) × (nat_abs w.party.at.1 < 65536) × (w.party.steps < 65537)
          step_bounds =
              let n = keeps_near start (set ch p.steps d) (by_party q (first_after q ds d) (second_after q es d)) keeps w.party.at h.party.corner in
              (n.0, n.1, omega (arith, h.party.steps, keeps.sound.few))

          -- both are as after the step, and this many records changed
          pub step_turned : (x : PairTurn) → x.stride ≡ w → Changes t' (both_of (corners_from c ds) (corners_from e es)) slots x.changed → length t' ≡ length t → length t % pair_width ≡ 0
              → PairActed (length t) c e ds es slots q d t' (set ch p.steps d) (Some x)
          step_turned x i g l whole =
              let R = pair_records_in (length t) in
              let P : List ℕ → List ℕ → Type 0 = λ xs ys. PairKept t' (set ch p.steps d) c e xs ys (settle slots (needs_of c e xs ys)) q x.stride.party x.stride.stock × (length t' ≡ length t) × (x.changed ≡ changes_by pair_width R (pair_table_of (R * pair_width) c e slots ds es) (pair_table_of (R * pair_width) c e (settle slots (needs_of c e xs ys)) xs ys)) in
              subst₂ P (sym (by_step_first q ds d small)) (sym (by_step_second q es d small)) (
                record { moves = subst (λ (v : Stride). Moves t' c e (first_after q ds d) (second_after q es d) more q v.party v.stock) (sym i) h; own = keeps },
                l,
                mark_step c e ds es (first_after q ds d) (second_after q es d) slots more t t' k.moves.walked h.walked (sym l) whole x.changed g,
              )

    -- ---- a take-back
    module _ (some : 0 < p.steps) where
      abbrev l : List ℕ
      l = take (p.steps - 1) ch

      abbrev d : ℕ
      d = get_or ch (p.steps - 1) 0

      abbrev xs : List ℕ
      xs = by_party q l ds

      abbrev ys : List ℕ
      ys = by_party q es l

      split : own ≡ l ++ (d ∷ [])
      split = keeps_split start ch own k.own p.steps k.moves.party.steps some

      pub turn_place : p.steps - 1 < length ch
      turn_place = keeps_place start ch own k.own p.steps k.moves.party.steps some

      pub turn_digit : get_or ch (p.steps - 1) 0 < 4
      turn_digit = keeps_digit start ch own k.own p.steps k.moves.party.steps some

      pub turn_moves : Moves t c e (first_after q (by_party q (take (p.steps - 1) ch) ds) (get_or ch (p.steps - 1) 0)) (second_after q (by_party q es (take (p.steps - 1) ch)) (get_or ch (p.steps - 1) 0)) slots q p s
      turn_moves = subst₂ (λ (f g : List ℕ). Moves t c e f g slots q p s) (with_first ds es l d q split) (with_second ds es l d q split) k.moves

      pub turn_corner : p.at ≡ stepped (get_or ch (p.steps - 1) 0) (end_from (by_party q c e) (by_party q (by_party q (take (p.steps - 1) ch) ds) (by_party q es (take (p.steps - 1) ch))))
      turn_corner = back-corner t c e xs ys slots q p s d turn_moves known turn_digit

      pub turn_holds : WithStep t q p.node p.steps (get_or ch (p.steps - 1) 0) (both_of (corners_from c (by_party q (take (p.steps - 1) ch) ds)) (corners_from e (by_party q es (take (p.steps - 1) ch)))) (settle slots (needs_of c e (by_party q (take (p.steps - 1) ch) ds) (by_party q es (take (p.steps - 1) ch)))) slots (end_from (by_party q c e) (by_party q (by_party q (take (p.steps - 1) ch) ds) (by_party q es (take (p.steps - 1) ch))))
      turn_holds =
          subst (λ (n : ℕ). WithStep t q p.node n d (both_of (corners_from c xs) (corners_from e ys)) (settle slots (needs_of c e xs ys)) slots (end_from start (by_party q xs ys))) (sym (back-steps t c e xs ys slots q p s d turn_moves known turn_digit))
          (back_with q known c e xs ys d turn_digit slots t p.node turn_moves.walked (subst (At slots p.node) (sym k.moves.party.corner ∙ turn_corner) k.moves.party.here))

      pub turn_some : SomeStep t q p.node p.at p.steps (get_or ch (p.steps - 1) 0)
      turn_some = record { both = both_of (corners_from c xs) (corners_from e ys); slots = settle slots (needs_of c e xs ys); more = slots; start = end_from start (by_party q xs ys); holds = turn_holds; end = turn_corner }

      -- both are as before the step, and this many records changed
      pub back-turned : (t' : List ℕ) (x : PairTurn)
          → Moves t' c e (by_party q (take (p.steps - 1) ch) ds) (by_party q es (take (p.steps - 1) ch)) (settle slots (needs_of c e (by_party q (take (p.steps - 1) ch) ds) (by_party q es (take (p.steps - 1) ch)))) q x.stride.party x.stride.stock
          → Changes t (both_of (corners_from c (by_party q (take (p.steps - 1) ch) ds)) (corners_from e (by_party q es (take (p.steps - 1) ch)))) (settle slots (needs_of c e (by_party q (take (p.steps - 1) ch) ds) (by_party q es (take (p.steps - 1) ch)))) x.changed
          → length t' ≡ length t → length t % pair_width ≡ 0 → (o : ℕ) → o ≡ 4 → PairActed (length t) c e ds es slots q o t' ch (Some x)
      back-turned t' x h g i whole o j =
          let R = pair_records_in (length t) in
          let P : List ℕ → List ℕ → Type 0 = λ f g. PairKept t' ch c e f g (settle slots (needs_of c e f g)) q x.stride.party x.stride.stock × (length t' ≡ length t) × (x.changed ≡ changes_by pair_width R (pair_table_of (R * pair_width) c e slots ds es) (pair_table_of (R * pair_width) c e (settle slots (needs_of c e f g)) f g)) in
          subst (λ (n : ℕ). PairActed (length t) c e ds es slots q n t' ch (Some x)) (sym j)
          (subst₂ P (sym (by-back-first ds es l d q split)) (sym (by-back_second ds es l d q split)) (
            record { moves = h; own = subst (ChainKeeps start ch) (own-less ds es l d q) (keeps_back start ch own k.own p.steps k.moves.party.steps some) },
            i,
            mark-back c e ds es xs ys slots (settle slots (needs_of c e xs ys)) t t' k.moves.walked h.walked (sym i) whole x.changed g,
          ))

    -- ---- where it stands
    kept_in : suc p.node * pair_width ≤ length t
    kept_in = omega (arith, at_below slots p.node (end_from start own) k.moves.party.here, k.moves.walked.table.room)

    pub kept_nodes : s.nodes ≡ length (needs_of c e ds es)
    kept_nodes = k.moves.stock.nodes ∙ held_nodes slots (needs_of c e ds es) k.moves.walked.place (union_distinct (corners_from c ds) (corners_from e es))

    pub kept-room : s.nodes * pair_width ≤ length t
    kept-room = omega (arith, k.moves.stock.nodes, held_most slots, k.moves.walked.table.room)

    seen : words_in t p.node (of_party q visits_word) ≡ visits_of (by_party q c e) (by_party q ds es)
    seen = ((k.moves.walked.table.holds.held p.node (end_from start own) k.moves.party.here).own q known).visits ∙ ap (λ (S : State). S.visits (end_from start own)) (own_state q c e ds es)

    -- its mark
    kept-mark : (ms ms' : List ℕ) (i n : ℕ) → ms' ≡ set (set (set ms (mark_words * i) s.nodes) (mark_words * i + 1) (words_in t p.node (of_party q visits_word))) (mark_words * i + 2) n
        → ms' ≡ sets ms (mark_words * i) (length (needs_of c e ds es) ∷ visits_of (by_party q c e) (by_party q ds es) ∷ n ∷ [])
    kept-mark ms ms' i n j =
        let a : mark_words * i + 1 ≡ suc (mark_words * i) = omega arith in
        let b : mark_words * i + 2 ≡ suc (suc (mark_words * i)) = omega arith in
        j
        ∙ ap₂ (λ (f g : ℕ). set (set (set ms (mark_words * i) s.nodes) f (words_in t p.node (of_party q visits_word))) g n) a b
        ∙ ap₂ (λ (f g : ℕ). set (set (set ms (mark_words * i) f) (suc (mark_words * i)) g) (suc (suc (mark_words * i))) n) kept_nodes seen

-- ---- the same with its mark
module _ (words : ℕ) (ms : List ℕ) (i : ℕ) (c e : Corner) (ds es : List ℕ) (slots : List Slot) (q : ℕ) (known : q < 2) (o : ℕ) (t ch : List ℕ) (r : Option PairTurn) (h : PairActed words c e ds es slots q o t ch r) where
  pub performed_full : r ≡ None → (ms' : List ℕ) → PairPerformed words ms i c e ds es slots q o t ms' ch (Err (NoRoom i))
  performed_full j ms' = (refl, subst (PairActed words c e ds es slots q o t ch) j h)

  module _ (x : PairTurn) (j : r ≡ Some x) where
    turned : PairActed words c e ds es slots q o t ch (Some x)
    turned = subst (PairActed words c e ds es slots q o t ch) j h

    pub performed_in : (suc x.stride.party.node * pair_width ≤ length t) × (x.stride.stock.nodes * pair_width ≤ length t)
    performed_in = (
      kept_in t ch c e (first_by q ds o) (second_by q es o) (slots_by c e slots q ds es o) q x.stride.party x.stride.stock turned.0 known,
      kept-room t ch c e (first_by q ds o) (second_by q es o) (slots_by c e slots q ds es o) q x.stride.party x.stride.stock turned.0 known,
    )

    pub performed_to : (ms' : List ℕ) → ms' ≡ set (set (set ms (mark_words * i) x.stride.stock.nodes) (mark_words * i + 1) (words_in t x.stride.party.node (of_party q visits_word))) (mark_words * i + 2) x.changed
        → PairPerformed words ms i c e ds es slots q o t ms' ch (Ok x.stride)
    performed_to ms' m =
        let g = turned in (
          g.0,
          g.1,
          kept-mark t ch c e (first_by q ds o) (second_by q es o) (slots_by c e slots q ds es o) q x.stride.party x.stride.stock g.0 known ms ms' i x.changed m
              ∙ ap (λ (n : ℕ). sets ms (mark_words * i) (length (needs_of c e (first_by q ds o) (second_by q es o)) ∷ visits_of (by_party q c e) (by_party q (first_by q ds o) (second_by q es o)) ∷ n ∷ [])) g.2,
        )
