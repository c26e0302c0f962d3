-- The last step of one of two parties taken back, from its edge, its visit, its links and its nodes.
-- Assumes nothing.
use mathlib.Core.Bool.{Bool}
use mathlib.Core.List.{List, [], ◌∷◌, ◌++◌, map, Memᴰ}
use mathlib.Core.Logic.{⊎_elim, ◌↔◌}
use mathlib.Core.Path.{◌≡◌, refl, ap, sym, ◌∙◌, subst}
use Prim.Native.Nat.{ℕ, zero, suc, ◌+◌, ◌-◌, ◌*◌, ◌%◌, ◌<◌, ◌≤◌}
use native.Mathlib.Omega.{arith}
use lib.ListN.{length, length-append, length-set, set}
use Rattle.grid.specs.declared.Corner.{Corner}
use Rattle.grid.specs.Grid.{same, stepped, corners_from, end_from, joins}
use Rattle.grid.specs.Tree.{path_of}
use Rattle.layout.specs.Table.{neighbour_word, visits_word, edge_word}
use Rattle.lists.specs.Lists.{count, tally}
use Rattle.tree.specs.Nodes.{nodes_of}
use Rattle.tree_laws.specs.State.{State, Alike, state_of, unlinking}
use Rattle.grid.proofs.CornerLaws.{same_refl, same_sound}
use Rattle.grid.proofs.JoinLaws.{joins_here}
use Rattle.grid.proofs.StepLaws.{back-mod, stepped-back, end_from_snoc}
use Rattle.lists.proofs.GatherLaws.{mem-gather-left}
use Rattle.steps.proofs.SurvivorLaws.{front_snoc}
use Rattle.tree_laws.proofs.PushLaws.{push_nodes, push_visits, push_edges, finish_node}
use Rattle.pair_steps.specs.Parties.{by_party}
use Rattle.pair_table.specs.Slots.{Slot, needs_of, kept_for, settle}
use Rattle.pair_table.specs.Words.{pair_width, pair_word_at}
use Rattle.pair_laws.specs.Stand.{At, InPlace}
use Rattle.pair_laws.proofs.ByteLaws.{back-first, back_second}
use Rattle.pair_laws.proofs.SlotLaws.{settle_keeps}
use Rattle.pair_laws.proofs.UnionLaws.{union_left, union_right, union_cases}
use Rattle.pair_table_laws.specs.Hold.{Both, both_of, with_party, of_party, words_in, SettledIn, PairTable}
use Rattle.pair_table_laws.specs.Stores.{pair_unvisit_in, pair_untread_in}
use Rattle.pair_table_laws.specs.Undo.{Fewer}
use Rattle.pair_table_laws.specs.Walked.{PairWalked}
use Rattle.pair_table_laws.proofs.DropLaws.{settled_cong, fewer_kept}
use Rattle.pair_table_laws.proofs.EndLaws.{unwalked_first, unwalked_second}
use Rattle.pair_table_laws.proofs.FrameLaws.{at_below, set_there, with_this}
use Rattle.pair_table_laws.proofs.SettleLaws.{alike_table, alike_self}
use Rattle.pair_table_laws.proofs.WalkLaws.{walked_settled, back_reads}
use Rattle.pair_child.specs.declared.Stock.{Stock}
use Rattle.pair_child.specs.Finds.{StockIs}
use Rattle.pair_back.specs.Leaves.{PairUnlinks, PairDrops, PairDropped}
use Rattle.pair_back.proofs.BackLaws.{back_unlinks, back_drops}
use Rattle.walk_step.specs.Tallies.{TallyIs}
use Rattle.walk_step.proofs.WalkLaws.{visited_some}
use Rattle.pair_move.specs.declared.Party.{Party}
use Rattle.pair_move.specs.declared.Stride.{Stride}
use Rattle.pair_move.specs.Moves.{first_after, second_after, PartyIs, Moves}
use Rattle.pair_move.proofs.MoveLaws.{own-after}

-- ---- by the party: the states with the step, and without it
pub with_after : (q : ℕ) → q < 2 → (c e : Corner) (ds es : List ℕ) (d i : ℕ) → i < 2
    → both_of (corners_from c (first_after q ds d)) (corners_from e (second_after q es d)) i ≡ with_party (both_of (corners_from c ds) (corners_from e es)) q (state_of (corners_from (by_party q c e) (by_party q ds es ++ (d ∷ [])))) i
with_after zero l c e ds es d zero j = refl
with_after zero l c e ds es d (suc zero) j = refl
with_after zero l c e ds es d (suc (suc i)) j = absurd (omega arith)
with_after (suc zero) l c e ds es d zero j = refl
with_after (suc zero) l c e ds es d (suc zero) j = refl
with_after (suc zero) l c e ds es d (suc (suc i)) j = absurd (omega arith)
with_after (suc (suc q)) l c e ds es d i j = absurd (omega arith)

pub with_before : (q : ℕ) → q < 2 → (c e : Corner) (ds es : List ℕ) (i : ℕ) → i < 2 → with_party (both_of (corners_from c ds) (corners_from e es)) q (state_of (corners_from (by_party q c e) (by_party q ds es))) i ≡ both_of (corners_from c ds) (corners_from e es) i
with_before zero l c e ds es zero j = refl
with_before zero l c e ds es (suc zero) j = refl
with_before zero l c e ds es (suc (suc i)) j = absurd (omega arith)
with_before (suc zero) l c e ds es zero j = refl
with_before (suc zero) l c e ds es (suc zero) j = refl
with_before (suc zero) l c e ds es (suc (suc i)) j = absurd (omega arith)
with_before (suc (suc q)) l c e ds es i j = absurd (omega arith)

pub table_cong : (t : List ℕ) (slots : List Slot) (B D : Both) → ((p : ℕ) → p < 2 → B p ≡ D p) → PairTable t slots B → PairTable t slots D
table_cong t slots B D e h = alike_table t slots B D (λ p l. subst (Alike (B p)) (e p l) (alike_self (B p))) h

either : (c e : Corner) (ds es : List ℕ) (a : Corner) → Memᴰ a (needs_of c e ds es) ↔ ((p : ℕ) × (p < 2) × Memᴰ a (both_of (corners_from c ds) (corners_from e es) p).nodes)
either c e ds es a = (
  λ m. ⊎_elim (λ n. (0, omega arith, n)) (λ n. (1, omega arith, n)) (union_cases (corners_from c ds) (corners_from e es) m),
  λ m. by m.0 m.2,
)
  where
    by : (p : ℕ) → Memᴰ a (both_of (corners_from c ds) (corners_from e es) p).nodes → Memᴰ a (needs_of c e ds es)
    by zero n = union_left (corners_from c ds) (corners_from e es) n
    by (suc p) n = union_right (corners_from c ds) (corners_from e es) n

pub own-needed : (q : ℕ) (c e : Corner) (ds es : List ℕ) → Memᴰ (end_from (by_party q c e) (by_party q ds es)) (needs_of c e ds es)
own-needed zero c e ds es = union_left (corners_from c ds) (corners_from e es) (finish_node c ds)
own-needed (suc q) c e ds es = union_right (corners_from c ds) (corners_from e es) (finish_node e es)

-- the records then are those of the definition
pub left_after : (q : ℕ) (c e : Corner) (ds es : List ℕ) (d : ℕ) (slots : List Slot) → InPlace slots (needs_of c e (first_after q ds d) (second_after q es d)) → map (kept_for (needs_of c e ds es)) slots ≡ settle slots (needs_of c e ds es)
left_after zero c e ds es d slots w = sym (subst (λ (xs : List ℕ). settle slots (needs_of c e xs es) ≡ map (kept_for (needs_of c e xs es)) slots) (front_snoc ds d) (back-first c e slots (ds ++ (d ∷ [])) es w))
left_after (suc q) c e ds es d slots w = sym (subst (λ (ys : List ℕ). settle slots (needs_of c e ds ys) ≡ map (kept_for (needs_of c e ds ys)) slots) (front_snoc es d) (back_second c e slots ds (es ++ (d ∷ [])) w))

unwalked_after : (q : ℕ) (t : List ℕ) (c e : Corner) (ds es : List ℕ) (d : ℕ) (slots now : List Slot) (t' : List ℕ) → Fewer now slots → PairWalked t c e (first_after q ds d) (second_after q es d) slots
    → PairTable t' now (both_of (corners_from c ds) (corners_from e es)) → SettledIn now (both_of (corners_from c ds) (corners_from e es)) → PairWalked t' c e ds es (settle slots (needs_of c e ds es))
unwalked_after zero t c e ds es d slots now t' less w h k = unwalked_first t c e ds es d slots now t' less w h k
unwalked_after (suc q) t c e ds es d slots now t' less w h k = unwalked_second t c e ds es d slots now t' less w h k

module _ (t : List ℕ) (c e : Corner) (ds es : List ℕ) (slots : List Slot) (q : ℕ) (p : Party) (s : Stock) (d : ℕ) (k : Moves t c e (first_after q ds d) (second_after q es d) slots q p s) (known : q < 2) (small : d < 4) where
  abbrev B : Both
  B = both_of (corners_from c ds) (corners_from e es)

  abbrev start : Corner
  start = by_party q c e

  abbrev chain : List ℕ
  chain = by_party q ds es

  abbrev a : Corner
  a = end_from start chain

  abbrev b : Corner
  b = stepped d a

  abbrev S' : State
  S' = state_of (corners_from start (chain ++ (d ∷ [])))

  table : PairTable t slots (with_party B q S')
  table = table_cong t slots (both_of (corners_from c (first_after q ds d)) (corners_from e (second_after q es d))) (with_party B q S') (with_after q known c e ds es d) k.walked.table

  settled : SettledIn slots (with_party B q S')
  settled = settled_cong slots (both_of (corners_from c (first_after q ds d)) (corners_from e (second_after q es d))) (with_party B q S') (with_after q known c e ds es d) (walked_settled t c e (first_after q ds d) (second_after q es d) slots k.walked)

  party : PartyIs slots start (chain ++ (d ∷ [])) p
  party = subst (λ (x : List ℕ). PartyIs slots start x p) (sym (own-after q ds es d)) k.party

  pub back-corner : p.at ≡ stepped d (end_from (by_party q c e) (by_party q ds es))
  back-corner = party.corner ∙ end_from_snoc start chain d

  there : At slots p.node b
  there = subst (At slots p.node) (end_from_snoc start chain d) party.here

  pub back-steps : p.steps ≡ suc (length (by_party q ds es))
  back-steps = omega (arith, party.steps, length-append chain (d ∷ []))

  pub back_in : suc p.node * pair_width ≤ length t
  back_in = omega (arith, at_below slots p.node b there, table.room)

  -- the tally
  pub back_seen : (v : ℕ) → v ≡ words_in t p.node (of_party q visits_word) → v ≡ count (same (stepped d (end_from (by_party q c e) (by_party q ds es)))) (corners_from (by_party q c e) (by_party q ds es)) + 1
  back_seen v i = i ∙ ((table.holds.held p.node b there).own q known).visits ∙ ap (λ (T : State). T.visits b) (with_this B q S') ∙ push_visits start chain d b ∙ ap (λ (x : Bool). count (same b) (corners_from start chain) + tally x) (same_refl b)

  pub back-corners : 0 < p.tally.corners
  back-corners = omega (arith, party.counted.seen, visited_some start (chain ++ (d ∷ [])))

  pub back_counted : TallyIs (by_party q c e) (by_party q ds es ++ (d ∷ [])) p.tally
  back_counted = party.counted

  -- the record from which the step came
  stood : (i : ℕ) × At slots i a
  stood = settled.stands q known a (subst (λ (T : State). Memᴰ a T.nodes) (sym (with_this B q S')) (subst (Memᴰ a) (sym (push_nodes start chain d)) (mem-gather-left same same_sound same_refl (nodes_of (corners_from start chain)) (path_of b) (finish_node start chain))))

  reads : words_in t p.node (neighbour_word ((d + 2) % 4)) ≡ suc stood.0
  reads = ap (λ (x : ℕ). words_in t p.node (neighbour_word x)) (sym (back-mod d small)) ∙ back_reads B slots q known settled.once start chain d small t stood.0 p.node stood.1 there table

  pub back-linked : 0 < words_in t p.node (neighbour_word ((d + 2) % 4))
  back-linked = omega (arith, reads)

  pub back-moved : (x : Corner) → x ≡ stepped ((d + 2) % 4) p.at → x ≡ end_from (by_party q c e) (by_party q ds es)
  back-moved x i = i ∙ ap (stepped ((d + 2) % 4)) back-corner ∙ ap (λ (n : ℕ). stepped n b) (sym (back-mod d small)) ∙ stepped-back d a

  module _ (u : ℕ) (i : u ≡ words_in t p.node (neighbour_word ((d + 2) % 4)) - 1) where
    from : At slots u a
    from = let n : stood.0 ≡ u = omega (arith, i, reads) in subst (λ (x : ℕ). At slots x a) n stood.1

    -- what the edge asks
    pub back_treads : (suc u * pair_width ≤ length t) × (0 < words_in t u (of_party q (edge_word d)))
    back_treads =
        let w : words_in t u (of_party q (edge_word d)) ≡ S'.edges a b = ((table.holds.held u a from).own q known).edge d small ∙ ap (λ (T : State). T.edges a b) (with_this B q S') in
        let y : tally (joins a b (a, b)) ≡ 1 = ap tally (joins_here a b) in
        (omega (arith, at_below slots u a from, table.room), omega (arith, w, push_edges start chain d a b, y))

    -- what the visit asks
    pub back_visits : (t₁ : List ℕ) → t₁ ≡ pair_untread_in q t u p.node d → (suc p.node * pair_width ≤ length t₁) × (0 < words_in t₁ p.node (of_party q visits_word))
    back_visits t₁ j =
        let x = words_in t u (of_party q (edge_word d)) - 1 in
        let y = set t (pair_word_at u (of_party q (edge_word d))) x in
        let f = of_party q (edge_word ((d + 2) % 4)) in
        let w : words_in (pair_untread_in q t u p.node d) p.node (of_party q visits_word) ≡ words_in t p.node (of_party q visits_word) = set_there y p.node f x (omega arith) p.node (of_party q visits_word) (omega arith) (λ g h. omega arith) ∙ set_there t u (of_party q (edge_word d)) x (omega arith) p.node (of_party q visits_word) (omega arith) (λ g h. omega arith) in
        let l : length t₁ ≡ length t = ap length j ∙ length-set y (pair_word_at p.node f) x ∙ length-set t (pair_word_at u (of_party q (edge_word d))) x in
        (omega (arith, l, back_in), omega (arith, ap (λ (z : List ℕ). words_in z p.node (of_party q visits_word)) j, w, back_seen (words_in t p.node (of_party q visits_word)) refl))

    -- the links
    pub back_clears : (t₂ : List ℕ) → t₂ ≡ pair_unvisit_in q (pair_untread_in q t u p.node d) p.node → (x : Corner) → x ≡ end_from (by_party q c e) (by_party q ds es)
        → PairUnlinks t₂ q u x d p.steps (both_of (corners_from c ds) (corners_from e es)) slots (state_of (corners_from (by_party q c e) (by_party q ds es))) (stepped d (end_from (by_party q c e) (by_party q ds es)))
    back_clears t₂ j x o =
        subst (λ (n : ℕ). PairUnlinks t₂ q u x d n B slots (state_of (corners_from start chain)) b) (sym back-steps)
        (subst (λ (y : Corner). PairUnlinks t₂ q u y d (suc (length chain)) B slots (state_of (corners_from start chain)) b) (sym o)
        (subst (λ (l : List ℕ). PairUnlinks l q u a d (suc (length chain)) B slots (state_of (corners_from start chain)) b) (sym j)
        (back_unlinks B slots q known start chain d small settled t u p.node from there table)))

    -- the nodes
    pub back_leaves : (t₃ : List ℕ) → PairTable t₃ slots (with_party (both_of (corners_from c ds) (corners_from e es)) q (unlinking (state_of (corners_from (by_party q c e) (by_party q ds es))) p.steps (stepped d (end_from (by_party q c e) (by_party q ds es))) (state_of (corners_from (by_party q c e) (by_party q ds es))).step))
        → PairDrops t₃ q s p.node p.at p.steps (both_of (corners_from c ds) (corners_from e es)) slots (state_of (corners_from (by_party q c e) (by_party q ds es)))
    back_leaves t₃ h =
        let S = state_of (corners_from start chain) in
        subst (λ (n : ℕ). PairDrops t₃ q s p.node p.at n B slots S) (sym back-steps)
        (subst (λ (y : Corner). PairDrops t₃ q s p.node y (suc (length chain)) B slots S) (sym back-corner)
        (back_drops B slots q known start chain d small settled t u p.node from there table s k.walked.top k.stock t₃ (subst (λ (n : ℕ). PairTable t₃ slots (with_party B q (unlinking S n b S.step))) back-steps h)))

    -- and the party where it was
    pub back_to : (t₄ : List ℕ) (w : Stride) → PairDropped (both_of (corners_from c ds) (corners_from e es)) slots q (state_of (corners_from (by_party q c e) (by_party q ds es))) t₄ w.stock
        → w.party.node ≡ u → w.party.at ≡ end_from (by_party q c e) (by_party q ds es) → w.party.steps ≡ p.steps - 1 → TallyIs (by_party q c e) (by_party q ds es) w.party.tally
        → Moves t₄ c e ds es (settle slots (needs_of c e ds es)) q w.party w.stock
    back_to t₄ w h x y z m =
        let S = state_of (corners_from start chain) in
        let g = table_cong t₄ h.left (with_party B q S) B (with_before q known c e ds es) h.table in
        let o = settled_cong h.left (with_party B q S) B (with_before q known c e ds es) h.settled in
        let l = fewer_kept h.left slots B (needs_of c e ds es) h.less settled.once o (either c e ds es) ∙ left_after q c e ds es d slots k.walked.place in
        record {
          walked = unwalked_after q t c e ds es d slots h.left t₄ h.less k.walked g o;
          party = record {
            here = subst (λ (n : ℕ). At (settle slots (needs_of c e ds es)) n a) (sym x) (settle_keeps slots (needs_of c e ds es) u a from (own-needed q c e ds es));
            corner = y;
            steps = omega (arith, z, back-steps);
            counted = m;
          };
          stock = subst (StockIs w.stock) l h.stock;
        }
