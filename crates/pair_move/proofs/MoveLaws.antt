-- A step of one of two parties, from its lookup, its visit and its edge.
-- Assumes nothing.
use Rattle.std.specs.Prelude.{None, Some}
use mathlib.Core.Bool.{Bool, true}
use mathlib.Core.List.{List, [], ◌∷◌, ◌++◌, Memᴰ}
use mathlib.Core.Path.{◌≡◌, refl, ap, sym, ◌∙◌, subst}
use Prim.Native.Nat.{ℕ, zero, suc, ◌+◌, ◌*◌, ◌<◌, ◌≤◌}
use native.Mathlib.Omega.{arith}
use lib.ListN.{length, length-append}
use Rattle.answer.specs.Limits.{no_meeting}
use Rattle.grid.specs.declared.Corner.{Corner}
use Rattle.grid.specs.Grid.{same, stepped, corners_from, end_from}
use Rattle.grid.specs.Tree.{path_of}
use Rattle.layout.specs.Table.{visits_word, first_word, edge_word}
use Rattle.lists.specs.Lists.{find, count, tally}
use Rattle.tree_laws.specs.State.{later, State, Sound, state_of, reached, visited_by}
use Rattle.grid.proofs.CornerLaws.{same_refl}
use Rattle.grid.proofs.StepLaws.{end_from_snoc}
use Rattle.tree_laws.proofs.PushLaws.{push_visits, push_first, visits_bound, edges_bound, finish_node, sound_walk}
use Rattle.table_laws.proofs.StateLaws.{sound_reached}
use Rattle.pair_steps.specs.Parties.{by_party}
use Rattle.pair_table.specs.Slots.{Slot, needs_of, placed_all, settle}
use Rattle.pair_table.specs.Words.{pair_width, pair_records_in}
use Rattle.pair_laws.specs.Stand.{At, InPlace}
use Rattle.pair_laws.proofs.ByteLaws.{step_first, step_second}
use Rattle.pair_laws.proofs.SlotLaws.{all_keeps, all_once, settle_keeps}
use Rattle.pair_table_laws.specs.Hold.{Both, both_of, with_party, of_party, words_in, PairTable}
use Rattle.pair_table_laws.specs.Stores.{pair_visit_in, pair_tread_in}
use Rattle.pair_table_laws.specs.Look.{Look, NoRoomFor}
use Rattle.pair_table_laws.specs.Walked.{PairWalked}
use Rattle.pair_table_laws.proofs.EndLaws.{walked-first, walked_second, full_first, full_second}
use Rattle.pair_table_laws.proofs.FrameLaws.{at_below, with_this}
use Rattle.pair_table_laws.proofs.OwnLaws.{visit_holds}
use Rattle.pair_table_laws.proofs.RefLaws.{ref_at}
use Rattle.pair_table_laws.proofs.WalkLaws.{walked_settled, step_holds}
use Rattle.pair_child.specs.declared.Stock.{Stock}
use Rattle.pair_child.specs.declared.Located.{Located}
use Rattle.pair_child.specs.Finds.{StockIs, Finds}
use Rattle.pair_lookup.specs.Climbs.{Looks}
use Rattle.walk_step.specs.Tallies.{TallyIs}
use Rattle.walk_step.proofs.WalkLaws.{visited_few}
use Rattle.pair_move.specs.declared.Party.{Party}
use Rattle.pair_move.specs.declared.Stride.{Stride}
use Rattle.pair_move.specs.Moves.{first_after, second_after, fresh_party, PartyIs, Moves, StepCounted, Arrives, PairAdvanced}

-- a party with no step
pub party_new : (slots : List Slot) (c : Corner) (node : ℕ) → At slots node c → PartyIs slots c [] (fresh_party c node)
party_new slots c node x = record { here = x; corner = refl; steps = refl; counted = record { seen = refl; met = (refl, refl) } }

length_snoc : (ds : List ℕ) (d : ℕ) → length (ds ++ (d ∷ [])) ≡ suc (length ds)
length_snoc ds d = omega (arith, length-append ds (d ∷ []))

-- ---- it arrives
module _ (t : List ℕ) (slots : List Slot) (C : Both) (q : ℕ) (c : Corner) (ds : List ℕ) (p : Party) (v d n : ℕ) (k : Arrives t slots C q c ds p v d n) (known : q < 2) (small : d < 4) where
  abbrev S : State
  S = state_of (corners_from c ds)

  abbrev s : ℕ
  s = suc (length ds)

  abbrev a : Corner
  a = end_from c ds

  abbrev e : Corner
  e = stepped d a

  abbrev R : State
  R = reached S s a e

  abbrev all : List Slot
  all = placed_all slots (path_of e)

  from : At all p.node a
  from = all_keeps slots (path_of e) p.node a k.party.here

  to : At all v e
  to = ref_at all v e k.look.ref

  pub arrive_in : suc v * pair_width ≤ length t
  arrive_in = omega (arith, at_below all v e to, k.look.table.room)

  -- what the visit asks
  pub arrive_visits : words_in t v (of_party q visits_word) ≤ n
  arrive_visits =
      let w : words_in t v (of_party q visits_word) ≡ S.visits e = ((k.look.table.holds.held v e to).own q known).visits ∙ ap (λ (T : State). T.visits e) (with_this C q R) in
      omega (arith, w, visits_bound c ds e, k.number)

  -- what the edge asks
  module _ (t₁ : List ℕ) (i : t₁ ≡ pair_visit_in q t v n) where
    visited : PairTable t₁ all (with_party (with_party C q R) q (visited_by R e s))
    visited =
        subst (λ (l : List ℕ). PairTable l all (with_party (with_party C q R) q (visited_by R e s))) (ap (pair_visit_in q t v) (sym k.number) ∙ sym i)
        (subst (λ (T : State). PairTable (pair_visit_in q t v s) all (with_party (with_party C q R) q (visited_by T e s))) (with_this C q R)
        (visit_holds t all (with_party C q R) q s v e known (all_once slots (path_of e) k.once) to k.look.table (subst Sound (sym (with_this C q R)) (sound_reached S (sound_walk c ds) s e a (finish_node c ds)))))

    pub arrive_treads : (suc p.node * pair_width ≤ length t₁) × (suc v * pair_width ≤ length t₁) × (words_in t₁ p.node (of_party q (edge_word d)) < n)
    arrive_treads =
        let w : words_in t₁ p.node (of_party q (edge_word d)) ≡ S.edges a e = ((visited.holds.held p.node a from).own q known).edge d small ∙ ap (λ (T : State). T.edges a e) (with_this (with_party C q R) q (visited_by R e s)) in (
          omega (arith, at_below all p.node a from, visited.room),
          omega (arith, at_below all v e to, visited.room),
          omega (arith, w, edges_bound c ds a e, k.number),
        )

  -- what is read then
  module _ (t₂ : List ℕ) (i : t₂ ≡ pair_tread_in q (pair_visit_in q t v n) p.node v d) where
    abbrev S' : State
    S' = state_of (corners_from c (ds ++ (d ∷ [])))

    stepped_on : PairTable t₂ all (with_party C q S')
    stepped_on =
        subst (λ (l : List ℕ). PairTable l all (with_party C q S')) (ap (λ (m : ℕ). pair_tread_in q (pair_visit_in q t v m) p.node v d) (sym k.number) ∙ sym i)
        (step_holds C slots q known k.once c ds d small t p.node v k.party.here k.look)

    pub arrive_bound : suc v * pair_width ≤ length t₂
    arrive_bound = omega (arith, at_below all v e to, stepped_on.room)

    pub arrive_counted : (m f : ℕ) → m ≡ words_in t₂ v (of_party q visits_word) → f ≡ words_in t₂ v (of_party q first_word) → StepCounted c ds d m f n
    arrive_counted m f x y = record {
      seen = x ∙ ((stepped_on.holds.held v e to).own q known).visits ∙ ap (λ (T : State). T.visits e) (with_this C q S') ∙ push_visits c ds d e ∙ ap (λ (b : Bool). count (same e) (corners_from c ds) + tally b) (same_refl e);
      found = y ∙ ((stepped_on.holds.held v e to).own q known).first ∙ ap (λ (T : State). T.first e) (with_this C q S') ∙ push_first c ds d e ∙ ap (λ (b : Bool). later (find (same e) (corners_from c ds)) b (suc (suc (length ds)))) (same_refl e);
      number = k.number;
    }

  pub arrive_corners : n < no_meeting → p.tally.corners < 65536
  arrive_corners l = omega (arith, k.party.counted.seen, visited_few c ds, k.number)

  pub arrive_party : (r : Party) → r.node ≡ v → r.at ≡ stepped d p.at → r.steps ≡ n → TallyIs c (ds ++ (d ∷ [])) r.tally → PartyIs (placed_all slots (path_of (stepped d (end_from c ds)))) c (ds ++ (d ∷ [])) r
  arrive_party r x y z h = record {
    here = subst (λ (l : ℕ). At all l (end_from c (ds ++ (d ∷ [])))) (sym x) (subst (At all v) (sym (end_from_snoc c ds d)) to);
    corner = y ∙ ap (stepped d) k.party.corner ∙ sym (end_from_snoc c ds d);
    steps = z ∙ k.number ∙ sym (length_snoc ds d);
    counted = h;
  }

-- the first visit has a number
pub first_some : (c : Corner) (ds : List ℕ) (d m f n : ℕ) → StepCounted c ds d m f n → 0 < f
first_some c ds d m f n k = go (find (same (stepped d (end_from c ds))) (corners_from c ds)) k.found
  where
    go : (x : ℕ) → f ≡ later x true (suc (suc (length ds))) → 0 < f
    go zero q = omega arith
    go (suc x) q = omega arith

-- ---- by the party
pub own_state : (q : ℕ) (c e : Corner) (ds es : List ℕ) → both_of (corners_from c ds) (corners_from e es) q ≡ state_of (corners_from (by_party q c e) (by_party q ds es))
own_state zero c e ds es = refl
own_state (suc q) c e ds es = refl

pub own-after : (q : ℕ) (ds es : List ℕ) (d : ℕ) → by_party q ds es ++ (d ∷ []) ≡ by_party q (first_after q ds d) (second_after q es d)
own-after zero ds es d = refl
own-after (suc q) ds es d = refl

pub slots-after : (q : ℕ) (c e : Corner) (ds es : List ℕ) (slots : List Slot) (d : ℕ) → InPlace slots (needs_of c e ds es)
    → placed_all slots (path_of (stepped d (end_from (by_party q c e) (by_party q ds es)))) ≡ settle slots (needs_of c e (first_after q ds d) (second_after q es d))
slots-after zero c e ds es slots d place = ap (λ (z : Corner). placed_all slots (path_of z)) (sym (end_from_snoc c ds d)) ∙ sym (step_first c e slots ds es d place)
slots-after (suc q) c e ds es slots d place = ap (λ (z : Corner). placed_all slots (path_of z)) (sym (end_from_snoc e es d)) ∙ sym (step_second c e slots ds es d place)

walked-after : (q : ℕ) → q < 2 → (t : List ℕ) (c e : Corner) (ds es : List ℕ) (slots : List Slot) → PairWalked t c e ds es slots → (d : ℕ) → d < 4 → (t₁ : List ℕ) (u r : ℕ)
    → At slots u (end_from (by_party q c e) (by_party q ds es))
    → Look (both_of (corners_from c ds) (corners_from e es)) slots q (reached (state_of (corners_from (by_party q c e) (by_party q ds es))) (suc (length (by_party q ds es))) (end_from (by_party q c e) (by_party q ds es)) (stepped d (end_from (by_party q c e) (by_party q ds es)))) (stepped d (end_from (by_party q c e) (by_party q ds es))) t₁ (suc r)
    → PairWalked (pair_tread_in q (pair_visit_in q t₁ r (suc (length (by_party q ds es)))) u r d) c e (first_after q ds d) (second_after q es d) (settle slots (needs_of c e (first_after q ds d) (second_after q es d)))
walked-after zero l t c e ds es slots w d small t₁ u r x h = walked-first t c e ds es slots w d small t₁ u r x h
walked-after (suc zero) l t c e ds es slots w d small t₁ u r x h = walked_second t c e ds es slots w d small t₁ u r x h
walked-after (suc (suc q)) l t c e ds es slots w d small t₁ u r x h = absurd (omega arith)

full_after : (q : ℕ) (t : List ℕ) (c e : Corner) (ds es : List ℕ) (slots : List Slot) → PairWalked t c e ds es slots → (d : ℕ) → d < 4 → NoRoomFor slots (stepped d (end_from (by_party q c e) (by_party q ds es))) t
    → pair_records_in (length t) < length (needs_of c e (first_after q ds d) (second_after q es d))
full_after zero t c e ds es slots w d small f = full_first t c e ds es slots w d small t 0 0 f
full_after (suc q) t c e ds es slots w d small f = full_second t c e ds es slots w d small t 0 0 f

-- ---- a step
module _ (t : List ℕ) (c e : Corner) (ds es : List ℕ) (slots : List Slot) (q : ℕ) (p : Party) (stock : Stock) (k : Moves t c e ds es slots q p stock) (known : q < 2) where
  abbrev B : Both
  B = both_of (corners_from c ds) (corners_from e es)

  abbrev start : Corner
  start = by_party q c e

  abbrev chain : List ℕ
  chain = by_party q ds es

  pub moves_looks : Looks t slots (both_of (corners_from c ds) (corners_from e es)) q p.node p.at stock
  moves_looks = record {
    stands = record {
      table = k.walked.table;
      settled = walked_settled t c e ds es slots k.walked;
      here = subst (At slots p.node) (sym k.party.corner) k.party.here;
      needed = subst (λ (x : Corner). Memᴰ x (B q).nodes) (sym k.party.corner) (subst (λ (T : State). Memᴰ (end_from start chain) T.nodes) (sym (own_state q c e ds es)) (finish_node start chain));
    };
    top = k.walked.top;
    stock = k.stock;
  }

  -- what the lookup answers
  module _ (d : ℕ) (small : d < 4) (n : ℕ) (i : n ≡ p.steps + 1) (t₁ : List ℕ) where
    number : n ≡ suc (length chain)
    number = omega (arith, i, k.party.steps)

    pub moves_full : Finds (both_of (corners_from c ds) (corners_from e es)) slots q (reached (both_of (corners_from c ds) (corners_from e es) q) n p.at (stepped d p.at)) (stepped d p.at) t t₁ None → (t' : List ℕ) → PairAdvanced t c e ds es slots q d t' None
    moves_full f t' = full_after q t c e ds es slots k.walked d small (subst (λ (x : Corner). NoRoomFor slots (stepped d x) t) k.party.corner f)

    module _ (v : Located) (f : Finds (both_of (corners_from c ds) (corners_from e es)) slots q (reached (both_of (corners_from c ds) (corners_from e es) q) n p.at (stepped d p.at)) (stepped d p.at) t t₁ (Some v)) where
      look : Look B slots q (reached (state_of (corners_from start chain)) (suc (length chain)) (end_from start chain) (stepped d (end_from start chain))) (stepped d (end_from start chain)) t₁ (suc v.node)
      look =
          subst (λ (T : State). Look B slots q (reached T (suc (length chain)) (end_from start chain) (stepped d (end_from start chain))) (stepped d (end_from start chain)) t₁ (suc v.node)) (own_state q c e ds es)
          (subst (λ (x : Corner). Look B slots q (reached (B q) (suc (length chain)) x (stepped d x)) (stepped d x) t₁ (suc v.node)) k.party.corner
          (subst (λ (m : ℕ). Look B slots q (reached (B q) m p.at (stepped d p.at)) (stepped d p.at) t₁ (suc v.node)) number f.0))

      pub moves_arrives : Arrives t₁ slots (both_of (corners_from c ds) (corners_from e es)) q (by_party q c e) (by_party q ds es) p v.node d n
      moves_arrives = record { once = k.walked.place.once; party = k.party; look = look; number = number }

      pub moves-to : (t₂ : List ℕ) → t₂ ≡ pair_tread_in q (pair_visit_in q t₁ v.node n) p.node v.node d → (w : Stride)
          → PartyIs (placed_all slots (path_of (stepped d (end_from (by_party q c e) (by_party q ds es))))) (by_party q c e) (by_party q ds es ++ (d ∷ [])) w.party → w.stock ≡ v.stock → PairAdvanced t c e ds es slots q d t₂ (Some w)
      moves-to t₂ j w h o =
          let now = settle slots (needs_of c e (first_after q ds d) (second_after q es d)) in
          let l = slots-after q c e ds es slots d k.walked.place in
          record {
            walked = subst (λ (x : List ℕ). PairWalked x c e (first_after q ds d) (second_after q es d) now) (ap (λ (m : ℕ). pair_tread_in q (pair_visit_in q t₁ v.node m) p.node v.node d) (sym number) ∙ sym j)
                (walked-after q known t c e ds es slots k.walked d small t₁ p.node v.node k.party.here look);
            party = subst (λ (x : List ℕ). PartyIs now start x w.party) (own-after q ds es d) (subst (λ (x : List Slot). PartyIs x start (chain ++ (d ∷ [])) w.party) l h);
            stock = subst (λ (x : Stock). StockIs x now) (sym o) (subst (StockIs v.stock) (ap (λ (x : Corner). placed_all slots (path_of (stepped d x))) k.party.corner ∙ l) f.1);
          }

-- ---- the other party stays where it is: its node is needed after a step and after a take-back
pub party_stays : (slots : List Slot) (c : Corner) (ds : List ℕ) (p : Party) (ns : List Corner) → PartyIs slots c ds p → Memᴰ (end_from c ds) ns → PartyIs (settle slots ns) c ds p
party_stays slots c ds p ns k m = record { here = settle_keeps slots ns p.node (end_from c ds) k.here m; corner = k.corner; steps = k.steps; counted = k.counted }
