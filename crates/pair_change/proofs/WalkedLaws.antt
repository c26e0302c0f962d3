-- Between two operations of two parties: the table after a step, and the table before a take-back, have the last step of the party that moves.
-- Assumes nothing.
use mathlib.Core.List.{List, [], ◌∷◌, ◌++◌, map, Memᴰ}
use mathlib.Core.Path.{◌≡◌, ap, ap₂, sym, ◌∙◌, subst}
use Prim.Native.Nat.{ℕ, suc, ◌*◌, ◌%◌, ◌<◌}
use native.Mathlib.Omega.{arith}
use lib.ListN.{length}
use Rattle.grid.specs.declared.Corner.{Corner}
use Rattle.grid.specs.Grid.{stepped, corners_from, end_from}
use Rattle.layout.specs.Marks.{changes_by}
use Rattle.tree_laws.specs.State.{State, state_of, reached, visited_by, walked_by}
use Rattle.tree_laws.proofs.PushLaws.{push_state, push_nodes, finish_node}
use Rattle.table_laws.proofs.StateLaws.{links_small, needs_small}
use Rattle.pair_steps.specs.Parties.{by_party}
use Rattle.pair_table.specs.Slots.{Slot, needs_of, kept_for, settle}
use Rattle.pair_table.specs.Words.{pair_width, pair_records_in, pair_table_of}
use Rattle.pair_laws.specs.Stand.{At, InPlace}
use Rattle.pair_laws.proofs.ChangeLaws.{changes_flip}
use Rattle.pair_laws.proofs.SlotLaws.{freed_at, length_freed, settle_in_place}
use Rattle.pair_table_laws.specs.Hold.{Both, both_of, with_party, SettledIn, PairTable}
use Rattle.pair_table_laws.specs.Alter.{Extends}
use Rattle.pair_table_laws.specs.Undo.{Fewer}
use Rattle.pair_table_laws.specs.Walked.{PairWalked}
use Rattle.pair_table_laws.proofs.DropLaws.{settled_cong}
use Rattle.pair_table_laws.proofs.ExtendLaws.{extends_step, extends_back}
use Rattle.pair_table_laws.proofs.SettleLaws.{alike_table, alike_party}
use Rattle.pair_table_laws.proofs.WalkLaws.{walked-is, walked_settled, place_settled}
use Rattle.pair_move.specs.Moves.{first_after, second_after}
use Rattle.pair_move.proofs.MoveLaws.{own_state, slots-after}
use Rattle.pair_move.proofs.BackLaws.{with_after, with_before, table_cong, left_after}
use Rattle.pair_change.specs.Counts.{WithStep, Changes}

-- party q has walked ds from c, in states B and records slots, and then in direction d, to record r of the records more
module _ (B : Both) (slots more : List Slot) (q : ℕ) (known : q < 2) (c : Corner) (ds : List ℕ) (d : ℕ) (small : d < 4) (is : B q ≡ state_of (corners_from c ds)) (settled : SettledIn slots B) (ext : Extends slots more (stepped d (end_from c ds))) where
  walked_with : (t : List ℕ) (r : ℕ) → At more r (stepped d (end_from c ds)) → PairTable t more (with_party B q (state_of (corners_from c (ds ++ (d ∷ []))))) → WithStep t q r (suc (length ds)) d B slots more (end_from c ds)
  walked_with t r x h =
      let a = end_from c ds in
      let s = suc (length ds) in
      let S' : State = state_of (corners_from c (ds ++ (d ∷ []))) in
      let X : State = walked_by (visited_by (reached (state_of (corners_from c ds)) s a (stepped d a)) (stepped d a) s) a (stepped d a) in
      record {
        party = known;
        dir = small;
        pos = omega arith;
        settled = settled;
        links-less = subst (λ (T : State). (i j : Corner) → T.step i j < s) (sym is) (links_small 0 c ds d);
        needs-less = subst (λ (T : State). (i : Corner) → T.need i < s) (sym is) (needs_small 0 c ds d);
        from = subst (λ (T : State). Memᴰ a T.nodes) (sym is) (finish_node c ds);
        extends = ext;
        here = x;
        after = subst (λ (T : State). PairTable t more (with_party B q (walked_by (visited_by (reached T s a (stepped d a)) (stepped d a) s) a (stepped d a)))) (sym is) (alike_table t more (with_party B q S') (with_party B q X) (alike_party B q S' X (push_state c ds d)) h);
      }

-- the records that are left after a take-back
fewer_settled : (slots : List Slot) (ns : List Corner) → map (kept_for ns) slots ≡ settle slots ns → Fewer (settle slots ns) slots
fewer_settled slots ns e = subst (λ (l : List Slot). Fewer l slots) e (record { long = length_freed ns slots; was = λ i a x. (freed_at ns slots i a x).0 })

-- a step of party q in direction d
module _ (q : ℕ) (known : q < 2) (c e : Corner) (ds es : List ℕ) (d : ℕ) (small : d < 4) (slots : List Slot) (t : List ℕ) (r : ℕ) where
  abbrev start : Corner
  start = by_party q c e

  abbrev chain : List ℕ
  chain = by_party q ds es

  abbrev B : Both
  B = both_of (corners_from c ds) (corners_from e es)

  abbrev B' : Both
  B' = both_of (corners_from c (first_after q ds d)) (corners_from e (second_after q es d))

  abbrev S' : State
  S' = state_of (corners_from start (chain ++ (d ∷ [])))

  -- after it
  pub step_with : InPlace slots (needs_of c e ds es) → PairWalked t c e (first_after q ds d) (second_after q es d) (settle slots (needs_of c e (first_after q ds d) (second_after q es d)))
      → At (settle slots (needs_of c e (first_after q ds d) (second_after q es d))) r (stepped d (end_from (by_party q c e) (by_party q ds es)))
      → WithStep t q r (suc (length (by_party q ds es))) d (both_of (corners_from c ds) (corners_from e es)) slots (settle slots (needs_of c e (first_after q ds d) (second_after q es d))) (end_from (by_party q c e) (by_party q ds es))
  step_with place w x =
      let more = settle slots (needs_of c e (first_after q ds d) (second_after q es d)) in
      walked_with B slots more q known start chain d small (own_state q c e ds es) (place_settled c e ds es slots place)
      (subst (λ (l : List Slot). Extends slots l (stepped d (end_from start chain))) (slots-after q c e ds es slots d place) (extends_step slots (stepped d (end_from start chain)) place.once)) t r x
      (table_cong t more B' (with_party B q S') (with_after q known c e ds es d) w.table)

  -- before it is taken back
  pub back_with : PairWalked t c e (first_after q ds d) (second_after q es d) slots → At slots r (stepped d (end_from (by_party q c e) (by_party q ds es)))
      → WithStep t q r (suc (length (by_party q ds es))) d (both_of (corners_from c ds) (corners_from e es)) (settle slots (needs_of c e ds es)) slots (end_from (by_party q c e) (by_party q ds es))
  back_with w x =
      let S : State = state_of (corners_from start chain) in
      let less = settle slots (needs_of c e ds es) in
      let settled : SettledIn less B = place_settled c e ds es less (settle_in_place slots (needs_of c e ds es) w.place.once) in
      walked_with B less slots q known start chain d small (own_state q c e ds es) settled
      (extends_back less slots B q S S' (stepped d (end_from start chain)) known (fewer_settled slots (needs_of c e ds es) (left_after q c e ds es d slots w.place))
      (settled_cong less B (with_party B q S) (λ i l. sym (with_before q known c e ds es i l)) settled)
      (settled_cong slots B' (with_party B q S') (with_after q known c e ds es d) (walked_settled t c e (first_after q ds d) (second_after q es d) slots w))
      (push_nodes start chain d)) t r x
      (table_cong t slots B' (with_party B q S') (with_after q known c e ds es d) w.table)

-- ---- the third word of a mark, by the tables of the definition: t is the table before an operation, t' the one after it
module _ (c e : Corner) (ds es ds' es' : List ℕ) (slots slots' : List Slot) (t t' : List ℕ) (w : PairWalked t c e ds es slots) (w' : PairWalked t' c e ds' es' slots') (long : length t ≡ length t') (whole : length t % pair_width ≡ 0) where
  tables : changes_by pair_width (pair_records_in (length t)) t t' ≡ changes_by pair_width (pair_records_in (length t)) (pair_table_of (pair_records_in (length t) * pair_width) c e slots ds es) (pair_table_of (pair_records_in (length t) * pair_width) c e slots' ds' es')
  tables =
      let l : length t ≡ pair_records_in (length t) * pair_width = omega arith in
      let l' : length t' ≡ pair_records_in (length t) * pair_width = omega (arith, long) in
      ap₂ (changes_by pair_width (pair_records_in (length t)))
      (walked-is t c e ds es slots w ∙ ap (λ (m : ℕ). pair_table_of m c e slots ds es) l)
      (walked-is t' c e ds' es' slots' w' ∙ ap (λ (m : ℕ). pair_table_of m c e slots' ds' es') l')

  -- of a step, counted in the table after it
  pub mark_step : (r : ℕ) → Changes t' (both_of (corners_from c ds) (corners_from e es)) slots r
      → r ≡ changes_by pair_width (pair_records_in (length t)) (pair_table_of (pair_records_in (length t) * pair_width) c e slots ds es) (pair_table_of (pair_records_in (length t) * pair_width) c e slots' ds' es')
  mark_step r h = h t w.table long ∙ ap (λ (m : ℕ). changes_by pair_width (pair_records_in m) t t') (sym long) ∙ tables

  -- of a take-back, counted in the table before it
  pub mark-back : (r : ℕ) → Changes t (both_of (corners_from c ds') (corners_from e es')) slots' r
      → r ≡ changes_by pair_width (pair_records_in (length t)) (pair_table_of (pair_records_in (length t) * pair_width) c e slots ds es) (pair_table_of (pair_records_in (length t) * pair_width) c e slots' ds' es')
  mark-back r h = h t' w'.table (sym long) ∙ changes_flip pair_width (pair_records_in (length t)) t' t ∙ tables
