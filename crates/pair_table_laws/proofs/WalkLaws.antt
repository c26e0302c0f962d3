-- A step and a take-back of one party, end to end, in a table that two share.
-- Assumes nothing.
use mathlib.Core.List.{List, [], ◌∷◌, ◌++◌, Memᴰ}
use mathlib.Core.Logic.{⊎_elim}
use mathlib.Core.Path.{◌≡◌, ap, sym, ◌∙◌, subst}
use Prim.Native.Nat.{ℕ, zero, suc, ◌+◌, ◌-◌, ◌<◌}
use native.Mathlib.Omega.{arith}
use lib.ListN.{length}
use Rattle.grid.specs.declared.Corner.{Corner}
use Rattle.grid.specs.Grid.{stepped, corners_from, end_from, back}
use Rattle.grid.specs.Tree.{path_of}
use Rattle.layout.specs.Table.{neighbour_word}
use Rattle.tree_laws.specs.State.{State, Sound, state_of, linked, reached, visited_by, walked_by, unlinking}
use Rattle.grid.proofs.StepLaws.{back_small, stepped-back}
use Rattle.tree_laws.proofs.PopLaws.{unlink_start}
use Rattle.tree_laws.proofs.PushLaws.{push_state, push_nodes, sound_walk, finish_node, step_bound}
use Rattle.table_laws.proofs.StateLaws.{sound_reached, sound_dropping, step_back}
use Rattle.pair_table.specs.Slots.{Slot, needs_of, placed_all, ref_in}
use Rattle.pair_table.specs.Words.{pair_table_of}
use Rattle.pair_laws.specs.Stand.{At, HeldOnce, InPlace}
use Rattle.pair_laws.proofs.SlotLaws.{all_keeps, all_once}
use Rattle.pair_laws.proofs.UnionLaws.{union_left, union_right, union_cases}
use Rattle.pair_table_laws.specs.Hold.{Both, both_of, with_party, joint_step, ref_if, words_in, SettledIn, PairTable}
use Rattle.pair_table_laws.specs.Stores.{pair_visit_in, pair_unvisit_in, pair_tread_in, pair_untread_in}
use Rattle.pair_table_laws.specs.Look.{Look}
use Rattle.pair_table_laws.specs.Undo.{PairUnlinkAt, PairDropAt}
use Rattle.pair_table_laws.specs.Walked.{PairWalked}
use Rattle.pair_table_laws.proofs.FrameLaws.{with_this}
use Rattle.pair_table_laws.proofs.HoldLaws.{holds_table}
use Rattle.pair_table_laws.proofs.OwnLaws.{visit_holds, unvisit_holds, tread_holds, untread_holds}
use Rattle.pair_table_laws.proofs.RefLaws.{ref_at, at_ref}
use Rattle.pair_table_laws.proofs.LinkLaws.{ref_pos, joint_put}
use Rattle.pair_table_laws.proofs.SettleLaws.{alike_table, alike_sym, alike_party, alike_twice, settled_same}
use Rattle.pair_table_laws.proofs.DropLaws.{settled_cong, with_twice}

-- ---- between two operations
-- the states of two walks whose nodes are in place are settled
pub place_settled : (c e : Corner) (ds es : List ℕ) (slots : List Slot) → InPlace slots (needs_of c e ds es) → SettledIn slots (both_of (corners_from c ds) (corners_from e es))
place_settled c e ds es slots place = record {
  sound = sounds;
  once = place.once;
  stands = there;
  only = λ a i x. ⊎_elim (λ m. (0, omega arith, m)) (λ m. (1, omega arith, m)) (union_cases (corners_from c ds) (corners_from e es) (place.only a i x));
}
  where
    sounds : (q : ℕ) → q < 2 → Sound (both_of (corners_from c ds) (corners_from e es) q)
    sounds zero l = sound_walk c ds
    sounds (suc q) l = sound_walk e es

    there : (q : ℕ) → q < 2 → (a : Corner) → Memᴰ a (both_of (corners_from c ds) (corners_from e es) q).nodes → (i : ℕ) × At slots i a
    there zero l a m = place.stands a (union_left (corners_from c ds) (corners_from e es) m)
    there (suc q) l a m = place.stands a (union_right (corners_from c ds) (corners_from e es) m)

module _ (t : List ℕ) (c e : Corner) (ds es : List ℕ) (slots : List Slot) (w : PairWalked t c e ds es slots) where
  -- the table is that of the definition
  pub walked-is : t ≡ pair_table_of (length t) c e slots ds es
  walked-is = holds_table t slots (corners_from c ds) (corners_from e es) w.table

  pub walked_settled : SettledIn slots (both_of (corners_from c ds) (corners_from e es))
  walked_settled = place_settled c e ds es slots w.place

-- ---- a step in direction d of party q, which has walked ds from c
module _ (C : Both) (slots : List Slot) (q : ℕ) (known : q < 2) (once : HeldOnce slots) (c : Corner) (ds : List ℕ) (d : ℕ) (small : d < 4) where
  abbrev S : State
  S = state_of (corners_from c ds)

  abbrev s : ℕ
  s = suc (length ds)

  abbrev a : Corner
  a = end_from c ds

  abbrev e : Corner
  e = stepped d a

  abbrev R : State
  R = reached S s a e

  abbrev W : State
  W = visited_by R e s

  abbrev X : State
  X = walked_by W a e

  abbrev S' : State
  S' = state_of (corners_from c (ds ++ (d ∷ [])))

  sound_R : Sound R
  sound_R = sound_reached S (sound_walk c ds) s e a (finish_node c ds)

  paired : (i j : Corner) → S.edges i j ≡ S.edges j i
  paired = (sound_walk c ds).paired

  -- the lookup, the visit and the edge
  pub step_holds : (t : List ℕ) (u r : ℕ) → At slots u (end_from c ds) → Look C slots q (reached (state_of (corners_from c ds)) (suc (length ds)) (end_from c ds) (stepped d (end_from c ds))) (stepped d (end_from c ds)) t (suc r)
      → PairTable (pair_tread_in q (pair_visit_in q t r (suc (length ds))) u r d) (placed_all slots (path_of (stepped d (end_from c ds)))) (with_party C q (state_of (corners_from c (ds ++ (d ∷ [])))))
  step_holds t u r x h =
      let all = placed_all slots (path_of e) in
      let o = all_once slots (path_of e) once in
      let y = ref_at all r e h.ref in
      let t₁ = pair_visit_in q t r s in
      let t₂ = pair_tread_in q t₁ u r d in
      let v : PairTable t₁ all (with_party (with_party C q R) q W) = subst (λ (T : State). PairTable t₁ all (with_party (with_party C q R) q (visited_by T e s))) (with_this C q R) (visit_holds t all (with_party C q R) q s r e known o y h.table (subst Sound (sym (with_this C q R)) sound_R)) in
      let v' : PairTable t₁ all (with_party C q W) = alike_table t₁ all (with_party (with_party C q R) q W) (with_party C q W) (alike_twice C q R W) v in
      let w : PairTable t₂ all (with_party (with_party C q W) q X) = subst (λ (T : State). PairTable t₂ all (with_party (with_party C q W) q (walked_by T a e))) (with_this C q W) (tread_holds t₁ all (with_party C q W) q d u r a known small o (all_keeps slots (path_of e) u a x) y v' (subst (λ (T : State). (i j : Corner) → T.edges i j ≡ T.edges j i) (sym (with_this C q W)) paired)) in
      alike_table t₂ all (with_party C q X) (with_party C q S') (alike_party C q X S' (alike_sym S' X (push_state c ds d)))
      (alike_table t₂ all (with_party (with_party C q W) q X) (with_party C q X) (alike_twice C q W X) w)

  -- ---- and back: from record r of the corner stood on
  module _ (t : List ℕ) (u r : ℕ) (x : At slots u (end_from c ds)) (y : At slots r (stepped d (end_from c ds))) (h : PairTable t slots (with_party C q (state_of (corners_from c (ds ++ (d ∷ [])))))) where
    at-X : PairTable t slots (with_party C q X)
    at-X = alike_table t slots (with_party C q S') (with_party C q X) (alike_party C q S' X (push_state c ds d)) h

    -- the record from which the step came is read
    pub back_reads : words_in t r (neighbour_word (back d)) ≡ suc u
    back_reads =
        (at-X.holds.held r e y).neighbour (back d) (back_small d)
        ∙ ap (λ (z : Corner). ref_if (joint_step (with_party C q X) e z) (ref_in slots z)) (stepped-back d a)
        ∙ joint_put C q X e a (ref_in slots a) known
        ∙ ref_pos (linked S.step s a e e a + (C (1 - q)).step e a) (ref_in slots a) (omega (arith, step_back 0 c ds d))
        ∙ at_ref slots once u a x

    -- the edge and the visit taken back: the links are next
    pub back_starts : PairUnlinkAt C slots q (state_of (corners_from c ds)) (suc (length ds)) (stepped d (end_from c ds)) d (pair_unvisit_in q (pair_untread_in q t u r d) r) u
    back_starts =
        let t₁ = pair_untread_in q t u r d in
        let t₂ = pair_unvisit_in q t₁ r in
        let v : PairTable t₁ slots (with_party (with_party C q X) q W) = untread_holds t slots (with_party C q X) q d u r a known small once x y at-X W paired (with_this C q X) in
        let v' : PairTable t₁ slots (with_party C q W) = alike_table t₁ slots (with_party (with_party C q X) q W) (with_party C q W) (alike_twice C q X W) v in
        let w : PairTable t₂ slots (with_party (with_party C q W) q R) = unvisit_holds t₁ slots (with_party C q W) q s r e known once y v' R sound_R (with_this C q W) in
        record {
          at = a;
          links = linked S.step s a e;
          table = alike_table t₂ slots (with_party (with_party C q W) q R) (with_party C q R) (alike_twice C q W R) w;
          here = x;
          inv = unlink_start S.nodes S.step (sound_walk c ds).good s (λ i j. omega (arith, step_bound c ds i j)) d a;
        }

    -- the links cleared: the nodes are next
    pub drop_starts : SettledIn slots (with_party C q (state_of (corners_from c (ds ++ (d ∷ []))))) → (t' : List ℕ) → PairTable t' slots (with_party C q (unlinking (state_of (corners_from c ds)) (suc (length ds)) (stepped d (end_from c ds)) (state_of (corners_from c ds)).step))
        → PairDropAt C slots q (state_of (corners_from c ds)) (suc (length ds)) t' r (stepped d (end_from c ds))
    drop_starts settled t' k =
        let U : State = unlinking S s e S.step in
        record {
          table = k;
          settled =
              settled_cong slots (with_party (with_party C q S') q U) (with_party C q U) (λ p l. with_twice C q S' U p)
              (settled_same slots (with_party C q S') q U known settled (sound_dropping S (sound_walk c ds) s e) (sym (ap (λ (T : State). T.nodes) (with_this C q S') ∙ push_nodes c ds d)));
          here = y;
        }
