-- A take-back of one party meets what its two loops ask: the links that its last step made are next, and then the nodes that it needed.
-- Assumes nothing.
use mathlib.Core.List.{List, [], ◌∷◌, ◌++◌, Memᴰ}
use mathlib.Core.Path.{◌≡◌, sym, subst}
use Prim.Native.Nat.{ℕ, suc, ◌-◌, ◌<◌}
use native.Mathlib.Omega.{arith}
use lib.ListN.{length}
use Rattle.grid.specs.declared.Corner.{Corner}
use Rattle.grid.specs.Grid.{same, stepped, corners_from, end_from}
use Rattle.grid.specs.Tree.{root, path_of}
use Rattle.tree_laws.specs.State.{State, state_of, unlinking}
use Rattle.grid.proofs.CornerLaws.{same_refl, same_sound}
use Rattle.lists.proofs.GatherLaws.{mem-gather-left}
use Rattle.tree_laws.proofs.PushLaws.{push_nodes, sound_walk, finish_node}
use Rattle.table_laws.proofs.StateLaws.{links_small, needs_small}
use Rattle.pair_table.specs.Slots.{Slot}
use Rattle.pair_laws.specs.Stand.{At}
use Rattle.pair_table_laws.specs.Hold.{Both, with_party, SettledIn, PairTable}
use Rattle.pair_table_laws.specs.Stores.{pair_unvisit_in, pair_untread_in}
use Rattle.pair_table_laws.proofs.FrameLaws.{at_one, with_this, with_other}
use Rattle.pair_table_laws.proofs.WalkLaws.{back_starts, drop_starts}
use Rattle.pair_child.specs.declared.Stock.{Stock}
use Rattle.pair_child.specs.Finds.{StockIs}
use Rattle.pair_back.specs.Leaves.{PairUnlinks, PairDrops}

-- party q has walked ds from c, and then in direction d, from record u to record r; C has the other party's state
module _ (C : Both) (slots : List Slot) (q : ℕ) (known : q < 2) (c : Corner) (ds : List ℕ) (d : ℕ) (small : d < 4) (settled : SettledIn slots (with_party C q (state_of (corners_from c (ds ++ (d ∷ [])))))) (t : List ℕ) (u r : ℕ)
    (x : At slots u (end_from c ds)) (y : At slots r (stepped d (end_from c ds))) (h : PairTable t slots (with_party C q (state_of (corners_from c (ds ++ (d ∷ [])))))) where
  -- the edge and the visit taken back: the links are next
  pub back_unlinks : PairUnlinks (pair_unvisit_in q (pair_untread_in q t u r d) r) q u (end_from c ds) d (suc (length ds)) C slots (state_of (corners_from c ds)) (stepped d (end_from c ds))
  back_unlinks =
      let S' : State = state_of (corners_from c (ds ++ (d ∷ []))) in
      let k = back_starts C slots q known settled.once c ds d small t u r x y h in
      record {
        party = known;
        sound = sound_walk c ds;
        pos = omega arith;
        dir = small;
        small = links_small 0 c ds d;
        once = settled.once;
        stands = λ a m. settled.stands q known a (subst (λ (T : State). Memᴰ a T.nodes) (sym (with_this C q S')) (subst (Memᴰ a) (sym (push_nodes c ds d)) m));
        others = subst (λ (T : State). (i j : Corner) → T.step i j ≡ T.step j i) (with_other C q S' (1 - q) (λ p. omega arith)) (settled.sound (1 - q) (omega arith)).good.both;
        held = k;
        is = at_one slots u k.at (end_from c ds) k.here x;
        needed = mem-gather-left same same_sound same_refl (state_of (corners_from c ds)).nodes (path_of (stepped d (end_from c ds))) (finish_node c ds);
      }

  -- the links cleared: the nodes are next
  pub back_drops : (s : Stock) → At slots 0 root → StockIs s slots → (t' : List ℕ) → PairTable t' slots (with_party C q (unlinking (state_of (corners_from c ds)) (suc (length ds)) (stepped d (end_from c ds)) (state_of (corners_from c ds)).step))
      → PairDrops t' q s r (stepped d (end_from c ds)) (suc (length ds)) C slots (state_of (corners_from c ds))
  back_drops s top held t' k = record {
    party = known;
    sound = sound_walk c ds;
    small = needs_small 0 c ds d;
    top = top;
    stock = held;
    held = drop_starts C slots q known settled.once c ds d small t u r x y h settled t' k;
  }
