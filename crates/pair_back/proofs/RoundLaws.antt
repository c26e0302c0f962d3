-- One round of each loop of a take-back of one party.
-- Assumes nothing.
use Rattle.std.specs.Prelude.{None, Option, Some}
use mathlib.Core.List.{List, Memᴰ}
use mathlib.Core.Path.{◌≡◌, refl, ap, sym, ◌∙◌, subst}
use Prim.Native.Nat.{ℕ, zero, suc, ◌+◌, ◌-◌, ◌<◌}
use native.Mathlib.Decide.{ℕ_discrete}
use native.Mathlib.Omega.{arith}
use lib.ListN.{set}
use lib.Seq.{get_or-set_other}
use Rattle.grid.specs.declared.Corner.{Corner}
use Rattle.grid.specs.Grid.{same, stepped}
use Rattle.grid.specs.Tree.{root, parent_of, size_of, path_of}
use Rattle.layout.specs.Table.{parent_word, neighbour_word, link_word, need_word}
use Rattle.lists.specs.Lists.{gather}
use Rattle.tree_laws.specs.State.{State, unlinking}
use Rattle.pair_table.specs.Slots.{Slot, free}
use Rattle.pair_laws.specs.Stand.{At}
use Rattle.pair_laws.proofs.CountLaws.{free_held}
use Rattle.pair_table_laws.specs.Hold.{Both, with_party, of_party, words_in, PairTable}
use Rattle.pair_table_laws.specs.Stores.{pair_unlink_in}
use Rattle.pair_table_laws.specs.Undo.{PairDropAt, Fewer}
use Rattle.pair_table_laws.proofs.FrameLaws.{at_below, at_one}
use Rattle.pair_table_laws.proofs.UndoLaws.{unlink_done, unlink_to, unlink_top, unlink_up}
use Rattle.pair_table_laws.proofs.DropLaws.{drop_done, drop-up, drop_falls, drop-kept, drop_freed, fewer_freed, fewer_self, fewer_more}
use Rattle.pair_words.specs.Places.{InTable}
use Rattle.pair_child.specs.declared.Stock.{Stock}
use Rattle.pair_child.specs.Finds.{StockIs}
use Rattle.pair_back.specs.Leaves.{node_at_ref, PairJoined, PairCleared, PairUnlinks, PairUnlinkable, freed_in, PairLeft, PairDrops, PairDroppable, PairDropped}

-- the record of a node lies in the table
in_table : (t : List ℕ) (slots : List Slot) (B : Both) (u : ℕ) (a : Corner) → PairTable t slots B → At slots u a → InTable t u
in_table t slots B u a h x = omega (arith, at_below slots u a x, h.room)

-- ---- the record of a ref
none_some : (v : ℕ) → None ≡ Some v → ⊥
none_some v e = cc

ref-none : (n : ℕ) → node_at_ref n ≡ None → n ≡ 0
ref-none zero e = refl
ref-none (suc v) e = absurd (none_some v (sym e))

ref-some : (n v : ℕ) → node_at_ref n ≡ Some v → n ≡ suc v
ref-some zero v e = absurd (none_some v e)
ref-some (suc u) v e = let f : u ≡ v = cc in ap suc f

-- ---- the links
module _ (t : List ℕ) (q u : ℕ) (c : Corner) (d s : ℕ) (C : Both) (slots : List Slot) (S : State) (z : Corner) (k : PairUnlinks t q u c d s C slots S z) where
  there : words_in t u (of_party q (link_word d)) ≡ s → (v : ℕ) × At slots v (stepped d k.held.at) × (words_in t u (neighbour_word d) ≡ suc v)
  there = unlink_to C slots q k.party k.once S k.sound s k.pos z d k.dir k.small k.stands k.others t u k.held

  unlinks_joined : PairJoined t q u d s
  unlinks_joined = record {
    here = in_table t slots (with_party C q (unlinking S s z k.held.links)) u k.held.at k.held.table k.held.here;
    party = k.party;
    way = k.dir;
    there = λ e.
        let y = there e in
        let n : words_in t u (neighbour_word d) - 1 ≡ y.0 = omega (arith, y.2) in
        (omega (arith, y.2), subst (InTable t) (sym n) (in_table t slots (with_party C q (unlinking S s z k.held.links)) y.0 (stepped d k.held.at) k.held.table y.1));
  }

  here_needed : Memᴰ k.held.at (gather same S.nodes (path_of z))
  here_needed = subst (λ y. Memᴰ y (gather same S.nodes (path_of z))) (sym k.is) k.needed

  -- after a level: another link, no parent, or the next level at the parent
  unlinks_other : (t' : List ℕ) → (words_in t u (of_party q (link_word d)) ≡ s → ⊥) → t' ≡ t → PairTable t' slots (with_party C q (unlinking S s z S.step))
  unlinks_other t' f p =
      subst (λ (x : List ℕ). PairTable x slots (with_party C q (unlinking S s z S.step))) (sym p)
      (unlink_done C slots q k.party k.once S k.sound s k.pos z d k.dir k.small k.stands k.others t u k.held f)

  module _ (t' : List ℕ) (e : words_in t u (of_party q (link_word d)) ≡ s) (p : t' ≡ pair_unlink_in q t u (words_in t u (neighbour_word d) - 1) d) where
    clears : pair_unlink_in q t u (there e).0 d ≡ t'
    clears =
        let n : words_in t u (neighbour_word d) - 1 ≡ (there e).0 = omega (arith, (there e).2) in
        sym (p ∙ ap (λ (m : ℕ). pair_unlink_in q t u m d) n)

    unlinks_top : words_in t' u parent_word ≡ 0 → PairTable t' slots (with_party C q (unlinking S s z S.step))
    unlinks_top n =
        subst (λ (x : List ℕ). PairTable x slots (with_party C q (unlinking S s z S.step))) clears
        (unlink_top C slots q k.party k.once S k.sound s k.pos z d k.dir k.small k.stands k.others t u k.held e (there e).0 (there e).1 here_needed (ap (λ (x : List ℕ). words_in x u parent_word) clears ∙ n))

    unlinks_next : (w : ℕ) → words_in t' u parent_word ≡ suc w → PairUnlinks t' q w (parent_of c) d s C slots S z × (size_of (parent_of c) < size_of c)
    unlinks_next w n =
        let x = unlink_up C slots q k.party k.once S k.sound s k.pos z d k.dir k.small k.stands k.others t u k.held e (there e).0 (there e).1 here_needed w (ap (λ (y : List ℕ). words_in y u parent_word) clears ∙ n) in (
          subst (λ (y : List ℕ). PairUnlinks y q w (parent_of c) d s C slots S z) clears
              (record {
                party = k.party;
                sound = k.sound;
                pos = k.pos;
                dir = k.dir;
                small = k.small;
                once = k.once;
                stands = k.stands;
                others = k.others;
                held = x.0;
                is = x.1 ∙ ap parent_of k.is;
                needed = subst (λ y. Memᴰ (parent_of y) (gather same S.nodes (path_of z))) k.is x.3;
              }),
          subst (λ y. size_of (parent_of y) < size_of y) k.is x.2,
        )

  unlinks_level : (t' : List ℕ) (r : Option ℕ) → PairCleared t q u d s t' r → (r ≡ None → PairTable t' slots (with_party C q (unlinking S s z S.step))) × ((w : ℕ) → r ≡ Some w → PairUnlinks t' q w (parent_of c) d s C slots S z × (size_of (parent_of c) < size_of c))
  unlinks_level t' r h =
      elim (ℕ_discrete (words_in t u (of_party q (link_word d))) s) [
        | yes e ↦ let g = h.own e in ((λ p. unlinks_top t' e g.0 (ref-none (words_in t' u parent_word) (sym g.1 ∙ p))), (λ w p. unlinks_next t' e g.0 w (ref-some (words_in t' u parent_word) w (sym g.1 ∙ p))))
        | no f ↦ let g = h.other f in ((λ p. unlinks_other t' f g.0), (λ w p. absurd (none_some w (sym g.1 ∙ p))))
      ]

-- the next level is at the node in record r, which stands for h, or all is done
abbrev pub PairUnlinked : List ℕ → ℕ → ℕ → Corner → ℕ → ℕ → List ℕ → Option ℕ → Corner → Type 0
PairUnlinked t₀ q u₀ c d s t r h =
    (C : Both) (slots : List Slot) (S : State) (z : Corner) → PairUnlinks t₀ q u₀ c d s C slots S z
    → (r ≡ None → PairTable t slots (with_party C q (unlinking S s z S.step))) × ((v : ℕ) → r ≡ Some v → PairUnlinks t q v h d s C slots S z)

-- how many levels are left at most
abbrev pub levels_left : Option ℕ → Corner → ℕ
levels_left None h = 0
levels_left (Some v) h = suc (size_of h)

module _ (t₀ : List ℕ) (q u₀ : ℕ) (c : Corner) (d s : ℕ) (h : PairUnlinkable t₀ q u₀ c d s) (t : List ℕ) (r : Option ℕ) (a : Corner) (f : PairUnlinked t₀ q u₀ c d s t r a) (v : ℕ) (p : r ≡ Some v) where
  here : PairUnlinks t q v a d s h.both h.slots h.state h.end
  here = (f h.both h.slots h.state h.end h.holds).1 v p

  pub unlinked_joined : PairJoined t q v d s
  unlinked_joined = unlinks_joined t q v a d s h.both h.slots h.state h.end here

  module _ (t' : List ℕ) (r' : Option ℕ) (k : PairCleared t q v d s t' r') (a' : Corner) (e : a' ≡ parent_of a) where
    pub unlinked_falls : levels_left r' a' < levels_left r a
    unlinked_falls = subst (λ (n : Option ℕ). levels_left r' a' < levels_left n a) (sym p) (go r' refl)
      where
        go : (n : Option ℕ) → r' ≡ n → levels_left n a' < suc (size_of a)
        go None i = omega arith
        go (Some w) i =
            let x : size_of a' < size_of a = subst (λ y. size_of y < size_of a) (sym e) ((unlinks_level t q v a d s h.both h.slots h.state h.end here t' r' k).1 w i).1 in
            omega arith

    pub unlinked_next : PairUnlinked t₀ q u₀ c d s t' r' a'
    unlinked_next C slots S z l =
        let g = unlinks_level t q v a d s C slots S z ((f C slots S z l).1 v p) t' r' k in
        (g.0, λ w i. subst (λ y. PairUnlinks t' q w y d s C slots S z) (sym e) (g.1 w i).0)

-- ---- the nodes
-- what is in use after record u, which is not the first, is freed
use_freed : (s : Stock) (slots : List Slot) (u : ℕ) (h : Corner) → At slots u h → 0 < u → StockIs s slots → StockIs (freed_in s u) (set slots u free)
use_freed s slots u h x p k = record {
  nodes = omega (arith, free_held slots u h x, k.nodes);
  above = omega (arith, k.above);
  low = λ i l. let y = k.low i (omega arith) in (y.0, get_or-set_other slots u i free free (λ e. omega arith) ∙ y.1);
}

module _ (t : List ℕ) (q : ℕ) (s : Stock) (u : ℕ) (h : Corner) (n : ℕ) (C : Both) (slots : List Slot) (S : State) (k : PairDrops t q s u h n C slots S) where
  drops_bound : InTable t u
  drops_bound = in_table t slots (with_party C q (unlinking S n h S.step)) u h k.held.table k.held.here

  drops_done : (words_in t u (of_party q need_word) ≡ n + 1 → ⊥) → PairDropped C slots q S t s
  drops_done f =
      let g = drop_done C q k.party S k.sound n k.small slots t u h k.held f in
      record { left = slots; less = fewer_self slots; table = g.0; settled = g.1; stock = k.stock }

  module _ (e : words_in t u (of_party q need_word) ≡ n + 1) where
    up : (p : ℕ) × At slots p (parent_of h) × (words_in t u parent_word ≡ suc p)
    up = drop-up C q k.party S k.sound n k.small slots t u h k.held e

    drops_falls : size_of (parent_of h) < size_of h
    drops_falls = drop_falls C q k.party S k.sound n k.small slots t u h k.held e

    drops_up : (0 < words_in t u parent_word) × InTable t (words_in t u parent_word - 1)
    drops_up =
        let p : words_in t u parent_word - 1 ≡ up.0 = omega (arith, up.2) in
        (omega (arith, up.2), subst (InTable t) (sym p) (in_table t slots (with_party C q (unlinking S n h S.step)) up.0 (parent_of h) k.held.table up.1))

    drops_some : 0 < s.nodes
    drops_some = omega (arith, free_held slots u h k.held.here, k.stock.nodes)

    not_first : 0 < u
    not_first = go u refl
      where
        go : (v : ℕ) → u ≡ v → 0 < u
        go (suc v) i = omega arith
        go zero i =
            let x : h ≡ root = at_one slots 0 h root (subst (λ (j : ℕ). At slots j h) i k.held.here) k.top in
            let y : size_of (parent_of root) < size_of root = subst (λ z. size_of (parent_of z) < size_of z) x drops_falls in
            absurd (omega arith)

    drops_next : (v : ℕ) → v ≡ words_in t u parent_word - 1 → (t' : List ℕ) (s' : Stock) → PairLeft t q s u v h t' s' → (mid : List Slot) × Fewer mid slots × PairDrops t' q s' v (parent_of h) n C mid S
    drops_next v i t' s' l = go (words_in t u (of_party (1 - q) need_word)) refl
      where
        at_up : At slots v (parent_of h)
        at_up = let p : up.0 ≡ v = omega (arith, up.2) in subst (λ (j : ℕ). At slots j (parent_of h)) p up.1

        go : (w : ℕ) → words_in t u (of_party (1 - q) need_word) ≡ w → (mid : List Slot) × Fewer mid slots × PairDrops t' q s' v (parent_of h) n C mid S
        go zero z =
            let g = l.alone z in (
              set slots u free,
              fewer_freed slots u h k.held.here,
              record {
                party = k.party;
                sound = k.sound;
                small = k.small;
                top = get_or-set_other slots u 0 free free (λ j. omega (arith, not_first)) ∙ k.top;
                stock = subst (λ (x : Stock). StockIs x (set slots u free)) (sym g.1) (use_freed s slots u h k.held.here not_first k.stock);
                held = subst (λ (x : List ℕ). PairDropAt C (set slots u free) q S n x v (parent_of h)) (sym g.0) (drop_freed C q k.party S k.sound n k.small slots t u h k.held e z v at_up);
              },
            )
        go (suc w) z =
            let g = l.shared (omega (arith, z)) in (
              slots,
              fewer_self slots,
              record {
                party = k.party;
                sound = k.sound;
                small = k.small;
                top = k.top;
                stock = subst (λ (x : Stock). StockIs x slots) (sym g.1) k.stock;
                held = subst (λ (x : List ℕ). PairDropAt C slots q S n x v (parent_of h)) (sym g.0) (drop-kept C q k.party S k.sound n k.small slots t u h k.held e (omega (arith, z)) v at_up);
              },
            )

abbrev pub PairDropping : List ℕ → ℕ → Stock → ℕ → Corner → ℕ → List ℕ → Stock → ℕ → Corner → Type 0
PairDropping t₀ q s₀ u₀ c n t s u h = (C : Both) (slots : List Slot) (S : State) → PairDrops t₀ q s₀ u₀ c n C slots S → (mid : List Slot) × Fewer mid slots × PairDrops t q s u h n C mid S

pub dropping_start : (t : List ℕ) (q : ℕ) (s : Stock) (u : ℕ) (c : Corner) (n : ℕ) → PairDropping t q s u c n t s u c
dropping_start t q s u c n C slots S k = (slots, fewer_self slots, k)

module _ (t₀ : List ℕ) (q : ℕ) (s₀ : Stock) (u₀ : ℕ) (c : Corner) (n : ℕ) (t : List ℕ) (s : Stock) (u : ℕ) (h : Corner) (f : PairDropping t₀ q s₀ u₀ c n t s u h) where
  -- for some states: the bounds
  module _ (k : PairDroppable t₀ q s₀ u₀ c n) where
    abbrev now : (mid : List Slot) × Fewer mid k.slots × PairDrops t q s u h n k.both mid k.state
    now = f k.both k.slots k.state k.holds

    pub dropping_bound : InTable t u × (q < 2)
    dropping_bound = (drops_bound t q s u h n k.both now.0 k.state now.2, k.holds.party)

    module _ (e : words_in t u (of_party q need_word) ≡ n + 1) where
      pub dropping_up : (0 < words_in t u parent_word) × InTable t (words_in t u parent_word - 1)
      dropping_up = drops_up t q s u h n k.both now.0 k.state now.2 e

      pub dropping_some : 0 < s.nodes
      dropping_some = drops_some t q s u h n k.both now.0 k.state now.2 e

      pub dropping_falls : size_of (parent_of h) < size_of h
      dropping_falls = drops_falls t q s u h n k.both now.0 k.state now.2 e

  -- the test fails: all is done; it passes: the parent is next
  pub dropping_done : (words_in t u (of_party q need_word) ≡ n + 1 → ⊥) → (C : Both) (slots : List Slot) (S : State) → PairDrops t₀ q s₀ u₀ c n C slots S → PairDropped C slots q S t s
  dropping_done g C slots S k =
      let m = f C slots S k in
      let d = drops_done t q s u h n C m.0 S m.2 g in
      record { left = d.left; less = fewer_more d.left m.0 slots d.less m.1; table = d.table; settled = d.settled; stock = d.stock }

  pub dropping_next : words_in t u (of_party q need_word) ≡ n + 1 → (v : ℕ) → v ≡ words_in t u parent_word - 1 → (t' : List ℕ) (s' : Stock) → PairLeft t q s u v h t' s' → (h' : Corner) → h' ≡ parent_of h → PairDropping t₀ q s₀ u₀ c n t' s' v h'
  dropping_next e v i t' s' l h' j C slots S k =
      let m = f C slots S k in
      let d = drops_next t q s u h n C m.0 S m.2 e v i t' s' l in
      (d.0, fewer_more d.0 m.0 slots d.1 m.1, subst (λ y. PairDrops t' q s' v y n C d.0 S) (sym j) d.2)
