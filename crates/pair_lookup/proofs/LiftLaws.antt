-- The lookup of one party, in a table that two share: at the level where its climb stops, one level down, and all the way down.
-- Assumes nothing.
use mathlib.Core.Bool.{Bool, true, false, cond, true≢false}
use mathlib.Core.List.{List, [], ◌∷◌, Memᴰ}
use mathlib.Core.Logic.{⊎_elim}
use mathlib.Core.Path.{◌≡◌, refl, ap, sym, ◌∙◌, subst}
use Prim.Native.Nat.{ℕ, zero, suc, ◌+◌, ◌-◌, ◌*◌, ◌<◌, ◌≤◌}
use native.Mathlib.Omega.{arith}
use lib.ListN.{length}
use Rattle.grid.specs.declared.Corner.{Corner}
use Rattle.grid.specs.Grid.{same, stepped}
use Rattle.grid.specs.Tree.{root, parent_of, is_root, path_of, child_word, up_by}
use Rattle.layout.specs.Table.{parent_word, neighbour_word, link_word}
use Rattle.tree_laws.specs.State.{State, reached, raised, grown}
use Rattle.grid.proofs.CornerLaws.{same_refl, same_sound}
use Rattle.grid.proofs.ParentLaws.{parent_of-stepped}
use Rattle.grid.proofs.PathLaws.{path_of_snoc}
use Rattle.tree.proofs.NodeLaws.{mem_path}
use Rattle.tree_laws.proofs.LevelLaws.{root_is, path_known}
use Rattle.table_laws.proofs.ChildLaws.{root_child}
use Rattle.table_laws.specs.Climb.{Apart, Climbed}
use Rattle.pair_table.specs.Slots.{Slot, placed, placed_all, ref_in}
use Rattle.pair_table.specs.Words.{pair_width}
use Rattle.pair_laws.specs.Stand.{At, HeldOnce}
use Rattle.pair_laws.proofs.SlotLaws.{all_keeps, all_stands, all_once, all_known, all_append}
use Rattle.pair_table_laws.specs.Hold.{Both, with_party, of_party, words_in, SettledIn, PairTable}
use Rattle.pair_table_laws.specs.Stores.{pair_link_in}
use Rattle.pair_table_laws.specs.Look.{Look, NoRoomFor, pair_goes_up}
use Rattle.pair_table_laws.proofs.ClimbLaws.{stops_sibling, down_mem, down_reads, down_look, down_next}
use Rattle.pair_table_laws.proofs.FrameLaws.{at_below}
use Rattle.pair_table_laws.proofs.LookLaws.{look_known, look_root, settled_above, look_self, look_parent, look_linked}
use Rattle.pair_table_laws.proofs.RefLaws.{at_ref, ref_at}
use Rattle.std.specs.Prelude.{None, Option, Some}
use Rattle.pair_child.specs.declared.Stock.{Stock}
use Rattle.pair_child.specs.declared.Located.{Located}
use Rattle.pair_child.specs.Finds.{found, Childed, StockIs, ChildFound, Finds}
use Rattle.pair_child.proofs.StockLaws.{in_use_small, child_in_lem, child_found, no_room_child, no_room_down, no_room-long}
use Rattle.pair_lookup.specs.Climbs.{Stands, Looks, Lifts, ComesDown}

-- what is found has a ref
look_some : (B : Both) (slots : List Slot) (q : ℕ) (S : State) (e : Corner) (t : List ℕ) (at : ℕ) → HeldOnce slots → Look B slots q S e t at → 0 < at
look_some B slots q S e t at once h =
    let y = all_stands slots (path_of e) e (mem_path e) in
    omega (arith, h.ref, at_ref (placed_all slots (path_of e)) (all_once slots (path_of e) once) y.0 e y.1)

-- the first record lies in the table
pub looks_first : (t : List ℕ) (slots : List Slot) (B : Both) (q u : ℕ) (c : Corner) (stock : Stock) → Looks t slots B q u c stock → 1 * pair_width ≤ length t
looks_first t slots B q u c stock k = omega (arith, at_below slots 0 root k.top, k.stands.table.room)

-- the path of a node that a party needs stands
path_stands : (slots : List Slot) (B : Both) (q : ℕ) → q < 2 → SettledIn slots B → (c : Corner) → Memᴰ c (B q).nodes → placed_all slots (path_of c) ≡ slots
path_stands slots B q known settled c m = all_known slots (path_of c) (λ a k. settled.stands q known a (path_known (B q).nodes (settled.sound q known).good.closed c m a k))

-- ---- one level: the child of v beside a
module _ (t : List ℕ) (slots : List Slot) (B : Both) (q : ℕ) (v : Located) (u : ℕ) (a : Corner) (d s : ℕ) (k : Lifts t slots B q v u a d s) (known : q < 2) (small : d < 4) (pos : 0 < s) where
  abbrev e : Corner
  e = stepped d a

  abbrev T : State
  T = raised (B q) s a e

  abbrev above : List Slot
  above = placed_all slots (path_of (parent_of e))

  has : At above v.node (parent_of e)
  has = ref_at above v.node (parent_of e) k.look.ref

  settled : SettledIn above (with_party B q T)
  settled = settled_above slots B q known k.settled d s u small pos a k.here k.needed k.none k.deep

  -- what the child asks
  pub lift_in : suc v.node * pair_width ≤ length t
  lift_in = omega (arith, at_below above v.node (parent_of e) has, k.look.table.room)

  pub lift_stock : (v.stock.low ≤ length t) × (v.stock.nodes ≤ length t)
  lift_stock = in_use_small v.stock above t k.stock k.look.table.room

  pub lift_child : (w : ℕ) → words_in t v.node (child_word (stepped d a)) ≡ suc w → suc w * pair_width ≤ length t
  lift_child = child_in_lem above B q known T settled t k.look.table e k.deep v.node has s

  -- what it answers
  module _ (t' : List ℕ) where
    child : (r : Option Located) → Childed q t v.stock v.node (child_word (stepped d a)) s t' r → ChildFound B above q T e s t t' r
    child = child_found above B q known T settled t k.look.table e k.deep v.node has s v.stock k.stock (all_keeps slots (path_of (parent_of e)) 0 root k.top) t'

    path_next : placed_all slots (path_of e) ≡ placed above e
    path_next = ap (placed_all slots) (path_of_snoc e k.deep) ∙ all_append slots (path_of (parent_of e)) (e ∷ [])

    pub lift-none : Childed q t v.stock v.node (child_word (stepped d a)) s t' None → Finds B slots q (reached (B q) s a (stepped d a)) (stepped d a) t t' None
    lift-none ch = let f = child None ch in no_room_child slots e t k.deep settled.once f.0 f.1

    module _ (r : Located) (ch : Childed q t v.stock v.node (child_word (stepped d a)) s t' (Some r)) where
      look : Look B slots q (grown T e s) e t' (suc r.node)
      look =
          let c = (child (Some r) ch).0 in
          record {
            table = subst (λ (l : List Slot). PairTable t' l (with_party B q (grown T e s))) (sym path_next) c.table;
            ref = ap (λ (l : List Slot). ref_in l e) path_next ∙ c.ref;
          }

      -- both ends lie in the table
      pub lift-ends : (suc u * pair_width ≤ length t') × (suc r.node * pair_width ≤ length t')
      lift-ends = (
        omega (arith, at_below (placed_all slots (path_of e)) u a (all_keeps slots (path_of e) u a k.here), look.table.room),
        omega (arith, at_below (placed_all slots (path_of e)) r.node e (ref_at (placed_all slots (path_of e)) r.node e look.ref), look.table.room),
      )

      pub lift-linked : (t'' : List ℕ) → t'' ≡ pair_link_in q t' u r.node d s → Finds B slots q (reached (B q) s a (stepped d a)) (stepped d a) t t'' (Some r)
      lift-linked t'' i = (
        subst (λ (l : List ℕ). Look B slots q (reached (B q) s a e) e l (suc r.node)) (sym i)
            (look_linked slots B q known k.settled d s u small pos a k.here k.needed k.none k.deep t' r.node look),
        subst (StockIs r.stock) (sym path_next) (child (Some r) ch).1,
      )

-- ---- where the climb stops
module _ (t : List ℕ) (slots : List Slot) (B : Both) (q u : ℕ) (c : Corner) (stock : Stock) (k : Looks t slots B q u c stock) (known : q < 2) (d s : ℕ) (small : d < 4) (pos : 0 < s) where
  abbrev to : Corner
  to = stepped d c

  stand : Stands t slots B q u c
  stand = k.stands

  link_word_lem : words_in t u (of_party q (link_word d)) ≡ (B q).step c to
  link_word_lem = ((stand.table.holds.held u c stand.here).own q known).link d small

  closed : (x : Corner) → Memᴰ x (B q).nodes → is_root x ≡ false → Memᴰ (parent_of x) (B q).nodes
  closed = (stand.settled.sound q known).good.closed

  -- a node whose path stands is found in the records that there are
  found_here : (e : Corner) → Memᴰ e (B q).nodes → (S : State) (t' : List ℕ) (v : ℕ) → Look B slots q S e t' (suc v) → Finds B slots q S e t t' (Some (found v stock))
  found_here e m S t' v l = (l, subst (StockIs stock) (sym (path_stands slots B q known stand.settled e m)) k.stock)

  -- linked by this party
  pub looks_known : (0 < words_in t u (of_party q (link_word d))) → (w : ℕ) → w ≡ words_in t u (neighbour_word d) → (0 < w) × Finds B slots q (reached (B q) s c (stepped d c)) (stepped d c) t t (Some (found (w - 1) stock))
  looks_known g w i =
      let l : 0 < (B q).step c to = omega (arith, link_word_lem) in
      let h : Look B slots q (reached (B q) s c to) to t w = subst (Look B slots q (reached (B q) s c to) to t) (sym i) (look_known slots B q known stand.settled t stand.table d s u small c stand.here l) in
      let some = look_some B slots q (reached (B q) s c to) to t w stand.settled.once h in
      let n : w ≡ suc (w - 1) = omega arith in
      (some, found_here to ((stand.settled.sound q known).good.ends c to l).1 (reached (B q) s c to) t (w - 1) (subst (Look B slots q (reached (B q) s c to) to t) n h))

  -- the root
  pub looks_root : words_in t u (of_party q (link_word d)) ≡ 0 → is_root (stepped d c) ≡ true → (t' : List ℕ) → t' ≡ pair_link_in q t u 0 d s → Finds B slots q (reached (B q) s c (stepped d c)) (stepped d c) t t' (Some (found 0 stock))
  looks_root w g t' j =
      let m : Memᴰ root (B q).nodes = root-mem in
      found_here to (mathlib.Core.List.Memᴰ.cast (root_is to g) m) (reached (B q) s c to) t' 0
      (subst (λ (x : List ℕ). Look B slots q (reached (B q) s c to) to x 1) (sym j)
      (look_root slots B q known stand.settled t stand.table d s u small c stand.here pos (sym link_word_lem ∙ w) g k.top m))
    where
      root-mem : Memᴰ root (B q).nodes
      root-mem = rw (stand.settled.sound q known).good.root.1 (mathlib.Core.List.Memᴰ.head refl)

  -- the parent of the neighbour: c itself, or the parent that both have
  pub looks_lift : words_in t u (of_party q (link_word d)) ≡ 0 → is_root (stepped d c) ≡ false → pair_goes_up q t u c d ≡ false → (w : ℕ) → w ≡ cond (is_root c) (u + 1) (words_in t u parent_word) → (0 < w) × Lifts t slots B q (found (w - 1) stock) u c d s
  looks_lift n g up w i =
      let z : (B q).step c to ≡ 0 = sym link_word_lem ∙ n in
      let h : Look B slots q (raised (B q) s c to) (parent_of to) t w = subst (Look B slots q (raised (B q) s c to) (parent_of to) t) (sym i) (by (is_root c) refl) in
      let some = look_some B slots q (raised (B q) s c to) (parent_of to) t w stand.settled.once h in
      let m : w ≡ suc (w - 1) = omega arith in (
        some,
        record {
          settled = stand.settled;
          here = stand.here;
          needed = stand.needed;
          none = z;
          deep = g;
          look = subst (Look B slots q (raised (B q) s c to) (parent_of to) t) m h;
          top = k.top;
          stock = subst (StockIs stock) (sym (path_stands slots B q known stand.settled (parent_of to) (mem (is_root c) refl))) k.stock;
        },
      )
    where
      z : (B q).step c to ≡ 0
      z = sym link_word_lem ∙ n

      sibling : is_root c ≡ false → same (parent_of c) (parent_of to) ≡ true
      sibling r = stops_sibling t slots B q known stand.table d small u c stand.here up z g r

      mem : (b : Bool) → is_root c ≡ b → Memᴰ (parent_of to) (B q).nodes
      mem true r = mathlib.Core.List.Memᴰ.cast (ap (λ (x : Corner). parent_of (stepped d x)) (root_is c r) ∙ root_child d ∙ sym (root_is c r)) stand.needed
      mem false r = mathlib.Core.List.Memᴰ.cast (sym (same_sound (parent_of c) (parent_of to) (sibling r))) (closed c stand.needed r)

      by : (b : Bool) → is_root c ≡ b → Look B slots q (raised (B q) s c to) (parent_of to) t (cond (is_root c) (u + 1) (words_in t u parent_word))
      by true r =
          let n : suc u ≡ cond (is_root c) (u + 1) (words_in t u parent_word) = rw r (omega arith) in
          subst (Look B slots q (raised (B q) s c to) (parent_of to) t) n (look_self slots B q known stand.settled d s u small pos c stand.here stand.needed z g t stand.table r)
      by false r =
          let n : words_in t u parent_word ≡ cond (is_root c) (u + 1) (words_in t u parent_word) = rw r in
          subst (Look B slots q (raised (B q) s c to) (parent_of to) t) n (look_parent slots B q known stand.settled d s u small pos c stand.here stand.needed z g t stand.table r (sibling r))

-- ---- the way down
near : (S : State) (d : ℕ) (b : Corner) → Apart S d b → parent_of (stepped d b) ≡ stepped d (parent_of b)
near S d b k = ⊎_elim (λ e. absurd (true≢false (sym (same_refl (parent_of b)) ∙ ap (same (parent_of b)) (sym e) ∙ k.parents))) (λ e. e) (parent_of-stepped d b)

-- a table that is too small at a level above is too small below
no_room-sinks : (slots : List Slot) (S : State) (d : ℕ) (c : Corner) (t : List ℕ) (level : ℕ) → ((j : ℕ) → j < level → Apart S d (up_by j c)) → NoRoomFor slots (stepped d (up_by level c)) t → NoRoomFor slots (stepped d c) t
no_room-sinks slots S d c t zero below f = f
no_room-sinks slots S d c t (suc i) below f =
    let k = below i (omega arith) in
    no_room-sinks slots S d c t i (λ j l. below j (omega arith))
    (no_room_down slots (stepped d (up_by i c)) t k.outer (subst (λ (x : Corner). NoRoomFor slots x t) (sym (near S d (up_by i c) k)) f))

-- from a climb that stopped
module _ (t : List ℕ) (slots : List Slot) (B : Both) (q u : ℕ) (c : Corner) (stock : Stock) (k : Looks t slots B q u c stock) (d s level node : ℕ) (at : Corner) (up : Climbed (B q) d c level at) (h : Stands t slots B q node at)
    (t' : List ℕ) where
  pub level-none : Finds B slots q (reached (B q) s at (stepped d at)) (stepped d at) t t' None → Finds B slots q (reached (B q) s c (stepped d c)) (stepped d c) t t' None
  level-none f = no_room-sinks slots (B q) d c t level up.below (subst (λ (x : Corner). NoRoomFor slots (stepped d x) t) up.above f)

  pub level_comes : (r : Located) → Finds B slots q (reached (B q) s at (stepped d at)) (stepped d at) t t' (Some r) → ComesDown t' slots B q r node c d s level
  level_comes r f = record {
    settled = h.settled;
    start = k.stands.needed;
    top = k.top;
    descends = record {
      below = up.below;
      here = subst (At slots node) up.above h.here;
      look = subst (λ (x : Corner). Look B slots q (reached (B q) s x (stepped d x)) (stepped d x) t' (suc r.node)) up.above f.0;
    };
    stock = subst (λ (x : Corner). StockIs r.stock (placed_all slots (path_of (stepped d x)))) up.above f.1;
  }

-- at the end of it
pub comes_end : (t₀ t : List ℕ) (slots : List Slot) (B : Both) (q : ℕ) (v : Located) (u : ℕ) (c : Corner) (d s : ℕ) → ComesDown t slots B q v u c d s 0 → Finds B slots q (reached (B q) s c (stepped d c)) (stepped d c) t₀ t (Some v)
comes_end t₀ t slots B q v u c d s k = (k.descends.look, k.stock)

-- a level down
module _ (t : List ℕ) (slots : List Slot) (B : Both) (q : ℕ) (v : Located) (u : ℕ) (c : Corner) (d s left : ℕ) (k : ComesDown t slots B q v u c d s (suc left)) (known : q < 2) (small : d < 4) (pos : 0 < s) where
  abbrev b : Corner
  b = up_by left c

  apart : Apart (B q) d b
  apart = k.descends.below left (omega arith)

  reads : (at : ℕ) × At slots at b × (words_in t u (child_word b) ≡ suc at)
  reads = down_reads slots B q known k.settled c d s left small pos t u (suc v.node) k.descends k.start

  -- its record is read
  pub comes_in : suc u * pair_width ≤ length t
  comes_in =
      let x = up_by (suc left) c in
      omega (arith, at_below (placed_all slots (path_of (stepped d x))) u x (all_keeps slots (path_of (stepped d x)) u x k.descends.here), k.descends.look.table.room)

  pub comes_number : (w : ℕ) → w ≡ words_in t u (child_word (up_by left c)) → (0 < w) × At slots (w - 1) (up_by left c)
  comes_number w i = let n : reads.0 ≡ w - 1 = omega (arith, i, reads.2) in (omega (arith, i, reads.2), subst (λ (x : ℕ). At slots x b) n reads.1)

  module _ (at : ℕ) (here : At slots at (up_by left c)) where
    pub comes_lift : Lifts t slots B q v at (up_by left c) d s
    comes_lift = record {
      settled = k.settled;
      here = here;
      needed = down_mem slots B q known k.settled c d s left small pos t u (suc v.node) k.descends k.start;
      none = apart.none;
      deep = apart.outer;
      look = down_look slots B q known k.settled c d s left small pos t u (suc v.node) k.descends k.start at here;
      top = k.top;
      stock = subst (λ (x : Corner). StockIs v.stock (placed_all slots (path_of x))) (sym (near (B q) d b apart)) k.stock;
    }

    module _ (t' : List ℕ) where
      pub comes_none : (t₀ : List ℕ) → length t ≡ length t₀ → Finds B slots q (reached (B q) s (up_by left c) (stepped d (up_by left c))) (stepped d (up_by left c)) t t' None → Finds B slots q (reached (B q) s c (stepped d c)) (stepped d c) t₀ t' None
      comes_none t₀ l f = no_room-long slots (stepped d c) t t₀ l (no_room-sinks slots (B q) d c t left (λ j i. k.descends.below j (omega arith)) f)

      pub comes_next : (r : Located) → Finds B slots q (reached (B q) s (up_by left c) (stepped d (up_by left c))) (stepped d (up_by left c)) t t' (Some r) → ComesDown t' slots B q r at c d s left
      comes_next r f = record {
        settled = k.settled;
        start = k.start;
        top = k.top;
        descends = down_next slots B q known k.settled c d s left small pos t u (suc v.node) k.descends k.start at here t' (suc r.node) f.0;
        stock = f.1;
      }
