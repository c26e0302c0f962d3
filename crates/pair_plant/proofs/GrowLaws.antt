-- The way down on which the ancestors of a start are planted for one party, in a table that two share.
-- Assumes nothing.
use mathlib.Core.Bool.{false}
use mathlib.Core.List.{List, [], ◌∷◌}
use mathlib.Core.Path.{◌≡◌, refl, ap, sym, ◌∙◌, subst}
use Prim.Native.Nat.{ℕ, zero, suc, ◌*◌, ◌<◌, ◌≤◌}
use native.Mathlib.Omega.{arith}
use lib.ListN.{length}
use Rattle.grid.specs.declared.Corner.{Corner}
use Rattle.grid.specs.Tree.{root, parent_of, is_root, up_by, path_of, child_word}
use Rattle.layout.specs.Table.{visits_word}
use Rattle.tree_laws.specs.State.{State, Alike, state_of, planted_of}
use Rattle.grid.proofs.CornerLaws.{same_sound}
use Rattle.grid.proofs.PathLaws.{path_of_snoc}
use Rattle.pair_table.specs.Slots.{Slot, held, placed, placed_all, ref_in}
use Rattle.pair_table.specs.Words.{pair_width}
use Rattle.pair_laws.specs.Stand.{At, HeldBelow}
use Rattle.pair_laws.proofs.SlotLaws.{all_keeps, all_append, placed_known}
use Rattle.pair_table_laws.specs.Hold.{Both, with_party, of_party, words_in, SettledIn, PairTable}
use Rattle.pair_table_laws.specs.Stores.{pair_visit_in, root_table}
use Rattle.pair_table_laws.specs.Look.{Look, NoRoomFor}
use Rattle.pair_table_laws.proofs.FrameLaws.{at_below, with_this}
use Rattle.pair_table_laws.proofs.PlantLaws.{root_settled, root_holds, plant_settled, plant_next, plant_visit}
use Rattle.pair_table_laws.proofs.RefLaws.{at_ref, ref_at}
use Rattle.pair_table_laws.proofs.SettleLaws.{alike_table, alike_self, alike_sym, alike_back}
use Rattle.std.specs.Prelude.{None, Option, Some}
use Rattle.pair_child.specs.declared.Stock.{Stock}
use Rattle.pair_child.specs.declared.Located.{Located}
use Rattle.pair_child.specs.Finds.{found, Childed, StockIs, ChildFound, Finds}
use Rattle.pair_child.proofs.StockLaws.{in_use_small, child_in_lem, child_found, no_room_child, no_room_down, no_room-long}
use Rattle.walk_plant.specs.Plants.{Deep}
use Rattle.pair_plant.specs.Plants.{root_stock, Plants}

-- the cleared table with the root
pub root_plants : (words : ℕ) → pair_width ≤ words → (q : ℕ) → Plants (root_table words) (held root ∷ []) (λ p. planted_of root) q root_stock
root_plants words room q = record {
  table = root_holds words room;
  settled = root_settled;
  own = refl;
  top = refl;
  stock = record { nodes = refl; above = omega arith; low = first };
}
  where
    first : HeldBelow (held root ∷ []) 1
    first zero l = (root, refl)
    first (suc i) l = absurd (omega arith)

-- the path to a stands, and a is v
pub record Grows (slots : List Slot) (C : Both) (q : ℕ) (a : Corner) (t : List ℕ) (v : Located) : Type 0 where
  pub look : Look C slots q (planted_of a) a t (suc v.node)
  pub stock : StockIs v.stock (placed_all slots (path_of a))

-- a table that is too small for a part of the path is too small for the whole
no_room-sinks : (slots : List Slot) (c : Corner) (t : List ℕ) (left : ℕ) → ((j : ℕ) → j < left → is_root (up_by j c) ≡ false) → NoRoomFor slots (up_by left c) t → NoRoomFor slots c t
no_room-sinks slots c t zero below f = f
no_room-sinks slots c t (suc i) below f = no_room-sinks slots c t i (λ j l. below j (omega arith)) (no_room_down slots (up_by i c) t (below i (omega arith)) f)

module _ (t : List ℕ) (slots : List Slot) (C : Both) (q : ℕ) (s : Stock) (k : Plants t slots C q s) (known : q < 2) where
  -- ---- the root
  pub grows_start : (c : Corner) (n : ℕ) → Deep c n → Grows slots C q (up_by n c) t (found 0 s)
  grows_start c n d =
      let p : root ≡ up_by n c = sym (same_sound (up_by n c) root d.top) in
      let g : placed_all slots (path_of root) ≡ slots = placed_known slots root 0 k.top in
      let P : State = planted_of root in
      let h : PairTable t slots (with_party C q P) = alike_table t slots C (with_party C q P) (λ i l. alike_sym (with_party C q P i) (C i) (alike_back C q P (subst (Alike P) (sym k.own) (alike_self P)) i l)) k.table in
      subst (λ (x : Corner). Grows slots C q x t (found 0 s)) p record {
        look = record { table = subst (λ (l : List Slot). PairTable t l (with_party C q P)) (sym g) h; ref = ap (λ (l : List Slot). ref_in l root) g ∙ at_ref slots k.settled.once 0 root k.top };
        stock = subst (StockIs s) (sym g) k.stock;
      }

  -- ---- the next node down, in a table that has come from this one
  module _ (c : Corner) (n left : ℕ) (d : Deep c n) (less : left < n) (t₁ : List ℕ) (v : Located) (g : Grows slots C q (up_by (suc left) c) t₁ v) where
    abbrev e : Corner
    e = up_by left c

    abbrev above : List Slot
    above = placed_all slots (path_of (parent_of e))

    deep : is_root e ≡ false
    deep = d.below left less

    settled : SettledIn above (with_party C q (planted_of (parent_of e)))
    settled = plant_settled C slots q known k.settled k.own (parent_of e)

    has : At above v.node (parent_of e)
    has = ref_at above v.node (parent_of e) g.look.ref

    -- what the child asks
    pub grows_in : suc v.node * pair_width ≤ length t₁
    grows_in = omega (arith, at_below above v.node (parent_of e) has, g.look.table.room)

    pub grows_stock : (v.stock.low ≤ length t₁) × (v.stock.nodes ≤ length t₁)
    grows_stock = in_use_small v.stock above t₁ g.stock g.look.table.room

    pub grows_child : (w : ℕ) → words_in t₁ v.node (child_word (up_by left c)) ≡ suc w → suc w * pair_width ≤ length t₁
    grows_child = child_in_lem above C q known (planted_of (parent_of e)) settled t₁ g.look.table e deep v.node has 0

    -- what it answers
    module _ (t' : List ℕ) where
      child : (r : Option Located) → Childed q t₁ v.stock v.node (child_word (up_by left c)) 0 t' r → ChildFound C above q (planted_of (parent_of e)) e 0 t₁ t' r
      child = child_found above C q known (planted_of (parent_of e)) settled t₁ g.look.table e deep v.node has 0 v.stock g.stock (all_keeps slots (path_of (parent_of e)) 0 root k.top) t'

      path_next : placed_all slots (path_of e) ≡ placed above e
      path_next = ap (placed_all slots) (path_of_snoc e deep) ∙ all_append slots (path_of (parent_of e)) (e ∷ [])

      pub grows_none : Childed q t₁ v.stock v.node (child_word (up_by left c)) 0 t' None → (t₀ : List ℕ) → length t₁ ≡ length t₀ → Finds C slots q (planted_of c) c t₀ t' None
      grows_none ch t₀ l = let f = child None ch in no_room-long slots c t₁ t₀ l (no_room-sinks slots c t₁ left (λ j i. d.below j (omega arith)) (no_room_child slots e t₁ deep settled.once f.0 f.1))

      pub grows_next : (r : Located) → Childed q t₁ v.stock v.node (child_word (up_by left c)) 0 t' (Some r) → Grows slots C q (up_by left c) t' r
      grows_next r ch =
          let f = child (Some r) ch in
          record {
            look = plant_next C slots q known k.settled k.own e deep t' (suc r.node) f.0;
            stock = subst (StockIs r.stock) (sym path_next) f.1;
          }

  -- ---- the first visit
  module _ (c : Corner) (t₀ t₁ : List ℕ) (v : Located) (g : Finds C slots q (planted_of c) c t₀ t₁ (Some v)) where
    look : Look C slots q (planted_of c) c t₁ (suc v.node)
    look = g.0

    here : At (placed_all slots (path_of c)) v.node c
    here = ref_at (placed_all slots (path_of c)) v.node c look.ref

    pub plants_in : suc v.node * pair_width ≤ length t₁
    plants_in = omega (arith, at_below (placed_all slots (path_of c)) v.node c here, look.table.room)

    pub plants_visits : words_in t₁ v.node (of_party q visits_word) ≡ 0
    plants_visits = ((look.table.holds.held v.node c here).own q known).visits ∙ ap (λ (S : State). S.visits c) (with_this C q (planted_of c))

    pub plants_visit : (t' : List ℕ) → t' ≡ pair_visit_in q t₁ v.node 0 → Finds C slots q (state_of (c ∷ [])) c t₀ t' (Some v)
    plants_visit t' i = (
      record {
        table = subst (λ (l : List ℕ). PairTable l (placed_all slots (path_of c)) (with_party C q (state_of (c ∷ [])))) (sym i) (plant_visit C slots q known k.settled k.own c t₁ v.node look);
        ref = look.ref;
      },
      g.1,
    )

-- ---- all of it
pub grows_end : (t₀ t : List ℕ) (slots : List Slot) (C : Both) (q : ℕ) (c : Corner) (left : ℕ) (v : Located) → Grows slots C q (up_by left c) t v → left ≡ 0 → Finds C slots q (planted_of c) c t₀ t (Some v)
grows_end t₀ t slots C q c left v g z =
    let p : up_by left c ≡ c = ap (λ (n : ℕ). up_by n c) z in
    (subst (λ (x : Corner). Look C slots q (planted_of x) x t (suc v.node)) p g.look, subst (λ (x : Corner). StockIs v.stock (placed_all slots (path_of x))) p g.stock)
