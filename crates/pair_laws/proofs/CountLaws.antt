-- How many records hold a node: as many as there are nodes, one more when a node is put, one less when a record is freed.
-- Assumes nothing.
use mathlib.Core.List.Memᴰ
use mathlib.Core.List.{List, [], ◌∷◌, Memᴰ}
use mathlib.Core.Logic.{⊎_elim}
use mathlib.Core.Path.{◌≡◌, refl, ap, sym}
use Prim.Native.Nat.{ℕ, zero, suc, ◌≤◌}
use native.Mathlib.Omega.{arith}
use lib.ListN.{length, set}
use Rattle.grid.specs.declared.Corner.{Corner}
use Rattle.lists.specs.Lists.{Distinct}
use Rattle.lists.proofs.PigeonLaws.{pigeon}
use Rattle.pair_table.specs.Slots.{Slot, free, held, put_lowest}
use Rattle.pair_laws.specs.Stand.{At, HeldOnce, InPlace, held_in}
use Rattle.pair_laws.proofs.SlotLaws.{free_not_held, held_one, once_tail}

-- a node is put
pub put_held : (e : Corner) (slots : List Slot) → held_in (put_lowest e slots) ≡ suc (held_in slots)
put_held e [] = refl
put_held e (free ∷ slots) = refl
put_held e (held b ∷ slots) = ap suc (put_held e slots)

-- a record is freed
pub free_held : (slots : List Slot) (u : ℕ) (a : Corner) → At slots u a → suc (held_in (set slots u free)) ≡ held_in slots
free_held [] u a x = absurd (free_not_held a x)
free_held (free ∷ slots) zero a x = absurd (free_not_held a x)
free_held (held b ∷ slots) zero a x = refl
free_held (free ∷ slots) (suc u) a x = free_held slots u a x
free_held (held b ∷ slots) (suc u) a x = ap suc (free_held slots u a x)

-- no more than there are records
pub held_most : (slots : List Slot) → held_in slots ≤ length slots
held_most [] = omega arith
held_most (free ∷ slots) = omega (arith, held_most slots)
held_most (held b ∷ slots) = omega (arith, held_most slots)

-- the nodes that stand, in the order of their records
nodes_in : List Slot → List Corner
nodes_in [] = []
nodes_in (free ∷ slots) = nodes_in slots
nodes_in (held b ∷ slots) = b ∷ nodes_in slots

length_nodes : (slots : List Slot) → length (nodes_in slots) ≡ held_in slots
unfolding nodes_in
length_nodes [] = refl
length_nodes (free ∷ slots) = length_nodes slots
length_nodes (held b ∷ slots) = ap suc (length_nodes slots)

nodes_at : (slots : List Slot) (a : Corner) → Memᴰ a (nodes_in slots) → (i : ℕ) × At slots i a
unfolding nodes_in
nodes_at [] a m = absurd (Memᴰ.not-nil m)
nodes_at (free ∷ slots) a m = let x = nodes_at slots a m in (suc x.0, x.1)
nodes_at (held b ∷ slots) a m = ⊎_elim (λ e. (0, ap held (sym e))) (λ n. let x = nodes_at slots a n in (suc x.0, x.1)) (Memᴰ.cases_cons m)

at_nodes : (slots : List Slot) (i : ℕ) (a : Corner) → At slots i a → Memᴰ a (nodes_in slots)
unfolding nodes_in
at_nodes [] i a x = absurd (free_not_held a x)
at_nodes (free ∷ slots) zero a x = absurd (free_not_held a x)
at_nodes (held b ∷ slots) zero a x = Memᴰ.head (sym (held_one b a x))
at_nodes (free ∷ slots) (suc i) a x = at_nodes slots i a x
at_nodes (held b ∷ slots) (suc i) a x = Memᴰ.tail (at_nodes slots i a x)

nodes_distinct : (slots : List Slot) → HeldOnce slots → Distinct (nodes_in slots)
unfolding nodes_in
nodes_distinct [] o = tt
nodes_distinct (free ∷ slots) o = nodes_distinct slots (once_tail free slots o)
nodes_distinct (held b ∷ slots) o = (
  λ m. let x = nodes_at slots b m in let e : 0 ≡ suc x.0 = o b 0 (suc x.0) refl x.1 in omega arith,
  nodes_distinct slots (once_tail (held b) slots o),
)

-- as many as there are nodes
pub held_nodes : (slots : List Slot) (ns : List Corner) → InPlace slots ns → Distinct ns → held_in slots ≡ length ns
held_nodes slots ns h d =
    let p : length (nodes_in slots) ≤ length ns = pigeon (nodes_in slots) ns (nodes_distinct slots h.once) (λ a m. let x = nodes_at slots a m in h.only a x.0 x.1) in
    let q : length ns ≤ length (nodes_in slots) = pigeon ns (nodes_in slots) d (λ a m. let x = h.stands a m in at_nodes slots x.0 a x.1) in
    omega (arith, p, q, length_nodes slots)
