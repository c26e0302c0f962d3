-- The starts of two parties: the first planted in a cleared table, the second in what that leaves.
-- Assumes nothing.
use Rattle.std.specs.Prelude.{None, Some}
use mathlib.Core.List.{List, [], ◌∷◌, Memᴰ}
use mathlib.Core.Logic.{⊎_elim}
use mathlib.Core.Path.{◌≡◌, refl, sym, subst, subst₂}
use Prim.Native.Nat.{ℕ, zero, suc, ◌<◌, ◌≤◌}
use native.Mathlib.Omega.{arith}
use lib.ListN.{length}
use Rattle.pair_table_laws.specs.Stores.{root_table}
use Rattle.answer.specs.Limits.{Near}
use Rattle.grid.specs.declared.Corner.{Corner}
use Rattle.grid.specs.Tree.{root, path_of}
use Rattle.tree_laws.specs.State.{state_of, planted_of}
use Rattle.tree.proofs.StartLaws.{nodes_start}
use Rattle.pair_table.specs.Slots.{Slot, held, needs_of, placed_all, slots_at_start}
use Rattle.pair_table.specs.Words.{pair_width, pair_records_in}
use Rattle.pair_laws.specs.Stand.{At}
use Rattle.pair_laws.proofs.SlotLaws.{all_keeps, all-at, held_one, free_not_held}
use Rattle.pair_laws.proofs.UnionLaws.{union_left, union_right, root-needed}
use Rattle.pair_table_laws.specs.Hold.{Both, with_party}
use Rattle.pair_table_laws.proofs.EndLaws.{walked_start}
use Rattle.pair_table_laws.proofs.PlantLaws.{root_settled, start_settled, starts_are}
use Rattle.pair_table_laws.proofs.RefLaws.{ref_at}
use Rattle.pair_child.specs.declared.Located.{Located}
use Rattle.pair_child.specs.declared.Stock.{Stock}
use Rattle.pair_child.specs.Finds.{StockIs, Finds}
use Rattle.pair_plant.specs.Plants.{root_stock, Plants}
use Rattle.pair_plant.proofs.GrowLaws.{root_plants}
use Rattle.pair_move.proofs.MoveLaws.{party_new}
use Rattle.walk_step.proofs.ChainLaws.{keeps_none}
use Rattle.pair_run.specs.declared.Pair.{Pair}
use Rattle.pair_call.specs.Parts.{parties_at, PairPlanted}

-- the root alone
abbrev roots : List Slot
roots = held root ∷ []

abbrev rooted : Both
rooted = λ p. planted_of root

root-at : (c e : Corner) (b : Corner) (i : ℕ) → At (held root ∷ []) i b → Memᴰ b (needs_of c e [] [])
root-at c e b zero x = subst (λ (z : Corner). Memᴰ z (needs_of c e [] [])) (held_one root b x) (root-needed c e [] [])
root-at c e b (suc i) x = absurd (free_not_held b x)

-- the paths of both starts are needed
path_first : (c e x : Corner) → Memᴰ x (path_of c) → Memᴰ x (needs_of c e [] [])
path_first c e x m = union_left (c ∷ []) (e ∷ []) (subst (Memᴰ x) (sym (nodes_start c)) m)

path_second : (c e x : Corner) → Memᴰ x (path_of e) → Memᴰ x (needs_of c e [] [])
path_second c e x m = union_right (c ∷ []) (e ∷ []) (subst (Memᴰ x) (sym (nodes_start e)) m)

-- what the first finds
pub first_plants : (words : ℕ) → pair_width ≤ words → (t : List ℕ) (s : Stock) → t ≡ root_table words → s ≡ root_stock → Plants t (held root ∷ []) (λ p. planted_of root) 0 s
first_plants words room t s i j = subst₂ (λ (l : List ℕ) (x : Stock). Plants l (held root ∷ []) (λ p. planted_of root) 0 x) (sym i) (sym j) (root_plants words room 0)

module _ (c e : Corner) (near : Near c) (near' : Near e) (words : ℕ) (t t₁ : List ℕ) (long : length t ≡ words) where
  abbrev slots : List Slot
  slots = placed_all roots (path_of c)

  -- the table is too small for the first
  pub first_full : Finds (λ p. planted_of root) (held root ∷ []) 0 (state_of (c ∷ [])) c t t₁ None → pair_records_in words < length (needs_of c e [] [])
  first_full f = subst (λ (n : ℕ). pair_records_in n < length (needs_of c e [] [])) long (f (needs_of c e [] []) (root-at c e) (path_first c e))

  module _ (one : Located) (f : Finds (λ p. planted_of root) (held root ∷ []) 0 (state_of (c ∷ [])) c t t₁ (Some one)) where
    -- what the second finds
    pub second_plants : Plants t₁ (placed_all (held root ∷ []) (path_of c)) (with_party (λ p. planted_of root) 0 (state_of (c ∷ []))) 1 one.stock
    second_plants = record {
      table = f.0.table;
      settled = start_settled rooted roots 0 (omega arith) root_settled refl c;
      own = refl;
      top = all_keeps roots (path_of c) 0 root refl;
      stock = f.1;
    }

    module _ (t₂ : List ℕ) (long₁ : length t₁ ≡ words) where
      -- the table is too small for the second
      pub second_full : Finds (with_party (λ p. planted_of root) 0 (state_of (c ∷ []))) (placed_all (held root ∷ []) (path_of c)) 1 (state_of (e ∷ [])) e t₁ t₂ None → pair_records_in words < length (needs_of c e [] [])
      second_full g =
          subst (λ (n : ℕ). pair_records_in n < length (needs_of c e [] [])) long₁
          (g (needs_of c e [] []) (λ b i x. ⊎_elim (λ h. root-at c e b i h) (λ m. path_first c e b m) (all-at roots (path_of c) i b x)) (path_second c e))

      -- both stand at their starts
      pub both_planted : (two : Located) → Finds (with_party (λ p. planted_of root) 0 (state_of (c ∷ []))) (placed_all (held root ∷ []) (path_of c)) 1 (state_of (e ∷ [])) e t₁ t₂ (Some two)
          → (w : Pair) → w ≡ parties_at c one e two → PairPlanted words c e t₂ (Some w)
      both_planted two g w i =
          let all = placed_all slots (path_of e) in
          let x : At (slots_at_start c e) one.node c = subst (λ (l : List Slot). At l one.node c) (starts_are c e) (all_keeps slots (path_of e) one.node c (ref_at slots one.node c f.0.ref)) in
          let y : At (slots_at_start c e) two.node e = subst (λ (l : List Slot). At l two.node e) (starts_are c e) (ref_at all two.node e g.0.ref) in
          subst (λ (v : Pair). PairPlanted words c e t₂ (Some v)) (sym i) (
            refl,
            refl,
            λ a b. record {
              walked = walked_start t₂ c e g.0.table;
              stock = subst (StockIs two.stock) (starts_are c e) g.1;
              one-is = party_new (slots_at_start c e) c one.node x;
              two_is = party_new (slots_at_start c e) e two.node y;
              one_keeps = keeps_none c a near;
              two_keeps = keeps_none e b near';
            },
          )
