-- A child found or made, on lists, and what follows if the table is full.
-- Assumes nothing.
use mathlib.Core.Bool.{Bool, true, false}
use mathlib.Core.List.{List, [], ◌∷◌, ◌++◌, Memᴰ}
use mathlib.Core.Path.{◌≡◌, refl, ap, sym, ◌∙◌, subst}
use Prim.Native.Nat.{ℕ, zero, suc, ◌+◌, ◌-◌, ◌*◌, ◌≤◌}
use native.Mathlib.Omega.{arith}
use borrow.Author.Tests.{ltb-true, ltb-false}
use lib.Dec.{ltb}
use lib.ListN.{length, length-append, length-replicate, get_or, set, replicate}
use Rattle.grid.specs.declared.Corner.{Corner}
use Rattle.grid.specs.Grid.{same, stepped}
use Rattle.grid.specs.Tree.{root, parent_of, is_root, child_word}
use Rattle.lists.specs.Lists.{add}
use Rattle.tree.specs.Nodes.{ref_of}
use Rattle.layout.specs.Table.{width, records_in, word_at, parent_word, need_word}
use Rattle.tree_laws.specs.State.{State, with_node, grown, Sound, record_by, rows_by, table_by, Made}
use Rattle.grid.proofs.CornerLaws.{same_refl, same_sound}
use Rattle.layout.proofs.ChildLaws.{child_ref}
use Rattle.lists.proofs.FindLaws.{find-any}
use Rattle.lists.proofs.GatherLaws.{any→mem}
use Rattle.tree_laws.proofs.AddLaws.{ref_pos, ref_none, ref_snoc}
use Rattle.tree_laws.proofs.LevelLaws.{add_known}
use Rattle.table_laws.specs.Model.{Out, out, child_in, link_in, join_in, finish_in}
use Rattle.table_laws.proofs.RowLaws.{length-rows}
use Rattle.table_laws.proofs.StateLaws.{grown_known, grown_new, by-mem, add_new}
use Rattle.table_laws.proofs.CellLaws.{wide, read_child}
use Rattle.table_laws.proofs.StoreLaws.{node_table, child_word_small}

pub length_table : (words : ℕ) (S : State) → width * length S.nodes ≤ words → length (table_by words S) ≡ words
length_table words S h =
    let rs = rows_by (record_by S) S.nodes in
    let z : ℕ = 0 in
    omega (arith, length-append rs (replicate (words - length rs) z), length-replicate (words - length rs) z, length-rows (record_by S) (wide S) S.nodes)

-- what stands in o is the table, the ref of e and the number of nodes of the state T, if they have space
abbrev pub MadeBy : ℕ → State → Corner → Out → Type 0
MadeBy words T e o = Made words T e o.table o.at o.nodes

-- `child`: the node e under its parent, of ref 1 + u
pub child_made : (words : ℕ) (S : State) → Sound S → (e : Corner) (s u : ℕ) → is_root e ≡ false → Memᴰ (parent_of e) S.nodes → ref_of S.nodes (parent_of e) ≡ suc u → width * length S.nodes ≤ words
    → (o : Out) → child_in (table_by words S) (length S.nodes) u (child_word e) s ≡ o → MadeBy words (grown S e s) e o
child_made words S sound e s u deep m r room o q =
    subst (MadeBy words (grown S e s) e) q
    (by-mem e S.nodes (MadeBy words (grown S e s) e o₁) known new)
  where
    o₁ : Out
    o₁ = child_in (table_by words S) (length S.nodes) u (child_word e) s

    word : get_or (table_by words S) (word_at u (child_word e)) 0 ≡ ref_of S.nodes e
    word = let w = child_word_small e in read_child words S (parent_of e) u r (child_word e) w.0 w.1 ∙ child_ref S.nodes e deep

    known : Memᴰ e S.nodes → MadeBy words (grown S e s) e o₁
    known k = rw (grown_known S e s k) (go (ref_of S.nodes e) refl)
      where
        go : (n : ℕ) → ref_of S.nodes e ≡ n → MadeBy words S e o₁
        go zero p = absurd (omega (arith, ref_pos S.nodes e k))
        go (suc n) p =
            let x : o₁ ≡ out (table_by words S) (suc n) (length S.nodes) = rw (word ∙ p, child_in) in
            subst (MadeBy words S e) (sym x) (record { fits = λ f. (refl, sym p, refl); full = λ f. absurd (omega arith) })

    new : (Memᴰ e S.nodes → ⊥) → MadeBy words (grown S e s) e o₁
    new f = rw (grown_new S e s f) (go (ltb (length S.nodes) (records_in (length (table_by words S)))) refl)
      where
        n : ℕ
        n = length S.nodes

        more : length (S.nodes ++ (e ∷ [])) ≡ suc (length S.nodes)
        more = length-append S.nodes (e ∷ []) ∙ (omega arith)

        go : (b : Bool) → ltb (length S.nodes) (records_in (length (table_by words S))) ≡ b → MadeBy words (with_node S e s) e o₁
        go true p =
            let l = ltb-true (length S.nodes) (records_in (length (table_by words S))) p in
            let x : o₁ ≡ out (set (set (set (table_by words S) (word_at u (child_word e)) (length S.nodes + 1)) (word_at (length S.nodes) parent_word) (u + 1)) (word_at (length S.nodes) need_word) s) (length S.nodes + 1) (length S.nodes + 1) = rw (word ∙ ref_none S.nodes e f, p, child_in) in
            subst (MadeBy words (with_node S e s) e) (sym x) (record {
              fits = λ g. (node_table S sound e s deep m f words u r (omega (arith, length_table words S room)), sym (ref_snoc S.nodes e f ∙ (omega arith)), sym (more ∙ (omega arith)));
              full = λ g. absurd (omega (arith, length_table words S room, more));
            })
        go false p =
            let l = ltb-false (length S.nodes) (records_in (length (table_by words S))) p in
            let x : o₁ ≡ out (table_by words S) 0 (length S.nodes) = rw (word ∙ ref_none S.nodes e f, p, child_in) in
            subst (MadeBy words (with_node S e s) e) (sym x) (record { fits = λ g. absurd (omega (arith, length_table words S room, more)); full = λ g. refl })

pub join-none : (v : Out) (u d s : ℕ) → v.at ≡ 0 → join_in v u d s ≡ v
join-none v u d s q = ap (λ (n : ℕ). either n) q
  where
    either : ℕ → Out
    either n = elim n [ zero ↦ v | suc k ↦ out (link_in v.table u k d s) (suc k) v.nodes ]

pub finish_none : (o : Out) (u : ℕ) (e : Corner) (d s : ℕ) → o.at ≡ 0 → finish_in o u e d s ≡ o
finish_none o u e d s q = ap (λ (n : ℕ). either n) q
  where
    either : ℕ → Out
    either n = elim n [ zero ↦ o | suc p ↦ join_in (child_in o.table o.nodes p (child_word e) s) u d s ]

pub root_child : (d : ℕ) → parent_of (stepped d root) ≡ root
root_child zero = refl
root_child (suc zero) = refl
root_child (suc (suc zero)) = refl
root_child (suc (suc (suc d))) = refl

pub mem_of_ref : (ns : List Corner) (a : Corner) (u : ℕ) → ref_of ns a ≡ suc u → Memᴰ a ns
mem_of_ref ns a u h = any→mem same same_sound same_refl a ns (find-any (same a) ns (omega arith))

pub grown_nodes : (T : State) (e : Corner) (s : ℕ) → (grown T e s).nodes ≡ add same T.nodes e
grown_nodes T e s =
    by-mem e T.nodes ((grown T e s).nodes ≡ add same T.nodes e)
    (λ m. ap (λ (x : State). x.nodes) (grown_known T e s m) ∙ sym (add_known T.nodes e m))
    (λ f. ap (λ (x : State). x.nodes) (grown_new T e s f) ∙ sym (add_new T.nodes e f))
