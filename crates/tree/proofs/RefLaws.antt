-- The ref of a node: 1 + its place in the list of nodes. A parent's is below its child's.
-- Assumes nothing.
use mathlib.Core.Bool.{Bool, true, false}
use mathlib.Core.List.Memᴰ
use mathlib.Core.List.{List, [], ◌∷◌, ◌++◌, append-nil, append_assoc, Memᴰ}
use mathlib.Core.Logic.{⊎_elim}
use mathlib.Core.Path.{◌≡◌, refl, ap, sym, ◌∙◌, subst}
use Prim.Native.Nat.{ℕ, ◌+◌, ◌<◌}
use native.Mathlib.Omega.{arith}
use lib.ListN.{length}
use Rattle.grid.specs.declared.Corner.{Corner}
use Rattle.grid.specs.Grid.{same}
use Rattle.grid.specs.Tree.{parent_of, is_root}
use Rattle.lists.specs.Lists.{any, find}
use Rattle.grid.proofs.CornerLaws.{same_refl, same_sound}
use Rattle.lists.proofs.FindLaws.{find_le, find_pos, find-left, find-right, distinct_split}
use Rattle.lists.proofs.GatherLaws.{Distinct, any→mem, mem→any}
use Rattle.tree.specs.Nodes.{nodes_of, ref_of}
use Rattle.tree.proofs.NodeLaws.{Rooted, nodes_of-rooted, nodes_of_distinct}

-- the node before it in the list, and the ref's order
rooted-mem : (seen l : List Corner) (c : Corner) → Rooted seen l → Memᴰ c l → is_root c ≡ false
    → (s : List Corner) × (t : List Corner) × (l ≡ s ++ (c ∷ t)) × Memᴰ (parent_of c) (seen ++ s)
rooted-mem seen [] c r m e = elim m [ ]
rooted-mem seen (x ∷ l) c r m e =
    ⊎_elim
    (λ h. ([], l, ap (λ (y : Corner). y ∷ l) (sym h), rw (append-nil seen) (subst (λ y. Memᴰ (parent_of y) seen) (sym h) (r.0 (ap is_root (sym h) ∙ e)))))
    (λ n.
    let k = rooted-mem (seen ++ (x ∷ [])) l c r.1 n e in
    (x ∷ k.0, k.1, ap (λ (y : List Corner). x ∷ y) k.2, rw append_assoc at k.3))
    (Memᴰ.cases_cons m)

pub not_any : (x : Corner) (s : List Corner) → (Memᴰ x s → ⊥) → any (same x) s ≡ false
not_any x s f = go (any (same x) s) refl
  where
    go : (b : Bool) → any (same x) s ≡ b → any (same x) s ≡ false
    go true e = absurd (f (any→mem same same_sound same_refl x s e))
    go false e = e

-- the place of an element of a list with no repeats
find_at : (s t : List Corner) (c : Corner) → Distinct (s ++ (c ∷ t)) → find (same c) (s ++ (c ∷ t)) ≡ length s + 1
find_at s t c d =
    let one : find (same c) (c ∷ t) ≡ 1 = rw (same_refl c, find) in
    find-right (same c) s (c ∷ t) (not_any c s (distinct_split s t c d)) (omega (arith, one)) ∙ ap (λ (n : ℕ). length s + n) one

pub ref_parent : (ps : List Corner) (c : Corner) → Memᴰ c (nodes_of ps) → is_root c ≡ false → (0 < ref_of (nodes_of ps) (parent_of c)) × (ref_of (nodes_of ps) (parent_of c) < ref_of (nodes_of ps) c)
ref_parent ps c m e =
    let h = rooted-mem [] (nodes_of ps) c (nodes_of-rooted ps) m e in
    let s = h.0 in
    let a : any (same (parent_of c)) s ≡ true = mem→any same same_sound same_refl h.3 in
    let p : ref_of (nodes_of ps) (parent_of c) ≡ find (same (parent_of c)) s = ap (find (same (parent_of c))) h.2 ∙ find-left (same (parent_of c)) s (c ∷ h.1) a in
    let q : ref_of (nodes_of ps) c ≡ length s + 1 = ap (find (same c)) h.2 ∙ find_at s h.1 c (subst (λ l. Distinct l) h.2 (nodes_of_distinct ps)) in
    (omega (arith, p, find_pos (same (parent_of c)) s a), omega (arith, p, q, find_le (same (parent_of c)) s))
