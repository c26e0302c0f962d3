-- The numbers of the nodes: in the order of the step that first needs them, and an ancestor before those below it.
-- Assumes nothing.
use mathlib.Core.Bool.{Bool, true}
use mathlib.Core.List.{List, [], ◌++◌, Memᴰ}
use mathlib.Core.Logic.{⊎_elim}
use mathlib.Core.Path.{◌≡◌, refl, ap, sym, ◌∙◌, subst}
use Prim.Native.Nat.{ℕ, zero, suc, ◌+◌, ◌<◌, ◌≤◌, pred}
use native.Mathlib.Omega.{arith}
use lib.ListN.{length, get_or, take, drop, take-append-drop}
use lib.Seq.{length-take-le, get_or-take}
use Rattle.lists.specs.Lists.{any, find, gather}
use Rattle.lists.proofs.DistinctLaws.{mem_get_d, get_d_mem}
use Rattle.lists.proofs.FindLaws.{find_le, find_pos, find-left, find-right, find_get}
use Rattle.lists.proofs.GatherLaws.{gather_append, gather-more, any→mem, mem→any}
use Rattle.lists.proofs.ZipLaws.{find_least}
use Rattle.grid.specs.declared.Corner.{Corner}
use Rattle.grid.specs.Grid.{origin, same}
use Rattle.grid.specs.Tree.{parent_of, AncestorAt, path_of}
use Rattle.grid.proofs.AncestorLaws.{ancestor_path, path_ancestor}
use Rattle.grid.proofs.CornerLaws.{same_refl, same_sound}
use Rattle.tree.specs.Nodes.{paths_of, nodes_of, ref_of, need_of, InUse}
use Rattle.tree.proofs.InUseLaws.{node_in_use, in_use_node, parent_in_use}
use Rattle.tree.proofs.NodeLaws.{paths_of-append}
use Rattle.tree.proofs.RefLaws.{not_any, ref_parent}

-- nearer the root first
pub ref_ancestor : (ps : List Corner) (i : ℕ) (b a : Corner) → InUse ps b → AncestorAt (suc i) b a → ref_of (nodes_of ps) a < ref_of (nodes_of ps) b
ref_ancestor ps zero b a u h = subst (λ x. ref_of (nodes_of ps) x < ref_of (nodes_of ps) b) (sym h.1) (ref_parent ps b (in_use_node ps b u) h.0).1
ref_ancestor ps (suc i) b a u h =
    omega (arith, ref_ancestor ps i (parent_of b) a (parent_in_use ps b h.0 u) h.1, (ref_parent ps b (in_use_node ps b u) h.0).1)

abbrev on_path : Corner → Corner → Bool
on_path a p = any (same a) (path_of p)

-- a node in use is on the path of the corner of the step that needs it, and of no earlier one
pub need-there : (ps : List Corner) (a : Corner) → InUse ps a → (need_of ps a < length ps) × ((i : ℕ) × AncestorAt i (get_or ps (need_of ps a) origin) a)
need-there ps a u = by (find (on_path a) ps) refl
  where
    by : (n : ℕ) → find (on_path a) ps ≡ n → (pred n < length ps) × ((i : ℕ) × AncestorAt i (get_or ps (pred n) origin) a)
    by zero e =
        let k = get_d_mem ps origin u.1 in
        let p : on_path a (get_or ps k.0 origin) ≡ true = mem→any same same_sound same_refl (ancestor_path u.2.0 (get_or ps k.0 origin) a (subst (λ x. AncestorAt u.2.0 x a) (sym k.2) u.2.1)) in
        absurd (omega (arith, (find_least (on_path a) ps k.0 origin k.1 p).0))
    by (suc k) e =
        let h = find_get (on_path a) ps k origin e in
        (h.0, path_ancestor (get_or ps k origin) a (any→mem same same_sound same_refl a (path_of (get_or ps k origin)) h.1))

pub need_least : (ps : List Corner) (a : Corner) (k i : ℕ) → k < length ps → AncestorAt i (get_or ps k origin) a → need_of ps a ≤ k
need_least ps a k i h u = pred_le (find (on_path a) ps) (find_least (on_path a) ps k origin h (mem→any same same_sound same_refl (ancestor_path i (get_or ps k origin) a u))).1
  where
    pred_le : (n : ℕ) → n ≤ suc k → pred n ≤ k
    pred_le zero l = omega arith
    pred_le (suc n) l = omega arith

-- what is in use after the first corners is numbered first
nodes_of-append : (ps qs : List Corner) → (r : List Corner) × (nodes_of (ps ++ qs) ≡ nodes_of ps ++ r)
nodes_of-append ps qs =
    let h = gather-more same (nodes_of ps) (paths_of qs) in
    (h.0, ap (gather same []) (paths_of-append ps qs) ∙ gather_append same [] (paths_of ps) (paths_of qs) ∙ h.1)

early_first : (ps qs : List Corner) (a b : Corner) → InUse ps a → (InUse ps b → ⊥) → InUse (ps ++ qs) b → ref_of (nodes_of (ps ++ qs)) a < ref_of (nodes_of (ps ++ qs)) b
early_first ps qs a b u f v =
    let h = nodes_of-append ps qs in
    let e = h.1 in
    let x : ref_of (nodes_of (ps ++ qs)) a ≡ ref_of (nodes_of ps) a = ap (find (same a)) e ∙ find-left (same a) (nodes_of ps) h.0 (mem→any same same_sound same_refl (in_use_node ps a u)) in
    let m : Memᴰ b h.0 = ⊎_elim (λ k. absurd (f (node_in_use ps b k))) (λ k. k) (mathlib.Core.List.Memᴰ.append_cases (nodes_of ps) (subst (λ l. Memᴰ b l) e (in_use_node (ps ++ qs) b v))) in
    let p : 0 < find (same b) h.0 = find_pos (same b) h.0 (mem→any same same_sound same_refl m) in
    let y : ref_of (nodes_of (ps ++ qs)) b ≡ length (nodes_of ps) + find (same b) h.0 = ap (find (same b)) e ∙ find-right (same b) (nodes_of ps) h.0 (not_any b (nodes_of ps) (λ k. f (node_in_use ps b k))) p in
    omega (arith, x, y, p, find_le (same a) (nodes_of ps))

-- what is in use after the first k corners was needed by one of them
need_among : (ps : List Corner) (b : Corner) (k : ℕ) → k ≤ length ps → InUse (take k ps) b → need_of ps b < k
need_among ps b k h x =
    let m = get_d_mem (take k ps) origin x.1 in
    let l : m.0 < k = subst (λ (n : ℕ). m.0 < n) (length-take-le k ps h) m.1 in
    let g : get_or ps m.0 origin ≡ x.0 = sym (get_or-take k ps m.0 origin l) ∙ m.2 in
    let n = need_least ps b m.0 x.2.0 (omega (arith, l, h)) (subst (λ c. AncestorAt x.2.0 c b) (sym g) x.2.1) in
    omega (arith, l, n)

-- what an earlier step needs is numbered first
pub need_order : (ps : List Corner) (a b : Corner) → InUse ps a → InUse ps b → need_of ps a < need_of ps b → ref_of (nodes_of ps) a < ref_of (nodes_of ps) b
need_order ps a b u v h =
    let k = need_of ps a in
    let s = take (suc k) ps in
    let t = need-there ps a u in
    let l : length s ≡ suc k = length-take-le (suc k) ps (omega (arith, t.0)) in
    let w : ps ≡ s ++ drop (suc k) ps = sym (take-append-drop (suc k) ps) in
    let g : get_or s k origin ≡ get_or ps k origin = get_or-take (suc k) ps k origin (omega arith) in
    let x : InUse s a = (get_or s k origin, mem_get_d s k origin (omega arith), (t.1.0, subst (λ c. AncestorAt t.1.0 c a) (sym g) t.1.1)) in
    subst (λ (l : List Corner). ref_of (nodes_of l) a < ref_of (nodes_of l) b) (sym w)
    (early_first s (drop (suc k) ps) a b x (λ y. omega (arith, need_among ps b (suc k) (omega (arith, t.0)) y)) (subst (λ l. InUse l b) w v))
