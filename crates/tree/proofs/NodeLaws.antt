-- The nodes in use: a step only adds nodes, none stands twice, and each but the root comes after its parent.
-- Assumes nothing.
use mathlib.Core.Bool.{false, true≢false}
use mathlib.Core.List.Memᴰ
use mathlib.Core.List.{List, [], ◌∷◌, ◌++◌, append-nil, append_assoc, Memᴰ}
use mathlib.Core.Logic.{⊎_elim}
use mathlib.Core.Path.{◌≡◌, refl, ap, sym, ◌∙◌, subst}
use Prim.Native.Nat.{ℕ, ◌≤◌}
use native.Mathlib.Omega.{arith}
use lib.ListN.{length, length-append}
use Rattle.grid.specs.declared.Corner.{Corner}
use Rattle.grid.specs.Grid.{same, stepped, corners_from, end_from}
use Rattle.grid.specs.Tree.{parent_of, is_root, path_of}
use Rattle.lists.specs.Lists.{add, gather}
pub use Rattle.grid.proofs.AncestorLaws.{mem_path}
use Rattle.grid.proofs.CornerLaws.{same_refl, same_sound}
use Rattle.grid.proofs.PathLaws.{path_of-root, path_of_snoc, tree_ind}
use Rattle.grid.proofs.StepLaws.{corners_from_snoc}
use Rattle.lists.proofs.GatherLaws.{Distinct, gather_append, gather-more, add_cases, distinct_gather, mem-gather-right}
use Rattle.tree.specs.Nodes.{paths_of, nodes_of}
use Rattle.tree.proofs.TreeCases as cases

pub paths_of-append : (ps qs : List Corner) → paths_of (ps ++ qs) ≡ paths_of ps ++ paths_of qs
paths_of-append [] qs = refl
paths_of-append (p ∷ ps) qs = ap (λ (l : List Corner). path_of p ++ l) (paths_of-append ps qs) ∙ sym (append_assoc (path_of p) (paths_of ps) (paths_of qs))

-- one corner more: its path is gathered into the nodes
pub nodes_of_snoc : (ps : List Corner) (p : Corner) → nodes_of (ps ++ (p ∷ [])) ≡ gather same (nodes_of ps) (path_of p)
nodes_of_snoc ps p =
    ap (gather same []) (paths_of-append ps (p ∷ []) ∙ ap (λ (l : List Corner). paths_of ps ++ l) (append-nil (path_of p)))
    ∙ gather_append same [] (paths_of ps) (path_of p)

nodes_of_extend : (ps : List Corner) (p : Corner) → (r : List Corner) × (nodes_of (ps ++ (p ∷ [])) ≡ nodes_of ps ++ r)
nodes_of_extend ps p = let h = gather-more same (nodes_of ps) (path_of p) in (h.0, nodes_of_snoc ps p ∙ h.1)

pub nodes_of_distinct : (ps : List Corner) → Distinct (nodes_of ps)
nodes_of_distinct ps = distinct_gather same same_sound same_refl [] (paths_of ps) tt

-- each element of the second list is the root or comes after its parent
abbrev pub Rooted : List Corner → List Corner → Type 0
Rooted seen [] = Unit {0}
Rooted seen (c ∷ cs) = (is_root c ≡ false → Memᴰ (parent_of c) seen) × Rooted (seen ++ (c ∷ [])) cs

rooted_snoc : (seen s : List Corner) (c : Corner) → Rooted seen s → (is_root c ≡ false → Memᴰ (parent_of c) (seen ++ s)) → Rooted seen (s ++ (c ∷ []))
rooted_snoc seen [] c r h = (λ e. rw append-nil at (h e), tt)
rooted_snoc seen (x ∷ s) c r h = (r.0, rooted_snoc (seen ++ (x ∷ [])) s c r.1 (λ e. rw append_assoc (h e)))

rooted-add : (s : List Corner) (c : Corner) → Rooted [] s → (is_root c ≡ false → Memᴰ (parent_of c) s) → Rooted [] (add same s c)
rooted-add s c r h = ⊎_elim (λ k. rw k.1 r) (λ k. rw k.1 (rooted_snoc [] s c r h)) (add_cases same s c)

rooted_path : (c : Corner) (s : List Corner) → Rooted [] s → Rooted [] (gather same s (path_of c))
rooted_path = tree_ind (λ c. (s : List Corner) → Rooted [] s → Rooted [] (gather same s (path_of c)))
    (λ c e s r. rw (path_of-root c e) (rooted-add s c r (λ f. absurd (true≢false (sym e ∙ f)))))
    (λ c e ih s r.
    rw (path_of_snoc c e, gather_append same s (path_of (parent_of c)) (c ∷ []))
    (rooted-add (gather same s (path_of (parent_of c))) c (ih s r) (λ f. mem-gather-right same same_sound same_refl s (path_of (parent_of c)) (mem_path (parent_of c)))))

rooted_paths : (s ps : List Corner) → Rooted [] s → Rooted [] (gather same s (paths_of ps))
rooted_paths s [] r = r
rooted_paths s (p ∷ ps) r = rw (gather_append same s (path_of p) (paths_of ps)) (rooted_paths (gather same s (path_of p)) ps (rooted_path p s r))

pub nodes_of-rooted : (ps : List Corner) → Rooted [] (nodes_of ps)
nodes_of-rooted ps = rooted_paths [] ps tt

pub mem_paths : (ps : List Corner) {p a : Corner} → Memᴰ p ps → Memᴰ a (path_of p) → Memᴰ a (paths_of ps)
mem_paths [] {p = p} {a = a} k m = elim k [ ]
mem_paths (x ∷ ps) {p} {a} (Memᴰ.head e) m = Memᴰ.append_left (paths_of ps) (subst (λ y. Memᴰ a (path_of y)) e m)
mem_paths (x ∷ ps) (Memᴰ.tail n) m = Memᴰ.append_right (path_of x) (mem_paths ps n m)

pub mem_paths_cases : (ps : List Corner) {a : Corner} → Memᴰ a (paths_of ps) → (p : Corner) × Memᴰ p ps × Memᴰ a (path_of p)
mem_paths_cases [] m = absurd (Memᴰ.not-nil m)
mem_paths_cases (p ∷ ps) {a} m =
    ⊎_elim
    (λ k. (p, Memᴰ.head refl, k))
    (λ k. let h = mem_paths_cases ps k in (h.0, Memᴰ.tail h.1, h.2))
    (Memᴰ.append_cases (path_of p) m)

nodes_grow : (c : Corner) (s : List ℕ) (d : ℕ) → length (nodes_of (corners_from c s)) ≤ length (nodes_of (corners_from c (s ++ (d ∷ []))))
nodes_grow c s d =
    let h = nodes_of_extend (corners_from c s) (stepped d (end_from c s)) in
    omega (arith, ap (λ (l : List Corner). length (nodes_of l)) (corners_from_snoc c s d), ap length h.1, length-append (nodes_of (corners_from c s)) h.0)

pub nodes_mono : (c : Corner) (s ds : List ℕ) → length (nodes_of (corners_from c s)) ≤ length (nodes_of (corners_from c (s ++ ds)))
nodes_mono c s [] = omega (arith, ap (λ (l : List ℕ). length (nodes_of (corners_from c l))) (append-nil s))
nodes_mono c s (d ∷ ds) = omega (arith, nodes_grow c s d, nodes_mono c (s ++ (d ∷ [])) ds, ap (λ (l : List ℕ). length (nodes_of (corners_from c l))) (append_assoc s (d ∷ []) ds))
