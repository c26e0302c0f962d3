-- The i-th parents of a corner are the places of its lineage, and the corners of its path.
-- Assumes nothing.
use mathlib.Core.Bool.{Bool, true, false}
use mathlib.Core.List.Memᴰ
use mathlib.Core.List.{List, [], ◌∷◌, ◌++◌, Memᴰ}
use mathlib.Core.Logic.{⊎_elim}
use mathlib.Core.Path.{◌≡◌, refl, ap, sym, ◌∙◌, subst}
use Prim.Native.Nat.{ℕ, zero, suc, ◌<◌, ◌≤◌}
use native.Mathlib.Omega.{arith}
use lib.ListN.{length, get_or}
use Rattle.lists.specs.Lists.{Distinct}
use Rattle.lists.proofs.GatherLaws.{distinct_snoc}
use Rattle.grid.specs.declared.Corner.{Corner}
use Rattle.grid.specs.Tree.{root, parent_of, is_root, size_of, AncestorAt, ancestors_by, lineage_of, path_of}
use Rattle.grid.proofs.CornerLaws.{same_sound}
use Rattle.grid.proofs.PathLaws.{root_of_size, size_of-parent_of, path_of-root, path_of_snoc, tree_ind}

ancestors_root : (f : ℕ) (c : Corner) → is_root c ≡ true → ancestors_by f c ≡ []
ancestors_root zero c e = refl
ancestors_root (suc f) c e = rw (e, ancestors_by)

ancestors_enough : (f g : ℕ) (c : Corner) → size_of c ≤ f → size_of c ≤ g → ancestors_by f c ≡ ancestors_by g c
ancestors_enough zero g c p q = sym (ancestors_root g c (root_of_size c (omega arith)))
ancestors_enough (suc f) zero c p q = ancestors_root (suc f) c (root_of_size c (omega arith))
ancestors_enough (suc f) (suc g) c p q = go (is_root c) refl (λ h k. ancestors_enough f g (parent_of c) h k)
  where
    go : (b : Bool) → is_root c ≡ b → (size_of (parent_of c) ≤ f → size_of (parent_of c) ≤ g → ancestors_by f (parent_of c) ≡ ancestors_by g (parent_of c)) → ancestors_by (suc f) c ≡ ancestors_by (suc g) c
    go true e ih = rw (e, ancestors_by)
    go false e ih = rw (e, ancestors_by) (ap (λ (l : List Corner). parent_of c ∷ l) (ih (omega (arith, size_of-parent_of c e)) (omega (arith, size_of-parent_of c e))))

-- the lineage goes on with that of the parent, up to the root
pub lineage_of-root : (c : Corner) → is_root c ≡ true → lineage_of c ≡ c ∷ []
lineage_of-root c e = ap (λ (l : List Corner). c ∷ l) (ancestors_root (size_of c) c e)

pub lineage_of_cons : (c : Corner) → is_root c ≡ false → lineage_of c ≡ c ∷ lineage_of (parent_of c)
lineage_of_cons c e =
    ap (λ (l : List Corner). c ∷ l)
    (ancestors_enough (size_of c) (suc (size_of c)) c (omega arith) (omega arith)
    ∙ rw (e, ancestors_by) (ap (λ (l : List Corner). parent_of c ∷ l) (ancestors_enough (size_of c) (size_of (parent_of c)) (parent_of c) (omega (arith, size_of-parent_of c e)) (omega arith))))

-- the i-th parent is place i of the lineage
pub ancestor_place : (i : ℕ) (c a z : Corner) → AncestorAt i c a → (i < length (lineage_of c)) × (get_or (lineage_of c) i z ≡ a)
ancestor_place zero c a z h = (omega arith, sym h)
ancestor_place (suc i) c a z h =
    let k = ancestor_place i (parent_of c) a z h.1 in
    let e = lineage_of_cons c h.0 in
    (omega (arith, k.0, ap length e), ap (λ (l : List Corner). get_or l (suc i) z) e ∙ k.1)

pub place_ancestor : (i : ℕ) (c z : Corner) → i < length (lineage_of c) → AncestorAt i c (get_or (lineage_of c) i z)
place_ancestor zero c z h = refl
place_ancestor (suc i) c z h = go (is_root c) refl (λ k. place_ancestor i (parent_of c) z k)
  where
    go : (b : Bool) → is_root c ≡ b → (i < length (lineage_of (parent_of c)) → AncestorAt i (parent_of c) (get_or (lineage_of (parent_of c)) i z)) → AncestorAt (suc i) c (get_or (lineage_of c) (suc i) z)
    go true e ih = absurd (omega (arith, ap length (lineage_of-root c e)))
    go false e ih = (e, rw (lineage_of_cons c e) (ih (omega (arith, ap length (lineage_of_cons c e)))))

-- the parent of the i-th parent is the next one
pub ancestor_parent : (i : ℕ) (c a : Corner) → is_root a ≡ false → AncestorAt i c a → AncestorAt (suc i) c (parent_of a)
ancestor_parent zero c a r h = (ap is_root (sym h) ∙ r, ap parent_of h)
ancestor_parent (suc i) c a r h = (h.0, ancestor_parent i (parent_of c) a r h.1)

-- the path holds the i-th parents and nothing else
pub mem_path : (c : Corner) → Memᴰ c (path_of c)
mem_path = tree_ind (λ c. Memᴰ c (path_of c))
    (λ c e. rw (path_of-root c e) (Memᴰ.head refl))
    (λ c e ih. rw (path_of_snoc c e) (Memᴰ.append_right (path_of (parent_of c)) (Memᴰ.head refl)))

pub ancestor_path : (i : ℕ) (c a : Corner) → AncestorAt i c a → Memᴰ a (path_of c)
ancestor_path zero c a h = Memᴰ.cast h (mem_path c)
ancestor_path (suc i) c a h = rw (path_of_snoc c h.0) (Memᴰ.append_left (c ∷ []) (ancestor_path i (parent_of c) a h.1))

pub path_ancestor : (c a : Corner) → Memᴰ a (path_of c) → (i : ℕ) × AncestorAt i c a
path_ancestor c a =
    tree_ind (λ c. Memᴰ a (path_of c) → (i : ℕ) × AncestorAt i c a)
    (λ c e m. (0, Memᴰ.eq_of_singleton (subst (λ l. Memᴰ a l) (path_of-root c e) m)))
    (λ c e ih m.
    ⊎_elim
    (λ k. let h = ih k in (suc h.0, (e, h.1)))
    (λ k. (0, Memᴰ.eq_of_singleton k))
    (Memᴰ.append_cases (path_of (parent_of c)) (subst (λ l. Memᴰ a l) (path_of_snoc c e) m)))
    c

-- it starts at the root
pub path_of-first : (c : Corner) → (r : List Corner) × (path_of c ≡ root ∷ r)
path_of-first =
    tree_ind (λ c. (r : List Corner) × (path_of c ≡ root ∷ r))
    (λ c e. ([], path_of-root c e ∙ ap (λ (x : Corner). x ∷ []) (same_sound c root e)))
    (λ c e ih. (ih.0 ++ (c ∷ []), path_of_snoc c e ∙ ap (λ (l : List Corner). l ++ (c ∷ [])) ih.1))

-- no corner stands on it twice: the magnitudes grow along it
ancestor_size : (i : ℕ) (c a : Corner) → AncestorAt i c a → size_of a ≤ size_of c
ancestor_size zero c a h = omega (arith, ap size_of h)
ancestor_size (suc i) c a h = omega (arith, ancestor_size i (parent_of c) a h.1, size_of-parent_of c h.0)

pub path_of_distinct : (c : Corner) → Distinct (path_of c)
path_of_distinct =
    tree_ind (λ c. Distinct (path_of c))
    (λ c e. rw (path_of-root c e) ((λ m. Memᴰ.not-nil m), tt))
    (λ c e ih. rw (path_of_snoc c e) (distinct_snoc (path_of (parent_of c)) c ih (λ m. let h = path_ancestor (parent_of c) c m in omega (arith, ancestor_size h.0 (parent_of c) c h.1, size_of-parent_of c e))))
