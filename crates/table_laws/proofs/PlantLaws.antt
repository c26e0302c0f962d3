-- The ancestors of the start, planted from the root down, each as the child of the one before.
-- Assumes nothing.
use mathlib.Core.Bool.{Bool, true, false, cond}
use mathlib.Core.List.{List, [], ◌∷◌, ◌++◌}
use mathlib.Core.Path.{◌≡◌, refl, ap, sym, ◌∙◌, subst}
use Prim.Native.Nat.{ℕ, zero, suc, ◌+◌, ◌-◌, ◌≤◌, pred}
use native.Mathlib.Omega.{arith}
use lib.ListN.{length, length-append, replicate, replicate-append-replicate}
use Rattle.grid.specs.declared.Corner.{Corner}
use Rattle.grid.specs.Grid.{same}
use Rattle.grid.specs.Tree.{root, parent_of, is_root, up_by, path_of}
use Rattle.lists.specs.Lists.{any, place, tally}
use Rattle.tree.specs.Nodes.{ref_of}
use Rattle.layout.specs.Table.{width, table_of}
use Rattle.tree_laws.specs.State.{later, state_of, planted_of, grown, visited_by, Alike, Sound, WellLinked, table_by}
use Rattle.grid.proofs.CornerLaws.{same_refl, same_sound}
use Rattle.grid.proofs.PathLaws.{path_of-root, path_of_snoc}
use Rattle.tree.proofs.StartLaws.{nodes_start}
use Rattle.tree_laws.proofs.PushLaws.{good_walk}
use Rattle.tree_laws.proofs.AddLaws.{ref_snoc, path_below}
use Rattle.table_laws.proofs.RowLaws.{table_state}
use Rattle.table_laws.proofs.StateLaws.{grown_new}
use Rattle.table_laws.proofs.CellLaws.{alike_table}

-- one node more, as `child` makes it for step 0
pub planted_next : (c : Corner) → is_root c ≡ false → Alike (grown (planted_of (parent_of c)) c 0) (planted_of c)
planted_next c e = rw (grown_new (planted_of (parent_of c)) c 0 (path_below c e)) (record {
  nodes = sym (path_of_snoc c e);
  step = λ x y f. refl;
  visits = λ x. refl;
  need = λ x. go (same x c);
  first = λ x. refl;
  edges = λ x y. refl;
})
  where
    go : (b : Bool) → let z : ℕ = 0 in cond b z z ≡ z
    go true = refl
    go false = refl

-- the root alone, unvisited: a table of zeros
pub planted_root : (words : ℕ) → width ≤ words → replicate words 0 ≡ table_by words (planted_of root)
planted_root words h =
    let e : words ≡ width + (words - width) = omega arith in
    ap (λ (n : ℕ). replicate n 0) e ∙ sym (replicate-append-replicate width (words - width) 0)

pub planted_sound : (c : Corner) → Sound (planted_of c)
planted_sound c = record {
  good = subst (λ (l : List Corner). WellLinked l (λ x y. 0)) (nodes_start c) (good_walk c []);
  unvisited = λ x f. refl;
  unneeded = λ x f. refl;
  unseen = λ x f. refl;
  fewer = λ x h. refl;
  more = λ x h. refl;
  paired = λ x y. refl;
  unwalked = λ x y f. refl;
}

-- and the visit: the walk with no step
pub planted_alike : (c : Corner) → Alike (state_of (c ∷ [])) (visited_by (planted_of c) c 0)
planted_alike c = record {
  nodes = nodes_start c;
  step = λ x y f. refl;
  visits = λ x. one (same x c);
  need = λ x. none (any (same x) (path_of c));
  first = λ x. two (same x c);
  edges = λ x y. refl;
}
  where
    one : (b : Bool) → tally b + 0 ≡ 0 + tally b
    one b = omega arith

    none : (b : Bool) → pred (place b 0) ≡ 0
    none true = refl
    none false = refl

    two : (b : Bool) → place b 0 ≡ later 0 b 1
    two true = refl
    two false = refl

pub planted_visit : (words : ℕ) (c : Corner) → table_by words (visited_by (planted_of c) c 0) ≡ table_of words c []
planted_visit words c = sym (table_state words c [] ∙ alike_table words (state_of (c ∷ [])) (visited_by (planted_of c) c 0) (planted_alike c))

-- ---- how long the paths are
pub length_path : (c : Corner) → is_root c ≡ false → length (path_of c) ≡ suc (length (path_of (parent_of c)))
length_path c e = ap length (path_of_snoc c e) ∙ length_snoc (path_of (parent_of c))
  where
    length_snoc : (l : List Corner) → length (l ++ (c ∷ [])) ≡ suc (length l)
    length_snoc l = omega (arith, length-append l (c ∷ []))

-- the root's parent is the root
parent_root : (c : Corner) → is_root c ≡ true → parent_of c ≡ c
parent_root c e = let p : c ≡ root = same_sound c root e in ap parent_of p ∙ sym p

pub path_up : (c : Corner) (i : ℕ) → length (path_of (up_by i c)) ≤ length (path_of c)
path_up c zero = omega arith
path_up c (suc i) = go (is_root (up_by i c)) refl (path_up c i)
  where
    a : Corner
    a = up_by i c

    go : (b : Bool) → is_root a ≡ b → length (path_of a) ≤ length (path_of c) → length (path_of (parent_of a)) ≤ length (path_of c)
    go true e ih = subst (λ (x : Corner). length (path_of x) ≤ length (path_of c)) (sym (parent_root a e)) ih
    go false e ih = omega (arith, length_path a e)

-- a node is the last of its path
pub ref_path : (c : Corner) → ref_of (path_of c) c ≡ length (path_of c)
ref_path c = go (is_root c) refl
  where
    go : (b : Bool) → is_root c ≡ b → ref_of (path_of c) c ≡ length (path_of c)
    go true e = rw (path_of-root c e) (ap (λ (b : Bool). place b 0) (same_refl c))
    go false e = ap (λ (l : List Corner). ref_of l c) (path_of_snoc c e) ∙ ref_snoc (path_of (parent_of c)) c (path_below c e) ∙ sym (length_path c e)
