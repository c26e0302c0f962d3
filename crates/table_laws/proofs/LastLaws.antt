-- A node that a lookup makes is the last one, so that the nodes in use are the greater of those before and its ref.
-- Assumes nothing.
use mathlib.Core.List.{List, [], ◌∷◌, ◌++◌, append-nil, append_assoc, Memᴰ}
use mathlib.Core.Logic.{◌⊎◌, inl, inr}
use mathlib.Core.Path.{◌≡◌, refl, ap, sym, ◌∙◌, subst}
use Prim.Native.Nat.{ℕ, max}
use native.Mathlib.Omega.{arith}
use lib.ListN.{length, length-append}
use Rattle.grid.specs.declared.Corner.{Corner}
use Rattle.grid.specs.Grid.{same}
use Rattle.grid.specs.Tree.{root, path_of}
use Rattle.grid.proofs.CornerLaws.{same_sound, same_refl}
use Rattle.lists.specs.Lists.{gather, Distinct}
use Rattle.lists.proofs.FindLaws.{find_le, distinct_split}
use Rattle.lists.proofs.GatherLaws.{distinct_gather}
use Rattle.tree.specs.Nodes.{ref_of}
use Rattle.tree_laws.specs.State.{State, Sound, grown, reached, Made, Holds}
use Rattle.tree_laws.proofs.AddLaws.{ref_snoc, Fresh, fresh}
use Rattle.table_laws.proofs.StateLaws.{by-mem, grown_known, grown_new}

-- of the nodes ns e is the last, unless there are no more than n
abbrev Last : ℕ → List Corner → Corner → Type 0
Last n ns e = length ns ≡ max n (ref_of ns e)

same-last : (ns : List Corner) (e : Corner) → Last (length ns) ns e
same-last ns e = omega (arith, find_le (same e) ns)

snoc_last : (ns r : List Corner) (e : Corner) → (Memᴰ e (ns ++ r) → ⊥) → Last (length ns) ((ns ++ r) ++ (e ∷ [])) e
snoc_last ns r e f = omega (arith, ref_snoc (ns ++ r) e f, length-append ns r, length-append (ns ++ r) (e ∷ []))

grown-last : (S : State) (e : Corner) (s : ℕ) → Last (length S.nodes) (grown S e s).nodes e
grown-last S e s =
    by-mem e S.nodes (Last (length S.nodes) (grown S e s).nodes e)
    (λ m. subst (λ (T : State). Last (length S.nodes) T.nodes e) (sym (grown_known S e s m)) (same-last S.nodes e))
    (λ f. subst (λ (T : State). Last (length S.nodes) T.nodes e) (sym (grown_new S e s f)) (subst (λ (ns : List Corner). Last (length S.nodes) (ns ++ (e ∷ [])) e) (append-nil S.nodes) (snoc_last S.nodes [] e (subst (λ (ns : List Corner). Memᴰ e ns → ⊥) (sym (append-nil S.nodes)) f))))

path_last : (S : State) → Sound S → (e : Corner) → Last (length S.nodes) (gather same S.nodes (path_of e)) e
path_last S sound e = subst (λ (ns : List Corner). Last (length S.nodes) ns e) (sym f.nodes) (go f.ends)
  where
    f : Fresh S.nodes e
    f = fresh S.nodes sound.good.closed (subst (Memᴰ root) (sym sound.good.root.1) (Memᴰ.head refl)) e

    apart : Distinct (S.nodes ++ f.new)
    apart = subst Distinct f.nodes (distinct_gather same same_sound same_refl S.nodes (path_of e) sound.good.distinct)

    go : (f.new ≡ []) ⊎ ((r : List Corner) × (f.new ≡ r ++ (e ∷ []))) → Last (length S.nodes) (S.nodes ++ f.new) e
    go (inl p) = rw p (subst (λ (ns : List Corner). Last (length S.nodes) ns e) (sym (append-nil S.nodes)) (same-last S.nodes e))
    go (inr p) =
        let q : S.nodes ++ f.new ≡ (S.nodes ++ p.0) ++ (e ∷ []) = ap (λ (l : List Corner). S.nodes ++ l) p.1 ∙ sym (append_assoc S.nodes p.0 (e ∷ [])) in
        subst (λ (ns : List Corner). Last (length S.nodes) ns e) (sym q) (snoc_last S.nodes p.0 e (distinct_split (S.nodes ++ p.0) [] e (subst Distinct q apart)))

made_last : (words n : ℕ) (T : State) (e : Corner) (t : List ℕ) (a m : ℕ) → Last n T.nodes e → Made words T e t a m → Made words T e t a (max n a)
made_last words n T e t a m l made = record {
  fits = λ h. let g = made.fits h in (g.0, g.1, ap (max n) g.1 ∙ sym l);
  full = made.full;
}

-- the same of what each lookup makes, from a table that holds S with n nodes
module _ (t : List ℕ) (n : ℕ) (S : State) (h : Holds t n S) (words s : ℕ) (t' : List ℕ) (a m : ℕ) where
  pub child_last : (e : Corner) → Made words (grown S e s) e t' a m → Made words (grown S e s) e t' a (max n a)
  child_last e = made_last words n (grown S e s) e t' a m (rw h.count (grown-last S e s))

  pub near_last : (c e : Corner) → Made words (reached S s c e) e t' a m → Made words (reached S s c e) e t' a (max n a)
  near_last c e = made_last words n (reached S s c e) e t' a m (rw h.count (path_last S h.sound e))
