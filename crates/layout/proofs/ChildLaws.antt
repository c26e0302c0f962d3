-- A child stands in one child word of its parent, and what stands there is that child.
-- Assumes nothing.
use mathlib.Core.Bool.{Bool, true, false, not, ◌&&◌}
use mathlib.Core.List.{List}
use mathlib.Core.Path.{◌≡◌, refl, sym, ◌∙◌, subst}
use Prim.Native.Nat.{ℕ, zero, suc, ◌<◌, ◌≤◌}
use native.Mathlib.Omega.{arith}
use borrow.Author.Tests.{eqb-true, eq-eqb}
use lib.Dec.{eqb}
use lib.ListN.{length, get_or}
use Rattle.grid.specs.declared.Corner.{Corner}
use Rattle.grid.specs.Grid.{origin, same}
use Rattle.grid.specs.Tree.{parent_of, is_root, child_word}
use Rattle.tree.specs.Nodes.{ref_of}
use Rattle.grid.proofs.ChildLaws.{child_one, slot_small}
use Rattle.grid.proofs.CornerLaws.{same_refl, same_sound}
use Rattle.lists.proofs.FindLaws.{find_cong, find_get, bool_agree}
use Rattle.lists.proofs.GatherLaws.{and_left, and_right}
use Rattle.lists.proofs.BoolLaws.{not-true}
use Rattle.layout.specs.Table.{child_ref_of}
use Rattle.layout.proofs.TableCases as cases

-- the child word of a node's parent holds the node's ref
pub child_ref : (ns : List Corner) (c : Corner) → is_root c ≡ false → child_ref_of ns (parent_of c) (child_word c) ≡ ref_of ns c
child_ref ns c r = find_cong (λ x. not (is_root x) && same (parent_of x) (parent_of c) && eqb (child_word x) (child_word c)) (same c) agree ns
  where
    test : Corner → Bool
    test x = not (is_root x) && same (parent_of x) (parent_of c) && eqb (child_word x) (child_word c)

    there : (x : Corner) → test x ≡ true → same c x ≡ true
    there x e =
        let n = not (is_root x) in
        let p = same (parent_of x) (parent_of c) in
        let w = eqb (child_word x) (child_word c) in
        let h : x ≡ c = child_one x c (same_sound (parent_of x) (parent_of c) (and_right n p (and_left (n && p) w e))) (eqb-true (child_word x) (child_word c) (and_right (n && p) w e)) in
        subst (λ y. same c y ≡ true) (sym h) (same_refl c)

    here : test c ≡ true
    here = rw (r, same_refl (parent_of c), eq-eqb (child_word c) (child_word c) refl)

    agree : (x : Corner) → test x ≡ same c x
    agree x = bool_agree (test x) (same c x) (there x) (λ e. subst (λ y. test y ≡ true) (same_sound c x e) here)

-- c is the child of a that has word w
pub record ChildIn (a : Corner) (w : ℕ) (c : Corner) : Type 0 where
  pub below : is_root c ≡ false
  pub parent : parent_of c ≡ a
  pub word : child_word c ≡ w

-- what stands in word w of the record of a is a node, and the child of a that has word w
pub child_there : (ns : List Corner) (a : Corner) (w r : ℕ) → child_ref_of ns a w ≡ suc r → (r < length ns) × ChildIn a w (get_or ns r origin)
child_there ns a w r e =
    let f = find_get (λ c. not (is_root c) && same (parent_of c) a && eqb (child_word c) w) ns r origin e in
    let c = get_or ns r origin in
    let n = not (is_root c) in
    let p = same (parent_of c) a in
    let v = eqb (child_word c) w in
    let h = and_left (n && p) v f.1 in (
      f.0,
      record {
        below = not-true (is_root c) (and_left n p h);
        parent = same_sound (parent_of c) a (and_right n p h);
        word = eqb-true (child_word c) w (and_right (n && p) v f.1);
      },
    )

-- so a node stands in no other child word than its own, of no other record than its parent's
pub child_one_word : (ns : List Corner) (a c : Corner) (w : ℕ) → 0 < ref_of ns c → child_ref_of ns a w ≡ ref_of ns c → ChildIn a w c
child_one_word ns a c w h e = by (ref_of ns c) refl
  where
    by : (n : ℕ) → ref_of ns c ≡ n → ChildIn a w c
    by zero p = absurd (omega arith)
    by (suc r) p =
        let q : c ≡ get_or ns r origin = same_sound c (get_or ns r origin) (find_get (same c) ns r origin p).1 in
        subst (ChildIn a w) (sym q) (child_there ns a w r (e ∙ p)).1

-- the child words are 1 to 9
pub child_word_range : (c : Corner) → (0 < child_word c) × (child_word c ≤ 9)
child_word_range c = (omega arith, omega (arith, slot_small c.0, slot_small c.1))
