-- `walk_lookup::top` meets its contract.
use mathlib.Core.List.{List}
use mathlib.Core.Path.{◌≡◌, refl, ap, sym, ◌∙◌, subst}
use Prim.Native.Nat.{ℕ, ◌+◌, ◌-◌, max}
use native.Mathlib.Omega.{arith}
use lib.ListN.{length}
use Rattle.grid.specs.Grid.{stepped}
use Rattle.grid.specs.Tree.{parent_of, is_root, child_word}
use Rattle.table_laws.specs.Model.{link_in}
use Rattle.tree_laws.specs.State.{Made, raised, reached}
use Rattle.table_laws.proofs.Cites.{near_known, near-root, ref_below}
use Rattle.table_laws.proofs.LastLaws.{near_last}
use Rattle.table_laws.proofs.StoreLaws.{child_word_small}
use Rattle.table_laws.proofs.ClimbLaws.{top_raises, top_held, top-none, top-linked, top_bounds}
use Rattle.walk_table.proofs.RefLaws.{number}
use Rattle.walk_lookup.proofs.top.Goals as goal

pub returns-then-known-ne0 : goal.returns-then-known-ne0
returns-then-known-ne0 c =
    let a = c.args in
    let w = c.word-known in
    let m : w.result ≡ w.result - 1 + 1 = omega arith in
    λ S h r. near_last a.t.now a.nodes S h (length a.t.now) a.from.step a.t.now (w.result - 1 + 1) a.nodes a.from.at
    (stepped a.from.d a.from.at) (near_known a.t.now a.nodes a.from.node a.from.at a.from.d a.from.step S h r a.from.way a.from.counted (w.result - 1 + 1)
    (sym m ∙ w.ensures) (λ z. omega arith))

pub returns-then-is_root : goal.returns-then-is_root
returns-then-is_root c =
    let a = c.args in
    let w = c.word-known in
    let z : w.result ≡ 0 = omega (arith, c.if-known-ne0.false) in
    let none = sym z ∙ w.ensures in
    let m = c.moved-e.ensures in
    let g = ap is_root (sym m) ∙ sym c.is_root.ensures ∙ c.if-is_root.true in
    λ S h r. subst (λ (l : List ℕ). Made (length a.t.now) (reached S a.from.step a.from.at (stepped a.from.d a.from.at))
    (stepped a.from.d a.from.at) l (0 + 1) (max a.nodes (0 + 1))) (sym c.link.ensures)
    (near_last a.t.now a.nodes S h (length a.t.now) a.from.step _ 1 a.nodes a.from.at (stepped a.from.d a.from.at)
    (near-root a.t.now a.nodes a.from.node a.from.at a.from.d a.from.step S h r a.from.way a.from.counted none g))

pub overflow_sub-over : goal.overflow_sub-over
overflow_sub-over c =
    let a = c.args in
    let k = c.requires.stood in
    let w = c.word-known in
    let z : w.result ≡ 0 = omega (arith, c.if-known-ne0.false) in
    let none = sym z ∙ w.ensures in
    let m = c.moved-e.ensures in
    let g = ap is_root (sym m) ∙ sym c.is_root.ensures ∙ c.if-is_root.false in
    omega (arith, (top_raises a.t.now a.nodes a.from.node a.from.at a.from.d a.from.step k.state k.holds k.here a.from.way a.from.counted c.requires.d_value none g c.parent_or_self-over.result c.parent_or_self-over.ensures).0)

pub child-requires : goal.child-requires
child-requires c =
    let a = c.args in
    let k = c.requires.stood in
    let w = c.word-known in
    let z : w.result ≡ 0 = omega (arith, c.if-known-ne0.false) in
    let none = sym z ∙ w.ensures in
    let m = c.moved-e.ensures in
    let g = ap is_root (sym m) ∙ sym c.is_root.ensures ∙ c.if-is_root.false in
    let h = top_held a.t.now a.nodes a.from.node a.from.at a.from.d a.from.step k.state k.holds k.here a.from.way a.from.counted
    c.requires.d_value none g c.parent_or_self-over.result c.parent_or_self-over.ensures in
    let x = child_word_small c.moved-e.result in
    let y = c.child_word.ensures in
    record {
      held = record { state = raised k.state a.from.step a.from.at (stepped a.from.d a.from.at); holds = h.0 };
      u_lt_nodes = (omega (arith, ref_below (raised k.state a.from.step a.from.at (stepped a.from.d a.from.at)).nodes (parent_of (stepped a.from.d a.from.at)) (c.parent_or_self-over.result - 1) h.1, h.0.count), omega (arith, y, x.0), omega (arith, y, x.1), c.requires.t_len_bound);
    }

pub returns-in_err-v : goal.returns-in_err-v
returns-in_err-v c =
    let p = c.parent_or_self-over in
    let b = c.child_word in
    let e = c.child in
    let a = c.args in
    let w = c.word-known in
    let z : w.result ≡ 0 = omega (arith, c.if-known-ne0.false) in
    let none = sym z ∙ w.ensures in
    let m = c.moved-e.ensures in
    let g = ap is_root (sym m) ∙ sym c.is_root.ensures ∙ c.if-is_root.false in
    rw c.from_residual.ensures (λ S h r. top-none a.t.now a.nodes a.from.node a.from.at a.from.d a.from.step S h r a.from.way a.from.counted c.requires.d_value none g
    p.result p.ensures e.new.t 0 b.result (b.ensures ∙ ap child_word m) c.in_err-v.ensures.made refl)

pub link-requires-2 : goal.link-requires-2
link-requires-2 c =
    let p = c.parent_or_self-over in
    let b = c.child_word in
    let e = c.child in
    let a = c.args in
    let k = c.requires.stood in
    let w = c.word-known in
    let z : w.result ≡ 0 = omega (arith, c.if-known-ne0.false) in
    let none = sym z ∙ w.ensures in
    let m = c.moved-e.ensures in
    let g = ap is_root (sym m) ∙ sym c.is_root.ensures ∙ c.if-is_root.false in
    let v = c.in_ok-v in
    let l = top_bounds a.t.now a.nodes a.from.node a.from.at a.from.d a.from.step k.state k.holds k.here a.from.way a.from.counted
    c.requires.d_value none g p.result p.ensures e.new.t (v.v + 1) b.result (b.ensures ∙ ap child_word m)
    v.ensures.made (λ y. omega arith) in
    record { has_record = (l.0, omega (arith, l.1)); d_bound = (a.from.way, omega (arith, l.2, c.requires.t_len_bound)) }

pub returns : goal.returns
returns c =
    let p = c.parent_or_self-over in
    let b = c.child_word in
    let e = c.child in
    let a = c.args in
    let w = c.word-known in
    let z : w.result ≡ 0 = omega (arith, c.if-known-ne0.false) in
    let none = sym z ∙ w.ensures in
    let m = c.moved-e.ensures in
    let g = ap is_root (sym m) ∙ sym c.is_root.ensures ∙ c.if-is_root.false in
    let v = c.in_ok-v in
    let put = c.link-2.ensures ∙ ap (λ (x : ℕ). link_in e.new.t a.from.node x a.from.d a.from.step) (sym (number v.v)) in
    λ S h r. subst (λ (l : List ℕ). Made (length a.t.now) (reached S a.from.step a.from.at (stepped a.from.d a.from.at))
    (stepped a.from.d a.from.at) l (v.v + 1) (max a.nodes (v.v + 1))) (sym put) (top-linked a.t.now a.nodes a.from.node a.from.at a.from.d a.from.step S h r a.from.way a.from.counted c.requires.d_value none g p.result p.ensures e.new.t (v.v + 1) b.result (b.ensures ∙ ap child_word m) v.ensures.made (λ y. omega arith))
