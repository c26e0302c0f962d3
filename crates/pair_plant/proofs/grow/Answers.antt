-- `pair_plant::grow` meets its contract.
use mathlib.Core.List.{List}
use mathlib.Core.Path.{◌≡◌, refl, ap, sym, ◌∙◌, subst}
use Prim.Native.Nat.{ℕ, suc, ◌-◌, ◌<◌}
use native.Mathlib.Omega.{arith}
use Rattle.grid.specs.declared.Corner.{Corner}
use Rattle.grid.specs.Tree.{up_by, child_word}
use Rattle.layout.proofs.ChildLaws.{child_word_range}
use Rattle.pair_table.specs.Slots.{Slot}
use Rattle.pair_table_laws.specs.Hold.{Both, words_in}
use Rattle.std.specs.Prelude.{None, Some}
use Rattle.pair_child.specs.declared.Located.{Located}
use Rattle.pair_child.specs.Finds.{Childed}
use Rattle.pair_plant.proofs.GrowLaws.{Grows, grows_start, grows_in, grows_stock, grows_child, grows_none, grows_next, grows_end}
use Rattle.pair_plant.proofs.grow.Goals as goal

-- one level down is what is left
down : (slots : List Slot) (C : Both) (q : ℕ) (c : Corner) (left : ℕ) (t : List ℕ) (v : Located) → 0 < left → Grows slots C q (up_by left c) t v → Grows slots C q (up_by (suc (left - 1)) c) t v
down slots C q c left t v h g = let e : left ≡ suc (left - 1) = omega arith in subst (λ (n : ℕ). Grows slots C q (up_by n c) t v) e g

pub loop-left-init : goal.loop-left-init
loop-left-init c =
    let a = c.args in
    let d = c.depth-left in
    (refl, d.ensures, omega arith, λ slots C k. grows_start a.t.now slots C a.q a.s k c.requires.near.1 a.c d.result d.ensures)

pub child-requires : goal.child-requires
child-requires c =
    let a = c.args in
    let k = c.requires.planting in
    let q = c.requires.near in
    let l = c.loop-left in
    let n = c.depth-left.result in
    let more : 0 < l.left = omega (arith, c.loop-left-test.true) in
    let less : l.left - 1 < n = omega (arith, l.invariant.2) in
    let g = down k.slots k.both a.q a.c l.left l.t l.to more (l.invariant.3 k.slots k.both k.plants) in
    let p : c.child_word-place.result ≡ child_word (up_by (l.left - 1) a.c) = c.child_word-place.ensures
    ∙ ap child_word c.up_by.ensures in
    let b = grows_stock a.t.now k.slots k.both a.q a.s k.plants q.1 a.c n (l.left - 1) l.invariant.1 less l.t l.to g in
    record {
      in_table = (grows_in a.t.now k.slots k.both a.q a.s k.plants q.1 a.c n (l.left - 1) l.invariant.1 less l.t l.to g, q.1, omega (arith, p, (child_word_range (up_by (l.left - 1) a.c)).1), omega arith);
      low_bound = (omega (arith, b.0, l.invariant.0, q.2), omega (arith, b.1, l.invariant.0, q.2), omega (arith, l.invariant.0, q.2));
      by_index = λ w e. grows_child a.t.now k.slots k.both a.q a.s k.plants q.1 a.c n (l.left - 1) l.invariant.1 less l.t l.to g w (ap (words_in l.t l.to.node) (sym p) ∙ e);
    }

pub returns-in_err-to : goal.returns-in_err-to
returns-in_err-to c =
    let a = c.args in
    let l = c.loop-left in
    let n = c.depth-left.result in
    let r = c.child in
    let more : 0 < l.left = omega (arith, c.loop-left-test.true) in
    let less : l.left - 1 < n = omega (arith, l.invariant.2) in
    let p : c.child_word-place.result ≡ child_word (up_by (l.left - 1) a.c) = c.child_word-place.ensures
    ∙ ap child_word c.up_by.ensures in
    let h = subst (λ (w : ℕ). Childed a.q l.t l.to.stock l.to.node w 0 r.new.t None) p c.in_err-to.ensures in
    rw c.from_residual.ensures (λ slots C k.
    let g = down slots C a.q a.c l.left l.t l.to more (l.invariant.3 slots C k) in
    grows_none a.t.now slots C a.q a.s k c.requires.near.1 a.c n (l.left - 1) l.invariant.1 less l.t l.to g
    r.new.t h a.t.now l.invariant.0)

pub loop-left-preserved : goal.loop-left-preserved
loop-left-preserved c =
    let a = c.args in
    let l = c.loop-left in
    let n = c.depth-left.result in
    let r = c.child in
    let o = c.in_ok-to in
    let more : 0 < l.left = omega (arith, c.loop-left-test.true) in
    let less : l.left - 1 < n = omega (arith, l.invariant.2) in
    let p : c.child_word-place.result ≡ child_word (up_by (l.left - 1) a.c) = c.child_word-place.ensures
    ∙ ap child_word c.up_by.ensures in
    let h = subst (λ (w : ℕ). Childed a.q l.t l.to.stock l.to.node w 0 r.new.t (Some o.to)) p o.ensures in (
      r.auto.t ∙ l.invariant.0,
      l.invariant.1,
      omega (arith, l.invariant.2),
      λ slots C k.
          let g = down slots C a.q a.c l.left l.t l.to more (l.invariant.3 slots C k) in
          grows_next a.t.now slots C a.q a.s k c.requires.near.1 a.c n (l.left - 1) l.invariant.1 less l.t
          l.to g r.new.t o.to h,
    )

pub returns : goal.returns
returns c =
    let a = c.args in
    let l = c.loop-left in
    let z : l.left ≡ 0 = omega (arith, c.loop-left-test.false) in
    λ slots C k. grows_end a.t.now l.t slots C a.q a.c l.left l.to (l.invariant.3 slots C k) z
