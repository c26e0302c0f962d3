-- `pair_lookup::level_down` meets its contract.
use mathlib.Core.Path.{◌≡◌, ap, sym, ◌∙◌, subst}
use Prim.Native.Nat.{ℕ}
use native.Mathlib.Omega.{arith}
use Rattle.grid.specs.Grid.{stepped}
use Rattle.grid.specs.Tree.{child_word}
use Rattle.table_laws.proofs.StoreLaws.{child_word_small}
use Rattle.pair_table_laws.specs.Hold.{words_in}
use Rattle.std.specs.Prelude.{None, Some}
use Rattle.pair_child.specs.Finds.{Childed}
use Rattle.pair_lookup.proofs.LiftLaws.{lift_in, lift_stock, lift_child, lift-none, lift-ends, lift-linked}
use Rattle.pair_lookup.proofs.level_down.Goals as goal

pub child-requires : goal.child-requires
child-requires c =
    let a = c.args in
    let k = c.requires.lifting in
    let p : c.child_word.result ≡ child_word (stepped a.from.d a.from.at) = c.child_word.ensures
    ∙ ap child_word c.moved-e.ensures in
    let b = lift_stock a.t.now k.slots k.both a.q a.v a.from.node a.from.at a.from.d a.from.step k.lifts c.requires.q_bound.0 a.from.way a.from.counted in
    record {
      in_table = (lift_in a.t.now k.slots k.both a.q a.v a.from.node a.from.at a.from.d a.from.step k.lifts c.requires.q_bound.0 a.from.way a.from.counted, c.requires.q_bound.0, omega (arith, p, (child_word_small (stepped a.from.d a.from.at)).1), c.requires.q_bound.1);
      low_bound = (omega (arith, b.0, c.requires.q_bound.2), omega (arith, b.1, c.requires.q_bound.2), c.requires.q_bound.2);
      by_index = λ w e. lift_child a.t.now k.slots k.both a.q a.v a.from.node a.from.at a.from.d a.from.step k.lifts c.requires.q_bound.0 a.from.way a.from.counted w (ap (words_in a.t.now a.v.node) (sym p) ∙ e);
    }

pub returns-in_err-to : goal.returns-in_err-to
returns-in_err-to c =
    let a = c.args in
    let r = c.child in
    let p : c.child_word.result ≡ child_word (stepped a.from.d a.from.at) = c.child_word.ensures
    ∙ ap child_word c.moved-e.ensures in
    let h = subst (λ (w : ℕ). Childed a.q a.t.now a.v.stock a.v.node w a.from.step r.new.t None) p
    c.in_err-to.ensures in
    rw c.from_residual.ensures (λ slots B k. lift-none a.t.now slots B a.q a.v a.from.node a.from.at a.from.d a.from.step k c.requires.q_bound.0 a.from.way a.from.counted r.new.t h)

pub link-requires : goal.link-requires
link-requires c =
    let a = c.args in
    let k = c.requires.lifting in
    let r = c.child in
    let o = c.in_ok-to in
    let p : c.child_word.result ≡ child_word (stepped a.from.d a.from.at) = c.child_word.ensures
    ∙ ap child_word c.moved-e.ensures in
    let h = subst (λ (w : ℕ). Childed a.q a.t.now a.v.stock a.v.node w a.from.step r.new.t (Some o.to)) p
    o.ensures in
    let b = lift-ends a.t.now k.slots k.both a.q a.v a.from.node a.from.at a.from.d a.from.step k.lifts c.requires.q_bound.0 a.from.way
    a.from.counted r.new.t o.to h in
    record { in_table = b; q_bound = (c.requires.q_bound.0, a.from.way, omega (arith, r.auto.t, c.requires.q_bound.2)) }

pub returns : goal.returns
returns c =
    let a = c.args in
    let r = c.child in
    let o = c.in_ok-to in
    let p : c.child_word.result ≡ child_word (stepped a.from.d a.from.at) = c.child_word.ensures
    ∙ ap child_word c.moved-e.ensures in
    let h = subst (λ (w : ℕ). Childed a.q a.t.now a.v.stock a.v.node w a.from.step r.new.t (Some o.to)) p
    o.ensures in
    λ slots B k. lift-linked a.t.now slots B a.q a.v a.from.node a.from.at a.from.d a.from.step k c.requires.q_bound.0 a.from.way a.from.counted r.new.t
    o.to h c.link.new.t c.link.ensures
