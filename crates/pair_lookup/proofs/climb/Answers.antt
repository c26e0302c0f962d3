-- `pair_lookup::climb` meets its contract.
use mathlib.Core.Path.{◌≡◌, refl, ap, sym, ◌∙◌, subst}
use Prim.Native.Nat.{ℕ, suc, ◌+◌, ◌-◌}
use native.Mathlib.Omega.{arith}
use lib.IntN.{nat_abs}
use Rattle.grid.specs.declared.Corner.{Corner}
use Rattle.grid.specs.Tree.{parent_of, size_of}
use Rattle.pair_lookup.specs.Climbs.{Stands}
use Rattle.grid.proofs.PathLaws.{size_of-parent_of, nat_abs-half_of}
use Rattle.table_laws.specs.Climb.{Climbed}
use Rattle.table_laws.proofs.ClimbLaws.{climb_next}
use Rattle.pair_lookup.proofs.ClimbLaws.{stands_bound, stands_apart, stands_up}
use Rattle.pair_lookup.proofs.climb.Goals as goal

pub loop-from-init : goal.loop-from-init
loop-from-init c =
    (λ slots B h. (record { above = refl; below = λ j k. absurd (omega arith) }, h), c.args.from.near.0, c.args.from.near.1, omega arith)

pub goes_up-requires : goal.goes_up-requires
goes_up-requires c =
    let l = c.loop-from in
    let k = c.requires.0 in
    let i = l.invariant.0 k.slots k.both k.stands in
    (stands_bound c.args.t.now k.slots k.both c.args.q l.node l.at i.1, c.requires.1, l.invariant.1, l.invariant.2, c.args.from.way)

pub word-up-requires : goal.word-up-requires
word-up-requires c =
    let l = c.loop-from in
    let k = c.requires.0 in
    let i = l.invariant.0 k.slots k.both k.stands in
    omega (arith, stands_bound c.args.t.now k.slots k.both c.args.q l.node l.at i.1)

pub overflow_sub-node : goal.overflow_sub-node
overflow_sub-node c =
    let l = c.loop-from in
    let k = c.requires.0 in
    let i = l.invariant.0 k.slots k.both k.stands in
    let a = c.args in
    let up = stands_apart a.t.now k.slots k.both a.q l.node l.at i.1 a.from.d a.from.way
    c.requires.1 (sym c.goes_up.ensures ∙ c.loop-from-test.true) in
    omega (arith, (stands_up a.t.now k.slots k.both a.q l.node l.at i.1 c.requires.1 up.inner c.word-up.result c.word-up.ensures).0)

pub overflow_add-level : goal.overflow_add-level
overflow_add-level c =
    let l = c.loop-from in
    omega (arith, l.invariant.3, c.args.from.near.0, c.args.from.near.1)

pub loop-from-smaller : goal.loop-from-smaller
loop-from-smaller c =
    let l = c.loop-from in
    let k = c.requires.0 in
    let i = l.invariant.0 k.slots k.both k.stands in
    let a = c.args in
    let up = stands_apart a.t.now k.slots k.both a.q l.node l.at i.1 a.from.d a.from.way
    c.requires.1 (sym c.goes_up.ensures ∙ c.loop-from-test.true) in
    let e : size_of c.parent_of-at.result ≡ size_of (parent_of l.at) = ap size_of c.parent_of-at.ensures in
    omega (arith, e, size_of-parent_of l.at up.inner)

pub loop-from-preserved : goal.loop-from-preserved
loop-from-preserved c =
    let l = c.loop-from in
    let k = c.requires.0 in
    let i = l.invariant.0 k.slots k.both k.stands in
    let a = c.args in
    let up = stands_apart a.t.now k.slots k.both a.q l.node l.at i.1 a.from.d a.from.way
    c.requires.1 (sym c.goes_up.ensures ∙ c.loop-from-test.true) in
    let p = c.parent_of-at.ensures in
    let e : size_of c.parent_of-at.result ≡ size_of (parent_of l.at) = ap size_of p in
    let n : suc l.level ≡ l.level + 1 = omega arith in (
      (λ slots B h.
          let j = l.invariant.0 slots B h in
          let g = stands_apart a.t.now slots B a.q l.node l.at j.1 a.from.d a.from.way
          c.requires.1 (sym c.goes_up.ensures ∙ c.loop-from-test.true) in
          let v = stands_up a.t.now slots B a.q l.node l.at j.1 c.requires.1 g.inner
          c.word-up.result c.word-up.ensures in
          (subst (λ (x : Corner). Climbed (B a.q) a.from.d a.from.at (l.level + 1) x) (sym p) (subst (λ (m : ℕ). Climbed (B a.q) a.from.d a.from.at m (parent_of l.at)) n (climb_next (B a.q) a.from.d a.from.at l.level l.at j.0 g)), subst (λ (x : Corner). Stands a.t.now slots B a.q (c.word-up.result - 1) x) (sym p) v.1)),
      omega (arith, ap (λ (y : Corner). nat_abs y.0) p, nat_abs-half_of l.at.0, l.invariant.1),
      omega (arith, ap (λ (y : Corner). nat_abs y.1) p, nat_abs-half_of l.at.1, l.invariant.2),
      omega (arith, e, size_of-parent_of l.at up.inner, l.invariant.3),
    )

pub returns : goal.returns
returns c =
    let l = c.loop-from in record { climbed = l.invariant.0; d_value = sym c.goes_up.ensures ∙ c.loop-from-test.false }
