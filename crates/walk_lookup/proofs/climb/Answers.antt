-- `walk_lookup::climb` meets its contract.
use mathlib.Core.Path.{◌≡◌, refl, ap, sym, ◌∙◌, subst}
use Prim.Native.Nat.{ℕ, suc, ◌+◌}
use native.Mathlib.Omega.{arith}
use lib.IntN.{nat_abs}
use Rattle.grid.specs.declared.Corner.{Corner}
use Rattle.grid.specs.Tree.{parent_of, size_of}
use Rattle.tree.specs.Nodes.{ref_of}
use Rattle.grid.proofs.PathLaws.{size_of-parent_of, nat_abs-half_of}
use Rattle.table_laws.specs.Climb.{Climbed}
use Rattle.table_laws.proofs.ClimbLaws.{node_bound, up_reads, goes_apart, climb_next}
use Rattle.walk_lookup.proofs.climb.Goals as goal

pub loop-from-init : goal.loop-from-init
loop-from-init c =
    (λ S h r. (record { above = refl; below = λ j k. absurd (omega arith) }, r), c.args.from.near.0, c.args.from.near.1, omega arith)

pub goes_up-requires : goal.goes_up-requires
goes_up-requires c =
    let l = c.loop-from in
    let k = c.requires in
    let i = l.invariant.0 k.state k.holds k.here in
    (node_bound c.args.t.now c.args.nodes l.node l.at k.state k.holds i.1, l.invariant.1, l.invariant.2, c.args.from.way)

pub word-up-requires : goal.word-up-requires
word-up-requires c =
    let l = c.loop-from in
    let k = c.requires in
    let i = l.invariant.0 k.state k.holds k.here in
    omega (arith, node_bound c.args.t.now c.args.nodes l.node l.at k.state k.holds i.1)

pub overflow_sub-node : goal.overflow_sub-node
overflow_sub-node c =
    let l = c.loop-from in
    let k = c.requires in
    let i = l.invariant.0 k.state k.holds k.here in
    let a = c.args in
    let up = goes_apart a.t.now a.nodes l.node l.at a.from.d 1 k.state k.holds i.1 a.from.way
    (omega arith) (sym c.goes_up.ensures ∙ c.loop-from-test.true) in
    omega (arith, (up_reads a.t.now a.nodes l.node l.at k.state k.holds i.1 up.inner c.word-up.result c.word-up.ensures).0)

pub overflow_add-level : goal.overflow_add-level
overflow_add-level c =
    let l = c.loop-from in
    omega (arith, l.invariant.3, c.args.from.near.0, c.args.from.near.1)

pub loop-from-smaller : goal.loop-from-smaller
loop-from-smaller c =
    let l = c.loop-from in
    let k = c.requires in
    let i = l.invariant.0 k.state k.holds k.here in
    let a = c.args in
    let up = goes_apart a.t.now a.nodes l.node l.at a.from.d 1 k.state k.holds i.1 a.from.way
    (omega arith) (sym c.goes_up.ensures ∙ c.loop-from-test.true) in
    let e : size_of c.parent_of-at.result ≡ size_of (parent_of l.at) = ap size_of c.parent_of-at.ensures in
    omega (arith, e, size_of-parent_of l.at up.inner)

pub loop-from-preserved : goal.loop-from-preserved
loop-from-preserved c =
    let l = c.loop-from in
    let k = c.requires in
    let i = l.invariant.0 k.state k.holds k.here in
    let a = c.args in
    let up = goes_apart a.t.now a.nodes l.node l.at a.from.d 1 k.state k.holds i.1 a.from.way
    (omega arith) (sym c.goes_up.ensures ∙ c.loop-from-test.true) in
    let p = c.parent_of-at.ensures in
    let e : size_of c.parent_of-at.result ≡ size_of (parent_of l.at) = ap size_of p in
    let n : suc l.level ≡ l.level + 1 = omega arith in (
      (λ S h r.
          let j = l.invariant.0 S h r in
          let g = goes_apart a.t.now a.nodes l.node l.at a.from.d 1 S h j.1 a.from.way (omega arith)
          (sym c.goes_up.ensures ∙ c.loop-from-test.true) in
          let v = up_reads a.t.now a.nodes l.node l.at S h j.1 g.inner c.word-up.result
          c.word-up.ensures in
          (subst (λ (x : Corner). Climbed S a.from.d a.from.at (l.level + 1) x) (sym p) (subst (λ (m : ℕ). Climbed S a.from.d a.from.at m (parent_of l.at)) n (climb_next S a.from.d a.from.at l.level l.at j.0 g)), ap (ref_of S.nodes) p ∙ v.1)),
      omega (arith, ap (λ (y : Corner). nat_abs y.0) p, nat_abs-half_of l.at.0, l.invariant.1),
      omega (arith, ap (λ (y : Corner). nat_abs y.1) p, nat_abs-half_of l.at.1, l.invariant.2),
      omega (arith, e, size_of-parent_of l.at up.inner, l.invariant.3),
    )

pub returns : goal.returns
returns c =
    let l = c.loop-from in record { climbed = l.invariant.0; d_value = sym c.goes_up.ensures ∙ c.loop-from-test.false }
