-- `convex_part::along` meets its contract.
use native.Mathlib.Omega.{arith}
use mathlib.Core.Path.{◌≡◌, refl, sym, ◌∙◌}
use Prim.Native.Nat.{◌+◌, ◌-◌}
use Rattle.convex_part.proofs.PassLaws.{along_here, along-next, along-none}
use Rattle.convex_part.proofs.along.Goals as goal

pub loop-q-init : goal.loop-q-init
loop-q-init c = refl

pub edge-requires : goal.edge-requires
edge-requires c =
    let q = c.loop-q.q in
    let r = c.requires.0 in
    let same : q - 1 + 1 ≡ q = omega arith in
    let up = rw same at (r.rises (q - 1) (omega arith)) in
    (omega (arith, up), omega (arith, r.columns q (omega arith)), omega arith)

pub returns-then-not-edge : goal.returns-then-not-edge
returns-then-not-edge c =
    let l = c.loop-q in
    let a = c.args in
    along_here a.ys.now a.s.now l.q c.from-p.result c.from-b.result (omega arith) (omega arith) c.from-p.ensures
    c.from-b.ensures (sym c.edge.ensures ∙ c.if-not-edge.true) ∙ l.invariant

pub loop-q-preserved : goal.loop-q-preserved
loop-q-preserved c =
    let l = c.loop-q in
    let a = c.args in
    along-next a.ys.now a.s.now l.q c.from-p.result c.from-b.result (omega arith) (omega arith) c.from-p.ensures
    c.from-b.ensures (sym c.edge.ensures ∙ c.if-not-edge.false) ∙ l.invariant

pub returns : goal.returns
returns c =
    let l = c.loop-q in
    let a = c.args in
    along-none a.ys.now a.s.now l.q (omega arith) ∙ l.invariant
