-- `overlay_sweep::sweep` meets its contract.
use native.Mathlib.Omega.{arith}
use mathlib.Core.Path.{◌≡◌, ◌∙◌}
use Prim.Native.Nat.{◌+◌, ◌<◌}
use Rattle.overlay.specs.declared.Part.TheVariants.{First, Second, Both}
use Rattle.overlay.specs.Call.{of_parts}
use Rattle.overlay_sweep.proofs.CloseLaws.{three-same, sweep_start, sweep_closable, sweep_nearer, sweep_step, sweep_end}
use Rattle.overlay_sweep.specs.Keys.{key_at}
use Rattle.overlay_sweep.specs.Parts.{ends_in}
use Rattle.overlay_sweep.proofs.KeyLaws.{read_fits, read_key}
use Rattle.overlay_sweep.proofs.sweep.Goals as goal
use Rattle.overlay_sweep.proofs.sweep.Goals.{After-min-next}

pub loop-i-init : goal.loop-i-init
loop-i-init c = sweep_start c.requires.0 c.requires.1

pub overflow_add-i : goal.overflow_add-i
overflow_add-i c =
    omega (arith, c.loop-i.invariant.first, c.loop-i.invariant.second, c.requires.0.held.numbers.few, c.requires.1.held.numbers.few)

pub overflow_add-na : goal.overflow_add-na
overflow_add-na c = omega (arith, c.requires.0.held.numbers.few, c.requires.1.held.numbers.few)

pub first_end-requires : goal.first_end-requires
first_end-requires c = c.requires.0.held.numbers

pub key_of-p-requires : goal.key_of-p-requires
key_of-p-requires c =
    let e = c.first_end in
    read_fits c.args.a.now (ends_in c.args.a.now) c.loop-i.i e.result e.ensures.0 e.ensures.1 c.requires.0.held.numbers

pub second_end-requires : goal.second_end-requires
second_end-requires c = c.requires.1.held.numbers

pub key_of-q-requires : goal.key_of-q-requires
key_of-q-requires c =
    let e = c.second_end in
    read_fits c.args.b.now (ends_in c.args.b.now) c.loop-i.j e.result e.ensures.0 e.ensures.1 c.requires.1.held.numbers

-- the keys of the next end of either list
first : (c : After-min-next) → c.key_of-p.result ≡ key_at c.args.a.now (ends_in c.args.a.now) c.loop-i.i
first c =
    let e = c.first_end in
    c.key_of-p.ensures ∙ read_key c.args.a.now (ends_in c.args.a.now) c.loop-i.i e.result e.ensures.0 e.ensures.1

second : (c : After-min-next) → c.key_of-q.result ≡ key_at c.args.b.now (ends_in c.args.b.now) c.loop-i.j
second c =
    let e = c.second_end in
    c.key_of-q.ensures ∙ read_key c.args.b.now (ends_in c.args.b.now) c.loop-i.j e.result e.ensures.0 e.ensures.1

pub close-m-requires : goal.close-m-requires
close-m-requires c =
    let l = c.loop-i in
    let more : l.i + l.j < ends_in c.args.a.now + ends_in c.args.b.now = omega (arith, c.loop-i-test.true) in
    let p = first (goal.at.close-m-requires c).After-min-next in
    let q = second (goal.at.close-m-requires c).After-min-next in
    let k = c.min-next in
    sweep_closable c.requires.0 c.requires.1 l.invariant more p q k.ensures

pub further-i-requires : goal.further-i-requires
further-i-requires c = omega (arith, c.loop-i.invariant.first, c.requires.0.held.numbers.few)

pub further-j-requires : goal.further-j-requires
further-j-requires c = omega (arith, c.loop-i.invariant.second, c.requires.1.held.numbers.few)

pub loop-i-smaller : goal.loop-i-smaller
loop-i-smaller c =
    let l = c.loop-i in
    let more : l.i + l.j < ends_in c.args.a.now + ends_in c.args.b.now = omega (arith, c.loop-i-test.true) in
    let p = first (goal.at.loop-i-smaller c).After-min-next in
    let q = second (goal.at.loop-i-smaller c).After-min-next in
    let k = c.min-next in
    let s = sweep_nearer c.requires.0 c.requires.1 l.invariant more p q k.ensures in
    omega (arith, s.0, s.1, s.2, c.further-i.ensures, c.further-j.ensures)

pub loop-i-preserved : goal.loop-i-preserved
loop-i-preserved c =
    let l = c.loop-i in
    let more : l.i + l.j < ends_in c.args.a.now + ends_in c.args.b.now = omega (arith, c.loop-i-test.true) in
    let p = first (goal.at.loop-i-preserved c).After-min-next in
    let q = second (goal.at.loop-i-preserved c).After-min-next in
    let k = c.min-next in
    let d = c.close-m in
    let f = d.new.first in
    let g = d.new.second in
    let h = d.new.both in
    sweep_step c.requires.0 c.requires.1 l.invariant more p q k.ensures d.result
    (of_parts f g h) c.further-i.result c.further-j.result
    c.further-i.ensures c.further-j.ensures
    (three-same l.first l.second l.both f g h d.auto.first d.auto.second
    d.auto.both) d.ensures

pub shape_of-first : goal.shape_of-first
shape_of-first c = (c.loop-i.invariant.parts First).same

pub shape_of-second : goal.shape_of-second
shape_of-second c = (c.loop-i.invariant.parts Second).same

pub shape_of-both : goal.shape_of-both
shape_of-both c = (c.loop-i.invariant.parts Both).same

pub returns : goal.returns
returns c =
    let l = c.loop-i in
    sweep_end c.requires.0 c.requires.1 l.invariant (λ h. omega arith)
