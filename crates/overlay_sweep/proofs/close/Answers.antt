-- `overlay_sweep::close` meets its contract.
use native.Mathlib.Omega.{arith}
use mathlib.Core.Bool.{true, false}
use mathlib.Core.Path.{refl, ap₂}
use Rattle.overlay.specs.declared.Part.TheVariants.{First, Second, Both}
use Rattle.overlay_laws.specs.Sweep.{part_has}
use Rattle.overlay_sweep.proofs.CloseLaws.{odd_yes, odd_no, three_closed}
use Rattle.overlay_sweep.proofs.close.Goals as goal

pub put_span-both-requires : goal.put_span-both-requires
put_span-both-requires c =
    ((c.requires.few Both).0, (c.requires.few Both).1, c.requires.order Both (ap₂ (part_has Both) (odd_yes c.args.i (omega (arith, c.if-i-eq1.true))) (odd_yes c.args.j (omega (arith, c.if-j-eq1.true)))), c.requires.last)

pub returns-then-j-eq1 : goal.returns-then-j-eq1
returns-then-j-eq1 c =
    let z = c.args in
    let p = c.put_span-both in
    three_closed z.i z.j true true z.from z.to z.m
    (record { first = z.m.first; second = z.m.second; both = p.result }) z.first.now z.second.now z.both.now
    z.first.now z.second.now p.new.out
    (odd_yes z.i (omega (arith, c.if-i-eq1.true))) (odd_yes z.j (omega (arith, c.if-j-eq1.true))) (refl, refl)
    (refl, refl) p.ensures

pub put_span-first-requires : goal.put_span-first-requires
put_span-first-requires c =
    ((c.requires.few First).0, (c.requires.few First).1, c.requires.order First (ap₂ (part_has First) (odd_yes c.args.i (omega (arith, c.if-i-eq1.true))) (odd_no c.args.j (omega (arith, c.if-j-eq1.false)))), c.requires.last)

pub returns-then-i-eq1 : goal.returns-then-i-eq1
returns-then-i-eq1 c =
    let z = c.args in
    let p = c.put_span-first in
    three_closed z.i z.j true false z.from z.to z.m
    (record { first = p.result; second = z.m.second; both = z.m.both }) z.first.now z.second.now z.both.now
    p.new.out z.second.now z.both.now
    (odd_yes z.i (omega (arith, c.if-i-eq1.true))) (odd_no z.j (omega (arith, c.if-j-eq1.false))) p.ensures
    (refl, refl) (refl, refl)

pub put_span-second-requires : goal.put_span-second-requires
put_span-second-requires c =
    ((c.requires.few Second).0, (c.requires.few Second).1, c.requires.order Second (ap₂ (part_has Second) (odd_no c.args.i (omega (arith, c.if-i-eq1.false))) (odd_yes c.args.j (omega (arith, c.if-j-eq1-2.true)))), c.requires.last)

pub returns-then-j-eq1-2 : goal.returns-then-j-eq1-2
returns-then-j-eq1-2 c =
    let z = c.args in
    let p = c.put_span-second in
    three_closed z.i z.j false true z.from z.to z.m
    (record { first = z.m.first; second = p.result; both = z.m.both }) z.first.now z.second.now z.both.now
    z.first.now p.new.out z.both.now
    (odd_no z.i (omega (arith, c.if-i-eq1.false))) (odd_yes z.j (omega (arith, c.if-j-eq1-2.true))) (refl, refl)
    p.ensures (refl, refl)

pub returns : goal.returns
returns c =
    let z = c.args in
    three_closed z.i z.j false false z.from z.to z.m
    z.m z.first.now z.second.now z.both.now
    z.first.now z.second.now z.both.now
    (odd_no z.i (omega (arith, c.if-i-eq1.false))) (odd_no z.j (omega (arith, c.if-j-eq1-2.false))) (refl, refl) (refl, refl)
    (refl, refl)
