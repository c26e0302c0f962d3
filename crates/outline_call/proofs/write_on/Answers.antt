-- `outline_call::write_on` meets its contract.
use borrow.Author.Tests.{not-true, not-false}
use mathlib.Core.Path.{refl}
use native.Mathlib.Omega.{arith}
use Rattle.grid.specs.Grid.{origin}
use Rattle.outline_map.proofs.BoxLaws.{start_small, box_small, box_blank}
use Rattle.outline_map.proofs.WayLaws.{map-ring, home_in_lem}
use Rattle.outline_call.proofs.ScanLaws.{traced_refused, fits_of, traced_written}
use Rattle.outline_call.proofs.write_on.Goals as goal

pub overflow_sub-by : goal.overflow_sub-by
overflow_sub-by c =
    let f = c.requires.0 in let b = c.args.b in omega (arith, (box_small c.args.chain.now b.width b.height b.from (record { digits = f.steady.digits; short = f.steady.short }) f.box.wide f.box.high f.box.start).1)

pub overflow_add-by : goal.overflow_add-by
overflow_add-by c =
    let f = c.requires.0 in let b = c.args.b in omega (arith, (box_small c.args.chain.now b.width b.height b.from (record { digits = f.steady.digits; short = f.steady.short }) f.box.wide f.box.high f.box.start).0)

pub across-requires : goal.across-requires
across-requires c =
    let f = c.requires.0 in let b = c.args.b in start_small c.args.chain.now b.width b.height
    b.from (record { digits = f.steady.digits; short = f.steady.short }) f.box.wide f.box.high f.box.start

pub mark-home-requires : goal.mark-home-requires
mark-home-requires c =
    let f = c.requires.0 in let b = c.args.b in box_blank c.args.chain.now b.width b.height
    b.from (record { digits = f.steady.digits; short = f.steady.short }) f.box.wide f.box.high f.box.start
    c.args.map.now c.across.result f.room c.requires.1 c.across.ensures

pub first_way-first-requires : goal.first_way-first-requires
first_way-first-requires c = home_in_lem _ _ _ _ c.mark-home.ensures

pub fits-requires : goal.fits-requires
fits-requires c =
    map-ring _ _ _ _ _ c.requires.0.some c.requires.0.steady.short refl c.mark-home.ensures
    c.first_way-first.ensures

pub returns-then-not-fits : goal.returns-then-not-fits
returns-then-not-fits c =
    let f = c.fits in traced_refused c.args.chain.now c.args.out.now f.result f.ensures
    (not-true f.result c.if-not-fits.true-raw)

pub put-requires : goal.put-requires
put-requires c =
    let f = c.fits in
    (map-ring _ _ _ _ _ c.requires.0.some c.requires.0.steady.short refl c.mark-home.ensures c.first_way-first.ensures, fits_of c.args.chain.now c.args.out.now f.result f.ensures (not-false f.result c.if-not-fits.false-raw))

pub returns : goal.returns
returns c =
    let f = c.fits in
    let p = c.put in
    let h = fits_of c.args.chain.now c.args.out.now f.result f.ensures
    (not-false f.result c.if-not-fits.false-raw) in
    traced_written c.args.chain.now c.args.out.now _ p.result p.ensures.0
    (omega (arith, h origin, p.ensures.0 origin)) p.ensures.1
