-- `convex_call::from_west` meets its contract.
use Rattle.convex_call.proofs.PartLaws.{digits_of, west_told}
use Rattle.convex_call.proofs.RoundLaws.{place-within}
use native.Mathlib.Omega.{arith}
use Rattle.convex_call.proofs.from_west.Goals as goal

pub by_parts-requires : goal.by_parts-requires
by_parts-requires c =
    let b = c.requires.0 in
    (digits_of b, omega (arith, c.place-l.ensures, place-within 3 c.args.room.now b.short), c.requires.1)

pub returns : goal.returns
returns c =
    let b = c.place-j in
    let d = c.place-k in
    let e = c.place-l in
    let a = c.args in
    let p = c.by_parts in
    west_told a.room.now b.result d.result e.result p.result b.ensures d.ensures e.ensures p.ensures
