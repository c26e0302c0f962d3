-- `convex_call::by_parts` meets its contract.
use native.Mathlib.Omega.{arith}
use mathlib.Core.Path.{refl}
use Prim.Native.Nat.{◌-◌}
use lib.ListN.{length, drop, length-take, length-drop}
use Rattle.convex_call.proofs.PartLaws.{digits_slice, store_less, late, first_fails, second_tells}
use Rattle.convex_call.proofs.by_parts.Goals as goal

pub returns-then-k-j : goal.returns-then-k-j
returns-then-k-j c = let a = c.args in late a.room.now a.j a.k a.l c.then-k-j.either

pub half-requires : goal.half-requires
half-requires c =
    let a = c.args in
    let r = a.room.now in
    let d = c.requires.0 in
    let p = c.requires.2 in
    (digits_slice r a.j 0 d, digits_slice r (a.k - a.j) a.j d, omega arith, store_less p (omega (arith, length-take a.j r)) refl refl, store_less p (omega (arith, length-take (a.k - a.j) (drop a.j r), length-drop a.j r)) refl refl)

pub half-requires-then-half : goal.half-requires-then-half
half-requires-then-half c =
    let a = c.args in
    let r = a.room.now in
    let d = c.requires.0 in
    let p = c.requires.2 in
    let h = c.half.auto in
    (digits_slice r (a.l - a.k) a.k d, digits_slice r (length r - a.l) a.l d, omega arith, store_less p (omega (arith, length-take (a.l - a.k) (drop a.k r), length-drop a.k r)) h.ys h.s, store_less p (omega (arith, length-take (length r - a.l) (drop a.l r), length-drop a.l r)) h.ys h.s)

pub returns-then-half : goal.returns-then-half
returns-then-half c =
    let a = c.args in
    second_tells a.room.now a.j a.k a.l c.requires.0 c.if-k-j.false c.if-l-k.false c.requires.1 c.half.result
    c.half-then-half.result c.if-half.true c.half.ensures c.half-then-half.ensures

pub returns-else-half : goal.returns-else-half
returns-else-half c =
    let a = c.args in
    first_fails a.room.now a.j a.k a.l c.requires.0 c.if-k-j.false c.if-l-k.false c.requires.1 c.half.result
    c.if-half.false c.half.ensures
