-- `outline_call::write_from` meets its contract.
use Rattle.std.proofs.Common.{◌≡◌, ℕ, ◌<◌, Bool, false, length, eqb, eqb-true, sym, ◌∙◌}
use Rattle.std.proofs.lemmas.Bool.{eqb-false}
use native.Mathlib.Omega.{arith}
use Rattle.outline_map.proofs.BoxLaws.{box_small}
use Rattle.outline_call.proofs.ScanLaws.{traced_empty}
use Rattle.outline_call.proofs.write_from.Goals as goal

some : {n : ℕ} {b : Bool} → b ≡ eqb n 0 → b ≡ false → 0 < n
some {n} e f = let z = eqb-false n 0 (sym e ∙ f) in omega arith

pub returns-then-is_empty : goal.returns-then-is_empty
returns-then-is_empty c = traced_empty c.args.chain.now c.args.out.now (eqb-true (length c.args.chain.now) 0 (sym c.is_empty.ensures ∙ c.if-is_empty.true))

pub enclose-b-requires : goal.enclose-b-requires
enclose-b-requires c = record { digits = c.requires.digits; short = c.requires.short }

pub overflow_mul-size : goal.overflow_mul-size
overflow_mul-size c =
    let b = c.enclose-b.result in
    let e = c.enclose-b.ensures in
    omega (arith, (box_small c.args.chain.now b.width b.height b.from (record { digits = c.requires.digits; short = c.requires.short }) e.wide e.high e.start).2)

pub map_sized-requires : goal.map_sized-requires
map_sized-requires c =
    (record { steady = c.requires; some = some c.is_empty.ensures c.if-is_empty.false; box = c.enclose-b.ensures; room = c.if-size-le-NARROW_MAP.true }, omega arith)

pub write_sized-requires : goal.write_sized-requires
write_sized-requires c = (c.requires, some c.is_empty.ensures c.if-is_empty.false, omega (arith, c.if-chain-le-NARROW.true), omega arith)

pub map_sized-requires-then-size-le-WIDER_MAP : goal.map_sized-requires-then-size-le-WIDER_MAP
map_sized-requires-then-size-le-WIDER_MAP c =
    (record { steady = c.requires; some = some c.is_empty.ensures c.if-is_empty.false; box = c.enclose-b.ensures; room = c.if-size-le-WIDER_MAP.true }, omega arith)

pub write_sized-requires-then-chain-le-WIDER : goal.write_sized-requires-then-chain-le-WIDER
write_sized-requires-then-chain-le-WIDER c = (c.requires, some c.is_empty.ensures c.if-is_empty.false, omega (arith, c.if-chain-le-WIDER.true), omega arith)

pub map_sized-requires-then-size-le-WIDEST_MAP : goal.map_sized-requires-then-size-le-WIDEST_MAP
map_sized-requires-then-size-le-WIDEST_MAP c =
    (record { steady = c.requires; some = some c.is_empty.ensures c.if-is_empty.false; box = c.enclose-b.ensures; room = c.if-size-le-WIDEST_MAP.true }, omega arith)

pub write_sized-requires-2 : goal.write_sized-requires-2
write_sized-requires-2 c = (c.requires, some c.is_empty.ensures c.if-is_empty.false, omega (arith, c.requires.short), omega arith)
