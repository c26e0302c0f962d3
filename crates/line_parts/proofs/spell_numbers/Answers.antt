-- `line_parts::spell_numbers` meets its contract.
use mathlib.Core.Path.{◌≡◌}
use borrow.Author.Rules.{rules}
use mir.Val.{to_z, of_z}
use mir.Syntax.{w32}
use lib.IntN.{pos}
use native.Mathlib.Omega.{arith}
use lib.ListN.{get_or, take}
use lib.Seq.{length-take-le}
use Rattle.line_parts.proofs.WroteLaws.{wrote_none, wrote_next, wrote_at}
use Rattle.line_parts.proofs.spell_numbers.Goals as goal

pub loop-x-init : goal.loop-x-init
loop-x-init c = wrote_none (take c.args.n c.args.xs.now) c.args.at c.args.out.now

pub spell_signed-next-requires : goal.spell_signed-next-requires
spell_signed-next-requires c =
    let a = c.args in
    let xs = take a.n a.xs.now in
    let m = length-take-le a.n a.xs.now (omega arith) in
    let w = wrote_at xs c.loop-x.x-index a.at (omega arith) (omega arith) c.loop-x.invariant in
    omega (arith, w.0, w.1)

pub loop-x-preserved : goal.loop-x-preserved
loop-x-preserved c =
    let a = c.args in
    let xs = take a.n a.xs.now in
    let m = length-take-le a.n a.xs.now (omega arith) in
    let z = get_or xs c.loop-x.x-index (pos 0) in
    let e : to_z w32 (of_z w32 z) ≡ z = search rules in
    wrote_next xs c.loop-x.x-index a.at (to_z w32 (of_z w32 z)) (omega arith) e (omega arith) c.loop-x.invariant c.spell_signed-next.ensures
