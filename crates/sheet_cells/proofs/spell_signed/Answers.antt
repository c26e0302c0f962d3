-- `sheet_cells::spell_signed` meets its contract.
use mathlib.Core.Path.{ap, ◌∙◌, subst}
use mathlib.Core.List.{List}
use Prim.Native.Nat.{ℕ, ◌-◌}
use native.Mathlib.Omega.{arith}
use lib.ListN.{length-set}
use mir.ValLaws.{to_z-of_z}
use mir.Syntax.{w32}
use Rattle.answer.specs.Words.{bits_of}
use Rattle.line_fields.specs.Put.{Wrote}
use Rattle.sheet.specs.Decimal.{decimal_of}
use Rattle.sheet.specs.Sizes.{most_decimals}
use Rattle.sheet.proofs.SizeLaws.{length-decimal_of}
use Rattle.sheet_cells.proofs.CellLaws.{signed_above, signed_below, wrote_after}
use Rattle.sheet_cells.proofs.spell_signed.Goals as goal

pub returns-then-b-lt2147483648 : goal.returns-then-b-lt2147483648
returns-then-b-lt2147483648 c =
    let a = c.args in
    let b = c.bits-b in
    let r = c.spell_decimal in
    subst (λ (l : List ℕ). Wrote l a.at a.out.now r.result r.new.out)
    (signed_above most_decimals a.x b.result c.ranges.x
    (b.ensures ∙ ap bits_of (to_z-of_z w32 a.x c.ranges.x)) c.if-b-lt2147483648.true) r.ensures

pub spell_decimal-requires-2 : goal.spell_decimal-requires-2
spell_decimal-requires-2 c = omega (arith, length-set c.args.out.now c.args.at 45, c.requires)

pub shape_of-out : goal.shape_of-out
shape_of-out c =
    let a = c.args in
    omega (arith, length-set a.out.now a.at 45, c.spell_decimal-2.auto.out)

pub returns : goal.returns
returns c =
    let a = c.args in
    let b = c.bits-b in
    let r = c.spell_decimal-2 in
    subst (λ (l : List ℕ). Wrote l a.at a.out.now r.result r.new.out)
    (signed_below most_decimals a.x b.result c.ranges.x
    (b.ensures ∙ ap bits_of (to_z-of_z w32 a.x c.ranges.x)) c.if-b-lt2147483648.false)
    (wrote_after 45 a.at (decimal_of most_decimals (4294967296 - b.result))
    (omega (arith, length-decimal_of most_decimals (4294967296 - b.result), c.requires)) r.ensures)
