-- `line_fields::hex::spell_signed` meets its contract.
use mathlib.Core.Path.{ap, ◌∙◌, subst}
use Prim.Native.Nat.{ℕ}
use mir.ValLaws.{to_z-of_z}
use mir.Syntax.{w32}
use Rattle.answer.specs.Words.{bits_of}
use Rattle.line_frame.specs.Hex.{hex_of}
use Rattle.line_fields.specs.Put.{Wrote}
use Rattle.line_fields.proofs.hex.spell_signed.Goals as goal

pub returns : goal.returns
returns c =
    let w = c.spell in
    let a = c.args in
    subst (λ (v : ℕ). Wrote (hex_of a.n v) a.at a.out.now w.result w.new.out)
    (c.bits.ensures ∙ ap bits_of (to_z-of_z w32 a.x c.ranges.x)) w.ensures
