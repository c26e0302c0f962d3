-- `line_parts::spell_refusal` meets its contract.
use mathlib.Core.Path.{subst₂}
use mathlib.Core.List.{◌++◌}
use Prim.Native.Nat.{ℕ, ◌+◌}
use Rattle.line_frame.specs.Hex.{hex_of}
use Rattle.line_fields.specs.Put.{Wrote}
use Rattle.line_parts.proofs.spell_refusal.Goals as goal

pub returns : goal.returns
returns c =
    let a = c.args in
    subst₂ (λ (v i : ℕ). Wrote (hex_of 2 (0x80 + v) ++ hex_of 8 i) a.at a.out.now c.spell_two.result
    c.spell_two.new.out)
    c.refusal_number-number.ensures.0 c.refusal_place-place.ensures c.spell_two.ensures
