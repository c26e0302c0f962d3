-- `polygon_ring_take::known` meets its contract.
use mathlib.Core.Path.{sym, ap, ◌∙◌, subst}
use Prim.Native.Nat.{ℕ}
use lib.Ieee.{binary64, of_bits}
use Rattle.answer.specs.Limits.{farthest}
use Rattle.polygon_ring.specs.Coordinate.{whole_of}
use Rattle.polygon_ring_laws.specs.Fields.{IsAccepted}
use Rattle.polygon_ring_laws.proofs.FieldLaws.{known_zero, known_reach, known_le, known_is}
use Rattle.polygon_ring_take.proofs.known.Goals as goal

pub returns-then-unsigned-eq0 : goal.returns-then-unsigned-eq0
returns-then-unsigned-eq0 c =
    let before : IsAccepted (of_bits binary64 c.eight-bits.result) = subst (λ (b : ℕ). IsAccepted (of_bits binary64 b)) (sym c.eight-bits.ensures) c.requires.1 in
    known_zero c.eight-bits.result before c.if-unsigned-eq0.true
    ∙ ap (λ (b : ℕ). whole_of farthest (of_bits binary64 b)) c.eight-bits.ensures

pub panels-requires : goal.panels-requires
panels-requires c =
    let before : IsAccepted (of_bits binary64 c.eight-bits.result) = subst (λ (b : ℕ). IsAccepted (of_bits binary64 b)) (sym c.eight-bits.ensures) c.requires.1 in
    known_reach c.eight-bits.result before c.if-unsigned-eq0.false

pub signed-requires : goal.signed-requires
signed-requires c =
    let before : IsAccepted (of_bits binary64 c.eight-bits.result) = subst (λ (b : ℕ). IsAccepted (of_bits binary64 b)) (sym c.eight-bits.ensures) c.requires.1 in
    known_le c.eight-bits.result before c.panels.result c.panels.ensures

pub returns : goal.returns
returns c =
    let before : IsAccepted (of_bits binary64 c.eight-bits.result) = subst (λ (b : ℕ). IsAccepted (of_bits binary64 b)) (sym c.eight-bits.ensures) c.requires.1 in
    let p = c.panels in
    known_is c.eight-bits.result before p.result p.ensures c.signed.result c.signed.ensures
    ∙ ap (λ (b : ℕ). whole_of farthest (of_bits binary64 b)) c.eight-bits.ensures
