-- `polygon_ring_take::float_of` meets its contract.
use mathlib.Core.Bool.{not}
use mathlib.Core.Path.{sym, ap, ◌∙◌, subst}
use Prim.Native.Nat.{ℕ}
use lib.Dec.{T}
use lib.Ieee.{binary64, of_bits, nan_bits}
use Rattle.polygon_ring_laws.proofs.FieldLaws.{kept_float, kept_shows}
use Rattle.polygon_ring_take.proofs.float_of.Goals as goal

pub float_from_bits-result : goal.float_from_bits-result
float_from_bits-result c = subst (λ (b : ℕ). T (not (nan_bits binary64 b))) (sym c.kept.ensures) (kept_shows c.args.bits)

pub returns : goal.returns
returns c = ap (of_bits binary64) c.kept.ensures ∙ kept_float c.args.bits
