-- `polygon_call::put_float` meets its contract.
use mathlib.Core.Path.{◌≡◌, ap, ◌∙◌}
use mathlib.Core.List.{List, ◌++◌}
use Prim.Native.Nat.{ℕ}
use native.Mathlib.Nat.{div-div-eq-div-mul}
use lib.ListN.{drop}
use lib.Ieee.{binary64, to_bits}
use Rattle.std.specs.Int.{w64, to_le_bytes}
use Rattle.polygon.specs.Bytes.{bytes_of}
use Rattle.polygon_call.proofs.put_float.Goals as goal

bytes_are : (b : ℕ) → to_le_bytes w64 b ≡ bytes_of 8 b
unfolding bytes_of
bytes_are b = simp div-div-eq-div-mul

pub returns : goal.returns
returns c = ap (λ (l : List ℕ). l ++ drop 8 c.args.buf.now) (c.copy_from_slice.ensures.after ∙ c.to_le_bytes.ensures ∙ bytes_are (to_bits binary64 c.args.x))
