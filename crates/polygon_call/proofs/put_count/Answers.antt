-- `polygon_call::put_count` meets its contract.
use mathlib.Core.Path.{◌≡◌, ap, ◌∙◌}
use mathlib.Core.List.{List, ◌++◌}
use Prim.Native.Nat.{ℕ}
use native.Mathlib.Nat.{div-div-eq-div-mul}
use lib.ListN.{drop}
use Rattle.std.specs.Int.{w32, to_le_bytes}
use Rattle.polygon.specs.Bytes.{bytes_of}
use Rattle.polygon_call.proofs.put_count.Goals as goal

bytes_are : (b : ℕ) → to_le_bytes w32 b ≡ bytes_of 4 b
unfolding bytes_of
bytes_are b = simp div-div-eq-div-mul

pub returns : goal.returns
returns c = ap (λ (l : List ℕ). l ++ drop 4 c.args.buf.now) (c.copy_from_slice.ensures.after ∙ c.to_le_bytes.ensures ∙ bytes_are c.args.n)
