-- A text as a list of bytes, for cases that can be read.
-- Assumes nothing.
use mathlib.Core.List as list
use Prim.Native.Nat.{ℕ}
use Prim.Native.Char.{code}
use Prim.Native.String.{String, [], ◌∷◌}

-- the numbers of its characters, which are below 128 in every case
unfoldable pub bytes_of : String → list.List ℕ
bytes_of [] = list.[]
bytes_of (c ∷ s) = list.◌∷◌ (code c) (bytes_of s)
