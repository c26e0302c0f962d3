-- Bytes written into a buffer; the rest of the buffer stays as it was. Assumes nothing.
use Rattle.std.specs.Prelude.{◌≡◌, List, ◌++◌, length, take, drop, ℕ, ◌+◌}

-- the buffer with the bytes f from the place at on
unfoldable pub put : List ℕ → ℕ → List ℕ → List ℕ
put f at buf = take at buf ++ f ++ drop (at + length f) buf

-- the bytes f were written into the buffer from the place at on, and e is the place after them
pub record Wrote (f : List ℕ) (at : ℕ) (before : List ℕ) (e : ℕ) (after : List ℕ) : Type 0 where
  pub end : e ≡ at + length f
  pub buffer : after ≡ put f at before
