-- What the call for one line takes and leaves. Assumes nothing.
use Rattle.std.specs.Prelude.{◌≡◌, Bool, cond, ◌&&◌, List, length, get_or, ℕ, eqb, leb}
use Rattle.line_frame.specs.Converted.{converted_line}
use Rattle.line_fields.specs.Put.{put}

-- one line, converted, and how many bytes that has; nothing, if the buffer is shorter than the line
pub record ConvertedIs (s before : List ℕ) (n : ℕ) (after : List ℕ) : Type 0 where
  pub answer : n ≡ cond (leb (length s) (length before)) (length s) 0
  pub buffer : after ≡ cond (leb (length s) (length before)) (put (converted_line s) 0 before) before

-- the line begins with the digits 01 (RULES 7.2)
abbrev pub names_turns : List ℕ → Bool
names_turns s = eqb (get_or s 0 0) 48 && eqb (get_or s 1 0) 49
