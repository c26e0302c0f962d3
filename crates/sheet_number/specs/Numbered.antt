-- A part of the sheet, written at the start of a buffer. Assumes nothing.
use Rattle.std.specs.Prelude.{◌≡◌, Bool, List, ℕ, suc, ◌+◌, ◌*◌}
use Rattle.line_frame.specs.Program.{feeds_in}
use Rattle.line_fields.specs.Put.{Wrote}
use Rattle.sheet.specs.{declared.Margin.Margin, Sizes.most_cell, Sheet.numbered_from, Sheet.begins_after, Sheet.page_of, Sheet.margin_after}
use Rattle.sheet_number.specs.declared.Numbered.{Numbered}

-- bytes that are numbered at once at most, and bytes that are written of them
abbrev pub most_piece : ℕ
most_piece = 16384

abbrev pub most_page : ℕ
most_page = 58 + suc most_cell * most_piece

-- the last number of a line from which pieces are numbered on
abbrev pub most_number : ℕ
most_number = 9223372036854775807

-- the bytes s of the entries from the place at on, from the number n on
pub record NumberedFrom (begins : Bool) (n : ℕ) (s : List ℕ) (at : ℕ) (before : List ℕ) (r : Numbered)
    (after : List ℕ) : Type 0 where
  pub output : Wrote (numbered_from begins n s) at before r.used after
  pub margin : r.margin ≡ record { line = n + feeds_in s; begins = begins_after begins s }

-- those bytes, if the sheet stands at m
pub record NumberedIs (m : Margin) (s before : List ℕ) (r : Numbered) (after : List ℕ) : Type 0 where
  pub output : Wrote (page_of m s) 0 before r.used after
  pub margin : r.margin ≡ margin_after m s
