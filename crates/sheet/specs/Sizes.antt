-- The sizes of the sheet of polygons. Assumes nothing.
use Rattle.std.specs.Prelude.{ℕ, suc, ◌+◌, ◌*◌}
use Rattle.line_frame.specs.Sizes.{most_digits}

-- digits of a number of 64 bits at most
abbrev pub most_decimals : ℕ
most_decimals = 20

-- bytes of a cell at most: such a number and a comma
abbrev pub most_cell : ℕ
most_cell = suc most_decimals

-- bytes of a frame's polygon at most: the header, and sixteen for each point, one more than the steps
abbrev pub most_polygon : ℕ
most_polygon = 13 + 16 * suc most_digits

-- bytes of what is said of a line at most: nine cells, the sign of the area, two digits for each byte of the polygon, and the
-- line feed
abbrev pub most_entry : ℕ
most_entry = 9 * most_cell + 1 + 2 * most_polygon + 1
