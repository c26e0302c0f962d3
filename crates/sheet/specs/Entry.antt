-- What the sheet says of a line, without its number and its line feed (RULES 20.2, 20.3). Assumes nothing.
use Rattle.std.specs.Prelude.{cond, List, [], ◌∷◌, ◌++◌, ℕ, zero, Err, Ok, suc}
use Rattle.answer.specs.Answers.{Answer}
use Rattle.grid.specs.Grid.{origin}
use Rattle.answer.specs.declared.{Facts.Facts}
use Rattle.answer.specs.Refusal.{refusal_number, refusal_place, verdict_number}
use Rattle.steps.specs.Operations.{survivors}
use Rattle.room.specs.Room.{is_room}
use Rattle.polygon.specs.Polygon.{polygon_of}
use Rattle.line_frame.specs.{Hex.hex_of, Line.digits_of, Line.line_walked}
use Rattle.sheet.specs.{Decimal.decimal_of, Decimal.signed_of, Sizes.most_decimals}

-- a number and a comma
abbrev pub cell_of : ℕ → List ℕ
cell_of n = decimal_of most_decimals n ++ (44 ∷ [])

-- a refusal's number and place, then verdict, n, nodes, different corners, j, k and area
abbrev pub cells_of : ℕ → ℕ → Facts → List ℕ
cells_of number place f =
    cell_of number
    ++ cell_of place
    ++ cell_of (verdict_number f.verdict)
    ++ cell_of f.steps
    ++ cell_of f.nodes
    ++ cell_of f.corners
    ++ cell_of f.j
    ++ cell_of f.k
    ++ signed_of most_decimals f.area
    ++ (44 ∷ [])

-- this many cells with nothing in them
unfoldable pub empty_cells : ℕ → List ℕ
empty_cells zero = []
empty_cells (suc k) = empty_cells k ++ (44 ∷ [])

-- how many facts a row has: verdict, n, nodes, different corners, j, k and area
abbrev pub fact_count : ℕ
fact_count = 7

-- a refusal's number and place, and no facts
abbrev pub refused_cells : ℕ → ℕ → List ℕ
refused_cells number place = cell_of number ++ cell_of place ++ empty_cells fact_count

-- bytes in hexadecimal, two digits each
unfoldable pub hex_bytes : List ℕ → List ℕ
hex_bytes [] = []
hex_bytes (b ∷ s) = hex_of 2 b ++ hex_bytes s

-- the polygon of a room; nothing for a walk that is not a room
abbrev pub polygon_cell : List ℕ → List ℕ
polygon_cell w = cond (is_room origin w) (hex_bytes (polygon_of origin w)) []

-- an answer to a walk, if its steps w survive
abbrev pub entry_by : Answer → List ℕ → List ℕ
entry_by (Ok f) w = cells_of 0 0 f ++ polygon_cell w
entry_by (Err r) w = refused_cells (refusal_number r) (refusal_place r)

-- what is said of a line: its walk's answer, and the polygon of the steps that survive
unfoldable pub entry_of : List ℕ → List ℕ
entry_of s = entry_by (line_walked s) (survivors (digits_of s))
