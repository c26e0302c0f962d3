-- The sheet, computed on small inputs.
-- Assumes nothing.
use mathlib.Core.Path.{◌≡◌, refl}
use mathlib.Core.Bool.{true}
use mathlib.Core.List.{◌++◌}
use lib.IntN.{negsuc}
use lib.Ieee.{of_int, to_bits}
use Rattle.polygon.specs.Bytes.{bytes_of}
use Rattle.polygon.specs.Coordinate.{coordinate_of}
use Rattle.polygon.specs.Polygon.{coordinate_bytes, point_bytes, points_bytes, polygon_bytes}
use Rattle.line_frame.specs.Hex.{all_hex, values_of, number_from, hex_of}
use Rattle.line_frame.specs.Line.{frame_of, line_walked}
use Rattle.line_frame.specs.Program.{output_from}
use Rattle.line_frame.proofs.Bytes as text
use Rattle.sheet.specs.Decimal.{decimal_of, signed_of}
use Rattle.sheet.specs.Entry.{empty_cells, hex_bytes, entry_of}
use Rattle.sheet.specs.Sheet.{header, numbered_from, sheet}

-- the names of the columns
pub columns : header ≡ text.bytes_of "id,refusal,place,verdict,steps,nodes,corners,j,k,area,wkb\n"
unfolding text.bytes_of
columns = refl

-- numbers have no zeros before them, but 0 has one digit
pub nought : decimal_of 20 0 ≡ text.bytes_of "0"
unfolding decimal_of text.bytes_of
nought = refl

pub round_number : decimal_of 20 10200 ≡ text.bytes_of "10200"
unfolding decimal_of text.bytes_of
round_number = refl

pub below_nought : signed_of 20 (negsuc 9) ≡ text.bytes_of "-10"
unfolding decimal_of text.bytes_of
below_nought = refl

-- a panel; a walk that is not a room; turns; a line that is not a frame
pub panel : entry_of (text.bytes_of "0000040123") ≡ text.bytes_of "0,0,2,4,4,4,0,4,1,01030000000100000005000000000000000000000000000000000000000000000000c0824000000000000000000000000000c082400000000000c0824000000000000000000000000000c0824000000000000000000000000000000000"
unfolding entry_of line_walked frame_of all_hex values_of number_from decimal_of hex_bytes hex_of bytes_of coordinate_of coordinate_bytes point_bytes points_bytes polygon_bytes of_int to_bits text.bytes_of
panel = refl

pub not_a-room : entry_of (text.bytes_of "00000202") ≡ text.bytes_of "0,0,5,2,2,2,0,2,0,"
unfolding entry_of line_walked frame_of all_hex values_of number_from decimal_of hex_bytes hex_of text.bytes_of
not_a-room = refl

pub retired : entry_of (text.bytes_of "0100014") ≡ text.bytes_of "19,0,,,,,,,,"
unfolding entry_of line_walked frame_of all_hex values_of number_from decimal_of empty_cells text.bytes_of
retired = refl

pub refused : entry_of (text.bytes_of "00000205") ≡ text.bytes_of "4,1,,,,,,,,"
unfolding entry_of line_walked frame_of all_hex values_of number_from decimal_of empty_cells text.bytes_of
refused = refl

-- every line has its number, the last too
pub numbers : numbered_from true 9 (text.bytes_of "a\n\nb\n") ≡ text.bytes_of "9,a\n10,\n11,b\n"
unfolding numbered_from decimal_of text.bytes_of
numbers = refl

-- a whole input: an empty line is not a frame, and the last line may lack its line feed
pub whole : sheet (text.bytes_of "\n00000202") ≡ header ++ text.bytes_of "1,9,0,,,,,,,,\n2,0,0,5,2,2,2,0,2,0,\n"
unfolding output_from numbered_from entry_of line_walked frame_of all_hex values_of number_from decimal_of empty_cells hex_bytes hex_of text.bytes_of
whole = refl
