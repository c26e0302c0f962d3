-- Lines and what the rows program writes for them, computed.
-- Assumes nothing.
use mathlib.Core.Path.{◌≡◌, refl}
use Rattle.line_frame.specs.Hex.{all_hex, values_of, number_from, hex_of}
use Rattle.line_frame.specs.Line.{frame_of, line_walked}
use Rattle.line_frame.specs.Program.{output_from}
use Rattle.line_frame.specs.Spelled.{numbers_line}
use Rattle.line_frame.proofs.Bytes.{bytes_of}
use Rattle.line_room.specs.Told.{spans_told, rows_told, rows_program}

-- the input of RULES 14.8, and its output
pub sample : rows_program (bytes_of "0000040123\n00000a1400121233\n0000043210\n00000202\n") ≡ bytes_of "000000000000\n000000000001\n000100000000\nffffffffffff\n8c00000000\n"
unfolding output_from rows_told line_walked spans_told frame_of all_hex values_of number_from hex_of numbers_line bytes_of
sample = refl

-- one panel
pub one-panel : rows_told (bytes_of "0000040123") ≡ bytes_of "000000000000\n"
unfolding rows_told line_walked spans_told frame_of all_hex values_of number_from hex_of numbers_line bytes_of
one-panel = refl

-- the panel south-west of the origin: two's complement
pub below : rows_told (bytes_of "0000043210") ≡ bytes_of "ffffffffffff\n"
unfolding rows_told line_walked spans_told frame_of all_hex values_of number_from hex_of numbers_line bytes_of
below = refl

-- three panels round a corner, after a step that was taken back: two rows, the southern first
pub two-rows : rows_told (bytes_of "00000a1400121233") ≡ bytes_of "000000000001\n000100000000\n"
unfolding rows_told line_walked spans_told frame_of all_hex values_of number_from hex_of numbers_line bytes_of
two-rows = refl

-- there and back is not a room; turns are retired; a bad digit keeps its place; an empty line is not a frame
pub not_a-room : rows_told (bytes_of "00000202") ≡ bytes_of "8c00000000\n"
unfolding rows_told line_walked spans_told frame_of all_hex values_of number_from hex_of numbers_line bytes_of
not_a-room = refl

pub retired : rows_told (bytes_of "0100014") ≡ bytes_of "9300000000\n"
unfolding rows_told line_walked spans_told frame_of all_hex values_of number_from hex_of numbers_line bytes_of
retired = refl

pub bad_digit_lem : rows_told (bytes_of "00000205") ≡ bytes_of "8400000001\n"
unfolding rows_told line_walked spans_told frame_of all_hex values_of number_from hex_of numbers_line bytes_of
bad_digit_lem = refl

pub no_frame : rows_told (bytes_of "") ≡ bytes_of "8900000000\n"
unfolding rows_told line_walked spans_told frame_of all_hex values_of number_from hex_of numbers_line bytes_of
no_frame = refl
