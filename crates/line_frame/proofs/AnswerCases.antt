-- Lines and their answers, computed.
-- Assumes nothing.
use mathlib.Core.Path.{◌≡◌, refl}
use Rattle.hull_laws.specs.Lowest.{sinks, sink}
use Rattle.column_laws.specs.Columns.{west_from, east_from, trail, col_after, row_after}
use Rattle.hull_laws.specs.Chain.{turns_at, cut_at, chain_from, hull_by, hull_of}
use Rattle.line_frame.specs.Hex.{all_hex, values_of, number_from, hex_of}
use Rattle.line_frame.specs.Spelled.{numbers_line}
use Rattle.line_frame.specs.Line.{frame_of, line_walked, line_answer}
use Rattle.line_frame.specs.Program.{output_from, program}
use Rattle.line_frame.proofs.Bytes.{bytes_of}

-- the input of RULES 7.6, and its output
pub sample :
    program (bytes_of "0000040123\n000006004123\n0000015\n")
    ≡ bytes_of "0200040000000400040000000400000001000400000000000100000001000100000001\n0200040000000400040000000400000001000400000000000100000001000100000001\n8400000000\n"
unfolding line_answer line_walked frame_of all_hex values_of number_from hex_of numbers_line hull_of hull_by chain_from cut_at turns_at sinks sink west_from east_from trail col_after row_after bytes_of output_from
sample = refl

-- P1, no operations
pub no_steps : line_answer (bytes_of "000000") ≡ bytes_of "000000000000010001ffffffff00000000000100000000"
unfolding line_answer line_walked frame_of all_hex values_of number_from hex_of numbers_line hull_of hull_by chain_from cut_at turns_at sinks sink west_from east_from trail col_after row_after bytes_of
no_steps = refl

-- P11: verdict 4, meeting (3,9), 11 nodes, six hull corners
pub crossed : line_answer (bytes_of "00000c001100322223") ≡ bytes_of "04000c0000000b000b00030009000000000006000000000002000000040001000400020002000200000001"
unfolding line_answer line_walked frame_of all_hex values_of number_from hex_of numbers_line hull_of hull_by chain_from cut_at turns_at sinks sink west_from east_from trail col_after row_after bytes_of
crossed = refl

-- the same walk as turns: refusal 19
pub turns_retired : line_answer (bytes_of "01000c001030330001") ≡ bytes_of "9300000000"
unfolding line_answer line_walked frame_of all_hex values_of number_from hex_of bytes_of
turns_retired = refl

-- P3: the area is -1
pub clockwise : line_answer (bytes_of "0000043210") ≡ bytes_of "02000400000004000400000004ffffffff0004ffffffff0000ffff00000000ffff0000"
unfolding line_answer line_walked frame_of all_hex values_of number_from hex_of numbers_line hull_of hull_by chain_from cut_at turns_at sinks sink west_from east_from trail col_after row_after bytes_of
clockwise = refl

-- P5: x is -1
pub along-a_line : line_answer (bytes_of "000003022") ≡ bytes_of "03000300000003000300000002000000000002ffff000000010000"
unfolding line_answer line_walked frame_of all_hex values_of number_from hex_of numbers_line hull_of hull_by chain_from cut_at turns_at sinks sink west_from east_from trail col_after row_after bytes_of
along-a_line = refl

-- refusal 5 at place 2
pub nothing-to-take : line_answer (bytes_of "000003044") ≡ bytes_of "8500000002"
unfolding line_answer line_walked frame_of all_hex values_of number_from hex_of numbers_line hull_of hull_by chain_from cut_at turns_at sinks sink west_from east_from trail col_after row_after bytes_of
nothing-to-take = refl

-- 4 is not a turn, and its frame is retired before that is seen
pub retired_first : line_answer (bytes_of "0100014") ≡ bytes_of "9300000000"
unfolding line_answer line_walked frame_of all_hex values_of number_from hex_of bytes_of
retired_first = refl
