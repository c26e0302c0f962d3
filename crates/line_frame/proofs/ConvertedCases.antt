-- Lines converted, computed on small inputs.
-- Assumes nothing.
use mathlib.Core.Path.{◌≡◌, refl}
use Rattle.line_frame.specs.Hex.{all_hex, values_of, number_from, hex_of}
use Rattle.line_frame.specs.Line.{frame_of}
use Rattle.line_frame.specs.Program.{output_from}
use Rattle.line_frame.specs.Converted.{letters_of, converted_line, converter}
use Rattle.line_frame.proofs.Bytes.{bytes_of}

-- P11 as turns becomes P11
pub turns-to-steps : converted_line (bytes_of "01000c001030330001") ≡ bytes_of "00000c001100322223"
unfolding converted_line frame_of all_hex values_of number_from hex_of letters_of bytes_of
turns-to-steps = refl

-- 4 is not a turn: the frame stays
pub no_turn : converted_line (bytes_of "01000204") ≡ bytes_of "01000204"
unfolding converted_line frame_of all_hex values_of number_from hex_of letters_of bytes_of
no_turn = refl

-- so do operations, and what is not a frame
pub operations_stay : converted_line (bytes_of "00000204") ≡ bytes_of "00000204"
unfolding converted_line frame_of all_hex values_of number_from hex_of letters_of bytes_of
operations_stay = refl

pub others_stay : converted_line (bytes_of "0100021\r") ≡ bytes_of "0100021\r"
unfolding converted_line frame_of all_hex values_of number_from hex_of letters_of bytes_of
others_stay = refl

-- a whole input: the empty line stays, and the last line goes on lacking its line feed
pub feeds_stay : converter (bytes_of "01000211\nx\n\n0100023f\n01000213") ≡ bytes_of "00000212\nx\n\n0100023f\n00000210"
unfolding converted_line frame_of all_hex values_of number_from hex_of letters_of bytes_of output_from
feeds_stay = refl

-- a final line feed stays, and nothing comes of nothing
pub final_feed_stays : converter (bytes_of "x\n") ≡ bytes_of "x\n"
unfolding converted_line frame_of all_hex values_of number_from hex_of letters_of bytes_of output_from
final_feed_stays = refl
