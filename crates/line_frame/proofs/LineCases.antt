-- Frames and fields, computed on small inputs.
-- Assumes nothing.
use mathlib.Core.Path.{◌≡◌, refl}
use Rattle.std.specs.Prelude.{Some, None}
use mathlib.Core.List.{List, [], ◌∷◌, ◌++◌}
use Prim.Native.Nat.{ℕ}
use lib.IntN.{negsuc}
use Rattle.answer.specs.Words.{bits_of}
use Rattle.line_frame.specs.declared.Kind.TheVariants.{Operations, Turns}
use Rattle.line_frame.specs.Hex.{all_hex, values_of, number_from, hex_of}
use Rattle.line_frame.specs.Line.{frame_of, digits_of, line_walked, line_answer}
use Rattle.line_frame.specs.Program.{output_from, program}
use Rattle.line_frame.proofs.Bytes.{bytes_of}

pub one_operation : frame_of (bytes_of "0000015") ≡ Some (Operations, 1)
unfolding frame_of all_hex number_from bytes_of
one_operation = refl

pub two-turns : frame_of (bytes_of "0100020f") ≡ Some (Turns, 2)
unfolding frame_of all_hex number_from bytes_of
two-turns = refl

pub its_digits : digits_of (bytes_of "0100020f") ≡ 0 ∷ 15 ∷ []
unfolding values_of bytes_of
its_digits = refl

pub empty_line : frame_of [] ≡ None
unfolding frame_of all_hex number_from
empty_line = refl

pub short_line : frame_of (bytes_of "0000") ≡ None
unfolding frame_of all_hex number_from bytes_of
short_line = refl

pub kind_two : frame_of (bytes_of "020000") ≡ None
unfolding frame_of all_hex number_from bytes_of
kind_two = refl

pub digit_missing : frame_of (bytes_of "000001") ≡ None
unfolding frame_of all_hex number_from bytes_of
digit_missing = refl

pub digit_too_many : frame_of (bytes_of "00000101") ≡ None
unfolding frame_of all_hex number_from bytes_of
digit_too_many = refl

pub upper_case : frame_of (bytes_of "000001F") ≡ None
unfolding frame_of all_hex number_from bytes_of
upper_case = refl

-- a carriage return belongs to the line, and is not a digit
pub carriage_return : frame_of (bytes_of "0000010\r") ≡ None
unfolding frame_of all_hex number_from bytes_of
carriage_return = refl

pub ninth_refusal : line_answer [] ≡ bytes_of "8900000000"
unfolding line_answer line_walked frame_of all_hex number_from hex_of bytes_of
ninth_refusal = refl

-- two's complement, in four digits and in eight
pub minus_one : hex_of 4 (bits_of (negsuc 0)) ≡ bytes_of "ffff"
unfolding hex_of bytes_of
minus_one = refl

pub minus-256 : hex_of 8 (bits_of (negsuc 255)) ≡ bytes_of "ffffff00"
unfolding hex_of bytes_of
minus-256 = refl

-- a line between marks
abbrev marked : List ℕ → List ℕ
marked l = bytes_of "<" ++ l ++ bytes_of ">"

-- nothing follows a final line feed; the last line may lack it; an empty line is a line
pub final_feed : output_from marked marked [] (bytes_of "0\n") ≡ bytes_of "<0>"
unfolding output_from bytes_of
final_feed = refl

pub no_final_feed : output_from marked marked [] (bytes_of "0\n1") ≡ bytes_of "<0><1>"
unfolding output_from bytes_of
no_final_feed = refl

pub feed_alone : output_from marked marked [] (bytes_of "\n") ≡ bytes_of "<>"
unfolding output_from bytes_of
feed_alone = refl

-- what is written for a last line that lacks its line feed may be something else
pub another_last : output_from marked (λ l. l) [] (bytes_of "0\n1") ≡ bytes_of "<0>1"
unfolding output_from bytes_of
another_last = refl

-- no input, no output
pub nothing : program [] ≡ []
unfolding output_from
nothing = refl
