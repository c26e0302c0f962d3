-- Frames, fields and cells, computed.
-- Assumes nothing.
use mathlib.Core.List.{[], ◌∷◌}
use mathlib.Core.Path.{◌≡◌, refl}
use Prim.Native.Nat.{◌^◌}
use native.Mathlib.Omega.{arith}
use lib.IntN.{pos, negsuc}
use Rattle.line_frame.specs.Hex.{number_from, hex_of}
use Rattle.line_frame.specs.Converted.{letters_of}
use Rattle.line_frame.proofs.Bytes.{bytes_of}
use Rattle.demands.specs.GivenLine.{FrameIs}
use Rattle.demands.specs.Fields.{field_at, signed_by, signed_at}
use Rattle.demands.specs.Cells.{cells_in, decimal_from, decimal_read, bytes_read}

-- P2 as a frame, and a frame of turns
room_frame : FrameIs (bytes_of "0000040123") 0 (0 ∷ 1 ∷ 2 ∷ 3 ∷ [])
unfolding hex_of letters_of bytes_of
room_frame = record { few = omega arith; digits = (omega arith, (omega arith, (omega arith, (omega arith, tt)))); spelled = refl }

turns_frame : FrameIs (bytes_of "010002f3") 1 (15 ∷ 3 ∷ [])
unfolding hex_of letters_of bytes_of
turns_frame = record { few = omega arith; digits = (omega arith, (omega arith, tt)); spelled = refl }

-- two's complement in four digits: the greatest, the least, and -1
greatest : signed_by (16 ^ 4) 0x7fff ≡ pos 32767
greatest = refl

least : signed_by (16 ^ 4) 0x8000 ≡ negsuc 32767
least = refl

minus_one : signed_by (16 ^ 4) 0xffff ≡ negsuc 0
minus_one = refl

-- fields of the answer to P3: four steps, area -1, and y of the hull's first corner
steps-read : field_at (bytes_of "02000400000004000400000004ffffffff0004ffffffff0000ffff00000000ffff0000") 2 4 ≡ 4
unfolding number_from bytes_of
steps-read = refl

area_read : signed_at (bytes_of "02000400000004000400000004ffffffff0004ffffffff0000ffff00000000ffff0000") 26 8 ≡ negsuc 0
unfolding number_from bytes_of
area_read = refl

hull_read : signed_at (bytes_of "02000400000004000400000004ffffffff0004ffffffff0000ffff00000000ffff0000") 42 4 ≡ negsuc 0
unfolding number_from bytes_of
hull_read = refl

-- a row of the table: a comma ends a cell, and the last one may be empty
cells_read : cells_in (bytes_of "19,,-10,") ≡ bytes_of "19" ∷ [] ∷ bytes_of "-10" ∷ [] ∷ []
unfolding cells_in bytes_of
cells_read = refl

number_read : decimal_read (bytes_of "10200") ≡ pos 10200
unfolding decimal_read decimal_from bytes_of
number_read = refl

negative_read : decimal_read (bytes_of "-10") ≡ negsuc 9
unfolding decimal_read decimal_from bytes_of
negative_read = refl

bytes_read_lem : bytes_read (bytes_of "0103ff") ≡ 1 ∷ 3 ∷ 255 ∷ []
unfolding bytes_read bytes_of
bytes_read_lem = refl
