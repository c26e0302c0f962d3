-- Lines with turns as lines with steps: the converter (RULES 7.8 to 7.10). Assumes nothing.
use Rattle.lists.specs.Lists.{Below}
use Rattle.std.specs.Prelude.{◌≡◌, List, [], ◌∷◌, ◌++◌, length, ℕ, Option, Some, None}
use Rattle.steps.specs.Turns.{steps_of, turns_judged, written_if}
use Rattle.line_frame.specs.declared.{Kind.Kind, Kind.TheVariants.Operations, Kind.TheVariants.Turns}
use Rattle.line_frame.specs.{Hex.letter_of, Hex.hex_of, Line.frame_of, Line.digits_of, Program.output_from}

-- the digits that are worth these
unfoldable pub letters_of : List ℕ → List ℕ
letters_of [] = []
letters_of (d ∷ ds) = letter_of d ∷ letters_of ds

-- the frame of this kind with these digits: two digits for the kind, four for their number, and one for each
abbrev pub framed : ℕ → List ℕ → List ℕ
framed kind ds = hex_of 2 kind ++ hex_of 4 (length ds) ++ letters_of ds

-- the frame of kind 00 with these steps
abbrev pub steps_frame : List ℕ → List ℕ
steps_frame ds = framed 0 ds

-- a frame of kind 01 whose turns may be converted becomes the frame of kind 00 with their steps; any other frame stays
abbrev pub kind_converted : Kind → List ℕ → List ℕ
kind_converted Operations s = s
kind_converted Turns s = written_if (turns_judged (digits_of s) (length (digits_of s))) (steps_frame (steps_of (digits_of s))) s

-- so does a line that is not a frame
abbrev pub converted_by : Option (Kind × ℕ) → List ℕ → List ℕ
converted_by (Some (k, n)) s = kind_converted k s
converted_by None s = s

-- the line is a frame of kind 01 whose turns may be converted: they are all below 4
pub record Turned (s : List ℕ) : Type 0 where
  pub count : ℕ
  pub frame : frame_of s ≡ Some (Turns, count)
  pub turns : Below 4 (digits_of s)

-- a line, converted
unfoldable pub converted_line : List ℕ → List ℕ
converted_line s = converted_by (frame_of s) s

-- with its line feed
abbrev pub converted : List ℕ → List ℕ
converted l = converted_line l ++ (10 ∷ [])

-- the output for an input: every line is converted, and a last line that lacks its line feed goes on lacking it
abbrev pub converter : List ℕ → List ℕ
converter s = output_from converted converted_line [] s
