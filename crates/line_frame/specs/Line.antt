-- One line: the frame that it is, and its answer without the line feed (RULES 7.2, 7.5). Assumes nothing.
use Rattle.std.specs.Prelude.{Bool, cond, ◌&&◌, List, length, take, drop, ℕ, zero, suc, ◌+◌, ◌*◌, eqb, ltb, Err, leb, Option, Some, None}
use Rattle.answer.specs.Answers.{Answer}
use Rattle.grid.specs.Grid.{origin}
use Rattle.answer.specs.declared.{Refusal.TheVariants.BadLine, Refusal.TheVariants.RetiredKind}
use Rattle.steps.specs.Operations.{survivors}
use Rattle.layout.specs.Marks.{mark_words}
use Rattle.walk.specs.Walk.{walk_answer}
use Rattle.line_frame.specs.declared.{Kind.Kind, Kind.TheVariants.Operations, Kind.TheVariants.Turns}
use Rattle.line_frame.specs.{Sizes.head_digits, Sizes.most_digits, Sizes.table_words, Hex.all_hex, Hex.values_of, Hex.number_from, Spelled.answer_line}

-- the first two digits
abbrev pub kind_of : List ℕ → ℕ
kind_of s = number_from 0 (take 2 s)

-- the four digits after the kind
abbrev pub count_of : List ℕ → ℕ
count_of s = number_from 0 (take 4 (drop 2 s))

-- only digits; kind 00 or 01; a count of at most 0400; and as many digits after it as it says
abbrev pub is_frame : List ℕ → Bool
is_frame s = all_hex s && ltb (kind_of s) 2 && leb (count_of s) most_digits && eqb (length s) (head_digits + count_of s)

-- kind 00 has operations, 01 turns
abbrev pub kind_named : ℕ → Kind
kind_named zero = Operations
kind_named (suc k) = Turns

-- the kind of the frame that a line is, and how many operations or turns it has; any other line has none
unfoldable pub frame_of : List ℕ → Option (Kind × ℕ)
frame_of s = cond (is_frame s) (Some (kind_named (kind_of s), count_of s)) None

-- the operations or turns of a frame
abbrev pub digits_of : List ℕ → List ℕ
digits_of s = values_of (drop head_digits s)

-- operations are walked in the program's table, with marks and a chain of the lengths that the walk asks for; turns are retired,
-- whatever their digits are: refusal 19
abbrev pub kind_walked : Kind → List ℕ → Answer
kind_walked Operations os = walk_answer origin os table_words (mark_words * length os) (length os)
kind_walked Turns ds = Err RetiredKind

-- a line that is not a frame is refused: refusal 9
abbrev pub frame_walked : Option (Kind × ℕ) → List ℕ → Answer
frame_walked (Some (k, n)) ds = kind_walked k ds
frame_walked None ds = Err BadLine

-- the answer to the walk of a line
unfoldable pub line_walked : List ℕ → Answer
line_walked s = frame_walked (frame_of s) (digits_of s)

-- the answer to a line: that, and the hull of the surviving steps if the walk is accepted
unfoldable pub line_answer : List ℕ → List ℕ
line_answer s = answer_line (line_walked s) (survivors (digits_of s))
