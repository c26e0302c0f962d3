-- The sizes of the line program (RULES 7.2, 7.3, 7.7). Assumes nothing.
use Rattle.std.specs.Prelude.{ℕ, suc, ◌+◌, ◌*◌}
use Rattle.layout.specs.{Table.width, Marks.mark_words}

-- digits of a frame before its operations or turns: kind 2, count 4
abbrev pub head_digits : ℕ
head_digits = 2 + 4

-- operations or turns of a frame at most
abbrev pub most_digits : ℕ
most_digits = 0x0400

-- digits of a frame at most
abbrev pub most_line : ℕ
most_line = head_digits + most_digits

-- bytes that are kept of a line begun: as many, and one by which a longer line is known
abbrev pub most_held : ℕ
most_held = suc most_line

-- records of the table in which a frame is walked, and the words that they take
abbrev pub frame_records : ℕ
frame_records = 320

abbrev pub table_words : ℕ
table_words = frame_records * width

-- words of the marks
abbrev pub marks_words : ℕ
marks_words = mark_words * most_digits

-- hull corners at most, one more than the steps, and the numbers that list them
abbrev pub most_corners : ℕ
most_corners = suc most_digits

abbrev pub hull_numbers : ℕ
hull_numbers = 2 * most_corners

-- digits of a refused answer: 80 plus the number, place
abbrev pub refused_digits : ℕ
refused_digits = 2 + 8

-- digits of the facts: verdict, n, nodes, different corners, j, k, area
abbrev pub facts_digits : ℕ
facts_digits = 2 + 4 + 8 + 4 + 4 + 4 + 8

-- bytes of an answer at most: facts, hull count, the hull corners, the line feed, and one to spare
abbrev pub most_answer : ℕ
most_answer = facts_digits + 4 + 8 * most_corners + 2
