-- What a reader finds in the lines that the programs write (RULES 7.4, 7.5, 14.7). Assumes nothing.
use Rattle.std.specs.Prelude.{◌≡◌, cond, List, length, take, drop, get_or, ℕ, suc, ◌+◌, ◌-◌, ◌*◌, ◌^◌, ◌<◌, ltb, ℤ, pos, negsuc}
use Rattle.answer.specs.declared.{Facts.Facts, Refusal.Refusal}
use Rattle.answer.specs.Refusal.{refusal_number, refusal_place, verdict_number}
use Rattle.grid.specs.{declared.Corner.Corner, Grid.origin}
use Rattle.row.specs.Rows.{Span}
use Rattle.line_frame.specs.{Hex.number_from, Program.feeds_in}

-- the number that n digits from place i on spell
abbrev pub field_at : List ℕ → ℕ → ℕ → ℕ
field_at l i n = number_from 0 (take n (drop i l))

-- one of m numbers in two's complement: itself in the lower half, and less m in the upper
abbrev pub signed_by : ℕ → ℕ → ℤ
signed_by m v = cond (ltb (v + v) m) (pos v) (negsuc (m - suc v))

-- the signed number that they spell
abbrev pub signed_at : List ℕ → ℕ → ℕ → ℤ
signed_at l i n = signed_by (16 ^ n) (field_at l i n)

-- the line of a refusal: 80 plus the number, and the place
pub record RefusalRead (l : List ℕ) (q : Refusal) : Type 0 where
  pub long : length l ≡ 10
  pub number : field_at l 0 2 ≡ 0x80 + refusal_number q
  pub place : field_at l 2 8 ≡ refusal_place q

-- the line of an accepted frame: verdict, n, nodes, different corners, j, k, area, the number of hull corners, and x and y of
-- each
pub record AnswerRead (l : List ℕ) (f : Facts) (hull : List Corner) : Type 0 where
  pub long : length l ≡ 38 + 8 * length hull
  pub verdict : field_at l 0 2 ≡ verdict_number f.verdict
  pub steps : field_at l 2 4 ≡ f.steps
  pub nodes : field_at l 6 8 ≡ f.nodes
  pub corners : field_at l 14 4 ≡ f.corners
  pub j : field_at l 18 4 ≡ f.j
  pub k : field_at l 22 4 ≡ f.k
  pub area : signed_at l 26 8 ≡ f.area
  pub count : field_at l 34 4 ≡ length hull
  pub x : (i : ℕ) → i < length hull → signed_at l (38 + 8 * i) 4 ≡ (get_or hull i origin).0
  pub y : (i : ℕ) → i < length hull → signed_at l (42 + 8 * i) 4 ≡ (get_or hull i origin).1

-- no panel, for the places after a list of spans
abbrev pub no_span : Span
no_span = record { row = pos 0; first = pos 0; last = pos 0 }

-- the lines of the spans of a room: row, first and last panel of each, and a line feed, which stands nowhere else
pub record SpansRead (l : List ℕ) (spans : List Span) : Type 0 where
  pub long : length l ≡ 13 * length spans
  pub row : (i : ℕ) → i < length spans → signed_at l (13 * i) 4 ≡ (get_or spans i no_span).row
  pub first : (i : ℕ) → i < length spans → signed_at l (13 * i + 4) 4 ≡ (get_or spans i no_span).first
  pub last : (i : ℕ) → i < length spans → signed_at l (13 * i + 8) 4 ≡ (get_or spans i no_span).last
  pub feed : (i : ℕ) → i < length spans → get_or l (13 * i + 12) 0 ≡ 10
  pub lines : feeds_in l ≡ length spans
