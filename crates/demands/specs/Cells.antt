-- What a reader finds in a row of the table of polygons (RULES 20.2, 20.3). Assumes nothing.
use Rattle.std.specs.Prelude.{◌≡◌, Bool, true, false, cond, List, [], ◌∷◌, length, get_or, ℕ, ◌+◌, ◌-◌, ◌*◌, ◌≤◌, eqb, ℤ, pos, neg_ℤ}
use Rattle.answer.specs.declared.Facts.{Facts}
use Rattle.answer.specs.Refusal.{verdict_number}
use Rattle.line_frame.specs.Hex.{value_of}

-- a comma ends a cell; any other byte belongs to the first of those after it
abbrev pub cells_by : Bool → ℕ → List (List ℕ) → List (List ℕ)
cells_by true b cs = [] ∷ cs
cells_by false b [] = (b ∷ []) ∷ []
cells_by false b (c ∷ cs) = (b ∷ c) ∷ cs

-- the cells of a row: what stands between its commas
unfoldable pub cells_in : List ℕ → List (List ℕ)
cells_in [] = [] ∷ []
cells_in (b ∷ s) = cells_by (eqb b 44) b (cells_in s)

-- the number that decimal digits spell, after digits that spell v
unfoldable pub decimal_from : ℕ → List ℕ → ℕ
decimal_from v [] = v
decimal_from v (b ∷ s) = decimal_from (v * 10 + (b - 48)) s

-- and with a minus sign before them
unfoldable pub decimal_read : List ℕ → ℤ
decimal_read [] = pos 0
decimal_read (b ∷ s) = cond (eqb b 45) (neg_ℤ (pos (decimal_from 0 s))) (pos (decimal_from 0 (b ∷ s)))

-- the bytes that hexadecimal digits spell, two digits for each byte
unfoldable pub bytes_read : List ℕ → List ℕ
bytes_read [] = []
bytes_read (a ∷ []) = []
bytes_read (a ∷ b ∷ s) = (value_of a * 16 + value_of b) ∷ bytes_read s

-- cell i, and the number in it
abbrev pub cell_at : List ℕ → ℕ → List ℕ
cell_at l i = get_or (cells_in l) i []

abbrev pub number_at : List ℕ → ℕ → ℕ
number_at l i = decimal_from 0 (cell_at l i)

-- row n of a refused line: its number, the refusal's number r and place i, and nothing in all cells after these
pub record RefusedRow (l : List ℕ) (n r i : ℕ) : Type 0 where
  pub cells : length (cells_in l) ≡ 11
  pub id : number_at l 0 ≡ n
  pub number : number_at l 1 ≡ r
  pub place : number_at l 2 ≡ i
  pub empty : (k : ℕ) → 3 ≤ k → cell_at l k ≡ []

-- row n: its number, the refusal's number r and place i, verdict, n, nodes, different corners, j, k, area, and the bytes of the
-- polygon
pub record RowRead (l : List ℕ) (n r i : ℕ) (f : Facts) (bytes : List ℕ) : Type 0 where
  pub cells : length (cells_in l) ≡ 11
  pub id : number_at l 0 ≡ n
  pub number : number_at l 1 ≡ r
  pub place : number_at l 2 ≡ i
  pub verdict : number_at l 3 ≡ verdict_number f.verdict
  pub steps : number_at l 4 ≡ f.steps
  pub nodes : number_at l 5 ≡ f.nodes
  pub corners : number_at l 6 ≡ f.corners
  pub j : number_at l 7 ≡ f.j
  pub k : number_at l 8 ≡ f.k
  pub area : decimal_read (cell_at l 9) ≡ f.area
  pub polygon : bytes_read (cell_at l 10) ≡ bytes
