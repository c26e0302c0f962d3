-- Rows of the table of polygons, read back.
-- Assumes nothing.
use mathlib.Core.Bool.{Bool, true, false, cond}
use mathlib.Core.List.{List, [], ◌∷◌, ◌++◌, append_assoc}
use mathlib.Core.Path.{◌≡◌, refl, ap, ap₂, sym, ◌∙◌}
use Prim.Native.Nat.{ℕ, zero, suc, ◌+◌, ◌-◌, ◌*◌, ◌/◌, ◌%◌, ◌^◌, ◌<◌, ◌≤◌}
use native.Mathlib.Omega.{arith}
use native.Mathlib.Nat.{pow-succ'}
use borrow.Author.Tests.{ltb-true, ne_eqb}
use lib.Dec.{ltb}
use lib.Ieee.{binary64, to_bits}
use lib.IntN.{ℤ, pos, negsuc, neg_ℤ, nat_abs}
use lib.ListN.{length, get_or}
use Rattle.answer.specs.declared.Facts.{Facts}
use Rattle.answer.specs.Refusal.{verdict_number}
use Rattle.lists.specs.Lists.{Below}
use Rattle.grid.specs.declared.Corner.{Corner}
use Rattle.polygon.specs.Bytes.{bytes_of}
use Rattle.polygon.specs.Coordinate.{coordinate_of}
use Rattle.polygon.specs.Polygon.{prefix, coordinate_bytes, point_bytes, points_bytes, polygon_bytes}
use Rattle.line_frame.specs.Hex.{letter_of, hex_of, value_of}
use Rattle.line_frame.proofs.HexLaws.{letter_value}
use Rattle.sheet.specs.Decimal.{decimal_of, signed_of}
use Rattle.sheet.specs.Sizes.{most_decimals}
use Rattle.sheet.specs.Entry.{cell_of, cells_of, empty_cells, refused_cells, hex_bytes}
use Rattle.demands.specs.Cells.{cells_by, cells_in, decimal_from, decimal_read, bytes_read, number_at, RefusedRow, RowRead}

-- ---- bytes above a limit: those of a cell are above the comma, and digits above the minus sign too
abbrev Above : ℕ → List ℕ → Type 0
Above m [] = Unit {0}
Above m (b ∷ l) = (m < b) × Above m l

above-append : (m : ℕ) (l r : List ℕ) → Above m l → Above m r → Above m (l ++ r)
above-append m [] r a b = b
above-append m (x ∷ l) r a b = (a.0, above-append m l r a.1 b)

decimal_above : (m k n : ℕ) → m < 48 → Above m (decimal_of k n)
unfolding decimal_of
decimal_above m zero n h = tt
decimal_above m (suc k) n h = go (ltb n 10) (decimal_above m k (n / 10) h)
  where
    go : (b : Bool) → Above m (decimal_of k (n / 10)) → Above m (cond b [] (decimal_of k (n / 10)) ++ ((48 + n % 10) ∷ []))
    go true a = (omega arith, tt)
    go false a = above-append m (decimal_of k (n / 10)) ((48 + n % 10) ∷ []) a (omega arith, tt)

signed_above : (k : ℕ) (z : ℤ) → Above 44 (signed_of k z)
signed_above k (pos n) = decimal_above 44 k n (omega arith)
signed_above k (negsuc n) = (omega arith, decimal_above 44 k (suc n) (omega arith))

letter_above : (d : ℕ) → 44 < letter_of d
letter_above d = go (ltb d 10)
  where
    go : (b : Bool) → 44 < cond b (d + 48) (d + 87)
    go true = omega arith
    go false = omega arith

field_above : (n v : ℕ) → Above 44 (hex_of n v)
unfolding hex_of
field_above zero v = tt
field_above (suc n) v = above-append 44 (hex_of n (v / 16)) (letter_of (v % 16) ∷ []) (field_above n (v / 16)) (letter_above (v % 16), tt)

bytes-above : (s : List ℕ) → Above 44 (hex_bytes s)
unfolding hex_bytes
bytes-above [] = tt
bytes-above (b ∷ s) = above-append 44 (hex_of 2 b) (hex_bytes s) (field_above 2 b) (bytes-above s)

-- ---- the cells of a row
cells_comma : (c r : List ℕ) → Above 44 c → cells_in (c ++ (44 ∷ r)) ≡ c ∷ cells_in r
unfolding cells_in
cells_comma [] r a = refl
cells_comma (b ∷ c) r a = ap₂ (λ (t : Bool) (cs : List (List ℕ)). cells_by t b cs) (ne_eqb b 44 (λ e. omega (arith, a.0))) (cells_comma c r a.1)

cells_last : (c : List ℕ) → Above 44 c → cells_in c ≡ c ∷ []
unfolding cells_in
cells_last [] a = refl
cells_last (b ∷ c) a = ap₂ (λ (t : Bool) (cs : List (List ℕ)). cells_by t b cs) (ne_eqb b 44 (λ e. omega (arith, a.0))) (cells_last c a.1)

-- these cells, each with its comma, begin a row, whatever comes after them
abbrev Begin : List ℕ → List (List ℕ) → Type 0
Begin l cs = (r : List ℕ) → cells_in (l ++ r) ≡ cs ++ cells_in r

begin_more : (l c : List ℕ) (cs : List (List ℕ)) → Begin l cs → Above 44 c → Begin (l ++ (c ++ (44 ∷ []))) (cs ++ (c ∷ []))
begin_more l c cs b a r =
    ap cells_in (append_assoc l (c ++ (44 ∷ [])) r ∙ ap (λ (x : List ℕ). l ++ x) (append_assoc c (44 ∷ []) r))
    ∙ b (c ++ (44 ∷ r))
    ∙ ap (λ (x : List (List ℕ)). cs ++ x) (cells_comma c r a)
    ∙ sym (append_assoc cs (c ∷ []) (cells_in r))

begin_cell : (l : List ℕ) (n : ℕ) (cs : List (List ℕ)) → Begin l cs → Begin (l ++ cell_of n) (cs ++ (decimal_of most_decimals n ∷ []))
begin_cell l n cs b = begin_more l (decimal_of most_decimals n) cs b (decimal_above 44 most_decimals n (omega arith))

-- ---- numbers in decimal
decimal_snoc : (v : ℕ) (l : List ℕ) (b : ℕ) → decimal_from v (l ++ (b ∷ [])) ≡ decimal_from v l * 10 + (b - 48)
unfolding decimal_from
decimal_snoc v [] b = refl
decimal_snoc v (a ∷ l) b = decimal_snoc (v * 10 + (a - 48)) l b

decimal_back : (k n : ℕ) → n < 10 ^ k → decimal_from 0 (decimal_of k n) ≡ n
unfolding decimal_of decimal_from
decimal_back zero n h = omega arith
decimal_back (suc k) n h =
    let p : 10 ^ suc k ≡ 10 * 10 ^ k = pow-succ' 10 k in
    go (ltb n 10) refl (decimal_back k (n / 10) (omega (arith, p)))
  where
    go : (b : Bool) → ltb n 10 ≡ b → decimal_from 0 (decimal_of k (n / 10)) ≡ n / 10 → decimal_from 0 (cond b [] (decimal_of k (n / 10)) ++ ((48 + n % 10) ∷ [])) ≡ n
    go true e i = omega (arith, ltb-true n 10 e)
    go false e i = decimal_snoc 0 (decimal_of k (n / 10)) (48 + n % 10) ∙ omega (arith, i)

-- if no minus sign comes first
unsigned : (l : List ℕ) → Above 45 l → decimal_read l ≡ pos (decimal_from 0 l)
unfolding decimal_read decimal_from
unsigned [] a = refl
unsigned (b ∷ l) a = ap (λ (t : Bool). cond t (neg_ℤ (pos (decimal_from 0 l))) (pos (decimal_from 0 (b ∷ l)))) (ne_eqb b 45 (λ e. omega (arith, a.0)))

signed_back : (z : ℤ) → nat_abs z < 10 ^ most_decimals → decimal_read (signed_of most_decimals z) ≡ z
unfolding decimal_read
signed_back (pos n) h = unsigned (decimal_of most_decimals n) (decimal_above 45 most_decimals n (omega arith)) ∙ ap pos (decimal_back most_decimals n h)
signed_back (negsuc n) h = ap (λ (m : ℕ). neg_ℤ (pos m)) (decimal_back most_decimals (suc n) h)

-- ---- bytes in hexadecimal
bytes_back : (s : List ℕ) → Below 256 s → bytes_read (hex_bytes s) ≡ s
unfolding bytes_read hex_bytes hex_of
bytes_back [] h = refl
bytes_back (b ∷ s) h =
    let e : value_of (letter_of (b / 16 % 16)) * 16 + value_of (letter_of (b % 16)) ≡ b = omega (arith, (letter_value (b / 16 % 16) (omega arith)).1, (letter_value (b % 16) (omega arith)).1, h.0) in
    ap₂ (λ (x : ℕ) (l : List ℕ). x ∷ l) e (bytes_back s h.1)

below_append : (l r : List ℕ) → Below 256 l → Below 256 r → Below 256 (l ++ r)
below_append [] r a b = b
below_append (x ∷ l) r a b = (a.0, below_append l r a.1 b)

number_below : (n b : ℕ) → Below 256 (bytes_of n b)
unfolding bytes_of
number_below zero b = tt
number_below (suc n) b = (omega arith, number_below n (b / 256))

points_below : (ps : List Corner) → Below 256 (points_bytes ps)
unfolding points_bytes point_bytes coordinate_bytes
points_below [] = tt
points_below (c ∷ ps) =
    let x = bytes_of 8 (to_bits binary64 (coordinate_of c.0)) in
    let y = bytes_of 8 (to_bits binary64 (coordinate_of c.1)) in
    below_append (x ++ y) (points_bytes ps) (below_append x y (number_below 8 (to_bits binary64 (coordinate_of c.0))) (number_below 8 (to_bits binary64 (coordinate_of c.1)))) (points_below ps)

prefix_below : Below 256 prefix
prefix_below = (omega arith, (omega arith, (omega arith, (omega arith, (omega arith, (omega arith, (omega arith, (omega arith, (omega arith, tt)))))))))

pub polygon_below : (ps : List Corner) → Below 256 (polygon_bytes ps)
unfolding polygon_bytes
polygon_below ps =
    below_append (prefix ++ bytes_of 4 (length ps)) (points_bytes ps) (below_append prefix (bytes_of 4 (length ps)) prefix_below (number_below 4 (length ps))) (points_below ps)

-- ---- the row of a refused line
abbrev blanks : ℕ → List (List ℕ)
blanks zero = []
blanks (suc k) = [] ∷ blanks k

blank-at : (k m : ℕ) → get_or (blanks k) m [] ≡ []
blank-at zero m = refl
blank-at (suc k) zero = refl
blank-at (suc k) (suc m) = blank-at k m

module _ (n r i : ℕ) where
  abbrev refused_row : List ℕ
  refused_row = cell_of n ++ refused_cells r i

  abbrev three : List (List ℕ)
  three = decimal_of most_decimals n ∷ decimal_of most_decimals r ∷ decimal_of most_decimals i ∷ blanks 8

  refused_cells_lem : cells_in refused_row ≡ three
  unfolding cells_in empty_cells
  refused_cells_lem =
      let d : ℕ → List ℕ = λ m. decimal_of most_decimals m in
      let b1 : Begin (cell_of r) (d r ∷ []) = begin_cell [] r [] (λ x. refl) in
      let b2 : Begin (cell_of r ++ cell_of i) (d r ∷ d i ∷ []) = begin_cell (cell_of r) i (d r ∷ []) b1 in
      begin_cell [] n [] (λ x. refl) (refused_cells r i) ∙ ap (λ (x : List (List ℕ)). d n ∷ x) (b2 (empty_cells 7))

  after-three : (k : ℕ) → 3 ≤ k → get_or three k [] ≡ []
  after-three (suc (suc (suc m))) h = blank-at 8 m
  after-three (suc (suc zero)) h = absurd (omega arith)
  after-three (suc zero) h = absurd (omega arith)
  after-three zero h = absurd (omega arith)

  module _ (hn : n < 10 ^ most_decimals) (hr : r < 10 ^ most_decimals) (hi : i < 10 ^ most_decimals) where
    find : (k m : ℕ) → get_or three k [] ≡ decimal_of most_decimals m → m < 10 ^ most_decimals → number_at refused_row k ≡ m
    find k m e h = ap (λ (cs : List (List ℕ)). decimal_from 0 (get_or cs k [])) refused_cells_lem ∙ ap (decimal_from 0) e ∙ decimal_back most_decimals m h

    pub refused_read : RefusedRow refused_row n r i
    refused_read = record {
      cells = ap length refused_cells_lem;
      id = find 0 n refl hn;
      number = find 1 r refl hr;
      place = find 2 i refl hi;
      empty = λ k h. ap (λ (cs : List (List ℕ)). get_or cs k []) refused_cells_lem ∙ after-three k h;
    }

-- every number of the facts has its digits
pub record Decimals (f : Facts) : Type 0 where
  pub verdict : verdict_number f.verdict < 10 ^ most_decimals
  pub steps : f.steps < 10 ^ most_decimals
  pub nodes : f.nodes < 10 ^ most_decimals
  pub corners : f.corners < 10 ^ most_decimals
  pub j : f.j < 10 ^ most_decimals
  pub k : f.k < 10 ^ most_decimals
  pub area : nat_abs f.area < 10 ^ most_decimals

-- ---- a row
module _ (n r i : ℕ) (f : Facts) (bytes : List ℕ) where
  abbrev row : List ℕ
  row = cell_of n ++ (cells_of r i f ++ hex_bytes bytes)

  abbrev eleven : List (List ℕ)
  eleven =
      decimal_of most_decimals n
      ∷ decimal_of most_decimals r
      ∷ decimal_of most_decimals i
      ∷ decimal_of most_decimals (verdict_number f.verdict)
      ∷ decimal_of most_decimals f.steps
      ∷ decimal_of most_decimals f.nodes
      ∷ decimal_of most_decimals f.corners
      ∷ decimal_of most_decimals f.j
      ∷ decimal_of most_decimals f.k
      ∷ signed_of most_decimals f.area
      ∷ hex_bytes bytes
      ∷ []

  row_cells : cells_in row ≡ eleven
  row_cells =
      let l2 : List ℕ = cell_of r ++ cell_of i in
      let l3 : List ℕ = l2 ++ cell_of (verdict_number f.verdict) in
      let l4 : List ℕ = l3 ++ cell_of f.steps in
      let l5 : List ℕ = l4 ++ cell_of f.nodes in
      let l6 : List ℕ = l5 ++ cell_of f.corners in
      let l7 : List ℕ = l6 ++ cell_of f.j in
      let l8 : List ℕ = l7 ++ cell_of f.k in
      let a : List ℕ = signed_of most_decimals f.area in
      let d : ℕ → List ℕ = λ m. decimal_of most_decimals m in
      let b1 : Begin (cell_of r) (d r ∷ []) = begin_cell [] r [] (λ x. refl) in
      let b2 : Begin l2 (d r ∷ d i ∷ []) = begin_cell (cell_of r) i (d r ∷ []) b1 in
      let b3 : Begin l3 (d r ∷ d i ∷ d (verdict_number f.verdict) ∷ []) = begin_cell l2 (verdict_number f.verdict) (d r ∷ d i ∷ []) b2 in
      let b4 = begin_cell l3 f.steps (d r ∷ d i ∷ d (verdict_number f.verdict) ∷ []) b3 in
      let b5 = begin_cell l4 f.nodes (d r ∷ d i ∷ d (verdict_number f.verdict) ∷ d f.steps ∷ []) b4 in
      let b6 = begin_cell l5 f.corners (d r ∷ d i ∷ d (verdict_number f.verdict) ∷ d f.steps ∷ d f.nodes ∷ []) b5 in
      let b7 = begin_cell l6 f.j (d r ∷ d i ∷ d (verdict_number f.verdict) ∷ d f.steps ∷ d f.nodes ∷ d f.corners ∷ []) b6 in
      let b8 = begin_cell l7 f.k (d r ∷ d i ∷ d (verdict_number f.verdict) ∷ d f.steps ∷ d f.nodes ∷ d f.corners ∷ d f.j ∷ []) b7 in
      let b9 = begin_more l8 a (d r ∷ d i ∷ d (verdict_number f.verdict) ∷ d f.steps ∷ d f.nodes ∷ d f.corners ∷ d f.j ∷ d f.k ∷ []) b8 (signed_above most_decimals f.area) in
      begin_cell [] n [] (λ x. refl) (cells_of r i f ++ hex_bytes bytes)
      ∙ ap (λ (x : List ℕ). d n ∷ cells_in (x ++ hex_bytes bytes)) (append_assoc l8 a (44 ∷ []))
      ∙ ap (λ (x : List (List ℕ)). d n ∷ x) (b9 (hex_bytes bytes))
      ∙ ap (λ (x : List (List ℕ)). d n ∷ d r ∷ d i ∷ d (verdict_number f.verdict) ∷ d f.steps ∷ d f.nodes ∷ d f.corners ∷ d f.j ∷ d f.k ∷ a ∷ x) (cells_last (hex_bytes bytes) (bytes-above bytes))

  -- if every number has its digits
  module _ (hn : n < 10 ^ most_decimals) (hr : r < 10 ^ most_decimals) (hi : i < 10 ^ most_decimals) (hf : Decimals f) (hb : Below 256 bytes) where
    read : (k m : ℕ) → get_or eleven k [] ≡ decimal_of most_decimals m → m < 10 ^ most_decimals → number_at row k ≡ m
    read k m e h = ap (λ (cs : List (List ℕ)). decimal_from 0 (get_or cs k [])) row_cells ∙ ap (decimal_from 0) e ∙ decimal_back most_decimals m h

    pub row_read : RowRead row n r i f bytes
    row_read = record {
      cells = ap length row_cells;
      id = read 0 n refl hn;
      number = read 1 r refl hr;
      place = read 2 i refl hi;
      verdict = read 3 (verdict_number f.verdict) refl hf.verdict;
      steps = read 4 f.steps refl hf.steps;
      nodes = read 5 f.nodes refl hf.nodes;
      corners = read 6 f.corners refl hf.corners;
      j = read 7 f.j refl hf.j;
      k = read 8 f.k refl hf.k;
      area = ap (λ (cs : List (List ℕ)). decimal_read (get_or cs 9 [])) row_cells ∙ signed_back f.area hf.area;
      polygon = ap (λ (cs : List (List ℕ)). bytes_read (get_or cs 10 [])) row_cells ∙ bytes_back bytes hb;
    }
