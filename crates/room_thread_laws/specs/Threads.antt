-- Each place of a walk has a column and a height. A thread leads from each place to the last one before it in the same column.
-- Assumes nothing.
use Rattle.std.specs.Prelude.{◌≡◌, Bool, true, false, List, [], ◌∷◌, ◌↔◌, ℕ, zero, suc, ◌+◌, ◌<◌, ◌≤◌, eqb, length, get_or, drop, pos, ◌+ℤ◌, ◌-ℤ◌}
use Rattle.grid.specs.declared.Corner.{Corner}
use Rattle.grid.specs.Grid.{end_from, corner_at}
use Rattle.trace.specs.Verdict.{IsRoom}
use Rattle.column_laws.specs.Columns.{top, col_after, row_after}

-- 1 + the last place before i in column c; 0 if there is none
unfoldable pub last_in : List ℕ → ℕ → ℕ → ℕ
last_in xs c zero = 0
last_in xs c (suc i) = elim (eqb (get_or xs i 0) c) [ true ↦ suc i | false ↦ last_in xs c i ]

-- the first i places are threaded: head has the last place of each column, next the one before each place
pub record Threaded (xs head next : List ℕ) (i : ℕ) : Type 0 where
  pub heads : (c : ℕ) → c < length head → get_or head c 0 ≡ last_in xs c i
  pub nexts : (j : ℕ) → j < i → get_or next j 0 ≡ last_in xs (get_or xs j 0) j

-- two of the first n places have one column and one height
pub record Double (xs hs : List ℕ) (n : ℕ) : Type 0 where
  pub j : ℕ
  pub k : ℕ
  pub earlier : j < k
  pub within : k < n
  pub column : get_or xs j 0 ≡ get_or xs k 0
  pub height : get_or hs j 0 ≡ get_or hs k 0

-- no two of them that stand in column c have one height
abbrev pub Single : List ℕ → List ℕ → ℕ → ℕ → Type 0
Single xs hs n c = (j k : ℕ) → j < k → k < n → get_or xs j 0 ≡ c → get_or xs k 0 ≡ c → get_or hs j 0 ≡ get_or hs k 0 → ⊥

-- column c is followed back to place b: the heights of its places from there on, and no others, bear the stamp t, and none of
-- them twice
pub record Stamped (xs hs stamps : List ℕ) (n c t b : ℕ) : Type 0 where
  pub seen : (h : ℕ) → get_or stamps h 0 ≡ t → (j : ℕ) × (b ≤ j) × (j < n) × (get_or xs j 0 ≡ c) × (get_or hs j 0 ≡ h)
  pub marked : (j : ℕ) → b ≤ j → j < n → get_or xs j 0 ≡ c → get_or stamps (get_or hs j 0) 0 ≡ t
  pub most : (h : ℕ) → get_or stamps h 0 ≤ t
  pub single : (j k : ℕ) → b ≤ j → j < k → k < n → get_or xs j 0 ≡ c → get_or xs k 0 ≡ c → get_or hs j 0 ≡ get_or hs k 0 → ⊥

-- what following the thread of a column answers: whether its places are single, and stamps that do not pass t
pub record Outcome (xs hs : List ℕ) (n c t : ℕ) (r : Bool) (stamps : List ℕ) : Type 0 where
  pub alone : r ≡ true → Single xs hs n c
  pub twice : r ≡ false → Double xs hs n
  pub most : (h : ℕ) → get_or stamps h 0 ≤ t

-- the answer for whatever walk has these threads
abbrev pub ThreadFollowed : List ℕ → List ℕ → List ℕ → ℕ → ℕ → Bool → List ℕ → Type 0
ThreadFollowed next hs before t last r after =
    (xs : List ℕ) (n c : ℕ) → ((j : ℕ) → j < n → get_or next j 0 ≡ last_in xs (get_or xs j 0) j) → last ≡ last_in xs c n
    → ((h : ℕ) → get_or before h 0 < t) → Outcome xs hs n c t r after

-- the threads lead back, and the heights are below the number of stamps
pub record Leads (next hs : List ℕ) (size : ℕ) : Type 0 where
  pub falls : (j : ℕ) → get_or next j 0 ≤ j
  pub heights : (j : ℕ) → get_or hs j 0 < size
  pub both : length next ≤ length hs

-- at place p of the thread, or at its end
abbrev pub Following : List ℕ → List ℕ → List ℕ → ℕ → ℕ → ℕ → List ℕ → Type 0
Following next hs before t last p stamps =
    (xs : List ℕ) (n c : ℕ) → ((j : ℕ) → j < n → get_or next j 0 ≡ last_in xs (get_or xs j 0) j) → last ≡ last_in xs c n
    → ((h : ℕ) → get_or before h 0 < t) → (b : ℕ) × (b ≤ n) × (p ≡ last_in xs c b) × Stamped xs hs stamps n c t b

-- what following all threads answers: whether no two places have one column and one height
abbrev pub Parted : List ℕ → List ℕ → List ℕ → Bool → Type 0
Parted head next hs r =
    (xs : List ℕ) (n : ℕ) → Threaded xs head next n → ((j : ℕ) → j < n → get_or xs j 0 < length head)
    → (r ≡ true → Double xs hs n → ⊥) × (r ≡ false → Double xs hs n)

-- the columns before c are followed
abbrev pub Parting : List ℕ → List ℕ → List ℕ → ℕ → List ℕ → Type 0
Parting head next hs c stamps =
    (xs : List ℕ) (n : ℕ) → Threaded xs head next n → ((h : ℕ) → get_or stamps h 0 < c + 1) × ((k : ℕ) → k < c → Single xs hs n k)

-- where a walk is at each of its places but the last, by where each step leads
unfoldable pub along_from : (ℕ → ℕ → ℕ) → ℕ → List ℕ → List ℕ
along_from f x [] = []
along_from f x (d ∷ ds) = x ∷ along_from f (f x d) ds

-- the columns, and the heights
abbrev pub columns_from : ℕ → List ℕ → List ℕ
columns_from x ds = along_from col_after x ds

abbrev pub rows_from : ℕ → List ℕ → List ℕ
rows_from y ds = along_from row_after y ds

-- the walk that starts in column and height m stays above 0 and below room
pub record Stays (chain : List ℕ) (m size : ℕ) : Type 0 where
  pub columns : (j : ℕ) → j < length chain → (0 < get_or (columns_from m chain) j 0) × (get_or (columns_from m chain) j 0 < size)
  pub rows : (j : ℕ) → j < length chain → (0 < get_or (rows_from m chain) j 0) × (get_or (rows_from m chain) j 0 < size)
  pub narrow : size ≤ suc top

-- its first i places are threaded and have their heights; nothing stands after them
pub record Laid (chain : List ℕ) (m i : ℕ) (head next hs : List ℕ) : Type 0 where
  pub threaded : Threaded (columns_from m chain) head next i
  pub heights : (j : ℕ) → j < i → get_or hs j 0 ≡ get_or (rows_from m chain) j 0
  pub nexts_end : (j : ℕ) → i ≤ j → get_or next j 0 ≡ 0
  pub heights_end : (j : ℕ) → i ≤ j → get_or hs j 0 ≡ 0

-- the same in the middle of the walk, at column x and height y
pub record Laying (chain : List ℕ) (m x y i : ℕ) (head next hs : List ℕ) : Type 0 where
  pub laid : Laid chain m i head next hs
  pub columns : drop i (columns_from m chain) ≡ columns_from x (drop i chain)
  pub rows : drop i (rows_from m chain) ≡ rows_from y (drop i chain)

-- an array of zeros
abbrev pub Zero : List ℕ → Type 0
Zero l = (j : ℕ) → get_or l j 0 ≡ 0

-- whether no two places of the walk that starts in column and height m, apart from its last, are one
pub record Scattered (chain : List ℕ) (m : ℕ) (r : Bool) : Type 0 where
  pub yes : r ≡ true → Double (columns_from m chain) (rows_from m chain) (length chain) → ⊥
  pub no : r ≡ false → Double (columns_from m chain) (rows_from m chain) (length chain)

-- the working store is large enough for the walk, and holds nothing yet
pub record ThreadStore (chain : List ℕ) (m : ℕ) (head next hs stamps : List ℕ) : Type 0 where
  pub stays : Stays chain m (length head)
  pub some : 0 < length head
  pub places : length chain ≤ length next
  pub heights : length next ≤ length hs
  pub marks : length stamps ≡ length head
  pub zeros : Zero head × Zero next × Zero hs × Zero stamps

-- after i steps of a walk that starts in column and height m, it is in column x and at height y
pub record Goes (chain : List ℕ) (m x y i : ℕ) : Type 0 where
  pub west : m ≤ x + i
  pub east : x ≤ m + i
  pub south : m ≤ y + i
  pub north : y ≤ m + i
  pub corner : (c : Corner)
      → ((corner_at c chain i).0 ≡ (c.0 -ℤ pos m) +ℤ pos x) × ((corner_at c chain i).1 ≡ (c.1 -ℤ pos m) +ℤ pos y)

-- whether a walk is closed, whatever its start
abbrev pub Closes : List ℕ → Bool → Type 0
Closes chain r = (c : Corner) → (r ≡ true) ↔ (end_from c chain ≡ c)

-- whether it is a room, whatever its start
abbrev pub Told : List ℕ → Bool → Type 0
Told chain r = (c : Corner) → (r ≡ true) ↔ IsRoom c chain
