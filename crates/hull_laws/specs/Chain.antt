-- The chain over columns, the corners that columns stand for, and the two chains as one list.
-- Assumes nothing.
use Rattle.std.specs.Prelude.{Bool, true, false, not, List, [], ◌∷◌, ◌++◌, map, ℕ, zero, suc, ◌+◌, ◌*◌, ◌-◌, ltb, eqb, ℤ, pos, ◌+ℤ◌, ◌-ℤ◌, ◌*ℤ◌, length, get_or, drop, replicate}
use Rattle.lists.specs.Lists.{front}
use Rattle.grid.specs.declared.Corner.{Corner}
use Rattle.grid.specs.Grid.{corner}
use Rattle.column_laws.specs.Columns.{spot, trail, west_from, east_from}
use Rattle.hull_laws.specs.Lowest.{sinks, counted_from, half_turned}

-- columns p, b and a, from left to right, turn left at b
unfoldable pub turns_at : List ℕ → ℕ → ℕ → ℕ → Bool
turns_at ys p b a = ltb ((a - p) * get_or ys b 0 + (b - p) * get_or ys p 0) ((b - p) * get_or ys a 0 + (a - p) * get_or ys p 0)

-- a chain without what makes no left turn after p
unfoldable pub cut_at : List ℕ → ℕ → List ℕ → List ℕ
cut_at ys p [] = []
cut_at ys p (b ∷ []) = b ∷ []
cut_at ys p (b ∷ (a ∷ s)) = elim (turns_at ys p b a) [ true ↦ b ∷ (a ∷ s) | false ↦ cut_at ys p (a ∷ s) ]

-- whether the first of a chain makes no left turn after p
unfoldable pub drops_at : List ℕ → ℕ → List ℕ → Bool
drops_at ys p [] = false
drops_at ys p (b ∷ []) = false
drops_at ys p (b ∷ (a ∷ s)) = not (turns_at ys p b a)

-- the chain of k columns from i on
unfoldable pub chain_from : List ℕ → ℕ → ℕ → List ℕ
chain_from ys i zero = []
chain_from ys i (suc k) = i ∷ cut_at ys i (chain_from ys (suc i) k)

-- the first column from i on to the left that turns left between its two neighbours, or column 0
unfoldable pub turn_from : List ℕ → ℕ → ℕ
turn_from ys zero = zero
turn_from ys (suc i) = elim (turns_at ys i (suc i) (suc (suc i))) [ true ↦ suc i | false ↦ turn_from ys i ]

-- the corner at column and height v, where (0,0) stands for (x1,y1), columns are counted westward and heights downward
abbrev pub spot_back : ℤ → ℤ → ℕ × ℕ → Corner
spot_back x1 y1 v = corner (x1 -ℤ pos v.0) (y1 -ℤ pos v.1)

-- the corner that lies v in the direction `way`, 1 or -1, from o
abbrev pub spot_by : Corner → ℤ → ℕ × ℕ → Corner
spot_by o way v = corner (o.0 +ℤ (way *ℤ pos v.0)) (o.1 +ℤ (way *ℤ pos v.1))

-- a column with its height
abbrev pub col_at : List ℕ → ℕ → ℕ × ℕ
col_at ys c = (c, get_or ys c 0)

-- a list without its first, or without its last
abbrev pub skip : Bool → List ℕ → List ℕ
skip true l = drop 1 l
skip false l = l

abbrev pub stop : Bool → List ℕ → List ℕ
stop true l = front l
stop false l = l

-- the upper chain of the columns 0 to k without the corners that the lower one has too: h is how far apart the two count heights
abbrev pub upper : ℕ → List ℕ → List ℕ → ℕ → List ℕ
upper h lo hi k =
    stop (eqb (get_or lo 0 0 + get_or hi k 0) h)
    (skip (eqb (get_or lo k 0 + get_or hi 0 0) h) (chain_from hi 0 (suc k)))

-- the corners of columns w to e with the lowest heights lo and, turned, hi: the lower chain and then the rest of the upper
unfoldable pub hull_by : ℤ → ℤ → ℕ → ℕ → ℕ → List ℕ → List ℕ → List Corner
hull_by x0 y0 w e h lo hi =
    map (λ c. spot (x0 +ℤ pos w) y0 (col_at lo c)) (chain_from lo 0 (suc (e - w)))
    ++ map (λ c. spot_back (x0 +ℤ pos e) (y0 +ℤ pos h) (col_at hi c)) (upper h lo hi (e - w))

-- the hull of a walk of n steps, in columns that reach n corners to every side of its start
abbrev hull_at : Corner → List ℕ → ℕ → ℕ → ℕ → List Corner
hull_at c ds n w e =
    hull_by (c.0 -ℤ pos n) (c.1 -ℤ pos n) w e (2 * n)
    (sinks (replicate (suc (e - w)) (suc (2 * n))) (map (counted_from w) (trail n n ds)))
    (sinks (replicate (suc (e - w)) (suc (2 * n))) (map (half_turned e (2 * n)) (trail n n ds)))

-- the hull of the walk ds from c: `hull_of_hull` says that it is
unfoldable pub hull_of : Corner → List ℕ → List Corner
hull_of c ds = hull_at c ds (length ds) (west_from (length ds) ds) (east_from (length ds) ds)
