-- Lists of spans as the sweep reads them, and what it leaves of the parts of two such lists.
-- Assumes nothing.
use Rattle.std.specs.Prelude.{List, ◌≡◌, ℕ, ◌*◌, ◌/◌, ◌≤◌, ℤ, length}
use Rattle.std.proofs.lemmas.List.Edits.{sets}
use Rattle.grid.specs.declared.Corner.{Corner}
use Rattle.grid.specs.Grid.{end_from}
use Rattle.row.specs.Rows.{Span, span_numbers}
use Rattle.row_laws.specs.Feet.{pairs_of}
use Rattle.overlay.specs.declared.{Part.Part, Measure.Measure}
use Rattle.overlay.specs.Call.{measure_of}
use Rattle.overlay_laws.specs.Sweep.{ends_of_walk, part_ends, ends_from, Numbers}

-- the list has the spans of a closed walk, by n ends
pub record HoldsSpans (c : Corner) (ds : List ℕ) (list : List ℤ) (n : ℕ) : Type 0 where
  pub closed : end_from c ds ≡ c
  pub ends : ends_from list 0 n ≡ ends_of_walk c ds
  pub short : n ≤ length ds
  pub numbers : Numbers list n

-- those of some closed walk
pub record Spanned (list : List ℤ) (n : ℕ) : Type 0 where
  pub start : Corner
  pub steps : List ℕ
  pub held : HoldsSpans start steps list n

-- how many ends the spans of a list have: a span has three numbers and two ends
abbrev pub ends_in : List ℤ → ℕ
ends_in list = length list / 3 * 2

-- the spans of each part of two lists
abbrev pub part_spans : List ℤ → ℕ → List ℤ → ℕ → Part → List Span
part_spans a na b nb k = pairs_of (part_ends k (ends_from a 0 na) (ends_from b 0 nb))

-- a part is measured, and written if the buffer is long enough
pub record Swept (L : List Span) (before : List ℤ) (r : Measure) (after : List ℤ) : Type 0 where
  pub measure : r ≡ measure_of L
  pub buffer : 3 * length L ≤ length before → after ≡ sets before 0 (span_numbers L)
