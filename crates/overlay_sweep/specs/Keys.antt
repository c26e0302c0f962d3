-- Lower ends as keys, and the span between two of them.
-- Assumes nothing.
use Rattle.std.specs.Prelude.{Option, None, Some, Bool, true, false, cond, List, [], ◌∷◌, ◌≡◌, ℕ, ◌+◌, ◌-◌, ◌*◌, ◌/◌, ◌%◌, ◌<◌, ◌≤◌, ltb, ℤ, pos, nat_abs, ◌+ℤ◌, ◌-ℤ◌, length}
use Rattle.std.proofs.Math.IntN.{pred_ℤ}
use Rattle.std.proofs.lemmas.List.Edits.{sets}
use Rattle.answer.specs.Limits.{most_steps, farthest}
use Rattle.grid.specs.declared.Corner.{Corner}
use Rattle.grid.specs.Grid.{corner}
use Rattle.overlay.specs.declared.{Part.Part, Measure.Measure, Measures.Measures}
use Rattle.overlay.specs.Call.{of_parts}
use Rattle.overlay_laws.specs.Sweep.{part_has, end_at, odd}

-- a corner whose key has a number: a walk goes no farther
abbrev pub KeyFits : Corner → Type 0
KeyFits c = (nat_abs c.0 ≤ farthest) × (nat_abs c.1 ≤ farthest)

-- its key: row and then x, each counted from the least
abbrev pub end_key : Corner → ℕ
end_key c = nat_abs (c.1 +ℤ pos 32768) * 131072 + nat_abs (c.0 +ℤ pos 32768)

-- what stands after the last end of a list: it is greater than any key
abbrev pub last_key : ℕ
last_key = 17179869184

-- the key of an end, if it is there
abbrev pub key_or_last : Option Corner → ℕ
key_or_last None = last_key
key_or_last (Some c) = end_key c

-- the key of the end at place i of n, if it is there
abbrev pub key_at : List ℤ → ℕ → ℕ → ℕ
key_at list n i = cond (ltb i n) (end_key (end_at list i)) last_key

-- the coordinate that was counted so, and the corner that has a key
abbrev pub sunk : ℕ → ℤ
sunk n = pos n -ℤ pos 32768

abbrev pub corner_of : ℕ → Corner
corner_of k = corner (sunk (k % 131072)) (sunk (k / 131072))

-- the numbers of the span between two ends of one row
abbrev pub span_between : ℕ → ℕ → List ℤ
span_between from to = (corner_of from).1 ∷ (corner_of from).0 ∷ pred_ℤ (corner_of to).0 ∷ []

-- that span is counted, and written after those that were counted before if the buffer is long enough
pub record Added (from to : ℕ) (m : Measure) (before : List ℤ) (r : Measure) (after : List ℤ) : Type 0 where
  pub measure : r ≡ record { panels = m.panels + (to - from); spans = m.spans + 1 }
  pub buffer : 3 * m.spans + 2 < length before → after ≡ sets before (3 * m.spans) (span_between from to)

-- so it is for a part that ends here; no other changes
abbrev pub Closed : Bool → ℕ → ℕ → Measure → List ℤ → Measure → List ℤ → Type 0
Closed true from to m before r after = Added from to m before r after
Closed false from to m before r after = (r ≡ m) × (after ≡ before)

-- the measure of each part
abbrev pub in_parts : Measures → Part → Measure
in_parts m = of_parts m.first m.second m.both

-- there is something between the keys for the part that lies after i ends of one list and j of the other, and the counts are
-- small
pub record Closable (i j from to : ℕ) (m : Measures) : Type 0 where
  pub order : (k : Part) → part_has k (odd i) (odd j) ≡ true → from ≤ to
  pub last : to ≤ last_key
  pub few : (k : Part) → ((in_parts m k).spans ≤ 2 * most_steps) × ((in_parts m k).panels ≤ 2 * most_steps * last_key)
