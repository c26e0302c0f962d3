-- What the area means (RULES 1.10), for every closed walk, crossed ones too, of any steps from any start. `sweep_from` is the sum
-- over the steps of x times the change of y. Each is proved by naming a law. Assumes nothing.
use mathlib.Core.List.{List, map}
use mathlib.Core.Logic.{◌↔◌}
use mathlib.Core.Path.{◌≡◌}
use Prim.Native.Nat.{ℕ, ◌%◌}
use lib.IntN.{neg_ℤ, nat_abs}
use Rattle.grid.specs.declared.{Corner.Corner, Panel.Panel}
use Rattle.grid.specs.Grid.{end_from, corner_at}
use Rattle.trace.specs.Verdict.{IsRoom, sweep_from, area_of}
use Rattle.panels.specs.Edges.{surplus_of}
use Rattle.panels.specs.Box.{panel_sum}
use Rattle.panels.specs.Inside.{Inside}
use Rattle.panels.specs.Moved.{turned, mirrored, flipped, started_at, backward}
use Rattle.area_laws.proofs.AreaLaws as area_laws
use Rattle.area_laws.proofs.ImageLaws as image_laws
use Rattle.area_laws.proofs.MovedLaws as outline_laws

-- "the sum of x times the change of y equals the sum over all panels of the bounding box of northward minus southward edges in
-- that panel's row with x above the panel's"
pub sweep_panels : (c : Corner) (ds : List ℕ) → end_from c ds ≡ c → sweep_from c ds ≡ panel_sum c ds
sweep_panels = area_laws.sweep_panels

-- so the area of a room is that sum
pub area_panels : (c : Corner) (ds : List ℕ) → IsRoom c ds → area_of c ds ≡ panel_sum c ds
area_panels = area_laws.area_panels

-- "a quarter turn of all steps .. leaves the sum unchanged", wherever the turned walk starts
pub sweep_turned : (c e : Corner) (ds : List ℕ) → end_from c ds ≡ c → sweep_from e (map turned ds) ≡ sweep_from c ds
sweep_turned = image_laws.sweep_turned

-- "another starting corner on the same closed outline leaves the sum unchanged": pj for p0
pub sweep_started : (c : Corner) (ds : List ℕ) (j : ℕ) → end_from c ds ≡ c
    → sweep_from (corner_at c ds j) (started_at j ds) ≡ sweep_from c ds
sweep_started = outline_laws.sweep_started

-- and so does the same outline elsewhere
pub sweep_moved : (c e : Corner) (ds : List ℕ) → end_from c ds ≡ c → sweep_from e ds ≡ sweep_from c ds
sweep_moved = image_laws.sweep_moved

-- "walking it backwards .. changes only its sign"
pub sweep_backward : (c e : Corner) (ds : List ℕ) → end_from c ds ≡ c → sweep_from e (backward ds) ≡ neg_ℤ (sweep_from c ds)
sweep_backward = outline_laws.sweep_backward

-- "or mirroring it", east for west or north for south
pub sweep_mirrored : (c e : Corner) (ds : List ℕ) → end_from c ds ≡ c → sweep_from e (map mirrored ds) ≡ neg_ℤ (sweep_from c ds)
sweep_mirrored = image_laws.sweep_mirrored

pub sweep_flipped : (c e : Corner) (ds : List ℕ) → end_from c ds ≡ c → sweep_from e (map flipped ds) ≡ neg_ℤ (sweep_from c ds)
sweep_flipped = image_laws.sweep_flipped

-- northward minus southward edges are odd in number exactly for the panels inside
pub surplus_inside : (c : Corner) (ds : List ℕ) (p : Panel) → Inside c ds p ↔ (nat_abs (surplus_of c ds p) % 2 ≡ 1)
surplus_inside = area_laws.surplus_inside
