-- Sums of x times the change of y, computed beside the sums over panels.
-- Assumes nothing.
use mathlib.Core.List.{[], ◌∷◌}
use mathlib.Core.Path.{◌≡◌, refl}
use lib.IntN.{pos, negsuc}
use Rattle.grid.specs.Grid.{corner, origin}
use Rattle.trace.specs.Verdict.{sweep_from, area_of}
use Rattle.panels.specs.Box.{panel_sum}
use Rattle.panels.specs.Moved.{backward}
use Rattle.panels.proofs.PanelCases.{p2, p3, p11, eight, twice, u, spiral}

-- rooms: P2, P3, P2 far from the origin, a U and a spiral
pub area_of_p2 : area_of origin p2 ≡ pos 1
area_of_p2 = refl

pub area_of_p3 : area_of origin p3 ≡ negsuc 0
area_of_p3 = refl

pub area_far_away : area_of (corner (pos 16384) (negsuc 16383)) p2 ≡ pos 1
area_far_away = refl

area_of_u : area_of origin u ≡ pos 5
area_of_u = refl

pub area_backward : area_of origin (backward u) ≡ negsuc 4
area_backward = refl

area_of_spiral : area_of origin spiral ≡ negsuc 9
area_of_spiral = refl

-- crossed walks: P11 and a figure of eight, whose wings cancel, and twice round one panel
sweep_of_p11 : sweep_from origin p11 ≡ pos 0
sweep_of_p11 = refl

pub sweep_of_eight : sweep_from origin eight ≡ pos 0
sweep_of_eight = refl

pub sweep_of_twice : sweep_from (corner (negsuc 16383) (pos 16384)) twice ≡ pos 2
sweep_of_twice = refl

-- of an open walk the sum depends on the start, and the sum over the panels is another
open_sweep : sweep_from (corner (pos 5) (pos 0)) (1 ∷ []) ≡ pos 5
open_sweep = refl

open_panels : panel_sum (corner (pos 5) (pos 0)) (1 ∷ []) ≡ pos 0
open_panels = refl
