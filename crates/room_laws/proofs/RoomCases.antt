-- The laws of rooms, used on rooms.
-- Assumes nothing.
use mathlib.Core.Path.{◌≡◌, refl}
use lib.IntN.{pos, nat_abs}
use Rattle.grid.specs.Grid.{corner, origin}
use Rattle.trace.specs.Verdict.{area_of}
use Rattle.trace.proofs.VerdictLaws.{verdict_room}
use Rattle.panels.proofs.PanelCases.{p2, u, spiral}
use Rattle.room_laws.proofs.RoomLaws.{room_magnitude}

-- one panel from a start elsewhere, a U and a spiral
panel_area : nat_abs (area_of (corner (pos 7) (pos 5)) p2) ≡ 1
panel_area = room_magnitude (corner (pos 7) (pos 5)) p2 (verdict_room (corner (pos 7) (pos 5)) p2 refl)

u_area : nat_abs (area_of origin u) ≡ 5
u_area = room_magnitude origin u (verdict_room origin u refl)

spiral_area : nat_abs (area_of origin spiral) ≡ 10
spiral_area = room_magnitude origin spiral (verdict_room origin spiral refl)
