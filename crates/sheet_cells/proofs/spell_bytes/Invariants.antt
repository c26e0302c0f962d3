-- What the loop of `sheet_cells::spell_bytes` keeps.
use mathlib.Core.Path.{◌≡◌}
use Prim.Native.Nat.{◌+◌, ◌*◌}
use lib.ListN.{take}
use Rattle.line_fields.specs.Put.{Wrote}
use Rattle.sheet.specs.Entry.{hex_bytes}
use Rattle.sheet_cells.proofs.spell_bytes.Given as goal

abbrev pub invariant-loop-b : goal.invariant-loop-b
invariant-loop-b l = (l.next ≡ l.at + 2 * l.b-index) × Wrote (hex_bytes (take l.b-index l.s)) l.at l.initial.out l.next l.out
