-- `polygon_ring_call::Points::corner` meets its contract.
use native.Mathlib.Omega.{arith}
use Prim.Native.Nat.{◌*◌}
use mathlib.Core.Path.{ap, ◌∙◌}
use Rattle.polygon_ring.specs.Ring.{is_faulty, corner_in}
use Rattle.polygon_ring_laws.proofs.RingLaws.{part_room, later-is}
use Rattle.polygon_ring_call.proofs.Points.corner.Goals as goal

pub corner-requires : goal.corner-requires
corner-requires c =
    (part_room c.args.self.now.bytes.now (16 * c.args.i) 16 (omega (arith, c.requires.1, c.args.self.now.whole)), ap is_faulty (later-is c.args.self.now.little c.args.self.now.bytes.now c.args.i c.requires.0) ∙ c.requires.2)

pub returns : goal.returns
returns c =
    c.corner.ensures ∙ ap corner_in
    (later-is c.args.self.now.little c.args.self.now.bytes.now c.args.i c.requires.0)
