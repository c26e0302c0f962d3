-- `overlay_parts::put_all` meets its contract.
use Rattle.overlay.specs.Call.{of_parts}
use Rattle.overlay_sweep.specs.Parts.{ends_in, part_spans}
use Rattle.overlay_parts.proofs.PartLaws.{parts_listed}
use Rattle.overlay_parts.proofs.put_all.Goals as goal

pub returns : goal.returns
returns c =
    let z = c.args in
    let w = c.sweep-m in
    parts_listed (part_spans z.a.now (ends_in z.a.now) z.b.now (ends_in z.b.now)) z.first.now z.second.now z.both.now w.result
    (of_parts w.new.first w.new.second w.new.both) c.requires.2 w.ensures
