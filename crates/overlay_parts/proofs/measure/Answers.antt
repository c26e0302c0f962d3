-- `overlay_parts::measure` meets its contract.
use Rattle.overlay_sweep.specs.Parts.{ends_in, part_spans}
use Rattle.overlay_parts.proofs.PartLaws.{parts_measured}
use Rattle.overlay_parts.proofs.measure.Goals as goal

pub returns : goal.returns
returns c =
    let z = c.args in
    let s = c.sweep in
    parts_measured (part_spans z.a.now (ends_in z.a.now) z.b.now (ends_in z.b.now)) s.result (λ k. (s.ensures k).measure)
