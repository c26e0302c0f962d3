-- `overlay_call::list_in` meets its contract.
use Rattle.overlay.specs.Call.{of_parts}
use Rattle.overlay_call.proofs.ListLaws.{call_listed}
use Rattle.overlay_call.proofs.list_in.Goals as goal

pub put_parts-requires : goal.put_parts-requires
put_parts-requires c =
    let z = c.args in
    (record { start = z.one.now.start; steps = z.one.now.chain.now; held = c.fill_short-na.ensures.spans }, record { start = z.other.now.start; steps = z.other.now.chain.now; held = c.fill-nb.ensures.spans })

pub returns : goal.returns
returns c =
    let f = c.fill_short-na in
    let g = c.fill-nb in
    let p = c.put_parts in
    let z = c.args in
    call_listed z.one.now.start z.one.now.chain.now z.other.now.start z.other.now.chain.now
    (of_parts z.first.now z.second.now z.both.now) z.one.now.judged
    z.other.now.judged _ _ _ _ p.result _ f.ensures.spans g.ensures.spans p.ensures
