-- `orthogonal_call::shape` meets its contract.
use Rattle.orthogonal_call.proofs.CallLaws.{small_kept}
use Rattle.orthogonal_call.proofs.CallLaws.{shaped_outlinable}
use Rattle.orthogonal_call.proofs.shape.Goals as goal

pub outline_rows-requires : goal.outline_rows-requires
outline_rows-requires c =
    let a = c.args in
    let p = c.requires in
    let u = c.fill in
    let v = c.fill-2 in
    (small_kept u.new.a v.new.a p.0 u.auto.a v.auto.a, (p.3.0, p.3.1, a.g, shaped_outlinable p.3.0 p.3.1 a.g a.span a.x a.y a.lo.now a.hi.now u.new.a v.new.a p.0 p.2 p.3.2 u.auto.a v.auto.a u.ensures v.ensures))

pub returns : goal.returns
returns c =
    let a = c.args in
    let p = c.requires in
    let u = c.fill in
    let v = c.fill-2 in
    λ s ds h. c.outline_rows.ensures s ds a.g
    (shaped_outlinable s ds a.g a.span a.x a.y a.lo.now a.hi.now u.new.a v.new.a p.0 p.2 h
    u.auto.a v.auto.a u.ensures v.ensures)
