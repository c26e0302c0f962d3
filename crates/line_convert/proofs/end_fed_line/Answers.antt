-- `line_convert::end_fed_line` meets its contract.
use mathlib.Core.Path.{refl}
use mathlib.Core.List.{[], ◌∷◌}
use Prim.Native.Nat.{◌+◌}
use native.Mathlib.Omega.{arith}
use Rattle.line_fields.specs.Put.{Wrote}
use Rattle.line_fields.proofs.PutLaws.{wrote_append, put_one}
use Rattle.line_convert.proofs.ConvertLaws.{ended_most}
use Rattle.line_convert.proofs.end_fed_line.Goals as goal

pub bounds-out-end : goal.bounds-out-end
bounds-out-end c =
    let r = c.end_line-end in
    omega (arith, ended_most c.args.h.now, r.ensures.end, r.auto.out, c.requires)

pub overflow_add-result : goal.overflow_add-result
overflow_add-result c =
    let r = c.end_line-end in
    omega (arith, ended_most c.args.h.now, r.ensures.end)

pub returns : goal.returns
returns c =
    let r = c.end_line-end in
    let m = ended_most c.args.h.now in
    let w : Wrote (10 ∷ []) r.result r.new.out (r.result + 1)
    _ = record { end = refl; buffer = put_one 10 r.result r.new.out (omega (arith, m, r.ensures.end, r.auto.out, c.requires)) } in
    wrote_append r.ensures w (omega (arith, m, c.requires))
