-- `line_reply::tell` meets its contract.
use mathlib.Core.Path.{refl}
use mathlib.Core.List.{[], ◌∷◌}
use Prim.Native.Nat.{◌+◌}
use native.Mathlib.Omega.{arith}
use Rattle.line_fields.specs.Put.{Wrote}
use Rattle.line_frame.proofs.LineLaws.{line_answer_most}
use Rattle.line_fields.proofs.PutLaws.{wrote_append, put_one}
use Rattle.line_reply.proofs.tell.Goals as goal

pub bounds-out-end : goal.bounds-out-end
bounds-out-end c =
    let r = c.answer_line-end in
    omega (arith, line_answer_most c.args.s.now, r.ensures.wrote.end, r.auto.out)

pub overflow_add-result : goal.overflow_add-result
overflow_add-result c = omega (arith, line_answer_most c.args.s.now, c.answer_line-end.ensures.wrote.end)

pub returns : goal.returns
returns c =
    let a = c.args in
    let r = c.answer_line-end in
    let o = r.new.out in
    let m = line_answer_most a.s.now in
    let w : Wrote (10 ∷ []) r.result o (r.result + 1)
    _ = record { end = refl; buffer = put_one 10 r.result o (omega (arith, m, r.ensures.wrote.end, r.auto.out)) } in
    record { wrote = wrote_append r.ensures.wrote w (omega (arith, m)); clear = r.ensures.clear }
