-- `line_io::run` meets its contract.
use Rattle.std.specs.Prelude.{Ok, Err}
use Rattle.std.proofs.Common.{rules, ◌≡◌, ◌∙◌, arith, length, ◌<◌, [], sym, ap, subst}
use Rattle.line_io.proofs.RunLaws.{Sofar, sofar_begun, sofar_broken, round_more, round_closed, round_failed}
use Rattle.line_io.proofs.run.Goals as goal

pub loop-init : goal.loop-init
loop-init g c =
    let a = c.args in
    let left = g.R.Read.remaining a.reader.now in
    let held = g.W.Write.contents a.writer.now in (
      omega arith,
      omega arith,
      search rules,
      omega arith,
      subst (λ m. Sofar a.task left left held held m [] []) (sym c.top-m.ensures) (sofar_begun a.task left held),
    )

pub loop-preserved : goal.loop-preserved
loop-preserved g c =
    let (held, fits, same, told, f) = c.loop.invariant in (
      search rules,
      search rules,
      omega arith,
      omega arith,
      round_more f c.go_round.ensures.round c.go_round.ensures.bytes fits (c.in_ok-q.was ∙ ap Ok c.in-More.is),
    )

pub returns-in-Over : goal.returns-in-Over
returns-in-Over g c =
    let (_, fits, same, _, f) = c.loop.invariant in
    λ z.
    let some : 0 < length c.go_round.new.buf = omega (arith, c.go_round.auto.buf) in
    round_closed f c.go_round.ensures.round c.go_round.ensures.bytes fits _ c.close.result (c.in_ok-q.was ∙ ap Ok c.in-Over.is) some c.close.ensures.bytes

pub returns-in_err-q : goal.returns-in_err-q
returns-in_err-q g c =
    let (_, fits, _, _, f) = c.loop.invariant in
    let r : c.from_residual.result ≡ Err c.in_err-q.field-0.0 = search rules in
    rw r (λ z. round_failed f c.go_round.ensures.round c.go_round.ensures.bytes fits c.in_err-q.field-0.0 c.in_err-q.was)

pub returns : goal.returns
returns g c =
    let (_, _, _, _, f) = c.loop.invariant in
    λ z. sofar_broken _ _ _ _ _ f
