-- `line_io::pass` meets its contract: what a failed write leaves.
use Rattle.std.specs.Prelude.{Err}
use Rattle.std.proofs.Common.{rules, ◌≡◌}
use Rattle.line_io.specs.declared.Failure.{TheVariants.Unwritten}
use Rattle.line_io.proofs.pass.Goals as goal

pub returns-in_err-q-clause-passed : goal.returns-in_err-q-clause-passed
returns-in_err-q-clause-passed g c =
    let r : c.from_residual.result ≡ Err c.in_err-q.field-0.0 = search rules in
    let u : c.in_err-q.field-0.0 ≡ Unwritten = c.in_err-q.ensures.at in
    rw (r, u) tt

pub returns-in_err-q-clause-bytes : goal.returns-in_err-q-clause-bytes
returns-in_err-q-clause-bytes g c =
    let r : c.from_residual.result ≡ Err c.in_err-q.field-0.0 = search rules in
    let u : c.in_err-q.field-0.0 ≡ Unwritten = c.in_err-q.ensures.at in
    rw (r, u) tt
