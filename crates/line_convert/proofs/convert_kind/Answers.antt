-- `line_convert::convert_kind` meets its contract.
use mathlib.Core.Path.{sym, subst}
use Rattle.line_fields.specs.Put.{Wrote}
use Rattle.line_frame.specs.declared.Kind.{Kind}
use Rattle.line_frame.specs.Converted.{kind_converted}
use Rattle.line_convert.proofs.convert_kind.Goals as goal

pub returns-in-Operations : goal.returns-in-Operations
returns-in-Operations c =
    let r = c.copy in
    let a = c.args in
    subst (λ (k : Kind). Wrote (kind_converted k a.s.now) a.at a.out.now r.result r.new.out)
    (sym c.in-Operations.is) r.ensures

pub returns-in-Turns : goal.returns-in-Turns
returns-in-Turns c =
    let r = c.convert_frame in
    let a = c.args in
    subst (λ (k : Kind). Wrote (kind_converted k a.s.now) a.at a.out.now r.result r.new.out)
    (sym c.in-Turns.is) r.ensures
