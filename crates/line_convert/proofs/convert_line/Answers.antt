-- `line_convert::convert_line` meets its contract.
use mathlib.Core.Path.{sym, ◌∙◌, subst}
use Rattle.std.specs.Prelude.{Some, None}
use mathlib.Core.List.{List}
use Prim.Native.Nat.{ℕ}
use borrow.Author.Tests.{not-true}
use Rattle.line_fields.specs.Put.{Wrote}
use Rattle.line_frame.proofs.LineLaws.{frame_good}
use Rattle.line_frame.proofs.ConvertedLaws.{converted_line-by}
use Rattle.line_convert.proofs.ConvertLaws.{other_stays}
use Rattle.line_convert.proofs.convert_line.Goals as goal

pub returns-then-not-names_turns : goal.returns-then-not-names_turns
returns-then-not-names_turns c =
    let r = c.copy in
    let a = c.args in
    subst (λ (l : List ℕ). Wrote l a.at a.out.now r.result r.new.out)
    (other_stays a.s.now c.names_turns.ensures (not-true _ c.if-not-names_turns.true-raw)) r.ensures

pub convert_kind-requires : goal.convert_kind-requires
convert_kind-requires c =
    let g = frame_good c.args.s.now c.in-Some.kind c.in-Some.n (sym c.read.ensures ∙ c.in-Some.is) in record { s_value = g.digits; n_le_most_digits = (g.most, g.size); s_in_bounds = c.requires }

pub returns-in-Some : goal.returns-in-Some
returns-in-Some c =
    let r = c.convert_kind in
    let a = c.args in
    subst (λ (l : List ℕ). Wrote l a.at a.out.now r.result r.new.out)
    (converted_line-by a.s.now (Some (c.in-Some.kind, c.in-Some.n)) (sym c.read.ensures ∙ c.in-Some.is)) r.ensures

pub returns-in-None : goal.returns-in-None
returns-in-None c =
    let r = c.copy-in-None in
    let a = c.args in
    subst (λ (l : List ℕ). Wrote l a.at a.out.now r.result r.new.out)
    (converted_line-by a.s.now None (sym c.read.ensures ∙ c.in-None.is)) r.ensures
