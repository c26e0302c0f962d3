-- `line_walk::walk_line` meets its contract.
use mathlib.Core.Path.{sym, ap, ◌∙◌}
use borrow.Author.Rules.{rules}
use Rattle.std.specs.Prelude.{◌≡◌, Err, Option, Some, None}
use Rattle.std.specs.Option.{ok_or}
use Prim.Native.Nat.{ℕ}
use Rattle.answer.specs.declared.Refusal.TheVariants.{BadLine, RetiredKind}
use Rattle.line_frame.specs.declared.Kind.{Kind}
use Rattle.line_frame.specs.Line.{digits_of, frame_of, kind_walked}
use Rattle.line_frame.proofs.LineLaws.{frame_good}
use Rattle.line_room.proofs.WalkedLaws.{line_walked-by}
use Rattle.line_walk.proofs.WalkLaws.{refused_handed, handed_by}
use Rattle.line_walk.proofs.walk_line.Goals as goal

pub returns-in_err-kind-clause-walked_by : goal.returns-in_err-kind-clause-walked_by
returns-in_err-kind-clause-walked_by c =
    let s = c.args.s.now in
    let e : frame_of s ≡ None = sym c.read.ensures ∙ c.in_err-kind.ensures.ok_part in
    let r : c.from_residual.result ≡ Err c.in_err-kind.field-0.0 = search rules in
    let v = c.in_err-kind.ensures.value ∙ ap (λ (o : Option (Kind × ℕ)). ok_or o BadLine) c.in_err-kind.ensures.ok_part in
    let b : c.in_err-kind.field-0.0 ≡ BadLine = cc in
    rw (r, b) (handed_by (line_walked-by s None e) (refused_handed BadLine (digits_of s) c.args.chain.now))

pub walk_digits-requires-clause-s_value : goal.walk_digits-requires-clause-s_value
walk_digits-requires-clause-s_value c =
    (frame_good c.args.s.now c.in_ok-kind.kind c.in_ok-kind.n (sym c.read.ensures ∙ c.in_ok-kind.ensures.ok_part)).digits

pub walk_digits-requires-clause-n_le_most_digits : goal.walk_digits-requires-clause-n_le_most_digits
walk_digits-requires-clause-n_le_most_digits c =
    let g = frame_good c.args.s.now c.in_ok-kind.kind c.in_ok-kind.n (sym c.read.ensures ∙ c.in_ok-kind.ensures.ok_part) in (g.most, g.size)

pub returns-in-Operations-clause-walked_by : goal.returns-in-Operations-clause-walked_by
returns-in-Operations-clause-walked_by c =
    let s = c.args.s.now in
    handed_by (line_walked-by s (Some (c.in_ok-kind.kind, c.in_ok-kind.n)) (sym c.read.ensures ∙ c.in_ok-kind.ensures.ok_part))
    (handed_by (ap (λ (k : Kind). kind_walked k (digits_of s)) (sym c.in-Operations.is)) c.walk_digits.ensures.walked_by)

pub returns-in-Turns-clause-walked_by : goal.returns-in-Turns-clause-walked_by
returns-in-Turns-clause-walked_by c =
    let s = c.args.s.now in
    handed_by (line_walked-by s (Some (c.in_ok-kind.kind, c.in_ok-kind.n)) (sym c.read.ensures ∙ c.in_ok-kind.ensures.ok_part))
    (handed_by (ap (λ (k : Kind). kind_walked k (digits_of s)) (sym c.in-Turns.is)) (refused_handed RetiredKind (digits_of s) c.args.chain.now))
