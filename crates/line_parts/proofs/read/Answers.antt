-- `line_parts::read` meets its contract.
use mathlib.Core.Path.{◌≡◌, ap, sym, ◌∙◌}
use Prim.Native.Nat.{◌+◌, ◌*◌}
use native.Mathlib.Omega.{arith}
use borrow.Author.Tests.{not-true, not-false}
use Rattle.line_frame.specs.Line.{kind_of, count_of, kind_named}
use Rattle.line_frame.proofs.LineLaws.{frame_of-short, frame_of-long, frame_of_digit, frame_of_kind, frame_of_size, frame_of_frame, kind_of_six, count_of_six}
use Rattle.line_parts.proofs.read.Goals as goal

pub returns-then-s-lt-HEAD : goal.returns-then-s-lt-HEAD
returns-then-s-lt-HEAD c = frame_of-short c.args.s.now c.if-s-lt-HEAD.true

pub returns-then-s-gt-MOST_LINE : goal.returns-then-s-gt-MOST_LINE
returns-then-s-gt-MOST_LINE c = sym (frame_of-long c.args.s.now (omega (arith, c.if-s-gt-MOST_LINE.true)))

pub returns-then-not-all_hex : goal.returns-then-not-all_hex
returns-then-not-all_hex c = frame_of_digit c.args.s.now (sym c.all_hex.ensures ∙ not-true _ c.if-not-all_hex.true-raw)

pub pair-k-requires : goal.pair-k-requires
pair-k-requires c = (sym c.all_hex.ensures ∙ not-false _ c.if-not-all_hex.false-raw, omega arith)

pub returns-then-k-gt1 : goal.returns-then-k-gt1
returns-then-k-gt1 c =
    let s = c.args.s.now in
    frame_of_kind s (omega (arith, c.pair-k.ensures.0, kind_of_six s (omega arith)))

pub pair-requires : goal.pair-requires
pair-requires c = (sym c.all_hex.ensures ∙ not-false _ c.if-not-all_hex.false-raw, omega arith)

pub pair-requires-2 : goal.pair-requires-2
pair-requires-2 c = (sym c.all_hex.ensures ∙ not-false _ c.if-not-all_hex.false-raw, omega arith)

pub returns-then-s-n : goal.returns-then-s-n
returns-then-s-n c =
    let s = c.args.s.now in
    let n : c.pair.result * 256 + c.pair-2.result ≡ count_of s = omega (arith, c.pair.ensures.0, c.pair-2.ensures.0, count_of_six s (omega arith)) in
    frame_of_size s (λ e. c.if-s-n.true (omega (arith, n, e)))

pub returns : goal.returns
returns c =
    let s = c.args.s.now in
    let k : c.pair-k.result ≡ kind_of s = c.pair-k.ensures.0 ∙ sym (kind_of_six s (omega arith)) in
    let n : c.pair.result * 256 + c.pair-2.result ≡ count_of s = omega (arith, c.pair.ensures.0, c.pair-2.ensures.0, count_of_six s (omega arith)) in
    frame_of_frame s c.named.result (c.pair.result * 256 + c.pair-2.result)
    (sym c.all_hex.ensures ∙ not-false _ c.if-not-all_hex.false-raw) (omega (arith, k))
    (omega (arith, c.if-s-n.false)) (omega (arith, c.if-s-n.false))
    (c.named.ensures ∙ ap kind_named k) n
