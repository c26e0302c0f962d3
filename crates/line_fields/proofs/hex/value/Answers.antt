-- `line_fields::hex::value` meets its contract.
use native.Mathlib.Omega.{arith}
use borrow.Author.Tests.{le-leb, lt-leb}
use Rattle.line_frame.proofs.HexLaws.{is_hex_range}
use Rattle.line_fields.proofs.hex.value.Goals as goal

pub overflow_sub-result : goal.overflow_sub-result
overflow_sub-result c = (is_hex_range c.args.b c.requires).0

pub returns-then-b-le57 : goal.returns-then-b-le57
returns-then-b-le57 c =
    let b = c.args.b in
    (simp (le-leb _ 57 c.if-b-le57.true), omega (arith, (is_hex_range b c.requires).0))

pub overflow_sub-result-2 : goal.overflow_sub-result-2
overflow_sub-result-2 c =
    let b = c.args.b in
    omega (arith, (is_hex_range b c.requires).2 c.if-b-le57.false)

pub returns : goal.returns
returns c =
    let b = c.args.b in
    (simp (lt-leb _ 57 c.if-b-le57.false), omega (arith, (is_hex_range b c.requires).1, (is_hex_range b c.requires).2 c.if-b-le57.false))
