-- `worked::walks::each`: a line ends within the input.
use Rattle.std.proofs.Common.{rules, ◌+◌, ◌-◌, ◌≤◌, ap, length, take, drop, arith, length-drop}
use Rattle.line_stream.proofs.StreamLaws.{line_length_most, take-rest}
use Rattle.worked.proofs.walks.each.Goals as goal

pub overflow_add-end : goal.overflow_add-end
overflow_add-end g c =
    let at = c.loop-at.at in
    let s = c.args.s.now in
    let h : at + c.line_end.result ≤ length s = omega (arith, line_length_most (take (length s - at) (drop at s)), ap length (take-rest s at), length-drop at s, c.line_end.ensures, c.loop-at-test.true) in
    search (rules, h)

pub slice_bounds-one-end : goal.slice_bounds-one-end
slice_bounds-one-end g c =
    let at = c.loop-at.at in
    let s = c.args.s.now in
    omega (arith, line_length_most (take (length s - at) (drop at s)), ap length (take-rest s at), length-drop at s, c.line_end.ensures)
