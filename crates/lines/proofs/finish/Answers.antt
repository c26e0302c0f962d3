-- `lines::finish` meets its contract.
use mathlib.Core.Path.{sym}
use native.Mathlib.Omega.{arith}
use lib.Seq.{length-take-le}
use Rattle.lines.proofs.TaskLaws.{last_none}
use Rattle.lines.proofs.finish.Goals as goal

pub returns-then-held-lt1 : goal.returns-then-held-lt1
returns-then-held-lt1 c =
    let a = c.args in
    last_none a.task a.line.now a.out.now a.held c.if-held-lt1.true

pub slice_bounds-tell_last-end : goal.slice_bounds-tell_last-end
slice_bounds-tell_last-end c = sym (length-take-le c.args.held c.args.line.now (omega (arith, c.requires.held_le_most_held)))

pub tell_last-requires : goal.tell_last-requires
tell_last-requires c =
    let n = length-take-le c.args.held c.args.line.now (omega (arith, c.requires.held_le_most_held)) in record {
      s_nonzero = (omega (arith, n, c.if-held-lt1.false), omega (arith, n, c.requires.held_le_most_held));
      task_in_bounds = c.requires.task_in_bounds;
    }
