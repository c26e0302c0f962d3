-- `order::highest` meets its contract.
use mathlib.Core.Path.{◌∙◌}
use native.Mathlib.Omega.{arith}
use borrow.Author.Rules.{rules}
use Rattle.order.proofs.MostLaws.{highest-next, highest_end}
use Rattle.order.proofs.highest.Goals as goal

pub loop-b-preserved : goal.loop-b-preserved
loop-b-preserved c =
    let l = c.loop-b in
    highest-next c.args.bytes.now l.b-index l.most c.max-most.result (omega arith) l.invariant
    (c.max-most.ensures ∙ search rules)

pub returns : goal.returns
returns c = let l = c.loop-b in highest_end c.args.bytes.now l.b-index l.most (omega arith) l.invariant
