-- `line_stream::skip` meets its contract.
use mathlib.Core.Path.{ap, ◌∙◌}
use mathlib.Core.List.{List}
use Prim.Native.Nat.{ℕ}
use borrow.Author.Rules.{rules}
use lib.Dec.{ltb}
use Rattle.line_frame.specs.Begun.{line_length}
use Rattle.line_stream.specs.Stream.{near}
use Rattle.line_stream.proofs.StreamLaws.{take-rest}
use Rattle.line_stream.proofs.HoldLaws.{skip-next}
use Rattle.line_stream.proofs.skip.Goals as goal

pub loop-i-preserved : goal.loop-i-preserved
loop-i-preserved c =
    let s = c.args.s.now in
    let i = c.loop-i.i in
    (search rules, skip-next s i near (c.is_near.ensures ∙ ap (λ (l : List ℕ). ltb (line_length l) near) (take-rest s i)) c.if-is_near.false ∙ c.loop-i.invariant.1)
