-- `convex_part::columns` meets its contract.
use native.Mathlib.Omega.{arith}
use mathlib.Core.Path.{◌∙◌}
use lib.ListN.{length}
use Rattle.std.proofs.lemmas.Slice.{between_to_end}
use Rattle.convex_part.proofs.PassLaws.{scan_rises, columns_level}
use Rattle.convex_part.proofs.columns.Goals as goal

pub along-requires : goal.along-requires
along-requires c =
    let s = c.scan-a in
    let ys = c.args.ys.now in
    let e = between_to_end s.new.s s.result (length s.new.s) (omega arith) in
    (scan_rises ys _ (length ys) (e ∙ s.ensures.chain) (omega arith), omega arith)

pub returns : goal.returns
returns c =
    let s = c.scan-a in
    let e = between_to_end s.new.s s.result (length s.new.s) (omega arith) in
    c.along.ensures ∙ columns_level c.args.ys.now _ (e ∙ s.ensures.chain)
