-- `walk_back::drop_node` meets its contract.
use mathlib.Core.List.{List}
use mathlib.Core.Path.{ap, ◌∙◌}
use Prim.Native.Nat.{ℕ, ◌+◌, ◌-◌, ◌*◌}
use native.Mathlib.Omega.{arith}
use lib.ListN.{length, set, length-set, replicate}
use lib.Seq.{sets}
use Rattle.layout.specs.Table.{width}
use Rattle.table_laws.proofs.StoreLaws.{child_word_small}
use Rattle.walk_back.proofs.RoundLaws.{newest_bounds}
use Rattle.walk_back.proofs.drop_node.Goals as goal

pub word-requires : goal.word-requires
word-requires c = omega (arith, (newest_bounds c.args.t.now c.args.u c.args.c c.requires).0)

pub overflow_sub-up : goal.overflow_sub-up
overflow_sub-up c = omega (arith, (newest_bounds c.args.t.now c.args.u c.args.c c.requires).1, c.word.ensures)

pub put-requires : goal.put-requires
put-requires c =
    let b = newest_bounds c.args.t.now c.args.u c.args.c c.requires in
    omega (arith, b.0, b.2, c.word.ensures, c.child_word.ensures, child_word_small c.args.c)

pub clear_record-requires : goal.clear_record-requires
clear_record-requires c =
    omega (arith, (newest_bounds c.args.t.now c.args.u c.args.c c.requires).0, ap length c.put.ensures ∙ length-set c.args.t.now ((c.word.result - 1) * width + c.child_word.result) 0)

pub returns : goal.returns
returns c =
    let v = c.word in
    let z : List ℕ = replicate width 0 in
    (ap (λ (n : ℕ). n - 1) v.ensures, c.clear_record.ensures ∙ ap (λ (x : List ℕ). sets x (c.args.u * width) z) (c.put.ensures ∙ ap (λ (n : ℕ). set c.args.t.now ((v.result - 1) * width + n) 0) c.child_word.ensures))
