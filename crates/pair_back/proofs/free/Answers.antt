-- `pair_back::free` meets its contract.
use mathlib.Core.List.{List}
use mathlib.Core.Path.{ap, ◌∙◌}
use Prim.Native.Nat.{ℕ, ◌-◌, ◌*◌}
use native.Mathlib.Omega.{arith}
use lib.ListN.{set, replicate}
use lib.Seq.{sets}
use Rattle.pair_table.specs.Words.{pair_width, pair_word_at}
use Rattle.table_laws.proofs.StoreLaws.{child_word_small}
use Rattle.pair_back.proofs.free.Goals as goal

pub put-requires : goal.put-requires
put-requires c = omega (arith, c.requires.1, c.child_word.ensures, child_word_small c.args.c)

pub returns : goal.returns
returns c =
    let a = c.args in
    let z : List ℕ = replicate pair_width 0 in (
      c.clear_record.ensures ∙ ap (λ (x : List ℕ). sets x (a.u * pair_width) z)
          (c.put.ensures ∙ ap (λ (n : ℕ). set a.t.now (pair_word_at a.up n) 0) c.child_word.ensures),
      ap (λ (n : ℕ). record { nodes = a.s.nodes - 1; low = n }) c.min.ensures,
    )
