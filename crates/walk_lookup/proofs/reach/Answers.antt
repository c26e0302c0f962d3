-- `walk_lookup::reach` meets its contract.
use mathlib.Core.Path.{◌≡◌, ap, sym, subst, ◌∙◌}
use Prim.Native.Nat.{ℕ, ◌+◌, ◌-◌, max}
use native.Mathlib.Omega.{arith}
use lib.ListN.{length, replicate}
use Rattle.grid.specs.Grid.{stepped}
use Rattle.table_laws.proofs.LastLaws.{near_last}
use Rattle.table_laws.proofs.Cites.{near_known}
use Rattle.tree_laws.specs.State.{Made, reached}
use Rattle.walk_table.specs.Refs.{ref_by}
use Rattle.walk_table.proofs.RefLaws.{ref_none}
use Rattle.walk_lookup.proofs.RoomLaws.{none_made}
use Rattle.walk_lookup.proofs.reach.Goals as goal

pub returns-then-known-ne0 : goal.returns-then-known-ne0
returns-then-known-ne0 c =
    let a = c.args in
    let w = c.word-known in
    let m : w.result ≡ w.result - 1 + 1 = omega arith in
    record {
      made = (λ S h r. near_last a.t.now a.nodes S h (length a.t.now) a.from.step a.t.now (w.result - 1 + 1) a.nodes a.from.at
          (stepped a.from.d a.from.at) (near_known a.t.now a.nodes a.from.node a.from.at a.from.d a.from.step S h r a.from.way a.from.counted (w.result - 1 + 1) (sym m ∙ w.ensures) (λ z. omega arith)));
      t_after = (λ z. (cc));
    }

pub returns-then-is_none : goal.returns-then-is_none
returns-then-is_none c =
    let a = c.args in
    let n = c.neighbour-at in
    let z = c.zero in
    let e = ref_none n.result c.if-is_none.ensures in
    let l : length n.new.t ≡ length a.t.now = n.auto.t in
    record {
      made = (λ S h r. subst (λ (v : ℕ). Made (length a.t.now) (reached S a.from.step a.from.at (stepped a.from.d a.from.at)) (stepped a.from.d a.from.at) z.new.t v (max a.nodes v)) (sym e)
          (none_made (length a.t.now) S a.from.step a.from.at (stepped a.from.d a.from.at) n.new.t z.new.t (ref_by n.result)
          (max a.nodes (ref_by n.result)) (max a.nodes 0) e (n.ensures S h r)));
      t_after = (λ i. z.ensures ∙ ap (λ (m : ℕ). replicate {A = ℕ} m 0) l);
    }
