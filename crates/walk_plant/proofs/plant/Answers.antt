-- `walk_plant::plant` meets its contract.
use mathlib.Core.Path.{◌≡◌, ap, ◌∙◌}
use Prim.Native.Nat.{ℕ}
use native.Mathlib.Omega.{arith}
use borrow.Author.Rules.{rules}
use lib.ListN.{length, replicate}
use Rattle.walk_plant.proofs.GrowLaws.{planted_none, planted_at, grown_visits}
use Rattle.walk_plant.proofs.plant.Goals as goal

pub returns-in_default : goal.returns-in_default
returns-in_default c =
    let g = c.grow in
    let e = c.zero in
    let m : length g.new.t ≡ length c.args.t.now = search rules in
    planted_none (length c.args.t.now) c.args.c g.new.t (rw c.in_default.is at g.ensures) e.new.t
    (e.ensures ∙ ap (λ (n : ℕ). replicate n 0) m)

pub visit-requires : goal.visit-requires
visit-requires c =
    let g = c.grow in
    let m : length g.new.t ≡ length c.args.t.now = search rules in
    let v = grown_visits (length c.args.t.now) c.args.c g.new.t c.in-Some.at c.in-Some.ensures m in
    (v.0, omega (arith, v.1), omega arith)

pub returns : goal.returns
returns c =
    let v = c.visit in
    planted_at (length c.args.t.now) c.args.c c.grow.new.t c.in-Some.at c.in-Some.ensures v.new.t v.ensures
