-- `overlay_sweep::second_end` meets its contract.
use native.Mathlib.Omega.{arith}
use mathlib.Core.Path.{ap₂, sym, ◌∙◌, subst, ◌≡◌, refl, ap}
use Prim.Native.Nat.{◌+◌, ◌*◌, ◌/◌, ◌%◌, ◌≤◌}
use lib.ListN.{get_or}
use lib.IntN.{ℤ, pos, nat_abs, ◌+ℤ◌}
use Rattle.grid.specs.Grid.{corner}
use Rattle.overlay_sweep.proofs.EndLaws.{long-back}
use Rattle.overlay_laws.specs.Sweep.{end_at}
use Rattle.std.specs.Prelude.{Some}
use Rattle.overlay_sweep.proofs.second_end.Goals as goal
use Rattle.overlay_sweep.proofs.second_end.Goals.{After-foot}

pub returns-then-i-n : goal.returns-then-i-n
returns-then-i-n c = ((λ h. absurd (omega arith)), (λ h. refl))

pub foot-requires : goal.foot-requires
foot-requires c =
    let s = c.requires.small (3 * (c.args.i / 2) + 1 + c.args.i % 2) (omega (arith, c.requires.even)) in
    subst (λ (v : ℤ). nat_abs v ≤ 32767)
    (sym (long-back (get_or c.args.list.now (3 * (c.args.i / 2) + 1 + c.args.i % 2) (pos 0))
    (omega (arith, s)))) s

there : (c : After-foot) → c.foot.result ≡ end_at c.args.list.now c.args.i
there c =
    let s = c.requires.small (3 * (c.args.i / 2) + 1 + c.args.i % 2) (omega (arith, c.requires.even)) in
    let t = c.requires.small (3 * (c.args.i / 2)) (omega (arith, c.requires.even)) in
    c.foot.ensures
    ∙ ap₂ (λ (x y : ℤ). corner (x +ℤ pos (c.args.i % 2)) y)
    (long-back (get_or c.args.list.now (3 * (c.args.i / 2) + 1 + c.args.i % 2) (pos 0))
    (omega (arith, s))) (long-back (get_or c.args.list.now (3 * (c.args.i / 2)) (pos 0)) (omega (arith, t)))

pub returns : goal.returns
returns c = ((λ h. ap Some (there (goal.at.returns c).After-foot)), (λ h. absurd (omega arith)))
