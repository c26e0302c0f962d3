-- `overlay_sweep::first_end` meets its contract.
use borrow.Author.Rules.{sfits_of}
use native.Mathlib.Omega.{arith}
use mathlib.Core.Path.{◌≡◌, ap₂, sym, ◌∙◌, subst, refl, ap}
use Prim.Native.Nat.{◌+◌, ◌*◌, ◌/◌, ◌%◌, ◌≤◌}
use lib.ListN.{get_or}
use lib.IntN.{ℤ, pos, nat_abs, ◌+ℤ◌}
use mir.Facts.{to_z-of_z}
use mir.Syntax.{w16, w32}
use mir.Val.{SFits, to_z, of_z}
use Rattle.grid.specs.Grid.{corner}
use Rattle.overlay_sweep.proofs.EndLaws.{short_back}
use Rattle.overlay_laws.specs.Sweep.{end_at}
use Rattle.std.specs.Prelude.{Some}
use Rattle.overlay_sweep.proofs.first_end.Goals as goal
use Rattle.overlay_sweep.proofs.first_end.Goals.{After-foot}

-- a number that was read is what it was before it was kept in 16 bits
kept : (x z : ℤ) → SFits w32 x → x ≡ to_z w16 (of_z w16 z) → nat_abs z ≤ 32767 → to_z w32 (of_z w32 x) ≡ z
kept x z f e s = to_z-of_z f ∙ e ∙ short_back z s

pub returns-then-i-n : goal.returns-then-i-n
returns-then-i-n c = ((λ h. absurd (omega arith)), (λ h. refl))

pub foot-requires : goal.foot-requires
foot-requires c =
    let x = c.from-x in
    let z = get_or c.args.list.now (3 * (c.args.i / 2) + 1 + c.args.i % 2) (pos 0) in
    let s = c.requires.small (3 * (c.args.i / 2) + 1 + c.args.i % 2) (omega (arith, c.requires.even)) in
    subst (λ (v : ℤ). nat_abs v ≤ 32767) (sym (kept x.result z (sfits_of {w = w32} {z = x.result} x.type_inv) x.ensures s)) s

there : (c : After-foot) → c.foot.result ≡ end_at c.args.list.now c.args.i
there c =
    let x = c.from-x in
    let y = c.from-y in
    let p = 3 * (c.args.i / 2) in
    let s = c.requires.small (p + 1 + c.args.i % 2) (omega (arith, c.requires.even)) in
    let t = c.requires.small p (omega (arith, c.requires.even)) in
    c.foot.ensures
    ∙ ap₂ (λ (u v : ℤ). corner (u +ℤ pos (c.args.i % 2)) v)
    (kept x.result (get_or c.args.list.now (p + 1 + c.args.i % 2) (pos 0)) (sfits_of {w = w32} {z = x.result} x.type_inv) x.ensures s)
    (kept y.result (get_or c.args.list.now p (pos 0)) (sfits_of {w = w32} {z = y.result} y.type_inv) y.ensures t)

pub returns : goal.returns
returns c = ((λ h. ap Some (there (goal.at.returns c).After-foot)), (λ h. absurd (omega arith)))
