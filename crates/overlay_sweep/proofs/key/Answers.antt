-- `overlay_sweep::key` meets its contract.
use borrow.Author.Rules.{sfits_of}
use mathlib.Core.Path.{ap, ap₂, ◌∙◌}
use Prim.Native.Nat.{ℕ, ◌+◌, ◌*◌}
use lib.IntN.{ℤ, pos, nat_abs, ◌+ℤ◌}
use mir.Syntax.{w32}
use mir.Facts.{to_z-of_z}
use Rattle.overlay_sweep.proofs.key.Goals as goal

pub returns : goal.returns
returns c =
    let a = c.args in
    ap₂ (λ (u v : ℕ). u * 131072 + v)
    (c.lift-y.ensures.0 ∙ ap (λ (z : ℤ). nat_abs (z +ℤ pos 32768))
    (to_z-of_z (sfits_of {w = w32} {z = a.at.1} c.struct_told-1.given.1.0.1)))
    (c.lift-x.ensures.0 ∙ ap (λ (z : ℤ). nat_abs (z +ℤ pos 32768))
    (to_z-of_z (sfits_of {w = w32} {z = a.at.0} c.struct_told-2-1.given.0.1)))
