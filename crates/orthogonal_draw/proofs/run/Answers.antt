-- `orthogonal_draw::run` meets its contract.
use native.Mathlib.Omega.{arith}
use mathlib.Core.Path.{◌≡◌}
use Prim.Native.Nat.{◌+◌, ◌-◌}
use Rattle.orthogonal_draw.proofs.SideLaws.{filled}
use Rattle.orthogonal_draw.proofs.run.Goals as goal

pub returns : goal.returns
returns c =
    let a = c.args in
    let size : a.at + a.k - a.at ≡ a.k = omega arith in
    filled a.out.now c.fill.new.self a.at _ a.k a.d size c.requires (c.fill.ensures.after (λ y e. e))
