-- Numbers that are set once, computed.
-- Assumes nothing.
use mathlib.Core.Bool.{true, false}
use mathlib.Core.Path.{◌≡◌, refl}
use Rattle.tree_laws.specs.State.{later}

-- a number that was set stays
set_before : later 1 true 3 ≡ 1
set_before = refl

set-now : later 0 true 3 ≡ 3
set-now = refl

not_set : later 0 false 3 ≡ 0
not_set = refl
