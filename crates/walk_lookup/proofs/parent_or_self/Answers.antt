-- `walk_lookup::parent_or_self` meets its contract.
use mathlib.Core.Bool.{Bool, true, false, cond}
use mathlib.Core.Path.{◌≡◌, sym, ◌∙◌}
use Prim.Native.Nat.{ℕ, ◌+◌}
use Rattle.grid.specs.Tree.{is_root}
use Rattle.walk_lookup.proofs.parent_or_self.Goals as goal

by-true : (b : Bool) (x y : ℕ) → b ≡ true → x ≡ cond b x y
by-true b x y e = rw e

by-false : (b : Bool) (x y z : ℕ) → b ≡ false → z ≡ y → z ≡ cond b x y
by-false b x y z e f = rw e f

pub returns-then-is_root : goal.returns-then-is_root
returns-then-is_root c = by-true (is_root c.args.c) (c.args.u + 1) _ (sym c.is_root.ensures ∙ c.if-is_root.true)

pub returns : goal.returns
returns c =
    by-false (is_root c.args.c) (c.args.u + 1) _ _ (sym c.is_root.ensures ∙ c.if-is_root.false)
    c.word.ensures
