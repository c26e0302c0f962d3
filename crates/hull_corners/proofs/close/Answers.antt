-- `hull_corners::close` meets its contract.
use mathlib.Core.Path.{◌≡◌, sym, ap, ◌∙◌}
use mathlib.Core.Bool.{Bool, false, ◌&&◌}
use Prim.Native.Nat.{ℕ, ◌+◌, ◌≤◌, ◌<◌}
use lib.Dec.{eqb, ltb}
use borrow.Author.Tests.{lt-ltb, le-ltb}
use Rattle.column_laws.specs.Columns.{top}
use Rattle.hull_corners.proofs.PartsLaws.{tally-byte}
use Rattle.hull_corners.proofs.close.Goals.{then-f-n, else-f-n}
use Rattle.hull_corners.proofs.close.Goals as goal

-- both tests, once the first is known
abbrev both : ℕ → ℕ → ℕ → Bool
both f n m = ltb f n && eqb m top

before : (f n m : ℕ) → f < n → eqb m top ≡ both f n m
before f n m h = ap (λ (b : Bool). b && eqb m top) (sym (lt-ltb f n h))

after : (f n m : ℕ) → n ≤ f → false ≡ both f n m
after f n m h = ap (λ (b : Bool). b && eqb m top) (sym (le-ltb f n h))

pub returns : goal.returns
returns c =
    let a = c.args in
    let e : c.if-f-n.from ≡ both a.f a.n (a.lo + a.hi) = elim c.if-f-n.branch [
      | then-f-n w ↦ w.from-is ∙ w.meet.ensures ∙ before a.f a.n (a.lo + a.hi) w.if-f-n.true
      | else-f-n w ↦ w.from-is ∙ le-ltb a.f a.n w.if-f-n.false ∙ after a.f a.n (a.lo + a.hi) w.if-f-n.false
    ] in
    rw (c.from.ensures, e, tally-byte)
