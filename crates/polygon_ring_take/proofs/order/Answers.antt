-- `polygon_ring_take::order` meets its contract.
use mathlib.Core.Path.{◌≡◌, refl, sym, ap₂, ◌∙◌}
use mathlib.Core.Bool.{Bool}
use mathlib.Core.List.{List}
use Prim.Native.Nat.{ℕ}
use Rattle.std.specs.Prelude.{None, Some, eqb}
use Rattle.std.specs.List as list
use Rattle.polygon.specs.Polygon.{prefix}
use Rattle.polygon_ring.specs.Ring.{big_prefix, pick_order, order_of}
use Rattle.polygon_ring.specs.declared.Order.TheVariants.{Little, Big}
use Rattle.polygon_ring_laws.proofs.NumberLaws.{starts_is}
use Rattle.polygon_ring_take.proofs.order.Goals as goal

-- by the two tests
orders : (s : List ℕ) (a b : Bool) → a ≡ list.starts_with eqb s prefix → b ≡ list.starts_with eqb s big_prefix
    → order_of s ≡ pick_order a (Some Little) (pick_order b (Some Big) None)
unfolding order_of
orders s a b e f = sym (ap₂ (λ (x y : Bool). pick_order x (Some Little) (pick_order y (Some Big) None)) (e ∙ starts_is prefix s) (f ∙ starts_is big_prefix s))

pub returns-then-starts_with : goal.returns-then-starts_with
returns-then-starts_with c =
    sym (orders c.args.s.now _ _ (sym c.if-starts_with.true ∙ c.starts_with.ensures.value) refl)

pub returns-then-starts_with-2 : goal.returns-then-starts_with-2
returns-then-starts_with-2 c =
    sym (orders c.args.s.now _ _ (sym c.if-starts_with.false ∙ c.starts_with.ensures.value) (sym c.if-starts_with-2.true ∙ c.starts_with-2.ensures.value))

pub returns : goal.returns
returns c =
    sym (orders c.args.s.now _ _ (sym c.if-starts_with.false ∙ c.starts_with.ensures.value) (sym c.if-starts_with-2.false ∙ c.starts_with-2.ensures.value))
