-- `walk_plant::grow` meets its contract.
use mathlib.Core.List.{List}
use mathlib.Core.Path.{◌≡◌, refl, ap, subst, ◌∙◌}
use Prim.Native.Nat.{ℕ, ◌+◌, ◌-◌, ◌<◌}
use native.Mathlib.Omega.{arith}
use borrow.Author.Rules.{rules}
use lib.ListN.{length}
use Rattle.grid.specs.declared.Corner.{Corner}
use Rattle.grid.specs.Tree.{up_by, child_word}
use Rattle.layout.proofs.ChildLaws.{child_word_range}
use Rattle.tree_laws.specs.State.{planted_of}
use Rattle.walk_plant.proofs.GrowLaws.{Growing, growing_start, growing_holds, growing_full, growing_next, growing_end, growing_none}
use Rattle.walk_plant.proofs.grow.Goals as goal

-- one level down is what is left
down : {words : ℕ} {c : Corner} {t : List ℕ} (left last : ℕ) → 0 < left → Growing words c t left last → Growing words c t ((left - 1) + 1) last
down {words} {c} {t} left last h k = let e : left ≡ (left - 1) + 1 = omega arith in subst (λ (n : ℕ). Growing words c t n last) e k

-- the word of a child
worded : (p : ℕ) (e : Corner) → p ≡ child_word e → (0 < p) × (p < 10)
worded p e q = let h = child_word_range e in (omega (arith, h.0), omega (arith, h.1))

pub loop-left-init : goal.loop-left-init
loop-left-init c =
    let d = c.depth-left in
    (refl, d.ensures, omega arith, growing_start (length c.args.t.now) c.args.c c.args.t.now d.result d.ensures c.requires.1 c.requires.2)

pub child-requires : goal.child-requires
child-requires c =
    let l = c.loop-left in
    let k = down l.left l.last (omega (arith, c.loop-left-test.true)) l.invariant.3 in
    let w = worded c.child_word-place.result c.up_by.result c.child_word-place.ensures in
    record {
      held = record { state = planted_of (up_by ((l.left - 1) + 1) c.args.c); holds = growing_holds (length c.args.t.now) c.args.c l.t (l.left - 1) l.last k l.invariant.0 };
      u_lt_nodes = (omega arith, w.0, w.1, omega (arith, l.invariant.0, c.requires.3));
    }

pub returns-in_err-last : goal.returns-in_err-last
returns-in_err-last c =
    let W = length c.args.t.now in
    let C = c.args.c in
    let l = c.loop-left in
    let k = down l.left l.last (omega (arith, c.loop-left-test.true)) l.invariant.3 in
    let b = c.child in
    let w = c.child_word-place in
    let p = w.ensures ∙ ap child_word c.up_by.ensures in
    let deep = l.invariant.1.below (l.left - 1) (omega (arith, l.invariant.2)) in
    rw c.from_residual.ensures (growing_none W C b.new.t
    (growing_full W C l.t (l.left - 1) l.last k l.invariant.0 deep w.result 0 p b.new.t c.in_err-last.ensures.made refl))

pub loop-left-preserved : goal.loop-left-preserved
loop-left-preserved c =
    let W = length c.args.t.now in
    let C = c.args.c in
    let l = c.loop-left in
    let k = down l.left l.last (omega (arith, c.loop-left-test.true)) l.invariant.3 in
    let b = c.child in
    let v = c.in_ok-last in
    let w = c.child_word-place in
    let p = w.ensures ∙ ap child_word c.up_by.ensures in
    let deep = l.invariant.1.below (l.left - 1) (omega (arith, l.invariant.2)) in
    let same : length b.new.t ≡ length l.t = search rules in
    (same ∙ l.invariant.0, l.invariant.1, omega (arith, l.invariant.2), growing_next W C l.t (l.left - 1) l.last k l.invariant.0 deep w.result (v.last + 1) p b.new.t v.ensures.made v.last refl)

pub returns : goal.returns
returns c =
    let l = c.loop-left in
    growing_end (length c.args.t.now) c.args.c l.t l.left l.last l.invariant.3
    (omega (arith, c.loop-left-test.false))
