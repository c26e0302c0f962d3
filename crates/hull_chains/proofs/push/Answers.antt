-- `hull_chains::push` meets its contract.
use native.Mathlib.Omega.{arith}
use mathlib.Core.Path.{◌≡◌, refl, sym, ap, ◌∙◌}
use mathlib.Core.Bool.{Bool}
use mathlib.Core.List.{List}
use Prim.Native.Nat.{ℕ, ◌+◌, ◌≤◌}
use lib.ListN.{length, drop, length-drop}
use lib.Seq.{get_or-drop}
use Rattle.std.specs.List.{between}
use Rattle.std.proofs.lemmas.Slice.{between_to_end}
use Rattle.hull_laws.specs.Chain.{cut_at, drops_at}
use Rattle.hull_laws.proofs.StackLaws.{drops_room, drops_next, push_front}
use Rattle.hull_chains.specs.Stack.{Stack}
use Rattle.hull_chains.proofs.push.Goals as goal

-- the part from place f on
stack-part : (ys s : List ℕ) (q f p : ℕ) → Stack ys s q p → q ≤ f → f ≤ length s → Stack ys (between f (length s) s) 0 p
stack-part ys s q f p k h g = rw (between_to_end s f (length s) (omega arith)) record {
  begins = omega arith;
  columns = λ j m n. rw (get_or-drop f s j 0) (k.columns (f + j) (omega arith) (omega (arith, length-drop f s)));
  short = k.short;
}

drops_told : (ys s : List ℕ) (p f : ℕ) {r : Bool} → r ≡ drops_at ys p (between f (length s) s) → r ≡ drops_at ys p (drop f s)
drops_told ys s p f e = e ∙ ap (drops_at ys p) (between_to_end s f (length s) (omega arith))

pub loop-f-init : goal.loop-f-init
loop-f-init c = (omega arith, c.requires.0.begins, refl)

pub drops-requires : goal.drops-requires
drops-requires c =
    let i = c.loop-f.invariant in
    stack-part c.args.ys.now c.args.s.now c.args.q c.loop-f.f c.args.p c.requires.0 i.0 i.1

pub loop-f-smaller : goal.loop-f-smaller
loop-f-smaller c =
    omega (arith, drops_room c.args.ys.now c.args.p c.args.s.now c.loop-f.f (sym (drops_told c.args.ys.now c.args.s.now c.args.p c.loop-f.f c.drops.ensures) ∙ c.loop-f-test.true))

pub loop-f-preserved : goal.loop-f-preserved
loop-f-preserved c =
    let f = c.loop-f.f in
    let t = sym (drops_told c.args.ys.now c.args.s.now c.args.p c.loop-f.f c.drops.ensures) ∙ c.loop-f-test.true in
    (omega arith, omega (arith, drops_room c.args.ys.now c.args.p c.args.s.now f t), drops_next c.args.ys.now c.args.p c.args.s.now f t ∙ c.loop-f.invariant.2)

pub returns : goal.returns
returns c =
    let i = c.loop-f in
    (push_front c.args.ys.now c.args.p c.args.s.now i.f (cut_at c.args.ys.now c.args.p (drop c.args.q c.args.s.now)) (omega arith) i.invariant.1 (sym (drops_told c.args.ys.now c.args.s.now c.args.p c.loop-f.f c.drops.ensures) ∙ c.loop-f-test.false) i.invariant.2, omega arith, omega arith)
