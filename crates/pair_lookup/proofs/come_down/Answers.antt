-- `pair_lookup::come_down` meets its contract.
use mathlib.Core.List.{List}
use mathlib.Core.Path.{◌≡◌, ap, sym, ◌∙◌, subst}
use Prim.Native.Nat.{ℕ, suc, ◌-◌, ◌<◌}
use native.Mathlib.Omega.{arith}
use lib.IntN.{nat_abs}
use lib.ListN.{length}
use Rattle.grid.specs.declared.Corner.{Corner}
use Rattle.grid.specs.Grid.{stepped}
use Rattle.grid.specs.Tree.{up_by, child_word}
use Rattle.tree_laws.specs.State.{reached}
use Rattle.table_laws.proofs.ClimbLaws.{up_small}
use Rattle.table_laws.proofs.StoreLaws.{child_word_small}
use Rattle.pair_table.specs.Slots.{Slot}
use Rattle.pair_laws.specs.Stand.{At}
use Rattle.pair_table_laws.specs.Hold.{Both, words_in}
use Rattle.std.specs.Prelude.{None, Option, Some}
use Rattle.pair_child.specs.declared.Located.{Located}
use Rattle.pair_child.specs.Finds.{Finds}
use Rattle.pair_lookup.specs.Climbs.{ComesDown, Lifts}
use Rattle.pair_lookup.proofs.LiftLaws.{comes_end, comes_in, comes_number, comes_lift, comes_none, comes_next}
use Rattle.pair_lookup.proofs.come_down.Goals as goal

-- one level down is what is left
down : (t : List ℕ) (slots : List Slot) (B : Both) (q : ℕ) (v : Located) (u : ℕ) (c : Corner) (d s left : ℕ) → 0 < left → ComesDown t slots B q v u c d s left → ComesDown t slots B q v u c d s (suc (left - 1))
down t slots B q v u c d s left h k = let e : left ≡ suc (left - 1) = omega arith in subst (ComesDown t slots B q v u c d s) e k

-- what a level answers
module _ (t : List ℕ) (slots : List Slot) (B : Both) (q : ℕ) (v : Located) (u : ℕ) (c : Corner) (d s left : ℕ) (k : ComesDown t slots B q v u c d s (suc left)) (known : q < 2) (small : d < 4) (pos : 0 < s)
    (p w : ℕ) (x : Corner) (i : x ≡ up_by left c) (j : p ≡ child_word x) (e : w ≡ words_in t u p) (t' : List ℕ) where
  here : At slots (w - 1) (up_by left c)
  here = (comes_number t slots B q v u c d s left k known small pos w (e ∙ ap (words_in t u) (j ∙ ap child_word i))).1

  answer : (r : Option Located) → (Lifts t slots B q v (w - 1) x d s → Finds B slots q (reached (B q) s x (stepped d x)) (stepped d x) t t' r) → Finds B slots q (reached (B q) s (up_by left c) (stepped d (up_by left c))) (stepped d (up_by left c)) t t' r
  answer r f = subst (λ (y : Corner). Finds B slots q (reached (B q) s y (stepped d y)) (stepped d y) t t' r) i (f (subst (λ (y : Corner). Lifts t slots B q v (w - 1) y d s) (sym i) (comes_lift t slots B q v u c d s left k known small pos (w - 1) here)))

  level-none : (t₀ : List ℕ) → length t ≡ length t₀ → (Lifts t slots B q v (w - 1) x d s → Finds B slots q (reached (B q) s x (stepped d x)) (stepped d x) t t' None) → Finds B slots q (reached (B q) s c (stepped d c)) (stepped d c) t₀ t' None
  level-none t₀ l f = comes_none t slots B q v u c d s left k known small pos (w - 1) here t' t₀ l (answer None f)

  level-next : (r : Located) → (Lifts t slots B q v (w - 1) x d s → Finds B slots q (reached (B q) s x (stepped d x)) (stepped d x) t t' (Some r)) → ComesDown t' slots B q r (w - 1) c d s left
  level-next r f = comes_next t slots B q v u c d s left k known small pos (w - 1) here t' r (answer (Some r) f)

pub word-requires : goal.word-requires
word-requires c =
    let a = c.args in
    let k = c.requires.coming in
    let l = c.loop-left in
    let n = down l.t k.slots k.both a.q l.to l.at a.from.at a.from.d a.from.step l.left
    (omega (arith, c.loop-left-test.true)) (l.invariant.1 k.slots k.both k.comes) in
    let b = comes_in l.t k.slots k.both a.q l.to l.at a.from.at a.from.d a.from.step (l.left - 1) n c.requires.q_bound.0 a.from.way
    a.from.counted in
    omega (arith, b, c.child_word.ensures, (child_word_small c.up_by-a.result).1)

pub overflow_sub-at : goal.overflow_sub-at
overflow_sub-at c =
    let a = c.args in
    let k = c.requires.coming in
    let l = c.loop-left in
    let n = down l.t k.slots k.both a.q l.to l.at a.from.at a.from.d a.from.step l.left
    (omega (arith, c.loop-left-test.true)) (l.invariant.1 k.slots k.both k.comes) in
    let p : c.child_word.result ≡ child_word (up_by (l.left - 1) a.from.at) = c.child_word.ensures
    ∙ ap child_word c.up_by-a.ensures in
    omega (arith, (comes_number l.t k.slots k.both a.q l.to l.at a.from.at a.from.d a.from.step (l.left - 1) n c.requires.q_bound.0 a.from.way a.from.counted c.word.result (c.word.ensures ∙ ap (words_in l.t l.at) p)).0)

pub invariant_of-here : goal.invariant_of-here
invariant_of-here c =
    let a = c.args in
    let u = c.up_by-a.ensures in
    let h = up_small (c.loop-left.left - 1) a.from.at in
    record {
      near = (omega (arith, ap (λ (y : Corner). nat_abs y.0) u, h.0, a.from.near.0), omega (arith, ap (λ (y : Corner). nat_abs y.1) u, h.1, a.from.near.1));
      way = a.from.way;
      counted = a.from.counted;
    }

pub level_down-requires : goal.level_down-requires
level_down-requires c =
    let a = c.args in
    let k = c.requires.coming in
    let l = c.loop-left in
    let w = c.word in
    let u = c.up_by-a.ensures in
    let n = down l.t k.slots k.both a.q l.to l.at a.from.at a.from.d a.from.step l.left
    (omega (arith, c.loop-left-test.true)) (l.invariant.1 k.slots k.both k.comes) in
    let p : c.child_word.result ≡ child_word (up_by (l.left - 1) a.from.at) = c.child_word.ensures
    ∙ ap child_word u in
    let m = (comes_number l.t k.slots k.both a.q l.to l.at a.from.at a.from.d a.from.step (l.left - 1) n c.requires.q_bound.0 a.from.way
    a.from.counted w.result (w.ensures ∙ ap (words_in l.t l.at) p)).1 in
    record {
      lifting = record {
        slots = k.slots;
        both = k.both;
        lifts = subst (λ (x : Corner). Lifts l.t k.slots k.both a.q l.to (w.result - 1) x a.from.d a.from.step)
            (sym u) (comes_lift l.t k.slots k.both a.q l.to l.at a.from.at a.from.d a.from.step (l.left - 1) n c.requires.q_bound.0
            a.from.way a.from.counted (w.result - 1) m);
      };
      q_bound = (c.requires.q_bound.0, c.requires.q_bound.1, omega (arith, l.invariant.0, c.requires.q_bound.2));
    }

pub returns-in_err-to : goal.returns-in_err-to
returns-in_err-to c =
    let a = c.args in
    let l = c.loop-left in
    let w = c.word in
    rw c.from_residual.ensures (λ slots B k.
    let n = down l.t slots B a.q l.to l.at a.from.at a.from.d a.from.step l.left
    (omega (arith, c.loop-left-test.true)) (l.invariant.1 slots B k) in
    level-none l.t slots B a.q l.to l.at a.from.at a.from.d a.from.step (l.left - 1) n c.requires.q_bound.0 a.from.way a.from.counted
    c.child_word.result w.result c.up_by-a.result c.up_by-a.ensures
    c.child_word.ensures w.ensures c.level_down.new.t a.t.now l.invariant.0 (c.in_err-to.ensures slots B))

pub loop-left-preserved : goal.loop-left-preserved
loop-left-preserved c =
    let a = c.args in
    let l = c.loop-left in
    let w = c.word in
    let r = c.level_down in (
      r.auto.t ∙ l.invariant.0,
      λ slots B k.
          let n = down l.t slots B a.q l.to l.at a.from.at a.from.d a.from.step l.left
          (omega (arith, c.loop-left-test.true)) (l.invariant.1 slots B k) in
          level-next l.t slots B a.q l.to l.at a.from.at a.from.d a.from.step (l.left - 1) n c.requires.q_bound.0 a.from.way a.from.counted
          c.child_word.result w.result c.up_by-a.result c.up_by-a.ensures
          c.child_word.ensures w.ensures r.new.t c.in_ok-to.to (c.in_ok-to.ensures slots B),
    )

pub returns : goal.returns
returns c =
    let a = c.args in
    let l = c.loop-left in
    let z : l.left ≡ 0 = omega (arith, c.loop-left-test.false) in
    λ slots B k. comes_end a.t.now l.t slots B a.q l.to l.at a.from.at a.from.d a.from.step
    (subst (ComesDown l.t slots B a.q l.to l.at a.from.at a.from.d a.from.step) z (l.invariant.1 slots B k))
