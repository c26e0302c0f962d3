-- `walk_lookup::come_down` meets its contract.
use mathlib.Core.Bool.{false}
use mathlib.Core.List.{List}
use mathlib.Core.Path.{◌≡◌, refl, ap, sym, ◌∙◌, subst}
use Prim.Native.Nat.{ℕ, suc, ◌+◌, ◌-◌, ◌<◌, max}
use native.Mathlib.Omega.{arith}
use lib.IntN.{nat_abs}
use lib.ListN.{length, get_or}
use Rattle.grid.specs.declared.Corner.{Corner}
use Rattle.grid.specs.Grid.{stepped}
use Rattle.grid.specs.Tree.{parent_of, child_word, is_root}
use Rattle.grid.specs.Tree.{up_by}
use Rattle.tree.specs.Nodes.{ref_of}
use Rattle.tree_laws.specs.State.{State, Holds, Made, grown, raised, reached}
use Rattle.table_laws.proofs.StoreLaws.{child_word_small}
use Rattle.table_laws.specs.Climb.{Descends}
use Rattle.table_laws.specs.Model.{link_in}
use Rattle.table_laws.proofs.ClimbLaws.{Level, up_small, step_grew, step_held, step_word, step_number, step_none, step_bounds, step_next}
use Rattle.layout.specs.Table.{word_at}
use Rattle.walk_table.proofs.RefLaws.{number}
use Rattle.walk_lookup.proofs.come_down.Goals as goal

-- a level that is not the last; v is the neighbour's number
level_here : (v : ℕ) {t : List ℕ} {n u : ℕ} {c : Corner} {d s left : ℕ} {S : State} → Descends t n u (v + 1) c d s left S → 0 < left → d < 4 → 0 < s → Level t n u (v + 1) c d s left S
level_here v down more small pos = record { down = down; more = more; small = small; pos = pos; some = omega arith }

module _ (v : ℕ) {t : List ℕ} {n u : ℕ} {c : Corner} {d s left : ℕ} {S : State} (here : Level t n u (v + 1) c d s left S) where
  -- what `child` ensures there
  grew : (n' place : ℕ) → n' ≡ max n (v + 1) → place ≡ child_word (stepped d (up_by (left - 1) c)) → (t₂ : List ℕ) (a₂ : ℕ)
      → ((T : State) (e : Corner) → Holds t n' T → is_root e ≡ false → ref_of T.nodes (parent_of e) ≡ suc v → place ≡ child_word e → Made (length t) (grown T e s) e t₂ a₂ (max n' a₂))
      → Made (length t) (grown (raised S s (up_by (left - 1) c) (stepped d (up_by (left - 1) c))) (stepped d (up_by (left - 1) c)) s) (stepped d (up_by (left - 1) c)) t₂ a₂ (max (max n (v + 1)) a₂)
  grew n' place e q t₂ a₂ f = step_grew here n' place e q t₂ a₂ (λ T z h deep r p. f T z h deep (r ∙ ap suc (number v)) p)

pub loop-left-init : goal.loop-left-init
loop-left-init c = (refl, λ S h. h)

pub word-requires : goal.word-requires
word-requires c =
    let a = c.args in
    let l = c.loop-left in
    let k = c.requires.descending in
    let here = level_here l.to (l.invariant.1 k.state k.descends) c.loop-left-test.true a.from.way a.from.counted in
    let w : c.child_word.result ≡ child_word (up_by (l.left - 1) a.from.at) = c.child_word.ensures
    ∙ ap child_word c.up_by-a.ensures in
    omega (arith, step_word here, w)

pub overflow_sub-at : goal.overflow_sub-at
overflow_sub-at c =
    let a = c.args in
    let l = c.loop-left in
    let k = c.requires.descending in
    let here = level_here l.to (l.invariant.1 k.state k.descends) c.loop-left-test.true a.from.way a.from.counted in
    let w : c.child_word.result ≡ child_word (up_by (l.left - 1) a.from.at) = c.child_word.ensures
    ∙ ap child_word c.up_by-a.ensures in
    let r : c.word.result ≡ get_or l.t (word_at l.at (child_word (up_by (l.left - 1) a.from.at))) 0 = c.word.ensures
    ∙ ap (λ (x : ℕ). get_or l.t (word_at l.at x) 0) w in
    omega (arith, (step_number here c.word.result r).0)

pub moved-e-requires : goal.moved-e-requires
moved-e-requires c =
    let a = c.args in
    let l = c.loop-left in
    let p = c.up_by-a.ensures in
    let h = up_small (l.left - 1) a.from.at in
    (omega (arith, ap (λ (y : Corner). nat_abs y.0) p, h.0, a.from.near.0), omega (arith, ap (λ (y : Corner). nat_abs y.1) p, h.1, a.from.near.1))

pub child-requires : goal.child-requires
child-requires c =
    let a = c.args in
    let l = c.loop-left in
    let k = c.requires.descending in
    let here = level_here l.to (l.invariant.1 k.state k.descends) c.loop-left-test.true a.from.way a.from.counted in
    let b = up_by (l.left - 1) a.from.at in
    let T = raised k.state a.from.step b (stepped a.from.d b) in
    let h = step_held here in
    let n = c.max.ensures in
    let w = child_word_small c.moved-e.result in
    let z = c.child_word-in-loop-left.ensures in
    record {
      held = record { state = T; holds = subst (λ (x : ℕ). Holds l.t x T) (sym n) h.0 };
      u_lt_nodes = (omega (arith, n), omega (arith, z, w.0), omega (arith, z, w.1), omega (arith, l.invariant.0, c.requires.t_len_bound));
    }

pub returns-in_err-to : goal.returns-in_err-to
returns-in_err-to c =
    let b = c.max in
    let e = c.child_word-in-loop-left in
    let f = c.child in
    let a = c.args in
    let l = c.loop-left in
    rw c.from_residual.ensures (λ S x.
    let level = level_here l.to (l.invariant.1 S x) c.loop-left-test.true a.from.way a.from.counted in
    let g = grew l.to level b.result e.result b.ensures
    (e.ensures ∙ ap child_word (c.moved-e.ensures ∙ ap (stepped a.from.d) c.up_by-a.ensures)) f.new.t
    0 c.in_err-to.ensures.made in
    subst (λ (w : ℕ). Made w (reached S a.from.step a.from.at (stepped a.from.d a.from.at)) (stepped a.from.d a.from.at) f.new.t 0
    (max a.nodes 0)) l.invariant.0
    (step_none level f.new.t 0 g refl))

pub link-requires : goal.link-requires
link-requires c =
    let u = c.up_by-a in
    let b = c.child_word in
    let e = c.word in
    let i = c.max in
    let j = c.child_word-in-loop-left in
    let v = c.in_ok-to in
    let a = c.args in
    let l = c.loop-left in
    let k = c.requires.descending in
    let here = level_here l.to (l.invariant.1 k.state k.descends) c.loop-left-test.true a.from.way a.from.counted in
    let g = grew l.to here i.result j.result i.ensures
    (j.ensures ∙ ap child_word (c.moved-e.ensures ∙ ap (stepped a.from.d) u.ensures)) c.child.new.t (v.to + 1)
    v.ensures.made in
    let h = step_bounds here c.child.new.t (v.to + 1) g (λ z. omega arith) in
    let w : b.result ≡ child_word (up_by (l.left - 1) a.from.at) = b.ensures ∙ ap child_word u.ensures in
    let r = e.ensures ∙ ap (λ (x : ℕ). get_or l.t (word_at l.at x) 0) w in
    let m = step_number here e.result r in
    record {
      has_record = (omega (arith, m.1, h.0), omega (arith, h.1));
      d_bound = (a.from.way, omega (arith, h.2, l.invariant.0, c.requires.t_len_bound));
    }

pub loop-left-preserved : goal.loop-left-preserved
loop-left-preserved c =
    let b = c.up_by-a in
    let e = c.child_word in
    let g = c.word in
    let h = c.max in
    let i = c.child_word-in-loop-left in
    let v = c.in_ok-to in
    let m = c.link in
    let a = c.args in
    let l = c.loop-left in
    let k = c.requires.descending in
    let w : e.result ≡ child_word (up_by (l.left - 1) a.from.at) = e.ensures ∙ ap child_word b.ensures in
    let r = g.ensures ∙ ap (λ (x : ℕ). get_or l.t (word_at l.at x) 0) w in
    let put = m.ensures ∙ ap (λ (x : ℕ). link_in c.child.new.t (g.result - 1) x a.from.d a.from.step) (sym (number v.to)) in
    let next : (S : State) → Descends a.t.now a.nodes a.u (a.v + 1) a.from.at a.from.d a.from.step a.level S
    → Descends m.new.t a.nodes (g.result - 1) (v.to + 1) a.from.at a.from.d a.from.step (l.left - 1) S
    × (length m.new.t ≡ length l.t) = λ S x.
    let level = level_here l.to (l.invariant.1 S x) c.loop-left-test.true a.from.way a.from.counted in
    step_next level c.child.new.t (v.to + 1)
    (grew l.to level h.result i.result h.ensures
    (i.ensures ∙ ap child_word (c.moved-e.ensures ∙ ap (stepped a.from.d) b.ensures)) c.child.new.t (v.to + 1) v.ensures.made) (λ z. omega arith) (g.result - 1) (step_number level g.result r).1 m.new.t put in
    ((next k.state k.descends).1 ∙ l.invariant.0, λ S x. (next S x).0)

pub returns : goal.returns
returns c =
    let a = c.args in
    let l = c.loop-left in
    let z : l.left ≡ 0 = omega (arith, c.loop-left-test.false) in
    λ S x.
    let D = subst (λ (m : ℕ). Descends l.t a.nodes l.at (l.to + 1) a.from.at a.from.d a.from.step m S) z (l.invariant.1 S x) in
    subst (λ (w : ℕ). Made w (reached S a.from.step a.from.at (stepped a.from.d a.from.at)) (stepped a.from.d a.from.at) l.t (l.to + 1)
    (max a.nodes (l.to + 1))) l.invariant.0 D.made
