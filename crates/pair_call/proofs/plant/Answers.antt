-- `pair_call::plant` meets its contract.
use mathlib.Core.List.{[], ◌∷◌}
use mathlib.Core.Path.{◌≡◌, ◌∙◌}
use native.Mathlib.Omega.{arith}
use borrow.Author.Rules.{rules}
use lib.ListN.{length}
use Rattle.grid.specs.Tree.{root, path_of}
use Rattle.tree_laws.specs.State.{state_of, planted_of}
use Rattle.pair_table.specs.Slots.{held, placed_all}
use Rattle.pair_table_laws.specs.Hold.{with_party}
use Rattle.pair_call.proofs.StartLaws.{first_plants, first_full, second_plants, second_full, both_planted}
use Rattle.pair_call.proofs.plant.Goals as goal

pub plant-requires : goal.plant-requires
plant-requires c =
    let a = c.args in
    let b = c.begin-root in
    let l : length b.new.t ≡ length a.t.now = search rules in
    record {
      planting = record { slots = held root ∷ []; both = λ x. planted_of root; plants = first_plants (length a.t.now) c.requires.2 b.new.t b.result b.ensures.0 b.ensures.1 };
      near = (c.requires.0, omega arith, omega (arith, l, c.requires.3));
    }

pub returns-in_err-one : goal.returns-in_err-one
returns-in_err-one c =
    let a = c.args in
    let b = c.begin-root in
    let l : length b.new.t ≡ length a.t.now = search rules in
    let f = c.in_err-one.ensures (held root ∷ []) (λ x. planted_of root)
    (first_plants (length a.t.now) c.requires.2 b.new.t b.result b.ensures.0 b.ensures.1) in
    rw c.from_residual.ensures (first_full a.start a.start2 c.requires.0 c.requires.1 (length a.t.now) b.new.t c.plant.new.t l f)

pub plant-requires-2 : goal.plant-requires-2
plant-requires-2 c =
    let a = c.args in
    let b = c.begin-root in
    let p = c.plant in
    let l : length b.new.t ≡ length a.t.now = search rules in
    let f = c.in_ok-one.ensures (held root ∷ []) (λ x. planted_of root)
    (first_plants (length a.t.now) c.requires.2 b.new.t b.result b.ensures.0 b.ensures.1) in
    let m : length p.new.t ≡ length a.t.now = search rules in
    record {
      planting = record { slots = placed_all (held root ∷ []) (path_of a.start); both = with_party (λ x. planted_of root) 0 (state_of (a.start ∷ [])); plants = second_plants a.start a.start2 c.requires.0 c.requires.1 (length a.t.now) b.new.t p.new.t l c.in_ok-one.one f };
      near = (c.requires.1, omega arith, omega (arith, m, c.requires.3));
    }

pub returns-in_err-two : goal.returns-in_err-two
returns-in_err-two c =
    let a = c.args in
    let b = c.begin-root in
    let p = c.plant in
    let one = c.in_ok-one in
    let l : length b.new.t ≡ length a.t.now = search rules in
    let f = one.ensures (held root ∷ []) (λ x. planted_of root)
    (first_plants (length a.t.now) c.requires.2 b.new.t b.result b.ensures.0 b.ensures.1) in
    let m : length p.new.t ≡ length a.t.now = search rules in
    rw c.from_residual-in_err-two.ensures (second_full a.start a.start2 c.requires.0 c.requires.1 (length a.t.now) b.new.t p.new.t
    l one.one f c.plant-2.new.t m
    (c.in_err-two.ensures (placed_all (held root ∷ []) (path_of a.start)) (with_party (λ x. planted_of root) 0 (state_of (a.start ∷ [])))
    (second_plants a.start a.start2 c.requires.0 c.requires.1 (length a.t.now) b.new.t p.new.t l one.one f)))

pub shape_of-t : goal.shape_of-t
shape_of-t c = c.plant-2.auto.t ∙ c.plant.auto.t ∙ c.begin-root.auto.t

pub returns : goal.returns
returns c =
    let a = c.args in
    let b = c.begin-root in
    let p = c.plant in
    let one = c.in_ok-one in
    let two = c.in_ok-two in
    let l : length b.new.t ≡ length a.t.now = search rules in
    let f = one.ensures (held root ∷ []) (λ x. planted_of root)
    (first_plants (length a.t.now) c.requires.2 b.new.t b.result b.ensures.0 b.ensures.1) in
    let m : length p.new.t ≡ length a.t.now = search rules in
    both_planted a.start a.start2 c.requires.0 c.requires.1 (length a.t.now) b.new.t p.new.t
    l one.one f c.plant-2.new.t m two.two
    (two.ensures (placed_all (held root ∷ []) (path_of a.start)) (with_party (λ x. planted_of root) 0 (state_of (a.start ∷ [])))
    (second_plants a.start a.start2 c.requires.0 c.requires.1 (length a.t.now) b.new.t p.new.t l one.one f)) c.pair_at.result c.pair_at.ensures
