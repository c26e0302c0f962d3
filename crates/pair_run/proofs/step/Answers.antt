-- `pair_run::step` meets its contract.
use mathlib.Core.Path.{◌≡◌, refl, sym, subst}
use native.Mathlib.Omega.{arith}
use borrow.Author.Rules.{rules}
use lib.ListN.{length, set}
use Rattle.grid.specs.Grid.{corners_from, end_from}
use Rattle.steps.proofs.SurvivorLaws.{fine_step}
use Rattle.pair_steps.specs.Parties.{by_party}
use Rattle.pair_table.specs.Slots.{needs_of, settle}
use Rattle.pair_table_laws.specs.Hold.{both_of}
use Rattle.pair_move.specs.Moves.{first_after, second_after, PairAdvanced}
use Rattle.pair_run.proofs.TurnLaws.{kept_near, turned_full, step_holds, step_corner, step_some, step_bounds, step_turned}
use Rattle.pair_run.specs.Runs.{PairActed}
use Rattle.pair_run.proofs.step.Goals as goal

pub bounds-chain-w : goal.bounds-chain-w
bounds-chain-w c = c.requires.0.next (λ e. omega (arith, c.requires.1, e))

pub advance-requires : goal.advance-requires
advance-requires c =
    let a = c.args in
    let k = c.requires.0 in
    let n = kept_near a.t.now a.chain.now k.first k.second k.firsts k.seconds k.slots a.q a.w.party a.w.stock
    k.here in
    let f = fine_step a.w.party.steps a.d k.fine (λ e. omega (arith, c.requires.1, e)) in
    record {
      moving = record { first = k.first; second = k.second; firsts = k.firsts; seconds = k.seconds; slots = k.slots; moves = k.here.moves };
      at_bound = (n.0, n.1, c.requires.1, c.requires.0.party, omega (arith, f.1), c.requires.0.words);
    }

pub changed-changed-requires : goal.changed-changed-requires
changed-changed-requires c =
    let a = c.args in
    let k = c.requires.0 in
    let b = c.advance in
    let f = fine_step a.w.party.steps a.d k.fine (λ e. omega (arith, c.requires.1, e)) in
    let h = subst (PairAdvanced a.t.now k.first k.second k.firsts k.seconds k.slots a.q a.d b.new.t)
    c.in_ok-stride.was (b.ensures k.first k.second k.firsts k.seconds k.slots k.here.moves) in
    let l : length b.new.t ≡ length a.t.now = search rules in
    let n = step_bounds a.t.now a.chain.now k.first k.second k.firsts k.seconds k.slots a.q a.w.party
    a.w.stock k.here c.requires.0.party a.d c.requires.1 b.new.t c.in_ok-stride.stride h f.1
    (k.next (λ e. omega (arith, c.requires.1, e))) in
    record {
      some_step = step_some a.t.now a.chain.now k.first k.second k.firsts k.seconds k.slots a.q a.w.party a.w.stock k.here c.requires.0.party a.d c.requires.1 b.new.t c.in_ok-stride.stride h;
      at_bound = (n.0, n.1, n.2, omega (arith, l, c.requires.0.words));
    }

pub returns : goal.returns
returns c =
    let a = c.args in
    let k = c.requires.0 in
    let b = c.advance in
    let n = c.changed-changed in
    let f = fine_step a.w.party.steps a.d k.fine (λ e. omega (arith, c.requires.1, e)) in
    let l : length b.new.t ≡ length a.t.now = search rules in
    λ x y ds es slots h.
    let m = subst (PairAdvanced a.t.now x y ds es slots a.q a.d b.new.t) c.in_ok-stride.was
    (b.ensures x y ds es slots h.moves) in
    step_turned a.t.now a.chain.now x y ds es slots a.q a.w.party a.w.stock h c.requires.0.party a.d
    c.requires.1 b.new.t c.in_ok-stride.stride m f.1 (k.next (λ e. omega (arith, c.requires.1, e)))
    (record { stride = c.in_ok-stride.stride; changed = n.result }) refl
    (n.ensures (both_of (corners_from x ds) (corners_from y es)) slots (settle slots (needs_of x y (first_after a.q ds a.d) (second_after a.q es a.d))) (end_from (by_party a.q x y) (by_party a.q ds es))
    (step_holds a.t.now a.chain.now x y ds es slots a.q a.w.party a.w.stock h c.requires.0.party a.d
    c.requires.1 b.new.t c.in_ok-stride.stride m)
    (step_corner a.t.now a.chain.now x y ds es slots a.q a.w.party a.w.stock h c.requires.0.party a.d c.requires.1 b.new.t c.in_ok-stride.stride m))
    l c.requires.0.whole

pub returns-in_err-stride : goal.returns-in_err-stride
returns-in_err-stride c =
    let a = c.args in
    let b = c.advance in
    let chain = set a.chain.now a.w.party.steps a.d in
    λ x y ds es slots h. subst (PairActed (length a.t.now) x y ds es slots a.q a.d b.new.t chain) (sym c.from_residual.ensures)
    (turned_full a.t.now a.chain.now x y ds es slots a.q a.w.party a.w.stock h c.requires.0.party a.d c.requires.1 b.new.t
    (subst (PairAdvanced a.t.now x y ds es slots a.q a.d b.new.t) c.in_err-stride.was
    (b.ensures x y ds es slots h.moves)) chain)
