-- `walk_run::step` meets its contract.
use mathlib.Core.List.{[], ◌∷◌, ◌++◌}
use mathlib.Core.Path.{◌≡◌, sym, subst}
use native.Mathlib.Omega.{arith}
use borrow.Author.Rules.{rules}
use lib.ListN.{length, set}
use Rattle.steps.specs.Operations.{operate}
use Rattle.steps.proofs.SurvivorLaws.{fine_step}
use Rattle.walk_step.specs.Walks.{Advanced}
use Rattle.walk_run.specs.Runs.{Acted}
use Rattle.walk_run.proofs.ApplyLaws.{chained_near, chained_go, chained_full, chained_done}
use Rattle.walk_run.proofs.step.Goals as goal

-- a step is not a take-back
pub bounds-chain-w : goal.bounds-chain-w
bounds-chain-w c = c.requires.0.next (λ e. omega (arith, c.requires.1, e))

pub advance-requires : goal.advance-requires
advance-requires c =
    let a = c.args in
    let k = c.requires.0 in
    let n = chained_near k.start a.t.now a.chain.now k.steps a.w k.chained in
    let f = fine_step a.w.spot.steps a.d k.fine (λ e. omega (arith, c.requires.1, e)) in
    record {
      knowing = record { start = k.start; chain = k.steps; known = k.chained.known };
      at_bound = (n.0, n.1, c.requires.1, omega (arith, f.1), k.words);
    }

pub changed-changed-requires : goal.changed-changed-requires
changed-changed-requires c =
    let a = c.args in
    let k = c.requires.0 in
    let b = c.advance in
    let z : a.d ≡ 4 → ⊥ = λ e. omega (arith, c.requires.1, e) in
    let f = fine_step a.w.spot.steps a.d k.fine z in
    let l : length b.new.t ≡ length a.t.now = search rules in
    let h = subst (Advanced (length a.t.now) b.new.t k.start (k.steps ++ (a.d ∷ []))) c.in_ok-walk.was
    (b.ensures k.start k.steps k.chained.known) in
    let g = chained_done k.start a.t.now a.chain.now k.steps a.w k.chained a.d f.1 f.0 (k.next z) (length a.t.now) b.new.t c.in_ok-walk.walk h.0 in
    record { stepped = g.0; d_bound = (c.requires.1, g.1, omega (arith, l, k.words)) }

pub returns : goal.returns
returns c =
    let a = c.args in
    let k = c.requires.0 in
    let b = c.advance in
    let z : a.d ≡ 4 → ⊥ = λ e. omega (arith, c.requires.1, e) in
    let f = fine_step a.w.spot.steps a.d k.fine z in
    λ x ds h.
    let m = subst (Advanced (length a.t.now) b.new.t x (ds ++ (a.d ∷ []))) c.in_ok-walk.was (b.ensures x ds h.known) in
    chained_go x a.t.now a.chain.now ds a.w h a.d f.1 f.0 (k.next z) (length a.t.now) c.changed-changed.result b.new.t c.in_ok-walk.walk m
    (c.changed-changed.ensures x ds m.0.walked)

pub returns-in_err-walk : goal.returns-in_err-walk
returns-in_err-walk c =
    let a = c.args in
    let k = c.requires.0 in
    let b = c.advance in
    let z : a.d ≡ 4 → ⊥ = λ e. omega (arith, c.requires.1, e) in
    let f = fine_step a.w.spot.steps a.d k.fine z in
    let chain = set a.chain.now a.w.spot.steps a.d in
    λ x ds h.
    subst (Acted (length a.t.now) x b.new.t chain ds (operate ds a.d)) (sym c.from_residual.ensures)
    (chained_full x a.t.now a.chain.now ds a.w h a.d f.1 f.0 (k.next z) (length a.t.now) b.new.t chain
    (subst (Advanced (length a.t.now) b.new.t x (ds ++ (a.d ∷ []))) c.in_err-walk.was (b.ensures x ds h.known)))
