-- `chain_judge::judge` meets its contract.
use mathlib.Core.Path.{sym, ◌∙◌}
use Rattle.steps.proofs.ChainLaws.{walk_many, walk_start, walk_chain}
use Rattle.chain_judge.proofs.judge.Goals as goal

pub returns-then-chain-gt-MOST_INPUT : goal.returns-then-chain-gt-MOST_INPUT
returns-then-chain-gt-MOST_INPUT c = let a = c.args in sym (walk_many a.start a.chain.now c.if-chain-gt-MOST_INPUT.true)

pub returns-then-not-start_fits : goal.returns-then-not-start_fits
returns-then-not-start_fits c =
    let a = c.args in
    let f = c.start_fits in
    sym (walk_start a.start a.chain.now c.if-chain-gt-MOST_INPUT.false (sym f.ensures ∙ c.if-not-start_fits.true))

pub returns : goal.returns
returns c =
    let a = c.args in
    let f = c.start_fits in
    c.judge_steps.ensures
    ∙ sym (walk_chain a.start a.chain.now c.if-chain-gt-MOST_INPUT.false
    (sym f.ensures ∙ c.if-not-start_fits.false))
