-- `orthogonal_call::judge` meets its contract.
use native.Mathlib.Omega.{arith}
use Rattle.orthogonal_call.proofs.CallLaws.{told_many, told_range, told_grid, told_room}
use Rattle.orthogonal_call.proofs.judge.Goals as goal

pub returns-then-chain-gt-MOST_INPUT : goal.returns-then-chain-gt-MOST_INPUT
returns-then-chain-gt-MOST_INPUT c = let a = c.args in told_many a.start a.chain.now a.grid c.if-chain-gt-MOST_INPUT.true

pub returns-then-not-start_fits : goal.returns-then-not-start_fits
returns-then-not-start_fits c =
    let a = c.args in told_range a.start a.chain.now a.grid (omega (arith, c.if-chain-gt-MOST_INPUT.false))
    c.start_fits.result c.start_fits.ensures c.if-not-start_fits.true-raw

pub returns-then-not-grid_fits : goal.returns-then-not-grid_fits
returns-then-not-grid_fits c =
    let a = c.args in told_grid a.start a.chain.now a.grid (omega (arith, c.if-chain-gt-MOST_INPUT.false))
    c.start_fits.result c.start_fits.ensures c.if-not-start_fits.false-raw c.grid_fits.result
    c.grid_fits.ensures c.if-not-grid_fits.true-raw

pub returns : goal.returns
returns c =
    let a = c.args in told_room a.start a.chain.now a.grid (omega (arith, c.if-chain-gt-MOST_INPUT.false))
    c.start_fits.result c.start_fits.ensures c.if-not-start_fits.false-raw c.grid_fits.result
    c.grid_fits.ensures c.if-not-grid_fits.false-raw c.judge.result c.judge.ensures
