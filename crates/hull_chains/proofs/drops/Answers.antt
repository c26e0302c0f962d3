-- `hull_chains::drops` meets its contract.
use native.Mathlib.Omega.{arith}
use mathlib.Core.Path.{ap, ap₂, ◌∙◌}
use mathlib.Core.Bool.{not}
use Rattle.hull_laws.specs.Chain.{turns_at}
use Rattle.hull_laws.proofs.StackLaws.{drops_short, drops_long}
use Rattle.hull_chains.proofs.drops.Goals as goal

pub returns-in_default : goal.returns-in_default
returns-in_default c = drops_short c.args.ys.now c.args.p c.args.s.now 0 (omega (arith, c.in_default.len_below))

pub turns-requires : goal.turns-requires
turns-requires c =
    let h = c.in-len2-up.len_at_least in
    let b = c.requires.columns 0 (omega arith) (omega arith) in
    let a = c.requires.columns 1 (omega arith) (omega arith) in
    let e = c.from.ensures in
    let f = c.from-2.ensures in
    (omega (arith, b, e), omega (arith, a, f), omega (arith, b, e), omega (arith, a, f), c.requires.short)

pub returns : goal.returns
returns c =
    let h = c.in-len2-up.len_at_least in
    ap not (c.turns.ensures ∙ ap₂ (turns_at c.args.ys.now c.args.p) c.from.ensures c.from-2.ensures)
    ∙ drops_long c.args.ys.now c.args.p c.args.s.now 0 (omega arith)
