-- `outline_path::turn` meets its contract.
use mathlib.Core.Path.{sym, ◌∙◌}
use Rattle.outline_path.specs.Ring.{ways_at}
use Rattle.outline_path.proofs.RingLaws.{turn_right, turn_straight, turn_left, turn_back}
use Rattle.outline_path.proofs.turn.Goals as goal

pub returns-then-leads : goal.returns-then-leads
returns-then-leads c =
    turn_right (ways_at c.args.links.now c.args.i) c.args.d c.requires.1
    (sym c.leads.ensures ∙ c.if-leads.true)

pub returns-then-leads-2 : goal.returns-then-leads-2
returns-then-leads-2 c =
    turn_straight (ways_at c.args.links.now c.args.i) c.args.d c.requires.1
    (sym c.leads.ensures ∙ c.if-leads.false) (sym c.leads-2.ensures ∙ c.if-leads-2.true)

pub returns-then-leads-3 : goal.returns-then-leads-3
returns-then-leads-3 c =
    let a = c.args in
    turn_left (ways_at a.links.now a.i) a.d c.requires.1
    (sym c.leads.ensures ∙ c.if-leads.false) (sym c.leads-2.ensures ∙ c.if-leads-2.false)
    (sym c.leads-3.ensures ∙ c.if-leads-3.true)

pub returns : goal.returns
returns c =
    let a = c.args in
    turn_back (ways_at a.links.now a.i) a.d c.requires.1
    (sym c.leads.ensures ∙ c.if-leads.false) (sym c.leads-2.ensures ∙ c.if-leads-2.false)
    (sym c.leads-3.ensures ∙ c.if-leads-3.false)
