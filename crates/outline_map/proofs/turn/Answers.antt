-- `outline_map::turn` meets its contract.
use Rattle.std.proofs.Common.{sym, ◌∙◌}
use Rattle.outline_path.proofs.RingLaws.{turn_right, turn_straight, turn_left, turn_back}
use Rattle.outline_map.specs.Map.{way_on}
use Rattle.outline_map.proofs.turn.Goals as goal

pub returns-then-has : goal.returns-then-has
returns-then-has c = turn_right (way_on c.args.m) c.args.d c.requires (sym c.has.ensures ∙ c.if-has.true)

pub returns-then-has-2 : goal.returns-then-has-2
returns-then-has-2 c =
    turn_straight (way_on c.args.m) c.args.d c.requires (sym c.has.ensures ∙ c.if-has.false)
    (sym c.has-2.ensures ∙ c.if-has-2.true)

pub returns-then-has-3 : goal.returns-then-has-3
returns-then-has-3 c =
    turn_left (way_on c.args.m) c.args.d c.requires
    (sym c.has.ensures ∙ c.if-has.false) (sym c.has-2.ensures ∙ c.if-has-2.false)
    (sym c.has-3.ensures ∙ c.if-has-3.true)

pub returns : goal.returns
returns c =
    turn_back (way_on c.args.m) c.args.d c.requires
    (sym c.has.ensures ∙ c.if-has.false) (sym c.has-2.ensures ∙ c.if-has-2.false)
    (sym c.has-3.ensures ∙ c.if-has-3.false)
