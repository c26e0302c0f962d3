-- `polygon_ring_take::whole_of` meets its contract.
use mathlib.Core.Path.{sym, subst, ◌∙◌}
use lib.Dec.{T}
use Rattle.polygon_ring_laws.proofs.FieldLaws.{reach_not, reach_yes, whole_zero, whole_out, whole-far, whole_other, whole_is}
use Rattle.polygon_ring_take.proofs.whole_of.Goals as goal

pub float_to_bits-bits : goal.float_to_bits-bits
float_to_bits-bits c = c.requires.1

pub returns-then-size-eq0 : goal.returns-then-size-eq0
returns-then-size-eq0 c = whole_zero c.args.most c.requires.0 c.args.x (subst T (sym c.well_formed.0.1) tt) c.if-size-eq0.true

pub returns-then-not-in_reach : goal.returns-then-not-in_reach
returns-then-not-in_reach c =
    whole_out c.args.most c.requires.0 c.args.x (subst T (sym c.well_formed.0.1) tt) c.if-size-eq0.false
    (reach_not _ c.in_reach.result c.in_reach.ensures c.if-not-in_reach.true-raw)

pub panels-n-requires : goal.panels-n-requires
panels-n-requires c = reach_yes _ c.in_reach.result c.in_reach.ensures c.if-not-in_reach.false-raw

pub returns-then-most-n : goal.returns-then-most-n
returns-then-most-n c =
    let p = c.panels-n in
    whole-far c.args.most c.requires.0 c.args.x (subst T (sym c.well_formed.0.1) tt) p.result p.ensures
    c.if-most-n.true

pub is_all-requires : goal.is_all-requires
is_all-requires c =
    let r = c.in_reach in
    (reach_yes _ r.result r.ensures c.if-not-in_reach.false-raw, c.panels-n.ensures)

pub returns-then-is_all : goal.returns-then-is_all
returns-then-is_all c =
    let p = c.panels-n in
    let r = c.in_reach in
    whole_is c.args.most c.requires.0 c.args.x (subst T (sym c.well_formed.0.1) tt) p.result p.ensures
    c.signed.result
    (reach_yes _ r.result r.ensures c.if-not-in_reach.false-raw) c.if-most-n.false
    (sym c.is_all.ensures ∙ c.if-is_all.true) c.signed.ensures

pub returns-else-is_all : goal.returns-else-is_all
returns-else-is_all c =
    let p = c.panels-n in
    whole_other c.args.most c.requires.0 c.args.x (subst T (sym c.well_formed.0.1) tt) p.result p.ensures
    c.if-size-eq0.false (sym c.is_all.ensures ∙ c.if-is_all.false)
