-- `outline_roster::enter` meets its contract.
use mathlib.Core.Path.{sym, ◌∙◌}
use native.Mathlib.Omega.{arith}
use native.Mathlib.Numerals.{add-one}
use Rattle.outline_roster.proofs.TreeLaws.{free_child}
use Rattle.outline_roster.proofs.EnterLaws.{seated_there, seated_new}
use Rattle.outline_roster.proofs.enter.Goals as goal

pub offset_bounds-kids-at : goal.offset_bounds-kids-at
offset_bounds-kids-at c =
    let a = c.args in
    let p = c.requires in
    let f = free_child a.keys.now a.kids.now a.used p.0 a.k c.in-Err.at
    (sym c.seek.ensures ∙ c.in-Err.is) in
    omega (arith, f.0, p.2)

pub bounds-kids-at : goal.bounds-kids-at
bounds-kids-at c =
    let a = c.args in
    let p = c.requires in
    let f = free_child a.keys.now a.kids.now a.used p.0 a.k c.in-Err.at
    (sym c.seek.ensures ∙ c.in-Err.is) in
    omega (arith, f.0, p.0.pairs, p.1)

pub returns-in-Ok : goal.returns-in-Ok
returns-in-Ok c =
    let a = c.args in
    seated_there a.keys.now a.kids.now a.used c.requires.0 a.k c.in-Ok.node
    (sym c.seek.ensures ∙ c.in-Ok.is)

pub returns-in-Err : goal.returns-in-Err
returns-in-Err c =
    let a = c.args in
    let p = c.requires in
    rw (add-one a.used) (seated_new a.keys.now a.kids.now a.used p.0 a.k c.in-Err.at
    (sym c.seek.ensures ∙ c.in-Err.is) p.1)
