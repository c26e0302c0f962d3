-- `pair_run::perform` meets its contract.
use mathlib.Core.Path.{◌≡◌, ap, sym, ◌∙◌, subst}
use Rattle.std.specs.Prelude.{Err, None, Option}
use Rattle.std.specs.Option.{ok_or}
use Rattle.std.specs.Result.{result_ok}
use Rattle.answer.specs.declared.Refusal.TheVariants.{NoRoom}
use Rattle.pair_run.specs.declared.PairTurn.{PairTurn}
use Rattle.pair_run.specs.Runs.{PairPerformed}
use native.Mathlib.Omega.{arith}
use borrow.Author.Rules.{rules}
use lib.ListN.{length}
use Rattle.pair_run.proofs.TurnLaws.{performed_full, performed_in, performed_to}
use Rattle.pair_run.proofs.perform.Goals as goal

pub mark-requires : goal.mark-requires
mark-requires c =
    let a = c.args in
    let k = c.requires.0 in
    let b = c.apply in
    let l : length b.new.t ≡ length a.t.now = search rules in
    let g = performed_in (length a.t.now) a.marks.now a.i k.first k.second k.firsts k.seconds k.slots
    a.q c.requires.0.party a.op b.new.t b.new.chain b.result
    (b.ensures k.first k.second k.firsts k.seconds k.slots k.here) c.in_ok-x.x (c.ok_or.ensures.ok_part ∙ ap result_ok c.in_ok-x.was) in
    (g.0, c.requires.0.party, omega (arith, c.requires.1), omega (arith, g.1, l, c.requires.0.words), c.requires.2)

pub returns : goal.returns
returns c =
    let a = c.args in
    let b = c.apply in
    let m = c.mark in
    λ x y ds es slots h. performed_to (length a.t.now) a.marks.now a.i x y ds es slots a.q c.requires.0.party
    a.op b.new.t b.new.chain b.result (b.ensures x y ds es slots h) c.in_ok-x.x (c.ok_or.ensures.ok_part ∙ ap result_ok c.in_ok-x.was) m.new.marks m.ensures

pub returns-in_err-x : goal.returns-in_err-x
returns-in_err-x c =
    let a = c.args in
    let b = c.apply in
    let o = c.ok_or.ensures in
    let none : b.result ≡ None = o.ok_part ∙ ap result_ok c.in_err-x.was in
    let e : c.from_residual.result ≡ Err c.in_err-x.field-0.0 = search rules in
    let g : Err c.in_err-x.field-0.0 ≡ ok_or None (NoRoom a.i) = sym c.in_err-x.was ∙ o.value ∙ ap (λ (x : Option PairTurn). ok_or x (NoRoom a.i)) none in
    let f : c.in_err-x.field-0.0 ≡ NoRoom a.i = cc in
    λ x y ds es slots h. subst (PairPerformed (length a.t.now) a.marks.now a.i x y ds es slots a.q a.op b.new.t a.marks.now b.new.chain)
    (ap Err (sym f) ∙ sym e)
    (performed_full (length a.t.now) a.marks.now a.i x y ds es slots a.q c.requires.0.party a.op b.new.t b.new.chain b.result
    (b.ensures x y ds es slots h) none a.marks.now)
