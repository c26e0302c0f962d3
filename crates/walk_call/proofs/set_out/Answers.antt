-- `walk_call::set_out` meets its contract.
use mathlib.Core.Path.{◌≡◌}
use native.Mathlib.Omega.{arith}
use borrow.Author.Rules.{rules}
use lib.ListN.{length}
use Rattle.answer.specs.declared.Refusal.TheVariants.{NoRoom}
use Rattle.walk_input.proofs.JudgeLaws.{input_good}
use Rattle.walk_call.proofs.CallLaws.{planted_full, planted_walked, followed_full, followed_from}
use Rattle.walk_call.proofs.set_out.Goals as goal

pub plant-requires : goal.plant-requires
plant-requires c =
    let a = c.args in
    let k = input_good a.start a.ops.now (length a.t.now) (length a.marks.now) (length a.chain.now)
    c.requires.chain_value in
    (k.start, c.requires.t_value, k.least, k.most)

pub returns-in_default : goal.returns-in_default
returns-in_default c =
    let a = c.args in
    let p = c.plant in
    let z = c.clear in
    let f = planted_full (length a.t.now) a.start a.ops.now p.new.t (rw c.in_default.is at p.ensures) in
    followed_full a.start a.ops.now a.t.now a.marks.now a.chain.now p.new.t z.new.marks z.new.chain (NoRoom 0)
    f.0 f.1 z.ensures.marks z.ensures.chain

pub go_on-requires : goal.go_on-requires
go_on-requires c =
    let a = c.args in
    let p = c.plant in
    let k = input_good a.start a.ops.now (length a.t.now) (length a.marks.now) (length a.chain.now)
    c.requires.chain_value in
    let l : length p.new.t ≡ length a.t.now = search rules in
    record {
      near = k.start;
      walked = planted_walked a.start a.t.now p.new.t c.in-Some.at c.in-Some.ensures l;
      words = omega (arith, l, k.most);
      marks_length = k.marks;
      chain_length = k.chain;
      few = k.few;
      fine = k.fine;
    }

pub returns : goal.returns
returns c =
    let a = c.args in
    let g = c.go_on in
    let p = c.plant in
    let l : length p.new.t ≡ length a.t.now = search rules in
    followed_from a.start a.ops.now a.t.now p.new.t a.marks.now a.chain.now g.result
    g.new.t g.new.marks g.new.chain l g.ensures
