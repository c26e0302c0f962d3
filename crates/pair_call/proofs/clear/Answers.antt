-- `pair_call::clear` meets its contract.
use Rattle.walk_call.proofs.CallLaws.{cleared}
use Rattle.pair_call.proofs.clear.Goals as goal

pub returns : goal.returns
returns c =
    let a = c.args in
    let x = c.zero_from in
    let y = c.zero_from-2 in
    record {
      t = c.zero.ensures;
      marks = c.zero-2.ensures;
      first = cleared a.first.now x.new.s x.ensures;
      second = cleared a.second.now y.new.s y.ensures;
    }
