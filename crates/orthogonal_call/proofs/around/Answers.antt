-- `orthogonal_call::around` meets its contract.
use native.Mathlib.Omega.{arith}
use mathlib.Core.Path.{ap}
use Prim.Native.Nat.{ℕ}
use lib.ListN.{get_or}
use Rattle.orthogonal_call.proofs.around.Goals as goal

pub overflow_sub-result : goal.overflow_sub-result
overflow_sub-result c =
    let a = c.args in omega
    (arith, c.requires.5, c.from-east.ensures, ap (λ (n : ℕ). get_or a.hi.now n 0) c.home_row.ensures.0)

pub overflow_sub-result-2 : goal.overflow_sub-result-2
overflow_sub-result-2 c =
    let a = c.args in omega
    (arith, c.requires.5, c.from-east.ensures, c.from.ensures, ap (λ (n : ℕ). get_or a.hi.now n 0) c.home_row.ensures.0)

pub returns : goal.returns
returns c =
    let a = c.args in omega
    (arith, c.from-east.ensures, c.from.ensures, ap (λ (n : ℕ). get_or a.hi.now n 0) c.home_row.ensures.0)
