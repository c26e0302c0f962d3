-- `orthogonal_call::outline_in` meets its contract.
use native.Mathlib.Omega.{arith}
use mathlib.Core.Path.{sym, subst}
use Prim.Native.Nat.{ℕ}
use lib.ListN.{take}
use Rattle.orthogonal_call.specs.Store.{LanesReady}
use Rattle.orthogonal_call.proofs.CallLaws.{accepted, store_ready}
use Rattle.orthogonal_call.proofs.outline_in.Goals as goal

pub start-m-requires : goal.start-m-requires
start-m-requires c = let s = c.args.site.now in (accepted s.start s.chain.now s.g s.judged).few

pub rows-n-requires : goal.rows-n-requires
rows-n-requires c = let s = c.args.site.now in (omega arith, (accepted s.start s.chain.now s.g s.judged).some)

pub trace-requires : goal.trace-requires
trace-requires c =
    let a = c.args in
    let s = a.site.now in
    let p = c.requires in
    let m = c.start-m in
    let some = (accepted s.start s.chain.now s.g s.judged).some in
    subst (λ (n : ℕ). LanesReady s.start s.chain.now s.g m.result (take n a.lo.now) (take n a.hi.now) (take n a.t.now)) (sym c.rows-n.ensures.0)
    (store_ready m.result s.g (omega arith) some s.start s.chain.now a.lo.now a.hi.now a.t.now s.judged (omega arith) (omega arith) p.0 p.1 p.2 p.3 p.4)
