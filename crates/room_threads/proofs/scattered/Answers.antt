-- `room_threads::scattered` meets its contract.
use native.Mathlib.Omega.{arith}
use mathlib.Core.Path.{sym, subst}
use Prim.Native.Nat.{◌*◌, ◌≤◌}
use lib.ListN.{length, take}
use lib.Seq.{length-take-le}
use Rattle.room_thread_laws.specs.Threads.{Leads}
use Rattle.room_thread_laws.proofs.LayLaws.{laid_leads, laid_heads, laid_scattered}
use Rattle.room_threads.proofs.ReachLaws.{laid_reach}
use Rattle.room_threads.proofs.scattered.Goals as goal

pub slice_bounds-apart-end-2 : goal.slice_bounds-apart-end-2
slice_bounds-apart-end-2 c =
    let f = c.lay in
    let a = c.args in
    let w = c.from in
    let h = f.new.head in
    let reach : 2 * w.result ≤ length h = omega (arith, w.ensures, c.requires.4, f.auto.head) in
    sym (length-take-le (2 * w.result) h reach)

pub apart-requires : goal.apart-requires
apart-requires c =
    let f = c.lay in
    let a = c.args in
    let w = c.from in
    let h = f.new.head in
    let reach : 2 * w.result ≤ length h = omega (arith, w.ensures, c.requires.4, f.auto.head) in
    let s = c.requires.0 in (
      subst (Leads f.new.next f.new.hs) (sym s.marks)
          (laid_leads a.chain.now a.m h f.new.next f.new.hs (length a.head.now) s.stays
          s.some (omega (arith, s.heights, f.auto.next, f.auto.hs)) f.ensures),
      laid_heads a.chain.now a.m (take (2 * w.result) h) f.new.next f.new.hs
          (omega (arith, s.places, f.auto.next))
          (laid_reach a.chain.now a.m h f.new.next f.new.hs (2 * w.result) reach f.ensures),
      omega (arith, s.stays.narrow, f.auto.head, length-take-le (2 * w.result) h reach),
      s.zeros.3,
    )

pub returns : goal.returns
returns c =
    let f = c.lay in
    let a = c.args in
    let w = c.from in
    let h = f.new.head in
    let reach : 2 * w.result ≤ length h = omega (arith, w.ensures, c.requires.4, f.auto.head) in
    let p = c.apart in
    laid_scattered a.chain.now a.m (take (2 * w.result) h) f.new.next f.new.hs (2 * a.m)
    p.result c.requires.3 (omega (arith, w.ensures, length-take-le (2 * w.result) h reach))
    (laid_reach a.chain.now a.m h f.new.next f.new.hs (2 * w.result) reach f.ensures)
    p.ensures
