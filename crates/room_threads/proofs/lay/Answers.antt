-- `room_threads::lay` meets its contract.
use native.Mathlib.Omega.{arith}
use mathlib.Core.List.{List}
use mathlib.Core.Path.{◌≡◌, refl, ◌∙◌, subst}
use Prim.Native.Nat.{ℕ, ◌+◌, ◌<◌, ◌≤◌}
use lib.ListN.{length, get_or, length-set}
use Rattle.column_laws.specs.Columns.{top}
use Rattle.room_thread_laws.specs.Threads.{Laid, Laying, Stays}
use Rattle.room_thread_laws.proofs.LayLaws.{lay_start, lay_step, lay_bounds}
use Rattle.room_threads.proofs.lay.Goals as goal

-- where the walk stands before one of its steps
inside : {chain : List ℕ} {m x y i size : ℕ} {head next hs : List ℕ} → Laying chain m x y i head next hs → Stays chain m size → i < length chain → (0 < x) × (x < size) × (0 < y) × (x ≤ top) × (y ≤ top)
inside {chain} {m} {x} {y} {i} {size} {head} {next} {hs} w s l =
    let b = lay_bounds chain m x y i head next hs size w s l in
    (b.0, b.1, b.2, omega (arith, b.1, s.narrow), omega (arith, b.3, s.narrow))

pub loop-i-init : goal.loop-i-init
loop-i-init c =
    let a = c.args in
    (refl, refl, refl, rw c.from-x.ensures (lay_start a.chain.now a.m a.head.now a.next.now a.hs.now c.requires.4 c.requires.5 c.requires.6))

pub overflow_cast-next : goal.overflow_cast-next
overflow_cast-next c =
    let b = inside c.loop-i.invariant.3 c.requires.0 c.loop-i-test.true in
    record { fits = omega (arith, b.3) }

pub offset_bounds-head-x : goal.offset_bounds-head-x
offset_bounds-head-x c =
    let b = inside c.loop-i.invariant.3 c.requires.0 c.loop-i-test.true in
    record { fits = omega (arith, b.3) }

pub bounds-head-x : goal.bounds-head-x
bounds-head-x c =
    let b = inside c.loop-i.invariant.3 c.requires.0 c.loop-i-test.true in
    omega (arith, b.1)

pub overflow_cast-head-in-loop-i : goal.overflow_cast-head-in-loop-i
overflow_cast-head-in-loop-i c =
    let b = inside c.loop-i.invariant.3 c.requires.0 c.loop-i-test.true in
    record { fits = omega (arith, b.3) }

pub offset_bounds-head-x-in-loop-i : goal.offset_bounds-head-x-in-loop-i
offset_bounds-head-x-in-loop-i c =
    let b = inside c.loop-i.invariant.3 c.requires.0 c.loop-i-test.true in
    record { fits = omega (arith, b.3) }

pub bounds-head-x-in-loop-i : goal.bounds-head-x-in-loop-i
bounds-head-x-in-loop-i c =
    let b = inside c.loop-i.invariant.3 c.requires.0 c.loop-i-test.true in
    omega (arith, b.1)

pub across-x-requires : goal.across-x-requires
across-x-requires c =
    let b = inside c.loop-i.invariant.3 c.requires.0 c.loop-i-test.true in
    (refl, c.requires.7 c.loop-i.i, b.0, b.3)

pub upward-y-requires : goal.upward-y-requires
upward-y-requires c =
    let b = inside c.loop-i.invariant.3 c.requires.0 c.loop-i-test.true in
    (refl, c.requires.7 c.loop-i.i, b.2, b.4)

pub loop-i-preserved : goal.loop-i-preserved
loop-i-preserved c =
    let l = c.loop-i in
    let a = c.args in
    let b = inside l.invariant.3 c.requires.0 c.loop-i-test.true in (
      length-set l.head l.x (l.i + 1) ∙ l.invariant.0,
      length-set l.next l.i (get_or l.head l.x 0) ∙ l.invariant.1,
      length-set l.hs l.i l.y ∙ l.invariant.2,
      lay_step a.chain.now a.m l.x l.y l.i l.head l.next l.hs l.invariant.3 (omega arith)
          c.across-x.result c.upward-y.result c.across-x.ensures c.upward-y.ensures
          (omega (arith, b.1, l.invariant.0)) (omega (arith, l.invariant.1)) (omega (arith, l.invariant.2)),
    )

pub returns : goal.returns
returns c =
    let l = c.loop-i in
    let a = c.args in
    let all : l.i ≡ length a.chain.now = omega arith in
    subst (λ (n : ℕ). Laid a.chain.now a.m n l.head l.next l.hs) all l.invariant.3.laid
