-- `row_spans::Base::put_row` meets its contract.
use native.Mathlib.Omega.{arith}
use mathlib.Core.Path.{◌≡◌, sym, subst}
use mathlib.Core.List.{List}
use Prim.Native.Nat.{ℕ, ◌%◌, ◌<◌}
use lib.IntN.{ℤ}
use Rattle.grid.specs.declared.Corner.{Corner}
use lib.ListN.{length}
use Rattle.row_bucket_laws.specs.Buckets.{Line, LineAt, Strung}
use Rattle.row_bucket_laws.proofs.WriteLaws.{Two, line_start, line_two, line_step, line_end}
use Rattle.row_spans.proofs.Base.put_row.Goals as goal

-- the two places that come next, from what the loop keeps
two : {next at : List ℕ} {o size first p to : ℕ} {b : Corner} {before now : List ℤ} → Line next at o size first
    → ((l : List ℕ) → Strung next first l → length l % 2 ≡ 0 → LineAt next at b l before o p to now) → 0 < p → Two next p to size
two r f h = line_two (f r.list r.thread r.even) _ r.fits h

pub loop-p-init : goal.loop-p-init
loop-p-init c =
    let a = c.args in
    (omega arith, λ l s e. subst (λ (k : ℕ). LineAt a.next.now a.at.now a.self.at l a.out.now a.o k a.o a.out.now) (sym c.from-p.ensures) (line_start a.next.now a.at.now a.self.at l a.out.now a.o a.first s e))

pub bounds-next-p : goal.bounds-next-p
bounds-next-p c =
    let w = two c.requires c.loop-p.invariant.1 (omega arith) in
    w.first

pub bounds-at-p : goal.bounds-at-p
bounds-at-p c =
    let w = two c.requires c.loop-p.invariant.1 (omega arith) in
    omega (arith, w.first, c.requires.store)

pub overflow_sub-q : goal.overflow_sub-q
overflow_sub-q c =
    let w = two c.requires c.loop-p.invariant.1 (omega arith) in
    omega (arith, w.there, c.from-q.ensures)

pub bounds-at-q : goal.bounds-at-q
bounds-at-q c =
    let w = two c.requires c.loop-p.invariant.1 (omega arith) in
    omega (arith, w.second, c.from-q.ensures, c.requires.store)

pub put_span-requires : goal.put_span-requires
put_span-requires c =
    let w = two c.requires c.loop-p.invariant.1 (omega arith) in
    omega (arith, w.free, c.loop-p.auto.out)

pub overflow_add-to : goal.overflow_add-to
overflow_add-to c =
    let w = two c.requires c.loop-p.invariant.1 (omega arith) in
    omega (arith, w.free)

pub overflow_sub-q-in-loop-p : goal.overflow_sub-q-in-loop-p
overflow_sub-q-in-loop-p c =
    let w = two c.requires c.loop-p.invariant.1 (omega arith) in
    omega (arith, w.there, c.from-q.ensures)

pub bounds-next-q : goal.bounds-next-q
bounds-next-q c =
    let w = two c.requires c.loop-p.invariant.1 (omega arith) in
    omega (arith, w.second, c.from-q.ensures)

pub loop-p-smaller : goal.loop-p-smaller
loop-p-smaller c =
    let w = two c.requires c.loop-p.invariant.1 (omega arith) in
    omega (arith, w.free, c.loop-p.auto.out, c.put_span.auto.out)

pub loop-p-preserved : goal.loop-p-preserved
loop-p-preserved c =
    let l = c.loop-p in
    let a = c.args in
    let u = c.put_span in
    (omega arith, λ k s e. line_step (l.invariant.1 k s e) c.from-q.result c.from-p-in-loop-p.result u.new.out (omega arith) c.from-q.ensures c.from-p-in-loop-p.ensures u.ensures)

pub returns : goal.returns
returns c = λ l s e. line_end (c.loop-p.invariant.1 l s e) (omega arith)
