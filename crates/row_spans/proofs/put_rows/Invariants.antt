-- What the loops of `row_spans::put_rows` keep, and how they end.
use mathlib.Core.Path.{◌≡◌}
use mathlib.Core.List.{List}
use Prim.Native.Nat.{ℕ, ◌%◌}
use lib.ListN.{length}
use Rattle.row_bucket_laws.specs.Buckets.{picked, Poured, SheetAt}
use Rattle.row_spans.proofs.put_rows.Given as goal

abbrev pub invariant-loop-h : goal.invariant-loop-h
invariant-loop-h l = (key foot : ℕ → ℕ) (done : List ℕ) → Poured key foot done l.next l.at l.row → ((k : ℕ) → length (picked foot k done) % 2 ≡ 0) → SheetAt l.start l.m l.end key foot done l.initial.out l.h l.o l.out
