-- `pair_call::go` meets its contract.
use mathlib.Core.Path.{◌≡◌, ap, sym, ◌∙◌, subst, subst₂}
use native.Mathlib.Omega.{arith}
use borrow.Author.Rules.{rules}
use Prim.Native.Nat.{ℕ, ◌%◌}
use lib.ListN.{length}
use Rattle.std.specs.Prelude.{Err, None, Option, Some}
use Rattle.std.specs.Option.{ok_or}
use Rattle.std.specs.Result.{result_ok}
use Rattle.answer.specs.declared.Refusal.TheVariants.{NoRoom}
use Rattle.grid.specs.declared.Corner.{Corner}
use Rattle.pair_table.specs.Words.{pair_width}
use Rattle.pair_run.specs.declared.Pair.{Pair}
use Rattle.pair_run.specs.Runs.{PairRan}
use Rattle.pair_call.specs.Parts.{PairPlanted}
use Rattle.pair_call.proofs.CallLaws.{starts_full}
use Rattle.pair_call.proofs.go.Goals as goal

pub run-requires : goal.run-requires
run-requires c =
    let a = c.args in
    let b = c.plant in
    let some : b.result ≡ Some c.in_ok-w.w = c.ok_or.ensures.ok_part ∙ ap result_ok c.in_ok-w.was in
    let h = subst (PairPlanted (length a.t.now) a.start a.start2 b.new.t) some b.ensures in
    let l : length b.new.t ≡ length a.t.now = search rules in
    record {
      pair_starts = (h.2 a.first.now a.second.now, c.requires.near.2);
      t_len_bound = (omega (arith, l, c.requires.pair_width_in_bounds.1), ap (λ (n : ℕ). n % pair_width) l ∙ c.requires.pair_width_in_bounds.2, c.requires.pair_width_in_bounds.3);
      marks_len = c.requires.marks_len;
    }

pub returns : goal.returns
returns c =
    let a = c.args in
    let b = c.plant in
    let r = c.run in
    let some : b.result ≡ Some c.in_ok-w.w = c.ok_or.ensures.ok_part ∙ ap result_ok c.in_ok-w.was in
    let h = subst (PairPlanted (length a.t.now) a.start a.start2 b.new.t) some b.ensures in
    let l : length b.new.t ≡ length a.t.now = search rules in
    let P : ℕ → Corner → Corner → Type 0 = λ n x y. PairRan n x y a.ops.now r.new.t r.new.marks
    r.new.first r.new.second r.result in
    subst (λ (n : ℕ). P n a.start a.start2) l (subst₂ (P (length b.new.t)) h.0 h.1 r.ensures)

pub returns-in_err-w : goal.returns-in_err-w
returns-in_err-w c =
    let a = c.args in
    let b = c.plant in
    let o = c.ok_or.ensures in
    let none : b.result ≡ None = o.ok_part ∙ ap result_ok c.in_err-w.was in
    let g : Err c.in_err-w.field-0.0 ≡ ok_or None (NoRoom 0) = sym c.in_err-w.was ∙ o.value ∙ ap (λ (x : Option Pair). ok_or x (NoRoom 0)) none in
    let f : c.in_err-w.field-0.0 ≡ NoRoom 0 = cc in
    let e : c.from_residual.result ≡ Err c.in_err-w.field-0.0 = search rules in
    subst (PairRan (length a.t.now) a.start a.start2 a.ops.now b.new.t a.marks.now a.first.now a.second.now) (ap Err (sym f) ∙ sym e)
    (starts_full (length a.t.now) a.start a.start2 a.ops.now b.new.t a.marks.now a.first.now a.second.now
    (subst (PairPlanted (length a.t.now) a.start a.start2 b.new.t) none b.ensures))
