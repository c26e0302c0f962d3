-- `pair_call::follow` meets its contract.
use mathlib.Core.Path.{◌≡◌, refl, ap, sym, subst, ◌∙◌}
use Prim.Native.Nat.{ℕ}
use borrow.Author.Rules.{rules}
use lib.ListN.{length, replicate}
use Rattle.std.specs.Prelude.{Err}
use Rattle.answer.specs.Answers.{PairAnswer}
use Rattle.pair_steps.specs.Parties.{steps_by}
use Rattle.pair_table.specs.Slots.{slots_of}
use Rattle.pair_input.proofs.InputLaws.{pair_input_good}
use Rattle.pair.specs.Call.{PairLent, PairIs}
use Rattle.pair_run.specs.Runs.{PairRan}
use Rattle.pair_call.proofs.CallLaws.{over_first, over_second, pair_refused, pair_full, pair_all}
use Rattle.pair_call.proofs.follow.Goals as goal

zeros : {m n : ℕ} → m ≡ n → replicate {A = ℕ} m 0 ≡ replicate n 0
zeros e = ap (λ (k : ℕ). replicate {A = ℕ} k 0) e

pub returns-in_err-input : goal.returns-in_err-input
returns-in_err-input c =
    let a = c.args in
    let b : PairLent = record { table = a.t.now; marks = a.marks.now; first = a.first.now; second = a.second.now } in
    let r = c.in_err-input.field-0.0 in
    let e : c.from_residual.result ≡ Err r = search rules in
    subst (λ (x : PairAnswer). PairIs a.start a.start2 a.ops.now b x b) (sym e)
    (pair_refused a.start a.start2 a.ops.now b r (sym c.in_err-input.was ∙ c.input.ensures))

pub go-requires : goal.go-requires
go-requires c =
    let a = c.args in
    let k = pair_input_good a.start a.start2 a.ops.now (length a.t.now) (length a.marks.now)
    (length a.first.now) (length a.second.now) (sym c.input.ensures ∙ c.in_ok-input.was) in
    record {
      near = (k.start, k.other, k.fine);
      pair_width_in_bounds = (k.least, k.most, k.whole, k.few);
      marks_len = (k.marks, k.first, k.second);
    }

pub facts-requires : goal.facts-requires
facts-requires c =
    let a = c.args in
    let g = c.go in
    let h = subst (PairRan (length a.t.now) a.start a.start2 a.ops.now g.new.t
    g.new.marks g.new.first g.new.second) c.in-Ok.is g.ensures in
    (record { chain_steps = steps_by 0 a.ops.now; over = over_first g.new.t g.new.first g.new.second a.start a.start2 (steps_by 0 a.ops.now) (steps_by 1 a.ops.now) (slots_of a.start a.start2 a.ops.now) c.in-Ok.w.first c.in-Ok.w.second c.in-Ok.w.stock h.0 }, record { chain_steps = steps_by 1 a.ops.now; over = over_second g.new.t g.new.first g.new.second a.start a.start2 (steps_by 0 a.ops.now) (steps_by 1 a.ops.now) (slots_of a.start a.start2 a.ops.now) c.in-Ok.w.first c.in-Ok.w.second c.in-Ok.w.stock h.0 })

pub shape_of-t-in-Ok : goal.shape_of-t-in-Ok
shape_of-t-in-Ok c = c.go.auto.t

pub returns-in-Ok : goal.returns-in-Ok
returns-in-Ok c =
    let a = c.args in
    let g = c.go in
    let h = subst (PairRan (length a.t.now) a.start a.start2 a.ops.now g.new.t
    g.new.marks g.new.first g.new.second) c.in-Ok.is g.ensures in
    let k = pair_input_good a.start a.start2 a.ops.now (length a.t.now) (length a.marks.now)
    (length a.first.now) (length a.second.now)
    (sym c.input.ensures ∙ c.in_ok-input.was) in
    let f = c.facts in
    let e = f.ensures (steps_by 0 a.ops.now) (steps_by 1 a.ops.now)
    (over_first g.new.t g.new.first g.new.second a.start a.start2
    (steps_by 0 a.ops.now) (steps_by 1 a.ops.now) (slots_of a.start a.start2 a.ops.now) c.in-Ok.w.first c.in-Ok.w.second c.in-Ok.w.stock h.0) (over_second g.new.t g.new.first g.new.second a.start a.start2 (steps_by 0 a.ops.now) (steps_by 1 a.ops.now) (slots_of a.start a.start2 a.ops.now) c.in-Ok.w.first c.in-Ok.w.second c.in-Ok.w.stock h.0) in
    let l : length g.new.t ≡ length a.t.now = search rules in
    let m : length g.new.first ≡ length a.first.now = search rules in
    let n : length g.new.second ≡ length a.second.now = search rules in
    pair_all a.start a.start2 a.ops.now
    (record { table = a.t.now; marks = a.marks.now; first = a.first.now; second = a.second.now })
    (sym c.in_ok-input.was ∙ c.input.ensures)
    g.new.t g.new.marks g.new.first g.new.second c.in-Ok.w h l
    (m ∙ k.first) (n ∙ k.second)
    f.result e.0 (record { table = g.new.t; marks = g.new.marks; first = f.new.first; second = f.new.second }) refl refl e.1 e.2

pub returns-in-Err : goal.returns-in-Err
returns-in-Err c =
    let a = c.args in
    let g = c.go in
    let z = c.clear in
    let l : length g.new.t ≡ length a.t.now = search rules in
    let k : length g.new.marks ≡ length a.marks.now = search rules in
    let m : length g.new.first ≡ length a.first.now = search rules in
    let n : length g.new.second ≡ length a.second.now = search rules in
    pair_full a.start a.start2 a.ops.now
    (record { table = a.t.now; marks = a.marks.now; first = a.first.now; second = a.second.now })
    (sym c.in_ok-input.was ∙ c.input.ensures)
    g.new.t g.new.marks g.new.first g.new.second c.in-Err.r
    (subst (PairRan (length a.t.now) a.start a.start2 a.ops.now g.new.t g.new.marks
    g.new.first g.new.second) c.in-Err.is g.ensures)
    (record { table = z.new.t; marks = z.new.marks; first = z.new.first; second = z.new.second })
    (z.ensures.t ∙ zeros l) (z.ensures.marks ∙ zeros k) (z.ensures.first ∙ zeros m) (z.ensures.second ∙ zeros n)
