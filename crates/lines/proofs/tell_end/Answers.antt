-- `lines::tell_end` meets its contract.
use mathlib.Core.Path.{◌≡◌, sym, ap, ◌∙◌, subst}
use mathlib.Core.List.{List, [], ◌++◌}
use Prim.Native.Nat.{ℕ, ◌-◌, min}
use native.Mathlib.Omega.{arith}
use lib.ListN.{length, take}
use lib.Seq.{length-take-le}
use Rattle.line_fields.specs.Put.{Wrote}
use Rattle.line_frame.specs.Sizes.{most_held}
use Rattle.line_frame.specs.Begun.{kept_of}
use Rattle.line_stream.proofs.HoldLaws.{kept_here}
use Rattle.line_stream.proofs.FillLaws.{kept-bytes, length-kept_of}
use Rattle.lines.specs.Tasks.{job_of}
use Rattle.lines.proofs.tell_end.Goals as goal

pub returns-then-held-eq0-clause-wrote : goal.returns-then-held-eq0-clause-wrote
returns-then-held-eq0-clause-wrote c =
    let r = c.tell in
    let m = c.min-kept in
    let z = c.if-held-eq0.true in
    let a = c.args in
    let k : take m.result a.s.now ≡ kept_of (take a.held a.line.now ++ a.s.now) =
    kept_here a.line.now a.s.now a.held m.result c.requires.held_le_most_held.0 c.requires.held_le_most_held.1
    (m.ensures ∙ ap (λ (n : ℕ). min (length a.s.now) (most_held - n)) (sym z)) z
    in
    subst (λ (x : List ℕ). Wrote ((job_of a.task).told x []) a.used a.out.now r.result r.new.out) k r.ensures

pub slice_bounds-tell-end-2 : goal.slice_bounds-tell-end-2
slice_bounds-tell-end-2 c =
    let h = c.hold-kept in
    let a = c.args in
    omega (arith, h.ensures.end, h.auto.line, c.requires.held_le_most_held, length-kept_of (take a.held a.line.now ++ a.s.now))

pub slice_bounds-tell-end-3 : goal.slice_bounds-tell-end-3
slice_bounds-tell-end-3 c =
    let h = c.hold-kept in
    let a = c.args in
    sym (length-take-le h.result h.new.line (omega (arith, h.ensures.end, h.auto.line, c.requires.held_le_most_held, length-kept_of (take a.held a.line.now ++ a.s.now))))

pub returns-clause-wrote : goal.returns-clause-wrote
returns-clause-wrote c =
    let r = c.tell-2 in
    let k = c.hold-kept in
    let a = c.args in
    subst (λ (x : List ℕ). Wrote ((job_of a.task).told x []) a.used a.out.now r.result r.new.out)
    (kept-bytes a.line.now k.result k.new.line (take a.held a.line.now ++ a.s.now) c.requires.held_le_most_held.1 k.ensures) r.ensures
