-- `line_convert::convert_frame` meets its contract.
use mathlib.Core.Path.{sym, ap, ◌∙◌, subst}
use mathlib.Core.List.{List}
use Prim.Native.Nat.{ℕ}
use native.Mathlib.Omega.{arith}
use lib.ListN.{length, take, replicate}
use lib.Seq.{length-take-le}
use Rattle.line_fields.specs.Put.{Wrote}
use Rattle.steps.specs.Turns.{steps_of, turns_judged, written_if}
use Rattle.line_frame.specs.Sizes.{most_digits}
use Rattle.line_frame.specs.Line.{digits_of}
use Rattle.line_frame.specs.Converted.{steps_frame}
use Rattle.line_frame.proofs.LineLaws.{length-digits_of}
use Rattle.line_fields.proofs.PutLaws.{take-put-start}
use Rattle.line_convert.proofs.convert_frame.Goals as goal

pub slice_bounds-convert_turns-end : goal.slice_bounds-convert_turns-end
slice_bounds-convert_turns-end c =
    let d = c.copy_digits in
    sym (length-take-le c.args.n d.new.buf (omega (arith, d.auto.buf, c.requires.n_le_most_digits)))

pub slice_bounds-convert_turns-end-2 : goal.slice_bounds-convert_turns-end-2
slice_bounds-convert_turns-end-2 c = sym (length-take-le c.args.n (replicate most_digits 0) (omega (arith, c.requires.n_le_most_digits)))

pub convert_turns-requires : goal.convert_turns-requires
convert_turns-requires c =
    let d = c.copy_digits in
    let a = length-take-le c.args.n d.new.buf (omega (arith, d.auto.buf, c.requires.n_le_most_digits)) in
    let b = length-take-le {A = ℕ} c.args.n (replicate most_digits 0) (omega (arith, c.requires.n_le_most_digits)) in
    record {
      s_len = (omega (arith, a, c.requires.n_le_most_digits), omega (arith, a, b));
      s_in_bounds = c.requires.s_in_bounds;
    }

pub returns : goal.returns
returns c =
    let r = c.convert_turns in
    let a = c.args in
    let e = take-put-start (digits_of a.s.now) (replicate most_digits 0) a.n
    (length-digits_of a.s.now a.n c.requires.n_le_most_digits.1) (omega (arith, c.requires.n_le_most_digits)) in
    subst (λ (ts : List ℕ). Wrote (written_if (turns_judged ts (length ts)) (steps_frame (steps_of ts)) a.s.now) a.at
    a.out.now r.result r.new.out) (ap (take a.n) c.copy_digits.ensures ∙ e) r.ensures
