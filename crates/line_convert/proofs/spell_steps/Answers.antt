-- `line_convert::spell_steps` meets its contract.
use mathlib.Core.Path.{◌≡◌, ◌∙◌, subst}
use Prim.Native.Nat.{ℕ, ◌+◌}
use native.Mathlib.Omega.{arith}
use lib.ListN.{length}
use Rattle.line_fields.specs.Put.{Wrote}
use Rattle.line_frame.specs.Converted.{letters_of}
use Rattle.line_frame.proofs.FrameLaws.{length-letters_of}
use Rattle.line_convert.proofs.ConvertLaws.{put_begun, put_next, put_done, letter_at, below_at}
use Rattle.line_convert.proofs.spell_steps.Goals as goal

pub loop-i-init : goal.loop-i-init
loop-i-init c = put_begun (letters_of c.args.steps.now) c.args.out.now c.args.at

pub letter-requires : goal.letter-requires
letter-requires c = below_at c.args.steps.now c.loop-i.i c.requires.below (omega arith)

pub loop-i-preserved : goal.loop-i-preserved
loop-i-preserved c =
    let a = c.args in
    let n = length-letters_of a.steps.now in
    put_next (letters_of a.steps.now) c.loop-i.out _ a.at c.loop-i.i _ (omega arith) (omega arith) (c.letter.ensures ∙ letter_at a.steps.now c.loop-i.i (omega arith)) c.loop-i.invariant

pub returns : goal.returns
returns c =
    let a = c.args in
    let e : c.loop-i.i ≡ length a.steps.now = omega arith in
    subst (λ (n : ℕ). Wrote (letters_of a.steps.now) a.at a.out.now (a.at + n) c.loop-i.out) e
    (put_done (letters_of a.steps.now) c.loop-i.out a.out.now a.at c.loop-i.i (omega (arith, length-letters_of a.steps.now)) c.loop-i.invariant)
