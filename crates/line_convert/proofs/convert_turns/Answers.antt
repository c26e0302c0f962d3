-- `line_convert::convert_turns` meets its contract.
use mathlib.Core.Path.{subst}
use mathlib.Core.List.{List}
use Prim.Native.Nat.{ℕ}
use native.Mathlib.Omega.{arith}
use Rattle.line_fields.specs.Put.{Wrote}
use Rattle.line_convert.proofs.ConvertLaws.{turns_good, turns_refused}
use Rattle.line_convert.proofs.convert_turns.Goals as goal

pub spell_frame-requires : goal.spell_frame-requires
spell_frame-requires c =
    let g = turns_good c.steps_of.ensures c.requires.s_len.1 c.in-Ok.is in record {
      below = g.below;
      steps_in_bounds = omega (arith, g.size, c.requires.s_len.0, c.requires.s_in_bounds);
    }

pub returns-in-Ok : goal.returns-in-Ok
returns-in-Ok c =
    let r = c.spell_frame in
    let g = turns_good c.steps_of.ensures c.requires.s_len.1 c.in-Ok.is in
    subst (λ (l : List ℕ). Wrote l c.args.at c.args.out.now r.result r.new.out)
    (g.written c.args.s.now) r.ensures

pub returns-in-Err : goal.returns-in-Err
returns-in-Err c =
    let r = c.copy in
    subst (λ (l : List ℕ). Wrote l c.args.at c.args.out.now r.result r.new.out)
    (turns_refused c.steps_of.ensures c.requires.s_len.1 c.in-Err.field-0 c.in-Err.is c.args.s.now) r.ensures
