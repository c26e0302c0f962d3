-- `line_reply::answer_line` meets its contract.
use Rattle.std.specs.Prelude.{Err, Ok}
use mathlib.Core.Path.{sym, ap, ◌∙◌, subst}
use mathlib.Core.List.{List, ◌++◌}
use Prim.Native.Nat.{ℕ}
use lib.ListN.{length}
use Rattle.grid.specs.Grid.{origin}
use Rattle.hull_laws.specs.Chain.{hull_of}
use Rattle.line_frame.specs.Spelled.{facts_line, hull_line}
use Rattle.line_fields.specs.Put.{Wrote}
use Rattle.line_room.proofs.WalkedLaws.{line_answer-walked}
use Rattle.line_reply.proofs.answer_line.Goals as goal

pub slice_bounds-chain-end : goal.slice_bounds-chain-end
slice_bounds-chain-end c = (c.walk_line.ensures.walked_by.survived c.in-Ok.f c.in-Ok.is).within

pub slice_bounds-write_accepted-end : goal.slice_bounds-write_accepted-end
slice_bounds-write_accepted-end c =
    let k = c.walk_line.ensures.walked_by.survived c.in-Ok.f c.in-Ok.is in
    k.steps ∙ sym (ap length k.chain)

pub write_accepted-requires : goal.write_accepted-requires
write_accepted-requires c =
    let k = c.walk_line.ensures.walked_by.survived c.in-Ok.f c.in-Ok.is in record {
      below = (rw k.chain k.digits, rw k.chain k.few);
      hull_len = c.requires.lent.hull;
      most_answer_in_bounds = c.requires.most_answer_in_bounds;
    }

pub returns-in-Ok : goal.returns-in-Ok
returns-in-Ok c =
    let a = c.args in
    let r = c.write_accepted in
    record {
      wrote = subst (λ (l : List ℕ). Wrote l a.at a.out.now r.result r.new.out) (ap (λ (ds : List ℕ). facts_line c.in-Ok.f ++ hull_line (hull_of origin ds)) (c.walk_line.ensures.walked_by.survived c.in-Ok.f c.in-Ok.is).chain ∙ line_answer-walked a.s.now (Ok c.in-Ok.f) (sym c.walk_line.ensures.walked_by.answer ∙ c.in-Ok.is)) r.ensures;
      clear = c.walk_line.ensures.clear;
    }

pub returns-in-Err : goal.returns-in-Err
returns-in-Err c =
    let a = c.args in
    let r = c.spell_refusal in
    record {
      wrote = subst (λ (l : List ℕ). Wrote l a.at a.out.now r.result r.new.out) (line_answer-walked a.s.now (Err c.in-Err.r) (sym c.walk_line.ensures.walked_by.answer ∙ c.in-Err.is)) r.ensures;
      clear = c.walk_line.ensures.clear;
    }
