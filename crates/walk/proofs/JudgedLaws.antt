-- The judgement of the input and then of the size of the table, and what an input that is not refused has.
-- Assumes nothing.
use Rattle.std.specs.Prelude.{Ok}
use mathlib.Core.Bool.{true, not, ◌&&◌}
use mathlib.Core.List.{List, []}
use mathlib.Core.Path.{◌≡◌, sym, ◌∙◌}
use Prim.Native.Nat.{ℕ, ◌*◌, ◌≤◌}
use borrow.Author.Tests.{ltb-false, eqb-true, not-false}
use lib.Dec.{eqb, ltb}
use lib.ListN.{length}
use Rattle.answer.specs.declared.Refusal.TheVariants.{TooMany, Table, ResultRoom, StartRange}
use Rattle.answer.specs.Limits.{most_input, Near, start_fits}
use Rattle.answer.specs.Refusal.{or_else, first_of}
use Rattle.grid.specs.declared.Corner.{Corner}
use Rattle.layout.specs.Marks.{mark_words}
use Rattle.layout.specs.Table.{records_in}
use Rattle.lists.proofs.GatherLaws.{and_left, and_right}
use Rattle.steps.specs.Operations.{operations_judged}
use Rattle.answer.proofs.RefusalLaws.{or_else_good, first_of-last, clear, when_good}
use Rattle.answer.proofs.StartLaws.{fits_near}
use Rattle.walk.specs.Walk.{table_fits, input_judgements, room_from, walk_judged}
use Rattle.walk.proofs.CallCases as cases

-- the size of the table decides last
pub judged_split : (c : Corner) (os : List ℕ) (w m k : ℕ) → walk_judged c os w m k ≡ or_else (first_of (input_judgements c os w m k)) (room_from (records_in w) c 0 [] os)
judged_split c os w m k = first_of-last (input_judgements c os w m k) (room_from (records_in w) c 0 [] os)

-- an input that is not refused
pub record InputFits (c : Corner) (os : List ℕ) (w m k : ℕ) : Type 0 where
  pub few : length os ≤ most_input
  pub table : table_fits w ≡ true
  pub marks : m ≡ mark_words * length os
  pub chain : k ≡ length os
  pub start : Near c
  pub fine : operations_judged 0 0 os ≡ Ok tt

pub input_fits : (c : Corner) (os : List ℕ) (w m k : ℕ) → first_of (input_judgements c os w m k) ≡ Ok tt → InputFits c os w m k
input_fits c os w m k e =
    let a = eqb m (mark_words * length os) in
    let b = eqb k (length os) in
    let h = clear (input_judgements c os w m k) e in
    let r : a && b ≡ true = not-false (a && b) (when_good (not (a && b)) ResultRoom h.1.1.0) in
    record {
      few = ltb-false most_input (length os) (when_good (ltb most_input (length os)) TooMany h.0);
      table = not-false (table_fits w) (when_good (not (table_fits w)) Table h.1.0);
      marks = eqb-true m (mark_words * length os) (and_left a b r);
      chain = eqb-true k (length os) (and_right a b r);
      start = fits_near c (not-false (start_fits c) (when_good (not (start_fits c)) StartRange h.1.1.1.0));
      fine = h.1.1.1.1.0;
    }

-- a walk that is accepted
pub walk_fits : (c : Corner) (os : List ℕ) (w m k : ℕ) → walk_judged c os w m k ≡ Ok tt → InputFits c os w m k × (room_from (records_in w) c 0 [] os ≡ Ok tt)
walk_fits c os w m k e =
    let h = or_else_good (first_of (input_judgements c os w m k)) (room_from (records_in w) c 0 [] os) (sym (judged_split c os w m k) ∙ e) in
    (input_fits c os w m k h.0, h.1)
