-- `sheet_entry::enter_accepted` meets its contract.
use native.Mathlib.Omega.{arith}
use Rattle.sheet.proofs.SizeLaws.{length-cells_of}
use Rattle.sheet_entry.proofs.EnterLaws.{wrote_accepted}
use Rattle.sheet_entry.proofs.enter_accepted.Goals as goal

pub enter_polygon-requires : goal.enter_polygon-requires
enter_polygon-requires c =
    record {
      below = c.requires.below;
      most_polygon_in_bounds = omega (arith, c.requires.most_entry_in_bounds, length-cells_of 0 0 c.args.f, c.spell_cells-next.ensures.end, c.spell_cells-next.auto.out);
    }

pub returns : goal.returns
returns c =
    let a = c.args in
    wrote_accepted a.f a.steps.now a.at c.requires.below.1 c.requires.most_entry_in_bounds c.spell_cells-next.ensures
    c.enter_polygon.ensures
