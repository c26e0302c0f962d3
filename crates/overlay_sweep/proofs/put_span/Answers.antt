-- `overlay_sweep::put_span` meets its contract.
use native.Mathlib.Omega.{arith}
use mathlib.Core.List.{[], ◌∷◌}
use mathlib.Core.Path.{refl, sym, ap, ap₂, ◌∙◌, subst}
use Prim.Native.Nat.{◌*◌, ◌%◌, ◌≤◌}
use lib.IntN.{nat_abs, pred_ℤ}
use lib.Seq.{sets}
use Rattle.grid.specs.declared.{Corner.Corner, Panel.Panel}
use Rattle.grid.specs.Grid.{corner, panel_at}
use Rattle.overlay_sweep.proofs.KeyLaws.{sunk_few}
use Rattle.overlay_sweep.proofs.put_span.Goals as goal

pub panel_before-requires : goal.panel_before-requires
panel_before-requires c =
    subst (λ (e : Corner). nat_abs e.0 ≤ 262144) (sym c.end_of-2.ensures)
    (sunk_few (c.args.to % 131072) (omega arith))

pub returns : goal.returns
returns c =
    let a = c.args in
    record {
      measure = refl;
      buffer = λ h.
          c.put.ensures h
          ∙ ap₂ (λ (p q : Panel). sets a.out.now (3 * a.m.spans) (p.1 ∷ p.0 ∷ q.0 ∷ []))
          (c.panel_behind.ensures ∙ ap panel_at c.end_of.ensures)
          (c.panel_before.ensures
          ∙ ap (λ (e : Corner). panel_at (corner (pred_ℤ e.0) e.1)) c.end_of-2.ensures);
    }
