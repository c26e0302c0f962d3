-- The half-line of vertical edges beside a panel, shifted by one.
-- Assumes nothing.
use mathlib.Core.Bool.{Bool, true, false, ◌&&◌}
use mathlib.Core.Path.{◌≡◌, refl, ap, sym}
use Prim.Native.Nat.{◌+◌}
use lib.IntN.{ℤ, suc_ℤ, pred_ℤ}
use lib.Signed.{lt_z}
use Rattle.int_laws.proofs.LinearLaws.{zarith}
use Rattle.int_laws.proofs.RangeLaws.{lt_true}
use Rattle.int_laws.proofs.NextLaws.{bal_suc, bal_pred, true_lt}
use Rattle.lists.specs.Lists.{tally}
use Rattle.lists.proofs.FindLaws.{bool_agree}
use Rattle.grid.specs.declared.{Corner.Corner}
use Rattle.grid.specs.Grid.{corner, panel_at, eq_z, same, stepped}
use Rattle.grid.proofs.CornerLaws.{eq_z_suc}
use Rattle.panels.specs.Edges.{beside}
use Rattle.area_laws.proofs.EvenLaws.{crossed}

lt_z_pred : (a x : ℤ) → lt_z (pred_ℤ a) x ≡ lt_z a (suc_ℤ x)
lt_z_pred a x = bool_agree (lt_z (pred_ℤ a) x) (lt_z a (suc_ℤ x)) (λ e. true_lt a (suc_ℤ x) (omega (zarith, lt_true {a = pred_ℤ a} {b = x} e, bal_suc x, bal_pred a))) (λ e. true_lt (pred_ℤ a) x (omega (zarith, lt_true {a = a} {b = suc_ℤ x} e, bal_suc x, bal_pred a)))

-- one step further east an edge is beside the panel at v if it was, or if it was at v
pub beside-east : (v q : Corner) → tally (beside (panel_at v) (stepped 0 q)) ≡ tally (same q v) + tally (beside (panel_at v) q)
beside-east v q = by (eq_z q.1 v.1) (eq_z q.0 v.0) (crossed v.0 q.0)
  where
    by : (r s : Bool) → tally (lt_z v.0 (suc_ℤ q.0)) ≡ tally s + tally (lt_z v.0 q.0) → tally (r && lt_z v.0 (suc_ℤ q.0)) ≡ tally (s && r) + tally (r && lt_z v.0 q.0)
    by true true h = h
    by true false h = h
    by false true h = refl
    by false false h = refl

-- beside the panel to the west as the next edge to the east is beside the panel
pub beside_west : (v q : Corner) → beside (panel_at (corner (pred_ℤ v.0) v.1)) q ≡ beside (panel_at v) (stepped 0 q)
beside_west v q = ap (λ (b : Bool). eq_z q.1 v.1 && b) (lt_z_pred v.0 q.0)

-- beside the panel below as the next edge to the north is beside the panel
pub beside_below : (v q : Corner) → beside (panel_at (corner v.0 (pred_ℤ v.1))) q ≡ beside (panel_at v) (stepped 1 q)
beside_below v q = ap (λ (b : Bool). b && lt_z v.0 q.0) (sym (eq_z_suc q.1 v.1))
