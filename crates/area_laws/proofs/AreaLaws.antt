-- What the sum of x times the change of y means: on a closed walk it is the sum over all panels of the bounding box, or of any box that holds the
-- walk, of northward minus southward edges in the panel's row with x above the panel's.
-- Assumes nothing.
use mathlib.Core.Bool.{Bool, true, false, not, ◌&&◌}
use mathlib.Core.List.{List, [], ◌∷◌, Memᴰ}
use mathlib.Core.Logic.{◌↔◌}
use mathlib.Core.Path.{◌≡◌, refl, ap, ap₂, sym, ◌∙◌}
use Prim.Native.Nat.{ℕ, zero, suc, ◌+◌, ◌%◌}
use native.Mathlib.Omega.{arith}
use lib.IntN.{ℤ, pos, negsuc, nat_abs, ◌+ℤ◌, ◌-ℤ◌, ◌*ℤ◌, *ℤ-zero, +ℤ_invr}
use Rattle.int_laws.proofs.LinearLaws.{bal-}
use Rattle.int_laws.proofs.NextLaws.{suc_sub, pred_sub}
use Rattle.int_laws.proofs.RangeLaws.{abs_nat}
use Rattle.int_laws.proofs.RingLaws.{ring, v, k, ◌⊕◌, ◌⊖◌, ◌⊗◌}
use Rattle.lists.specs.Lists.{tally, count, sum_of}
use Rattle.lists.proofs.CountLaws.{sum-append}
use Rattle.grid.specs.declared.{Corner.Corner, Panel.Panel}
use Rattle.grid.specs.Grid.{stepped, corners_from, end_from}
use Rattle.trace.specs.Verdict.{IsRoom, sweep_from, area_of}
use Rattle.trace.proofs.VerdictLaws.{area_room}
use Rattle.panels.specs.Edges.{Edge, edge_of, edges_from, beside, surplus_of}
use Rattle.panels.specs.Inside.{Inside}
use Rattle.panels.specs.Box.{Box, box_of, panels_in, panel_sum}
use Rattle.area_laws.proofs.SumLaws.{sign_of, sum_exchange}
use Rattle.area_laws.proofs.BoxLaws.{HoldsCorner, HoldsFoot, box_holds, edges_held}
use Rattle.area_laws.proofs.CountLaws.{box_count}

abbrev share_of : Edge → ℤ
share_of e = sign_of e *ℤ e.foot.0

-- the change of y is 1 for an edge walked north, -1 for one walked south
edge_change : (d : ℕ) (c : Corner) → (stepped d c).1 -ℤ c.1 ≡ sum_of sign_of (edge_of d c)
edge_change zero c = +ℤ_invr c.1
edge_change (suc zero) c = suc_sub c.1
edge_change (suc (suc zero)) c = +ℤ_invr c.1
edge_change (suc (suc (suc d))) c = pred_sub c.1

edge_share : (d : ℕ) (c : Corner) → c.0 *ℤ ((stepped d c).1 -ℤ c.1) ≡ sum_of share_of (edge_of d c)
edge_share d c = ap (λ (z : ℤ). c.0 *ℤ z) (edge_change d c) ∙ by d
  where
    by : (d : ℕ) → c.0 *ℤ sum_of sign_of (edge_of d c) ≡ sum_of share_of (edge_of d c)
    by zero = *ℤ-zero c.0
    by (suc zero) = ring 1 (c.0 ∷ []) (v 0 ⊗ k (pos 1)) (k (pos 1) ⊗ v 0 ⊕ k (pos 0)) tt
    by (suc (suc zero)) = *ℤ-zero c.0
    by (suc (suc (suc d))) = ring 1 (c.0 ∷ []) (v 0 ⊗ k (negsuc 0)) (k (negsuc 0) ⊗ v 0 ⊕ k (pos 0)) tt

-- the sum over the steps is that over the vertical edges
sweep_edges : (c : Corner) (ds : List ℕ) → sweep_from c ds ≡ sum_of share_of (edges_from c ds)
sweep_edges c [] = refl
sweep_edges c (d ∷ ds) = ap₂ ◌+ℤ◌ (edge_share d c) (sweep_edges (stepped d c) ds) ∙ sym (sum-append share_of (edge_of d c) (edges_from (stepped d c) ds))

-- northward less southward edges make up the change of y, so on a closed walk they are 0
change_edges : (c : Corner) (ds : List ℕ) → sum_of sign_of (edges_from c ds) ≡ (end_from c ds).1 -ℤ c.1
change_edges c [] = sym (+ℤ_invr c.1)
change_edges c (d ∷ ds) =
    let e = stepped d c in
    sum-append sign_of (edge_of d c) (edges_from e ds)
    ∙ ap₂ ◌+ℤ◌ (sym (edge_change d c)) (change_edges e ds)
    ∙ ring 3 (c.1 ∷ e.1 ∷ (end_from e ds).1 ∷ []) (v 1 ⊖ v 0 ⊕ (v 2 ⊖ v 1)) (v 2 ⊖ v 0) tt

closed_signs : (c : Corner) (ds : List ℕ) → end_from c ds ≡ c → sum_of sign_of (edges_from c ds) ≡ pos 0
closed_signs c ds h = change_edges c ds ∙ ap (λ (p : Corner). p.1 -ℤ c.1) h ∙ +ℤ_invr c.1

-- an edge counts for x less the west side's panels
sum-counts : (b : Box) (es : List Edge) → ((e : Edge) → Memᴰ e es → HoldsFoot b e.foot) → sum_of (λ e. sign_of e *ℤ pos (count (λ p. beside p e.foot) (panels_in b))) es ≡ sum_of share_of es -ℤ (b.west *ℤ sum_of sign_of es)
sum-counts b [] h = ring 1 (b.west ∷ []) (k (pos 0)) (k (pos 0) ⊖ v 0 ⊗ k (pos 0)) tt
sum-counts b (e ∷ es) h =
    ap₂ ◌+ℤ◌ (ap (λ (z : ℤ). sign_of e *ℤ z) (box_count e.foot b (h e (Memᴰ.head refl)))) (sum-counts b es (λ f m. h f (Memᴰ.tail m)))
    ∙ ring 5 (sign_of e ∷ e.foot.0 ∷ b.west ∷ sum_of share_of es ∷ sum_of sign_of es ∷ []) (v 0 ⊗ (v 1 ⊖ v 2) ⊕ (v 3 ⊖ v 2 ⊗ v 4)) (v 0 ⊗ v 1 ⊕ v 3 ⊖ v 2 ⊗ (v 0 ⊕ v 4)) tt

-- for any box that holds the corners
sweep_box : (b : Box) (c : Corner) (ds : List ℕ) → ((p : Corner) → Memᴰ p (corners_from c ds) → HoldsCorner b p) → end_from c ds ≡ c → sweep_from c ds ≡ sum_of (surplus_of c ds) (panels_in b)
sweep_box b c ds h e =
    sweep_edges c ds
    ∙ ring 2 (sum_of share_of (edges_from c ds) ∷ b.west ∷ []) (v 0) (v 0 ⊖ v 1 ⊗ k (pos 0)) tt
    ∙ ap (λ (z : ℤ). sum_of share_of (edges_from c ds) -ℤ (b.west *ℤ z)) (sym (closed_signs c ds e))
    ∙ sym (sum_exchange (edges_from c ds) (panels_in b) ∙ sum-counts b (edges_from c ds) (edges_held b c ds h))

-- so for the bounding box
pub sweep_panels : (c : Corner) (ds : List ℕ) → end_from c ds ≡ c → sweep_from c ds ≡ panel_sum c ds
sweep_panels c ds e = sweep_box (box_of c ds) c ds (box_holds c ds) e

-- the signed area of a room is that sum
pub area_panels : (c : Corner) (ds : List ℕ) → IsRoom c ds → area_of c ds ≡ panel_sum c ds
area_panels c ds r = area_room c ds r ∙ sweep_panels c ds r.closed

-- a panel is inside by the rule of odd edges exactly if northward minus southward edges are odd in number
pub surplus_inside : (c : Corner) (ds : List ℕ) (p : Panel) → Inside c ds p ↔ (nat_abs (surplus_of c ds p) % 2 ≡ 1)
surplus_inside c ds p = (λ h. omega (arith, h, parity), λ h. omega (arith, h, parity))
  where
    split : (es : List Edge) → count (λ e. beside p e.foot) es ≡ count (λ e. beside p e.foot && e.north) es + count (λ e. beside p e.foot && not e.north) es
    split [] = refl
    split (e ∷ es) = omega (arith, by (beside p e.foot) e.north, split es)
      where
        by : (b n : Bool) → tally b ≡ tally (b && n) + tally (b && not n)
        by true true = refl
        by true false = refl
        by false n = refl

    abs : (n s : ℕ) → nat_abs (pos n -ℤ pos s) % 2 ≡ (n + s) % 2
    abs n s = omega (arith, abs_nat (pos n -ℤ pos s), bal- (pos n) (pos s))

    parity : nat_abs (surplus_of c ds p) % 2 ≡ count (λ e. beside p e.foot) (edges_from c ds) % 2
    parity = abs (count (λ e. beside p e.foot && e.north) (edges_from c ds)) (count (λ e. beside p e.foot && not e.north) (edges_from c ds)) ∙ ap (λ (n : ℕ). n % 2) (sym (split (edges_from c ds)))
