-- Across a step: the surplus of the panel on its left is that of the panel on its right and how often the step is taken, less how often it is
-- taken back. For a step north this holds of every walk, for a step east of closed ones.
-- Assumes nothing.
use mathlib.Core.Bool.{Bool, true, false, not, ◌&&◌}
use mathlib.Core.List.{List, [], ◌∷◌}
use mathlib.Core.Path.{◌≡◌, refl, ap, sym, ◌∙◌}
use Prim.Native.Nat.{ℕ, zero, suc, ◌+◌}
use native.Mathlib.Omega.{arith}
use lib.Dec.{eqb}
use lib.IntN.{pos, ◌+ℤ◌}
use Rattle.int_laws.proofs.LinearLaws.{zarith, bal+, bal-}
use Rattle.lists.specs.Lists.{tally, count}
use Rattle.lists.proofs.FindLaws.{count-append}
use Rattle.grid.specs.declared.{Corner.Corner, Panel.Panel}
use Rattle.grid.specs.Grid.{panel_at, eq_z, same, stepped, end_from, back}
use Rattle.grid.proofs.CornerLaws.{eq_z_pred}
use Rattle.grid.proofs.StepLaws.{stepped-back}
use Rattle.panels.specs.Edges.{Edge, edge_of, edges_from, beside, surplus_of}
use Rattle.panels.specs.Inside.{left_of, right_of}
use Rattle.room_laws.proofs.ShiftLaws.{beside-east, beside_west, beside_below}

-- two digits go one way: both back ways are one; as in `stepped`, a digit above 3 goes south
abbrev pub along : ℕ → ℕ → Bool
along e d = eqb (back e) (back d)

-- how often the walk ds from c takes the step d from v
abbrev pub walks : Corner → List ℕ → ℕ → Corner → ℕ
walks c [] d v = 0
walks c (e ∷ ds) d v = tally (along e d && same c v) + walks (stepped e c) ds d v

-- the surplus on the left of the step d from v, and how often the step is taken back, are the surplus on its right and how often it is taken
abbrev pub Balanced : Corner → List ℕ → ℕ → Corner → Type 0
Balanced c ds d v = surplus_of c ds (left_of d v) +ℤ pos (walks c ds (back d) (stepped d v)) ≡ surplus_of c ds (right_of d v) +ℤ pos (walks c ds d v)

-- edges beside a panel, by their sense
abbrev norths : Panel → List Edge → ℕ
norths p es = count (λ e. beside p e.foot && e.north) es

abbrev souths : Panel → List Edge → ℕ
souths p es = count (λ e. beside p e.foot && not e.north) es

-- balanced up to the change of h from the start of the walk to its end
abbrev Across : (Corner → ℕ) → ℕ → Corner → Corner → List ℕ → Type 0
Across h d v c ds =
    let es = edges_from c ds in
    let l = left_of d v in
    let r = right_of d v in
    norths l es + souths r es + walks c ds (back d) (stepped d v) + h (end_from c ds) ≡ norths r es + souths l es + walks c ds d v + h c

-- if each step is, then a walk is
across_walk : (h : Corner → ℕ) (d : ℕ) (v : Corner) → ((e : ℕ) (c : Corner) → Across h d v c (e ∷ [])) → (c : Corner) (ds : List ℕ) → Across h d v c ds
across_walk h d v one c [] = refl
across_walk h d v one c (e ∷ ds) = omega (arith, one e c, across_walk h d v one (stepped e c) ds, cut (left_of d v) (λ b. b), cut (right_of d v) (λ b. b), cut (left_of d v) not, cut (right_of d v) not)
  where
    cut : (p : Panel) (t : Bool → Bool) → let f : Edge → Bool = λ e. beside p e.foot && t e.north in count f (edges_from c (e ∷ ds)) ≡ count f (edges_from c (e ∷ [])) + count f (edges_from (stepped e c) ds)
    cut p t = let f : Edge → Bool = λ e. beside p e.foot && t e.north in omega (arith, count-append f (edge_of e c) (edges_from (stepped e c) ds), count-append f (edge_of e c) [])

-- one edge counts in its sense alone
sense : (p : Panel) (q : Corner) (n : Bool) → let es : List Edge = record { foot = q; north = n } ∷ [] in (norths p es ≡ tally (n && beside p q)) × (souths p es ≡ tally (not n && beside p q))
sense p q n = by (beside p q) n
  where
    by : (b n : Bool) → (tally (b && n) + 0 ≡ tally (n && b)) × (tally (b && not n) + 0 ≡ tally (not n && b))
    by true true = (refl, refl)
    by true false = (refl, refl)
    by false true = (refl, refl)
    by false false = (refl, refl)

same-north : (v q : Corner) → same (stepped 3 q) v ≡ same q (stepped 1 v)
same-north v q = ap (λ (b : Bool). eq_z q.0 v.0 && b) (eq_z_pred q.1 v.1)

same-east : (v q : Corner) → same (stepped 2 q) v ≡ same q (stepped 0 v)
same-east v q = ap (λ (b : Bool). b && eq_z q.1 v.1) (eq_z_pred q.0 v.0)

north_step : (v : Corner) (e : ℕ) (c : Corner) → Across (λ q. 0) 1 v c (e ∷ [])
north_step v zero c = refl
north_step v (suc zero) c = omega (arith, sense (left_of 1 v) c true, sense (right_of 1 v) c true, ap tally (beside_west v c), beside-east v c)
north_step v (suc (suc zero)) c = refl
north_step v (suc (suc (suc e))) c =
    let q = stepped 3 c in
    omega (arith, sense (left_of 1 v) q false, sense (right_of 1 v) q false, ap tally (beside_west v q), beside-east v q, ap tally (same-north v c))

-- whether a corner is on the half-line of the lower ends beside the panel at v
abbrev on_line : Corner → Corner → ℕ
on_line v q = tally (beside (panel_at v) q)

east_step : (v : Corner) (e : ℕ) (c : Corner) → Across (on_line v) 0 v c (e ∷ [])
east_step v zero c = omega (arith, beside-east v c)
east_step v (suc zero) c = omega (arith, sense (left_of 0 v) c true, sense (right_of 0 v) c true, ap tally (beside_below v c))
east_step v (suc (suc zero)) c = omega (arith, beside-east v (stepped 2 c), ap (on_line v) (stepped-back 2 c), ap tally (same-east v c))
east_step v (suc (suc (suc e))) c =
    let q = stepped 3 c in
    omega (arith, sense (left_of 0 v) q false, sense (right_of 0 v) q false, ap tally (beside_below v q), ap (on_line v) (stepped-back 3 c))

-- from counts to surpluses
balance : (h : Corner → ℕ) (d : ℕ) (v c : Corner) (ds : List ℕ) → Across h d v c ds → h (end_from c ds) ≡ h c → Balanced c ds d v
balance h d v c ds a e =
    let es = edges_from c ds in
    let l = left_of d v in
    let r = right_of d v in
    let n = walks c ds d v in
    let m = walks c ds (back d) (stepped d v) in
    omega (zarith, a, e, bal- (pos (norths l es)) (pos (souths l es)), bal- (pos (norths r es)) (pos (souths r es)), bal+ (surplus_of c ds l) (pos m), bal+ (surplus_of c ds r) (pos n))

-- digits above 3 go south
walks_south : (c : Corner) (ds : List ℕ) (d : ℕ) (v : Corner) → walks c ds (suc (suc (suc d))) v ≡ walks c ds 3 v
walks_south c [] d v = refl
walks_south c (e ∷ ds) d v = ap (λ (n : ℕ). tally (along e 3 && same c v) + n) (walks_south (stepped e c) ds d v)

module _ (c : Corner) (ds : List ℕ) where
  -- of every walk, across a vertical edge
  pub across_north : (v : Corner) → Balanced c ds 1 v
  across_north v = balance (λ q. 0) 1 v c ds (across_walk (λ q. 0) 1 v (north_step v) c ds) refl

  -- of closed walks, across a horizontal edge
  across_east : end_from c ds ≡ c → (v : Corner) → Balanced c ds 0 v
  across_east h v = balance (on_line v) 0 v c ds (across_walk (on_line v) 0 v (east_step v) c ds) (ap (on_line v) h)

  -- of closed walks, across every edge: west and south are east and north the other way
  pub across : end_from c ds ≡ c → (d : ℕ) (v : Corner) → Balanced c ds d v
  across h zero v = across_east h v
  across h (suc zero) v = across_north v
  across h (suc (suc zero)) v = sym (across_east h (stepped 2 v)) ∙ ap (λ (q : Corner). surplus_of c ds (right_of 2 v) +ℤ pos (walks c ds 2 q)) (stepped-back 2 v)
  across h (suc (suc (suc d))) v =
      sym (across_north (stepped 3 v))
      ∙ ap (λ (q : Corner). surplus_of c ds (right_of 3 v) +ℤ pos (walks c ds 3 q)) (stepped-back 3 v)
      ∙ ap (λ (n : ℕ). surplus_of c ds (right_of 3 v) +ℤ pos n) (sym (walks_south c ds d v))
