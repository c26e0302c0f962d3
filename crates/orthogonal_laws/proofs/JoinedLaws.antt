-- Connected sets of panels: where a set is left, there is an edge between a panel in it and one outside; and the hull of a connected set by quadrants.
-- Assumes nothing.
use mathlib.Core.Bool.{Bool, true, false, true≢false, not, ◌&&◌}
use mathlib.Core.Logic.{◌⊎◌, inl, inr, ⊎_elim}
use mathlib.Core.Path.{◌≡◌, refl, ap₂, sym, ◌∙◌, subst}
use Prim.Native.Nat.{ℕ, zero, suc}
use lib.IntN.{ℤ, suc_ℤ, pred_ℤ, pred-suc}
use lib.Signed.{◌≤ℤ◌, ◌<ℤ◌, le_z}
use Rattle.int_laws.proofs.LinearLaws.{zarith}
use Rattle.int_laws.proofs.NextLaws.{bal_suc, bal_pred, le_false}
use Rattle.lists.proofs.GatherLaws.{and_left, and_right}
use Rattle.int_laws.proofs.RangeLaws.{le_true}
use Rattle.grid.specs.declared.{Corner.Corner, Panel.Panel}
use Rattle.grid.specs.Grid.{corner, stepped, back}
use Rattle.panels.specs.Inside.{left_of, right_of}
use Rattle.room_laws.proofs.CornerLaws.{left_back, right-back}
use Rattle.orthogonal.specs.Blocks.{block, Contains, Unbroken}
use Rattle.orthogonal_laws.specs.Connected.{JoinedIn, Connected, Holding, Quadrants}
use Rattle.orthogonal_laws.specs.Connected as connected

-- the panel with these coordinates
at_both : {x y : ℤ} {p : Panel} → x ≡ p.0 → y ≡ p.1 → block x y ≡ p
at_both e f = ap₂ block e f

-- two panels with a common edge, the second north, west, south or east of the first
pub data Beside (u v : Panel) : Type 0 where
  north : v.0 ≡ u.0 → v.1 ≡ suc_ℤ u.1 → Beside u v
  west : u.0 ≡ suc_ℤ v.0 → v.1 ≡ u.1 → Beside u v
  south : v.0 ≡ u.0 → u.1 ≡ suc_ℤ v.1 → Beside u v
  east : v.0 ≡ suc_ℤ u.0 → v.1 ≡ u.1 → Beside u v

suc_of : (z : ℤ) → z ≡ suc_ℤ (pred_ℤ z)
suc_of z = omega (zarith, bal_suc (pred_ℤ z), bal_pred z)

-- the panels on both sides of an edge
pub beside_edge : (d : ℕ) (q : Corner) → Beside (right_of d q) (left_of d q)
beside_edge zero q = north refl (suc_of q.1)
beside_edge (suc zero) q = west (suc_of q.0) refl
beside_edge (suc (suc zero)) q = south refl (suc_of q.1)
beside_edge (suc (suc (suc d))) q = east (suc_of q.0) refl

-- an edge between a panel of B in K and one of B outside K
pub record Leaves (B : Panel → Type 0) (K : Panel → Bool) : Type 0 where
  pub from : Panel
  pub to : Panel
  pub from_one : B from
  pub to_one : B to
  pub in_it : K from ≡ true
  pub off_it : K to ≡ false
  pub edge : Beside from to

module _ (B : Panel → Type 0) (p : Panel) (b : B p) where
  pub joined-one : (q : Panel) → JoinedIn B p q → B q
  joined-one _ connected.here = b
  joined-one _ (connected.across d v j c) = c

  pub joined_leaves : (K : Panel → Bool) → K p ≡ true → (q : Panel) → JoinedIn B p q → K q ≡ false → Leaves B K
  joined_leaves K i _ connected.here o = absurd (true≢false (sym i ∙ o))
  joined_leaves K i _ (connected.across d v j c) o = by (λ e. joined_leaves K i (right_of d v) j e) (K (right_of d v)) refl
    where
      by : (K (right_of d v) ≡ false → Leaves B K) → (k : Bool) → K (right_of d v) ≡ k → Leaves B K
      by sooner true e = record { from = right_of d v; to = left_of d v; from_one = joined-one (right_of d v) j; to_one = c; in_it = e; off_it = o; edge = beside_edge d v }
      by sooner false e = sooner e

module _ (B : Panel → Type 0) where
  pub joined_trans : (p q r : Panel) → JoinedIn B p q → JoinedIn B q r → JoinedIn B p r
  joined_trans p q _ j connected.here = j
  joined_trans p q _ j (connected.across d v k c) = connected.across d v (joined_trans p q (right_of d v) j k) c

  pub joined_back : (p : Panel) → B p → (q : Panel) → JoinedIn B p q → JoinedIn B q p
  joined_back p b _ connected.here = connected.here
  joined_back p b _ (connected.across d v j c) =
      let one : JoinedIn B (left_of d v) (right_of d v) =
      subst (JoinedIn B (left_of d v)) (right-back d v) (connected.across (back d) (stepped d v) (subst (JoinedIn B (left_of d v)) (sym (left_back d v)) connected.here) (subst B (sym (right-back d v)) (joined-one B p b (right_of d v) j))) in
      joined_trans (left_of d v) (right_of d v) p one (joined_back p b (right_of d v) j)

  -- one panel more
  pub joined-beside : (p u v : Panel) → JoinedIn B p u → Beside u v → B v → JoinedIn B p v
  joined-beside p u v j k b = by k
    where
      step : (d : ℕ) (q : Corner) → right_of d q ≡ u → left_of d q ≡ v → JoinedIn B p v
      step d q e f = subst (JoinedIn B p) f (connected.across d q (subst (JoinedIn B p) (sym e) j) (subst B (sym f) b))

      by : Beside u v → JoinedIn B p v
      by (north e f) = step 0 (corner v.0 v.1) (at_both e (omega (zarith, f, bal_suc u.1, bal_pred v.1))) refl
      by (west e f) = step 1 (corner u.0 u.1) refl (at_both (omega (zarith, e, bal_suc v.0, bal_pred u.0)) (sym f))
      by (south e f) = step 2 (corner (suc_ℤ u.0) u.1) (at_both (pred-suc u.0) refl) (at_both (pred-suc u.0 ∙ sym e) (omega (zarith, f, bal_suc v.1, bal_pred u.1)))
      by (east e f) = step 3 (corner v.0 (suc_ℤ v.1)) (at_both (omega (zarith, e, bal_suc u.0, bal_pred v.0)) (pred-suc v.1 ∙ f)) (at_both refl (pred-suc v.1))

-- ---- quadrants

-- x lies on one side of a, or at it: with true it is not above a, with false not below
abbrev pub Side : Bool → ℤ → ℤ → Type 0
Side true x a = x ≤ℤ a
Side false x a = a ≤ℤ x

abbrev pub side : Bool → ℤ → ℤ → Bool
side true x a = le_z x a
side false x a = le_z a x

pub side_yes : (s : Bool) (x a : ℤ) → side s x a ≡ true → Side s x a
side_yes true x a e = le_true e
side_yes false x a e = le_true e

pub true_le : (x a : ℤ) → x ≤ℤ a → le_z x a ≡ true
true_le x a h = by (le_z x a) refl
  where
    by : (k : Bool) → le_z x a ≡ k → k ≡ true
    by true e = refl
    by false e = let g = le_false x a e in absurd (omega (zarith, g, h))

pub yes_side : (s : Bool) (x a : ℤ) → Side s x a → side s x a ≡ true
yes_side true x a h = true_le x a h
yes_side false x a h = true_le a x h

-- equal, or one apart
abbrev pub Near : ℤ → ℤ → Type 0
Near x y = (y ≡ x) ⊎ ((y ≡ suc_ℤ x) ⊎ (x ≡ suc_ℤ y))

pub near-both : (u v : Panel) → Beside u v → Near u.0 v.0 × Near u.1 v.1
near-both u v (north e f) = (inl e, inr (inl f))
near-both u v (west e f) = (inr (inr e), inl f)
near-both u v (south e f) = (inl e, inr (inr f))
near-both u v (east e f) = (inr (inl e), inl f)

-- what is not above a, next to what is, is at a
pub edge_border : (x y a : ℤ) → x ≤ℤ a → a <ℤ y → Near x y → x ≡ a
edge_border x y a h k (inl e) = omega (zarith, h, k, e)
edge_border x y a h k (inr (inl e)) = omega (zarith, h, k, e, bal_suc x)
edge_border x y a h k (inr (inr e)) = omega (zarith, h, k, e, bal_suc y)

-- what is on a side, next to what is not, is at the border
border : (s : Bool) (x y a : ℤ) → side s x a ≡ true → side s y a ≡ false → Near x y → x ≡ a
border true x y a i o n = edge_border x y a (le_true i) (le_false y a o) n
border false x y a i o (inl e) = let g = le_true {a = a} {b = x} i in let h = le_false a y o in omega (zarith, g, h, e)
border false x y a i o (inr (inl e)) = let g = le_true {a = a} {b = x} i in let h = le_false a y o in omega (zarith, g, h, e, bal_suc x)
border false x y a i o (inr (inr e)) = let g = le_true {a = a} {b = x} i in let h = le_false a y o in omega (zarith, g, h, e, bal_suc y)

both_sides_lem : (s : Bool) (x a : ℤ) → Side s x a → Side (not s) x a → x ≡ a
both_sides_lem true x a h k = omega (zarith, h, k)
both_sides_lem false x a h k = omega (zarith, h, k)

module _ (B : Panel → Type 0) (joined : Connected B) (p : Panel) (quadrants : Quadrants B p) where
  -- the quadrant on two sides
  abbrev Quarter : Bool → Bool → Type 0
  Quarter s t = Holding B (λ u. Side s u.0 p.0) (λ u. Side t u.1 p.1)

  quarter : (s t : Bool) → Quarter s t
  quarter true true = quadrants.south_west
  quarter true false = quadrants.north_west
  quarter false true = quadrants.south_east
  quarter false false = quadrants.north-east

  -- a panel of B in the row of p, on one side of it; and in its column
  abbrev InRow : Bool → Type 0
  InRow s = Holding B (λ u. Side s u.0 p.0) (λ u. u.1 ≡ p.1)

  abbrev InColumn : Bool → Type 0
  InColumn t = Holding B (λ u. u.0 ≡ p.0) (λ u. Side t u.1 p.1)

  -- a quadrant is left across one of its two borders
  module _ (s t : Bool) where
    abbrev quarters : Panel → Bool
    quarters u = side s u.0 p.0 && side t u.1 p.1

    abbrev near : Quarter s t
    near = quarter s t

    abbrev far : Quarter (not s) (not t)
    far = quarter (not s) (not t)

    starts : quarters near.at ≡ true
    starts = ap₂ ◌&&◌ (yes_side s near.at.0 p.0 near.x) (yes_side t near.at.1 p.1 near.y)

    in_x : (u : Panel) → quarters u ≡ true → side s u.0 p.0 ≡ true
    in_x u e = and_left (side s u.0 p.0) (side t u.1 p.1) e

    in_y : (u : Panel) → quarters u ≡ true → side t u.1 p.1 ≡ true
    in_y u e = and_right (side s u.0 p.0) (side t u.1 p.1) e

    left_by : (w : Leaves B quarters) (i j : Bool) → side s w.to.0 p.0 ≡ i → side t w.to.1 p.1 ≡ j → InRow s ⊎ InColumn t
    left_by w false j e f =
        inr (record { at = w.from; one = w.from_one; x = border s w.from.0 w.to.0 p.0 (in_x w.from w.in_it) e (near-both w.from w.to w.edge).0; y = side_yes t w.from.1 p.1 (in_y w.from w.in_it) })
    left_by w true false e f =
        inl (record { at = w.from; one = w.from_one; x = side_yes s w.from.0 p.0 (in_x w.from w.in_it); y = border t w.from.1 w.to.1 p.1 (in_y w.from w.in_it) f (near-both w.from w.to w.edge).1 })
    left_by w true true e f = absurd (true≢false (sym (ap₂ ◌&&◌ e f) ∙ w.off_it))

    rays : InRow s ⊎ InColumn t
    rays = by (quarters far.at) refl
      where
        by : (k : Bool) → quarters far.at ≡ k → InRow s ⊎ InColumn t
        by true e = inl (record { at = far.at; one = far.one; x = side_yes s far.at.0 p.0 (in_x far.at e); y = both_sides_lem t far.at.1 p.1 (side_yes t far.at.1 p.1 (in_y far.at e)) far.y })
        by false e =
            let w = joined_leaves B near.at near.one quarters starts far.at (joined near.at far.at near.one far.one) e in
            left_by w (side s w.to.0 p.0) (side t w.to.1 p.1) refl refl

  between : (InRow true × InRow false) ⊎ (InColumn true × InColumn false)
  between = first (rays true true) (rays false false)
    where
      first : InRow true ⊎ InColumn true → InRow false ⊎ InColumn false → (InRow true × InRow false) ⊎ (InColumn true × InColumn false)
      first (inl w) (inl e) = inl (w, e)
      first (inl w) (inr n) = ⊎_elim (λ e. inl (w, e)) (λ s. inr (s, n)) (rays false true)
      first (inr s) (inl e) = ⊎_elim (λ w. inl (w, e)) (λ n. inr (s, n)) (rays true false)
      first (inr s) (inr n) = inr (s, n)

  -- so p is in every unbroken set that contains B
  pub quadrants_in : (K : Panel → Type 0) → Contains B K → Unbroken K → K p
  quadrants_in K c u = ⊎_elim in_row in_column between
    where
      in_row : InRow true × InRow false → K p
      in_row (w, e) =
          u.row w.at.0 p.0 e.at.0 p.1 w.x e.x
          (subst (λ (z : ℤ). K (block w.at.0 z)) w.y (c w.at w.one))
          (subst (λ (z : ℤ). K (block e.at.0 z)) e.y (c e.at e.one))

      in_column : InColumn true × InColumn false → K p
      in_column (s, n) =
          u.column p.0 s.at.1 p.1 n.at.1 s.y n.y
          (subst (λ (z : ℤ). K (block z s.at.1)) s.x (c s.at s.one))
          (subst (λ (z : ℤ). K (block z n.at.1)) n.x (c n.at n.one))
