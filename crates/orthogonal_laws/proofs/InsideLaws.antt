-- The panels inside a room are connected: along its walls from step to step, and in each row west to a wall.
-- Assumes nothing.
use mathlib.Core.Bool.{Bool, true, false, true≢false, not}
use mathlib.Core.List.{List, [], ◌∷◌, Memᴰ}
use mathlib.Core.Logic.{◌⊎◌, inl, inr, ⊎_elim}
use mathlib.Core.Path.{◌≡◌, refl, ap, sym, ◌∙◌, subst}
use Prim.Native.Nat.{ℕ, zero, suc, ◌+◌, ◌-◌, ◌<◌}
use native.Mathlib.Omega.{arith}
use lib.IntN.{pos, pred_ℤ, nat_abs, ◌+ℤ◌, ◌-ℤ◌}
use lib.ListN.{length, get_or}
use lib.Signed.{◌<ℤ◌}
use Rattle.int_laws.proofs.LinearLaws.{zarith, bal+}
use Rattle.int_laws.proofs.NextLaws.{bal_pred, above}
use Rattle.lists.specs.Lists.{Below}
use Rattle.lists.proofs.BelowLaws.{below_get_d}
use Rattle.lists.proofs.BoolLaws.{is_false}
use Rattle.grid.specs.declared.{Corner.Corner, Panel.Panel}
use Rattle.grid.specs.Grid.{corner, panel_at, stepped, corner_at, legs_from, back}
use Rattle.grid.proofs.StepLaws.{back_small, stepped-back, corner_at_end}
use Rattle.trace.specs.Verdict.{IsRoom}
use Rattle.panels.specs.Box.{box_of}
use Rattle.panels.specs.Inside.{Inside, left_of, right_of, EachStep}
use Rattle.room_laws.proofs.CornerLaws.{left_back, right-back}
use Rattle.room_laws.proofs.InsideLaws.{inside_held}
use Rattle.room_laws.proofs.RoomLaws.{room-counts}
use Rattle.outline.specs.Outline.{walked}
use Rattle.outline_laws.proofs.EdgeLaws.{Way, walked_edge, walked-back}
use Rattle.outline_laws.proofs.PathLaws.{next}
use Rattle.outline_room_laws.proofs.OutsideLaws.{onward-right, inside-same}
use Rattle.outline_room_laws.proofs.RoomLaws.{corner-next, room_next, room_back}
use Rattle.outline_room_laws.proofs.SideLaws.{each_edge}
use Rattle.orthogonal_laws.specs.Connected.{JoinedIn, Connected}
use Rattle.orthogonal_laws.specs.Connected as connected
use Rattle.orthogonal_laws.proofs.JoinedLaws.{joined-one, joined_trans, joined_back}

-- the panel on one side of a step: with true on its left, with false on its right
abbrev side_of : Bool → ℕ → Corner → Panel
side_of true d v = left_of d v
side_of false d v = right_of d v

-- what holds of each step by its place
each_at : (Q : ℕ → Corner → Type 0) (c : Corner) (ds : List ℕ) → ((k : ℕ) → k < length ds → Q (get_or ds k 0) (corner_at c ds k)) → EachStep Q c ds
each_at Q c [] f = tt
each_at Q c (d ∷ ds) f = (f 0 (omega arith), each_at Q (stepped d c) ds (λ k h. f (suc k) (omega arith)))

pub first_step : (Q : ℕ → Corner → Type 0) (c : Corner) (ds : List ℕ) → 0 < length ds → EachStep Q c ds → Q (get_or ds 0 0) c
first_step Q c [] h f = absurd (omega arith)
first_step Q c (d ∷ ds) h f = f.0

module _ (c : Corner) (ds : List ℕ) (r : IsRoom c ds) (b : Below 4 ds) where
  abbrev n : ℕ
  n = length ds

  long : 2 < n
  long = omega (arith, r.four)

  abbrev p : ℕ → Corner
  p k = corner_at c ds k

  abbrev d : ℕ → ℕ
  d k = get_or ds k 0

  -- what goes over from panel to panel across edges that were not walked
  module _ (P : Panel → Type 0) (over : (d : ℕ) (q : Corner) → walked c ds q d ≡ false → P (right_of d q) → P (left_of d q)) where
    along : (x y : Way) → next c ds x ≡ y → x.1 < 4 → P (right_of x.1 x.0) → P (right_of y.1 y.0)
    along x y e h o = subst (λ (z : Way). P (right_of z.1 z.0)) e (onward-right c ds P over x.1 h x.0 o)

    -- it holds on the right of every step if it does of the first
    rights : P (right_of (d 0) (p 0)) → (k : ℕ) → k < n → P (right_of (d k) (p k))
    rights o zero h = o
    rights o (suc k) h = along (p k, d k) (p (suc k), d (suc k)) (room_next c ds r b long k (suc k) (omega arith) h refl (inl (refl, h))) (below_get_d 4 ds k b (omega arith)) (rights o k (omega arith))

    -- and on the left: the room backwards
    left_of_lem : (k m : ℕ) → k < n → m < n → p m ≡ p (suc k) → ((m ≡ suc k) × (suc k < n)) ⊎ ((m ≡ 0) × (suc k ≡ n)) → P (left_of (d m) (p m)) → P (left_of (d k) (p k))
    left_of_lem k m h l e t o =
        let start : P (right_of (back (d m)) (p (suc m))) = subst (λ (v : Corner). P (right_of (back (d m)) v)) (sym (corner-next c ds m l)) (subst P (sym (left_back (d m) (p m))) o) in
        let there = along (p (suc m), back (d m)) (p m, back (d k)) (room_back c ds r b long k m h l e t) (back_small (d m)) start in
        subst P (left_back (d k) (p k)) (subst (λ (v : Corner). P (right_of (back (d k)) v)) (e ∙ corner-next c ds k h) there)

    lefts : P (left_of (d 0) (p 0)) → (j k : ℕ) → suc (k + j) ≡ n → P (left_of (d k) (p k))
    lefts o zero k h = left_of_lem k 0 (omega arith) (omega (arith, long)) (sym r.closed ∙ sym (corner_at_end c ds) ∙ ap p (sym (last h))) (inr (refl, last h)) o
      where
        last : suc (k + 0) ≡ n → suc k ≡ n
        last e = omega (arith, e)
    lefts o (suc j) k h = left_of_lem k (suc k) (omega (arith, h)) (omega (arith, h)) refl (inl (refl, omega (arith, h))) (lefts o j (suc k) (omega (arith, h)))

    sides : (s : Bool) → P (side_of s (d 0) (p 0)) → EachStep (λ e v. P (side_of s e v)) c ds
    sides true o = each_at (λ e v. P (left_of e v)) c ds (λ k h. lefts o (n - suc k) k (omega arith))
    sides false o = each_at (λ e v. P (right_of e v)) c ds (rights o)

    -- east across a vertical edge that was not walked
    eastward : (q : Corner) → walked c ds q 1 ≡ false → P (left_of 1 q) → P (right_of 1 q)
    eastward q w o =
        subst P (right-back 1 q)
        (over 3 (stepped 1 q) (is_false (walked c ds (stepped 1 q) 3) (λ e. true≢false (sym (subst (λ (v : Corner). walked c ds v 1 ≡ true) (stepped-back 1 q) (walked-back c ds (stepped 1 q) 3 e)) ∙ w))) (subst P (sym (left_back 1 q)) o))

    -- in a room with the inside on that side it holds of every panel inside
    module _ (s : Bool) (parts : EachStep (λ e v. Inside c ds (side_of s e v) × (Inside c ds (side_of (not s) e v) → ⊥)) c ds) (o : P (side_of s (d 0) (p 0))) where
      -- the panel east of a walked edge
      at_wall : (s : Bool) → EachStep (λ e v. Inside c ds (side_of s e v) × (Inside c ds (side_of (not s) e v) → ⊥)) c ds → EachStep (λ e v. P (side_of s e v)) c ds → (q : Corner) → walked c ds q 1 ≡ true → Inside c ds (panel_at q) → P (panel_at q)
      at_wall s f g q w i = by s f g (walked_edge c ds q 1 w)
        where
          down : Memᴰ (stepped 1 q, q) (legs_from c ds) → Memᴰ (stepped 1 q, stepped 3 (stepped 1 q)) (legs_from c ds)
          down m = subst (λ (x : Corner). Memᴰ (stepped 1 q, x) (legs_from c ds)) (sym (stepped-back 1 q)) m

          by : (s : Bool) → EachStep (λ e v. Inside c ds (side_of s e v) × (Inside c ds (side_of (not s) e v) → ⊥)) c ds → EachStep (λ e v. P (side_of s e v)) c ds → Memᴰ (q, stepped 1 q) (legs_from c ds) ⊎ Memᴰ (stepped 1 q, q) (legs_from c ds) → P (panel_at q)
          by true f g (inl m) = absurd ((each_edge (λ e v. Inside c ds (left_of e v) × (Inside c ds (right_of e v) → ⊥)) c ds b f q 1 (omega arith) m).1 i)
          by true f g (inr m) = subst P (right-back 1 q) (each_edge (λ e v. P (left_of e v)) c ds b g (stepped 1 q) 3 (omega arith) (down m))
          by false f g (inl m) = each_edge (λ e v. P (right_of e v)) c ds b g q 1 (omega arith) m
          by false f g (inr m) = absurd ((each_edge (λ e v. Inside c ds (right_of e v) × (Inside c ds (left_of e v) → ⊥)) c ds b f (stepped 1 q) 3 (omega arith) (down m)).1 (subst (Inside c ds) (sym (right-back 1 q)) i))

      westward : (m : ℕ) (q : Corner) → q.0 <ℤ ((box_of c ds).west +ℤ pos m) → Inside c ds (panel_at q) → P (panel_at q)
      westward zero q h i = absurd (let w = (inside_held c ds r.closed (panel_at q) i).west in omega (zarith, w, h, bal+ (box_of c ds).west (pos 0)))
      westward (suc m) q h i = by (λ i. westward m (corner (pred_ℤ q.0) q.1) (omega (zarith, h, bal_pred q.0, bal+ (box_of c ds).west (pos (suc m)), bal+ (box_of c ds).west (pos m))) i) (walked c ds q 1) refl
        where
          by : (Inside c ds (left_of 1 q) → P (left_of 1 q)) → (w : Bool) → walked c ds q 1 ≡ w → P (panel_at q)
          by further true w = at_wall s parts (sides s o) q w i
          by further false w = eastward q w (further ((inside-same c ds r.closed 1 q w).0 i))

      reached : (q : Panel) → Inside c ds q → P q
      reached q i =
          let w = (inside_held c ds r.closed q i).west in
          let m : ℕ = nat_abs (q.0 -ℤ (box_of c ds).west) in
          westward (suc m) (corner q.0 q.1) (omega (zarith, above (box_of c ds).west q.0 w, bal+ (box_of c ds).west (pos (suc m)), bal+ (box_of c ds).west (pos m))) i

  -- from the panel on the inner side of the first step every other inside is reached
  from_wall : (s : Bool) → EachStep (λ e v. Inside c ds (side_of s e v) × (Inside c ds (side_of (not s) e v) → ⊥)) c ds → Connected (Inside c ds)
  from_wall s f x y i j = joined_trans B x base y (joined_back B base start x (reached-from x i)) (reached-from y j)
    where
      B : Panel → Type 0
      B = Inside c ds

      base : Panel
      base = side_of s (d 0) (p 0)

      start : Inside c ds base
      start = (first_step (λ e v. Inside c ds (side_of s e v) × (Inside c ds (side_of (not s) e v) → ⊥)) c ds (omega (arith, r.four)) f).0

      reached-from : (q : Panel) → Inside c ds q → JoinedIn (Inside c ds) base q
      reached-from = reached (JoinedIn (Inside c ds) base) (λ e q w k. connected.across e q k ((inside-same c ds r.closed e q w).0 (joined-one (Inside c ds) base start (right_of e q) k))) s f connected.here

  -- the panels inside a room are connected
  pub room_connected : Connected (Inside c ds)
  room_connected = ⊎_elim (λ g. from_wall true g.0) (λ g. from_wall false g.0) (room-counts c ds r)
