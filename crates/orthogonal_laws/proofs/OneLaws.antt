-- A room that is walked counterclockwise from the lowest of its leftmost corners is given by the panels inside it.
-- Assumes nothing.
use mathlib.Core.Bool.{Bool, true, false}
use mathlib.Core.List.{List, [], ◌∷◌, Memᴰ, append-nil}
use mathlib.Core.Logic.{⊎_elim, ◌↔◌}
use mathlib.Core.Path.{◌≡◌, refl, ap, sym, ◌∙◌, subst}
use Prim.Native.Nat.{ℕ, zero, suc, ◌-◌, ◌<◌}
use native.Mathlib.Omega.{arith}
use lib.ListN.{length, get_or}
use Rattle.lists.specs.Lists.{Below}
use Rattle.grid.specs.declared.{Corner.Corner, Panel.Panel}
use Rattle.grid.specs.Grid.{stepped, corner_at, corners_from, back}
use Rattle.grid.proofs.StepLaws.{corner_at_end}
use Rattle.trace.specs.Verdict.{IsRoom}
use Rattle.area_laws.proofs.MovedLaws.{length-backward}
use Rattle.panels.specs.Inside.{Inside, left_of, right_of, EachStep, InsideLeft}
use Rattle.panels.specs.Moved.{started_at, backward}
use Rattle.room_laws.proofs.CornerLaws.{right-back}
use Rattle.outline.specs.Outline.{walked, home_of, OutlineIs}
use Rattle.outline_laws.proofs.BetweenLaws.{Along, outline_same}
use Rattle.outline_laws.proofs.EdgeLaws.{edge_walked, walked_visited}
use Rattle.outline_laws.proofs.HomeLaws.{home_least, home_visited, home_one}
use Rattle.outline_laws.proofs.OutlineLaws.{outline_of-is, outline_is_one}
use Rattle.outline_laws.proofs.RoundLaws.{edge_at}
use Rattle.outline_room_laws.proofs.OutsideLaws.{inside-same}
use Rattle.outline_room_laws.proofs.RingLaws.{backward-at}
use Rattle.outline_room_laws.proofs.RoomLaws.{corner-next, room_outline}
use Rattle.outline_room_laws.proofs.SideLaws.{walked_parts, room-left}
use Rattle.orthogonal_laws.proofs.InsideLaws.{first_step}

-- what holds of each step holds at each place
at_each : (Q : ℕ → Corner → Type 0) (c : Corner) (ds : List ℕ) → EachStep Q c ds → (k : ℕ) → k < length ds → Q (get_or ds k 0) (corner_at c ds k)
at_each Q c [] f k h = absurd (omega arith)
at_each Q c (d ∷ ds) f zero h = f.0
at_each Q c (d ∷ ds) f (suc k) h = at_each Q (stepped d c) ds f.1 k (omega arith)

-- ---- a room is its own outline

module _ (c : Corner) (ds : List ℕ) (r : IsRoom c ds) (b : Below 4 ds) (home : home_of c ds ≡ c) (left : InsideLeft c ds) where
  -- the corner at home is the first
  home_first : (j : ℕ) → j < length ds → corner_at c ds j ≡ home_of c ds → j ≡ 0
  home_first zero h e = refl
  home_first (suc j) h e = let m = r.only 0 (suc j) (record { earlier = omega arith; within = omega arith; equal = sym (e ∙ home) }) in absurd (omega (arith, h, m.1))

  -- backwards it has the inside on the right
  not_backward : OutlineIs c ds (backward ds) → ⊥
  not_backward o = wrong (at_each (λ d v. Inside c ds (left_of d v) × (Inside c ds (right_of d v) → ⊥)) c ds left k (omega (arith, r.four))).1
    where
      k : ℕ
      k = length ds - 1

      first : Inside c ds (left_of (get_or (backward ds) 0 0) (home_of c ds))
      first = (first_step (λ d v. Inside c ds (left_of d v) × (Inside c ds (right_of d v) → ⊥)) (home_of c ds) (backward ds) (omega (arith, r.four, length-backward ds)) (room-left c ds r b o)).0

      last : home_of c ds ≡ stepped (get_or ds k 0) (corner_at c ds k)
      last = home ∙ sym r.closed ∙ sym (corner_at_end c ds) ∙ ap (corner_at c ds) (let e : length ds ≡ suc k = omega (arith, r.four) in e) ∙ corner-next c ds k (omega (arith, r.four))

      wrong : (Inside c ds (right_of (get_or ds k 0) (corner_at c ds k)) → ⊥) → ⊥
      wrong n =
          n (subst (Inside c ds) (right-back (get_or ds k 0) (corner_at c ds k))
          (subst (λ (v : Corner). Inside c ds (left_of (back (get_or ds k 0)) v)) last
          (subst (λ (d : ℕ). Inside c ds (left_of d (home_of c ds))) (backward-at ds 0 k (omega (arith, r.four))) first)))

  pub own_outline : OutlineIs c ds ds
  own_outline =
      let o = outline_of-is c ds in
      let m = room_outline c ds r b o in
      let z : m.0 ≡ 0 = home_first m.0 m.1 m.2 in
      let s : started_at m.0 ds ≡ ds = ap (λ (j : ℕ). started_at j ds) z ∙ append-nil ds in
      ⊎_elim
      (λ e. subst (OutlineIs c ds) (e ∙ s) o)
      (λ e. absurd (not_backward (subst (OutlineIs c ds) (e ∙ ap backward s) o)))
      m.3

-- ---- two rooms with the same panels inside

-- have the same walked edges
pub same-walked : (c : Corner) (ds : List ℕ) → IsRoom c ds → Below 4 ds → (c' : Corner) (ds' : List ℕ) → IsRoom c' ds' → ((p : Panel) → Inside c ds p ↔ Inside c' ds' p) → Along c ds c' ds'
same-walked c ds r b c' ds' r' same = along
  where
    small : (p : Corner) (d : ℕ) → d < 4 → walked c ds p d ≡ true → walked c' ds' p d ≡ true
    small p d h w = by (walked c' ds' p d) refl
      where
        by : (x : Bool) → walked c' ds' p d ≡ x → x ≡ true
        by true e = refl
        by false e =
            let i = inside-same c' ds' r'.closed d p e in
            absurd (⊎_elim
            (λ k. k.1 ((same (right_of d p)).1 (i.1 ((same (left_of d p)).0 k.0))))
            (λ k. k.1 ((same (left_of d p)).1 (i.0 ((same (right_of d p)).0 k.0))))
            (walked_parts c ds r b p d h w))

    along : (p : Corner) (d : ℕ) → walked c ds p d ≡ true → walked c' ds' p d ≡ true
    along p zero w = small p 0 (omega arith) w
    along p (suc zero) w = small p 1 (omega arith) w
    along p (suc (suc zero)) w = small p 2 (omega arith) w
    along p (suc (suc (suc d))) w = small p 3 (omega arith) w

-- walks along the same edges have one home
pub home_same : (c : Corner) (ds : List ℕ) (c' : Corner) (ds' : List ℕ) → 0 < length ds → 0 < length ds' → Along c ds c' ds' → Along c' ds' c ds → home_of c ds ≡ home_of c' ds'
home_same c ds c' ds' h h' a a' = home_one c ds (home_of c' ds') (visited c' ds' h' c ds a' (home_of c' ds') (home_visited c' ds')) (λ q m. home_least c' ds' q (visited c ds h c' ds' a q m))
  where
    visited : (c : Corner) (ds : List ℕ) → 0 < length ds → (c' : Corner) (ds' : List ℕ) → Along c ds c' ds' → (q : Corner) → Memᴰ q (corners_from c ds) → Memᴰ q (corners_from c' ds')
    visited c [] h c' ds' a q m = absurd (omega arith)
    visited c (d ∷ ds) h c' ds' a q m = let e = edge_at c d ds q m in (walked_visited c' ds' q e.0 (a q e.0 (edge_walked c (d ∷ ds) q e.0 e.2))).0

-- a room, counterclockwise from the lowest of its leftmost corners
pub record Outlines (c : Corner) (ds : List ℕ) : Type 0 where
  pub digits : Below 4 ds
  pub room : IsRoom c ds
  pub home : home_of c ds ≡ c
  pub left : InsideLeft c ds

-- so two such rooms with the same panels inside are one
pub outlines_one : (c : Corner) (ds : List ℕ) (c' : Corner) (ds' : List ℕ) → Outlines c ds → Outlines c' ds' → ((p : Panel) → Inside c ds p ↔ Inside c' ds' p) → (c ≡ c') × (ds ≡ ds')
outlines_one c ds c' ds' o o' same =
    let a = same-walked c ds o.room o.digits c' ds' o'.room same in
    let a' = same-walked c' ds' o'.room o'.digits c ds o.room (λ p. ((same p).1, (same p).0)) in
    let h : 0 < length ds = omega (arith, o.room.four) in
    let h' : 0 < length ds' = omega (arith, o'.room.four) in (
      sym o.home ∙ home_same c ds c' ds' h h' a a' ∙ o'.home,
      outline_is_one (outline_same c' ds' (own_outline c ds o.room o.digits o.home o.left) h a a') (own_outline c' ds' o'.room o'.digits o'.home o'.left),
    )
