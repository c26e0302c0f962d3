-- With blocks of one panel: the hull contains the room, and it is the room's own outline exactly if the room has no notch.
-- Assumes nothing.
use mathlib.Core.Bool.{true}
use mathlib.Core.List.{List, ◌++◌}
use mathlib.Core.Logic.{⊎_elim, ◌↔◌}
use mathlib.Core.Path.{◌≡◌, refl, ap, sym, ◌∙◌, subst}
use Prim.Native.Nat.{ℕ, ◌%◌, ◌<◌}
use native.Mathlib.Omega.{arith}
use borrow.Author.Tests.{eqb-true, eq-eqb}
use lib.ListN.{length, take, drop, take-append-drop}
use Rattle.lists.specs.Lists.{Below}
use Rattle.grid.specs.declared.{Corner.Corner, Panel.Panel}
use Rattle.grid.specs.Grid.{corner_at, end_from}
use Rattle.grid.proofs.StepLaws.{end_from-append}
use Rattle.trace.specs.Verdict.{IsRoom}
use Rattle.panels.specs.Inside.{edges_beside, Inside, inside}
use Rattle.panels.specs.Moved.{started_at, backward}
use Rattle.outline.specs.Outline.{home_of, OutlineIs}
use Rattle.outline_laws.proofs.BetweenLaws.{outline_same}
use Rattle.outline_room_laws.proofs.RoomLaws.{room_outline}
use Rattle.convex_hull_laws.proofs.TurnedLaws.{inside_cycle, inside-backward}
use Rattle.orthogonal.specs.Blocks.{Unbroken}
use Rattle.orthogonal.specs.Call.{OutlinesHull}
use Rattle.orthogonal_laws.proofs.BlockLaws.{holds_one}
use Rattle.orthogonal_laws.proofs.HullLaws.{hull_one, hull_same, unbroken_same, unbroken_hull}
use Rattle.orthogonal_laws.proofs.OneLaws.{own_outline, same-walked, home_same}
use Rattle.orthogonal_laws.proofs.CallLaws.{hull_outlines}

-- a test and what it tests
inside_is : (c : Corner) (ds : List ℕ) (p : Panel) → (inside c ds p ≡ true) ↔ Inside c ds p
inside_is c ds p = (eqb-true (edges_beside c ds p % 2) 1, eq-eqb (edges_beside c ds p % 2) 1)

-- a room from another of its corners has the same panels inside
module _ (s : Corner) (ds : List ℕ) (closed : end_from s ds ≡ s) (j : ℕ) where
  whole : take j ds ++ drop j ds ≡ ds
  whole = take-append-drop j ds

  inside_started : (p : Panel) → Inside s ds p ↔ Inside (corner_at s ds j) (started_at j ds) p
  inside_started p =
      let k = inside_cycle s (take j ds) (drop j ds) (ap (end_from s) whole ∙ closed) p in
      (λ i. k.0 (subst (λ (es : List ℕ). Inside s es p) (sym whole) i), λ i. subst (λ (es : List ℕ). Inside s es p) whole (k.1 i))

  closed_started : end_from (corner_at s ds j) (started_at j ds) ≡ corner_at s ds j
  closed_started = end_from-append (corner_at s ds j) (drop j ds) (take j ds) ∙ ap (λ (c : Corner). end_from c (take j ds)) (sym (end_from-append s (take j ds) (drop j ds)) ∙ ap (end_from s) whole ∙ closed)

-- so has its outline
outline_inside : (s : Corner) (ds : List ℕ) → IsRoom s ds → Below 4 ds → (es : List ℕ) → OutlineIs s ds es → (p : Panel) → Inside s ds p ↔ Inside (home_of s ds) es p
outline_inside s ds r b es o p =
    let m = room_outline s ds r b o in
    let j : ℕ = m.0 in
    let k = inside_started s ds r.closed j p in
    let l = inside-backward (corner_at s ds j) (started_at j ds) (closed_started s ds r.closed j) p in
    ⊎_elim
    (λ e. at (corner_at s ds j) (started_at j ds) m.2 e k)
    (λ e. at (corner_at s ds j) (backward (started_at j ds)) m.2 e (λ i. l.0 (k.0 i), λ i. k.1 (l.1 i)))
    m.3
  where
    at : (c : Corner) (fs : List ℕ) → c ≡ home_of s ds → es ≡ fs → Inside s ds p ↔ Inside c fs p → Inside s ds p ↔ Inside (home_of s ds) es p
    at c fs e f k = subst (λ (c : Corner). Inside s ds p ↔ Inside c es p) e (subst (λ (xs : List ℕ). Inside s ds p ↔ Inside c xs p) (sym f) k)

module _ (s : Corner) (ds : List ℕ) (r : IsRoom s ds) (b : Below 4 ds) (start : Corner) (steps : List ℕ) (o : OutlinesHull s ds 1 start steps) where
  -- the hull contains the panels inside the room
  pub hull_around : (p : Panel) → Inside s ds p → Inside start steps p
  hull_around p i = (inside_is start steps p).0 (o.hull.contains p ((holds_one s ds p).1 i))

  -- a room without a notch is its own hull
  own_hull : Unbroken (Inside s ds) → (p : Panel) → inside s ds p ≡ inside start steps p
  own_hull u = hull_one (hull_same (λ p. (λ e. (holds_one s ds p).1 ((inside_is s ds p).0 e), λ h. (inside_is s ds p).1 ((holds_one s ds p).0 h))) (λ p. refl) (unbroken_hull (inside s ds) (unbroken_same (λ p. ((inside_is s ds p).1, (inside_is s ds p).0)) u))) o.hull

  -- rooms with the same panels inside have one outline
  same_outline : ((p : Panel) → Inside s ds p ↔ Inside start steps p) → (start ≡ home_of s ds) × OutlineIs s ds steps
  same_outline same =
      let q = hull_outlines o in
      let forth = same-walked s ds r b start steps q.room same in
      let aback = same-walked start steps q.room q.digits s ds r (λ p. ((same p).1, (same p).0)) in
      let n : 0 < length steps = omega (arith, q.room.four) in (
        sym q.home ∙ home_same start steps s ds n (omega (arith, r.four)) aback forth,
        outline_same s ds (own_outline start steps q.room q.digits q.home q.left) n aback forth,
      )

  -- the hull's outline is the room's own exactly if the panels of each row and of each column are one piece
  pub hull_own : ((start ≡ home_of s ds) × OutlineIs s ds steps) ↔ Unbroken (Inside s ds)
  hull_own = (unbroken, λ u. same_outline (λ p. let e = own_hull u p in (λ i. (inside_is start steps p).0 (sym e ∙ (inside_is s ds p).1 i), λ i. (inside_is s ds p).0 (e ∙ (inside_is start steps p).1 i))))
    where
      unbroken : (start ≡ home_of s ds) × OutlineIs s ds steps → Unbroken (Inside s ds)
      unbroken (e, k) =
          let same : (p : Panel) → Inside s ds p ↔ Inside start steps p = λ p. subst (λ (c : Corner). Inside s ds p ↔ Inside c steps p) (sym e) (outline_inside s ds r b steps k p) in
          unbroken_same (λ p. (λ x. (same p).1 ((inside_is start steps p).0 x), λ i. (inside_is start steps p).1 ((same p).0 i))) o.hull.unbroken
