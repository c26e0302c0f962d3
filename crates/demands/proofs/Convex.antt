-- What is asked of the call that says whether a room is convex (RULES 17), as theorems about its promise, `ConvexCall`. Each is
-- proved by naming a law. Assumes nothing.
use Rattle.std.specs.Prelude.{Err, Ok}
use mathlib.Core.List.{List, [], ◌∷◌, map}
use mathlib.Core.Logic.{◌↔◌}
use mathlib.Core.Path.{◌≡◌, ap}
use Prim.Native.Nat.{ℕ, ◌<◌}
use Rattle.answer.specs.Answers.{Counted}
use Rattle.lists.specs.Lists.{Below}
use Rattle.answer.specs.declared.{Refusal.Refusal}
use Rattle.answer.specs.Refusal.{refusal_number, refusal_place}
use Rattle.answer.specs.Words.{counted_words}
use Rattle.grid.specs.declared.{Corner.Corner, Panel.Panel}
use Rattle.grid.specs.Grid.{end_from, corner_at}
use Rattle.trace.specs.Verdict.{IsRoom}
use Rattle.panels.specs.Inside.{Inside, InsideRight}
use Rattle.panels.specs.Moved.{turned, started_at, backward}
use Rattle.convex.specs.Centres.{InHull}
use Rattle.convex.specs.Parts.{turned_by, clockwise, PartIs}
use Rattle.convex.specs.Convex.{ConvexPart, ConvexRoom, ConvexCall}
use Rattle.convex.proofs.ConvexLaws as convex_laws
use Rattle.convex_laws.proofs.CycleLaws as cycle_laws
use Rattle.convex_laws.proofs.SplitLaws as split_laws
use Rattle.convex_laws.proofs.TravelLaws as travel_laws
use Rattle.convex_laws.proofs.TurnLaws as turn_laws
use Rattle.demands.specs.GivenRoom.{GivenRoom}
use Rattle.demands.proofs.ConvexLaws as convex_call_laws

-- every start and chain has an answer
pub convex_answers : (s : Corner) (ds : List ℕ) → (r : Counted) × ConvexCall s ds r
convex_answers = convex_call_laws.convex_some

-- and only one
pub convex_call_one : {s : Corner} {ds : List ℕ} {r₁ r₂ : Counted} → ConvexCall s ds r₁ → ConvexCall s ds r₂ → r₁ ≡ r₂
convex_call_one = convex_laws.convex_call_one

module _ {s : Corner} {ds : List ℕ} {r : Counted} (w : ConvexCall s ds r) where
  -- "Refusals: 12", after 1, 10, 4 and 6: each exactly on its occasion
  pub convex_refused_exactly : (q : Refusal) → r ≡ Err q ↔ GivenRoom s ds (Err q)
  convex_refused_exactly = convex_call_laws.convex_refused_when w

  -- yes exactly for a convex room
  pub convex_yes_exactly : r ≡ Ok 1 ↔ (GivenRoom s ds (Ok tt) × ConvexRoom s ds)
  convex_yes_exactly = convex_call_laws.convex_yes_when w

  -- no exactly for a room that is not convex
  pub convex_no_exactly : r ≡ Ok 0 ↔ (GivenRoom s ds (Ok tt) × (ConvexRoom s ds → ⊥))
  convex_no_exactly = convex_call_laws.convex_no_when w

  -- "Yes exactly when each part uses only its two letters and no grid point off the part lies between it and the upper convex
  -- hull of its points, the hull line included": each of the four
  pub convex_yes_parts : r ≡ Ok 1
      ↔ (GivenRoom s ds (Ok tt) × ((i : ℕ) → i < 4 → (w : List ℕ) → PartIs i s (clockwise s ds) w → ConvexPart (turned_by i w)))
  convex_yes_parts = convex_call_laws.yes_parts_when w

  -- and no exactly when some part is not so
  pub convex_no_part : r ≡ Ok 0 ↔ (GivenRoom s ds (Ok tt)
      × ((i : ℕ) × (i < 4) × (w : List ℕ) × PartIs i s (clockwise s ds) w × (ConvexPart (turned_by i w) → ⊥)))
  convex_no_part = convex_call_laws.no_part_when w

  -- in other words: yes exactly if every panel whose centre lies in the convex hull of the centres of the room's panels is one of
  -- them
  pub convex_yes_centres : r ≡ Ok 1 ↔ (GivenRoom s ds (Ok tt) × ((q : Panel) → InHull (Inside s ds) q → Inside s ds q))
  convex_yes_centres = convex_call_laws.yes_centres_when w

  -- and no exactly if not every such panel is
  pub convex_no_centres : r ≡ Ok 0
      ↔ (GivenRoom s ds (Ok tt) × (((q : Panel) → InHull (Inside s ds) q → Inside s ds q) → ⊥))
  convex_no_centres = convex_call_laws.no_centres_when w

  -- the numbers of each
  pub convex_refused_words : (q : Refusal) → GivenRoom s ds (Err q)
      → counted_words r ≡ refusal_number q ∷ refusal_place q ∷ 0 ∷ []
  convex_refused_words q g = ap counted_words ((convex_refused_exactly q).1 g)

  pub convex_yes_words : GivenRoom s ds (Ok tt) → ConvexRoom s ds → counted_words r ≡ 0 ∷ 0 ∷ 1 ∷ []
  convex_yes_words g h = ap counted_words (convex_yes_exactly.1 (g, h))

  pub convex_no_words : GivenRoom s ds (Ok tt) → (ConvexRoom s ds → ⊥) → counted_words r ≡ 0 ∷ 0 ∷ 0 ∷ []
  convex_no_words g h = ap counted_words (convex_no_exactly.1 (g, h))

module _ (c : Corner) (ds : List ℕ) (r : IsRoom c ds) where
  -- "travelled clockwise": the inside is on the right of each step
  pub travelled-clockwise : InsideRight c (clockwise c ds)
  travelled-clockwise = travel_laws.clockwise-right c ds r

  -- "split it at its four extremal corners": every room has each part, from its extremal corner round to the next
  pub part_exists : (i : ℕ) → (w : List ℕ) × PartIs i c (clockwise c ds) w
  part_exists = split_laws.part_some c (clockwise c ds) (cycle_laws.clockwise-room c ds r)

  -- and only one
  pub part_is_one : (i : ℕ) {w₁ w₂ : List ℕ} → PartIs i c (clockwise c ds) w₁ → PartIs i c (clockwise c ds) w₂ → w₁ ≡ w₂
  part_is_one = split_laws.part_one c (clockwise c ds) (cycle_laws.clockwise-room c ds r)

  -- the room is convex exactly when each of the four is: so convex parts always follow one another, once round
  pub convex_parts : Below 4 ds
      → ConvexRoom c ds ↔ ((i : ℕ) → i < 4 → (w : List ℕ) → PartIs i c (clockwise c ds) w → ConvexPart (turned_by i w))
  convex_parts b = split_laws.convex_parts c ds b r

-- a convex room is convex from each of its corners
pub convex_started : (c : Corner) (ds : List ℕ) (j : ℕ) → end_from c ds ≡ c
    → ConvexRoom c ds ↔ ConvexRoom (corner_at c ds j) (started_at j ds)
convex_started = travel_laws.convex_started

-- walked the other way
pub convex_backward : (c : Corner) (ds : List ℕ) → Below 4 ds → IsRoom c ds → ConvexRoom c ds ↔ ConvexRoom c (backward ds)
convex_backward = travel_laws.convex_backward

-- wherever it lies
pub convex_moved : (c e : Corner) (ds : List ℕ) → end_from c ds ≡ c → ConvexRoom c ds ↔ ConvexRoom e ds
convex_moved = turn_laws.convex_moved

-- and after a quarter turn
pub convex_turned : (c e : Corner) (ds : List ℕ) → Below 4 ds → end_from c ds ≡ c → ConvexRoom c ds ↔ ConvexRoom e (map turned ds)
convex_turned = turn_laws.convex_turned
