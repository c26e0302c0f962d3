-- The judgements of the calls on a room are given on their occasions and on no other; the promise of the polygon's call taken apart.
-- Assumes nothing.
use Rattle.std.specs.Prelude.{Err, Ok}
use mathlib.Core.Bool.{Bool, true, false, not, false≢true}
use mathlib.Core.List.{List, ◌++◌, Memᴰ}
use mathlib.Core.Logic.{◌↔◌}
use mathlib.Core.Path.{◌≡◌, refl, ap, sym, ◌∙◌, subst}
use Prim.Native.Nat.{ℕ, ◌+◌, ◌*◌, ◌≤◌}
use native.Mathlib.Decide.{dec_lt}
use native.Mathlib.Omega.{arith}
use borrow.Author.Tests.{lt-ltb, le-ltb}
use lib.Dec.{ltb}
use lib.ListN.{length, drop}
use Rattle.answer.specs.Answers.{Counted, Judged}
use Rattle.answer.specs.declared.Refusal.{Refusal}
use Rattle.answer.specs.declared.Refusal.TheVariants.{NotRoom, PolygonRoom}
use Rattle.answer.specs.Refusal.{when, or_else}
use Rattle.grid.specs.declared.Corner.{Corner}
use Rattle.trace.specs.Verdict.{IsRoom}
use Rattle.steps.specs.Chain.{as_walk_judged}
use Rattle.answer.specs.Listed.{counted_of, laid_if}
use Rattle.room.specs.Room.{is_room, as_room_judged}
use Rattle.room.proofs.RoomLaws.{is_room_exactly, judged_refused, judged-room}
use Rattle.polygon.specs.Polygon.{points_of, polygon_of, polygon_judged, PolygonCall}
use Rattle.polygon.specs.Coordinate.{Exact}
use Rattle.polygon_laws.proofs.PointLaws.{points_exact}
use Rattle.polygon_laws.proofs.WriteLaws.{room_drawable, polygon_few}
use Rattle.answer.proofs.RefusalLaws.{or_else_good, or_else-right}
use Rattle.demands.specs.GivenChain.{GivenChain}
use Rattle.demands.specs.GivenRoom.{GivenRoom, GivenPolygon}
use Rattle.demands.specs.GivenRoom as given
use Rattle.demands.proofs.DigitLaws.{chain-when}
use Rattle.answer.proofs.ListedLaws.{count_refused, count_good}

-- ---- a start and a chain as a room

module _ (s : Corner) (ds : List ℕ) where
  not_a-room : (b : Bool) → is_room s ds ≡ b → (IsRoom s ds → ⊥) → when (not (is_room s ds)) NotRoom ≡ Err NotRoom
  not_a-room true e f = absurd (f ((is_room_exactly s ds).0 e))
  not_a-room false e f = ap (λ (b : Bool). when (not b) NotRoom) e

  given_room : (j : Judged) → GivenRoom s ds j → as_room_judged s ds ≡ j
  given_room _ (given.not_walk q g) = judged_refused s ds q ((chain-when s ds (Err q)).1 g)
  given_room _ (given.not_room g r) = judged-room s ds ((chain-when s ds (Ok tt)).1 g) ∙ not_a-room (is_room s ds) refl r
  given_room _ (given.is_room g r) = judged-room s ds ((chain-when s ds (Ok tt)).1 g) ∙ ap (λ (b : Bool). when (not b) NotRoom) ((is_room_exactly s ds).1 r)

  by-steps : GivenChain s ds (Ok tt) → (b : Bool) → is_room s ds ≡ b → (j : Judged) × GivenRoom s ds j
  by-steps g true e = (Ok tt, given.is_room g ((is_room_exactly s ds).0 e))
  by-steps g false e = (Err NotRoom, given.not_room g (λ r. false≢true (sym e ∙ (is_room_exactly s ds).1 r)))

  by_chain : (j : Judged) → as_walk_judged s ds ≡ j → (k : Judged) × GivenRoom s ds k
  by_chain (Ok _) e = by-steps ((chain-when s ds (Ok tt)).0 e) (is_room s ds) refl
  by_chain (Err q) e = (Err q, given.not_walk q ((chain-when s ds (Err q)).0 e))

  some_room : (j : Judged) × GivenRoom s ds j
  some_room = by_chain (as_walk_judged s ds) refl

  pub room-when : (j : Judged) → as_room_judged s ds ≡ j ↔ GivenRoom s ds j
  room-when j = let x = some_room in (λ e. subst (GivenRoom s ds) (sym (given_room x.0 x.1) ∙ e) x.1, given_room j)

  -- ---- its polygon
  module _ (room : ℕ) where
    abbrev bytes : ℕ
    bytes = length (polygon_of s ds)

    refused_first : (q : Refusal) → as_room_judged s ds ≡ Err q → polygon_judged s ds room ≡ Err q
    refused_first q e = ap (λ (j : Judged). or_else j (or_else (when (ltb room bytes) PolygonRoom) (Ok tt))) e

    room_then : as_room_judged s ds ≡ Ok tt → polygon_judged s ds room ≡ when (ltb room bytes) PolygonRoom
    room_then e = ap (λ (j : Judged). or_else j (or_else (when (ltb room bytes) PolygonRoom) (Ok tt))) e ∙ or_else-right (when (ltb room bytes) PolygonRoom)

    given_polygon : (j : Judged) → GivenPolygon s ds room bytes j → polygon_judged s ds room ≡ j
    given_polygon _ (given.refused q g) = refused_first q (given_room (Err q) g)
    given_polygon _ (given.polygon_room g h) = room_then (given_room (Ok tt) g) ∙ ap (λ (b : Bool). when b PolygonRoom) (lt-ltb room bytes h)
    given_polygon _ (given.accepted g h) = room_then (given_room (Ok tt) g) ∙ ap (λ (b : Bool). when b PolygonRoom) (le-ltb room bytes h)

    by-room : (j : Judged) → GivenRoom s ds j → (k : Judged) × GivenPolygon s ds room bytes k
    by-room (Ok _) g = elim (dec_lt room bytes) [ yes h ↦ (Err PolygonRoom, given.polygon_room g h) | no h ↦ (Ok tt, given.accepted g (omega arith)) ]
    by-room (Err q) g = (Err q, given.refused q g)

    some_polygon : (j : Judged) × GivenPolygon s ds room bytes j
    some_polygon = let x = some_room in by-room x.0 x.1

    polygon_when : (j : Judged) → polygon_judged s ds room ≡ j ↔ GivenPolygon s ds room bytes j
    polygon_when j = let x = some_polygon in (λ e. subst (GivenPolygon s ds room bytes) (sym (given_polygon x.0 x.1) ∙ e) x.1, given_polygon j)

-- ---- the call

module _ {s : Corner} {ds before : List ℕ} {r : Counted} {after : List ℕ} (w : PolygonCall s ds before r after) where
  abbrev judged : Judged
  judged = polygon_judged s ds (length before)

  pub refused_when : (q : Refusal) → r ≡ Err q ↔ GivenPolygon s ds (length before) (length (polygon_of s ds)) (Err q)
  refused_when q = (
    λ e. (polygon_when s ds (length before) (Err q)).0 (count_refused judged (length (polygon_of s ds)) q (sym e ∙ w.answer)),
    λ g. w.answer ∙ ap (λ (j : Judged). counted_of j (length (polygon_of s ds))) ((polygon_when s ds (length before) (Err q)).1 g),
  )

  pub written_when : r ≡ Ok (length (polygon_of s ds)) ↔ GivenPolygon s ds (length before) (length (polygon_of s ds)) (Ok tt)
  written_when = (
    λ e. (polygon_when s ds (length before) (Ok tt)).0 (count_good judged (length (polygon_of s ds)) (sym e ∙ w.answer)),
    λ g. w.answer ∙ ap (λ (j : Judged). counted_of j (length (polygon_of s ds))) ((polygon_when s ds (length before) (Ok tt)).1 g),
  )

module _ (s : Corner) (ds before : List ℕ) where
  pub polygon_some : (r : Counted) × (after : List ℕ) × PolygonCall s ds before r after
  polygon_some =
      let j = polygon_judged s ds (length before) in
      (counted_of j (length (polygon_of s ds)), laid_if j (polygon_of s ds) before, record { answer = refl; buffer = refl })

  module _ {after : List ℕ} where
    pub call_good : (n : ℕ) → PolygonCall s ds before (Ok n) after → (polygon_judged s ds (length before) ≡ Ok tt) × (n ≡ length (polygon_of s ds)) × (after ≡ polygon_of s ds ++ drop (length (polygon_of s ds)) before)
    call_good n p = go (polygon_judged s ds (length before)) refl p.answer p.buffer
      where
        go : (j : Judged) → polygon_judged s ds (length before) ≡ j → Ok n ≡ counted_of j (length (polygon_of s ds)) → after ≡ laid_if j (polygon_of s ds) before → (polygon_judged s ds (length before) ≡ Ok tt) × (n ≡ length (polygon_of s ds)) × (after ≡ polygon_of s ds ++ drop (length (polygon_of s ds)) before)
        go (Ok _) f e b = (f, cc, b)
        go (Err q) f e b = absurd (let z : ◌≡◌ {A = ℕ} 0 1 = cc in omega arith)

    pub call_few : (n : ℕ) → PolygonCall s ds before (Ok n) after → n ≤ 16 * length ds + 29
    call_few n p = let g = call_good n p in omega (arith, g.1, (polygon_few s ds (length before) g.0).0)

    pub call_exact : (n : ℕ) → PolygonCall s ds before (Ok n) after → (p : Corner) → Memᴰ p (points_of s ds) → Exact p
    call_exact n p q m =
        let g = call_good n p in
        points_exact s ds (room_drawable s ds (as_room_judged s ds) refl (or_else_good (as_room_judged s ds) (or_else (when (ltb (length before) (length (polygon_of s ds))) PolygonRoom) (Ok tt)) g.0).0) q m
