-- The promise of the call that says whether a room is convex, taken apart.
-- Assumes nothing.
use Rattle.std.specs.Prelude.{Err, Ok}
use mathlib.Core.Bool.{Bool, true, false, true≢false}
use mathlib.Core.List.{List}
use mathlib.Core.Logic.{◌↔◌}
use mathlib.Core.Path.{◌≡◌, refl, ap, ap₂, sym, ◌∙◌}
use Prim.Native.Nat.{ℕ, ◌<◌}
use native.Mathlib.Omega.{arith}
use Rattle.answer.specs.Answers.{Counted, Judged}
use Rattle.lists.specs.Lists.{tally, Below}
use Rattle.lists.proofs.BoolLaws.{is_false}
use Rattle.answer.specs.declared.Refusal.{Refusal}
use Rattle.grid.specs.declared.{Corner.Corner, Panel.Panel}
use Rattle.trace.specs.Verdict.{IsRoom}
use Rattle.answer.specs.Listed.{counted_of}
use Rattle.steps.proofs.ChainLaws.{good_short}
use Rattle.room.specs.Room.{as_room_judged}
use Rattle.room.proofs.RoomLaws.{good_room}
use Rattle.row_laws.proofs.CallLaws.{good_steps}
use Rattle.panels.specs.Inside.{Inside}
use Rattle.convex.specs.Centres.{InHull}
use Rattle.convex.specs.Parts.{turned_by, clockwise, PartIs}
use Rattle.convex.specs.Convex.{ConvexPart, ConvexRoom, ConvexCall}
use Rattle.convex_laws.specs.Decide.{convex_of}
use Rattle.convex_laws.proofs.RoomLaws.{convex_of_exactly}
use Rattle.convex_laws.proofs.SplitLaws.{convex_parts, some_part}
use Rattle.convex_hull_laws.proofs.HullLaws.{convex_exactly}
use Rattle.demands.specs.GivenRoom.{GivenRoom}
use Rattle.answer.proofs.ListedLaws.{count_refused}
use Rattle.demands.proofs.RoomCallLaws.{room-when}

pub convex_some : (s : Corner) (ds : List ℕ) → (r : Counted) × ConvexCall s ds r
convex_some s ds = (counted_of (as_room_judged s ds) (tally (convex_of s ds)), record { says = convex_of s ds; convex = told; answer = refl })
  where
    told : as_room_judged s ds ≡ Ok tt → (convex_of s ds ≡ true) ↔ ConvexRoom s ds
    told e = let r = good_room s ds e in convex_of_exactly s ds r.room (omega (arith, good_short 0 ds (omega arith) r.steps))

-- a count that is answered is that of a call with no refusal
counted_good : (j : Judged) (n m : ℕ) → Ok m ≡ counted_of j n → (j ≡ Ok tt) × (m ≡ n)
counted_good (Ok _) n m e = (refl, cc)
counted_good (Err r) n m e = absurd (let z : ◌≡◌ {A = ℕ} 0 1 = cc in omega arith)

tally_yes : (b : Bool) → 1 ≡ tally b → b ≡ true
tally_yes true e = refl
tally_yes false e = absurd (omega arith)

tally_no : (b : Bool) → 0 ≡ tally b → b ≡ false
tally_no false e = refl
tally_no true e = absurd (omega arith)

module _ {s : Corner} {ds : List ℕ} {r : Counted} (w : ConvexCall s ds r) where
  abbrev judged : Judged
  judged = as_room_judged s ds

  pub convex_refused_when : (q : Refusal) → r ≡ Err q ↔ GivenRoom s ds (Err q)
  convex_refused_when q = (
    λ e. (room-when s ds (Err q)).0 (count_refused judged (tally w.says) q (sym e ∙ w.answer)),
    λ g. w.answer ∙ ap (λ (j : Judged). counted_of j (tally w.says)) ((room-when s ds (Err q)).1 g),
  )

  -- what is answered for a room
  told : (b : Bool) → w.says ≡ b → GivenRoom s ds (Ok tt) → r ≡ Ok (tally b)
  told b e g = w.answer ∙ ap₂ (λ (j : Judged) (x : Bool). counted_of j (tally x)) ((room-when s ds (Ok tt)).1 g) e

  pub convex_yes_when : r ≡ Ok 1 ↔ (GivenRoom s ds (Ok tt) × ConvexRoom s ds)
  convex_yes_when = (
    λ e. (let g = counted_good judged (tally w.says) 1 (sym e ∙ w.answer) in ((room-when s ds (Ok tt)).0 g.0, (w.convex g.0).0 (tally_yes w.says g.1))),
    λ g. told true ((w.convex ((room-when s ds (Ok tt)).1 g.0)).1 g.1) g.0,
  )

  pub convex_no_when : r ≡ Ok 0 ↔ (GivenRoom s ds (Ok tt) × (ConvexRoom s ds → ⊥))
  convex_no_when = (
    λ e. (let g = counted_good judged (tally w.says) 0 (sym e ∙ w.answer) in ((room-when s ds (Ok tt)).0 g.0, λ x. true≢false (sym ((w.convex g.0).1 x) ∙ tally_no w.says g.1))),
    λ g. told false (is_false w.says (λ e. g.1 ((w.convex ((room-when s ds (Ok tt)).1 g.0)).0 e))) g.0,
  )

  -- the room of a call that is not refused has digits below 4
  module _ (g : GivenRoom s ds (Ok tt)) where
    digits : Below 4 ds
    digits = (good_steps s ds ((room-when s ds (Ok tt)).1 g)).0

    room : IsRoom s ds
    room = (good_room s ds ((room-when s ds (Ok tt)).1 g)).room

  pub yes_parts_when : r ≡ Ok 1 ↔ (GivenRoom s ds (Ok tt) × ((i : ℕ) → i < 4 → (w : List ℕ) → PartIs i s (clockwise s ds) w → ConvexPart (turned_by i w)))
  yes_parts_when = (
    λ e. (let k = convex_yes_when.0 e in (k.0, (convex_parts s ds (digits k.0) (room k.0)).0 k.1)),
    λ k. convex_yes_when.1 (k.0, (convex_parts s ds (digits k.0) (room k.0)).1 k.1),
  )

  pub no_part_when : r ≡ Ok 0 ↔ (GivenRoom s ds (Ok tt) × ((i : ℕ) × (i < 4) × (w : List ℕ) × PartIs i s (clockwise s ds) w × (ConvexPart (turned_by i w) → ⊥)))
  no_part_when = (
    λ e. (let k = convex_no_when.0 e in (k.0, (some_part s ds (digits k.0) (room k.0)).0 k.1)),
    λ k. convex_no_when.1 (k.0, (some_part s ds (digits k.0) (room k.0)).1 k.1),
  )

  pub yes_centres_when : r ≡ Ok 1 ↔ (GivenRoom s ds (Ok tt) × ((q : Panel) → InHull (Inside s ds) q → Inside s ds q))
  yes_centres_when = (
    λ e. (let k = convex_yes_when.0 e in (k.0, (convex_exactly s ds (digits k.0) (room k.0)).0 k.1)),
    λ k. convex_yes_when.1 (k.0, (convex_exactly s ds (digits k.0) (room k.0)).1 k.1),
  )

  pub no_centres_when : r ≡ Ok 0 ↔ (GivenRoom s ds (Ok tt) × (((q : Panel) → InHull (Inside s ds) q → Inside s ds q) → ⊥))
  no_centres_when = (
    λ e. (let k = convex_no_when.0 e in (k.0, λ f. k.1 ((convex_exactly s ds (digits k.0) (room k.0)).1 f))),
    λ k. convex_no_when.1 (k.0, λ x. k.1 ((convex_exactly s ds (digits k.0) (room k.0)).0 x)),
  )
