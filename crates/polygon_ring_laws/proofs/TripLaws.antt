-- What a chain that is read passes, and out and in again.
-- Assumes nothing.
use Rattle.std.specs.Prelude.{Err, Ok}
use mathlib.Core.Path.{◌≡◌, refl, sym, ap, ap₂, ◌∙◌, subst}
use mathlib.Core.Bool.{true, false, not, ◌&&◌}
use mathlib.Core.List.{List, [], ◌∷◌, ◌++◌}
use Prim.Native.Nat.{ℕ, ◌+◌, ◌*◌, ◌-◌, ◌≤◌, ◌<◌}
use native.Mathlib.Omega.{arith}
use borrow.Author.Tests.{ltb-false}
use lib.Dec.{eqb, ltb, leb}
use lib.ListN.{length, take, drop, get_or}
use lib.Seq.{take_at, drop_at}
use Rattle.polygon_ring.specs.Answers.{Given}
use Rattle.answer.specs.Answers.{Judged}
use Rattle.lists.specs.Lists.{any}
use Rattle.lists.proofs.GatherLaws.{and_left, and_right}
use Rattle.answer.specs.Limits.{most_steps}
use Rattle.grid.specs.declared.Corner.{Corner}
use Rattle.grid.specs.Grid.{origin, same, end_from}
use Rattle.grid.proofs.CornerLaws.{same_sound}
use Rattle.trace.specs.Verdict.{IsRoom}
use Rattle.answer.specs.Refusal.{when, or_else}
use Rattle.answer.specs.Listed.{laid_if, counted_of}
use Rattle.room.specs.Room.{as_room_judged}
use Rattle.room.proofs.RoomLaws.{good_room}
use Rattle.answer.proofs.RefusalLaws.{or_else_good}
use Rattle.polygon.specs.Polygon.{polygon_of, polygon_room_judged, polygon_judged, PolygonCall}
use Rattle.polygon_laws.proofs.WriteLaws.{room_drawable}
use Rattle.polygon_ring.specs.Ring.{order_of, is_neither, is_faulty, start_of, later_of, straight_from, length_of, chain_of_points, is_ring, count_given, points_given, ring_of, read_judged, ReadCall}
use Rattle.polygon_laws.specs.Bends.{Drawable, turning}
use Rattle.polygon_ring_laws.specs.Passing.{PassesFrom, RingPassed}
use Rattle.polygon_ring_laws.proofs.RingLaws.{length-steps_from}
use Rattle.polygon_ring_laws.proofs.ReadLaws.{given_fine, judged_by, fine_by}
use Rattle.polygon_ring_laws.proofs.BackLaws.{back_read, back-short}
use Rattle.polygon_ring_laws.proofs.PassLaws.{passes, passes-one, ends_at}
use Rattle.polygon_ring_laws.proofs.RoomLaws.{room-turns}
use Rattle.answer.specs.declared.{Refusal.TheVariants.FileLength, Refusal.TheVariants.FileKind, Refusal.TheVariants.ChainRoom}
use Rattle.polygon_ring.specs.declared.{Found.Found}

clash : ◌≡◌ {A = ℕ} 0 1 → ⊥
clash z = omega arith

-- ---- a chain that is read passes the points of the ring, one straight run to each, and ends at its start; no other chain does

-- what is accepted passes the tests
after-header : (file : List ℕ) (room : ℕ) → read_judged file room ≡ Ok tt → (any is_faulty (points_given file) ≡ false) × (is_ring (ring_of file) ≡ true) × (ltb most_steps (length_of (ring_of file)) ≡ false) × (ltb room (length_of (ring_of file)) ≡ false)
after-header file room j =
    let points = judged_by (any is_faulty (points_given file)) (is_ring (ring_of file)) (ltb most_steps (length_of (ring_of file))) (ltb room (length_of (ring_of file))) in
    let size = when (not (eqb (length file) (13 + 16 * count_given file))) FileLength in
    let kind = when (is_neither (order_of file)) FileKind in
    let k : or_else kind (or_else size points) ≡ Ok tt = (or_else_good (when (ltb (length file) 13) FileLength) (or_else kind (or_else size points)) j).1 in
    fine_by (any is_faulty (points_given file)) (is_ring (ring_of file)) (ltb most_steps (length_of (ring_of file))) (ltb room (length_of (ring_of file))) (or_else_good size points (or_else_good kind (or_else size points) k).1).1

accepted_ring : (file : List ℕ) (room : ℕ) → read_judged file room ≡ Ok tt → is_ring (ring_of file) ≡ true
accepted_ring file room j = (after-header file room j).1

pub read_few : (file : List ℕ) (room : ℕ) → read_judged file room ≡ Ok tt → length_of (ring_of file) ≤ most_steps
read_few file room j = ltb-false most_steps (length_of (ring_of file)) (after-header file room j).2

ring_line : (ps : List Corner) → is_ring ps ≡ true → straight_from (start_of ps) (later_of ps) ≡ true
ring_line ps e = and_right (leb 4 (length ps) && same (get_or ps (length ps - 1) origin) (start_of ps)) (straight_from (start_of ps) (later_of ps)) e

ring_home : (ps : List Corner) → is_ring ps ≡ true → end_from (start_of ps) (chain_of_points ps) ≡ start_of ps
ring_home [] e = refl
ring_home (a ∷ cs) e =
    ends_at a cs (ring_line (a ∷ cs) e)
    ∙ same_sound (get_or (a ∷ cs) (length (a ∷ cs) - 1) origin) a
    (and_right (leb 4 (length (a ∷ cs))) (same (get_or (a ∷ cs) (length (a ∷ cs) - 1) origin) a) (and_left (leb 4 (length (a ∷ cs)) && same (get_or (a ∷ cs) (length (a ∷ cs) - 1) origin) a) (straight_from a cs) e))

pub read_follows : (file out : List ℕ) (f : Found) (out' : List ℕ) → ReadCall file out (Ok f) out' → RingPassed file out f out'
read_follows file out f out' c =
    let ps = ring_of file in
    let w = given_fine (read_judged file (length out)) ps f (sym c.answer) in
    let ring = accepted_ring file (length out) w.0 in
    let start : f.start ≡ start_of ps = ap (λ (g : Found). g.start) w.1 in
    let long : length (chain_of_points ps) ≡ f.steps = length-steps_from (start_of ps) (later_of ps) ∙ sym (ap (λ (g : Found). g.steps) w.1) in
    let b : out' ≡ chain_of_points ps ++ drop (length (chain_of_points ps)) out = c.buffer ∙ ap (λ (j : Judged). laid_if j (chain_of_points ps) out) w.0 in
    let head : take f.steps out' ≡ chain_of_points ps = ap (take f.steps) b ∙ take_at (chain_of_points ps) (drop (length (chain_of_points ps)) out) f.steps long in
    record {
      first = start;
      points = subst (λ (l : List ℕ). PassesFrom f.start (later_of ps) l) (sym head) (subst (λ (a : Corner). PassesFrom a (later_of ps) (chain_of_points ps)) (sym start) (passes (start_of ps) (later_of ps) (ring_line ps ring)));
      only = λ ds p. passes-one (start_of ps) (later_of ps) ds (subst (λ (a : Corner). PassesFrom a (later_of ps) ds) start p) ∙ sym head;
      home = ap₂ end_from start head ∙ ring_home ps ring ∙ sym start;
      after = ap (drop f.steps) b ∙ drop_at (chain_of_points ps) (drop (length (chain_of_points ps)) out) f.steps long ∙ ap (λ (n : ℕ). drop n out) long;
    }

-- ---- out and in again

count_many : (j : Judged) (n k : ℕ) → Ok k ≡ counted_of j n → (j ≡ Ok tt) × (k ≡ n)
count_many (Ok _) n k e = (refl, cc)
count_many (Err r) n k e = let z : ◌≡◌ {A = ℕ} 0 1 = cc in absurd (clash z)

-- what was written is the polygon of a room that can be drawn
record Wrote (s : Corner) (ds : List ℕ) (n : ℕ) (out' : List ℕ) : Type 0 where
  file : take n out' ≡ polygon_of s ds
  drawn : Drawable s ds
  room : IsRoom s ds

wrote : (s : Corner) (ds out : List ℕ) (n : ℕ) (out' : List ℕ) → PolygonCall s ds out (Ok n) out' → Wrote s ds n out'
wrote s ds out n out' c =
    let w = count_many (polygon_judged s ds (length out)) (length (polygon_of s ds)) n c.answer in
    let g = (or_else_good (as_room_judged s ds) (or_else (polygon_room_judged s ds (length out)) (Ok tt)) w.0).0 in
    let b : out' ≡ polygon_of s ds ++ drop n out =
    c.buffer ∙ ap (λ (j : Judged). laid_if j (polygon_of s ds) out) w.0 ∙ ap (λ (k : ℕ). polygon_of s ds ++ drop k out) (sym w.1) in
    record {
      file = ap (take n) b ∙ take_at (polygon_of s ds) (drop n out) n (sym w.1);
      drawn = room_drawable s ds (as_room_judged s ds) refl g;
      room = (good_room s ds g).room;
    }

module _ (s : Corner) (ds out : List ℕ) (n : ℕ) (out' chain : List ℕ) (r : Given) (chain' : List ℕ) (w : PolygonCall s ds out (Ok n) out') (c : ReadCall (take n out') chain r chain') where
  v : Wrote s ds n out'
  v = wrote s ds out n out' w

  turns : 2 ≤ turning ds
  turns = room-turns s ds v.drawn.digits v.room

  again : ReadCall (polygon_of s ds) chain r chain'
  again = subst (λ (l : List ℕ). ReadCall l chain r chain') v.file c

  -- reading what was written gives back start and chain
  pub round_trip : length ds ≤ length chain → (r ≡ Ok (record { start = s; steps = length ds })) × (chain' ≡ ds ++ drop (length ds) chain)
  round_trip h = back_read s ds v.drawn v.room.closed turns chain r chain' h again

  -- with a shorter chain buffer it is refused 18
  pub round_trip_short : length chain < length ds → (r ≡ Err ChainRoom) × (chain' ≡ chain)
  round_trip_short h = back-short s ds v.drawn v.room.closed turns chain r chain' h again
