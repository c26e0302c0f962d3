-- A room that holds every panel whose centre lies in the convex hull of its centres is convex: its first part is, and the others are after turns.
-- Assumes nothing.
use mathlib.Core.Bool.{Bool, true, false, cond}
use mathlib.Core.List.{List, ◌++◌, map}
use mathlib.Core.Logic.{◌↔◌}
use mathlib.Core.Path.{◌≡◌, refl, sym, ap, ap₂, ◌∙◌, subst}
use Prim.Native.Nat.{ℕ, zero, suc, ◌+◌, ◌%◌, ◌<◌}
use native.Mathlib.Omega.{arith}
use lib.IntN.{ℤ, pos, pred_ℤ, neg_ℤ}
use lib.ListN.{length, length-map}
use lib.Signed.{lt_z, ◌<ℤ◌}
use Rattle.int_laws.proofs.LinearLaws.{zarith, neg_nat}
use Rattle.int_laws.proofs.NextLaws.{bal_pred}
use Rattle.lists.specs.Lists.{Below}
use Rattle.grid.specs.declared.{Corner.Corner, Panel.Panel}
use Rattle.grid.specs.Grid.{corner, panel_at, end_from}
use Rattle.grid.proofs.StepLaws.{end_from-append}
use Rattle.trace.specs.Verdict.{IsRoom, sweep_from}
use Rattle.trace.proofs.VerdictLaws.{area_room}
use Rattle.panels.specs.Inside.{Inside, InsideRight}
use Rattle.panels.specs.Moved.{turned, backward}
use Rattle.area_laws.proofs.ImageLaws.{end_image, turn, sweep_turned}
use Rattle.area_laws.proofs.MovedLaws.{sweep_started}
use Rattle.room_laws.proofs.RoomLaws.{room_sign}
use Rattle.convex.specs.Parts.{turned_by, clockwise, ComesFirst, Extremal, PartIs}
use Rattle.convex.specs.Convex.{ConvexPart, ConvexRoom}
use Rattle.convex_laws.proofs.CycleLaws.{cut-corner, cut-round, cycle_room, clockwise-room}
use Rattle.convex_laws.proofs.TravelLaws.{extremal_cycle, clockwise_sweep}
use Rattle.convex_laws.proofs.TurnLaws.{quarter, image_extremal, map-append, north-turned, east-turned, south_turned, west_turned, letters_more, below_join, below_parts, below_turned}
use Rattle.convex_laws.proofs.SplitLaws.{turned_none, below_clockwise, convex_parts}
use Rattle.convex_hull_laws.proofs.MeanLaws.{total-same, total-mirrored, all_map, Filled}
use Rattle.convex_hull_laws.proofs.LineLaws.{first_convex}
use Rattle.convex_hull_laws.proofs.TurnedLaws.{inside_cycle, inside-backward, inside-turned, turned_panel, room-turned}

-- ---- sets of panels

pub filled-same : (S T : Panel → Type 0) → ((p : Panel) → S p ↔ T p) → Filled S → Filled T
filled-same S T e f q h = (e q).0 (f q (record { panels = h.panels; all = λ p m. (e p).1 (h.all p m); mean = h.mean }))

-- the panel that is turned to p
abbrev unturned : Panel → Panel
unturned p = panel_at (corner p.1 (pred_ℤ (neg_ℤ p.0)))

turned-unturned : (p : Panel) → turned_panel (unturned p) ≡ p
turned-unturned p = ap (λ (x : ℤ). panel_at (corner x p.1)) (over p.0)
  where
    over : (x : ℤ) → pred_ℤ (neg_ℤ (pred_ℤ (neg_ℤ x))) ≡ x
    over x = omega (zarith, bal_pred (neg_ℤ x), bal_pred (neg_ℤ (pred_ℤ (neg_ℤ x))), (neg_nat x).0, (neg_nat x).1, (neg_nat (pred_ℤ (neg_ℤ x))).0, (neg_nat (pred_ℤ (neg_ℤ x))).1)

filled-turned : (c : Corner) (ds : List ℕ) → end_from c ds ≡ c → Filled (Inside c ds) → Filled (Inside (quarter c) (map turned ds))
filled-turned c ds closed f q h = subst (Inside (quarter c) (map turned ds)) (turned-unturned q) ((inside-turned c ds closed (unturned q)).0 (f (unturned q) (record {
  panels = map unturned h.panels;
  all = all_map (Inside c ds) unturned h.panels (λ p m. (inside-turned c ds closed (unturned p)).1 (subst (Inside (quarter c) (map turned ds)) (sym (turned-unturned p)) (h.all p m)));
  mean = record {
    some = omega (arith, h.mean.some, length-map h.panels unturned);
    mean_x = total-same unturned (λ p. p.0) (λ p. p.1) (λ p. refl) h.panels q h.mean.mean_y;
    mean_y = total-mirrored unturned (λ p. p.1) (λ p. p.0) (λ p. refl) h.panels q h.mean.mean_x;
  };
})))

-- ---- parts

-- a part turned
part_turned : (i j : ℕ) → ((a b : Corner) → ComesFirst j a b → ComesFirst i (quarter a) (quarter b)) → ((a b : Corner) → ComesFirst ((j + 1) % 4) a b → ComesFirst ((i + 1) % 4) (quarter a) (quarter b)) → (c : Corner) (t w : List ℕ) → PartIs j c t w → PartIs i (quarter c) (map turned t) (map turned w)
part_turned i j f g c t w p = record {
  before = map turned p.before;
  after = map turned p.after;
  rest = map turned p.rest;
  whole = sym (map-append turned p.before p.after) ∙ ap (map turned) p.whole;
  round = sym (map-append turned p.after p.before) ∙ ap (map turned) p.round ∙ map-append turned w p.rest;
  more = omega (arith, p.more, length-map p.rest turned);
  begins = subst (Extremal (ComesFirst i) (quarter c) (map turned t)) (sym (end_image turn c p.before)) (image_extremal turn (ComesFirst j) (ComesFirst i) f c t (end_from c p.before) p.begins);
  ends = subst (Extremal (ComesFirst ((i + 1) % 4)) (quarter c) (map turned t)) (sym (ap (end_from (quarter c)) (sym (map-append turned p.before w)) ∙ end_image turn c (p.before ++ w))) (image_extremal turn (ComesFirst ((j + 1) % 4)) (ComesFirst ((i + 1) % 4)) g c t (end_from c (p.before ++ w)) p.ends);
}

-- a room that is travelled clockwise, with all its panels
record Travelled (c : Corner) (t : List ℕ) : Type 0 where
  room : IsRoom c t
  below : Below 4 t
  sign : sweep_from c t <ℤ pos 0
  filled : Filled (Inside c t)

first_part : (c : Corner) (t w : List ℕ) → Travelled c t → PartIs 0 c t w → ConvexPart (turned_by 0 w)
first_part c t w h p = subst ConvexPart (sym (turned_none w (below_parts w p.rest (subst (Below 4) p.round below)).0)) (first_convex a ws room below right filled w p.rest (sym p.round) p.more west north)
  where
    u : List ℕ
    u = p.before

    x : List ℕ
    x = p.after

    closed : end_from c (u ++ x) ≡ c
    closed = ap (end_from c) p.whole ∙ h.room.closed

    a : Corner
    a = end_from c u

    ws : List ℕ
    ws = x ++ u

    room : IsRoom a ws
    room = cycle_room c u x closed (subst (IsRoom c) (sym p.whole) h.room)

    below : Below 4 ws
    below = let b = below_parts u x (subst (Below 4) (sym p.whole) h.below) in below_join x u b.1 b.0

    right : InsideRight a ws
    right = (room_sign a ws room).1.0 (subst (λ (z : ℤ). z <ℤ pos 0) (sym (area_room a ws room ∙ same)) h.sign)
      where
        same : sweep_from a ws ≡ sweep_from c t
        same = ap₂ sweep_from (sym (cut-corner c t u x p.whole)) (cut-round c t u x p.whole) ∙ sweep_started c t (length u) h.room.closed

    filled : Filled (Inside a ws)
    filled = filled-same (Inside c t) (Inside a ws) (λ q. subst (λ (l : List ℕ). Inside c l q ↔ Inside a ws q) p.whole (inside_cycle c u x closed q)) h.filled

    from : (R : Corner → Corner → Type 0) (q : Corner) → Extremal R c t q → Extremal R a ws q
    from R q f = extremal_cycle c u x closed R q (subst (λ (l : List ℕ). Extremal R c l q) (sym p.whole) f)

    west : Extremal (ComesFirst 0) a ws a
    west = from (ComesFirst 0) a p.begins

    north : Extremal (ComesFirst 1) a ws (end_from a w)
    north = from (ComesFirst 1) (end_from a w) (subst (Extremal (ComesFirst 1) c t) (end_from-append c u w) p.ends)

travelled-turned : (c : Corner) (t : List ℕ) → Travelled c t → Travelled (quarter c) (map turned t)
travelled-turned c t h = record {
  room = room-turned c t h.room;
  below = below_turned t;
  sign = subst (λ (z : ℤ). z <ℤ pos 0) (sym (sweep_turned c (quarter c) t h.room.closed)) h.sign;
  filled = filled-turned c t h.room.closed h.filled;
}

-- the letters of a part of the turned room
turn_back : (i : ℕ) (c : Corner) (t w : List ℕ) → Travelled c t → PartIs (suc i) c t w → ConvexPart (turned_by i (map turned w)) → ConvexPart (turned_by (suc i) w)
turn_back i c t w h p x = subst ConvexPart (letters_more i w letters ∙ ap (λ (n : ℕ). turned_by n w) one_more) x
  where
    one_more : 1 + i ≡ suc i
    one_more = omega arith

    letters : Below 4 w
    letters = let b = below_parts p.before p.after (subst (Below 4) (sym p.whole) h.below) in (below_parts w p.rest (subst (Below 4) p.round (below_join p.after p.before b.1 b.0))).0

-- each part of every room is convex if the part before it is
abbrev Part : ℕ → Type 0
Part i = (c : Corner) (t w : List ℕ) → Travelled c t → PartIs i c t w → ConvexPart (turned_by i w)

part_after : (i : ℕ) → ((a b : Corner) → ComesFirst (suc i) a b → ComesFirst i (quarter a) (quarter b)) → ((a b : Corner) → ComesFirst ((suc i + 1) % 4) a b → ComesFirst ((i + 1) % 4) (quarter a) (quarter b)) → Part i → Part (suc i)
part_after i f g x c t w h p = turn_back i c t w h p (x (quarter c) (map turned t) (map turned w) (travelled-turned c t h) (part_turned i (suc i) f g c t w p))

second_part : Part 1
second_part = part_after 0 north-turned east-turned first_part

third_part : Part 2
third_part = part_after 1 east-turned south_turned second_part

fourth_part : Part 3
fourth_part = part_after 2 south_turned west_turned third_part

each_part : (i : ℕ) → i < 4 → Part i
each_part zero l = first_part
each_part (suc zero) l = second_part
each_part (suc (suc zero)) l = third_part
each_part (suc (suc (suc zero))) l = fourth_part
each_part (suc (suc (suc (suc i)))) l = absurd (omega arith)

-- the panels inside do not depend on the way round
pub inside-clockwise : (c : Corner) (ds : List ℕ) → end_from c ds ≡ c → (p : Panel) → Inside c ds p ↔ Inside c (clockwise c ds) p
inside-clockwise c ds closed p = go (lt_z (pos 0) (sweep_from c ds))
  where
    go : (b : Bool) → Inside c ds p ↔ Inside c (cond b (backward ds) ds) p
    go true = inside-backward c ds closed p
    go false = (λ i. i, λ i. i)

-- a room that holds every panel whose centre lies in the convex hull of its centres is convex
pub filled_convex : (c : Corner) (ds : List ℕ) → Below 4 ds → IsRoom c ds → Filled (Inside c ds) → ConvexRoom c ds
filled_convex c ds b r f = (convex_parts c ds b r).1 (λ i l w p. each_part i l c (clockwise c ds) w (record {
  room = clockwise-room c ds r;
  below = below_clockwise c ds b;
  sign = clockwise_sweep c ds r;
  filled = filled-same (Inside c ds) (Inside c (clockwise c ds)) (inside-clockwise c ds r.closed) f;
}) p)
