-- A room is convex exactly if it holds every panel whose centre lies in the convex hull of its centres.
-- Assumes nothing.
use mathlib.Core.List.{List, ◌++◌, map, append_assoc, Memᴰ}
use mathlib.Core.Logic.{◌↔◌}
use mathlib.Core.Path.{◌≡◌, refl, sym, ap, ap₂, ◌∙◌, subst}
use Prim.Native.Nat.{ℕ}
use native.Mathlib.Omega.{arith}
use lib.IntN.{ℤ, pos, neg_ℤ}
use lib.ListN.{length, length-map}
use lib.Signed.{◌<ℤ◌, ◌≤ℤ◌}
use Rattle.int_laws.proofs.LinearLaws.{zarith, neg_nat}
use Rattle.int_laws.proofs.NextLaws.{bal_pred}
use Rattle.lists.specs.Lists.{Below}
use Rattle.grid.specs.declared.{Corner.Corner, Panel.Panel}
use Rattle.grid.specs.Grid.{corners_from, end_from}
use Rattle.trace.specs.Verdict.{IsRoom, sweep_from}
use Rattle.panels.specs.Inside.{Inside}
use Rattle.panels.specs.Moved.{turned}
use Rattle.area_laws.proofs.ImageLaws.{end_image, turn, sweep_turned}
use Rattle.area_laws.proofs.MovedLaws.{sweep_started}
use Rattle.convex.specs.Centres.{InHull}
use Rattle.convex.specs.Parts.{clockwise, Split}
use Rattle.convex.specs.Convex.{ConvexPart, ConvexRoom}
use Rattle.convex_laws.proofs.CycleLaws.{cut-corner, cut-round, cycle_closed, cycle_room, clockwise-room}
use Rattle.convex_laws.proofs.TravelLaws.{clockwise_sweep}
use Rattle.convex_laws.proofs.TurnLaws.{quarter, image_in, map-append, letters_one, letters_more, letters_four, below_join, below_parts, below_turned}
use Rattle.convex_laws.proofs.SplitLaws.{below_clockwise}
use Rattle.convex_hull_laws.proofs.MeanLaws.{total-same, total-mirrored, all_map, Filled}
use Rattle.convex_hull_laws.proofs.TurnedLaws.{inside_cycle, inside-turned, turned_panel, room-turned}
use Rattle.convex_hull_laws.proofs.FilledLaws.{filled-same, inside-clockwise, filled_convex}
use Rattle.convex_hull_laws.proofs.RingLaws.{Ring, under_one, under_all}

-- ---- four convex parts turned

abbrev round_of : List ℕ → List ℕ → List ℕ → List ℕ → List ℕ
round_of one two three four = one ++ (two ++ (three ++ four))

module _ (a : Corner) (one two three four : List ℕ) (r : Ring a one two three four) where
  abbrev rest : List ℕ
  rest = two ++ (three ++ four)

  abbrev n : Corner
  n = end_from a one

  -- from the second part on, turned
  whole : map turned (rest ++ one) ≡ round_of (map turned two) (map turned three) (map turned four) (map turned one)
  whole =
      ap (map turned) (append_assoc two (three ++ four) one ∙ ap (λ (l : List ℕ). two ++ l) (append_assoc three four one))
      ∙ map-append turned two (three ++ (four ++ one))
      ∙ ap (λ (l : List ℕ). map turned two ++ l) (map-append turned three (four ++ one) ∙ ap (λ (l : List ℕ). map turned three ++ l) (map-append turned four one))

  below_two : Below 4 two × (Below 4 three × Below 4 four)
  below_two = let b = below_parts two (three ++ four) (below_parts one rest r.below).1 in (b.0, below_parts three four b.1)

  below_one : Below 4 one
  below_one = (below_parts one rest r.below).0

  closed : end_from n (rest ++ one) ≡ n
  closed = cycle_closed a one rest r.room.closed

  ring-turned : Ring (quarter n) (map turned two) (map turned three) (map turned four) (map turned one)
  ring-turned = record {
    room = subst (IsRoom (quarter n)) whole (room-turned n (rest ++ one) (cycle_room a one rest r.room.closed r.room));
    below = subst (Below 4) whole (below_turned (rest ++ one));
    sign = subst (λ (z : ℤ). z <ℤ pos 0) (sym (ap (sweep_from (quarter n)) (sym whole) ∙ sweep_turned n (quarter n) (rest ++ one) closed ∙ same)) r.sign;
    first = subst ConvexPart (sym (letters_one two below_two.0)) r.second;
    second = subst ConvexPart (sym (letters_more 1 three below_two.1.0)) r.third;
    third = subst ConvexPart (sym (letters_more 2 four below_two.1.1)) r.fourth;
    fourth = subst ConvexPart (sym (letters_more 3 one below_one ∙ letters_four one below_one)) r.first;
  }
    where
      same : sweep_from n (rest ++ one) ≡ sweep_from a (one ++ rest)
      same = ap₂ sweep_from (sym (cut-corner a (one ++ rest) one rest refl)) (cut-round a (one ++ rest) one rest refl) ∙ sweep_started a (one ++ rest) (length one) r.room.closed

  hull_turned : (q : Panel) → InHull (Inside a (round_of one two three four)) q → InHull (Inside (quarter n) (round_of (map turned two) (map turned three) (map turned four) (map turned one))) (turned_panel q)
  hull_turned q h = record {
    panels = map turned_panel h.panels;
    all = all_map (Inside (quarter n) (round_of (map turned two) (map turned three) (map turned four) (map turned one))) turned_panel h.panels (λ p m. subst (λ (l : List ℕ). Inside (quarter n) l (turned_panel p)) whole ((inside-turned n (rest ++ one) closed p).0 ((inside_cycle a one rest r.room.closed p).0 (h.all p m))));
    mean = record {
      some = omega (arith, h.mean.some, length-map h.panels turned_panel);
      mean_x = total-mirrored turned_panel (λ p. p.0) (λ p. p.1) (λ p. refl) h.panels q h.mean.mean_y;
      mean_y = total-same turned_panel (λ p. p.1) (λ p. p.0) (λ p. refl) h.panels q h.mean.mean_x;
    };
  }

-- a panel in the hull is under the second part, the third and the fourth, each turned back to the first
under-two : (a : Corner) (one two three four : List ℕ) → Ring a one two three four → (q : Panel) → InHull (Inside a (round_of one two three four)) q → (p : Corner) × Memᴰ p (corners_from (end_from a one) two) × (q.0 <ℤ p.0) × (q.1 <ℤ p.1)
under-two a one two three four r q h =
    let u = under_one (quarter (end_from a one)) (map turned two) (map turned three) (map turned four) (map turned one) (ring-turned a one two three four r) (turned_panel q) (hull_turned a one two three four r q h) in
    let o = image_in turn (end_from a one) two u.0 u.1 in
    (o.0, o.1, omega (zarith, u.3, ap (λ (z : Corner). z.1) o.2), omega (zarith, u.2, ap (λ (z : Corner). z.0) o.2, bal_pred (neg_ℤ q.1), (neg_nat q.1).0, (neg_nat q.1).1, (neg_nat o.0.1).0, (neg_nat o.0.1).1))

under-three : (a : Corner) (one two three four : List ℕ) → Ring a one two three four → (q : Panel) → InHull (Inside a (round_of one two three four)) q → (p : Corner) × Memᴰ p (corners_from (end_from (end_from a one) two) three) × (q.0 <ℤ p.0) × (p.1 ≤ℤ q.1)
under-three a one two three four r q h =
    let u = under-two (quarter (end_from a one)) (map turned two) (map turned three) (map turned four) (map turned one) (ring-turned a one two three four r) (turned_panel q) (hull_turned a one two three four r q h) in
    let o = image_in turn (end_from (end_from a one) two) three u.0 (subst (λ (c : Corner). Memᴰ u.0 (corners_from c (map turned three))) (end_image turn (end_from a one) two) u.1) in
    (o.0, o.1, omega (zarith, u.3, ap (λ (z : Corner). z.1) o.2), omega (zarith, u.2, ap (λ (z : Corner). z.0) o.2, bal_pred (neg_ℤ q.1), (neg_nat q.1).0, (neg_nat q.1).1, (neg_nat o.0.1).0, (neg_nat o.0.1).1))

under_four : (a : Corner) (one two three four : List ℕ) → Ring a one two three four → (q : Panel) → InHull (Inside a (round_of one two three four)) q → (p : Corner) × Memᴰ p (corners_from (end_from (end_from (end_from a one) two) three) four) × (p.0 ≤ℤ q.0) × (p.1 ≤ℤ q.1)
under_four a one two three four r q h =
    let u = under-three (quarter (end_from a one)) (map turned two) (map turned three) (map turned four) (map turned one) (ring-turned a one two three four r) (turned_panel q) (hull_turned a one two three four r q h) in
    let z : end_from (end_from (quarter (end_from a one)) (map turned two)) (map turned three) ≡ quarter (end_from (end_from (end_from a one) two) three) = ap (λ (c : Corner). end_from c (map turned three)) (end_image turn (end_from a one) two) ∙ end_image turn (end_from (end_from a one) two) three in
    let o = image_in turn (end_from (end_from (end_from a one) two) three) four u.0 (subst (λ (c : Corner). Memᴰ u.0 (corners_from c (map turned four))) z u.1) in
    (o.0, o.1, omega (zarith, u.3, ap (λ (z : Corner). z.1) o.2), omega (zarith, u.2, ap (λ (z : Corner). z.0) o.2, bal_pred (neg_ℤ q.1), (neg_nat q.1).0, (neg_nat q.1).1, (neg_nat o.0.1).0, (neg_nat o.0.1).1))

ring-filled : (a : Corner) (one two three four : List ℕ) → Ring a one two three four → Filled (Inside a (round_of one two three four))
ring-filled a one two three four r q h =
    let x = under-two a one two three four r q h in
    let y = under-three a one two three four r q h in
    let z = under_four a one two three four r q h in
    under_all a one two three four r q (under_one a one two three four r q h) x.0 x.1 x.2 x.3 y.0 y.1 y.2 y.3 z.0 z.1 z.2 z.3

-- ---- rooms

convex_filled : (c : Corner) (ds : List ℕ) → Below 4 ds → IsRoom c ds → ConvexRoom c ds → Filled (Inside c ds)
convex_filled c ds b r x = filled-same (Inside c t) (Inside c ds) (λ p. ((inside-clockwise c ds r.closed p).1, (inside-clockwise c ds r.closed p).0)) (filled-same (Inside a ws) (Inside c t) back (subst (λ (l : List ℕ). Filled (Inside a l)) (sym s.round) (ring-filled a x.one x.two x.three x.four parts)))
  where
    t : List ℕ
    t = clockwise c ds

    s : Split c t x.one x.two x.three x.four
    s = x.split

    room : IsRoom c t
    room = clockwise-room c ds r

    closed : end_from c (s.before ++ s.after) ≡ c
    closed = ap (end_from c) s.whole ∙ room.closed

    a : Corner
    a = end_from c s.before

    ws : List ℕ
    ws = s.after ++ s.before

    back : (p : Panel) → Inside a ws p ↔ Inside c t p
    back p = let i = subst (λ (l : List ℕ). Inside c l p ↔ Inside a ws p) s.whole (inside_cycle c s.before s.after closed p) in (i.1, i.0)

    parts : Ring a x.one x.two x.three x.four
    parts = record {
      room = subst (IsRoom a) s.round (cycle_room c s.before s.after closed (subst (IsRoom c) (sym s.whole) room));
      below = subst (Below 4) s.round (let p = below_parts s.before s.after (subst (Below 4) (sym s.whole) (below_clockwise c ds b)) in below_join s.after s.before p.1 p.0);
      sign = subst (λ (l : List ℕ). sweep_from a l <ℤ pos 0) s.round (subst (λ (z : ℤ). z <ℤ pos 0) (sym (ap₂ sweep_from (sym (cut-corner c t s.before s.after s.whole)) (cut-round c t s.before s.after s.whole) ∙ sweep_started c t (length s.before) room.closed)) (clockwise_sweep c ds r));
      first = x.first;
      second = x.second;
      third = x.third;
      fourth = x.fourth;
    }

-- a room is convex exactly if it holds every panel whose centre lies in the convex hull of its centres
pub convex_exactly : (c : Corner) (ds : List ℕ) → Below 4 ds → IsRoom c ds → ConvexRoom c ds ↔ ((q : Panel) → InHull (Inside c ds) q → Inside c ds q)
convex_exactly c ds b r = (convex_filled c ds b r, filled_convex c ds b r)
