-- The decision on a room is right.
-- Assumes nothing.
use mathlib.Core.Path.{◌≡◌, refl, sym, ap, ◌∙◌, subst}
use mathlib.Core.Bool.{Bool, true, false, cond, ◌&&◌}
use mathlib.Core.List.{List, ◌++◌, Memᴰ, append_assoc}
use mathlib.Core.Logic.{◌↔◌}
use Prim.Native.Nat.{ℕ, ◌+◌, ◌-◌, ◌≤◌}
use native.Mathlib.Omega.{arith}
use borrow.Author.Tests.{leb-true, le-leb}
use lib.Dec.{leb}
use lib.IntN.{pos}
use lib.Signed.{lt_z}
use lib.ListN.{length, take, drop, length-append, take-append-drop}
use lib.Seq.{take_at, drop_at, take-add, drop-drop}
use Rattle.area_laws.proofs.MovedLaws.{length-backward}
use Rattle.grid.specs.declared.Corner.{Corner}
use Rattle.grid.specs.Grid.{corners_from, end_from, corner_at}
use Rattle.grid.proofs.StepLaws.{end_from-append}
use Rattle.trace.specs.Verdict.{IsRoom, sweep_from}
use Rattle.column_laws.specs.Columns.{middle}
use Rattle.panels.specs.Moved.{started_at, backward}
use Rattle.convex.specs.Parts.{turned_by, clockwise, LowestLeft, LeftmostTop, HighestRight, RightmostBottom, Extremal, Split}
use Rattle.convex.specs.Convex.{ConvexPart, ConvexRoom, ConvexIs}
use Rattle.convex_laws.specs.Level.{convex_part}
use Rattle.convex_laws.specs.Place.{place_of}
use Rattle.convex_laws.specs.Decide.{convex_at, convex_from, convex_round, convex_of}
use Rattle.convex_laws.proofs.LevelLaws.{both, two}
use Rattle.convex_laws.proofs.PartLaws.{convex_part_exactly}
use Rattle.convex_laws.proofs.CycleLaws.{cut_in, way_one, cycle_in, in_cycle, cycle_room, clockwise-room}
use Rattle.convex_laws.proofs.PlaceLaws.{Found, west_anti, north_anti, east_anti, south_anti, place_of-found}
use Rattle.convex_laws.proofs.WestLaws.{north_other, east_other, south_other, one_place}

-- a room that begins at its first extremal corner, cut at the other three, with each part convex
pub record Cut (c : Corner) (ds : List ℕ) : Type 0 where
  pub one : List ℕ
  pub two' : List ℕ
  pub three : List ℕ
  pub four : List ℕ
  pub whole : ds ≡ one ++ (two' ++ (three ++ four))
  pub north : Extremal LeftmostTop c ds (end_from c one)
  pub east : Extremal HighestRight c ds (end_from c (one ++ two'))
  pub south : Extremal RightmostBottom c ds (end_from c (one ++ (two' ++ three)))
  pub first : ConvexPart one
  pub second : ConvexPart (turned_by 1 two')
  pub third : ConvexPart (turned_by 2 three)
  pub fourth : ConvexPart (turned_by 3 four)

-- four parts by three places
module _ (ds : List ℕ) (j k l : ℕ) (h : j ≤ k) (g : k ≤ l) where
  two_parts : take j ds ++ take (k - j) (drop j ds) ≡ take k ds
  two_parts = sym (take-add j (k - j) ds) ∙ ap (λ (n : ℕ). take n ds) over
    where
      over : j + (k - j) ≡ k
      over = omega arith

  rest_parts : take (l - k) (drop k ds) ++ drop l ds ≡ drop k ds
  rest_parts = ap (λ (s : List ℕ). take (l - k) (drop k ds) ++ s) (ap (λ (n : ℕ). drop n ds) over ∙ sym (drop-drop (l - k) k ds)) ∙ take-append-drop (l - k) (drop k ds)
    where
      over : l ≡ k + (l - k)
      over = omega arith

  three_parts : take j ds ++ (take (k - j) (drop j ds) ++ take (l - k) (drop k ds)) ≡ take l ds
  three_parts =
      sym (append_assoc (take j ds) (take (k - j) (drop j ds)) (take (l - k) (drop k ds)))
      ∙ ap (λ (s : List ℕ). s ++ take (l - k) (drop k ds)) two_parts
      ∙ sym (take-add k (l - k) ds) ∙ ap (λ (n : ℕ). take n ds) over
    where
      over : k + (l - k) ≡ l
      over = omega arith

  all_parts : ds ≡ take j ds ++ (take (k - j) (drop j ds) ++ (take (l - k) (drop k ds) ++ drop l ds))
  all_parts = sym (
      ap (λ (s : List ℕ). take j ds ++ (take (k - j) (drop j ds) ++ s)) rest_parts
      ∙ sym (append_assoc (take j ds) (take (k - j) (drop j ds)) (drop k ds))
      ∙ ap (λ (s : List ℕ). s ++ drop k ds) two_parts
      ∙ take-append-drop k ds)

-- three places by four parts
module _ (p q r s : List ℕ) (j k l : ℕ) (ej : j ≡ length p) (ek : k ≡ length (p ++ q)) (el : l ≡ length (p ++ (q ++ r))) where
  first_part : take j (p ++ (q ++ (r ++ s))) ≡ p
  first_part = take_at p (q ++ (r ++ s)) j (sym ej)

  second_part : take (k - j) (drop j (p ++ (q ++ (r ++ s)))) ≡ q
  second_part = ap (take (k - j)) (drop_at p (q ++ (r ++ s)) j (sym ej)) ∙ take_at q (r ++ s) (k - j) (omega (arith, length-append p q))

  third_part : take (l - k) (drop k (p ++ (q ++ (r ++ s)))) ≡ r
  third_part =
      ap (λ (x : List ℕ). take (l - k) (drop k x)) (sym (append_assoc p q (r ++ s)))
      ∙ ap (take (l - k)) (drop_at (p ++ q) (r ++ s) k (sym ek))
      ∙ take_at r s (l - k) (omega (arith, length-append p q, length-append p (q ++ r), length-append q r))

  fourth_part : drop l (p ++ (q ++ (r ++ s))) ≡ s
  fourth_part = ap (drop l) (ap (λ (x : List ℕ). p ++ x) (sym (append_assoc q r s)) ∙ sym (append_assoc p (q ++ r) s)) ∙ drop_at (p ++ (q ++ r)) s l (sym el)

-- the places j, k and l are in order, and each part between them is convex
pub record InOrder (ds : List ℕ) (j k l : ℕ) : Type 0 where
  pub to-east : j ≤ k
  pub to_south : k ≤ l
  pub first : ConvexPart (take j ds)
  pub second : ConvexPart (turned_by 1 (take (k - j) (drop j ds)))
  pub third : ConvexPart (turned_by 2 (take (l - k) (drop k ds)))
  pub fourth : ConvexPart (turned_by 3 (drop l ds))

-- that is what is decided
order_exactly : (ds : List ℕ) (j k l : ℕ) → (convex_at j k l ds ≡ true) ↔ InOrder ds j k l
unfolding convex_at
order_exactly ds j k l = (there, back)
  where
    p : List ℕ
    p = take j ds

    q : List ℕ
    q = turned_by 1 (take (k - j) (drop j ds))

    r : List ℕ
    r = turned_by 2 (take (l - k) (drop k ds))

    s : List ℕ
    s = turned_by 3 (drop l ds)

    there : ((leb j k && leb k l) && ((convex_part p && convex_part q) && (convex_part r && convex_part s))) ≡ true → InOrder ds j k l
    there t =
        let a = both (leb j k && leb k l) ((convex_part p && convex_part q) && (convex_part r && convex_part s)) t in
        let o = both (leb j k) (leb k l) a.0 in
        let b = both (convex_part p && convex_part q) (convex_part r && convex_part s) a.1 in
        let x = both (convex_part p) (convex_part q) b.0 in
        let y = both (convex_part r) (convex_part s) b.1 in
        record { to-east = leb-true j k o.0; to_south = leb-true k l o.1; first = (convex_part_exactly p).0 x.0; second = (convex_part_exactly q).0 x.1; third = (convex_part_exactly r).0 y.0; fourth = (convex_part_exactly s).0 y.1 }

    back : InOrder ds j k l → ((leb j k && leb k l) && ((convex_part p && convex_part q) && (convex_part r && convex_part s))) ≡ true
    back o = two (two (le-leb j k o.to-east) (le-leb k l o.to_south)) (two (two ((convex_part_exactly p).1 o.first) ((convex_part_exactly q).1 o.second)) (two ((convex_part_exactly r).1 o.third) ((convex_part_exactly s).1 o.fourth)))

module _ (c : Corner) (ds : List ℕ) (j k l : ℕ) (fj : Found LeftmostTop c ds j) (fk : Found HighestRight c ds k) (fl : Found RightmostBottom c ds l) where
  pub order_cut : InOrder ds j k l → Cut c ds
  order_cut o = record {
    one = take j ds;
    two' = take (k - j) (drop j ds);
    three = take (l - k) (drop k ds);
    four = drop l ds;
    whole = all_parts ds j k l o.to-east o.to_south;
    north = fj.first;
    east = subst (λ (s : List ℕ). Extremal HighestRight c ds (end_from c s)) (sym (two_parts ds j k l o.to-east o.to_south)) fk.first;
    south = subst (λ (s : List ℕ). Extremal RightmostBottom c ds (end_from c s)) (sym (three_parts ds j k l o.to-east o.to_south)) fl.first;
    first = o.first;
    second = o.second;
    third = o.third;
    fourth = o.fourth;
  }

  module _ (room : IsRoom c ds) (west : Extremal LowestLeft c ds c) where
    pub cut_order : Cut c ds → InOrder ds j k l
    cut_order t = record {
      to-east = omega (arith, ej, ek, length-append p q);
      to_south = omega (arith, ek, el, length-append p q, length-append p (q ++ r), length-append q r);
      first = subst ConvexPart (sym (ap (take j) w ∙ first_part p q r s j k l ej ek el)) t.first;
      second = turned 1 q (take (k - j) (drop j ds)) (ap (λ (x : List ℕ). take (k - j) (drop j x)) w ∙ second_part p q r s j k l ej ek el) t.second;
      third = turned 2 r (take (l - k) (drop k ds)) (ap (λ (x : List ℕ). take (l - k) (drop k x)) w ∙ third_part p q r s j k l ej ek el) t.third;
      fourth = turned 3 s (drop l ds) (ap (drop l) w ∙ fourth_part p q r s j k l ej ek el) t.fourth;
    }
      where
        p : List ℕ
        p = t.one

        q : List ℕ
        q = t.two'

        r : List ℕ
        r = t.three

        s : List ℕ
        s = t.four

        w : ds ≡ p ++ (q ++ (r ++ s))
        w = t.whole

        turned : (i : ℕ) (x y : List ℕ) → y ≡ x → ConvexPart (turned_by i x) → ConvexPart (turned_by i y)
        turned i x y e h = subst (λ (z : List ℕ). ConvexPart (turned_by i z)) (sym e) h

        -- the place where a first part of the walk ends
        place : (x y : List ℕ) → ds ≡ x ++ y → (R : Corner → Corner → Type 0) → Extremal R c ds (end_from c x) → (length x ≤ length ds) × Extremal R c ds (corner_at c ds (length x))
        place x y e R h = (omega (arith, ap length e, length-append x y), subst (λ (z : List ℕ). Extremal R c ds (end_from c z)) (sym (ap (take (length x)) e ∙ take_at x y (length x) refl)) h)

        ej : j ≡ length p
        ej = let z = place p (q ++ (r ++ s)) w LeftmostTop t.north in one_place c ds room west LeftmostTop north_anti (north_other c ds room west) j (length p) fj.within z.0 fj.first z.1

        ek : k ≡ length (p ++ q)
        ek = let z = place (p ++ q) (r ++ s) (w ∙ sym (append_assoc p q (r ++ s))) HighestRight t.east in one_place c ds room west HighestRight east_anti (east_other c ds room west) k (length (p ++ q)) fk.within z.0 fk.first z.1

        el : l ≡ length (p ++ (q ++ r))
        el = let z = place (p ++ (q ++ r)) s (w ∙ ap (λ (x : List ℕ). p ++ x) (sym (append_assoc q r s)) ∙ sym (append_assoc p (q ++ r) s)) RightmostBottom t.south in one_place c ds room west RightmostBottom south_anti (south_other c ds room west) l (length (p ++ (q ++ r))) fl.within z.0 fl.first z.1

pub length_started : (m : ℕ) (ds : List ℕ) → length (started_at m ds) ≡ length ds
length_started m ds = omega (arith, length-append (drop m ds) (take m ds), length-append (take m ds) (drop m ds), ap length (take-append-drop m ds))

-- the same cut of the walk from any corner of the room
module _ (c : Corner) (ds : List ℕ) (room : IsRoom c ds) (m : ℕ) (found : Found LowestLeft c ds m) where
  abbrev u : List ℕ
  u = take m ds

  abbrev v : List ℕ
  v = drop m ds

  joined : u ++ v ≡ ds
  joined = take-append-drop m ds

  closed : end_from c (u ++ v) ≡ c
  closed = ap (end_from c) joined ∙ room.closed

  pub round_room : IsRoom (end_from c u) (v ++ u)
  round_room = cycle_room c u v closed (subst (IsRoom c) (sym joined) room)

  to-round : (R : Corner → Corner → Type 0) (q : Corner) → Extremal R c ds q → Extremal R (end_from c u) (v ++ u) q
  to-round R q f p i = f p (subst (λ (s : List ℕ). Memᴰ p (corners_from c s)) joined (cycle_in c u v closed p i))

  from-round : (R : Corner → Corner → Type 0) (q : Corner) → Extremal R (end_from c u) (v ++ u) q → Extremal R c ds q
  from-round R q f p i = f p (in_cycle c u v closed p (subst (λ (s : List ℕ). Memᴰ p (corners_from c s)) (sym joined) i))

  pub round_west : Extremal LowestLeft (end_from c u) (v ++ u) (end_from c u)
  round_west = to-round LowestLeft (end_from c u) found.first

  -- along the walk from c
  along : (R : Corner → Corner → Type 0) (s : List ℕ) → Extremal R (end_from c u) (v ++ u) (end_from (end_from c u) s) → Extremal R c ds (end_from c (u ++ s))
  along R s f = subst (Extremal R c ds) (sym (end_from-append c u s)) (from-round R (end_from (end_from c u) s) f)

  pub cut_split : (t : Cut (end_from c u) (v ++ u)) → Split c ds t.one t.two' t.three t.four
  cut_split t = record {
    before = u;
    after = v;
    whole = joined;
    round = t.whole;
    west = found.first;
    north = along LeftmostTop t.one t.north;
    east = along HighestRight (t.one ++ t.two') t.east;
    south = along RightmostBottom (t.one ++ (t.two' ++ t.three)) t.south;
  }

  -- there is one way round
  same_way : (b a : List ℕ) → b ++ a ≡ ds → Extremal LowestLeft c ds (end_from c b) → (end_from c b ≡ end_from c u) × (a ++ b ≡ v ++ u)
  same_way b a w f = (here, way_one c ds room b a u v w joined here)
    where
      here : end_from c b ≡ end_from c u
      here = west_anti (end_from c b) (end_from c u) (f (end_from c u) (cut_in c ds u v joined)) (found.first (end_from c b) (cut_in c ds b a w))

  pub split_cut : (p q r s : List ℕ) → Split c ds p q r s → ConvexPart p → ConvexPart (turned_by 1 q) → ConvexPart (turned_by 2 r) → ConvexPart (turned_by 3 s) → Cut (end_from c u) (v ++ u)
  split_cut p q r s t first second third fourth = record {
    one = p;
    two' = q;
    three = r;
    four = s;
    whole = sym way.1 ∙ t.round;
    north = there LeftmostTop p t.north;
    east = there HighestRight (p ++ q) t.east;
    south = there RightmostBottom (p ++ (q ++ r)) t.south;
    first = first;
    second = second;
    third = third;
    fourth = fourth;
  }
    where
      way : (end_from c t.before ≡ end_from c u) × (t.after ++ t.before ≡ v ++ u)
      way = same_way t.before t.after t.whole t.west

      there : (R : Corner → Corner → Type 0) (x : List ℕ) → Extremal R c ds (end_from c (t.before ++ x)) → Extremal R (end_from c u) (v ++ u) (end_from (end_from c u) x)
      there R x f = to-round R (end_from (end_from c u) x) (subst (Extremal R c ds) (end_from-append c t.before x ∙ ap (λ (z : Corner). end_from z x) way.0) f)

  -- the decision on the walk from its first extremal corner
  round-cut : (j k l : ℕ) → Found LeftmostTop (end_from c u) (v ++ u) j → Found HighestRight (end_from c u) (v ++ u) k → Found RightmostBottom (end_from c u) (v ++ u) l → (convex_at j k l (v ++ u) ≡ true) ↔ Cut (end_from c u) (v ++ u)
  round-cut j k l fj fk fl =
      let o = order_exactly (v ++ u) j k l in
      (λ e. order_cut (end_from c u) (v ++ u) j k l fj fk fl (o.0 e), λ t. o.1 (cut_order (end_from c u) (v ++ u) j k l fj fk fl round_room round_west t))

length-clockwise : (c : Corner) (ds : List ℕ) → length (clockwise c ds) ≡ length ds
length-clockwise c ds = go (lt_z (pos 0) (sweep_from c ds))
  where
    go : (t : Bool) → length (cond t (backward ds) ds) ≡ length ds
    go true = length-backward ds
    go false = refl

-- the decision on a room gives its answer
pub convex_of_exactly : (c : Corner) (ds : List ℕ) → IsRoom c ds → length ds ≤ middle → ConvexIs c ds (convex_of c ds)
unfolding convex_of convex_round convex_from
convex_of_exactly c ds r short = (there, back)
  where
    t : List ℕ
    t = clockwise c ds

    room : IsRoom c t
    room = clockwise-room c ds r

    near : length t ≤ middle
    near = omega (arith, short, length-clockwise c ds)

    m : ℕ
    m = place_of 0 t

    found : Found LowestLeft c t m
    found = place_of-found 0 t near c

    w : List ℕ
    w = started_at m t

    few : length w ≤ middle
    few = omega (arith, near, length_started m t)

    p : Corner
    p = corner_at c t m

    cut : (convex_from w ≡ true) ↔ Cut p w
    cut = round-cut c t room m found (place_of 1 w) (place_of 2 w) (place_of 3 w) (place_of-found 1 w few p) (place_of-found 2 w few p) (place_of-found 3 w few p)

    there : convex_from w ≡ true → ConvexRoom c ds
    there e =
        let x = cut.0 e in
        record { one = x.one; two = x.two'; three = x.three; four = x.four; split = cut_split c t room m found x; first = x.first; second = x.second; third = x.third; fourth = x.fourth }

    back : ConvexRoom c ds → convex_from w ≡ true
    back x = cut.1 (split_cut c t room m found x.one x.two x.three x.four x.split x.first x.second x.third x.fourth)
