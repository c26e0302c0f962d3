-- A convex room is convex wherever it lies, and after a quarter turn.
-- Assumes nothing.
use mathlib.Core.Bool.{Bool, true, false, cond}
use mathlib.Core.List.Memᴰ
use mathlib.Core.List.{List, [], ◌∷◌, ◌++◌, map, Memᴰ, append_assoc}
use mathlib.Core.Logic.{inl, inr, ◌↔◌}
use mathlib.Core.Path.{◌≡◌, refl, sym, ap, ap₂, ◌∙◌, subst}
use Prim.Native.Nat.{ℕ, zero, suc, ◌+◌, ◌%◌, ◌<◌}
use native.Mathlib.Omega.{arith}
use lib.IntN.{ℤ, pos, neg_ℤ, ◌+ℤ◌, ◌-ℤ◌}
use lib.Signed.{lt_z, ◌<ℤ◌, ◌≤ℤ◌}
use Rattle.int_laws.proofs.LinearLaws.{zarith, bal+, bal-, neg_nat}
use Rattle.lists.specs.Lists.{Below}
use Rattle.grid.specs.declared.Corner.{Corner}
use Rattle.grid.specs.Grid.{corner, stepped, corners_from, end_from, back}
use Rattle.grid.proofs.StepLaws.{back_small, end_from-append}
use Rattle.trace.specs.Verdict.{sweep_from}
use Rattle.panels.specs.Moved.{turned, backward}
use Rattle.area_laws.proofs.ImageLaws.{Image, end_image, moved, move, turn, sweep_moved, sweep_turned}
use Rattle.area_laws.proofs.MovedLaws.{end_backward}
use Rattle.convex.specs.Parts.{turned_by, clockwise, LowestLeft, LeftmostTop, HighestRight, RightmostBottom, Extremal, Split}
use Rattle.convex.specs.Convex.{ConvexPart, ConvexRoom}
use Rattle.convex_laws.proofs.CycleLaws.{cycle_closed}
use Rattle.convex_laws.proofs.TravelLaws.{Way, room_way, way_room, AtWest, at_west_split, extremal_cycle, way_cycle}

module _ {f : Corner → Corner} {t : ℕ → ℕ} {m : ℤ} {P : Corner → ℤ} (i : Image f t m P) where
  -- the corners of the image are the images of the corners
  pub image_in : (c : Corner) (w : List ℕ) (p : Corner) → Memᴰ p (corners_from (f c) (map t w)) → (q : Corner) × Memᴰ q (corners_from c w) × (p ≡ f q)
  image_in c [] p (Memᴰ.head e) = (c, Memᴰ.head refl, e)
  image_in c [] p (Memᴰ.tail n) = absurd (Memᴰ.not-nil n)
  image_in c (d ∷ w) p (Memᴰ.head e) = (c, Memᴰ.head refl, e)
  image_in c (d ∷ w) p (Memᴰ.tail n) =
      let r = image_in (stepped d c) w p (subst (λ (z : Corner). Memᴰ p (corners_from z (map t w))) (i.carries d c) n) in
      (r.0, Memᴰ.tail r.1, r.2)

  pub image_extremal : (R R' : Corner → Corner → Type 0) → ((a b : Corner) → R a b → R' (f a) (f b)) → (c : Corner) (w : List ℕ) (q : Corner) → Extremal R c w q → Extremal R' (f c) (map t w) (f q)
  image_extremal R R' h c w q e p n = let r = image_in c w p n in subst (R' (f q)) (sym r.2) (h q r.0 (e r.0 r.1))

pub map_same : (w : List ℕ) → map (λ d. d) w ≡ w
map_same [] = refl
map_same (d ∷ w) = ap (λ (l : List ℕ). d ∷ l) (map_same w)

pub map-append : (t : ℕ → ℕ) (u v : List ℕ) → map t (u ++ v) ≡ map t u ++ map t v
map-append t [] v = refl
map-append t (d ∷ u) v = ap (λ (l : List ℕ). t d ∷ l) (map-append t u v)

-- moved by (x,y)
module _ (x y : ℤ) where
  keeps_x : (a b : ℤ) → a <ℤ b → (a +ℤ x) <ℤ (b +ℤ x)
  keeps_x a b h = omega (zarith, h, bal+ a x, bal+ b x)

  keeps_y : (a b : ℤ) → a <ℤ b → (a +ℤ y) <ℤ (b +ℤ y)
  keeps_y a b h = omega (zarith, h, bal+ a y, bal+ b y)

  west_moved : (a b : Corner) → LowestLeft a b → LowestLeft (moved x y a) (moved x y b)
  west_moved a b (inl h) = inl (keeps_x a.0 b.0 h)
  west_moved a b (inr h) = inr (ap (λ (z : ℤ). z +ℤ x) h.0, omega (zarith, h.1, bal+ a.1 y, bal+ b.1 y))

  north-moved : (a b : Corner) → LeftmostTop a b → LeftmostTop (moved x y a) (moved x y b)
  north-moved a b (inl h) = inl (keeps_y b.1 a.1 h)
  north-moved a b (inr h) = inr (ap (λ (z : ℤ). z +ℤ y) h.0, omega (zarith, h.1, bal+ a.0 x, bal+ b.0 x))

  east-moved : (a b : Corner) → HighestRight a b → HighestRight (moved x y a) (moved x y b)
  east-moved a b (inl h) = inl (keeps_x b.0 a.0 h)
  east-moved a b (inr h) = inr (ap (λ (z : ℤ). z +ℤ x) h.0, omega (zarith, h.1, bal+ a.1 y, bal+ b.1 y))

  south_moved : (a b : Corner) → RightmostBottom a b → RightmostBottom (moved x y a) (moved x y b)
  south_moved a b (inl h) = inl (keeps_y a.1 b.1 h)
  south_moved a b (inr h) = inr (ap (λ (z : ℤ). z +ℤ y) h.0, omega (zarith, h.1, bal+ a.0 x, bal+ b.0 x))

  end_moved : (c : Corner) (w : List ℕ) → moved x y (end_from c w) ≡ end_from (moved x y c) w
  end_moved c w = sym (end_image (move x y) c w) ∙ ap (end_from (moved x y c)) (map_same w)

  at_moved : (R : Corner → Corner → Type 0) → ((a b : Corner) → R a b → R (moved x y a) (moved x y b)) → (c : Corner) (w l : List ℕ) → Extremal R c w (end_from c l) → Extremal R (moved x y c) w (end_from (moved x y c) l)
  at_moved R h c w l e = subst (λ (s : List ℕ). Extremal R (moved x y c) s (end_from (moved x y c) l)) (map_same w) (subst (Extremal R (moved x y c) (map (λ d. d) w)) (end_moved c l) (image_extremal (move x y) R R h c w (end_from c l) e))

  way_moved : (c : Corner) (w : List ℕ) → Way c w → Way (moved x y c) w
  way_moved c w a = record { one = a.one; two = a.two; three = a.three; four = a.four; split = split; first = a.first; second = a.second; third = a.third; fourth = a.fourth }
    where
      s : Split c w a.one a.two a.three a.four
      s = a.split

      split : Split (moved x y c) w a.one a.two a.three a.four
      split = record {
        before = s.before;
        after = s.after;
        whole = s.whole;
        round = s.round;
        west = at_moved LowestLeft west_moved c w s.before s.west;
        north = at_moved LeftmostTop north-moved c w (s.before ++ a.one) s.north;
        east = at_moved HighestRight east-moved c w (s.before ++ (a.one ++ a.two)) s.east;
        south = at_moved RightmostBottom south_moved c w (s.before ++ (a.one ++ (a.two ++ a.three))) s.south;
      }

-- from any start
way_anywhere : (c e : Corner) (w : List ℕ) → Way c w → Way e w
way_anywhere c e w a = subst (λ (p : Corner). Way p w) (ap₂ corner (over c.0 e.0) (over c.1 e.1)) (way_moved (e.0 -ℤ c.0) (e.1 -ℤ c.1) c w a)
  where
    over : (a b : ℤ) → a +ℤ (b -ℤ a) ≡ b
    over a b = omega (zarith, bal- b a, bal+ a (b -ℤ a))

-- the answer is the same wherever the room lies
pub convex_moved : (c e : Corner) (ds : List ℕ) → end_from c ds ≡ c → ConvexRoom c ds ↔ ConvexRoom e ds
convex_moved c e ds closed = (
  λ x. way_room e ds (subst (λ (z : ℤ). Way e (cond (lt_z (pos 0) z) (backward ds) ds)) (sym (sweep_moved c e ds closed)) (way_anywhere c e (clockwise c ds) (room_way c ds x))),
  λ x. way_room c ds (subst (λ (z : ℤ). Way c (cond (lt_z (pos 0) z) (backward ds) ds)) (sweep_moved c e ds closed) (way_anywhere e c (clockwise e ds) (room_way e ds x))),
)

-- a quarter turn to the left
abbrev pub quarter : Corner → Corner
quarter p = corner (neg_ℤ p.1) p.0

neg_lt : (a b : ℤ) → a <ℤ b → neg_ℤ b <ℤ neg_ℤ a
neg_lt a b h = omega (zarith, h, (neg_nat a).0, (neg_nat a).1, (neg_nat b).0, (neg_nat b).1)

neg_le : (a b : ℤ) → a ≤ℤ b → neg_ℤ b ≤ℤ neg_ℤ a
neg_le a b h = omega (zarith, h, (neg_nat a).0, (neg_nat a).1, (neg_nat b).0, (neg_nat b).1)

pub north-turned : (a b : Corner) → LeftmostTop a b → LowestLeft (quarter a) (quarter b)
north-turned a b (inl h) = inl (neg_lt b.1 a.1 h)
north-turned a b (inr h) = inr (ap neg_ℤ h.0, h.1)

pub east-turned : (a b : Corner) → HighestRight a b → LeftmostTop (quarter a) (quarter b)
east-turned a b (inl h) = inl h
east-turned a b (inr h) = inr (h.0, neg_le b.1 a.1 h.1)

pub south_turned : (a b : Corner) → RightmostBottom a b → HighestRight (quarter a) (quarter b)
south_turned a b (inl h) = inl (neg_lt a.1 b.1 h)
south_turned a b (inr h) = inr (ap neg_ℤ h.0, h.1)

pub west_turned : (a b : Corner) → LowestLeft a b → RightmostBottom (quarter a) (quarter b)
west_turned a b (inl h) = inl h
west_turned a b (inr h) = inr (h.0, neg_le a.1 b.1 h.1)

-- a turn more of each letter
turned-mod : (d : ℕ) → d < 4 → turned d ≡ (d + 1) % 4
turned-mod zero h = refl
turned-mod (suc zero) h = refl
turned-mod (suc (suc zero)) h = refl
turned-mod (suc (suc (suc zero))) h = refl
turned-mod (suc (suc (suc (suc d)))) h = absurd (omega arith)

pub letters_one : (l : List ℕ) → Below 4 l → map turned l ≡ turned_by 1 l
letters_one [] b = refl
letters_one (d ∷ l) b = ap₂ (λ (n : ℕ) (m : List ℕ). n ∷ m) (turned-mod d b.0) (letters_one l b.1)

pub letters_more : (i : ℕ) (l : List ℕ) → Below 4 l → turned_by i (map turned l) ≡ turned_by (1 + i) l
letters_more i [] b = refl
letters_more i (d ∷ l) b = ap₂ (λ (n : ℕ) (m : List ℕ). n ∷ m) (ap (λ (n : ℕ). (n + i) % 4) (turned-mod d b.0) ∙ omega arith) (letters_more i l b.1)

pub letters_four : (l : List ℕ) → Below 4 l → turned_by 4 l ≡ l
letters_four [] b = refl
letters_four (d ∷ l) b = ap₂ (λ (n : ℕ) (m : List ℕ). n ∷ m) (same d b.0) (letters_four l b.1)
  where
    same : (d : ℕ) → d < 4 → (d + 4) % 4 ≡ d
    same d h = omega arith

pub below_join : (u v : List ℕ) → Below 4 u → Below 4 v → Below 4 (u ++ v)
below_join [] v a b = b
below_join (d ∷ u) v a b = (a.0, below_join u v a.1 b)

pub below_parts : (u v : List ℕ) → Below 4 (u ++ v) → Below 4 u × Below 4 v
below_parts [] v b = (tt, b)
below_parts (d ∷ u) v b = let r = below_parts u v b.1 in ((b.0, r.0), r.1)

module _ (c : Corner) (w : List ℕ) (below : Below 4 w) (closed : end_from c w ≡ c) (x : Way c w) where
  abbrev s : Split c w x.one x.two x.three x.four
  s = x.split

  abbrev b : List ℕ
  b = s.before

  abbrev a : List ℕ
  a = s.after

  abbrev rest : List ℕ
  rest = x.two ++ (x.three ++ x.four)

  abbrev west_corner : Corner
  west_corner = end_from c b

  abbrev north-corner : Corner
  north-corner = end_from west_corner x.one

  closed_b : end_from c (b ++ a) ≡ c
  closed_b = ap (end_from c) s.whole ∙ closed

  closed_one : end_from west_corner (x.one ++ rest) ≡ west_corner
  closed_one = ap (end_from west_corner) (sym s.round) ∙ cycle_closed c b a closed_b

  -- what is extremal on the walk is so from its second extremal corner
  from-north : (R : Corner → Corner → Type 0) (q : Corner) → Extremal R c w q → Extremal R north-corner (rest ++ x.one) q
  from-north R q f =
      extremal_cycle west_corner x.one rest closed_one R q
      (subst (λ (l : List ℕ). Extremal R west_corner l q) s.round
      (extremal_cycle c b a closed_b R q (subst (λ (l : List ℕ). Extremal R c l q) (sym s.whole) f)))

  image : (R R' : Corner → Corner → Type 0) → ((p q : Corner) → R p q → R' (quarter p) (quarter q)) → (l : List ℕ) (q : Corner) → Extremal R c w q → q ≡ end_from north-corner l → Extremal R' (quarter north-corner) (map turned (rest ++ x.one)) (end_from (quarter north-corner) (map turned l))
  image R R' h l q f e =
      subst (Extremal R' (quarter north-corner) (map turned (rest ++ x.one))) (ap quarter e ∙ sym (end_image turn north-corner l))
      (image_extremal turn R R' h north-corner (rest ++ x.one) q (from-north R q f))

  after-north : (l : List ℕ) → end_from c (b ++ (x.one ++ l)) ≡ end_from north-corner l
  after-north l = end_from-append c b (x.one ++ l) ∙ end_from-append west_corner x.one l

  turned-at : AtWest (quarter north-corner) (map turned (rest ++ x.one)) (map turned x.two) (map turned x.three) (map turned x.four) (map turned x.one)
  turned-at = record {
    whole = map-append turned rest x.one ∙ ap (λ (l : List ℕ). l ++ map turned x.one) (map-append turned x.two (x.three ++ x.four) ∙ ap (λ (l : List ℕ). map turned x.two ++ l) (map-append turned x.three x.four))
        ∙ append_assoc (map turned x.two) (map turned x.three ++ map turned x.four) (map turned x.one)
        ∙ ap (λ (l : List ℕ). map turned x.two ++ l) (append_assoc (map turned x.three) (map turned x.four) (map turned x.one));
    west = image LeftmostTop LowestLeft north-turned [] (end_from c (b ++ x.one)) s.north (end_from-append c b x.one);
    north = image HighestRight LeftmostTop east-turned x.two (end_from c (b ++ (x.one ++ x.two))) s.east (after-north x.two);
    east = subst (λ (l : List ℕ). Extremal HighestRight (quarter north-corner) (map turned (rest ++ x.one)) (end_from (quarter north-corner) l)) (map-append turned x.two x.three)
        (image RightmostBottom HighestRight south_turned (x.two ++ x.three) (end_from c (b ++ (x.one ++ (x.two ++ x.three)))) s.south (after-north (x.two ++ x.three)));
    south = subst (λ (l : List ℕ). Extremal RightmostBottom (quarter north-corner) (map turned (rest ++ x.one)) (end_from (quarter north-corner) l)) (map-append turned x.two (x.three ++ x.four) ∙ ap (λ (l : List ℕ). map turned x.two ++ l) (map-append turned x.three x.four))
        (image LowestLeft RightmostBottom west_turned rest west_corner s.west (sym closed_one ∙ end_from-append west_corner x.one rest));
  }

  below_round : Below 4 (x.one ++ rest)
  below_round = let r = below_parts b a (subst (Below 4) (sym s.whole) below) in subst (Below 4) s.round (below_join a b r.1 r.0)

  turned-north : Way (quarter north-corner) (map turned (rest ++ x.one))
  turned-north =
      let p = below_parts x.one rest below_round in
      let q = below_parts x.two (x.three ++ x.four) p.1 in
      let r = below_parts x.three x.four q.1 in
      record {
        one = map turned x.two;
        two = map turned x.three;
        three = map turned x.four;
        four = map turned x.one;
        split = at_west_split (quarter north-corner) (map turned (rest ++ x.one)) (map turned x.two) (map turned x.three) (map turned x.four) (map turned x.one) turned-at;
        first = subst ConvexPart (sym (letters_one x.two q.0)) x.second;
        second = subst ConvexPart (sym (letters_more 1 x.three r.0)) x.third;
        third = subst ConvexPart (sym (letters_more 2 x.four r.1)) x.fourth;
        fourth = subst ConvexPart (sym (letters_more 3 x.one p.0 ∙ letters_four x.one p.0)) x.first;
      }

  -- turned, the walk is closed as it was, and may begin anywhere
  turned_closed : (p : Corner) (u v : List ℕ) → end_from p (u ++ v) ≡ p → end_from (quarter p) (map turned u ++ map turned v) ≡ quarter p
  turned_closed p u v e = ap (end_from (quarter p)) (sym (map-append turned u v)) ∙ end_image turn p (u ++ v) ∙ ap quarter e

  way_turned : (e : Corner) → Way e (map turned w)
  way_turned e =
      let n = subst (Way (quarter north-corner)) (map-append turned rest x.one) turned-north in
      let m = way_cycle (quarter north-corner) (map turned rest) (map turned x.one) (turned_closed north-corner rest x.one (cycle_closed west_corner x.one rest closed_one)) n in
      let l = way_anywhere (end_from (quarter north-corner) (map turned rest)) (quarter west_corner) (map turned a ++ map turned b)
      (subst (Way (end_from (quarter north-corner) (map turned rest))) (sym (map-append turned x.one rest) ∙ ap (map turned) (sym s.round) ∙ map-append turned a b) m) in
      let k = way_cycle (quarter west_corner) (map turned a) (map turned b) (turned_closed west_corner a b (cycle_closed c b a closed_b)) l in
      way_anywhere (end_from (quarter west_corner) (map turned a)) e (map turned w)
      (subst (Way (end_from (quarter west_corner) (map turned a))) (sym (map-append turned b a) ∙ ap (map turned) s.whole) k)

back-turned : (d : ℕ) → back (turned d) ≡ turned (back d)
back-turned zero = refl
back-turned (suc zero) = refl
back-turned (suc (suc zero)) = refl
back-turned (suc (suc (suc d))) = refl

backward-turned : (ds : List ℕ) → backward (map turned ds) ≡ map turned (backward ds)
backward-turned [] = refl
backward-turned (d ∷ ds) = ap₂ (λ (l : List ℕ) (n : ℕ). l ++ (n ∷ [])) (backward-turned ds) (back-turned d) ∙ sym (map-append turned (backward ds) (back d ∷ []))

pub below_backward : (ds : List ℕ) → Below 4 (backward ds)
below_backward [] = tt
below_backward (d ∷ ds) = below_join (backward ds) (back d ∷ []) (below_backward ds) (back_small d, tt)

turned_once : (c e : Corner) (ds : List ℕ) → Below 4 ds → end_from c ds ≡ c → ConvexRoom c ds → ConvexRoom e (map turned ds)
turned_once c e ds below closed x = way_room e (map turned ds) (subst (λ (z : ℤ). Way e (cond (lt_z (pos 0) z) (backward (map turned ds)) (map turned ds))) (sym (sweep_turned c e ds closed)) (go (lt_z (pos 0) (sweep_from c ds)) (room_way c ds x)))
  where
    go : (t : Bool) → Way c (cond t (backward ds) ds) → Way e (cond t (backward (map turned ds)) (map turned ds))
    go false y = way_turned c ds below closed y e
    go true y = subst (Way e) (sym (backward-turned ds)) (way_turned c (backward ds) (below_backward ds) (ap (λ (p : Corner). end_from p (backward ds)) (sym closed) ∙ end_backward c ds) y e)

turned_small : (d : ℕ) → turned d < 4
turned_small zero = omega arith
turned_small (suc zero) = omega arith
turned_small (suc (suc zero)) = omega arith
turned_small (suc (suc (suc d))) = omega arith

pub below_turned : (ds : List ℕ) → Below 4 (map turned ds)
below_turned [] = tt
below_turned (d ∷ ds) = (turned_small d, below_turned ds)

turned_round : (ds : List ℕ) → Below 4 ds → map turned (map turned (map turned (map turned ds))) ≡ ds
turned_round [] b = refl
turned_round (d ∷ ds) b = ap₂ (λ (n : ℕ) (l : List ℕ). n ∷ l) (four d b.0) (turned_round ds b.1)
  where
    four : (d : ℕ) → d < 4 → turned (turned (turned (turned d))) ≡ d
    four zero h = refl
    four (suc zero) h = refl
    four (suc (suc zero)) h = refl
    four (suc (suc (suc zero))) h = refl
    four (suc (suc (suc (suc d)))) h = absurd (omega arith)

-- the answer is the same after a quarter turn, wherever the room lies then
pub convex_turned : (c e : Corner) (ds : List ℕ) → Below 4 ds → end_from c ds ≡ c → ConvexRoom c ds ↔ ConvexRoom e (map turned ds)
convex_turned c e ds below closed = (turned_once c e ds below closed, back')
  where
    round : (p : Corner) (l : List ℕ) → end_from p l ≡ p → end_from (quarter p) (map turned l) ≡ quarter p
    round p l f = end_image turn p l ∙ ap quarter f

    one : List ℕ
    one = map turned ds

    two : List ℕ
    two = map turned one

    three : List ℕ
    three = map turned two

    back' : ConvexRoom e one → ConvexRoom c ds
    back' x =
        let p = quarter c in
        let q = quarter p in
        let r = quarter q in
        let f = round c ds closed in
        let g = round p one f in
        let h = round q two g in
        subst (ConvexRoom c) (turned_round ds below)
        (turned_once r c three (below_turned two) h
        (turned_once q r two (below_turned one) g
        (turned_once p q one (below_turned ds) f
        ((convex_moved p e one f).1 x))))
