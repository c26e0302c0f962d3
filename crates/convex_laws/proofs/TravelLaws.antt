-- A convex room is convex from each of its corners and both ways round.
-- Assumes nothing.
use mathlib.Core.Bool.{Bool, true, false, cond}
use mathlib.Core.List.{List, [], ◌∷◌, ◌++◌, append-nil, append_assoc}
use mathlib.Core.Logic.{◌⊎◌, inl, inr, ⊎_elim, ◌↔◌}
use mathlib.Core.Path.{◌≡◌, refl, sym, ap, ap₂, ◌∙◌, subst}
use Prim.Native.Nat.{ℕ, zero, suc, ◌<◌}
use native.Mathlib.Omega.{arith}
use lib.IntN.{ℤ, pos, negsuc, neg_ℤ, nat_abs}
use lib.ListN.{take, drop, take-append-drop}
use lib.Signed.{lt_z, ◌<ℤ◌}
use Rattle.int_laws.proofs.LinearLaws.{zarith, neg_nat}
use Rattle.int_laws.proofs.NextLaws.{true_lt, false_lt}
use Rattle.lists.specs.Lists.{Below}
use Rattle.grid.specs.declared.Corner.{Corner}
use Rattle.grid.specs.Grid.{end_from, corner_at, back}
use Rattle.grid.proofs.StepLaws.{end_from-append, back-back}
use Rattle.trace.specs.Verdict.{IsRoom, sweep_from}
use Rattle.trace.proofs.VerdictLaws.{area_room}
use Rattle.panels.specs.Inside.{InsideRight}
use Rattle.panels.specs.Moved.{started_at, backward}
use Rattle.area_laws.proofs.MovedLaws.{sweep_started, sweep_backward, end_backward}
use Rattle.room_laws.proofs.RoomLaws.{room_magnitude, room_some, room_sign}
use Rattle.convex.specs.Parts.{turned_by, clockwise, LowestLeft, LeftmostTop, HighestRight, RightmostBottom, Extremal, Split}
use Rattle.convex.specs.Convex.{ConvexPart, ConvexRoom}
use Rattle.convex_laws.proofs.CycleLaws.{cycle_in, cycle_closed, clockwise-room}

-- ---- a walk that is split into convex parts

pub record Way (c : Corner) (w : List ℕ) : Type 0 where
  pub one : List ℕ
  pub two : List ℕ
  pub three : List ℕ
  pub four : List ℕ
  pub split : Split c w one two three four
  pub first : ConvexPart one
  pub second : ConvexPart (turned_by 1 two)
  pub third : ConvexPart (turned_by 2 three)
  pub fourth : ConvexPart (turned_by 3 four)

pub room_way : (c : Corner) (ds : List ℕ) → ConvexRoom c ds → Way c (clockwise c ds)
room_way c ds x = record { one = x.one; two = x.two; three = x.three; four = x.four; split = x.split; first = x.first; second = x.second; third = x.third; fourth = x.fourth }

pub way_room : (c : Corner) (ds : List ℕ) → Way c (clockwise c ds) → ConvexRoom c ds
way_room c ds x = record { one = x.one; two = x.two; three = x.three; four = x.four; split = x.split; first = x.first; second = x.second; third = x.third; fourth = x.fourth }

-- the same from its first extremal corner
pub record AtWest (c : Corner) (w one two three four : List ℕ) : Type 0 where
  pub whole : w ≡ one ++ (two ++ (three ++ four))
  pub west : Extremal LowestLeft c w c
  pub north : Extremal LeftmostTop c w (end_from c one)
  pub east : Extremal HighestRight c w (end_from c (one ++ two))
  pub south : Extremal RightmostBottom c w (end_from c (one ++ (two ++ three)))

pub at_west_split : (c : Corner) (w p q r s : List ℕ) → AtWest c w p q r s → Split c w p q r s
at_west_split c w p q r s a = record { before = []; after = w; whole = refl; round = append-nil w ∙ a.whole; west = a.west; north = a.north; east = a.east; south = a.south }

-- ---- from another corner

-- two cuts of one list: one comes first
cuts : (u v b a : List ℕ) → u ++ v ≡ b ++ a → (x : List ℕ) × (((u ≡ b ++ x) × (a ≡ x ++ v)) ⊎ ((b ≡ u ++ x) × (v ≡ x ++ a)))
cuts [] v b a e = (b, inr (refl, e))
cuts (d ∷ u) v [] a e = (d ∷ u, inl (refl, sym e))
cuts (d ∷ u) v (f ∷ b) a e = go (cuts u v b a (ap (drop 1) e))
  where
    same : d ≡ f
    same = ap head e
      where
        head : List ℕ → ℕ
        head [] = 0
        head (x ∷ l) = x

    go : (x : List ℕ) × (((u ≡ b ++ x) × (a ≡ x ++ v)) ⊎ ((b ≡ u ++ x) × (v ≡ x ++ a))) → (x : List ℕ) × (((d ∷ u ≡ f ∷ b ++ x) × (a ≡ x ++ v)) ⊎ ((f ∷ b ≡ d ∷ u ++ x) × (v ≡ x ++ a)))
    go (x, inl h) = (x, inl (ap₂ (λ (n : ℕ) (l : List ℕ). n ∷ l) same h.0, h.1))
    go (x, inr h) = (x, inr (ap₂ (λ (n : ℕ) (l : List ℕ). n ∷ l) (sym same) h.0, h.1))

module _ (c : Corner) (u v : List ℕ) (closed : end_from c (u ++ v) ≡ c) where
  pub extremal_cycle : (R : Corner → Corner → Type 0) (q : Corner) → Extremal R c (u ++ v) q → Extremal R (end_from c u) (v ++ u) q
  extremal_cycle R q f p m = f p (cycle_in c u v closed p m)

  -- the place of a cut in the second walk
  pub record Place (b a : List ℕ) : Type 0 where
    pub b' : List ℕ
    pub a' : List ℕ
    pub whole : b' ++ a' ≡ v ++ u
    pub round : a' ++ b' ≡ a ++ b
    pub ends : end_from (end_from c u) b' ≡ end_from c b

  pub place : (b a : List ℕ) → u ++ v ≡ b ++ a → Place b a
  place b a e = go (cuts u v b a e)
    where
      go : (x : List ℕ) × (((u ≡ b ++ x) × (a ≡ x ++ v)) ⊎ ((b ≡ u ++ x) × (v ≡ x ++ a))) → Place b a
      go (x, inl h) = record {
        b' = v ++ b;
        a' = x;
        whole = append_assoc v b x ∙ ap (λ (l : List ℕ). v ++ l) (sym h.0);
        round = sym (append_assoc x v b) ∙ ap (λ (l : List ℕ). l ++ b) (sym h.1);
        ends = end_from-append (end_from c u) v b ∙ ap (λ (p : Corner). end_from p b) (sym (end_from-append c u v) ∙ closed);
      }
      go (x, inr h) = record {
        b' = x;
        a' = a ++ u;
        whole = sym (append_assoc x a u) ∙ ap (λ (l : List ℕ). l ++ u) (sym h.1);
        round = append_assoc a u x ∙ ap (λ (l : List ℕ). a ++ l) (sym h.0);
        ends = sym (end_from-append c u x) ∙ ap (end_from c) (sym h.0);
      }

  pub way_cycle : Way c (u ++ v) → Way (end_from c u) (v ++ u)
  way_cycle x = record { one = x.one; two = x.two; three = x.three; four = x.four; split = split; first = x.first; second = x.second; third = x.third; fourth = x.fourth }
    where
      s : Split c (u ++ v) x.one x.two x.three x.four
      s = x.split

      k : Place s.before s.after
      k = place s.before s.after (sym s.whole)

      at : (R : Corner → Corner → Type 0) (l : List ℕ) → Extremal R c (u ++ v) (end_from c (s.before ++ l)) → Extremal R (end_from c u) (v ++ u) (end_from (end_from c u) (k.b' ++ l))
      at R l f = subst (Extremal R (end_from c u) (v ++ u)) (end_from-append c s.before l ∙ ap (λ (p : Corner). end_from p l) (sym k.ends) ∙ sym (end_from-append (end_from c u) k.b' l)) (extremal_cycle R (end_from c (s.before ++ l)) f)

      split : Split (end_from c u) (v ++ u) x.one x.two x.three x.four
      split = record {
        before = k.b';
        after = k.a';
        whole = k.whole;
        round = k.round ∙ s.round;
        west = subst (Extremal LowestLeft (end_from c u) (v ++ u)) (sym k.ends) (extremal_cycle LowestLeft (end_from c s.before) s.west);
        north = at LeftmostTop x.one s.north;
        east = at HighestRight (x.one ++ x.two) s.east;
        south = at RightmostBottom (x.one ++ (x.two ++ x.three)) s.south;
      }

backward-append : (u v : List ℕ) → backward (u ++ v) ≡ backward v ++ backward u
backward-append [] v = sym (append-nil (backward v))
backward-append (d ∷ u) v = ap (λ (l : List ℕ). l ++ (back d ∷ [])) (backward-append u v) ∙ append_assoc (backward v) (backward u) (back d ∷ [])

module _ (c : Corner) (u v : List ℕ) (closed : end_from c (u ++ v) ≡ c) where
  round-back : end_from (end_from c u) v ≡ c
  round-back = sym (end_from-append c u v) ∙ closed

  -- the way back leads over the same corner
  end_back : end_from c (backward v) ≡ end_from c u
  end_back = ap (λ (p : Corner). end_from p (backward v)) (sym round-back) ∙ end_backward (end_from c u) v

  back_closed : end_from c (backward v ++ backward u) ≡ c
  back_closed = end_from-append c (backward v) (backward u) ∙ ap (λ (p : Corner). end_from p (backward u)) end_back ∙ end_backward c u

  way_either : (b : Bool) → Way c (cond b (backward (u ++ v)) (u ++ v)) → Way (end_from c u) (cond b (backward (v ++ u)) (v ++ u))
  way_either false x = way_cycle c u v closed x
  way_either true x =
      subst (Way (end_from c u)) (sym (backward-append v u))
      (subst (λ (p : Corner). Way p (backward u ++ backward v)) end_back
      (way_cycle c (backward v) (backward u) back_closed (subst (Way c) (backward-append u v) x)))

  cycle_convex : ConvexRoom c (u ++ v) → sweep_from (end_from c u) (v ++ u) ≡ sweep_from c (u ++ v) → ConvexRoom (end_from c u) (v ++ u)
  cycle_convex x e = way_room (end_from c u) (v ++ u) (subst (λ (z : ℤ). Way (end_from c u) (cond (lt_z (pos 0) z) (backward (v ++ u)) (v ++ u))) (sym e) (way_either (lt_z (pos 0) (sweep_from c (u ++ v))) (room_way c (u ++ v) x)))

-- the answer is the same from every corner of the room
pub convex_started : (c : Corner) (ds : List ℕ) (j : ℕ) → end_from c ds ≡ c → ConvexRoom c ds ↔ ConvexRoom (corner_at c ds j) (started_at j ds)
convex_started c ds j closed = (there, back')
  where
    u : List ℕ
    u = take j ds

    v : List ℕ
    v = drop j ds

    whole : u ++ v ≡ ds
    whole = take-append-drop j ds

    round : end_from c (u ++ v) ≡ c
    round = ap (end_from c) whole ∙ closed

    same : sweep_from (end_from c u) (v ++ u) ≡ sweep_from c (u ++ v)
    same = sweep_started c ds j closed ∙ ap (sweep_from c) (sym whole)

    there : ConvexRoom c ds → ConvexRoom (end_from c u) (v ++ u)
    there x = cycle_convex c u v round (subst (ConvexRoom c) (sym whole) x) same

    ends : end_from (end_from c u) v ≡ c
    ends = sym (end_from-append c u v) ∙ round

    back' : ConvexRoom (end_from c u) (v ++ u) → ConvexRoom c ds
    back' x = subst (λ (p : Corner). ConvexRoom p ds) ends (subst (ConvexRoom (end_from (end_from c u) v)) whole (cycle_convex (end_from c u) v u (cycle_closed c u v round) x (ap (λ (p : Corner). sweep_from p (u ++ v)) ends ∙ sym same)))

-- ---- both ways round

backward-backward : (ds : List ℕ) → Below 4 ds → backward (backward ds) ≡ ds
backward-backward [] b = refl
backward-backward (d ∷ ds) b = backward-append (backward ds) (back d ∷ []) ∙ ap₂ (λ (n : ℕ) (l : List ℕ). n ∷ l) (back-back d b.0) (backward-backward ds b.1)

either : (z : ℤ) → 0 < nat_abs z → (pos 0 <ℤ z) ⊎ (z <ℤ pos 0)
either (pos zero) h = absurd (omega arith)
either (pos (suc n)) h = inl (omega zarith)
either (negsuc n) h = inr (omega zarith)

room_either : (c : Corner) (ds : List ℕ) → IsRoom c ds → (pos 0 <ℤ sweep_from c ds) ⊎ (sweep_from c ds <ℤ pos 0)
room_either c ds r = either (sweep_from c ds) some
  where
    some : 0 < nat_abs (sweep_from c ds)
    some = omega (arith, ap nat_abs (area_room c ds r), room_magnitude c ds r, room_some c ds r)

clockwise-backward : (c : Corner) (ds : List ℕ) → Below 4 ds → IsRoom c ds → clockwise c (backward ds) ≡ clockwise c ds
clockwise-backward c ds b r = ⊎_elim
    (λ h. ap (λ (t : Bool). cond t (backward (backward ds)) (backward ds)) (false_lt (pos 0) (sweep_from c (backward ds)) (omega (zarith, h, other, (neg_nat (sweep_from c ds)).0, (neg_nat (sweep_from c ds)).1))) ∙ sym (ap (λ (t : Bool). cond t (backward ds) ds) (true_lt (pos 0) (sweep_from c ds) h)))
    (λ h. ap (λ (t : Bool). cond t (backward (backward ds)) (backward ds)) (true_lt (pos 0) (sweep_from c (backward ds)) (omega (zarith, h, other, (neg_nat (sweep_from c ds)).0, (neg_nat (sweep_from c ds)).1))) ∙ backward-backward ds b ∙ sym (ap (λ (t : Bool). cond t (backward ds) ds) (false_lt (pos 0) (sweep_from c ds) (omega zarith))))
    (room_either c ds r)
  where
    other : sweep_from c (backward ds) ≡ neg_ℤ (sweep_from c ds)
    other = sweep_backward c c ds r.closed

-- a room that is travelled clockwise has an area below 0, and its inside on the right
pub clockwise_sweep : (c : Corner) (ds : List ℕ) → IsRoom c ds → sweep_from c (clockwise c ds) <ℤ pos 0
clockwise_sweep c ds r = ⊎_elim
    (λ h. subst (λ (w : List ℕ). sweep_from c w <ℤ pos 0) (sym (ap (λ (t : Bool). cond t (backward ds) ds) (true_lt (pos 0) (sweep_from c ds) h))) (omega (zarith, h, sweep_backward c c ds r.closed, (neg_nat (sweep_from c ds)).0, (neg_nat (sweep_from c ds)).1)))
    (λ h. subst (λ (w : List ℕ). sweep_from c w <ℤ pos 0) (sym (ap (λ (t : Bool). cond t (backward ds) ds) (false_lt (pos 0) (sweep_from c ds) (omega zarith)))) h)
    (room_either c ds r)

pub clockwise-right : (c : Corner) (ds : List ℕ) → IsRoom c ds → InsideRight c (clockwise c ds)
clockwise-right c ds r = (room_sign c w room).1.0 (subst (λ (z : ℤ). z <ℤ pos 0) (sym (area_room c w room)) (clockwise_sweep c ds r))
  where
    w : List ℕ
    w = clockwise c ds

    room : IsRoom c w
    room = clockwise-room c ds r

-- the answer is the same for a room walked the other way
pub convex_backward : (c : Corner) (ds : List ℕ) → Below 4 ds → IsRoom c ds → ConvexRoom c ds ↔ ConvexRoom c (backward ds)
convex_backward c ds b r = (
  λ x. way_room c (backward ds) (subst (Way c) (sym (clockwise-backward c ds b r)) (room_way c ds x)),
  λ x. way_room c ds (subst (Way c) (clockwise-backward c ds b r) (room_way c (backward ds) x)),
)
