-- A closed walk from another of its corners, and the other way round: the same corners, and a room if it is one.
-- Assumes nothing.
use mathlib.Core.Bool.{Bool, true, false, cond}
use mathlib.Core.Path.{◌≡◌, refl, sym, ap, ap₂, ◌∙◌, subst}
use mathlib.Core.List.Memᴰ
use mathlib.Core.List.{List, [], ◌∷◌, ◌++◌, append-nil, Memᴰ}
use mathlib.Core.Logic.{◌⊎◌, inl, inr}
use Prim.Native.Nat.{ℕ, zero, suc, ◌+◌, ◌-◌, ◌≤◌, ◌<◌}
use native.Mathlib.Omega.{arith}
use native.Mathlib.Decide.{dec_lt}
use lib.IntN.{pos}
use lib.Signed.{lt_z}
use lib.ListN.{length, take, drop, length-append, take-append-drop}
use lib.Seq.{take-append-le, take-append-add, take_at, drop_at, take-length, drop-length}
use Rattle.grid.specs.declared.Corner.{Corner}
use Rattle.grid.specs.Grid.{stepped, corners_from, end_from, corner_at, back}
use Rattle.grid.proofs.StepLaws.{end_from-append, corner_at_end}
use Rattle.trace.specs.Meeting.{Meets}
use Rattle.trace.specs.Verdict.{IsRoom, sweep_from}
use Rattle.panels.specs.Moved.{started_at, backward}
use Rattle.area_laws.proofs.MovedLaws.{end_backward, length-backward}
use Rattle.convex.specs.Parts.{clockwise}

-- the corners are those at the places
pub in_place : (c : Corner) (ds : List ℕ) (p : Corner) → Memᴰ p (corners_from c ds) → (i : ℕ) × (i ≤ length ds) × (p ≡ corner_at c ds i)
in_place c [] p (Memᴰ.head e) = (0, omega arith, e)
in_place c [] p (Memᴰ.tail m) = absurd (Memᴰ.not-nil m)
in_place c (d ∷ ds) p (Memᴰ.head e) = (0, omega arith, e)
in_place c (d ∷ ds) p (Memᴰ.tail m) = let r = in_place (stepped d c) ds p m in (suc r.0, omega (arith, r.1), r.2)

pub place_in : (c : Corner) (ds : List ℕ) (i : ℕ) → i ≤ length ds → Memᴰ (corner_at c ds i) (corners_from c ds)
place_in c [] zero h = Memᴰ.head refl
place_in c [] (suc i) h = let z : ⊥ = omega arith in absurd z
place_in c (d ∷ ds) zero h = Memᴰ.head refl
place_in c (d ∷ ds) (suc i) h = Memᴰ.tail (place_in (stepped d c) ds i (omega arith))

-- if a room has one corner at two places, they are one place or its ends
pub room_places : (c : Corner) (ds : List ℕ) → IsRoom c ds → (i j : ℕ) → i ≤ length ds → j ≤ length ds → corner_at c ds i ≡ corner_at c ds j → (i ≡ j) ⊎ (((i ≡ 0) × (j ≡ length ds)) ⊎ ((i ≡ length ds) × (j ≡ 0)))
room_places c ds r i j h g e = go (dec_lt i j) (dec_lt j i)
  where
    go : Dec (i < j) → Dec (j < i) → (i ≡ j) ⊎ (((i ≡ 0) × (j ≡ length ds)) ⊎ ((i ≡ length ds) × (j ≡ 0)))
    go (yes l) s = inr (inl (r.only i j (record { earlier = l; within = g; equal = e })))
    go (no l) (yes s) = let z = r.only j i (record { earlier = s; within = h; equal = sym e }) in inr (inr (z.1, z.0))
    go (no l) (no s) = inl (omega arith)

-- a cut b a of a walk is one at the place where b ends
module _ (c : Corner) (ds b a : List ℕ) (whole : b ++ a ≡ ds) where
  pub cut-within : length b ≤ length ds
  cut-within = omega (arith, ap length whole, length-append b a)

  pub cut-corner : corner_at c ds (length b) ≡ end_from c b
  cut-corner = ap (end_from c) (ap (take (length b)) (sym whole) ∙ take_at b a (length b) refl)

  pub cut_in : Memᴰ (end_from c b) (corners_from c ds)
  cut_in = subst (λ (p : Corner). Memᴰ p (corners_from c ds)) cut-corner (place_in c ds (length b) cut-within)

  pub cut-round : a ++ b ≡ started_at (length b) ds
  cut-round = ap₂ (λ (x y : List ℕ). x ++ y) (sym (ap (drop (length b)) (sym whole) ∙ drop_at b a (length b) refl)) (sym (ap (take (length b)) (sym whole) ∙ take_at b a (length b) refl))

-- a room has one way round from each of its corners
pub way_one : (c : Corner) (ds : List ℕ) → IsRoom c ds → (b a b' a' : List ℕ) → b ++ a ≡ ds → b' ++ a' ≡ ds → end_from c b ≡ end_from c b' → a ++ b ≡ a' ++ b'
way_one c ds r b a b' a' w w' e =
    cut-round c ds b a w
    ∙ go (length b) (length b') (room_places c ds r (length b) (length b') (cut-within c ds b a w) (cut-within c ds b' a' w') (cut-corner c ds b a w ∙ e ∙ sym (cut-corner c ds b' a' w')))
    ∙ sym (cut-round c ds b' a' w')
  where
    -- at either end it is the walk itself
    at-start : (i : ℕ) → i ≡ 0 → started_at i ds ≡ ds
    at-start i z = ap (λ (n : ℕ). started_at n ds) z ∙ append-nil ds

    at_end : (i : ℕ) → i ≡ length ds → started_at i ds ≡ ds
    at_end i z = ap (λ (n : ℕ). started_at n ds) z ∙ ap₂ (λ (x y : List ℕ). x ++ y) (drop-length ds) (take-length ds)

    go : (i j : ℕ) → (i ≡ j) ⊎ (((i ≡ 0) × (j ≡ length ds)) ⊎ ((i ≡ length ds) × (j ≡ 0))) → started_at i ds ≡ started_at j ds
    go i j (inl z) = ap (λ (n : ℕ). started_at n ds) z
    go i j (inr (inl z)) = at-start i z.0 ∙ sym (at_end j z.1)
    go i j (inr (inr z)) = at_end i z.0 ∙ sym (at-start j z.1)

-- the walk u v from c, and v u from where u leads
module _ (c : Corner) (u v : List ℕ) (closed : end_from c (u ++ v) ≡ c) where
  turn : end_from (end_from c u) v ≡ c
  turn = sym (end_from-append c u v) ∙ closed

  near : (i : ℕ) → i ≤ length v → corner_at (end_from c u) (v ++ u) i ≡ corner_at c (u ++ v) (length u + i)
  near i h = ap (end_from (end_from c u)) (take-append-le i v u h) ∙ sym (end_from-append c u (take i v)) ∙ ap (end_from c) (sym (take-append-add u v i))

  far : (j : ℕ) → j ≤ length u → corner_at (end_from c u) (v ++ u) (length v + j) ≡ corner_at c (u ++ v) j
  far j h = ap (end_from (end_from c u)) (take-append-add v u j) ∙ end_from-append (end_from c u) v (take j u) ∙ ap (λ (z : Corner). end_from z (take j u)) turn ∙ ap (end_from c) (sym (take-append-le j u v h))

  -- the same corners
  pub cycle_in : (p : Corner) → Memᴰ p (corners_from (end_from c u) (v ++ u)) → Memᴰ p (corners_from c (u ++ v))
  cycle_in p m = go (in_place (end_from c u) (v ++ u) p m)
    where
      go : (i : ℕ) × (i ≤ length (v ++ u)) × (p ≡ corner_at (end_from c u) (v ++ u) i) → Memᴰ p (corners_from c (u ++ v))
      go (i, l, e) = by (dec_lt (length v) i)
        where
          by : Dec (length v < i) → Memᴰ p (corners_from c (u ++ v))
          by (no h) = subst (λ (z : Corner). Memᴰ z (corners_from c (u ++ v))) (sym (e ∙ near i (omega arith))) (place_in c (u ++ v) (length u + i) (omega (arith, length-append u v)))
          by (yes h) = subst (λ (z : Corner). Memᴰ z (corners_from c (u ++ v))) (sym (e ∙ ap (corner_at (end_from c u) (v ++ u)) back' ∙ far (i - length v) (omega (arith, length-append v u)))) (place_in c (u ++ v) (i - length v) (omega (arith, length-append v u, length-append u v)))
            where
              back' : i ≡ length v + (i - length v)
              back' = omega arith

  pub cycle_closed : end_from (end_from c u) (v ++ u) ≡ end_from c u
  cycle_closed = end_from-append (end_from c u) v u ∙ ap (λ (z : Corner). end_from z u) turn

  -- the place in the first walk of place i in the second
  at_first : (i : ℕ) → i ≤ length v + length u → (m : ℕ) × (m ≤ length u + length v) × ((m ≡ length u + i) ⊎ (m + length v ≡ i)) × (corner_at (end_from c u) (v ++ u) i ≡ corner_at c (u ++ v) m)
  at_first i h = by (dec_lt (length v) i)
    where
      by : Dec (length v < i) → (m : ℕ) × (m ≤ length u + length v) × ((m ≡ length u + i) ⊎ (m + length v ≡ i)) × (corner_at (end_from c u) (v ++ u) i ≡ corner_at c (u ++ v) m)
      by (no g) = (length u + i, omega arith, inl refl, near i (omega arith))
      by (yes g) = (i - length v, omega arith, inr (omega arith), ap (corner_at (end_from c u) (v ++ u)) back' ∙ far (i - length v) (omega arith))
        where
          back' : i ≡ length v + (i - length v)
          back' = omega arith

  -- and a room
  pub cycle_room : IsRoom c (u ++ v) → IsRoom (end_from c u) (v ++ u)
  cycle_room r = record { four = omega (arith, r.four, length-append u v, length-append v u); closed = cycle_closed; only = only }
    where
      ends : (j k m n p q s : ℕ) → j < k → k ≤ q + p → s ≡ p + q → m ≤ p + q → n ≤ p + q → (m ≡ p + j) ⊎ (m + q ≡ j) → (n ≡ p + k) ⊎ (n + q ≡ k) → (m ≡ n) ⊎ (((m ≡ 0) × (n ≡ s)) ⊎ ((m ≡ s) × (n ≡ 0))) → (j ≡ 0) × (k ≡ q + p)
      ends j k m n p q s a b c d e (inl f) (inl g) (inl h) = let z : ⊥ = omega arith in absurd z
      ends j k m n p q s a b c d e (inl f) (inl g) (inr (inl h)) = (omega (arith, h.0), omega (arith, h.0, h.1))
      ends j k m n p q s a b c d e (inl f) (inl g) (inr (inr h)) = let z : ⊥ = omega (arith, h.0, h.1) in absurd z
      ends j k m n p q s a b c d e (inl f) (inr g) (inl h) = (omega arith, omega arith)
      ends j k m n p q s a b c d e (inl f) (inr g) (inr (inl h)) = (omega (arith, h.0), omega (arith, h.0, h.1))
      ends j k m n p q s a b c d e (inl f) (inr g) (inr (inr h)) = (omega (arith, h.0, h.1), omega (arith, h.0, h.1))
      ends j k m n p q s a b c d e (inr f) (inl g) x = let z : ⊥ = omega arith in absurd z
      ends j k m n p q s a b c d e (inr f) (inr g) (inl h) = let z : ⊥ = omega arith in absurd z
      ends j k m n p q s a b c d e (inr f) (inr g) (inr (inl h)) = (omega (arith, h.0, h.1), omega (arith, h.0, h.1))
      ends j k m n p q s a b c d e (inr f) (inr g) (inr (inr h)) = let z : ⊥ = omega (arith, h.0, h.1) in absurd z

      only : (j k : ℕ) → Meets (end_from c u) (v ++ u) j k → (j ≡ 0) × (k ≡ length (v ++ u))
      only j k t = go (at_first j (omega (arith, t.earlier, t.within, length-append v u))) (at_first k (omega (arith, t.within, length-append v u)))
        where
          go : (m : ℕ) × (m ≤ length u + length v) × ((m ≡ length u + j) ⊎ (m + length v ≡ j)) × (corner_at (end_from c u) (v ++ u) j ≡ corner_at c (u ++ v) m) → (m : ℕ) × (m ≤ length u + length v) × ((m ≡ length u + k) ⊎ (m + length v ≡ k)) × (corner_at (end_from c u) (v ++ u) k ≡ corner_at c (u ++ v) m) → (j ≡ 0) × (k ≡ length (v ++ u))
          go (m, ml, mp, me) (n, nl, np, ne) =
              let e = ends j k m n (length u) (length v) (length (u ++ v)) t.earlier (omega (arith, t.within, length-append v u)) (length-append u v) ml nl mp np
              (room_places c (u ++ v) r m n (omega (arith, length-append u v)) (omega (arith, length-append u v)) (sym me ∙ t.equal ∙ ne)) in
              (e.0, e.1 ∙ sym (length-append v u))

-- the same corners, starting at c
pub in_cycle : (c : Corner) (u v : List ℕ) → end_from c (u ++ v) ≡ c → (p : Corner) → Memᴰ p (corners_from c (u ++ v)) → Memᴰ p (corners_from (end_from c u) (v ++ u))
in_cycle c u v closed p m = cycle_in (end_from c u) v u (cycle_closed c u v closed) p (subst (λ (z : Corner). Memᴰ p (corners_from z (u ++ v))) (sym (turn c u v closed)) m)

-- the way back
take-backward : (ds : List ℕ) (i : ℕ) → i ≤ length ds → take i (backward ds) ≡ backward (drop (length ds - i) ds)
take-backward [] zero h = refl
take-backward [] (suc i) h = let z : ⊥ = omega arith in absurd z
take-backward (d ∷ ds) i h = go (dec_lt (length ds) i) (λ l. take-backward ds i l)
  where
    go : Dec (length ds < i) → (i ≤ length ds → take i (backward ds) ≡ backward (drop (length ds - i) ds)) → take i (backward (d ∷ ds)) ≡ backward (drop (suc (length ds) - i) (d ∷ ds))
    go (no l) f = take-append-le i (backward ds) (back d ∷ []) (omega (arith, length-backward ds)) ∙ f (omega arith) ∙ ap (λ (n : ℕ). backward (drop n (d ∷ ds))) more
      where
        more : suc (length ds - i) ≡ suc (length ds) - i
        more = omega arith
    go (yes l) f = ap (λ (n : ℕ). take n (backward (d ∷ ds))) all ∙ take-length (backward (d ∷ ds)) ∙ ap (λ (n : ℕ). backward (drop n (d ∷ ds))) none
      where
        all : i ≡ length (backward (d ∷ ds))
        all = omega (arith, length-backward (d ∷ ds))

        none : 0 ≡ suc (length ds) - i
        none = omega arith

pub backward-at : (c : Corner) (ds : List ℕ) → end_from c ds ≡ c → (i : ℕ) → i ≤ length ds → corner_at c (backward ds) i ≡ corner_at c ds (length ds - i)
backward-at c ds closed i h =
    ap (end_from c) (take-backward ds i h)
    ∙ ap (λ (z : Corner). end_from z (backward rest)) (sym (sym (end_from-append c (take (length ds - i) ds) rest) ∙ ap (end_from c) (take-append-drop (length ds - i) ds) ∙ closed))
    ∙ end_backward (corner_at c ds (length ds - i)) rest
  where
    rest : List ℕ
    rest = drop (length ds - i) ds

-- the room travelled back is a room
backward-room : (c : Corner) (ds : List ℕ) → IsRoom c ds → IsRoom c (backward ds)
backward-room c ds r = record { four = omega (arith, r.four, length-backward ds); closed = closed; only = only }
  where
    closed : end_from c (backward ds) ≡ c
    closed = sym (corner_at_end c (backward ds)) ∙ ap (corner_at c (backward ds)) (length-backward ds) ∙ backward-at c ds r.closed (length ds) (omega arith) ∙ ap (corner_at c ds) none
      where
        none : length ds - length ds ≡ 0
        none = omega arith

    only : (j k : ℕ) → Meets c (backward ds) j k → (j ≡ 0) × (k ≡ length (backward ds))
    only j k t =
        let k≤ : k ≤ length ds = omega (arith, t.within, length-backward ds) in
        let j≤ : j ≤ length ds = omega (arith, t.earlier) in
        let m = r.only (length ds - k) (length ds - j) (record { earlier = omega (arith, t.earlier); within = omega arith; equal = sym (sym (backward-at c ds r.closed j j≤) ∙ t.equal ∙ backward-at c ds r.closed k k≤) }) in
        (omega (arith, m.0, m.1, t.earlier), omega (arith, m.0, m.1, t.earlier, length-backward ds))

pub clockwise-room : (c : Corner) (ds : List ℕ) → IsRoom c ds → IsRoom c (clockwise c ds)
clockwise-room c ds r = go (lt_z (pos 0) (sweep_from c ds))
  where
    go : (t : Bool) → IsRoom c (cond t (backward ds) ds)
    go true = backward-room c ds r
    go false = r
