-- The outline of a room is the room from the lowest of its leftmost corners, forwards or backwards.
-- Assumes nothing.
use mathlib.Core.Bool.{Bool, true, false, true≢false, false≢true}
use mathlib.Core.List.Memᴰ
use mathlib.Core.List.{List, [], ◌∷◌, Memᴰ}
use mathlib.Core.Logic.{◌⊎◌, inl, inr, ⊎_elim, ⊎_map}
use mathlib.Core.Path.{◌≡◌, refl, ap, ap₂, sym, ◌∙◌, subst}
use Prim.Native.Nat.{ℕ, zero, suc, ◌+◌, ◌-◌, ◌<◌, ◌≤◌}
use native.Mathlib.Decide.{dec_lt}
use native.Mathlib.Omega.{arith}
use lib.ListN.{length, get_or}
use Rattle.lists.specs.Lists.{Below}
use Rattle.lists.proofs.BelowLaws.{below_get_d}
use Rattle.lists.proofs.DistinctLaws.{get_d_mem}
use Rattle.grid.specs.declared.Corner.{Corner}
use Rattle.grid.specs.Grid.{stepped, corners_from, corner_at, legs_from, back}
use Rattle.grid.proofs.StepLaws.{back-mod, back_small, stepped-back, stepped_inj, corners_from-at, length-corners_from, corner_at_end, back-back}
use Rattle.steps.specs.Turns.{turn_of, step_after}
use Rattle.trace.specs.Verdict.{IsRoom}
use Rattle.panels.specs.Moved.{started_at, backward}
use Rattle.area_laws.proofs.MovedLaws.{length-backward}
use Rattle.outline.specs.Outline.{walked, home_of, first_way, onward, OutlineIs}
use Rattle.outline_laws.proofs.TurnLaws.{step_after_lt}
use Rattle.outline_laws.proofs.EdgeLaws.{walked_edge, edge_walked, walked-back}
use Rattle.outline_laws.proofs.HomeLaws.{home_visited, home_ways}
use Rattle.outline_laws.proofs.PathLaws.{next}
use Rattle.outline_laws.proofs.RoundLaws.{ways}
use Rattle.outline_laws.proofs.OutlineLaws.{outline_is_one}
use Rattle.outline_room_laws.proofs.RingLaws.{ring_outline, on_ring, on_ring_cases, length_started, started_at_lem, backward-at}

turn_small : (d e : ℕ) → turn_of d e < 4
turn_small d e = omega arith

step_of : (d e : ℕ) → d < 4 → e < 4 → step_after d (turn_of d e) ≡ e
step_of d e hd he = omega arith

-- neither right, nor straight on, nor left: back
last_turn : (d e : ℕ) → d < 4 → e < 4 → (step_after d 3 ≡ e → ⊥) → (step_after d 0 ≡ e → ⊥) → (step_after d 1 ≡ e → ⊥) → step_after d 2 ≡ e
last_turn d e hd he a b c = go (turn_of d e) (turn_small d e) (step_of d e hd he)
  where
    go : (t : ℕ) → t < 4 → step_after d t ≡ e → step_after d 2 ≡ e
    go zero h z = absurd (b z)
    go (suc zero) h z = absurd (c z)
    go (suc (suc zero)) h z = z
    go (suc (suc (suc zero))) h z = absurd (a z)
    go (suc (suc (suc (suc t)))) h z = absurd (omega arith)

-- of two walked edges, the one that the path did not come by
module _ (w : ℕ → Bool) (d e : ℕ) (hd : d < 4) (he : e < 4) (there : w e ≡ true) (other : e ≡ back d → ⊥) (only : (x : ℕ) → x < 4 → w x ≡ true → (x ≡ e) ⊎ (x ≡ back d)) where
  test : (t : ℕ) → t < 4 → (t ≡ 2 → ⊥) → (b : Bool) → w (step_after d t) ≡ b → ((b ≡ true) × (step_after d t ≡ e)) ⊎ ((b ≡ false) × (step_after d t ≡ e → ⊥))
  test t ht n true p = inl (refl, ⊎_elim (λ z. z) (λ z. absurd (n (omega (arith, z ∙ back-mod d hd)))) (only (step_after d t) (step_after_lt d t) p))
  test t ht n false p = inr (refl, λ z. true≢false (sym there ∙ ap w (sym z) ∙ p))

  onward_only : onward w d ≡ e
  onward_only = by (w (step_after d 3)) refl (w (step_after d 0)) refl (w (step_after d 1)) refl
    where
      by : (r : Bool) → w (step_after d 3) ≡ r → (s : Bool) → w (step_after d 0) ≡ s → (l : Bool) → w (step_after d 1) ≡ l → onward w d ≡ e
      by true p s q l r = rw p (⊎_elim (λ z. z.1) (λ z. absurd (true≢false z.0)) (test 3 (omega arith) (λ z. omega arith) true p))
      by false p true q l r = rw (p, q) (⊎_elim (λ z. z.1) (λ z. absurd (true≢false z.0)) (test 0 (omega arith) (λ z. omega arith) true q))
      by false p false q true r = rw (p, q, r) (⊎_elim (λ z. z.1) (λ z. absurd (true≢false z.0)) (test 1 (omega arith) (λ z. omega arith) true r))
      by false p false q false r =
          absurd (none (⊎_elim (λ z. absurd (false≢true z.0)) (λ z. z.1) (test 3 (omega arith) (λ z. omega arith) false p)) (⊎_elim (λ z. absurd (false≢true z.0)) (λ z. z.1) (test 0 (omega arith) (λ z. omega arith) false q)) (⊎_elim (λ z. absurd (false≢true z.0)) (λ z. z.1) (test 1 (omega arith) (λ z. omega arith) false r)))
        where
          none : (step_after d 3 ≡ e → ⊥) → (step_after d 0 ≡ e → ⊥) → (step_after d 1 ≡ e → ⊥) → ⊥
          none a b c = other (sym (last_turn d e hd he a b c) ∙ sym (back-mod d hd))

-- a step of a walk stands at a place of it
edge_place : (c : Corner) (ds : List ℕ) (e : Corner × Corner) → Memᴰ e (legs_from c ds) → (i : ℕ) × (i < length ds) × (e ≡ (corner_at c ds i, stepped (get_or ds i 0) (corner_at c ds i)))
edge_place c [] e m = absurd (Memᴰ.not-nil m)
edge_place c (d ∷ ds) e m =
    ⊎_elim (λ z. (0, omega arith, z)) (λ t. let k = edge_place (stepped d c) ds e t in (suc k.0, omega (arith, k.1), k.2)) (Memᴰ.cases_cons m)

place_edge : (c : Corner) (ds : List ℕ) (i : ℕ) → i < length ds → Memᴰ (corner_at c ds i, stepped (get_or ds i 0) (corner_at c ds i)) (legs_from c ds)
place_edge c [] i h = absurd (omega arith)
place_edge c (d ∷ ds) zero h = Memᴰ.head refl
place_edge c (d ∷ ds) (suc i) h = Memᴰ.tail (place_edge (stepped d c) ds i (omega arith))

pub corner-next : (c : Corner) (ds : List ℕ) (i : ℕ) → i < length ds → corner_at c ds (suc i) ≡ stepped (get_or ds i 0) (corner_at c ds i)
corner-next c [] i h = absurd (omega arith)
corner-next c (d ∷ ds) zero h = refl
corner-next c (d ∷ ds) (suc i) h = corner-next (stepped d c) ds i (omega arith)

module _ (c : Corner) (ds : List ℕ) (r : IsRoom c ds) (b : Below 4 ds) (long : 2 < length ds) where
  abbrev n : ℕ
  n = length ds

  abbrev p : ℕ → Corner
  p k = corner_at c ds k

  abbrev d : ℕ → ℕ
  d k = get_or ds k 0

  small : (k : ℕ) → k < n → d k < 4
  small k h = below_get_d 4 ds k b h

  closing : p n ≡ p 0
  closing = corner_at_end c ds ∙ r.closed

  meet : (j k : ℕ) → j < k → k ≤ n → p j ≡ p k → (j ≡ 0) × (k ≡ n)
  meet j k h l e = r.only j k (record { earlier = h; within = l; equal = e })

  -- corners before the last differ, and so do those after the first
  same_early : (j k : ℕ) → j < n → k < n → p j ≡ p k → j ≡ k
  same_early j k h l e =
      elim (dec_lt j k) [
        | yes g ↦ let m = meet j k g (omega arith) e in absurd (omega (arith, m.1))
        | no g ↦ elim (dec_lt k j) [ yes f ↦ let m = meet k j f (omega arith) (sym e) in absurd (omega (arith, m.1)) | no f ↦ omega arith ]
      ]

  same_late : (j k : ℕ) → 0 < j → 0 < k → j ≤ n → k ≤ n → p j ≡ p k → j ≡ k
  same_late j k h l x y e =
      elim (dec_lt j k) [
        | yes g ↦ let m = meet j k g y e in absurd (omega (arith, m.0))
        | no g ↦ elim (dec_lt k j) [ yes f ↦ let m = meet k j f x (sym e) in absurd (omega (arith, m.0)) | no f ↦ omega arith ]
      ]

  forward : (i : ℕ) → i < n → walked c ds (p i) (d i) ≡ true
  forward i h = edge_walked c ds (p i) (d i) (inl (place_edge c ds i h))

  -- the edge of a step, seen from its end
  behind : (i : ℕ) → i < n → walked c ds (p (suc i)) (back (d i)) ≡ true
  behind i h = subst (λ (q : Corner). walked c ds q (back (d i)) ≡ true) (sym (corner-next c ds i h)) (walked-back c ds (p i) (d i) (forward i h))

  -- the place of the corner after step k: the next, or the first again
  module _ (k m : ℕ) (hk : k < n) (hm : m < n) (em : p m ≡ p (suc k)) (turn : ((m ≡ suc k) × (suc k < n)) ⊎ ((m ≡ 0) × (suc k ≡ n))) where
    only_two : (x : ℕ) → x < 4 → walked c ds (p m) x ≡ true → (x ≡ d m) ⊎ (x ≡ back (d k))
    only_two x hx w = ⊎_elim forth against (walked_edge c ds (p m) x w)
      where
        forth : Memᴰ (p m, stepped x (p m)) (legs_from c ds) → (x ≡ d m) ⊎ (x ≡ back (d k))
        forth t =
            let g = edge_place c ds (p m, stepped x (p m)) t in
            let z : m ≡ g.0 = same_early m g.0 hm g.1 (ap (λ (y : Corner × Corner). y.0) g.2) in
            inl (stepped_inj x (d m) (p m) hx (small m hm) (ap (λ (y : Corner × Corner). y.1) g.2 ∙ ap (λ (y : ℕ). stepped (d y) (p y)) (sym z)))

        against : Memᴰ (stepped x (p m), p m) (legs_from c ds) → (x ≡ d m) ⊎ (x ≡ back (d k))
        against t =
            let g = edge_place c ds (stepped x (p m), p m) t in
            let z : suc k ≡ suc g.0 = same_late (suc k) (suc g.0) (omega arith) (omega arith) (omega arith) (omega (arith, g.1)) (sym em ∙ ap (λ (y : Corner × Corner). y.1) g.2 ∙ sym (corner-next c ds g.0 g.1)) in
            let y : g.0 ≡ k = omega (arith, z) in
            let u : stepped x (p m) ≡ p k = ap (λ (v : Corner × Corner). v.0) g.2 ∙ ap p y in
            inr (stepped_inj x (back (d k)) (p m) hx (back_small (d k)) (u ∙ sym (stepped-back (d k) (p k)) ∙ ap (stepped (back (d k))) (sym (corner-next c ds k hk) ∙ sym em)))

    not_back : d m ≡ back (d k) → ⊥
    not_back e = ⊎_elim later first turn
      where
        twice : p (suc m) ≡ p k
        twice = corner-next c ds m hm ∙ ap (λ (y : ℕ). stepped y (p m)) e ∙ ap (stepped (back (d k))) (em ∙ corner-next c ds k hk) ∙ stepped-back (d k) (p k)

        later : (m ≡ suc k) × (suc k < n) → ⊥
        later z = let g = meet k (suc m) (omega (arith, z.0)) (omega (arith, z.0)) (sym twice) in omega (arith, g.0, g.1, z.0)

        first : (m ≡ 0) × (suc k ≡ n) → ⊥
        first z = let g = same_late (suc m) k (omega arith) (omega (arith, z.1)) (omega (arith, hm)) (omega arith) twice in omega (arith, g, z.0, z.1)

    -- the room forwards
    pub room_next : next c ds (p k, d k) ≡ (p m, d m)
    room_next =
        let q : stepped (d k) (p k) ≡ p m = sym (corner-next c ds k hk) ∙ sym em in
        ap₂ (λ (a : Corner) (x : ℕ). (a, x)) q (ap (λ (a : Corner). onward (walked c ds a) (d k)) q ∙ onward_only (walked c ds (p m)) (d k) (d m) (small k hk) (small m hm) (forward m hm) not_back only_two)

    -- and backwards
    pub room_back : next c ds (p (suc m), back (d m)) ≡ (p m, back (d k))
    room_back =
        let q : stepped (back (d m)) (p (suc m)) ≡ p m = ap (stepped (back (d m))) (corner-next c ds m hm) ∙ stepped-back (d m) (p m) in
        let b : back (back (d m)) ≡ d m = back-back (d m) (small m hm) in
        ap₂ (λ (a : Corner) (x : ℕ). (a, x)) q
        (ap (λ (a : Corner). onward (walked c ds a) (back (d m))) q
        ∙ onward_only (walked c ds (p m)) (back (d m)) (back (d k)) (back_small (d m)) (back_small (d k)) (subst (λ (a : Corner). walked c ds a (back (d k)) ≡ true) (sym em) (behind k hk)) (λ e. not_back (sym (e ∙ b)))
        (λ x hx w. ⊎_elim (λ e. inr (e ∙ sym b)) (λ e. inl e) (only_two x hx w)))

-- the room from its corner j, the lowest of the leftmost
module _ (c : Corner) (ds : List ℕ) (r : IsRoom c ds) (b : Below 4 ds) (j : ℕ) (hj : j < length ds) (home : corner_at c ds j ≡ home_of c ds) where
  abbrev at : ℕ → ℕ
  at = on_ring (length ds) j

  long : 2 < length ds
  long = omega (arith, r.four)

  abbrev Follows : ℕ → ℕ → Type 0
  Follows k m = ((m ≡ suc k) × (suc k < length ds)) ⊎ ((m ≡ 0) × (suc k ≡ length ds))

  follows : (k m : ℕ) → Follows k m → corner_at c ds m ≡ corner_at c ds (suc k)
  follows k m (inl z) = ap (corner_at c ds) z.0
  follows k m (inr z) = ap (corner_at c ds) z.0 ∙ sym (closing c ds r b long) ∙ ap (corner_at c ds) (sym z.1)

  at_first : at 0 ≡ j
  at_first = ⊎_elim (λ z. omega (arith, z.0)) (λ z. absurd (omega (arith, z.0))) (on_ring_cases (length ds) j 0 hj (omega arith))

  at_small : (n : ℕ) → n < length ds → at n < length ds
  at_small n h = ⊎_elim (λ z. omega (arith, z.0, z.1)) (λ z. z.1) (on_ring_cases (length ds) j n hj h)

  at_next : (n : ℕ) → suc n < length ds → Follows (at n) (at (suc n))
  at_next n h = go (on_ring_cases (length ds) j n hj (omega arith)) (on_ring_cases (length ds) j (suc n) hj h)
    where
      go : ((at n ≡ j + n) × (j + n < length ds)) ⊎ ((at n + length ds ≡ j + n) × (at n < length ds)) → ((at (suc n) ≡ j + suc n) × (j + suc n < length ds)) ⊎ ((at (suc n) + length ds ≡ j + suc n) × (at (suc n) < length ds)) → Follows (at n) (at (suc n))
      go (inl x) (inl y) = inl (omega (arith, x.0, y.0), omega (arith, x.0, y.1))
      go (inl x) (inr y) = inr (omega (arith, x.1, y.0), omega (arith, x.0, x.1, y.0))
      go (inr x) (inl y) = absurd (omega (arith, x.0, y.1))
      go (inr x) (inr y) = inl (omega (arith, x.0, y.0), omega (arith, x.0, y.0, y.1))

  at_last : (n : ℕ) → suc n ≡ length ds → Follows (at n) j
  at_last n h = go (on_ring_cases (length ds) j n hj (omega arith))
    where
      go : ((at n ≡ j + n) × (j + n < length ds)) ⊎ ((at n + length ds ≡ j + n) × (at n < length ds)) → Follows (at n) j
      go (inl x) = inr (omega (arith, x.1), omega (arith, x.0, x.1))
      go (inr x) = inl (omega (arith, x.0), omega (arith, x.0, hj))

  -- only the first of them is home
  not_home : (n : ℕ) → n < length ds → at n ≡ j → n ≡ 0
  not_home n h e = ⊎_elim (λ z. omega (arith, z.0)) (λ z. absurd (omega (arith, z.0, h))) (on_ring_cases (length ds) j n hj h)

  first-east : walked c ds (home_of c ds) 0 ≡ true → first_way c ds ≡ 0
  first-east w = ⊎_elim (λ k. k.1) (λ k. absurd (true≢false (sym w ∙ k.0))) (ways c ds)

  -- forwards, if it leaves home to the east
  forth : get_or ds j 0 ≡ 0 → OutlineIs c ds (started_at j ds)
  forth east = ring_outline c ds (started_at j ds) (omega (arith, hj)) (λ n. (corner_at c ds (at n), get_or ds (at n) 0)) (record {
    some = omega (arith, l, hj);
    first = ap (λ (i : ℕ). (corner_at c ds i, get_or ds i 0)) at_first ∙ ap₂ (λ (a : Corner) (x : ℕ). (a, x)) home (east ∙ sym (first-east (ap₂ (λ (a : Corner) (x : ℕ). walked c ds a x) (sym home) (sym east) ∙ forward c ds r b long j hj)));
    onto = λ n h. step n (at (suc n)) (omega (arith, l, h)) (at_small (suc n) (omega (arith, l, h))) (at_next n (omega (arith, l, h)));
    again = λ n e. step n j (omega (arith, l, e)) hj (at_last n (omega (arith, l, e))) ∙ ap (λ (i : ℕ). (corner_at c ds i, get_or ds i 0)) (sym at_first);
    apart = λ n h g e. let z = not_home n (omega (arith, l, g)) (same_early c ds r b long (at n) j (at_small n (omega (arith, l, g))) hj (e ∙ sym home)) in omega (arith, z, h);
    steps = λ n h. started_at_lem ds j hj n (omega (arith, l, h));
  })
    where
      l : length (started_at j ds) ≡ length ds
      l = length_started ds j hj

      step : (n m : ℕ) → n < length ds → m < length ds → Follows (at n) m → next c ds (corner_at c ds (at n), get_or ds (at n) 0) ≡ (corner_at c ds m, get_or ds m 0)
      step n m h g f = room_next c ds r b long (at n) m (at_small n h) g (follows (at n) m f) f

  -- the places from the other side
  abbrev from : ℕ → ℕ
  from n = at (length ds - 1 - n)

  -- backwards, if it comes home from the east
  aback : back (get_or ds (from 0) 0) ≡ 0 → OutlineIs c ds (backward (started_at j ds))
  aback east = ring_outline c ds (backward (started_at j ds)) (omega (arith, hj)) (λ n. (corner_at c ds (suc (from n)), back (get_or ds (from n) 0))) (record {
    some = omega (arith, l, hj);
    first = ap₂ (λ (a : Corner) (x : ℕ). (a, x)) came (east ∙ sym (first-east (ap₂ (λ (a : Corner) (x : ℕ). walked c ds a x) (sym came) (sym east) ∙ behind c ds r b long (from 0) (at_small (length ds - 1 - 0) (omega (arith, hj))))));
    onto = λ n h. step (from (suc n)) (from n) (at_small (length ds - 1 - suc n) (omega (arith, hj))) (at_small (length ds - 1 - n) (omega (arith, hj))) (subst (Follows (from (suc n))) (ap at (inner n (omega (arith, l, h)))) (at_next (length ds - 1 - suc n) (omega (arith, l, h))));
    again = λ n e. step (from 0) (from n) (at_small (length ds - 1 - 0) (omega (arith, hj))) (at_small (length ds - 1 - n) (omega (arith, hj))) (subst (Follows (from 0)) (sym (ap at (outer n (omega (arith, l, e))) ∙ at_first)) (at_last (length ds - 1 - 0) (omega (arith, hj))));
    apart = λ n h g e. alone n h (omega (arith, l, g)) (e ∙ sym home);
    steps = λ n h. backward-at (started_at j ds) n (length ds - 1 - n) (omega (arith, l, h, length_started ds j hj)) ∙ ap back (started_at_lem ds j hj (length ds - 1 - n) (omega (arith, hj)));
  })
    where
      l : length (backward (started_at j ds)) ≡ length ds
      l = length-backward (started_at j ds) ∙ length_started ds j hj

      inner : (n : ℕ) → suc n < length ds → suc (length ds - 1 - suc n) ≡ length ds - 1 - n
      inner n h = omega arith

      outer : (n : ℕ) → suc n ≡ length ds → length ds - 1 - n ≡ 0
      outer n e = omega arith

      came : corner_at c ds (suc (from 0)) ≡ home_of c ds
      came = sym (follows (from 0) j (at_last (length ds - 1 - 0) (omega (arith, hj)))) ∙ home

      step : (k m : ℕ) → k < length ds → m < length ds → Follows k m → next c ds (corner_at c ds (suc m), back (get_or ds m 0)) ≡ (corner_at c ds (suc k), back (get_or ds k 0))
      step k m hk hm f = room_back c ds r b long k m hk hm (follows k m f) f ∙ ap (λ (a : Corner). (a, back (get_or ds k 0))) (follows k m f)

      alone : (n : ℕ) → 0 < n → n < length ds → corner_at c ds (suc (from n)) ≡ corner_at c ds j → ⊥
      alone n h g e = by (on_ring_cases (length ds) j (length ds - 1 - n) hj (omega arith))
        where
          place : (suc (from n) ≡ j) ⊎ ((suc (from n) ≡ length ds) × (j ≡ 0))
          place =
              elim (dec_lt (suc (from n)) (length ds)) [
                | yes k ↦ inl (same_early c ds r b long (suc (from n)) j k hj e)
                | no k ↦
                    let z : suc (from n) ≡ length ds = omega (arith, at_small (length ds - 1 - n) (omega arith)) in
                    inr (z, same_early c ds r b long j 0 hj (omega arith) (sym e ∙ ap (corner_at c ds) z ∙ closing c ds r b long))
              ]

          by : ((from n ≡ j + (length ds - 1 - n)) × (j + (length ds - 1 - n) < length ds)) ⊎ ((from n + length ds ≡ j + (length ds - 1 - n)) × (from n < length ds)) → ⊥
          by (inl z) = ⊎_elim (λ k. omega (arith, z.0, k)) (λ k. omega (arith, z.0, k.0, k.1, h, g)) place
          by (inr z) = ⊎_elim (λ k. omega (arith, z.0, k, h, g)) (λ k. omega (arith, z.0, k.1, g)) place

  -- it leaves home to the east or comes from there
  turns-east : (get_or ds j 0 ≡ 0) ⊎ (back (get_or ds (from 0) 0) ≡ 0)
  turns-east = go (get_or ds j 0) refl (two (get_or ds j 0) (ap (λ (a : Corner). walked c ds a (get_or ds j 0)) (sym home) ∙ forward c ds r b long j hj))
    where
      i : ℕ
      i = from 0

      f : Follows i j
      f = at_last (length ds - 1 - 0) (omega (arith, hj))

      two : (d : ℕ) → walked c ds (home_of c ds) d ≡ true → d < 2
      two d w = elim (dec_lt d 2) [ yes h ↦ h | no h ↦ absurd (true≢false (sym w ∙ home_ways c ds d (omega arith))) ]

      go : (d : ℕ) → get_or ds j 0 ≡ d → d < 2 → (get_or ds j 0 ≡ 0) ⊎ (back (get_or ds (from 0) 0) ≡ 0)
      go zero e h = inl e
      go (suc zero) e h = other (back (get_or ds i 0)) refl (two (back (get_or ds i 0)) (ap (λ (a : Corner). walked c ds a (back (get_or ds i 0))) (sym home ∙ follows i j f) ∙ behind c ds r b long i (at_small (length ds - 1 - 0) (omega (arith, hj)))))
        where
          other : (x : ℕ) → back (get_or ds i 0) ≡ x → x < 2 → (get_or ds j 0 ≡ 0) ⊎ (back (get_or ds (from 0) 0) ≡ 0)
          other zero q h = inr q
          other (suc zero) q h = absurd (not_back c ds r b long i j (at_small (length ds - 1 - 0) (omega (arith, hj))) hj (follows i j f) f (e ∙ sym q))
          other (suc (suc x)) q h = absurd (omega arith)
      go (suc (suc d)) e h = absurd (omega arith)

  room-round : OutlineIs c ds (started_at j ds) ⊎ OutlineIs c ds (backward (started_at j ds))
  room-round = ⊎_map forth aback turns-east

-- home is one of its corners
room_home : (c : Corner) (ds : List ℕ) → IsRoom c ds → (j : ℕ) × (j < length ds) × (corner_at c ds j ≡ home_of c ds)
room_home c ds r =
    let h = get_d_mem (corners_from c ds) c (home_visited c ds) in
    let e : corner_at c ds h.0 ≡ home_of c ds = sym (corners_from-at c ds h.0 c (omega (arith, h.1, length-corners_from c ds))) ∙ h.2 in
    elim (dec_lt h.0 (length ds)) [
      | yes l ↦ (h.0, l, e)
      | no l ↦
          let z : length ds ≡ h.0 = omega (arith, h.1, length-corners_from c ds) in
          (0, omega (arith, r.four), sym r.closed ∙ sym (corner_at_end c ds) ∙ ap (corner_at c ds) z ∙ e)
    ]

pub room_outline : (c : Corner) (ds : List ℕ) → IsRoom c ds → Below 4 ds → {es : List ℕ} → OutlineIs c ds es → (j : ℕ) × (j < length ds) × (corner_at c ds j ≡ home_of c ds) × ((es ≡ started_at j ds) ⊎ (es ≡ backward (started_at j ds)))
room_outline c ds r b o =
    let h = room_home c ds r in
    (h.0, h.1, h.2, ⊎_map (λ q. outline_is_one o q) (λ q. outline_is_one o q) (room-round c ds r b h.0 h.1 h.2))
