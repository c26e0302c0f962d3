-- The map is filled corner by corner, and shows whether a closed walk is a room.
-- Assumes nothing.
use Rattle.std.proofs.Common.{◌≡◌, ℕ, zero, suc, ◌+◌, ◌-◌, ◌*◌, ◌%◌, ◌^◌, ◌<◌, ◌≤◌, Bool, true, false, List, [], ◌∷◌, length, get_or, take, set, replicate, sym, refl, ap, ◌∙◌, subst, ap₂, true≢false, arith, get_or-set_other, get_or-set_same}
use mathlib.Core.Bool.{false≢true}
use native.Mathlib.Decide.{ℕ_discrete, dec_lt}
use lib.ListN.{get_or-replicate, length-replicate, get_or-eq_default}
use Rattle.column_laws.specs.Columns.{middle, col_after, row_after}
use Rattle.room_thread_laws.specs.Threads.{Double, Scattered, Closes, Told, along_from, columns_from, rows_from}
use Rattle.room_thread_laws.proofs.RoomLaws.{told_open, told_closed}
use Rattle.box_laws.specs.Box.{last_from, column_at, height_at, box_width, box_height, box_place, place_at, place_steps, Boxable}
use Rattle.box_laws.proofs.PlaceLaws.{place-one, place_below, corner_in_lem, width_few}
use Rattle.box_laws.proofs.StepLaws.{places_few, place-next}
use Rattle.box_walk.specs.Boxed.{Boxed}
use Rattle.room_map.specs.Map.{BoxFits, MapStore, Lone, Marked}

-- nothing is marked yet
pub mark-start : (chain : List ℕ) (from : ℕ) (by map : List ℕ) → MapStore chain from by map → Marked chain 0 from map
mark-start chain from by map s = record {
  here = s.fits.start;
  seen = λ p n. absurd (n (s.blank p));
  marked = λ j l. let z : ⊥ = omega arith in absurd z;
  single = λ j k l m. let z : ⊥ = omega arith in absurd z;
}

-- the place of a corner has its byte
pub mark_in : (chain : List ℕ) (i at room : ℕ) (map : List ℕ) → Marked chain i at map → box_width chain * box_height chain ≤ room → at < room
mark_in chain i at room map m h = omega (arith, m.here, place_below chain (column_at chain i, height_at chain i) (corner_in_lem chain i))

module _ (chain : List ℕ) (i at : ℕ) (map : List ℕ) (m : Marked chain i at map) (l : i < length chain) where
  -- the byte is 1 already: a meeting
  pub mark_again : (get_or map at 0 ≡ 0 → ⊥) → Lone chain false
  mark_again n =
      let s = m.seen at n in
      record { yes = λ e. absurd (false≢true e); no = λ e. (s.0, i, s.1, l, s.2 ∙ m.here) }

  module _ (new : get_or map at 0 ≡ 0) (fits : at < length map) where
    same : get_or (set map at 1) at 0 ≡ 1
    same = get_or-set_same map at 1 0 fits

    seen : (p : ℕ) → (get_or (set map at 1) p 0 ≡ 0 → ⊥) → (j : ℕ) × (j < i + 1) × (place_at chain j ≡ p)
    seen p n = go (ℕ_discrete p at)
      where
        go : Dec (p ≡ at) → (j : ℕ) × (j < i + 1) × (place_at chain j ≡ p)
        go (yes e) = (i, omega arith, sym m.here ∙ sym e)
        go (no e) = let s = m.seen p (λ z. n (get_or-set_other map at p 1 0 e ∙ z)) in (s.0, omega (arith, s.1), s.2)

    -- a place before is another one
    other : (j : ℕ) → j < i → place_at chain j ≡ at → ⊥
    other j h e = let z : get_or map at 0 ≡ 1 = ap (λ (p : ℕ). get_or map p 0) (sym e) ∙ m.marked j h in omega arith

    marked : (j : ℕ) → j < i + 1 → get_or (set map at 1) (place_at chain j) 0 ≡ 1
    marked j h = go (ℕ_discrete j i)
      where
        go : Dec (j ≡ i) → get_or (set map at 1) (place_at chain j) 0 ≡ 1
        go (yes e) = ap (λ (p : ℕ). get_or (set map at 1) p 0) (ap (place_at chain) e ∙ sym m.here) ∙ same
        go (no e) = let h' : j < i = omega arith in get_or-set_other map at (place_at chain j) 1 0 (λ q. other j h' q) ∙ m.marked j h'

    single : (j k : ℕ) → j < k → k < i + 1 → place_at chain j ≡ place_at chain k → ⊥
    single j k h g e = go (ℕ_discrete k i)
      where
        go : Dec (k ≡ i) → ⊥
        go (yes q) = other j (omega arith) (e ∙ ap (place_at chain) q ∙ sym m.here)
        go (no q) = m.single j k h (omega arith) e

    -- one step on
    pub mark_step : (at' : ℕ) → Boxable chain → at' ≡ (at + get_or (place_steps (box_width chain)) (get_or chain i 0) 0) % 2 ^ 64 → Marked chain (i + 1) at' (set map at 1)
    mark_step at' w e = record {
      here = e ∙ ap (λ (p : ℕ). (p + get_or (place_steps (box_width chain)) (get_or chain i 0) 0) % 2 ^ 64) m.here ∙ place-next chain w i l;
      seen = seen;
      marked = marked;
      single = single;
    }

pub mark_end : (chain : List ℕ) (i at : ℕ) (map : List ℕ) → Marked chain i at map → length chain ≤ i → Lone chain true
mark_end chain i at map m h = record { yes = λ e j k l g. m.single j k l (omega arith); no = λ e. absurd (true≢false e) }

-- columns and heights of a walk, by place and by corner
along-at : (f : ℕ → ℕ → ℕ) (x : ℕ) (ds : List ℕ) (j : ℕ) → j < length ds → get_or (along_from f x ds) j 0 ≡ last_from f x (take j ds)
unfolding along_from last_from
along-at f x [] j h = let z : ⊥ = omega arith in absurd z
along-at f x (d ∷ ds) zero h = refl
along-at f x (d ∷ ds) (suc j) h = along-at f (f x d) ds j (omega arith)

module _ (chain : List ℕ) (w : Boxable chain) where
  scattered : (r : Bool) → Lone chain r → Scattered chain middle r
  scattered r s = record { yes = λ e d. s.yes e d.j d.k d.earlier d.within (place d); no = λ e. double (s.no e) }
    where
      place : (d : Double (columns_from middle chain) (rows_from middle chain) (length chain)) → place_at chain d.j ≡ place_at chain d.k
      place d =
          let jl : d.j < length chain = omega (arith, d.earlier, d.within) in
          ap₂ (λ (a b : ℕ). box_place chain (a, b))
          (sym (along-at col_after middle chain d.j jl) ∙ d.column ∙ along-at col_after middle chain d.k d.within)
          (sym (along-at row_after middle chain d.j jl) ∙ d.height ∙ along-at row_after middle chain d.k d.within)

      double : (j : ℕ) × (k : ℕ) × (j < k) × (k < length chain) × (place_at chain j ≡ place_at chain k) → Double (columns_from middle chain) (rows_from middle chain) (length chain)
      double (j, k, l, h, e) =
          let jl : j < length chain = omega arith in
          let t = place-one chain (column_at chain j, height_at chain j) (column_at chain k, height_at chain k) (corner_in_lem chain j) (corner_in_lem chain k) e in
          record {
            j = j;
            k = k;
            earlier = l;
            within = h;
            column = along-at col_after middle chain j jl ∙ t.0 ∙ sym (along-at col_after middle chain k h);
            height = along-at row_after middle chain j jl ∙ t.1 ∙ sym (along-at row_after middle chain k h);
          }

  -- a closed walk is a room exactly if no two of its places but the last are one
  pub lone_told : (r : Bool) → 4 ≤ length chain → Closes chain true → Lone chain r → Told chain r
  lone_told r h f s = told_closed chain middle r h f (omega (arith, w.short)) (scattered r s)

-- a map that is new, with the steps in a box of w columns
module _ (chain : List ℕ) (from w room : ℕ) (f : BoxFits chain from w room) where
  -- what is left of 2 ^ 64, for a step to the south
  row_back : (last : ℕ) → (last + w) % 2 ^ 64 ≡ 0 → last < 18446744073709551616 → last ≡ 18446744073709551616 - box_width chain
  unfolding box_width
  row_back last e l =
      let h : box_width chain ≤ 16385 = omega (arith, width_few chain f.steps, f.steps.short) in
      omega (arith, f.wide)

  pub blank-map : (last : ℕ) → (last + w) % 2 ^ 64 ≡ 0 → last < 18446744073709551616 → MapStore chain from (1 ∷ w ∷ 18446744073709551615 ∷ last ∷ []) (replicate room 0)
  unfolding place_steps
  blank-map last e l = record {
    fits = record { steps = f.steps; start = f.start; wide = refl; few = omega (arith, f.few, length-replicate {A = ℕ} room 0) };
    table = ap₂ (λ (a b : ℕ). 1 ∷ a ∷ 18446744073709551615 ∷ b ∷ []) f.wide (row_back last e l);
    blank = zero_all;
  }
    where
      zero_all : (j : ℕ) → get_or (replicate {A = ℕ} room 0) j 0 ≡ 0
      zero_all j = go (dec_lt j room)
        where
          go : Dec (j < room) → get_or (replicate {A = ℕ} room 0) j 0 ≡ 0
          go (yes l) = get_or-replicate room j 0 0 l
          go (no l) = get_or-eq_default (replicate room 0) 0 {n = j} (omega (arith, length-replicate {A = ℕ} room 0))

-- the box as the pass found it
module _ {chain : List ℕ} (s : Boxable chain) {width height from : ℕ} {closed : Bool} (b : Boxed chain width height from closed) where
  -- the number of its corners
  size_is : width * height ≡ box_width chain * box_height chain
  size_is = ap₂ ◌*◌ b.wide b.high

  pub size_few : width * height < 18446744073709551616
  size_few = omega (arith, size_is, places_few chain s)

  pub box_fits : (room : ℕ) → width * height ≤ room → BoxFits chain from width room
  box_fits room h = record { steps = s; start = b.start; wide = b.wide; few = omega (arith, size_is) }

  pub box_told : (r : Bool) → 4 ≤ length chain → closed ≡ true → Lone chain r → Told chain r
  box_told r h e l = lone_told chain s r h (subst (Closes chain) e b.round) l

  pub box_open : closed ≡ false → Told chain false
  box_open e = told_open chain (subst (Closes chain) e b.round)
