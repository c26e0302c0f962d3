-- A room laid down twice: from each of its first places on, it stands there from another of its corners.
-- Assumes nothing.
use mathlib.Core.Bool.{Bool, true, false}
use mathlib.Core.List.{List, [], ◌∷◌, ◌++◌}
use mathlib.Core.Path.{◌≡◌, refl, sym, ap, subst, ◌∙◌}
use Prim.Native.Nat.{ℕ, suc, ◌+◌, ◌*◌, ◌-◌, ◌%◌, ◌≤◌, ◌<◌}
use native.Mathlib.Decide.{dec_lt, ℕ_discrete}
use native.Mathlib.Omega.{arith}
use lib.Dec.{ltb}
use lib.ListN.{length, get_or, take, drop, set, length-take, length-drop, length-set, get_or-append, get_or-eq_default}
use lib.Seq.{get_or-take, get_or-drop, get_or-append_seam, get_or-append-add, get_or-set_same, get_or-set_other, ext_get_or}
use Rattle.area_laws.proofs.MovedLaws.{length-backward}
use Rattle.grid.specs.declared.Corner.{Corner}
use Rattle.grid.specs.Grid.{origin, end_from, back}
use Rattle.grid.proofs.StepLaws.{back-mod, back_small}
use Rattle.column_laws.specs.Columns.{middle}
use Rattle.panels.specs.Moved.{started_at, backward}
use Rattle.convex_laws.specs.Place.{place_of}
use Rattle.convex_laws.specs.Way.{north_in, south_in, column_sum, travelled}
use Rattle.convex_laws.specs.Decide.{convex_from, convex_round, convex_of}
use Rattle.convex_laws.proofs.PlaceLaws.{place_of-found}
use Rattle.convex_laws.proofs.RoomLaws.{length_started}
use Rattle.convex_laws.proofs.WayLaws.{sums_way}
use Rattle.convex_part.specs.Steps.{Digits}
use Rattle.convex_call.proofs.PartLaws.{digits_slice}
use Rattle.convex_call.specs.Laid.{LaidTwice}

-- ---- the chain backwards

backward-at : (ds : List ℕ) (i : ℕ) → i < length ds → get_or (backward ds) i 0 ≡ back (get_or ds (length ds - 1 - i) 0)
backward-at [] i h = absurd (omega arith)
backward-at (d ∷ ds) i h = go (dec_lt i (length ds)) (λ l. backward-at ds i l)
  where
    go : Dec (i < length ds) → (i < length ds → get_or (backward ds) i 0 ≡ back (get_or ds (length ds - 1 - i) 0)) → get_or (backward ds ++ (back d ∷ [])) i 0 ≡ back (get_or (d ∷ ds) (suc (length ds) - 1 - i) 0)
    go (yes l) f = get_or-append (backward ds) (back d ∷ []) 0 i (omega (arith, length-backward ds)) ∙ f l ∙ ap (λ (n : ℕ). back (get_or (d ∷ ds) n 0)) there
      where
        there : suc (length ds - 1 - i) ≡ suc (length ds) - 1 - i
        there = omega arith
    go (no l) f = ap (λ (n : ℕ). get_or (backward ds ++ (back d ∷ [])) n 0) last ∙ get_or-append_seam (backward ds) (back d) [] 0 ∙ ap (λ (n : ℕ). back (get_or (d ∷ ds) n 0)) none
      where
        last : i ≡ length (backward ds)
        last = omega (arith, length-backward ds)

        none : 0 ≡ suc (length ds) - 1 - i
        none = omega arith

pub step_back : (ds : List ℕ) (i : ℕ) → Digits ds → i < length ds → (b : Bool) → b ≡ true → (get_or ds (length ds - 1 - i) 0 + 2) % 4 ≡ get_or (travelled b ds) i 0
step_back ds i d h b e = sym (back-mod (get_or ds (length ds - 1 - i) 0) (d.digits (length ds - 1 - i))) ∙ sym (backward-at ds i h) ∙ ap (λ (x : Bool). get_or (travelled x ds) i 0) (sym e)

pub step_on : (ds : List ℕ) (i : ℕ) (b : Bool) → b ≡ false → get_or ds i 0 ≡ get_or (travelled b ds) i 0
step_on ds i b e = ap (λ (x : Bool). get_or (travelled x ds) i 0) (sym e)

length-travelled : (b : Bool) (ds : List ℕ) → length (travelled b ds) ≡ length ds
length-travelled true ds = length-backward ds
length-travelled false ds = refl

digits_travelled : (b : Bool) (ds : List ℕ) → Digits ds → Digits (travelled b ds)
digits_travelled false ds d = d
digits_travelled true ds d = record { digits = λ k. go k (dec_lt k (length ds)) }
  where
    go : (k : ℕ) → Dec (k < length ds) → get_or (backward ds) k 0 < 4
    go k (yes h) = omega (arith, backward-at ds k h, back_small (get_or ds (length ds - 1 - k) 0))
    go k (no h) = omega (arith, get_or-eq_default (backward ds) 0 {n = k} (omega (arith, length-backward ds)))

-- ---- laid down twice

pub laid_none : (w : List ℕ) (n : ℕ) (out : List ℕ) → LaidTwice w n out 0
laid_none w n out = record { once = λ j h. absurd (omega arith); again = λ j h. absurd (omega arith) }

pub laid_step : (w : List ℕ) (n : ℕ) (out : List ℕ) (i d : ℕ) → LaidTwice w n out i → i < n → 2 * n ≤ length out → d ≡ get_or w i 0 → LaidTwice w n (set (set out i d) (n + i) d) (i + 1)
laid_step w n out i d t h g e = record { once = λ j l. once j l (ℕ_discrete j i); again = λ j l. again j l (ℕ_discrete j i) }
  where
    here : (j : ℕ) → j ≡ i → d ≡ get_or w j 0
    here j f = e ∙ ap (λ (m : ℕ). get_or w m 0) (sym f)

    once : (j : ℕ) → j < i + 1 → Dec (j ≡ i) → get_or (set (set out i d) (n + i) d) j 0 ≡ get_or w j 0
    once j l (yes f) = get_or-set_other (set out i d) (n + i) j d 0 (λ k. omega arith) ∙ ap (λ (m : ℕ). get_or (set out i d) m 0) f ∙ get_or-set_same out i d 0 (omega arith) ∙ here j f
    once j l (no f) = get_or-set_other (set out i d) (n + i) j d 0 (λ k. omega arith) ∙ get_or-set_other out i j d 0 f ∙ t.once j (omega arith)

    again : (j : ℕ) → j < i + 1 → Dec (j ≡ i) → get_or (set (set out i d) (n + i) d) (n + j) 0 ≡ get_or w j 0
    again j l (yes f) = ap (λ (m : ℕ). get_or (set (set out i d) (n + i) d) (n + m) 0) f ∙ get_or-set_same (set out i d) (n + i) d 0 (omega (arith, length-set out i d)) ∙ here j f
    again j l (no f) = get_or-set_other (set out i d) (n + i) (n + j) d 0 (λ k. f (omega arith)) ∙ get_or-set_other out i (n + j) d 0 (λ k. omega arith) ∙ t.again j (omega arith)

module _ (w out : List ℕ) (n : ℕ) (t : LaidTwice w n out n) (e : length w ≡ n) (room : 2 * n ≤ length out) where
  laid_once : take n out ≡ w
  laid_once = ext_get_or 0 (take n out) w (length-take n out ∙ omega arith) (λ i h. get_or-take n out i 0 (omega (arith, length-take n out)) ∙ t.once i (omega (arith, length-take n out)))

  laid_round : (m k : ℕ) → m ≤ n → k ≡ n → take k (drop m out) ≡ started_at m w
  laid_round m k h f = ext_get_or 0 (take k (drop m out)) (started_at m w) (length-take k (drop m out) ∙ omega (arith, length-drop m out, length_started m w)) each
    where
      each : (i : ℕ) → i < length (take k (drop m out)) → get_or (take k (drop m out)) i 0 ≡ get_or (started_at m w) i 0
      each i l = get_or-take k (drop m out) i 0 (omega (arith, length-take k (drop m out))) ∙ get_or-drop m out i 0 ∙ by (dec_lt (m + i) n)
        where
          by : Dec (m + i < n) → get_or out (m + i) 0 ≡ get_or (started_at m w) i 0
          by (yes s) = t.once (m + i) s ∙ sym (get_or-drop m w i 0) ∙ sym (get_or-append (drop m w) (take m w) 0 i (omega (arith, length-drop m w)))
          by (no s) = ap (λ (j : ℕ). get_or out j 0) over ∙ t.again r (omega (arith, length-take k (drop m out))) ∙ sym (get_or-take m w r 0 (omega (arith, length-take k (drop m out)))) ∙ sym (get_or-append-add (drop m w) (take m w) r 0) ∙ ap (λ (j : ℕ). get_or (started_at m w) j 0) past
            where
              r : ℕ
              r = (m + i) - n

              over : m + i ≡ n + r
              over = omega arith

              past : length (drop m w) + r ≡ i
              past = omega (arith, length-drop m w)

-- ---- the decision

pub place-within : (t : ℕ) (ds : List ℕ) → length ds ≤ middle → place_of t ds ≤ length ds
place-within t ds h = (place_of-found t ds h origin).within

digits_started : (m : ℕ) (w : List ℕ) → Digits w → Digits (started_at m w)
digits_started m w d = record { digits = λ k. go k (dec_lt k (length (drop m w))) }
  where
    go : (k : ℕ) → Dec (k < length (drop m w)) → get_or (started_at m w) k 0 < 4
    go k (yes h) = omega (arith, get_or-append (drop m w) (take m w) 0 k h, get_or-drop m w k 0, d.digits (m + k))
    go k (no h) = omega (arith, ap (λ (j : ℕ). get_or (started_at m w) j 0) over, get_or-append-add (drop m w) (take m w) r 0, (digits_slice w m 0 d).digits r)
      where
        r : ℕ
        r = k - length (drop m w)

        over : k ≡ length (drop m w) + r
        over = omega arith

-- the room laid down as far as its first extremal corner, found at place m
module _ (ds out : List ℕ) (b : Bool) (d : Digits ds) (short : length ds ≤ middle) (room : 2 * length ds ≤ length out) (t : LaidTwice (travelled b ds) (length ds) out (length ds)) (m : ℕ) (e : m ≡ place_of 0 (take (length ds) out)) where
  once : take (length ds) out ≡ travelled b ds
  once = laid_once (travelled b ds) out (length ds) t (length-travelled b ds) room

  at : m ≡ place_of 0 (travelled b ds)
  at = e ∙ ap (place_of 0) once

  pub store_near : m ≤ length ds
  store_near = omega (arith, at, place-within 0 (travelled b ds) (omega (arith, short, length-travelled b ds)), length-travelled b ds)

  round : take ((m + length ds) - m) (drop m out) ≡ started_at m (travelled b ds)
  round = laid_round (travelled b ds) out (length ds) t (length-travelled b ds) room m ((m + length ds) - m) store_near (omega arith)

  pub store_digits : Digits (take ((m + length ds) - m) (drop m out))
  store_digits = subst Digits (sym round) (digits_started m (travelled b ds) (digits_travelled b ds d))

  pub store_length : length (take ((m + length ds) - m) (drop m out)) ≡ length ds
  store_length = ap length round ∙ length_started m (travelled b ds) ∙ length-travelled b ds

  pub store_told : (r : Bool) → b ≡ ltb (column_sum south_in middle ds) (column_sum north_in middle ds) → r ≡ convex_from (take ((m + length ds) - m) (drop m out)) → (c : Corner) → end_from c ds ≡ c → r ≡ convex_of c ds
  unfolding convex_of convex_round
  store_told r f g c h =
      g ∙ ap convex_from round
      ∙ ap (λ (k : ℕ). convex_from (started_at k (travelled b ds))) at
      ∙ ap (λ (x : Bool). convex_from (started_at (place_of 0 (travelled x ds)) (travelled x ds))) (f ∙ sums_way ds short c h)
