-- The map while a walk is read: from the blank map, step by step, to the whole walk.
-- Assumes nothing.
use Rattle.std.proofs.Common.{◌≡◌, ℕ, suc, ◌+◌, ◌%◌, ◌^◌, ◌<◌, ◌≤◌, min, Bool, true, false, ◌&&◌, eqb, List, [], ◌∷◌, ◌++◌, length, get_or, take, set, sym, refl, ap, ◌∙◌, subst, ap₂, ⊎_elim, true≢false, add-one, arith, length-set, get_or-set_other, take-suc, get_or-set_same, set-set, eq-eqb, eqb-true}
use mathlib.Core.List.Memᴰ
use mathlib.Core.List.{Memᴰ}
use native.Mathlib.Decide.{ℕ_discrete, dec_lt}
use lib.Bits.{bit_or}
use lib.Seq.{take-length}
use Rattle.lists.proofs.DistinctLaws.{mem_get_d}
use Rattle.lists.proofs.GatherLaws.{and_left, and_right}
use Rattle.grid.specs.declared.Corner.{Corner}
use Rattle.grid.specs.Grid.{origin, same, stepped, back, corners_from, end_from}
use Rattle.grid.proofs.CornerLaws.{same_refl, same_sound}
use Rattle.grid.proofs.StepLaws.{back_small, end_from_snoc, corners_from_snoc, corners_from-at, length-corners_from, start_from_mem}
use Rattle.column_laws.proofs.BeginLaws.{begins_both}
use Rattle.outline.specs.Outline.{walked}
use Rattle.outline_laws.proofs.HomeLaws.{home_one}
use Rattle.outline_laws.proofs.LinkLaws.{walked-last, walked-last-back, walked_other}
use Rattle.outline_map.specs.Map.{way_on, with_bits, Placed, Shown, Mapped}
use Rattle.outline_map.proofs.BitLaws.{bit_small, bit_more, bit_there, bit_other, zero_way}

-- ---- one bit of one byte

module _ (map : List ℕ) (b f : ℕ) (small : (x : ℕ) → get_or map x 0 < 16) (hf : f < 4) (hb : b < length map) where
  stamp_here : (x : ℕ) → x ≡ b → get_or (with_bits map b (2 ^ f)) x 0 ≡ bit_or (get_or map b 0) (2 ^ f)
  stamp_here x e = ap (λ (y : ℕ). get_or (with_bits map b (2 ^ f)) y 0) e ∙ get_or-set_same map b (bit_or (get_or map b 0) (2 ^ f)) 0 hb

  stamp_far : (x : ℕ) → (x ≡ b → ⊥) → get_or (with_bits map b (2 ^ f)) x 0 ≡ get_or map x 0
  stamp_far x e = get_or-set_other map b x (bit_or (get_or map b 0) (2 ^ f)) 0 e

  stamp_small : (x : ℕ) → get_or (with_bits map b (2 ^ f)) x 0 < 16
  stamp_small x =
      elim (ℕ_discrete x b) [
        | yes e ↦ subst (λ (n : ℕ). n < 16) (sym (stamp_here x e)) (bit_small (get_or map b 0) f 0 (small b) hf (omega arith))
        | no e ↦ subst (λ (n : ℕ). n < 16) (sym (stamp_far x e)) (small x)
      ]

  stamp_more : (x e : ℕ) → e < 4 → way_on (get_or map x 0) e ≡ true → way_on (get_or (with_bits map b (2 ^ f)) x 0) e ≡ true
  stamp_more x e he w =
      elim (ℕ_discrete x b) [
        | yes z ↦ ap (λ (n : ℕ). way_on n e) (stamp_here x z) ∙ bit_more (get_or map b 0) f e (small b) hf he (ap (λ (y : ℕ). way_on (get_or map y 0) e) (sym z) ∙ w)
        | no z ↦ ap (λ (n : ℕ). way_on n e) (stamp_far x z) ∙ w
      ]

  stamp_there : (x e : ℕ) → x ≡ b → e ≡ f → way_on (get_or (with_bits map b (2 ^ f)) x 0) e ≡ true
  stamp_there x e z g = ap (λ (n : ℕ). way_on n e) (stamp_here x z) ∙ bit_there (get_or map b 0) f e (small b) hf (omega (arith, g, hf)) g

  stamp_other : (x e : ℕ) → e < 4 → ((x ≡ b) × (e ≡ f) → ⊥) → way_on (get_or (with_bits map b (2 ^ f)) x 0) e ≡ way_on (get_or map x 0) e
  stamp_other x e he n =
      elim (ℕ_discrete x b) [
        | yes z ↦ ap (λ (n : ℕ). way_on n e) (stamp_here x z) ∙ bit_other (get_or map b 0) f e (small b) hf he (λ g. n (z, g)) ∙ ap (λ (y : ℕ). way_on (get_or map y 0) e) (sym z)
        | no z ↦ ap (λ (n : ℕ). way_on n e) (stamp_far x z)
      ]

-- what stands there already and one bit more, in one store
stamp_both : (map : List ℕ) (b last x : ℕ) → b < length map → set map b (bit_or (bit_or (get_or map b 0) last) x) ≡ with_bits (with_bits map b last) b x
stamp_both map b last x h =
    sym (
    set-set map b (bit_or (get_or map b 0) last) (bit_or (get_or (with_bits map b last) b 0) x)
    ∙ ap (λ (n : ℕ). set map b (bit_or n x)) (get_or-set_same map b (bit_or (get_or map b 0) last) 0 h)
    )

-- ---- one step more

apart_ways : (p a : Corner) (e f : ℕ) → (same p a && eqb e f) ≡ false → (p ≡ a) × (e ≡ f) → ⊥
apart_ways p a e f n h = true≢false (sym (ap₂ (λ (x y : Bool). x && y) (ap (λ (x : Corner). same x a) h.0 ∙ same_refl a) (eq-eqb e f h.1)) ∙ n)

one_way : (p a : Corner) (e f : ℕ) → (same p a && eqb e f) ≡ true → (p ≡ a) × (e ≡ f)
one_way p a e f h = (same_sound p a (and_left (same p a) (eqb e f) h), eqb-true e f (and_right (same p a) (eqb e f) h))

module _ (c : Corner) (chain by : List ℕ) (size : ℕ) (at : Corner → ℕ) (pl : Placed c chain by size at) where
  -- no two corners have one place
  pub place-one : (p q : Corner) → Memᴰ p (corners_from c chain) → Memᴰ q (corners_from c chain) → at p ≡ at q → p ≡ q
  place-one p q m n e = begins_both p q (pl.order p q m n (omega (arith, e))) (pl.order q p n m (omega (arith, e)))

  module _ (ds : List ℕ) (d : ℕ) (hd : d < 4) (map : List ℕ) (len : length map ≡ size) (hp : Memᴰ (end_from c ds) (corners_from c chain)) (hq : Memᴰ (stepped d (end_from c ds)) (corners_from c chain)) (s : Shown c chain ds map at) where
    abbrev p : Corner
    p = end_from c ds

    abbrev q : Corner
    q = stepped d (end_from c ds)

    abbrev out : List ℕ
    out = with_bits map (at p) (2 ^ d)

    in_map : at p < length map
    in_map = omega (arith, len, pl.inside p hp)

    in_out : at q < length out
    in_out = omega (arith, length-set map (at p) (bit_or (get_or map (at p) 0) (2 ^ d)), len, pl.inside q hq)

    out_small : (b : ℕ) → get_or out b 0 < 16
    out_small = stamp_small map (at p) d s.small hd in_map

    shown_step : Shown c chain (ds ++ (d ∷ [])) (with_bits out (at q) (2 ^ back d)) at
    shown_step = record { small = stamp_small out (at q) (back d) out_small (back_small d) in_out; ways = ways }
      where
        ways : (x : Corner) → Memᴰ x (corners_from c chain) → (e : ℕ) → e < 4 → way_on (get_or (with_bits out (at q) (2 ^ back d)) (at x) 0) e ≡ walked c (ds ++ (d ∷ [])) x e
        ways x m e he = go (same x p && eqb e d) refl (same x q && eqb e (back d)) refl
          where
            go : (a : Bool) → (same x p && eqb e d) ≡ a → (b : Bool) → (same x q && eqb e (back d)) ≡ b → way_on (get_or (with_bits out (at q) (2 ^ back d)) (at x) 0) e ≡ walked c (ds ++ (d ∷ [])) x e
            go true u b v =
                let z = one_way x p e d u in
                stamp_more out (at q) (back d) out_small (back_small d) in_out (at x) e he (stamp_there map (at p) d s.small hd in_map (at x) e (ap at z.0) z.1)
                ∙ sym (ap₂ (λ (y : Corner) (f : ℕ). walked c (ds ++ (d ∷ [])) y f) z.0 z.1 ∙ walked-last c ds d)
            go false u true v =
                let z = one_way x q e (back d) v in
                stamp_there out (at q) (back d) out_small (back_small d) in_out (at x) e (ap at z.0) z.1
                ∙ sym (ap₂ (λ (y : Corner) (f : ℕ). walked c (ds ++ (d ∷ [])) y f) z.0 z.1 ∙ walked-last-back c ds d)
            go false u false v =
                stamp_other out (at q) (back d) out_small (back_small d) in_out (at x) e he (λ h. apart_ways x q e (back d) v (place-one x q m hq h.0, h.1))
                ∙ stamp_other map (at p) d s.small hd in_map (at x) e he (λ h. apart_ways x p e d u (place-one x p m hp h.0, h.1))
                ∙ s.ways x m e he
                ∙ sym (walked_other c ds d hd x e he (apart_ways x p e d u) (apart_ways x q e (back d) v))

-- ---- the least place

-- a corner of the walk has the least place
pub record Lowest (c : Corner) (ds : List ℕ) (at : Corner → ℕ) (home : ℕ) : Type 0 where
  pub corner : Corner
  pub met : Memᴰ corner (corners_from c ds)
  pub its : home ≡ at corner
  pub most : (q : Corner) → Memᴰ q (corners_from c ds) → home ≤ at q

lowest_step : (c : Corner) (ds : List ℕ) (d : ℕ) (at : Corner → ℕ) (home b : ℕ) → b ≡ at (stepped d (end_from c ds)) → Lowest c ds at home → Lowest c (ds ++ (d ∷ [])) at (min home b)
lowest_step c ds d at home b e w =
    elim (dec_lt b home) [
      | yes h ↦
          let z : min home b ≡ b = omega arith in
          record {
            corner = stepped d (end_from c ds);
            met = subst (Memᴰ (stepped d (end_from c ds))) (sym (corners_from_snoc c ds d)) (Memᴰ.append_right (corners_from c ds) (Memᴰ.head refl));
            its = z ∙ e;
            most = all;
          }
      | no h ↦
          let z : min home b ≡ home = omega arith in
          record {
            corner = w.corner;
            met = subst (Memᴰ w.corner) (sym (corners_from_snoc c ds d)) (Memᴰ.append_left (stepped d (end_from c ds) ∷ []) w.met);
            its = z ∙ w.its;
            most = all;
          }
    ]
  where
    all : (q : Corner) → Memᴰ q (corners_from c (ds ++ (d ∷ []))) → min home b ≤ at q
    all q m =
        ⊎_elim
        (λ n. omega (arith, w.most q n))
        (λ n. omega (arith, e, ap at (Memᴰ.eq_of_singleton n)))
        (Memᴰ.append_cases (corners_from c ds) (subst (Memᴰ q) (corners_from_snoc c ds d) m))

-- ---- the walk as it is read

-- the first i steps are in the map, apart from the way into the corner where they end: its bit is `last`
pub record Marking (c : Corner) (chain : List ℕ) (at : Corner → ℕ) (map : List ℕ) (b home last i : ℕ) : Type 0 where
  pub within : i ≤ length chain
  pub here : b ≡ at (end_from c (take i chain))
  pub shown : Shown c chain (take i chain) (with_bits map b last) at
  pub low : Lowest c (take i chain) at home

-- a corner that the walk stands at is one of its corners
stood : (c : Corner) (chain : List ℕ) (i : ℕ) → i ≤ length chain → Memᴰ (end_from c (take i chain)) (corners_from c chain)
stood c chain i h = subst (λ (p : Corner). Memᴰ p (corners_from c chain)) (corners_from-at c chain i origin h) (mem_get_d (corners_from c chain) i origin (omega (arith, length-corners_from c chain)))

module _ (c : Corner) (chain by : List ℕ) (size : ℕ) (at : Corner → ℕ) (pl : Placed c chain by size at) where
  pub marking_start : (from : ℕ) (map : List ℕ) → from ≡ at c → length map ≡ size → ((b : ℕ) → get_or map b 0 ≡ 0) → Marking c chain at map from from 0 0
  marking_start from map e len z = record {
    within = omega arith;
    here = e;
    shown = record { small = λ b. omega (arith, blank b); ways = λ p m k h. ap (λ (n : ℕ). way_on n k) (blank (at p)) ∙ zero_way k h };
    low = record { corner = c; met = start_from_mem c []; its = e; most = λ q m. omega (arith, e, ap at (Memᴰ.eq_of_singleton m)) };
  }
    where
      blank : (b : ℕ) → get_or (with_bits map from 0) b 0 ≡ 0
      blank b =
          elim (ℕ_discrete b from) [
            | yes h ↦ ap (λ (y : ℕ). get_or (with_bits map from 0) y 0) h ∙ get_or-set_same map from (bit_or (get_or map from 0) 0) 0 (omega (arith, e, len, pl.inside c (start_from_mem c chain))) ∙ ap (λ (n : ℕ). bit_or n 0) (z from)
            | no h ↦ get_or-set_other map from b (bit_or (get_or map from 0) 0) 0 h ∙ z b
          ]

  module _ (map : List ℕ) (b home last i : ℕ) (k : Marking c chain at map b home last i) where
    pub marking_inside : b < size
    marking_inside = omega (arith, k.here, pl.inside (end_from c (take i chain)) (stood c chain i k.within))

    pub marking_next : length map ≡ size → i < length chain → get_or chain i 0 < 4 → (x b' home' last' : ℕ) → x ≡ 2 ^ get_or chain i 0 → b' ≡ (b + get_or by (get_or chain i 0) 0) % 2 ^ 64 → home' ≡ min home b' → last' ≡ 2 ^ back (get_or chain i 0)
        → Marking c chain at (set map b (bit_or (bit_or (get_or map b 0) last) x)) b' home' last' (i + 1)
    marking_next len h hd x b' home' last' ex eb eh el = rw (add-one i) (record {
      within = omega arith;
      here = there ∙ ap at (sym end);
      shown = subst (λ (m : List ℕ). Shown c chain (take (suc i) chain) m at) (sym maps) (subst (λ (l : List ℕ). Shown c chain l (with_bits (with_bits (with_bits map b last) (at p) (2 ^ d)) (at q) (2 ^ back d)) at) (sym next) (shown_step c chain by size at pl ds d hd (with_bits map b last) (length-set map b (bit_or (get_or map b 0) last) ∙ len) (stood c chain i k.within) hq k.shown));
      low = subst (λ (l : List ℕ). Lowest c l at home') (sym next) (subst (Lowest c (ds ++ (d ∷ [])) at) (sym eh) (lowest_step c ds d at home b' there k.low));
    })
      where
        ds : List ℕ
        ds = take i chain

        d : ℕ
        d = get_or chain i 0

        p : Corner
        p = end_from c ds

        q : Corner
        q = stepped d p

        next : take (suc i) chain ≡ ds ++ (d ∷ [])
        next = take-suc chain i 0 h

        end : end_from c (take (suc i) chain) ≡ q
        end = ap (end_from c) next ∙ end_from_snoc c ds d

        hq : Memᴰ q (corners_from c chain)
        hq = subst (λ (y : Corner). Memᴰ y (corners_from c chain)) end (stood c chain (suc i) (omega arith))

        there : b' ≡ at q
        there = eb ∙ ap (λ (n : ℕ). (n + get_or by d 0) % 2 ^ 64) k.here ∙ pl.onto p d hd (stood c chain i k.within) hq

        maps : with_bits (set map b (bit_or (bit_or (get_or map b 0) last) x)) b' last' ≡ with_bits (with_bits (with_bits map b last) (at p) (2 ^ d)) (at q) (2 ^ back d)
        maps =
            ap₂ (λ (m : List ℕ) (n : ℕ). with_bits m n last') (stamp_both map b last x (omega (arith, len, marking_inside))) there
            ∙ ap (λ (n : ℕ). with_bits (with_bits (with_bits map b last) b x) (at q) n) el
            ∙ ap₂ (λ (n y : ℕ). with_bits (with_bits (with_bits map b last) n y) (at q) (2 ^ back d)) k.here ex

    pub marking_end : length map ≡ size → length chain ≤ i → Mapped c chain by (with_bits map b last) home
    marking_end len h = record {
      at = at;
      placed = subst (λ (n : ℕ). Placed c chain by n at) (sym (length-set map b (bit_or (get_or map b 0) last) ∙ len)) pl;
      shown = subst (λ (l : List ℕ). Shown c chain l (with_bits map b last) at) all k.shown;
      lowest = low.its ∙ ap at (sym (home_one c chain low.corner low.met (λ q m. pl.order low.corner q low.met m (omega (arith, low.its, low.most q m)))));
    }
      where
        all : take i chain ≡ chain
        all = let e : i ≡ length chain = omega (arith, k.within, h) in ap (λ (n : ℕ). take n chain) e ∙ take-length chain

        low : Lowest c chain at home
        low = subst (λ (l : List ℕ). Lowest c l at home) all k.low
