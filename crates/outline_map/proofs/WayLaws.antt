-- The outline place by place: where the path stands after n steps, as a place and a direction.
-- Assumes nothing.
use Rattle.std.proofs.Common.{◌≡◌, ℕ, zero, suc, ◌+◌, ◌*◌, ◌%◌, ◌^◌, ◌<◌, ◌≤◌, Bool, true, false, cond, not, ◌&&◌, eqb, ltb, List, [], ◌∷◌, ◌++◌, length, get_or, drop, set, sym, refl, ap, ◌∙◌, ap₂, add-one, arith, le-ltb}
use mathlib.Core.List.{Memᴰ}
use native.Mathlib.Decide.{dec_lt}
use Rattle.answer.specs.Limits.{most_steps}
use Rattle.grid.specs.declared.Corner.{Corner}
use Rattle.grid.specs.Grid.{origin, stepped, corners_from}
use Rattle.outline.specs.Outline.{walked, home_of, first_way, onward, path_from_home}
use Rattle.outline.specs.Computed.{outline_of}
use Rattle.outline_laws.proofs.EdgeLaws.{Way, walked_visited}
use Rattle.outline_laws.proofs.HomeLaws.{home_visited}
use Rattle.outline_laws.proofs.OrbitLaws.{after, after_suc, after_on, no_sooner}
use Rattle.outline_laws.proofs.OutlineLaws.{outline_of-is, outline_round}
use Rattle.outline_laws.proofs.PathLaws.{next, On, next_on}
use Rattle.outline_laws.proofs.RoundLaws.{start, Round}
use Rattle.outline_path.specs.Ring.{Long, Written}
use Rattle.outline_path.proofs.RingLaws.{onward-same, written_next, not_first, is-first}
use Rattle.outline_map.specs.Map.{way_on, Mapped}
use Rattle.outline_map.specs.Ring.{MapRing, Fits}
use Rattle.outline_map.proofs.MarkLaws.{place-one}

-- the path stands at place i after n steps, and goes on by d; it is not past the end of the outline
pub record Stands (c : Corner) (chain : List ℕ) (at : Corner → ℕ) (n i d : ℕ) : Type 0 where
  pub place : i ≡ at (after (next c chain) n (start c chain)).0
  pub way : d ≡ (after (next c chain) n (start c chain)).1
  pub within : n ≤ length (outline_of c chain)

-- the same wherever the walk starts, in any map of it
abbrev pub GoingOn : List ℕ → List ℕ → List ℕ → ℕ → ℕ → ℕ → ℕ → Type 0
GoingOn chain by map home n i d = (c : Corner) (m : Mapped c chain by map home) → Stands c chain m.at n i d

module _ (c : Corner) (chain : List ℕ) (s : 0 < length chain) where
  round : Round c chain (length (outline_of c chain))
  round = outline_round (outline_of-is c chain) s

  on : (n : ℕ) → On c chain (after (next c chain) n (start c chain))
  on n = after_on (next c chain) (On c chain) (next_on c chain) n (start c chain) round.on

module _ (c : Corner) (chain by map : List ℕ) (home first : ℕ) (s : 0 < length chain) (m : Mapped c chain by map home) (f : first ≡ first_way c chain) where
  stands_start : Stands c chain m.at 0 home first
  stands_start = record { place = m.lowest; way = f; within = omega arith }

  module _ (n i d : ℕ) (w : Stands c chain m.at n i d) where
    abbrev now : Way
    now = after (next c chain) n (start c chain)

    here : Memᴰ now.0 (corners_from c chain)
    here = (walked_visited c chain now.0 now.1 (on c chain s n).1).0

    there : Memᴰ (stepped now.1 now.0) (corners_from c chain)
    there = (walked_visited c chain now.0 now.1 (on c chain s n).1).1

    stands_way : d < 4
    stands_way = omega (arith, w.way, (on c chain s n).0)

    stands_onto : (j : ℕ) → j ≡ (i + get_or by d 0) % 2 ^ 64 → j ≡ m.at (stepped now.1 now.0)
    stands_onto j e = e ∙ ap₂ (λ (x y : ℕ). (x + get_or by y 0) % 2 ^ 64) w.place w.way ∙ m.placed.onto now.0 now.1 (on c chain s n).0 here there

    stands_in : (j : ℕ) → j ≡ (i + get_or by d 0) % 2 ^ 64 → j < length map
    stands_in j e = omega (arith, stands_onto j e, m.placed.inside (stepped now.1 now.0) there)

    stands_next : n < length (outline_of c chain) → (j e : ℕ) → j ≡ (i + get_or by d 0) % 2 ^ 64 → e ≡ onward (way_on (get_or map j 0)) d → Stands c chain m.at (suc n) j e
    stands_next l j e ej ee = record {
      place = stands_onto j ej ∙ ap (λ (y : Way). m.at y.0) (sym (after_suc (next c chain) n (start c chain)));
      way =
          ee
          ∙ onward-same (way_on (get_or map j 0)) (walked c chain (stepped now.1 now.0)) d (λ x g. ap (λ (y : ℕ). way_on (get_or map y 0) x) (stands_onto j ej) ∙ m.shown.ways (stepped now.1 now.0) there x g)
          ∙ ap (λ (x : ℕ). onward (walked c chain (stepped now.1 now.0)) x) w.way
          ∙ ap (λ (y : Way). y.1) (sym (after_suc (next c chain) n (start c chain)));
      within = l;
    }

    -- back at the first way, exactly at the end
    stands_end : 0 < n → i ≡ home → d ≡ first → n ≡ length (outline_of c chain)
    stands_end l ei ed =
        elim (dec_lt n (length (outline_of c chain))) [
          | yes h ↦ absurd (no_sooner (next c chain) (length (outline_of c chain)) n (start c chain) (round c chain s).once l h again)
          | no h ↦ omega (arith, w.within)
        ]
      where
        again : now ≡ start c chain
        again = ap₂ (λ (y : Corner) (x : ℕ). (y, x)) (place-one c chain by (length map) m.at m.placed now.0 (home_of c chain) here (home_visited c chain) (sym w.place ∙ ei ∙ m.lowest)) (sym w.way ∙ ed ∙ f)

    stands_before : ((i ≡ home) × (d ≡ first) → ⊥) → n < length (outline_of c chain)
    stands_before g =
        elim (dec_lt n (length (outline_of c chain))) [
          | yes h ↦ h
          | no h ↦
              let e : n ≡ length (outline_of c chain) = omega (arith, w.within) in
              let z : now ≡ start c chain = ap (λ (k : ℕ). after (next c chain) k (start c chain)) e ∙ (round c chain s).again in
              absurd (g (w.place ∙ ap (λ (y : Way). m.at y.0) z ∙ sym m.lowest, w.way ∙ ap (λ (y : Way). y.1) z ∙ sym f))
        ]

module _ {chain by map : List ℕ} {home first : ℕ} (r : MapRing chain by map home first) where
  pub going_start : GoingOn chain by map home 0 home first
  going_start c m = stands_start c chain by map home first r.some m (r.firstly c)

  module _ (n i d : ℕ) (g : GoingOn chain by map home n i d) where
    one : Stands origin chain (r.mapped origin).at n i d
    one = g origin (r.mapped origin)

    -- what the next step asks
    pub going_way : (d < 4) × (d < length by)
    going_way = let h = stands_way origin chain by map home first r.some (r.mapped origin) (r.firstly origin) n i d one in (h, omega (arith, h, r.four))

    pub going_in : (j : ℕ) → j ≡ (i + get_or by d 0) % 2 ^ 64 → j < length map
    going_in j e = stands_in origin chain by map home first r.some (r.mapped origin) (r.firstly origin) n i d one j e

    -- the first step, and each after it that does not end the round
    pub going_first : n ≡ 0 → (j e : ℕ) → j ≡ (i + get_or by d 0) % 2 ^ 64 → e ≡ onward (way_on (get_or map j 0)) d → GoingOn chain by map home (suc n) j e
    going_first z j e ej ee c m = stands_next c chain by map home first r.some m (r.firstly c) n i d (g c m) (omega (arith, z, (round c chain r.some).some)) j e ej ee

    pub going_next : not (eqb i home && eqb d first) ≡ true → (j e : ℕ) → j ≡ (i + get_or by d 0) % 2 ^ 64 → e ≡ onward (way_on (get_or map j 0)) d → GoingOn chain by map home (n + 1) j e
    going_next t j e ej ee c m =
        rw (add-one n) (stands_next c chain by map home first r.some m (r.firstly c) n i d (g c m) (stands_before c chain by map home first r.some m (r.firstly c) n i d (g c m) (not_first home first i d t)) j e ej ee)

    pub going_less : not (eqb i home && eqb d first) ≡ true → (c : Corner) → (n < length (outline_of c chain)) × (n < 2 * length chain)
    going_less t c =
        let h = stands_before c chain by map home first r.some (r.mapped c) (r.firstly c) n i d (g c (r.mapped c)) (not_first home first i d t) in
        (h, omega (arith, h, (round c chain r.some).few))

    pub going_end : 0 < n → not (eqb i home && eqb d first) ≡ false → Long chain n
    going_end l t c =
        let z = is-first home first i d t in
        stands_end c chain by map home first r.some (r.mapped c) (r.firstly c) n i d (g c (r.mapped c)) l z.0 z.1

  -- the buffer is long enough for the first step
  pub put_some : (room : ℕ) → Fits chain room → 0 < room
  put_some room h = omega (arith, h origin, (round origin chain r.some).some)

  -- the first step is written, and what stands after it is as it was
  pub put-start : (before : List ℕ) → 0 < length before → (c : Corner) → set before 0 first ≡ path_from_home c chain 1 ++ drop 1 (set before 0 first)
  put-start [] h c = absurd (omega arith)
  put-start (x ∷ before) h c = ap (λ (d : ℕ). d ∷ before) (r.firstly c)

  -- and one after the other
  pub put_next : (before out : List ℕ) (n i d : ℕ) → GoingOn chain by map home n i d → ((c : Corner) → out ≡ path_from_home c chain n ++ drop n before) → n < length before → (c : Corner) → set out n d ≡ path_from_home c chain (n + 1) ++ drop (n + 1) before
  put_next before out n i d g w h c = rw (add-one n) (written_next c chain before out n d h (g c (r.mapped c)).way (w c))

  pub put_end : (before out : List ℕ) (n : ℕ) → 0 < n → ((c : Corner) → out ≡ path_from_home c chain n ++ drop n (set before 0 first)) → Long chain n → Written chain before out
  put_end before out n s w l c =
      w c
      ∙ ap (λ (b : List ℕ). path_from_home c chain n ++ b) (after_first before n s)
      ∙ ap (λ (k : ℕ). path_from_home c chain k ++ drop k before) (l c)
      ∙ ap (λ (p : List ℕ). p ++ drop (length (outline_of c chain)) before) (sym (outline_of-is c chain).path)
    where
      after_first : (before : List ℕ) (n : ℕ) → 0 < n → drop n (set before 0 first) ≡ drop n before
      after_first before zero h = absurd (omega arith)
      after_first [] (suc n) h = refl
      after_first (x ∷ before) (suc n) h = refl

  -- it fits if there are two steps for each of the walk's
  pub fits_surely : (room : ℕ) → 2 * length chain ≤ room → (c : Corner) → true ≡ not (ltb room (length (outline_of c chain)))
  fits_surely room h c = sym (ap not (le-ltb room (length (outline_of c chain)) (omega (arith, h, (round c chain r.some).few))))

-- the map of a walk with steps makes a ring
pub map-ring : (chain by map : List ℕ) (home first : ℕ) → 0 < length chain → length chain ≤ most_steps → length by ≡ 4 → ((c : Corner) → Mapped c chain by map home) → first ≡ cond (way_on (get_or map home 0) 0) 0 1 → MapRing chain by map home first
map-ring chain by map home first s l w b f = record {
  some = s;
  short = l;
  four = w;
  mapped = b;
  firstly = λ c. f ∙ ap (λ (t : Bool). cond t 0 1) (ap (λ (i : ℕ). way_on (get_or map i 0) 0) (b c).lowest ∙ (b c).shown.ways (home_of c chain) (home_visited c chain) 0 (omega arith));
}

-- its first place stands in the map
pub home_in_lem : (chain by map : List ℕ) (home : ℕ) → ((c : Corner) → Mapped c chain by map home) → home < length map
home_in_lem chain by map home b = omega (arith, (b origin).lowest, (b origin).placed.inside (home_of origin chain) (home_visited origin chain))
