-- The outline corner by corner: where the path stands after n steps, as a number and a direction.
-- Assumes nothing.
use mathlib.Core.Bool.{Bool, true, false, cond, true≢false, not, ◌&&◌}
use mathlib.Core.List.{List, [], ◌∷◌, ◌++◌, append_assoc}
use mathlib.Core.Path.{◌≡◌, refl, ap, ap₂, sym, ◌∙◌, subst}
use Prim.Native.Nat.{ℕ, zero, suc, ◌+◌, ◌-◌, ◌*◌, ◌%◌, ◌<◌, ◌≤◌}
use native.Mathlib.Decide.{dec_lt}
use native.Mathlib.Omega.{arith}
use native.Mathlib.Numerals.{add-one}
use borrow.Author.Tests.{lt-ltb, le-ltb, eqb-true, eq-eqb}
use lib.Dec.{eqb}
use lib.ListN.{length, get_or, set, drop}
use lib.Seq.{drop-cons, set_at}
use Rattle.answer.specs.Limits.{most_steps}
use Rattle.lists.specs.Lists.{find}
use Rattle.lists.proofs.DistinctLaws.{distinct_get_d}
use Rattle.lists.proofs.GatherLaws.{mem→any, and_left, and_right}
use Rattle.lists.proofs.FindLaws.{find_get, find_pos}
use Rattle.grid.specs.declared.Corner.{Corner}
use Rattle.grid.specs.Grid.{origin, same, stepped, corners_from}
use Rattle.grid.proofs.CornerLaws.{same_refl, same_sound}
use Rattle.grid.proofs.StepLaws.{length-corners_from}
use Rattle.steps.specs.Turns.{step_after}
use Rattle.outline_laws.proofs.TurnLaws.{step_after_lt}
use Rattle.trace.specs.Meeting.{visited_of}
use Rattle.trace.proofs.VisitLaws.{mem_visited, visited_distinct, length_visited_le}
use Rattle.outline.specs.Outline.{walked, home_of, first_way, onward, path_from_home}
use Rattle.outline.specs.Computed.{outline_of}
use Rattle.outline_laws.proofs.EdgeLaws.{Way, walked_visited}
use Rattle.outline_laws.proofs.OrbitLaws.{after, orbit, after_suc, orbit_snoc, after_on, no_sooner}
use Rattle.outline_laws.proofs.PathLaws.{next, On, next_on, length_path, dirs, path_dirs}
use Rattle.outline_laws.proofs.RoundLaws.{start, Round}
use Rattle.outline_laws.proofs.OutlineLaws.{outline_of-is, outline_round}
use Rattle.outline_links.specs.Built.{Built}
use Rattle.outline_path.specs.Ring.{ways_at, RingStore, Long, Written}

-- the choice depends on the four tests alone
pub onward-same : (w v : ℕ → Bool) (d : ℕ) → ((e : ℕ) → e < 4 → w e ≡ v e) → onward w d ≡ onward v d
onward-same w v d f =
    ap (step_after d) (
    ap₂ (λ (a : Bool) (m : ℕ). cond a 3 m) (f (step_after d 3) (step_after_lt d 3)) (
    ap₂ (λ (a : Bool) (m : ℕ). cond a 0 m) (f (step_after d 0) (step_after_lt d 0)) (
    ap (λ (a : Bool). cond a 1 2) (f (step_after d 1) (step_after_lt d 1)))))

-- the path stands at corner i after n steps, and goes on by d
pub record At (c : Corner) (chain : List ℕ) (n i d : ℕ) : Type 0 where
  pub number : i < length (visited_of (corners_from c chain))
  pub way : (get_or (visited_of (corners_from c chain)) i origin, d) ≡ after (next c chain) n (start c chain)

module _ (c : Corner) (chain links : List ℕ) (home : ℕ) (b : Built c chain links home) where
  abbrev vs : List Corner
  vs = visited_of (corners_from c chain)

  word : (i e : ℕ) → i < length vs → e < 4 → (t : Bool) → walked c chain (get_or vs i origin) e ≡ t → get_or links (4 * i + e) 0 ≡ cond t (find (same (stepped e (get_or vs i origin))) vs) 0
  word i e h g t w = b.linked.link i e h g ∙ ap (λ (t : Bool). cond t (find (same (stepped e (get_or vs i origin))) vs) 0) w

  seen : (i e : ℕ) → walked c chain (get_or vs i origin) e ≡ true → 0 < find (same (stepped e (get_or vs i origin))) vs
  seen i e w = find_pos (same (stepped e (get_or vs i origin))) vs (mem→any same same_sound same_refl (mem_visited (corners_from c chain) (walked_visited c chain (get_or vs i origin) e w).1))

  -- a word is above 0 exactly if the edge was walked
  link_walked : (i e : ℕ) → i < length vs → e < 4 → ways_at links i e ≡ walked c chain (get_or vs i origin) e
  link_walked i e h g = go (walked c chain (get_or vs i origin) e) refl
    where
      go : (t : Bool) → walked c chain (get_or vs i origin) e ≡ t → ways_at links i e ≡ walked c chain (get_or vs i origin) e
      go true w = lt-ltb 0 (get_or links (4 * i + e) 0) (omega (arith, word i e h g true w, seen i e w)) ∙ sym w
      go false w = le-ltb 0 (get_or links (4 * i + e) 0) (omega (arith, word i e h g false w)) ∙ sym w

  -- and leads where the edge does
  link_to : (i e : ℕ) → i < length vs → e < 4 → walked c chain (get_or vs i origin) e ≡ true → (0 < get_or links (4 * i + e) 0) × (get_or links (4 * i + e) 0 - 1 < length vs) × (get_or vs (get_or links (4 * i + e) 0 - 1) origin ≡ stepped e (get_or vs i origin))
  link_to i e h g w = by (get_or links (4 * i + e) 0) refl
    where
      x : get_or links (4 * i + e) 0 ≡ find (same (stepped e (get_or vs i origin))) vs
      x = word i e h g true w

      by : (n : ℕ) → get_or links (4 * i + e) 0 ≡ n → (0 < get_or links (4 * i + e) 0) × (get_or links (4 * i + e) 0 - 1 < length vs) × (get_or vs (get_or links (4 * i + e) 0 - 1) origin ≡ stepped e (get_or vs i origin))
      by zero z = absurd (omega (arith, z, x, seen i e w))
      by (suc j) z =
          let f = find_get (same (stepped e (get_or vs i origin))) vs j origin (sym x ∙ z) in
          let m : get_or links (4 * i + e) 0 - 1 ≡ j = omega (arith, z) in
          (omega (arith, z), omega (arith, m, f.0), ap (λ (y : ℕ). get_or vs y origin) m ∙ sym (same_sound (stepped e (get_or vs i origin)) (get_or vs j origin) f.1))

module _ (c : Corner) {chain links : List ℕ} {home first : ℕ} (r : RingStore chain links home first) where
  abbrev ws : List Corner
  ws = visited_of (corners_from c chain)

  round : Round c chain (length (outline_of c chain))
  round = outline_round (outline_of-is c chain) r.some

  on : (n : ℕ) → On c chain (after (next c chain) n (start c chain))
  on n = after_on (next c chain) (On c chain) (next_on c chain) n (start c chain) round.on

  pub at-start : At c chain 0 home first
  at-start = record { number = (r.built c).number; way = ap₂ (λ (p : Corner) (d : ℕ). (p, d)) (r.built c).lowest (r.firstly c) }

  module _ (n i d : ℕ) (a : At c chain n i d) where
    at_on : (d < 4) × (walked c chain (get_or ws i origin) d ≡ true)
    at_on = subst (On c chain) (sym a.way) (on n)

    -- what the next step asks
    pub at_link : (4 * i + 3 < length links) × (d < 4) × (i ≤ most_steps) × (0 < get_or links (4 * i + d) 0)
    at_link = (
      omega (arith, a.number, length_visited_le (corners_from c chain), length-corners_from c chain, r.words),
      at_on.0,
      omega (arith, a.number, length_visited_le (corners_from c chain), length-corners_from c chain, r.short),
      (link_to c chain links home (r.built c) i d a.number at_on.0 at_on.1).0,
    )

    at_next : (j e : ℕ) → j ≡ get_or links (4 * i + d) 0 - 1 → e ≡ onward (ways_at links j) d → At c chain (suc n) j e
    at_next j e ej ee =
        let l = link_to c chain links home (r.built c) i d a.number at_on.0 at_on.1 in
        let h : j < length ws = omega (arith, ej, l.1) in
        let p : get_or ws j origin ≡ stepped d (get_or ws i origin) = ap (λ (y : ℕ). get_or ws y origin) ej ∙ l.2 in
        let f : e ≡ onward (walked c chain (stepped d (get_or ws i origin))) d = ee ∙ onward-same (ways_at links j) (walked c chain (get_or ws j origin)) d (λ x g. link_walked c chain links home (r.built c) j x h g) ∙ ap (λ (y : Corner). onward (walked c chain y) d) p in
        record { number = h; way = ap₂ (λ (y : Corner) (x : ℕ). (y, x)) p f ∙ ap (next c chain) a.way ∙ sym (after_suc (next c chain) n (start c chain)) }

    -- the corner that it leads to stands in the store
    pub at-to : (j : ℕ) → j ≡ get_or links (4 * i + d) 0 - 1 → (4 * j + 3 < length links) × (d < 4) × (j ≤ most_steps)
    at-to j ej =
        let l = link_to c chain links home (r.built c) i d a.number at_on.0 at_on.1 in
        (omega (arith, ej, l.1, length_visited_le (corners_from c chain), length-corners_from c chain, r.words), at_on.0, omega (arith, ej, l.1, length_visited_le (corners_from c chain), length-corners_from c chain, r.short))

    -- back at the first way, exactly at the end
    back_again : i ≡ home → d ≡ first → after (next c chain) n (start c chain) ≡ start c chain
    back_again ei ed = sym a.way ∙ ap₂ (λ (y : Corner) (x : ℕ). (y, x)) (ap (λ (y : ℕ). get_or ws y origin) ei ∙ (r.built c).lowest) (ed ∙ r.firstly c)

    one_place : (x y : ℕ) → x < length ws → y < length ws → get_or ws x origin ≡ get_or ws y origin → x ≡ y
    one_place x y h k e =
        elim (dec_lt x y) [
          | yes l ↦ absurd (distinct_get_d ws x y origin (visited_distinct (corners_from c chain)) l k e)
          | no l ↦ elim (dec_lt y x) [ yes m ↦ absurd (distinct_get_d ws y x origin (visited_distinct (corners_from c chain)) m h (sym e)) | no m ↦ omega arith ]
        ]

    at_end : 0 < n → n ≤ length (outline_of c chain) → i ≡ home → d ≡ first → n ≡ length (outline_of c chain)
    at_end s l ei ed =
        elim (dec_lt n (length (outline_of c chain))) [
          | yes h ↦ absurd (no_sooner (next c chain) (length (outline_of c chain)) n (start c chain) round.once s h (back_again ei ed))
          | no h ↦ omega arith
        ]

    not_end : n ≤ length (outline_of c chain) → ((i ≡ home) × (d ≡ first) → ⊥) → n < length (outline_of c chain)
    not_end l f =
        elim (dec_lt n (length (outline_of c chain))) [
          | yes h ↦ h
          | no h ↦
              let e : n ≡ length (outline_of c chain) = omega arith in
              let w : (get_or ws i origin, d) ≡ start c chain = a.way ∙ ap (λ (m : ℕ). after (next c chain) m (start c chain)) e ∙ round.again in
              absurd (f (one_place i home a.number (r.built c).number (ap (λ (y : Way). y.0) w ∙ sym (r.built c).lowest), ap (λ (y : Way). y.1) w ∙ sym (r.firstly c)))
        ]

-- the way round as the code goes: at most as far as the outline is long
pub record Going (c : Corner) (chain : List ℕ) (n i d : ℕ) : Type 0 where
  pub at : At c chain n i d
  pub some : 0 < n
  pub within : n ≤ length (outline_of c chain)

-- another way than the first, or the first
module _ (home first : ℕ) where
  pub not_first : (i d : ℕ) → not (eqb i home && eqb d first) ≡ true → (i ≡ home) × (d ≡ first) → ⊥
  not_first i d e z = true≢false (sym e ∙ ap₂ (λ (a b : Bool). not (a && b)) (eq-eqb i home z.0) (eq-eqb d first z.1))

  pub is-first : (i d : ℕ) → not (eqb i home && eqb d first) ≡ false → (i ≡ home) × (d ≡ first)
  is-first i d e = (eqb-true i home (and_left (eqb i home) (eqb d first) both), eqb-true d first (and_right (eqb i home) (eqb d first) both))
    where
      both : (eqb i home && eqb d first) ≡ true
      both = go (eqb i home && eqb d first) refl
        where
          go : (b : Bool) → (eqb i home && eqb d first) ≡ b → (eqb i home && eqb d first) ≡ true
          go true p = p
          go false p = absurd (true≢false (sym (ap not p) ∙ e))

module _ {chain links : List ℕ} {home first : ℕ} (r : RingStore chain links home first) where
  pub going_start : (j e : ℕ) → j ≡ get_or links (4 * home + first) 0 - 1 → e ≡ onward (ways_at links j) first → (c : Corner) → Going c chain 1 j e
  going_start j e ej ee c = record { at = at_next c r 0 home first (at-start c r) j e ej ee; some = omega arith; within = (round c r).some }

  module _ (n i d : ℕ) (g : (c : Corner) → Going c chain n i d) where
    pub going_next : not (eqb i home && eqb d first) ≡ true → (j e : ℕ) → j ≡ get_or links (4 * i + d) 0 - 1 → e ≡ onward (ways_at links j) d → (c : Corner) → Going c chain (n + 1) j e
    going_next t j e ej ee c = rw (add-one n) (record { at = at_next c r n i d (g c).at j e ej ee; some = omega arith; within = not_end c r n i d (g c).at (g c).within (not_first home first i d t) })

    pub going_less : not (eqb i home && eqb d first) ≡ true → n < 2 * length chain
    going_less t = omega (arith, not_end origin r n i d (g origin).at (g origin).within (not_first home first i d t), (round origin r).few)

    pub going_end : not (eqb i home && eqb d first) ≡ false → Long chain n
    going_end t c = let z = is-first home first i d t in at_end c r n i d (g c).at (g c).some (g c).within z.0 z.1

-- the first k steps are written
pub record Writing (chain before out : List ℕ) (k i d : ℕ) : Type 0 where
  pub at : (c : Corner) → At c chain k i d
  pub written : (c : Corner) → out ≡ path_from_home c chain k ++ drop k before

dirs_snoc : (l : List Way) (y : Way) → dirs (l ++ (y ∷ [])) ≡ dirs l ++ (y.1 ∷ [])
dirs_snoc [] y = refl
dirs_snoc (x ∷ l) y = ap (λ (m : List ℕ). x.1 ∷ m) (dirs_snoc l y)

path_snoc : (c : Corner) (chain : List ℕ) (k : ℕ) → path_from_home c chain (suc k) ≡ path_from_home c chain k ++ ((after (next c chain) k (start c chain)).1 ∷ [])
path_snoc c chain k =
    path_dirs c chain (suc k) (start c chain)
    ∙ ap dirs (orbit_snoc (next c chain) k (start c chain))
    ∙ dirs_snoc (orbit (next c chain) k (start c chain)) (after (next c chain) k (start c chain))
    ∙ ap (λ (l : List ℕ). l ++ ((after (next c chain) k (start c chain)).1 ∷ [])) (sym (path_dirs c chain k (start c chain)))

-- one step more is written
pub written_next : (c : Corner) (chain before out : List ℕ) (k d : ℕ) → k < length before → d ≡ (after (next c chain) k (start c chain)).1 → out ≡ path_from_home c chain k ++ drop k before → set out k d ≡ path_from_home c chain (suc k) ++ drop (suc k) before
written_next c chain before out k d h e w =
    ap (λ (l : List ℕ). set l k d) (w ∙ ap (λ (l : List ℕ). path_from_home c chain k ++ l) (drop-cons before k 0 h))
    ∙ set_at (path_from_home c chain k) (get_or before k 0) (drop (suc k) before) d k (length_path c chain k (home_of c chain) (first_way c chain))
    ∙ sym (append_assoc (path_from_home c chain k) (d ∷ []) (drop (suc k) before))
    ∙ ap (λ (l : List ℕ). l ++ drop (suc k) before) (ap (λ (x : ℕ). path_from_home c chain k ++ (x ∷ [])) e ∙ sym (path_snoc c chain k))

module _ {chain links : List ℕ} {home first : ℕ} (r : RingStore chain links home first) (before : List ℕ) where
  pub writing_start : Writing chain before before 0 home first
  writing_start = record { at = λ c. at-start c r; written = λ c. refl }

  module _ (out : List ℕ) (k i d : ℕ) (w : Writing chain before out k i d) where
    pub writing_next : k < length before → (j e : ℕ) → j ≡ get_or links (4 * i + d) 0 - 1 → e ≡ onward (ways_at links j) d → Writing chain before (set out k d) (k + 1) j e
    writing_next h j e ej ee = rw (add-one k) (record { at = λ c. at_next c r k i d (w.at c) j e ej ee; written = λ c. written_next c chain before out k d h (ap (λ (y : Way). y.1) (w.at c).way) (w.written c) })

    pub writing_end : (n : ℕ) → Long chain n → k ≡ n → Written chain before out
    writing_end n l e c =
        let z : k ≡ length (outline_of c chain) = e ∙ l c in
        w.written c ∙ ap (λ (m : ℕ). path_from_home c chain m ++ drop m before) z ∙ ap (λ (p : List ℕ). p ++ drop (length (outline_of c chain)) before) (sym (outline_of-is c chain).path)

-- the choice, test by test
module _ (w : ℕ → Bool) (d : ℕ) (hd : d < 4) where
  pub turn_right : w ((d + 3) % 4) ≡ true → (d + 3) % 4 ≡ onward w d
  turn_right p = sym (rw p)

  straight : step_after d 0 ≡ d
  straight = omega arith

  pub turn_straight : w ((d + 3) % 4) ≡ false → w d ≡ true → d ≡ onward w d
  turn_straight p q = let z : w (step_after d 0) ≡ true = ap w straight ∙ q in sym straight ∙ sym (rw (p, z))

  pub turn_left : w ((d + 3) % 4) ≡ false → w d ≡ false → w ((d + 1) % 4) ≡ true → (d + 1) % 4 ≡ onward w d
  turn_left p q r = let z : w (step_after d 0) ≡ false = ap w straight ∙ q in sym (rw (p, z, r))

  pub turn_back : w ((d + 3) % 4) ≡ false → w d ≡ false → w ((d + 1) % 4) ≡ false → (d + 2) % 4 ≡ onward w d
  turn_back p q r = let z : w (step_after d 0) ≡ false = ap w straight ∙ q in sym (rw (p, z, r))

-- the links of a walk with steps make a ring
pub ring_of : (chain links : List ℕ) (home first : ℕ) → 0 < length chain → length chain ≤ most_steps → 4 * suc (length chain) ≤ length links → ((c : Corner) → Built c chain links home) → first ≡ cond (ways_at links home 0) 0 1 → RingStore chain links home first
ring_of chain links home first s l w b f = record {
  some = s;
  short = l;
  words = w;
  built = b;
  firstly = λ c. f ∙ ap (λ (t : Bool). cond t 0 1) (link_walked c chain links home (b c) home 0 (b c).number (omega arith) ∙ ap (λ (p : Corner). walked c chain p 0) (b c).lowest);
}

-- where its first corner stands
pub home_small : (chain links : List ℕ) (home : ℕ) → length chain ≤ most_steps → 4 * suc (length chain) ≤ length links → ((c : Corner) → Built c chain links home) → (4 * home + 3 < length links) × (home ≤ most_steps)
home_small chain links home l w b =
    (omega (arith, (b origin).number, length_visited_le (corners_from origin chain), length-corners_from origin chain), omega (arith, (b origin).number, length_visited_le (corners_from origin chain), length-corners_from origin chain))
