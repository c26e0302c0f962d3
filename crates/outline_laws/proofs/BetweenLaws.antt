-- What lies inside does not count: a walk along all edges of an outline, and along no edge that the first walk did not have, has that outline too.
-- So the outline depends on the walked edges alone, and it is its own outline.
-- Assumes nothing.
use mathlib.Core.Bool.{true, true≢false}
use mathlib.Core.List.{List, [], ◌∷◌, Memᴰ}
use mathlib.Core.Logic.{inl, inr, ⊎_elim}
use mathlib.Core.Path.{◌≡◌, ap, ap₂, sym, ◌∙◌, subst}
use Prim.Native.Nat.{ℕ, suc, ◌<◌}
use native.Mathlib.Decide.{dec_lt}
use native.Mathlib.Omega.{arith}
use lib.ListN.{length}
use Rattle.lists.specs.Lists.{Distinct}
use Rattle.grid.specs.declared.Corner.{Corner}
use Rattle.grid.specs.Grid.{stepped, corners_from, legs_from, Begins}
use Rattle.outline.specs.Outline.{walked, home_of, first_way, path_from_home, OutlineIs}
use Rattle.outline_laws.proofs.OrbitLaws.{after, orbit, after_suc, after-mem, orbit_on, no_sooner, after-agree, orbit-agree}
use Rattle.outline_laws.proofs.TurnLaws.{onward_fewer}
use Rattle.outline_laws.proofs.EdgeLaws.{Way, Edge, walked_edge, edge_walked, walked_visited}
use Rattle.outline_laws.proofs.HomeLaws.{home_least, home_one}
use Rattle.outline_laws.proofs.PathLaws.{next, On, next_on, dirs, path_dirs, way_edge, edge_way}
use Rattle.outline_laws.proofs.RoundLaws.{start, EdgeAt, edge_at, ways, Round, round_of_lem, done_round, not_before}
use Rattle.outline_laws.proofs.OutlineLaws.{outline_round, path_is}

-- every edge of the first walk is one of the second
abbrev pub Along : Corner → List ℕ → Corner → List ℕ → Type 0
Along c ds c' ds' = (p : Corner) (d : ℕ) → walked c ds p d ≡ true → walked c' ds' p d ≡ true

-- a first return is the only one
round-one : (c : Corner) (ds : List ℕ) (m n : ℕ) → 0 < n → after (next c ds) n (start c ds) ≡ start c ds → Distinct (orbit (next c ds) n (start c ds)) → Round c ds m → m ≡ n
round-one c ds m n l e o r =
    elim (dec_lt m n) [
      | yes h ↦ absurd (no_sooner (next c ds) n m (start c ds) o r.some h r.again)
      | no h ↦ elim (dec_lt n m) [ yes g ↦ absurd (no_sooner (next c ds) m n (start c ds) r.once l g e) | no g ↦ omega arith ]
    ]

-- a walk with a walked edge has a step, and every corner of it has one
pub some_step : (c : Corner) (ds : List ℕ) (p : Corner) (d : ℕ) → walked c ds p d ≡ true → 0 < length ds
some_step c [] p d w = absurd (true≢false (sym w))
some_step c (x ∷ ds) p d w = omega arith

some_edge : (c : Corner) (ds : List ℕ) → 0 < length ds → (q : Corner) → Memᴰ q (corners_from c ds) → EdgeAt c ds q
some_edge c [] l q m = absurd (omega arith)
some_edge c (d ∷ ds) l q m = edge_at c d ds q m

module _ (c : Corner) (ds : List ℕ) (c' : Corner) (ds' : List ℕ) (n : ℕ) (r : Round c ds n) (all : Along (home_of c ds) (path_from_home c ds n) c' ds') (no_more : Along c' ds' c ds) where
  -- the ways met are walked
  kept : (y : Way) → Memᴰ y (orbit (next c ds) n (start c ds)) → walked c' ds' y.0 y.1 ≡ true
  kept y m = all y.0 y.1 (edge_walked (home_of c ds) (path_from_home c ds n) y.0 y.1 (inl (way_edge c ds n (home_of c ds) (first_way c ds) y m)))

  kept-start : walked c' ds' (home_of c ds) (first_way c ds) ≡ true
  kept-start = kept (start c ds) (after-mem (next c ds) n 0 (start c ds) r.some)

  kept_next : (k : ℕ) → k < n → walked c' ds' (next c ds (after (next c ds) k (start c ds))).0 (next c ds (after (next c ds) k (start c ds))).1 ≡ true
  kept_next k h =
      subst (λ (y : Way). walked c' ds' y.0 y.1 ≡ true) (after_suc (next c ds) k (start c ds)) (
      elim (dec_lt (suc k) n) [
        | yes l ↦ kept (after (next c ds) (suc k) (start c ds)) (after-mem (next c ds) n (suc k) (start c ds) l)
        | no l ↦ let e : suc k ≡ n = omega arith in subst (λ (y : Way). walked c' ds' y.0 y.1 ≡ true) (sym (ap (λ (m : ℕ). after (next c ds) m (start c ds)) e ∙ r.again)) kept-start
      ]
      )

  agree : (k : ℕ) → k < n → next c' ds' (after (next c ds) k (start c ds)) ≡ next c ds (after (next c ds) k (start c ds))
  agree k h =
      let y = after (next c ds) k (start c ds) in
      let q = stepped y.1 y.0 in
      ap (λ (e : ℕ). (q, e)) (onward_fewer (walked c ds q) (walked c' ds' q) (λ e w. no_more q e w) y.1 (kept_next k h))

  -- both walks start their outlines at one corner, by one way
  same_home : home_of c' ds' ≡ home_of c ds
  same_home = home_one c' ds' (home_of c ds) (walked_visited c' ds' (home_of c ds) (first_way c ds) kept-start).0 least
    where
      least : (q : Corner) → Memᴰ q (corners_from c' ds') → Begins (home_of c ds) q
      least q m =
          let e = some_edge c' ds' (some_step c' ds' (home_of c ds) (first_way c ds) kept-start) q m in
          home_least c ds q (walked_visited c ds q e.0 (no_more q e.0 (edge_walked c' ds' q e.0 e.2))).0

  same_start : start c' ds' ≡ start c ds
  same_start = ap₂ (λ (a : Corner) (b : ℕ). (a, b)) same_home first
    where
      at_home : (d : ℕ) → walked c' ds' (home_of c' ds') d ≡ walked c' ds' (home_of c ds) d
      at_home d = ap (λ (p : Corner). walked c' ds' p d) same_home

      first : first_way c' ds' ≡ first_way c ds
      first =
          ⊎_elim
          (λ k. ⊎_elim (λ m. m.1 ∙ sym k.1) (λ m. absurd (true≢false (sym (subst (λ (d : ℕ). walked c' ds' (home_of c ds) d ≡ true) k.1 kept-start) ∙ sym (at_home 0) ∙ m.0))) (ways c' ds'))
          (λ k. ⊎_elim (λ m. absurd (true≢false (sym (no_more (home_of c ds) 0 (sym (at_home 0) ∙ m.0)) ∙ k.0))) (λ m. m.1 ∙ sym k.1) (ways c' ds'))
          (ways c ds)

  same_path : path_from_home c' ds' n ≡ path_from_home c ds n
  same_path =
      path_dirs c' ds' n (start c' ds')
      ∙ ap (λ (x : Way). dirs (orbit (next c' ds') n x)) same_start
      ∙ ap dirs (orbit-agree (next c ds) (next c' ds') n (start c ds) agree)
      ∙ sym (path_dirs c ds n (start c ds))

  between_is : OutlineIs c' ds' (path_from_home c ds n)
  between_is =
      let r' = round_of_lem c' ds' (some_step c' ds' (home_of c ds) (first_way c ds) kept-start) in
      let again : after (next c' ds') n (start c' ds') ≡ start c' ds' = ap (after (next c' ds') n) same_start ∙ after-agree (next c ds) (next c' ds') n (start c ds) agree ∙ r.again ∙ sym same_start in
      let once : Distinct (orbit (next c' ds') n (start c' ds')) = subst Distinct (sym (ap (orbit (next c' ds') n) same_start ∙ orbit-agree (next c ds) (next c' ds') n (start c ds) agree)) r.once in
      let e : r'.0 ≡ n = round-one c' ds' r'.0 n r.some again once r'.1 in
      let o : OutlineIs c' ds' (path_from_home c' ds' r'.0) = path_is c' ds' r'.0 (done_round c' ds' r'.0 r'.1) (not_before c' ds' r'.0 r'.1) in
      subst (OutlineIs c' ds') (ap (path_from_home c' ds') e ∙ same_path) o

pub outline_between : {c : Corner} {ds es : List ℕ} (c' : Corner) (ds' : List ℕ) → OutlineIs c ds es → 0 < length ds → Along (home_of c ds) es c' ds' → Along c' ds' c ds → OutlineIs c' ds' es
outline_between {c} {ds} {es} c' ds' o l all no_more =
    subst (OutlineIs c' ds') (sym o.path) (between_is c ds c' ds' (length es) (outline_round o l) (subst (λ (s : List ℕ). Along (home_of c ds) s c' ds') o.path all) no_more)

-- every edge of the outline was walked
outline_along : {c : Corner} {ds es : List ℕ} → OutlineIs c ds es → 0 < length ds → Along (home_of c ds) es c ds
outline_along {c} {ds} {es} o l p d w =
    ⊎_elim
    (λ m. let y = met (p, stepped d p) m in edge_walked c ds p d (subst (λ (e : Corner × Corner). Edge c ds e.0 e.1) (sym y.1) y.2))
    (λ m. let y = met (stepped d p, p) m in edge_walked c ds p d (turn (subst (λ (e : Corner × Corner). Edge c ds e.0 e.1) (sym y.1) y.2)))
    (walked_edge (home_of c ds) es p d w)
  where
    turn : {a b : Corner} → Edge c ds a b → Edge c ds b a
    turn (inl m) = inr m
    turn (inr m) = inl m

    met : (e : Corner × Corner) → Memᴰ e (legs_from (home_of c ds) es) → (y : Way) × (e ≡ (y.0, stepped y.1 y.0)) × Edge c ds y.0 (stepped y.1 y.0)
    met e m =
        let k = edge_way c ds (length es) (home_of c ds) (first_way c ds) e (subst (λ (s : List ℕ). Memᴰ e (legs_from (home_of c ds) s)) o.path m) in
        let r = outline_round o l in
        (k.0, k.2, walked_edge c ds k.0.0 k.0.1 (orbit_on (next c ds) (On c ds) (next_on c ds) (length es) (start c ds) r.on k.1).1)

-- an outline is its own outline
pub outline_again : {c : Corner} {ds es : List ℕ} → OutlineIs c ds es → 0 < length ds → OutlineIs (home_of c ds) es es
outline_again {c} {ds} {es} o l = outline_between (home_of c ds) es o l (λ p d w. w) (outline_along o l)

-- walks along the same edges have one outline, wherever they start and however often they use an edge
pub outline_same : {c : Corner} {ds es : List ℕ} (c' : Corner) (ds' : List ℕ) → OutlineIs c ds es → 0 < length ds → Along c ds c' ds' → Along c' ds' c ds → OutlineIs c' ds' es
outline_same c' ds' o l a b = outline_between c' ds' o l (λ p d w. a p d (outline_along o l p d w)) b
