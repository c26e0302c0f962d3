-- The path from the lowest of the leftmost corners is done for the first time exactly when its next way would be the first again.
-- Assumes nothing.
use mathlib.Core.Bool.{Bool, true, false, not, ◌&&◌, true≢false, false≢true}
use mathlib.Core.List.Memᴰ
use mathlib.Core.List.{List, [], ◌∷◌, Memᴰ}
use mathlib.Core.Logic.{◌⊎◌, inl, inr, ⊎_elim, ⊎_map}
use mathlib.Core.Path.{◌≡◌, refl, ap, ap₂, sym, ◌∙◌, subst}
use Prim.Native.Nat.{ℕ, zero, suc, ◌<◌, ◌≤◌, ◌*◌}
use native.Mathlib.Omega.{arith}
use lib.ListN.{length}
use Rattle.lists.specs.Lists.{Distinct}
use Rattle.lists.proofs.GatherLaws.{and_left, and_right}
use Rattle.lists.proofs.FindLaws.{any-mem, any_some, bool_agree}
use Rattle.grid.specs.declared.Corner.{Corner}
use Rattle.grid.specs.Grid.{same, stepped, corners_from, end_from, legs_from, back}
use Rattle.grid.proofs.CornerLaws.{same_refl, same_sound}
use Rattle.grid.proofs.StepLaws.{back_small, stepped-back, stepped_inj}
use Rattle.outline.specs.Outline.{walked, home_of, first_way, onward, path_from_home, lacks, is_done}
use Rattle.outline_laws.proofs.OrbitLaws.{after, orbit, after_suc, after-mem, mem-after, after_on, no_sooner, no_twice}
use Rattle.outline_laws.proofs.EdgeLaws.{Way, Edge, along, walked_edge, edge_walked}
use Rattle.outline_laws.proofs.HomeLaws.{home_visited, home_ways}
use Rattle.outline_laws.proofs.PathLaws.{next, On, next_on, came, path_returns, path_end, way_edge, edge_way}

-- a corner of a walk with steps has a walked edge
abbrev pub EdgeAt : Corner → List ℕ → Corner → Type 0
EdgeAt c ds p = (e : ℕ) × (e < 4) × Edge c ds p (stepped e p)

edge_first : (c : Corner) (d : ℕ) (ds : List ℕ) (p : Corner) → p ≡ c → EdgeAt c (d ∷ ds) p
edge_first c d ds p e = (back (back d), back_small (back d), inl (Memᴰ.head (ap₂ (λ (a b : Corner). (a, b)) e (along d p ∙ ap (stepped d) e))))

edge_last : (c : Corner) (d : ℕ) (ds : List ℕ) (p : Corner) → p ≡ stepped d c → EdgeAt c (d ∷ ds) p
edge_last c d ds p e = (back d, back_small d, inr (Memᴰ.head (ap₂ (λ (a b : Corner). (a, b)) (ap (stepped (back d)) e ∙ stepped-back d c) e)))

edge_later : (c : Corner) (d : ℕ) (ds : List ℕ) (p : Corner) → EdgeAt (stepped d c) ds p → EdgeAt c (d ∷ ds) p
edge_later c d ds p k = (k.0, k.1, ⊎_map (λ t. Memᴰ.tail t) (λ t. Memᴰ.tail t) k.2)

pub edge_at : (c : Corner) (d : ℕ) (ds : List ℕ) (p : Corner) → Memᴰ p (corners_from c (d ∷ ds)) → EdgeAt c (d ∷ ds) p
edge_at c d [] p m = ⊎_elim (edge_first c d [] p) (λ n. edge_last c d [] p (Memᴰ.eq_of_singleton n)) (Memᴰ.cases_cons m)
edge_at c d (x ∷ ds) p m = ⊎_elim (edge_first c d (x ∷ ds) p) (λ n. edge_later c d (x ∷ ds) p (edge_at (stepped d c) x ds p n)) (Memᴰ.cases_cons m)

module _ (c : Corner) (ds : List ℕ) where
  -- the way by which the outline starts
  abbrev pub start : Way
  start = (home_of c ds, first_way c ds)

module _ (c : Corner) (ds : List ℕ) where
  abbrev h : Corner
  h = home_of c ds

  -- every walked edge is used, or some is not
  used_lacks : (es : List ℕ) → ((d : ℕ) → walked c ds h d ≡ true → walked h es h d ≡ true) → lacks c ds h es ≡ false
  used_lacks es u = bool_agree (lacks c ds h es) false (λ e. absurd (unused (any_some (λ d. walked c ds h d && not (walked h es h d)) (0 ∷ 1 ∷ 2 ∷ 3 ∷ []) e))) (λ e. absurd (false≢true e))
    where
      unused : (d : ℕ) × Memᴰ d (0 ∷ 1 ∷ 2 ∷ 3 ∷ []) × ((walked c ds h d && not (walked h es h d)) ≡ true) → ⊥
      unused s =
          let a : walked h es h s.0 ≡ true = u s.0 (and_left (walked c ds h s.0) (not (walked h es h s.0)) s.2) in
          true≢false (sym (and_right (walked c ds h s.0) (not (walked h es h s.0)) s.2) ∙ ap not a)

  done_used : (es : List ℕ) (d : ℕ) → Memᴰ d (0 ∷ 1 ∷ 2 ∷ 3 ∷ []) → is_done c ds es ≡ true → walked c ds h d ≡ true → walked h es h d ≡ true
  done_used es d m e w = go (walked h es h d) refl
    where
      lacking : walked h es h d ≡ false → lacks c ds h es ≡ true
      lacking f = any-mem (λ d. walked c ds h d && not (walked h es h d)) d (0 ∷ 1 ∷ 2 ∷ 3 ∷ []) m (rw (w, f))

      go : (b : Bool) → walked h es h d ≡ b → walked h es h d ≡ true
      go true f = f
      go false f = absurd (true≢false (sym (and_right (same (end_from h es) h) (not (lacks c ds h es)) e) ∙ ap not (lacking f)))

  -- first_way is east or north
  pub ways : ((walked c ds h 0 ≡ true) × (first_way c ds ≡ 0)) ⊎ ((walked c ds h 0 ≡ false) × (first_way c ds ≡ 1))
  ways = go (walked c ds h 0) refl
    where
      go : (b : Bool) → walked c ds h 0 ≡ b → ((walked c ds h 0 ≡ true) × (first_way c ds ≡ 0)) ⊎ ((walked c ds h 0 ≡ false) × (first_way c ds ≡ 1))
      go true e = inl (e, rw (e, first_way))
      go false e = inr (e, rw (e, first_way))

  -- a walked edge of the home leads east or north
  two : (d : ℕ) → walked c ds h d ≡ true → (d ≡ 0) ⊎ (d ≡ 1)
  two zero w = inl refl
  two (suc zero) w = inr refl
  two (suc (suc d)) w = absurd (true≢false (sym w ∙ home_ways c ds (suc (suc d)) (omega arith)))

  -- a way met, in either direction, uses its edge
  uses : (n d : ℕ) → Memᴰ (h, d) (orbit (next c ds) n (start c ds)) → walked h (path_from_home c ds n) h d ≡ true
  uses n d m = edge_walked h (path_from_home c ds n) h d (inl (way_edge c ds n h (first_way c ds) (h, d) m))

  uses_back : (n d : ℕ) (y : Way) → Memᴰ y (orbit (next c ds) n (start c ds)) → y.0 ≡ stepped d h → stepped y.1 y.0 ≡ h → walked h (path_from_home c ds n) h d ≡ true
  uses_back n d y m e f =
      edge_walked h (path_from_home c ds n) h d (inr (subst (λ (x : Corner × Corner). Memᴰ x (legs_from h (path_from_home c ds n))) (ap₂ (λ (a b : Corner). (a, b)) e f) (way_edge c ds n h (first_way c ds) y m)))

  module _ (on : On c ds (start c ds)) where
    -- if both edges are walked, the way before the first comes from the north
    from-north : (y : Way) → On c ds y → next c ds y ≡ (h, 0) → walked c ds h 1 ≡ true → (y.1 ≡ 3) × (y.0 ≡ stepped 1 h)
    from-north y o e w =
        let k = came c ds y o (h, 0) e in
        let d : y.1 ≡ 3 = k.0 ∙ rw (home_ways c ds 3 (omega arith), home_ways c ds 2 (omega arith), w) in
        (d, k.1 ∙ ap (λ (x : ℕ). stepped (back x) h) d)

    -- back at the first way, every edge of the home is used
    round_used : (n : ℕ) → after (next c ds) (suc n) (start c ds) ≡ start c ds → (d : ℕ) → walked c ds h d ≡ true → walked h (path_from_home c ds (suc n)) h d ≡ true
    round_used n e d w = ⊎_elim (λ z. subst (λ (x : ℕ). walked h (path_from_home c ds (suc n)) h x ≡ true) (sym z) (east (subst (λ (x : ℕ). walked c ds h x ≡ true) z w))) (λ z. subst (λ (x : ℕ). walked h (path_from_home c ds (suc n)) h x ≡ true) (sym z) (north (subst (λ (x : ℕ). walked c ds h x ≡ true) z w))) (two d w)
      where
        first : (d : ℕ) → first_way c ds ≡ d → walked h (path_from_home c ds (suc n)) h d ≡ true
        first d f = uses (suc n) d (Memᴰ.head (ap (λ (x : ℕ). (h, x)) (sym f)))

        east : walked c ds h 0 ≡ true → walked h (path_from_home c ds (suc n)) h 0 ≡ true
        east v = ⊎_elim (λ k. first 0 k.1) (λ k. absurd (true≢false (sym v ∙ k.0))) ways

        north : walked c ds h 1 ≡ true → walked h (path_from_home c ds (suc n)) h 1 ≡ true
        north v =
            ⊎_elim
            (λ k.
            let y = after (next c ds) n (start c ds) in
            let l : next c ds y ≡ (h, 0) = sym (after_suc (next c ds) n (start c ds)) ∙ e ∙ ap (λ (x : ℕ). (h, x)) k.1 in
            let g = from-north y (after_on (next c ds) (On c ds) (next_on c ds) n (start c ds) on) l v in
            uses_back (suc n) 1 y (after-mem (next c ds) (suc n) n (start c ds) (omega arith)) g.1 (ap (λ (x : Way). x.0) l))
            (λ k. first 1 k.1)
            ways

    round_done : (n : ℕ) → 0 < n → after (next c ds) n (start c ds) ≡ start c ds → is_done c ds (path_from_home c ds n) ≡ true
    round_done zero l e = absurd (omega arith)
    round_done (suc n) l e =
        ap₂
        (λ (a b : Bool). a && b)
        (ap (λ (x : Corner). same x h) (path_end c ds (suc n) h (first_way c ds) ∙ ap (λ (x : Way). x.0) e) ∙ same_refl h)
        (ap not (used_lacks (path_from_home c ds (suc n)) (round_used n e)))

  -- a walk with steps starts its outline along a walked edge
  start_on : 0 < length ds → On c ds (start c ds)
  start_on l = ⊎_elim (λ k. rw k.1 (omega arith, k.0)) (λ k. rw k.1 (omega arith, other k.0)) ways
    where
      some : (es : List ℕ) → 0 < length es → EdgeAt c es (home_of c es)
      some [] l = absurd (omega arith)
      some (d ∷ es) l = edge_at c d es (home_of c (d ∷ es)) (home_visited c (d ∷ es))

      other : walked c ds h 0 ≡ false → walked c ds h 1 ≡ true
      other f =
          let k = some ds l in
          let w : walked c ds h k.0 ≡ true = edge_walked c ds h k.0 k.2 in
          ⊎_elim
          (λ z. absurd (true≢false (sym w ∙ ap (walked c ds h) z ∙ f)))
          (λ z. ap (walked c ds h) (sym z) ∙ w)
          (two k.0 w)

  module _ (on : On c ds (start c ds)) (n : ℕ) (once : Distinct (orbit (next c ds) n (start c ds))) where
    abbrev at : ℕ → Way
    at m = after (next c ds) m (start c ds)

    met_on : (m : ℕ) → On c ds (at m)
    met_on m = after_on (next c ds) (On c ds) (next_on c ds) m (start c ds) on

    -- along the edge to the north: the way is met again
    northward : (m : ℕ) → m < n → at m ≡ (h, 1) → Memᴰ (h, stepped 1 h) (legs_from h (path_from_home c ds m)) → ⊥
    northward m l y t =
        let z = edge_way c ds m h (first_way c ds) (h, stepped 1 h) t in
        let j = mem-after (next c ds) m (start c ds) z.1 in
        let o : On c ds z.0 = subst (On c ds) (sym j.2) (met_on j.0) in
        let p : z.0.0 ≡ h = ap (λ (x : Corner × Corner). x.0) (sym z.2) in
        let q : z.0.1 ≡ 1 = stepped_inj z.0.1 1 h o.0 (omega arith) (ap (stepped z.0.1) (sym p) ∙ ap (λ (x : Corner × Corner). x.1) (sym z.2)) in
        no_twice (next c ds) n j.0 m (start c ds) once j.1 l (y ∙ sym (ap₂ (λ (a : Corner) (b : ℕ). (a, b)) p q) ∙ j.2)

    -- against it: the path went on by its first way
    southward : (m : ℕ) → m < n → walked c ds h 0 ≡ true → first_way c ds ≡ 0 → Memᴰ (stepped 1 h, h) (legs_from h (path_from_home c ds m)) → ⊥
    southward m l w f t =
        let z = edge_way c ds m h (first_way c ds) (stepped 1 h, h) t in
        let j = mem-after (next c ds) m (start c ds) z.1 in
        let o : On c ds z.0 = subst (On c ds) (sym j.2) (met_on j.0) in
        let p : z.0.0 ≡ stepped 1 h = ap (λ (x : Corner × Corner). x.0) (sym z.2) in
        let r : stepped z.0.1 z.0.0 ≡ h = ap (λ (x : Corner × Corner). x.1) (sym z.2) in
        let q : z.0.1 ≡ 3 = stepped_inj z.0.1 3 (stepped 1 h) o.0 (omega arith) (ap (stepped z.0.1) (sym p) ∙ r ∙ sym (stepped-back 1 h)) in
        let v : onward (walked c ds h) 3 ≡ 0 = rw (home_ways c ds 2 (omega arith), home_ways c ds 3 (omega arith), w) in
        let g : next c ds z.0 ≡ start c ds = ap₂ (λ (a : Corner) (b : ℕ). (a, b)) r (ap₂ (λ (a : Corner) (b : ℕ). onward (walked c ds a) b) r q ∙ v ∙ sym f) in
        no_sooner (next c ds) n (suc j.0) (start c ds) once (omega arith) (omega (arith, j.1)) (after_suc (next c ds) j.0 (start c ds) ∙ ap (next c ds) (sym j.2) ∙ g)

    -- the path is not done before it is back at its first way
    not_sooner : (m : ℕ) → m < n → is_done c ds (path_from_home c ds m) ≡ true → ⊥
    not_sooner zero l e = ⊎_elim (λ k. false≢true (done_used [] 0 (Memᴰ.head refl) e k.0)) (λ k. false≢true (done_used [] 1 (Memᴰ.tail (Memᴰ.head refl)) e (rw k.1 at on.1))) ways
    not_sooner (suc m) l e =
        ⊎_elim
        (λ z. ⊎_elim (λ k. first (z ∙ sym k.1)) (λ k. true≢false (sym w ∙ ap (walked c ds h) z ∙ k.0)) ways)
        (λ z. ⊎_elim (λ k. ⊎_elim (northward (suc m) l (way z)) (southward (suc m) l k.0 k.1) (walked_edge h (path_from_home c ds (suc m)) h 1 (done_used (path_from_home c ds (suc m)) 1 (Memᴰ.tail (Memᴰ.head refl)) e (ap (walked c ds h) (sym z) ∙ w)))) (λ k. first (z ∙ sym k.1)) ways)
        (two (at (suc m)).1 w)
      where
        there : (at (suc m)).0 ≡ h
        there =
            sym (path_end c ds (suc m) h (first_way c ds))
            ∙ same_sound (end_from h (path_from_home c ds (suc m))) h (and_left (same (end_from h (path_from_home c ds (suc m))) h) (not (lacks c ds h (path_from_home c ds (suc m)))) e)

        w : walked c ds h (at (suc m)).1 ≡ true
        w = ap (λ (x : Corner). walked c ds x (at (suc m)).1) (sym there) ∙ (met_on (suc m)).1

        way : {d : ℕ} → (at (suc m)).1 ≡ d → at (suc m) ≡ (h, d)
        way z = ap₂ (λ (a : Corner) (b : ℕ). (a, b)) there z

        first : (at (suc m)).1 ≡ first_way c ds → ⊥
        first z = no_sooner (next c ds) n (suc m) (start c ds) once (omega arith) l (way z)

-- n ways lead once round: back to the first way, with none taken twice
pub record Round (c : Corner) (ds : List ℕ) (n : ℕ) : Type 0 where
  pub some : 0 < n
  pub few : n ≤ 2 * length ds
  pub on : On c ds (start c ds)
  pub again : after (next c ds) n (start c ds) ≡ start c ds
  pub once : Distinct (orbit (next c ds) n (start c ds))

-- a walk with steps has such a round
pub round_of_lem : (c : Corner) (ds : List ℕ) → 0 < length ds → (n : ℕ) × Round c ds n
round_of_lem c ds l =
    let o = start_on c ds l in
    let b = path_returns c ds (start c ds) o in
    (b.0, record { some = b.1; few = b.2; on = o; again = b.3; once = b.4 })

-- at its end the path is done, and not before
pub done_round : (c : Corner) (ds : List ℕ) (n : ℕ) → Round c ds n → is_done c ds (path_from_home c ds n) ≡ true
done_round c ds n r = round_done c ds r.on n r.some r.again

pub not_before : (c : Corner) (ds : List ℕ) (n : ℕ) → Round c ds n → (k : ℕ) → k < n → is_done c ds (path_from_home c ds k) ≡ false
not_before c ds n r k l = bool_agree (is_done c ds (path_from_home c ds k)) false (λ e. absurd (not_sooner c ds r.on n r.once k l e)) (λ e. absurd (false≢true e))
