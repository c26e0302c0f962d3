-- The links after one step more: two words are set, unless the step's edge was walked before.
-- Assumes nothing.
use mathlib.Core.Bool.{Bool, true, false, cond, ◌||◌, true≢false, false≢true}
use mathlib.Core.List.Memᴰ
use mathlib.Core.List.{List, [], ◌∷◌, ◌++◌, Memᴰ}
use mathlib.Core.Logic.{◌⊎◌, inl, inr, ⊎_elim}
use mathlib.Core.Path.{◌≡◌, refl, ap, ap₂, sym, ◌∙◌, subst}
use Prim.Native.Nat.{ℕ, zero, suc, ◌+◌, ◌*◌, ◌<◌, ◌≤◌}
use native.Mathlib.Decide.{ℕ_discrete, dec_lt}
use native.Mathlib.Omega.{arith}
use lib.ListN.{length, get_or, set, length-append, length-set, get_or-append}
use lib.Seq.{get_or-set_same, get_or-set_other}
use Rattle.lists.specs.Lists.{Distinct, any, find, add}
use Rattle.lists.proofs.DistinctLaws.{mem_get_d, get_d_mem, distinct_get_d}
use Rattle.lists.proofs.FindLaws.{any_append, find-left, find_get, find_pos, bool_agree}
use Rattle.lists.proofs.GatherLaws.{or_cases, add_cases, add-more, mem→any, distinct_add, gather_append}
use Rattle.grid.specs.declared.Corner.{Corner}
use Rattle.grid.specs.Grid.{origin, same, stepped, corners_from, end_from, legs_from, joins, back}
use Rattle.grid.proofs.CornerLaws.{same_refl, same_sound}
use Rattle.grid.proofs.JoinLaws.{joins_pair}
use Rattle.grid.proofs.StepLaws.{back_small, stepped-back, stepped_inj, stepped_ne, corners_from_snoc}
use Rattle.trace.specs.Meeting.{visited_of}
use Rattle.trace.proofs.VisitLaws.{visited_distinct, mem_visited}
use Rattle.outline.specs.Outline.{walked}
use Rattle.outline_laws.specs.Links.{link_of, LinkedAmong, Linked}
use Rattle.outline_laws.proofs.EdgeLaws.{Edge, walked_edge, edge_walked, edge_turned, walked_visited}

edges_snoc : (c : Corner) (ds : List ℕ) (d : ℕ) → legs_from c (ds ++ (d ∷ [])) ≡ legs_from c ds ++ ((end_from c ds, stepped d (end_from c ds)) ∷ [])
edges_snoc c [] d = refl
edges_snoc c (x ∷ ds) d = ap (λ (l : List (Corner × Corner)). (c, stepped x c) ∷ l) (edges_snoc (stepped x c) ds d)

-- a corner stands at one place of a list in which none stands twice
place-one : (vs : List Corner) (p : Corner) (i : ℕ) → Distinct vs → i < length vs → get_or vs i origin ≡ p → find (same p) vs ≡ suc i
place-one vs p i u h e = by (find (same p) vs) refl
  where
    by : (n : ℕ) → find (same p) vs ≡ n → find (same p) vs ≡ suc i
    by zero v = absurd (omega (arith, v, find_pos (same p) vs (mem→any same same_sound same_refl (Memᴰ.cast (sym e) (mem_get_d vs i origin h)))))
    by (suc m) v =
        let g = find_get (same p) vs m origin v in
        let z : get_or vs m origin ≡ get_or vs i origin = sym (same_sound p (get_or vs m origin) g.1) ∙ sym e in
        elim (dec_lt m i) [
          | yes l ↦ absurd (distinct_get_d vs m i origin u l h z)
          | no l ↦ elim (dec_lt i m) [ yes k ↦ absurd (distinct_get_d vs i m origin u k g.0 (sym z)) | no k ↦ v ∙ ap suc (omega arith) ]
        ]

module _ (c : Corner) (ds : List ℕ) (d : ℕ) where
  abbrev p : Corner
  p = end_from c ds

  abbrev q : Corner
  q = stepped d (end_from c ds)

  abbrev last : Corner × Corner
  last = (p, q)

  -- an edge was walked before, or it is that of the last step
  walked_more : (x : Corner) (e : ℕ) → walked c ds x e ≡ true → walked c (ds ++ (d ∷ [])) x e ≡ true
  walked_more x e w = subst (λ (l : List (Corner × Corner)). any (joins x (stepped e x)) l ≡ true) (sym (edges_snoc c ds d)) (any_append (joins x (stepped e x)) (legs_from c ds) ((p, q) ∷ []) ∙ ap (λ (b : Bool). b || any (joins x (stepped e x)) ((p, q) ∷ [])) w)

  pub walked-last : walked c (ds ++ (d ∷ [])) p d ≡ true
  walked-last = edge_walked c (ds ++ (d ∷ [])) p d (inl (subst (Memᴰ (p, q)) (sym (edges_snoc c ds d)) (Memᴰ.append_right (legs_from c ds) (Memᴰ.head refl))))

  pub walked-last-back : walked c (ds ++ (d ∷ [])) q (back d) ≡ true
  walked-last-back =
      edge_walked c (ds ++ (d ∷ [])) q (back d) (subst (Edge c (ds ++ (d ∷ [])) q) (sym (stepped-back d p)) (edge_turned c (ds ++ (d ∷ [])) p q (walked_edge c (ds ++ (d ∷ [])) p d walked-last)))

  walked_cases : (x : Corner) (e : ℕ) → walked c (ds ++ (d ∷ [])) x e ≡ true → (walked c ds x e ≡ true) ⊎ ((last ≡ (x, stepped e x)) ⊎ (last ≡ (stepped e x, x)))
  walked_cases x e w =
      ⊎_elim
      (λ k. inl k)
      (λ k. ⊎_elim (λ j. inr (joins_pair x (stepped e x) (p, q) j)) (λ f. absurd (false≢true f)) (or_cases (joins x (stepped e x) (p, q)) false k))
      (or_cases (any (joins x (stepped e x)) (legs_from c ds)) (any (joins x (stepped e x)) ((p, q) ∷ [])) (sym (any_append (joins x (stepped e x)) (legs_from c ds) ((p, q) ∷ [])) ∙ subst (λ (l : List (Corner × Corner)). any (joins x (stepped e x)) l ≡ true) (edges_snoc c ds d) w))

  -- if the step's edge was walked before, nothing is new
  walked_same : walked c ds p d ≡ true → (x : Corner) (e : ℕ) → walked c (ds ++ (d ∷ [])) x e ≡ walked c ds x e
  walked_same w x e = bool_agree (walked c (ds ++ (d ∷ [])) x e) (walked c ds x e) (λ k. ⊎_elim (λ j. j) (λ j. edge_walked c ds x e (⊎_elim (λ z. along z) (λ z. edge_turned c ds (stepped e x) x (along z)) j)) (walked_cases x e k)) (walked_more x e)
    where
      along : {a b : Corner} → last ≡ (a, b) → Edge c ds a b
      along z = subst (λ (y : Corner × Corner). Edge c ds y.0 y.1) z (walked_edge c ds p d w)

  -- no other edge is new
  pub walked_other : d < 4 → (x : Corner) (e : ℕ) → e < 4 → ((x ≡ p) × (e ≡ d) → ⊥) → ((x ≡ q) × (e ≡ back d) → ⊥) → walked c (ds ++ (d ∷ [])) x e ≡ walked c ds x e
  walked_other hd x e he n m = bool_agree (walked c (ds ++ (d ∷ [])) x e) (walked c ds x e) (λ k. ⊎_elim (λ j. j) (λ j. absurd (⊎_elim forth against j)) (walked_cases x e k)) (walked_more x e)
    where
      forth : last ≡ (x, stepped e x) → ⊥
      forth z =
          let a : p ≡ x = ap (λ (y : Corner × Corner). y.0) z in
          n (sym a, stepped_inj e d p he hd (ap (stepped e) a ∙ sym (ap (λ (y : Corner × Corner). y.1) z)))

      against : last ≡ (stepped e x, x) → ⊥
      against z =
          let a : q ≡ x = ap (λ (y : Corner × Corner). y.1) z in
          m (sym a, stepped_inj e (back d) q he (back_small d) (ap (stepped e) a ∙ sym (ap (λ (y : Corner × Corner). y.0) z) ∙ sym (stepped-back d p)))

module _ (c : Corner) (ds : List ℕ) (d : ℕ) (hd : d < 4) where
  abbrev vs : List Corner
  vs = visited_of (corners_from c ds)

  abbrev ws : List Corner
  ws = add same (visited_of (corners_from c ds)) (stepped d (end_from c ds))

  pub ws_visited : visited_of (corners_from c (ds ++ (d ∷ []))) ≡ ws
  ws_visited = ap visited_of (corners_from_snoc c ds d) ∙ gather_append same [] (corners_from c ds) (q c ds d ∷ [])

  ws_distinct : Distinct ws
  ws_distinct = distinct_add same same_sound same_refl vs (q c ds d) (visited_distinct (corners_from c ds))

  pub ws-old : (m : ℕ) → m < length vs → get_or ws m origin ≡ get_or vs m origin
  ws-old m h = let r = add-more same vs (q c ds d) in ap (λ (l : List Corner). get_or l m origin) r.1 ∙ get_or-append vs r.0 origin m h

  pub ws-more : length vs ≤ length ws
  ws-more = let r = add-more same vs (q c ds d) in omega (arith, ap length r.1, length-append vs r.0)

  one_place : (m i : ℕ) → m < length ws → i < length ws → get_or ws m origin ≡ get_or ws i origin → m ≡ i
  one_place m i h k e =
      elim (dec_lt m i) [
        | yes l ↦ absurd (distinct_get_d ws m i origin ws_distinct l k e)
        | no l ↦ elim (dec_lt i m) [ yes g ↦ absurd (distinct_get_d ws i m origin ws_distinct g h (sym e)) | no g ↦ omega arith ]
      ]

  -- a corner that is walked to is among the visited, and is found where it was
  found-old : (x : Corner) (e : ℕ) → walked c ds x e ≡ true → find (same (stepped e x)) ws ≡ find (same (stepped e x)) vs
  found-old x e w =
      let r = add-more same vs (q c ds d) in
      ap (find (same (stepped e x))) r.1 ∙ find-left (same (stepped e x)) vs r.0 (mem→any same same_sound same_refl (mem_visited (corners_from c ds) (walked_visited c ds x e w).1))

  -- a link is what it was if the edges of its corner are
  link_same : (m e : ℕ) → m < length vs → walked c (ds ++ (d ∷ [])) (get_or ws m origin) e ≡ walked c ds (get_or ws m origin) e → link_of c (ds ++ (d ∷ [])) ws m e ≡ link_of c ds vs m e
  link_same m e h k = go (walked c ds (get_or vs m origin) e) refl
    where
      x : get_or ws m origin ≡ get_or vs m origin
      x = ws-old m h

      both : walked c (ds ++ (d ∷ [])) (get_or ws m origin) e ≡ walked c ds (get_or vs m origin) e
      both = k ∙ ap (λ (y : Corner). walked c ds y e) x

      go : (b : Bool) → walked c ds (get_or vs m origin) e ≡ b → link_of c (ds ++ (d ∷ [])) ws m e ≡ link_of c ds vs m e
      go true w = ap (λ (b : Bool). cond b (find (same (stepped e (get_or ws m origin))) ws) 0) (both ∙ w) ∙ ap (λ (y : Corner). find (same (stepped e y)) ws) x ∙ found-old (get_or vs m origin) e w ∙ sym (ap (λ (b : Bool). cond b (find (same (stepped e (get_or vs m origin))) vs) 0) w)
      go false w = ap (λ (b : Bool). cond b (find (same (stepped e (get_or ws m origin))) ws) 0) (both ∙ w) ∙ sym (ap (λ (b : Bool). cond b (find (same (stepped e (get_or vs m origin))) vs) 0) w)

  -- the step's edge was walked before: no word changes
  pub linked_again : (links : List ℕ) → walked c ds (end_from c ds) d ≡ true → Linked c ds links → Linked c (ds ++ (d ∷ [])) links
  linked_again links w k = subst (λ (l : List Corner). LinkedAmong c (ds ++ (d ∷ [])) l links) (sym ws_visited) (record {
    link = λ m e h g. k.link m e (omega (arith, ap length old)) g ∙ sym (link_same m e (omega (arith, ap length old)) (walked_same c ds d w (get_or ws m origin) e));
    blank = λ l h. k.blank l (omega (arith, ap length old));
  })
    where
      old : ws ≡ vs
      old = ⊎_elim (λ a. a.1) (λ a. absurd (true≢false (sym (mem→any same same_sound same_refl (mem_visited (corners_from c ds) (walked_visited c ds (end_from c ds) d w).1)) ∙ a.0))) (add_cases same vs (q c ds d))

  -- it was not: the words of its two ends
  module _ (links : List ℕ) (k : Linked c ds links) (i j : ℕ) (hi : i < length vs) (pi : get_or vs i origin ≡ end_from c ds) (fj : find (same (stepped d (end_from c ds))) ws ≡ suc j) (room : 4 * length ws ≤ length links) where
    abbrev links' : List ℕ
    links' = set (set links (4 * i + d) (suc j)) (4 * j + back d) (suc i)

    hj : (j < length ws) × (get_or ws j origin ≡ q c ds d)
    hj = let g = find_get (same (q c ds d)) ws j origin fj in (g.0, sym (same_sound (q c ds d) (get_or ws j origin) g.1))

    pi' : get_or ws i origin ≡ p c ds d
    pi' = ws-old i hi ∙ pi

    apart : i ≡ j → ⊥
    apart z = stepped_ne d (p c ds d) (sym hj.1 ∙ ap (λ (m : ℕ). get_or ws m origin) (sym z) ∙ pi')

    words : (m e : ℕ) → m < length ws → e < 4 → ((m ≡ i) × (e ≡ d) → ⊥) → ((m ≡ j) × (e ≡ back d) → ⊥) → get_or links' (4 * m + e) 0 ≡ link_of c (ds ++ (d ∷ [])) ws m e
    words m e h g n o = unset ∙ elim (dec_lt m (length vs)) [ yes l ↦ k.link m e l g ∙ sym (link_same m e l other) | no l ↦ k.blank (4 * m + e) (omega arith) ∙ sym (ap (λ (b : Bool). cond b (find (same (stepped e (get_or ws m origin))) ws) 0) (other ∙ new l)) ]
      where
        unset : get_or links' (4 * m + e) 0 ≡ get_or links (4 * m + e) 0
        unset =
            get_or-set_other (set links (4 * i + d) (suc j)) (4 * j + back d) (4 * m + e) (suc i) 0 (λ z. o (omega (arith, z, back_small d), omega (arith, z, back_small d)))
            ∙ get_or-set_other links (4 * i + d) (4 * m + e) (suc j) 0 (λ z. n (omega (arith, z), omega (arith, z)))

        other : walked c (ds ++ (d ∷ [])) (get_or ws m origin) e ≡ walked c ds (get_or ws m origin) e
        other = walked_other c ds d hd (get_or ws m origin) e g (λ z. n (one_place m i h (omega (arith, hi, ws-more)) (z.0 ∙ sym pi'), z.1)) (λ z. o (one_place m j h hj.0 (z.0 ∙ sym hj.1), z.1))

        new : (m < length vs → ⊥) → walked c ds (get_or ws m origin) e ≡ false
        new l = bool_agree (walked c ds (get_or ws m origin) e) false (λ w. absurd (l (seen (get_d_mem vs origin (mem_visited (corners_from c ds) (walked_visited c ds (get_or ws m origin) e w).0))))) (λ z. absurd (false≢true z))
          where
            seen : (a : ℕ) × (a < length vs) × (get_or vs a origin ≡ get_or ws m origin) → m < length vs
            seen a = let z : m ≡ a.0 = one_place m a.0 h (omega (arith, a.1, ws-more)) (sym a.2 ∙ sym (ws-old a.0 a.1)) in omega (arith, z, a.1)

    pub linked_new : Linked c (ds ++ (d ∷ [])) links'
    linked_new = subst (λ (l : List Corner). LinkedAmong c (ds ++ (d ∷ [])) l links') (sym ws_visited) (record { link = all; blank = rest })
      where
        forth : get_or links' (4 * i + d) 0 ≡ link_of c (ds ++ (d ∷ [])) ws i d
        forth =
            get_or-set_other (set links (4 * i + d) (suc j)) (4 * j + back d) (4 * i + d) (suc i) 0 (λ z. apart (omega (arith, z, back_small d)))
            ∙ get_or-set_same links (4 * i + d) (suc j) 0 (omega (arith, hi, ws-more))
            ∙ sym (ap (λ (y : Corner). cond (walked c (ds ++ (d ∷ [])) y d) (find (same (stepped d y)) ws) 0) pi' ∙ ap (λ (b : Bool). cond b (find (same (q c ds d)) ws) 0) (walked-last c ds d) ∙ fj)

        against : get_or links' (4 * j + back d) 0 ≡ link_of c (ds ++ (d ∷ [])) ws j (back d)
        against =
            get_or-set_same (set links (4 * i + d) (suc j)) (4 * j + back d) (suc i) 0 (subst (λ (n : ℕ). 4 * j + back d < n) (sym (length-set links (4 * i + d) (suc j))) (omega (arith, hj.0, back_small d)))
            ∙ sym (ap (λ (y : Corner). cond (walked c (ds ++ (d ∷ [])) y (back d)) (find (same (stepped (back d) y)) ws) 0) hj.1 ∙ ap (λ (b : Bool). cond b (find (same (stepped (back d) (q c ds d))) ws) 0) (walked-last-back c ds d) ∙ ap (λ (y : Corner). find (same y) ws) (stepped-back d (p c ds d)) ∙ place-one ws (p c ds d) i ws_distinct (omega (arith, hi, ws-more)) pi')

        all : (m e : ℕ) → m < length ws → e < 4 → get_or links' (4 * m + e) 0 ≡ link_of c (ds ++ (d ∷ [])) ws m e
        all m e h g =
            elim (ℕ_discrete (4 * m + e) (4 * i + d)) [
              | yes z ↦ at m e i d (omega (arith, z)) (omega (arith, z)) forth
              | no z ↦ elim (ℕ_discrete (4 * m + e) (4 * j + back d)) [
                | yes y ↦ at m e j (back d) (omega (arith, y, back_small d)) (omega (arith, y, back_small d)) against
                | no y ↦ words m e h g (λ a. z (omega (arith, a.0, a.1))) (λ a. y (omega (arith, a.0, a.1)))
              ]
            ]
          where
            at : (m e m' e' : ℕ) → m ≡ m' → e ≡ e' → get_or links' (4 * m' + e') 0 ≡ link_of c (ds ++ (d ∷ [])) ws m' e' → get_or links' (4 * m + e) 0 ≡ link_of c (ds ++ (d ∷ [])) ws m e
            at m e m' e' a b t = ap₂ (λ (x y : ℕ). get_or links' (4 * x + y) 0) a b ∙ t ∙ sym (ap₂ (λ (x y : ℕ). link_of c (ds ++ (d ∷ [])) ws x y) a b)

        rest : (l : ℕ) → 4 * length ws ≤ l → get_or links' l 0 ≡ 0
        rest l h =
            get_or-set_other (set links (4 * i + d) (suc j)) (4 * j + back d) l (suc i) 0 (λ z. omega (arith, z, hj.0, back_small d))
            ∙ get_or-set_other links (4 * i + d) l (suc j) 0 (λ z. omega (arith, z, hi, ws-more))
            ∙ k.blank l (omega (arith, ws-more))
