-- There is a link exactly when some step and some level make it, its step is the least of these, and it goes both ways.
-- Assumes nothing.
use mathlib.Core.Bool.{true}
use mathlib.Core.List.{List, [], ◌∷◌}
use mathlib.Core.Logic.{inl, inr, ⊎_map, ⊎_elim}
use mathlib.Core.Path.{◌≡◌, refl, ap, ap₂, sym, ◌∙◌, subst}
use Prim.Native.Nat.{ℕ, zero, suc, ◌<◌, ◌≤◌, pred}
use native.Mathlib.Omega.{arith}
use lib.ListN.{length, get_or}
use Rattle.lists.specs.Lists.{find, zip, Below}
use Rattle.lists.proofs.BelowLaws.{below_get_d}
use Rattle.lists.proofs.DistinctLaws.{mem_get_d}
use Rattle.lists.proofs.FindLaws.{find_get, find_cong, bool_agree}
use Rattle.lists.proofs.ZipLaws.{zip-within, zip-at, any_at, at-any, find_least}
use Rattle.grid.specs.declared.Corner.{Corner}
use Rattle.grid.specs.Grid.{origin, stepped, corners_from, legs_of, joins, back}
use Rattle.grid.specs.Tree.{AncestorAt, lineage_of}
use Rattle.grid.proofs.AncestorLaws.{ancestor_place, place_ancestor}
use Rattle.grid.proofs.StepLaws.{back_small, stepped-back, length-corners_from, corners_from-next, stepped_ne}
use Rattle.tree.specs.Nodes.{links, link_step_of, InUse, JoinedAt, LinkedBy}
use Rattle.grid.proofs.JoinLaws.{joins_cases, joins_here, joins-there}
use Rattle.tree.proofs.LinkLaws.{link_near}

abbrev nowhere : Corner × Corner
nowhere = (origin, origin)

module _ (p q a b : Corner) where
  -- a step links two nodes exactly at a level where its ends' parents are these
  links-level : links a b (p, q) ≡ true → (i : ℕ) × JoinedAt i p q a b
  links-level e =
      let h = any_at (joins a b) (zip (lineage_of p) (lineage_of q)) nowhere e in
      let i = h.0 in
      let w = zip-within (lineage_of p) (lineage_of q) i h.1 in
      let x = get_or (lineage_of p) i origin in
      let y = get_or (lineage_of q) i origin in
      let z = zip-at (lineage_of p) (lineage_of q) i origin w.0 w.1 in
      let ap-x : AncestorAt i p x = place_ancestor i p origin w.0 in
      let ap-y : AncestorAt i q y = place_ancestor i q origin w.1 in
      let j : joins a b (x, y) ≡ true = subst (λ (l : Corner × Corner). joins a b l ≡ true) z.1 h.2 in (
        i,
        ⊎_map
            (λ k. (subst (AncestorAt i p) k.0 ap-x, subst (AncestorAt i q) k.1 ap-y))
            (λ k. (subst (AncestorAt i p) k.0 ap-x, subst (AncestorAt i q) k.1 ap-y))
            (joins_cases a b x y j),
      )

  level-links : (i : ℕ) → JoinedAt i p q a b → links a b (p, q) ≡ true
  level-links i j = ⊎_elim (λ k. by a b k.0 k.1 (joins_here a b)) (λ k. by b a k.0 k.1 (joins-there b a)) j
    where
      by : (x y : Corner) → AncestorAt i p x → AncestorAt i q y → joins a b (x, y) ≡ true → links a b (p, q) ≡ true
      by x y u v e =
          let k = ancestor_place i p x origin u in
          let l = ancestor_place i q y origin v in
          let z = zip-at (lineage_of p) (lineage_of q) i origin k.0 l.0 in
          let g : get_or (zip (lineage_of p) (lineage_of q)) i nowhere ≡ (x, y) = z.1 ∙ ap₂ (λ (s t : Corner). (s, t)) k.1 l.1 in
          at-any (joins a b) (zip (lineage_of p) (lineage_of q)) i nowhere z.0 (subst (λ (m : Corner × Corner). joins a b m ≡ true) (sym g) e)

-- leg k goes from place k to place k + 1
legs_within : (ps : List Corner) (k : ℕ) → k < length (legs_of ps) → suc k < length ps
legs_within [] k h = absurd (omega arith)
legs_within (p ∷ ps) k h = omega (arith, (zip-within (p ∷ ps) ps k h).1)

legs_at : (ps : List Corner) (k : ℕ) → suc k < length ps → (k < length (legs_of ps)) × (get_or (legs_of ps) k nowhere ≡ (get_or ps k origin, get_or ps (suc k) origin))
legs_at [] k h = absurd (omega arith)
legs_at (p ∷ ps) k h = zip-at (p ∷ ps) ps k origin (omega arith) (omega arith)

module _ (ps : List Corner) (a : Corner) (d : ℕ) where
  -- a link has a step that makes it
  pub link_made : 0 < link_step_of ps a d → LinkedBy ps a (stepped d a) (link_step_of ps a d)
  link_made h = by (link_step_of ps a d) refl
    where
      by : (n : ℕ) → link_step_of ps a d ≡ n → LinkedBy ps a (stepped d a) n
      by zero e = absurd (omega arith)
      by (suc k) e =
          let f = find_get (links a (stepped d a)) (legs_of ps) k nowhere e in
          let w = legs_within ps k f.0 in
          let g = links-level (get_or ps k origin) (get_or ps (suc k) origin) a (stepped d a) (subst (λ (l : Corner × Corner). links a (stepped d a) l ≡ true) (legs_at ps k w).1 f.1) in
          record { counted = omega arith; within = w; level = g.0; joined = g.1; differ = λ q. stepped_ne d a (sym q) }

  -- a step that makes one is there, and it is the first or comes after
  pub link_least : (k : ℕ) → LinkedBy ps a (stepped d a) k → (0 < link_step_of ps a d) × (link_step_of ps a d ≤ k)
  link_least zero l = absurd (omega (arith, l.counted))
  link_least (suc k) l =
      let g = legs_at ps k l.within in
      find_least (links a (stepped d a)) (legs_of ps) k nowhere g.0
      (subst (λ (m : Corner × Corner). links a (stepped d a) m ≡ true) (sym g.1) (level-links (get_or ps k origin) (get_or ps (suc k) origin) a (stepped d a) l.level l.joined))

-- the nodes that a step links are in use
pub link_in_use : (ps : List Corner) (a b : Corner) (k : ℕ) → LinkedBy ps a b k → InUse ps a × InUse ps b
link_in_use ps a b k l = ⊎_elim (λ j. (ends (pred k) a (omega (arith, l.counted, l.within)) j.0, ends k b l.within j.1)) (λ j. (ends k a l.within j.1, ends (pred k) b (omega (arith, l.counted, l.within)) j.0)) l.joined
  where
    ends : (m : ℕ) (x : Corner) → m < length ps → AncestorAt l.level (get_or ps m origin) x → InUse ps x
    ends m x h u = (get_or ps m origin, mem_get_d ps m origin h, (l.level, u))

-- a link goes both ways, with one step
pub links-over : (x y p q : Corner) → links x y (p, q) ≡ true → links y x (p, q) ≡ true
links-over x y p q e = let h = links-level p q x y e in level-links p q y x h.0 (⊎_elim (λ k. inr k) (λ k. inl k) h.1)

pub link_both_ways : (ps : List Corner) (a : Corner) (d : ℕ) → link_step_of ps a d ≡ link_step_of ps (stepped d a) (back d)
link_both_ways ps a d =
    find_cong (links a (stepped d a)) (links (stepped d a) a) (λ l. bool_agree (links a (stepped d a) l) (links (stepped d a) a l) (links-over a (stepped d a) l.0 l.1) (links-over (stepped d a) a l.0 l.1)) (legs_of ps)
    ∙ ap (λ (b : Corner). find (links (stepped d a) b) (legs_of ps)) (sym (stepped-back d a))

-- two nodes that a step of a walk links are neighbours, so each link stands in the words of its two ends
pub link_next : (c : Corner) (ds : List ℕ) → Below 4 ds → (a b : Corner) (k : ℕ) → LinkedBy (corners_from c ds) a b k → (d : ℕ) × (d < 4) × (b ≡ stepped d a)
link_next c ds h a b zero l = absurd (omega (arith, l.counted))
link_next c ds h a b (suc k) l =
    let ps = corners_from c ds in
    let i : k < length ds = omega (arith, l.within, length-corners_from c ds) in
    let d = get_or ds k 0 in
    let s : d < 4 = below_get_d 4 ds k h i in
    let p = get_or ps k origin in
    let e : links a b (p, stepped d p) ≡ true = subst (λ q. links a b (p, q) ≡ true) (corners_from-next c ds k origin i) (level-links p (get_or ps (suc k) origin) a b l.level l.joined) in
    ⊎_elim
    (⊎_elim (λ g. absurd (l.differ (sym g))) (λ g. (d, s, g)))
    (⊎_elim (λ g. absurd (l.differ g)) (λ g. (back d, back_small d, sym (ap (stepped (back d)) g ∙ stepped-back d b))))
    (link_near d p a b e)
