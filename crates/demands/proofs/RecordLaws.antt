-- A node's record says what the table of words says.
-- Assumes nothing.
use mathlib.Core.Bool.{Bool, true, cond}
use mathlib.Core.List.{List}
use mathlib.Core.Logic.{◌↔◌, ⊎_elim}
use mathlib.Core.Path.{◌≡◌, refl, ap, ap₂, sym, ◌∙◌, subst}
use Prim.Native.Nat.{ℕ, zero, suc, ◌+◌, ◌<◌, ◌≤◌}
use native.Mathlib.Decide.{dec_lt}
use native.Mathlib.Omega.{arith}
use lib.ListN.{length, get_or}
use Rattle.lists.specs.Lists.{find, count}
use Rattle.grid.specs.declared.Corner.{Corner}
use Rattle.grid.specs.Grid.{origin, same, stepped, legs_of, joins}
use Rattle.grid.specs.Tree.{parent_of, child_word, AncestorAt}
use Rattle.tree.specs.Nodes.{nodes_of, ref_of, link_step_of, need_of, InUse, LinkedBy}
use Rattle.layout.specs.Table.{width, fields_of, record_of, child_ref_of, neighbour_ref_of, edges_of}
use Rattle.grid.proofs.CornerLaws.{same_refl, same_sound}
use Rattle.lists.proofs.DistinctLaws.{mem_get_d}
use Rattle.lists.proofs.FindLaws.{find_get, find_none}
use Rattle.lists.proofs.ZipLaws.{find_least}
use Rattle.tree.proofs.InUseLaws.{node_in_use, in_use_ref, parent_in_use}
use Rattle.grid.proofs.JoinLaws.{joins_cases, joins_here, joins-there}
use Rattle.tree.proofs.LinkStepLaws.{link_made, link_least}
use Rattle.tree.proofs.OrderLaws.{need-there, need_least}
use Rattle.tree.proofs.RefLaws.{not_any}
use Rattle.layout.proofs.ChildLaws.{child_ref, child_there, child_word_range}
use Rattle.layout.proofs.NeighbourLaws.{neighbour_linked, neighbour_none}
use Rattle.layout.proofs.WordLaws.{child_of, neighbour_of, link_of_lem, edge_of}
use Rattle.tree_laws.proofs.EdgeLaws.{edge_some, edge_there}
use Rattle.demands.specs.Record.{IsRef, IsChild, FirstIn, StepBetween, RecordSays}

-- ---- first places
module _ (l : List Corner) (a : Corner) where
  test : (k : ℕ) → get_or l k origin ≡ a → same a (get_or l k origin) ≡ true
  test k e = subst (λ (b : Corner). same a b ≡ true) (sym e) (same_refl a)

  placed : (k : ℕ) → FirstIn l a k → (m : ℕ) → find (same a) l ≡ m → (0 < m) × (m ≤ suc k) → m ≡ suc k
  placed k f zero p h = absurd (omega (arith, h.0))
  placed k f (suc i) p h =
      elim (dec_lt i k) [
        | yes z ↦ absurd (f.before i z (sym (same_sound a (get_or l i origin) (find_get (same a) l i origin p).1)))
        | no z ↦ omega (arith, h.1)
      ]

  pub find_first : (k : ℕ) → find (same a) l ≡ suc k ↔ FirstIn l a k
  find_first k = (
    λ e.
        let g = find_get (same a) l k origin e in
        record {
          inside = g.0;
          before = λ h i q. omega (arith, (find_least (same a) l h origin (omega (arith, g.0)) (test h q)).1);
          here = sym (same_sound a (get_or l k origin) g.1);
        },
    λ f. placed k f (find (same a) l) refl (find_least (same a) l k origin f.inside (test k f.here)),
  )

-- ---- refs
module _ (ps : List Corner) where
  abbrev ns : List Corner
  ns = nodes_of ps

  -- a node's ref is its number plus 1
  ref_number : (b : Corner) (n : ℕ) → ref_of ns b ≡ n → 0 < n → IsRef ps b n
  ref_number b zero e h = absurd (omega arith)
  ref_number b (suc m) e h = let f = (find_first ns b m).0 e in record { number = m; plus_one = refl; in_use = f.inside; node = f.here }

  in_use_is_ref : (b : Corner) → InUse ps b → IsRef ps b (ref_of ns b)
  in_use_is_ref b u = ref_number b (ref_of ns b) refl (in_use_ref ps b u)

  module _ (a : Corner) where
    child_word_lem : (w : ℕ) → 0 < w → w ≤ 9 → get_or (record_of ps ns a) w 0 ≡ child_ref_of ns a w
    child_word_lem w h k = child_of (fields_of ps ns a) w h (omega arith)

    children : (w : ℕ) (b : Corner) → IsChild ps a w b → get_or (record_of ps ns a) w 0 ≡ ref_of ns b
    children w b k =
        let r = child_word_range b in
        child_word_lem w (omega (arith, r.0, k.word)) (omega (arith, r.1, k.word))
        ∙ subst (λ (n : ℕ). child_ref_of ns a n ≡ ref_of ns b) k.word (subst (λ (p : Corner). child_ref_of ns p (child_word b) ≡ ref_of ns b) k.parent (child_ref ns b k.below))

    no_children : (w : ℕ) → ((b : Corner) → IsChild ps a w b → ⊥) → (n : ℕ) → child_ref_of ns a w ≡ n → n ≡ 0
    no_children w f zero e = refl
    no_children w f (suc r) e =
        let k = child_there ns a w r e in
        let c = k.1 in
        absurd (f (get_or ns r origin) (record { in_use = node_in_use ps (get_or ns r origin) (mem_get_d ns r origin k.0); below = c.below; parent = c.parent; word = c.word }))

    neighbours : (d n m : ℕ) → neighbour_ref_of ps ns a d ≡ n → link_step_of ps a d ≡ m → 0 < m → IsRef ps (stepped d a) n
    neighbours d n m p q h =
        let k = neighbour_linked ps a d (omega arith) in
        ref_number (stepped d a) n (sym k.0 ∙ p) (omega (arith, k.0, k.1))

    -- the start and its ancestors are needed from the first
    start-need : (i : ℕ) → AncestorAt i (get_or ps 0 origin) a → InUse ps a → need_of ps a ≡ 0
    start-need i h u = omega (arith, need_least ps a 0 i (omega (arith, (need-there ps a u).0)) h)

    -- an edge that was walked has a step along it
    edge_steps : (b : Corner) → 0 < count (joins a b) (legs_of ps) ↔ ((k : ℕ) × StepBetween ps a b k)
    edge_steps b = (
      λ h. let s = edge_some ps a b h in (suc s.0, (omega arith, s.1, joins_cases a b (get_or ps s.0 origin) (get_or ps (suc s.0) origin) s.2)),
      λ s. step s.0 s.1,
    )
      where
        step : (k : ℕ) → StepBetween ps a b k → 0 < count (joins a b) (legs_of ps)
        step zero s = absurd (omega (arith, s.0))
        step (suc k) s =
            edge_there ps a b k s.1
            (⊎_elim
            (λ q. ap₂ (λ (x y : Corner). joins a b (x, y)) q.0 q.1 ∙ joins_here a b)
            (λ q. ap₂ (λ (x y : Corner). joins a b (x, y)) q.0 q.1 ∙ joins-there b a)
            s.2)

    -- the record of a node in use, word by word
    pub record_says : (word : ℕ → ℕ) → InUse ps a → ((w : ℕ) → w < width → word w ≡ get_or (record_of ps ns a) w 0) → RecordSays ps a word
    record_says word u e = record {
      root = λ h. e 0 (omega arith) ∙ ap (λ (b : Bool). cond b 0 (ref_of ns (parent_of a))) h;
      parent = λ h.
          subst (IsRef ps (parent_of a)) (sym (e 0 (omega arith) ∙ ap (λ (b : Bool). cond b 0 (ref_of ns (parent_of a))) h))
          (in_use_is_ref (parent_of a) (parent_in_use ps a h u));
      child = λ w b k. subst (IsRef ps b) (sym (e w (omega (arith, (child_word_range b).1, k.word)) ∙ children w b k)) (in_use_is_ref b k.in_use);
      childless = λ w h k f. e w (omega arith) ∙ child_word_lem w h k ∙ no_children w f (child_ref_of ns a w) refl;
      neighbour = λ d h k. neighbours d (word (10 + d)) (word (14 + d)) (sym (near d h)) (sym (link d h)) k;
      alone = λ d h k. near d h ∙ neighbour_none ps a d (sym (link d h) ∙ k);
      linked = λ d h k. subst (λ (n : ℕ). LinkedBy ps a (stepped d a) n) (sym (link d h)) (link_made ps a d (subst (λ (n : ℕ). 0 < n) (link d h) k));
      least = λ d k h l. subst (λ (n : ℕ). (0 < n) × (n ≤ k)) (sym (link d h)) (link_least ps a d k l);
      visits = e 18 (omega arith);
      needed = subst (λ (n : ℕ). (n < length ps) × ((i : ℕ) × AncestorAt i (get_or ps n origin) a)) (sym (e 19 (omega arith))) (need-there ps a u);
      soonest = λ k i h l. subst (λ (n : ℕ). n ≤ k) (sym (e 19 (omega arith))) (need_least ps a k i h l);
      planted = λ i h. e 19 (omega arith) ∙ start-need i h u;
      first = λ k. (λ h. (find_first ps a k).0 (sym (e 20 (omega arith)) ∙ h), λ f. e 20 (omega arith) ∙ (find_first ps a k).1 f);
      unvisited = λ f. e 20 (omega arith) ∙ find_none (same a) ps (not_any a ps f);
      edges = edge;
      walked = λ d h. subst (λ (n : ℕ). 0 < n ↔ ((k : ℕ) × StepBetween ps a (stepped d a) k)) (sym (edge d h)) (edge_steps (stepped d a));
    }
      where
        near : (d : ℕ) → d < 4 → word (10 + d) ≡ neighbour_ref_of ps ns a d
        near d h = e (10 + d) (omega arith) ∙ neighbour_of (fields_of ps ns a) d h

        link : (d : ℕ) → d < 4 → word (14 + d) ≡ link_step_of ps a d
        link d h = e (14 + d) (omega arith) ∙ link_of_lem (fields_of ps ns a) d h

        edge : (d : ℕ) → d < 4 → word (21 + d) ≡ edges_of ps a d
        edge d h = e (21 + d) (omega arith) ∙ edge_of (fields_of ps ns a) d h
