-- How every word of the table changes with one step more.
-- Assumes nothing.
use mathlib.Core.Bool.{Bool, true, false, true≢false}
use mathlib.Core.List.Memᴰ
use mathlib.Core.List.{List, [], ◌∷◌, ◌++◌, Memᴰ}
use mathlib.Core.Logic.{⊎_elim}
use mathlib.Core.Path.{◌≡◌, refl, ap, sym, ◌∙◌}
use Prim.Native.Nat.{ℕ, suc, ◌+◌, ◌<◌, ◌≤◌, pred}
use native.Mathlib.Omega.{arith}
use borrow.Author.Tests.{ne_eqb, eq-eqb}
use lib.Dec.{eqb}
use lib.ListN.{length, length-append}
use Rattle.grid.specs.declared.Corner.{Corner}
use Rattle.grid.specs.Grid.{same, stepped, corners_from, end_from, legs_of, joins}
use Rattle.grid.specs.Tree.{root, parent_of, path_of}
use Rattle.lists.specs.Lists.{any, find, count, gather, zip, tally, Below}
use Rattle.trace.specs.Meeting.{visited_of}
use Rattle.tree.specs.Nodes.{paths_of, nodes_of, links}
use Rattle.grid.proofs.CornerLaws.{same_refl, same_sound}
use Rattle.grid.proofs.StepLaws.{length-corners_from, end_from-mem, corners_from_snoc}
use Rattle.lists.proofs.CountLaws.{count_cong}
use Rattle.lists.proofs.FindLaws.{find_cong, bool_agree, find_le, find_pos, count_snoc, count_none, count-any, not_found, find_none, find-any, any-mem, any_some}
use Rattle.lists.proofs.GatherLaws.{gather-more, gather_append, add_cases, any→mem, mem→any, not_mem, mem-gather-right, mem-gather_cases}
use Rattle.grid.proofs.JoinLaws.{joins_cases, joins_flip}
use Rattle.grid.proofs.AncestorLaws.{path_of-first}
use Rattle.tree.proofs.NodeLaws.{mem_path, nodes_of_snoc, nodes_of_distinct, mem_paths, mem_paths_cases}
use Rattle.tree.proofs.RefLaws.{not_any, ref_parent}
use Rattle.tree_laws.proofs.LaterLaws.{later-old, later_new, later-none, find_snoc}
use Rattle.tree_laws.specs.State.{later, linked, WellLinked, state_of, needed, reached, visited_by, walked_by, Alike, Sound}
use Rattle.tree_laws.proofs.LevelLaws.{path_parent}
use Rattle.tree_laws.proofs.LineageLaws.{links-up, links_flip, links-ends}

legs_push : (c : Corner) (ds : List ℕ) (d : ℕ) → legs_of (corners_from c (ds ++ (d ∷ []))) ≡ legs_of (corners_from c ds) ++ ((end_from c ds, stepped d (end_from c ds)) ∷ [])
legs_push c [] d = refl
legs_push c (x ∷ []) d = refl
legs_push c (x ∷ y ∷ ds) d = ap (λ (l : List (Corner × Corner)). (c, stepped x c) ∷ l) (legs_push (stepped x c) (y ∷ ds) d)

pub length_legs : (c : Corner) (ds : List ℕ) → length (legs_of (corners_from c ds)) ≡ length ds
length_legs c [] = refl
length_legs c (x ∷ []) = refl
length_legs c (x ∷ y ∷ ds) = ap suc (length_legs (stepped x c) (y ∷ ds))

mem-zip : (l m : List Corner) {x : Corner × Corner} → Memᴰ x (zip l m) → Memᴰ x.0 l × Memᴰ x.1 m
mem-zip [] m k = absurd (Memᴰ.not-nil k)
mem-zip (p ∷ l) [] k = absurd (Memᴰ.not-nil k)
mem-zip (p ∷ l) (q ∷ m) k =
    ⊎_elim
    (λ e. (Memᴰ.head (ap (λ (z : Corner × Corner). z.0) e), Memᴰ.head (ap (λ (z : Corner × Corner). z.1) e)))
    (λ n. let h = mem-zip l m n in (Memᴰ.tail h.0, Memᴰ.tail h.1))
    (Memᴰ.cases_cons k)

mem_legs : (ps : List Corner) {x : Corner × Corner} → Memᴰ x (legs_of ps) → Memᴰ x.0 ps × Memᴰ x.1 ps
mem_legs [] k = absurd (Memᴰ.not-nil k)
mem_legs (p ∷ ps) k = let h = mem-zip (p ∷ ps) ps k in (h.0, Memᴰ.tail h.1)

mem_nodes : (ps : List Corner) (p x : Corner) → Memᴰ p ps → Memᴰ x (path_of p) → Memᴰ x (nodes_of ps)
mem_nodes ps p x m k = mem-gather-right same same_sound same_refl [] (paths_of ps) (mem_paths ps m k)

mem_nodes_cases : (ps : List Corner) (x : Corner) → Memᴰ x (nodes_of ps) → (p : Corner) × Memᴰ p ps × Memᴰ x (path_of p)
mem_nodes_cases ps x m = mem_paths_cases ps (⊎_elim (λ k. absurd (Memᴰ.not-nil k)) (λ k. k) (mem-gather_cases same same_sound same_refl [] (paths_of ps) m))

-- a step goes from a node to its neighbour, which is a node too
pub leg_nodes : (c : Corner) (ds : List ℕ) (l : Corner × Corner) → Memᴰ l (legs_of (corners_from c ds)) → Memᴰ l.0 (nodes_of (corners_from c ds)) × Memᴰ l.1 (nodes_of (corners_from c ds))
leg_nodes c ds l m =
    let ps = corners_from c ds in
    let k = mem_legs ps m in
    (mem_nodes ps l.0 l.0 k.0 (mem_path l.0), mem_nodes ps l.1 l.1 k.1 (mem_path l.1))

pub leg_step : (c : Corner) (ds : List ℕ) → Below 4 ds → (l : Corner × Corner) → Memᴰ l (legs_of (corners_from c ds)) → (d : ℕ) × (d < 4) × (l.1 ≡ stepped d l.0)
leg_step c [] b l m = absurd (Memᴰ.not-nil m)
leg_step c (x ∷ []) b l m = ⊎_elim (λ e. (x, b.0, ap (λ (k : Corner × Corner). k.1) e ∙ sym (ap (λ (k : Corner × Corner). stepped x k.0) e))) (λ k. absurd (Memᴰ.not-nil k)) (Memᴰ.cases_cons m)
leg_step c (x ∷ y ∷ ds) b l m = ⊎_elim (λ e. (x, b.0, ap (λ (k : Corner × Corner). k.1) e ∙ sym (ap (λ (k : Corner × Corner). stepped x k.0) e))) (λ k. leg_step (stepped x c) (y ∷ ds) b.1 l k) (Memᴰ.cases_cons m)

paths_first : (c : Corner) (ds : List ℕ) → (r : List Corner) × (paths_of (corners_from c ds) ≡ root ∷ r)
paths_first c [] = let h = path_of-first c in (h.0 ++ [], ap (λ (l : List Corner). l ++ []) h.1)
paths_first c (d ∷ ds) = let h = path_of-first c in (h.0 ++ paths_of (corners_from (stepped d c) ds), ap (λ (l : List Corner). l ++ paths_of (corners_from (stepped d c) ds)) h.1)

-- the invariant holds after every walk
pub good_walk : (c : Corner) (ds : List ℕ) → WellLinked (nodes_of (corners_from c ds)) (state_of (corners_from c ds)).step
good_walk c ds = record {
  root = let h = paths_first c ds in let g = gather-more same (root ∷ []) h.0 in (g.0, ap (gather same []) h.1 ∙ g.1);
  closed = λ x m e. let h = mem_nodes_cases ps x m in mem_nodes ps h.0 (parent_of x) h.1 (path_parent x h.0 e h.2);
  distinct = nodes_of_distinct ps;
  order = λ x m e. (ref_parent ps x m e).1;
  ends = λ x y h.
      let k = any_some (links x y) (legs_of ps) (find-any (links x y) (legs_of ps) h) in
      let m = mem_legs ps k.1 in
      ⊎_elim
      (λ p. (mem_nodes ps k.0.0 x m.0 p.0, mem_nodes ps k.0.1 y m.1 p.1))
      (λ p. (mem_nodes ps k.0.1 x m.1 p.1, mem_nodes ps k.0.0 y m.0 p.0))
      (links-ends x y k.0.0 k.0.1 k.2);
  both = λ x y. find_cong (links x y) (links y x) (λ l. links_flip x y l.0 l.1) (legs_of ps);
  up = λ x y h i j f.
      let k = any_some (links x y) (legs_of ps) (find-any (links x y) (legs_of ps) h) in
      find_pos (links (parent_of x) (parent_of y)) (legs_of ps) (any-mem (links (parent_of x) (parent_of y)) k.0 (legs_of ps) k.1 (links-up x y k.0.0 k.0.1 i j k.2));
}
  where
    ps : List Corner
    ps = corners_from c ds

-- the number of the new step
module _ (c : Corner) (ds : List ℕ) (d : ℕ) where
  pub push_nodes : nodes_of (corners_from c (ds ++ (d ∷ []))) ≡ gather same (nodes_of (corners_from c ds)) (path_of (stepped d (end_from c ds)))
  push_nodes = ap nodes_of (corners_from_snoc c ds d) ∙ nodes_of_snoc (corners_from c ds) (stepped d (end_from c ds))

  push_links : (x y : Corner) → (state_of (corners_from c (ds ++ (d ∷ [])))).step x y ≡ linked (state_of (corners_from c ds)).step (suc (length ds)) (end_from c ds) (stepped d (end_from c ds)) x y
  push_links x y =
      ap (find (links x y)) (legs_push c ds d)
      ∙ find_snoc (links x y) (legs_of (corners_from c ds)) (end_from c ds, stepped d (end_from c ds))
      ∙ ap (λ (n : ℕ). later (find (links x y) (legs_of (corners_from c ds))) (links x y (end_from c ds, stepped d (end_from c ds))) (suc n)) (length_legs c ds)

  pub push_visits : (a : Corner) → count (same a) (corners_from c (ds ++ (d ∷ []))) ≡ count (same a) (corners_from c ds) + tally (same a (stepped d (end_from c ds)))
  push_visits a = ap (count (same a)) (corners_from_snoc c ds d) ∙ count_snoc (same a) (corners_from c ds) (stepped d (end_from c ds))

  pub push_first : (a : Corner) → find (same a) (corners_from c (ds ++ (d ∷ []))) ≡ later (find (same a) (corners_from c ds)) (same a (stepped d (end_from c ds))) (suc (suc (length ds)))
  push_first a =
      ap (find (same a)) (corners_from_snoc c ds d)
      ∙ find_snoc (same a) (corners_from c ds) (stepped d (end_from c ds))
      ∙ ap (λ (n : ℕ). later (find (same a) (corners_from c ds)) (same a (stepped d (end_from c ds))) (suc n)) (length-corners_from c ds)

  pub push_edges : (x y : Corner) → (state_of (corners_from c (ds ++ (d ∷ [])))).edges x y ≡ (state_of (corners_from c ds)).edges x y + tally (joins x y (end_from c ds, stepped d (end_from c ds)))
  push_edges x y = ap (count (joins x y)) (legs_push c ds d) ∙ count_snoc (joins x y) (legs_of (corners_from c ds)) (end_from c ds, stepped d (end_from c ds))

-- the step that first needs a node: a node in use keeps it, and a node that the path adds has the new step's number
needs : Corner → Corner → Bool
needs a p = any (same a) (path_of p)

needs-any : (ps : List Corner) (a : Corner) → any (needs a) ps ≡ any (same a) (nodes_of ps)
unfolding needs
needs-any ps a =
    bool_agree (any (needs a) ps) (any (same a) (nodes_of ps))
    (λ h. let k = any_some (needs a) ps h in mem→any same same_sound same_refl (mem_nodes ps k.0 a k.1 (any→mem same same_sound same_refl a (path_of k.0) k.2)))
    (λ h. let k = mem_nodes_cases ps a (any→mem same same_sound same_refl a (nodes_of ps) h) in any-mem (needs a) k.0 ps k.1 (mem→any same same_sound same_refl k.2))

pub need_bound : (c : Corner) (ds : List ℕ) (a : Corner) → (state_of (corners_from c ds)).need a ≤ length ds
unfolding needs
need_bound c ds a =
    let h : pred (find (needs a) (corners_from c ds)) ≤ length ds = omega (arith, find_le (needs a) (corners_from c ds), length-corners_from c ds) in
    h

pub step_bound : (c : Corner) (ds : List ℕ) (x y : Corner) → (state_of (corners_from c ds)).step x y ≤ length ds
step_bound c ds x y = omega (arith, find_le (links x y) (legs_of (corners_from c ds)), length_legs c ds)

count_le : {A : Type 0} (f : A → Bool) (l : List A) → count f l ≤ length l
count_le f [] = omega arith
count_le f (x ∷ l) = go (f x) (count_le f l)
  where
    go : (b : Bool) → count f l ≤ length l → tally b + count f l ≤ suc (length l)
    go true h = omega arith
    go false h = omega arith

pub visits_bound : (c : Corner) (ds : List ℕ) (x : Corner) → (state_of (corners_from c ds)).visits x ≤ suc (length ds)
visits_bound c ds x = omega (arith, count_le (same x) (corners_from c ds), length-corners_from c ds)

pub edges_bound : (c : Corner) (ds : List ℕ) (x y : Corner) → (state_of (corners_from c ds)).edges x y ≤ length ds
edges_bound c ds x y = omega (arith, count_le (joins x y) (legs_of (corners_from c ds)), length_legs c ds)

push_need : (c : Corner) (ds : List ℕ) (d : ℕ) (a : Corner)
    → (state_of (corners_from c (ds ++ (d ∷ [])))).need a ≡ needed (nodes_of (corners_from c ds)) (state_of (corners_from c ds)).need (suc (length ds)) (stepped d (end_from c ds)) a
unfolding needs
push_need c ds d a =
    ap (λ (l : List Corner). pred (find (needs a) l)) (corners_from_snoc c ds d)
    ∙ ap pred (find_snoc (needs a) ps e ∙ ap (λ (n : ℕ). later (find (needs a) ps) (needs a e) (suc n)) (length-corners_from c ds))
    ∙ go (any (same a) (nodes_of ps)) refl (any (same a) (path_of e)) refl
  where
    ps : List Corner
    ps = corners_from c ds

    e : Corner
    e = stepped d (end_from c ds)

    go : (b : Bool) → any (same a) (nodes_of ps) ≡ b → (g : Bool) → any (same a) (path_of e) ≡ g
        → pred (later (find (needs a) ps) (needs a e) (suc (suc (length ds)))) ≡ needed (nodes_of ps) (λ x. pred (find (needs x) ps)) (suc (length ds)) e a
    go true p g q = ap pred (later-old (find (needs a) ps) (needs a e) (suc (suc (length ds))) (find_pos (needs a) ps (needs-any ps a ∙ p))) ∙ sym (rw p)
    go false p true q = ap pred (later_new (find (needs a) ps) (needs a e) (suc (suc (length ds))) (find_none (needs a) ps (needs-any ps a ∙ p)) q) ∙ sym (rw (p, q))
    go false p false q = ap pred (later-none (find (needs a) ps) (needs a e) (suc (suc (length ds))) q) ∙ sym (rw (p, q))

-- all of it: a lookup, a visit, and the edge walked
pub push_state : (c : Corner) (ds : List ℕ) (d : ℕ)
    → Alike (state_of (corners_from c (ds ++ (d ∷ []))))
    (walked_by (visited_by (reached (state_of (corners_from c ds)) (suc (length ds)) (end_from c ds) (stepped d (end_from c ds))) (stepped d (end_from c ds)) (suc (length ds))) (end_from c ds) (stepped d (end_from c ds)))
push_state c ds d = record {
  nodes = push_nodes c ds d;
  step = λ x y f. push_links c ds d x y;
  visits = push_visits c ds d;
  need = push_need c ds d;
  first = push_first c ds d;
  edges = push_edges c ds d;
}

-- the state after a walk is sound
pub sound_walk : (c : Corner) (ds : List ℕ) → Sound (state_of (corners_from c ds))
unfolding needs
sound_walk c ds = record {
  good = good_walk c ds;
  unvisited = λ x f. count_none (same x) ps (not_here x f);
  unneeded = λ x f. ap pred (find_none (needs x) ps (needs-any ps x ∙ not_any x (nodes_of ps) f));
  unseen = λ x f. find_none (same x) ps (not_here x f);
  fewer = λ x h. find_none (same x) ps (count-any (same x) ps h);
  more = λ x h. count_none (same x) ps (not_found (same x) ps h);
  paired = λ x y. count_cong (joins x y) (joins y x) (legs_of ps) (λ l m. joins_flip x y l);
  unwalked = λ x y f. count_none (joins x y) (legs_of ps) (no_leg x y f (any (joins x y) (legs_of ps)) refl);
}
  where
    ps : List Corner
    ps = corners_from c ds

    not_here : (x : Corner) → (Memᴰ x (nodes_of ps) → ⊥) → any (same x) ps ≡ false
    not_here x f = not_any x ps (λ m. f (mem_nodes ps x x m (mem_path x)))

    no_leg : (x y : Corner) → (Memᴰ x (nodes_of ps) → ⊥) → (b : Bool) → any (joins x y) (legs_of ps) ≡ b → any (joins x y) (legs_of ps) ≡ false
    no_leg x y f false p = p
    no_leg x y f true p =
        let k = any_some (joins x y) (legs_of ps) p in
        let m = mem_legs ps k.1 in
        absurd (⊎_elim
        (λ q. f (mem_nodes ps x x (Memᴰ.cast (sym q.0) m.0) (mem_path x)))
        (λ q. f (mem_nodes ps x x (Memᴰ.cast (sym q.1) m.1) (mem_path x)))
        (joins_cases x y k.0.0 k.0.1 k.2))

-- the corner stood on is a node
pub finish_node : (c : Corner) (ds : List ℕ) → Memᴰ (end_from c ds) (nodes_of (corners_from c ds))
finish_node c ds = mem_nodes (corners_from c ds) (end_from c ds) (end_from c ds) (end_from-mem c ds) (mem_path (end_from c ds))

-- the different corners
pub push_visited : (c : Corner) (ds : List ℕ) (d : ℕ) → length (visited_of (corners_from c (ds ++ (d ∷ [])))) ≡ length (visited_of (corners_from c ds)) + tally (eqb (count (same (stepped d (end_from c ds))) (corners_from c ds)) 0)
push_visited c ds d =
    ap (λ (l : List Corner). length (visited_of l)) (corners_from_snoc c ds d)
    ∙ ap length (gather_append same [] ps (e ∷ []))
    ∙ ⊎_elim
    (λ h. ap length h.1 ∙ sym (rw (ne_eqb (count (same e) ps) 0 (λ z. true≢false (sym (mem→any same same_sound same_refl (seen (any→mem same same_sound same_refl e (visited_of ps) h.0))) ∙ count-any (same e) ps z))) (omega arith)))
    (λ h. ap length h.1 ∙ length-append (visited_of ps) (e ∷ []) ∙ sym (rw (eq-eqb (count (same e) ps) 0 (count_none (same e) ps (not_any e ps (λ m. not_mem same same_sound same_refl e (visited_of ps) h.0 (mem-gather-right same same_sound same_refl [] ps m))))) (omega arith)))
    (add_cases same (visited_of ps) e)
  where
    ps : List Corner
    ps = corners_from c ds

    e : Corner
    e = stepped d (end_from c ds)

    seen : Memᴰ e (visited_of ps) → Memᴰ e ps
    seen m = ⊎_elim (λ k. absurd (Memᴰ.not-nil k)) (λ k. k) (mem-gather_cases same same_sound same_refl [] ps m)
