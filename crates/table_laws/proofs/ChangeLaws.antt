-- Which records a step changes: those of the nodes that tree_laws lists, and no others.
-- Assumes nothing.
use mathlib.Core.Bool.{Bool, true, false, cond, not, true≢false, false≢true}
use mathlib.Core.List.{List, [], ◌∷◌, ◌++◌, append-nil, Memᴰ}
use mathlib.Core.Logic.{⊎_elim}
use mathlib.Core.Path.{◌≡◌, refl, ap, ap₂, sym, ◌∙◌, subst}
use Prim.Native.Nat.{ℕ, zero, suc, ◌+◌, ◌*◌, ◌<◌}
use native.Mathlib.Omega.{arith}
use lib.ListN.{length, get_or, replicate}
use Rattle.grid.specs.declared.Corner.{Corner}
use Rattle.grid.specs.Grid.{same, stepped, joins, back}
use Rattle.grid.specs.Tree.{parent_of, is_root, size_of, path_of, child_word}
use Rattle.layout.specs.Marks.{same_words}
use Rattle.layout.specs.Table.{width, link_word, need_word, edge_word, child_ref_of}
use Rattle.lists.specs.Lists.{any, count, gather, tally}
use Rattle.tree.specs.Nodes.{links}
use Rattle.tree_laws.specs.State.{State, Sound, linked, needed, reached, raised, grown, with_link, visited_by, walked_by, record_by, fields_by, links_up, is_fresh, but, risen_by}
use Rattle.grid.proofs.CornerLaws.{same_refl, same_sound}
use Rattle.grid.proofs.ParentLaws.{parent_of-stepped}
use Rattle.grid.proofs.PathLaws.{size_of-parent_of}
use Rattle.grid.proofs.StepLaws.{back_small, stepped-back}
use Rattle.layout.proofs.ChildLaws.{child_ref}
use Rattle.layout.proofs.WordLaws.{words_cong, child_of, link_of_lem, edge_of}
use Rattle.lists.proofs.CountLaws.{count_listed}
use Rattle.lists.proofs.GatherLaws.{mem→any, distinct_gather, mem-gather-left, mem-gather-right, mem-gather_cases}
use Rattle.lists.proofs.BoolLaws.{is_false}
use Rattle.grid.proofs.JoinLaws.{joins_here, joins-there, joins-stepped}
use Rattle.tree.proofs.NodeLaws.{mem_path}
use Rattle.tree.proofs.RefLaws.{not_any}
use Rattle.tree_laws.proofs.AddLaws.{ref_none, ref_pos}
use Rattle.tree_laws.proofs.LaterLaws.{later_new, later-none}
use Rattle.tree_laws.proofs.LevelLaws.{root_is, root_known, gather_closed}
use Rattle.tree_laws.proofs.LineageLaws.{links_here, links_flip, links-up}
use Rattle.tree_laws.proofs.RiseLaws.{Above, over-a, over-e, higher, topmost, goes_up_lem, up_goes, up-near, risen_up, risen_top, risen_cases, risen_all, risen_once, risen_new, but-mem}
use Rattle.table_laws.proofs.LookupLaws.{Raised, raised_is, root_parent}
use Rattle.table_laws.proofs.StateLaws.{by-mem, grown_known, grown_new, reach_known, reach-root, reach-over}
use Rattle.table_laws.proofs.CellLaws.{alike_row, same-words, same_self}
use Rattle.table_laws.proofs.LinkLaws.{link_row_x}
use Rattle.table_laws.proofs.StoreLaws.{node_row_x, child_word_small}

module _ (S : State) (sound : Sound S) (s d : ℕ) (pos : 0 < s) (small : d < 4) where
  abbrev ns : List Corner
  ns = S.nodes

  abbrev L : Corner → Corner → ℕ
  L = S.step

  -- the root is never made
  pub rooted : (e : Corner) → is_fresh ns e ≡ true → is_root e ≡ false
  rooted e h = go (is_root e) refl
    where
      go : (b : Bool) → is_root e ≡ b → is_root e ≡ false
      go false p = p
      go true p = absurd (false≢true (sym (ap not (mem→any same same_sound same_refl (mathlib.Core.List.Memᴰ.cast (root_is e p) (root_known ns L sound.good)))) ∙ h))

  -- the nodes whose records the step from a changes, with k levels above it at most
  abbrev pub changed : ℕ → Corner → List Corner
  changed k a = a ∷ stepped d a ∷ risen_by L ns k a (stepped d a)

  -- what stands in the list of a level, or below it, stands in the whole
  shift : (a e x : Corner) (l m : List Corner) → Memᴰ x (a ∷ m) → Memᴰ x (a ∷ e ∷ (l ++ m))
  shift a e x l m h = ⊎_elim (λ q. mathlib.Core.List.Memᴰ.head q) (λ q. mathlib.Core.List.Memᴰ.tail (mathlib.Core.List.Memᴰ.tail (mathlib.Core.List.Memᴰ.append_right l q))) (mathlib.Core.List.Memᴰ.cases_cons h)

  -- the parent of a node that is made is among them
  made_parent : (k : ℕ) (a : Corner) → (Memᴰ (stepped d a) ns → ⊥) → Memᴰ (parent_of (stepped d a)) (changed (suc k) a)
  made_parent k a f = go (links_up L a e) refl
    where
      e : Corner
      e = stepped d a

      go : (b : Bool) → links_up L a e ≡ b → Memᴰ (parent_of e) (changed (suc k) a)
      go true p = rw (risen_up L ns rooted k a e p) (shift a e (parent_of e) (but (parent_of a) e) (but (parent_of e) a ++ risen_by L ns k (parent_of a) (parent_of e)) (but-mem (parent_of e) a (risen_by L ns k (parent_of a) (parent_of e))))
      go false p =
          let t : risen_by L ns (suc k) a e ≡ but (parent_of e) a = risen_top L ns rooted k a e p ∙ ap (λ (b : Bool). cond (not b) (but (parent_of e) a) []) (not_any e ns f) in
          rw t (shift a e (parent_of e) [] (but (parent_of e) a) (subst (λ (l : List Corner). Memᴰ (parent_of e) (a ∷ l)) (append-nil (but (parent_of e) a)) (but-mem (parent_of e) a [])))

  -- those of the level above are among them
  lift : (k : ℕ) (a x : Corner) → links_up L a (stepped d a) ≡ true → Memᴰ x (changed k (parent_of a)) → Memᴰ x (changed (suc k) a)
  lift k a x p m =
      let e = stepped d a in
      let n : parent_of e ≡ stepped d (parent_of a) = up-near L ns rooted d a e refl p in
      let r = risen_by L ns k (parent_of a) (parent_of e) in
      let m' : Memᴰ x (parent_of a ∷ parent_of e ∷ r) = subst (λ (b : Corner). Memᴰ x (parent_of a ∷ b ∷ risen_by L ns k (parent_of a) b)) (sym n) m in
      rw (risen_up L ns rooted k a e p)
      (⊎_elim
      (λ q. mathlib.Core.List.Memᴰ.cast q (⊎_elim (λ u. mathlib.Core.List.Memᴰ.tail (mathlib.Core.List.Memᴰ.head u)) (λ u. mathlib.Core.List.Memᴰ.tail (mathlib.Core.List.Memᴰ.tail u)) (mathlib.Core.List.Memᴰ.cases_cons (but-mem (parent_of a) e (but (parent_of e) a ++ r)))))
      (λ q. shift a e x (but (parent_of a) e) (but (parent_of e) a ++ r)
      (⊎_elim (λ u. mathlib.Core.List.Memᴰ.cast u (but-mem (parent_of e) a r)) (λ u. mathlib.Core.List.Memᴰ.tail (mathlib.Core.List.Memᴰ.append_right (but (parent_of e) a) u)) (mathlib.Core.List.Memᴰ.cases_cons q)))
      (mathlib.Core.List.Memᴰ.cases_cons m'))

  -- a record that is not among them stays, if the neighbour is looked up
  module _ (x : Corner) (there : Memᴰ x ns) where
    over : (a : Corner) → Memᴰ a ns → L a (stepped d a) ≡ 0 → is_root (stepped d a) ≡ false → (x ≡ a → ⊥) → (x ≡ stepped d a → ⊥) → ((Memᴰ (stepped d a) ns → ⊥) → x ≡ parent_of (stepped d a) → ⊥)
        → record_by (raised S s a (stepped d a)) x ≡ record_by S x → record_by (reached S s a (stepped d a)) x ≡ record_by S x
    over a m z low f g h kept =
        let e = stepped d a in
        let T : State = raised S s a e in
        let r = root_parent (width * length ns) S sound s d pos small (omega arith) a m in
        let u : Raised S T e = raised_is S sound s a e m r in
        let here : Memᴰ x T.nodes = subst (Memᴰ x) (sym u.more) (mathlib.Core.List.Memᴰ.append_left u.rest there) in
        alike_row (reached S s a e) (with_link (grown T e s) a e s) (reach-over S sound s a e z m low r) x
        ∙ link_row_x (grown T e s) a d s small x f g
        ∙ by-mem e T.nodes (record_by (grown T e s) x ≡ record_by T x)
        (λ n. ap (λ (W : State). record_by W x) (grown_known T e s n))
        (λ n. ap (λ (W : State). record_by W x) (grown_new T e s n) ∙ node_row_x T u.sound e s low u.has n x here (h (λ k. n (subst (Memᴰ e) (sym u.more) (mathlib.Core.List.Memᴰ.append_left u.rest k)))))
        ∙ kept

    raised-kept : (a : Corner) → (is_root a ≡ false → same (parent_of a) (parent_of (stepped d a)) ≡ false → record_by (reached S s (parent_of a) (parent_of (stepped d a))) x ≡ record_by S x) → record_by (raised S s a (stepped d a)) x ≡ record_by S x
    raised-kept a ih = go (is_root a) refl (same (parent_of a) (parent_of (stepped d a))) refl
      where
        go : (b : Bool) → is_root a ≡ b → (q : Bool) → same (parent_of a) (parent_of (stepped d a)) ≡ q → record_by (raised S s a (stepped d a)) x ≡ record_by S x
        go true p q k = ap (λ (W : State). record_by W x) (let y : raised S s a (stepped d a) ≡ S = rw (p, raised) in y)
        go false p true k = ap (λ (W : State). record_by W x) (let y : raised S s a (stepped d a) ≡ S = rw (p, k, raised) in y)
        go false p false k = ap (λ (W : State). record_by W x) (let y : raised S s a (stepped d a) ≡ reached S s (parent_of a) (parent_of (stepped d a)) = rw (p, k, raised) in y) ∙ ih p k

    reach-kept : (k : ℕ) (a : Corner) → size_of a < k → Memᴰ a ns → (Memᴰ x (changed k a) → ⊥) → record_by (reached S s a (stepped d a)) x ≡ record_by S x
    reach-kept zero a h m f = absurd (omega arith)
    reach-kept (suc k) a h m f = go (L a e) refl (is_root e) refl (reach-kept k (parent_of a))
      where
        e : Corner
        e = stepped d a

        near : same (parent_of a) (parent_of e) ≡ false → parent_of e ≡ stepped d (parent_of a)
        near q = ⊎_elim (λ u. absurd (true≢false (sym (same_refl (parent_of a)) ∙ ap (same (parent_of a)) (sym u) ∙ q))) (λ u. u) (parent_of-stepped d a)

        go : (n : ℕ) → L a e ≡ n → (b : Bool) → is_root e ≡ b
            → (size_of (parent_of a) < k → Memᴰ (parent_of a) ns → (Memᴰ x (changed k (parent_of a)) → ⊥) → record_by (reached S s (parent_of a) (stepped d (parent_of a))) x ≡ record_by S x)
            → record_by (reached S s a e) x ≡ record_by S x
        go (suc n) z b p ih = alike_row (reached S s a e) S (reach_known S sound s a e (omega arith)) x
        go zero z true p ih =
            alike_row (reached S s a e) (with_link S a e s) (reach-root S sound s a e z p) x
            ∙ link_row_x S a d s small x (λ q. f (mathlib.Core.List.Memᴰ.head q)) (λ q. f (mathlib.Core.List.Memᴰ.tail (mathlib.Core.List.Memᴰ.head q)))
        go zero z false p ih =
            over a m z p (λ q. f (mathlib.Core.List.Memᴰ.head q)) (λ q. f (mathlib.Core.List.Memᴰ.tail (mathlib.Core.List.Memᴰ.head q))) (λ g q. f (mathlib.Core.List.Memᴰ.cast q (made_parent k a g)))
            (raised-kept a (λ r q. up r q (L (parent_of a) (parent_of e)) refl))
          where
            up : is_root a ≡ false → same (parent_of a) (parent_of e) ≡ false → (n : ℕ) → L (parent_of a) (parent_of e) ≡ n → record_by (reached S s (parent_of a) (parent_of e)) x ≡ record_by S x
            up r q (suc n) w = alike_row (reached S s (parent_of a) (parent_of e)) S (reach_known S sound s (parent_of a) (parent_of e) (omega arith)) x
            up r q zero w =
                ap (λ (b : Corner). record_by (reached S s (parent_of a) b) x) (near q)
                ∙ ih (omega (arith, size_of-parent_of a r)) (sound.good.closed a m r) (λ u. f (lift k a x (up_goes L a e r p q w) u))

  -- the state after the step
  abbrev pub after : Corner → State
  after a = walked_by (visited_by (reached S s a (stepped d a)) (stepped d a) s) a (stepped d a)

  module _ (a : Corner) (from : Memᴰ a ns) where
    abbrev e : Corner
    e = stepped d a

    -- the visit and the edge change the two ends alone
    ends-kept : (x : Corner) → (x ≡ a → ⊥) → (x ≡ e → ⊥) → record_by (after a) x ≡ record_by (reached S s a e) x
    ends-kept x f g =
        let z : same x e ≡ false = is_false (same x e) (λ i. g (same_sound x e i)) in
        words_cong (fields_by (after a) x) (fields_by (reached S s a e) x) refl (λ k i j. refl) (λ k i. refl) (λ k i. refl)
        (rw z (omega arith))
        refl
        (later-none (S.first x) (same x e) (suc s) z)
        (λ k i. let y : joins x (stepped k x) (a, e) ≡ false = is_false (joins x (stepped k x) (a, e)) (λ j. ⊎_elim (λ q. f q.0) (λ q. g q.0) (joins-stepped k d x a i small j)) in rw y (omega arith))

    stays : (k : ℕ) → size_of a < k → (x : Corner) → Memᴰ x ns → (Memᴰ x (changed k a) → ⊥) → record_by (after a) x ≡ record_by S x
    stays k h x m f = ends-kept x (λ q. f (mathlib.Core.List.Memᴰ.head q)) (λ q. f (mathlib.Core.List.Memᴰ.tail (mathlib.Core.List.Memᴰ.head q))) ∙ reach-kept x m k a h from f

    -- the record of x is the same after the step
    abbrev Kept : Corner → Type 0
    Kept x = record_by S x ≡ record_by (after a) x

    -- and all that are among them change: the edge's count at the two ends,
    edge_a : Kept a → ⊥
    edge_a q =
        let w : S.edges a e ≡ S.edges a e + tally (joins a e (a, e)) = sym (edge_of (fields_by S a) d small) ∙ ap (λ (l : List ℕ). get_or l (edge_word d) 0) q ∙ edge_of (fields_by (after a) a) d small in
        omega (arith, ap tally (joins_here a e))

    edge_e : Kept e → ⊥
    edge_e q =
        let b = stepped (back d) e in
        let w : S.edges e b ≡ S.edges e b + tally (joins e b (a, e)) = sym (edge_of (fields_by S e) (back d) (back_small d)) ∙ ap (λ (l : List ℕ). get_or l (edge_word (back d)) 0) q ∙ edge_of (fields_by (after a) e) (back d) (back_small d) in
        let y : tally (joins e b (a, e)) ≡ 1 = ap (λ (x : Corner). tally (joins e x (a, e))) (stepped-back d a) ∙ ap tally (joins-there a e) in
        omega arith

    -- the step of a link that is made,
    link_new : (x : Corner) (k : ℕ) → k < 4 → L x (stepped k x) ≡ 0 → links x (stepped k x) (a, e) ≡ true → Kept x → ⊥
    link_new x k i z h q =
        let w : L x (stepped k x) ≡ linked L s a e x (stepped k x) = sym (link_of_lem (fields_by S x) k i) ∙ ap (λ (l : List ℕ). get_or l (link_word k) 0) q ∙ link_of_lem (fields_by (after a) x) k i in
        omega (arith, later_new (L x (stepped k x)) (links x (stepped k x) (a, e)) s z h)

    -- the child's ref in the parent of a node that is made,
    child_new : (g : Corner) → is_root g ≡ false → (Memᴰ g ns → ⊥) → Memᴰ g (gather same ns (path_of e)) → Kept (parent_of g) → ⊥
    child_new g low f m q =
        let r = child_word_small g in
        let w : child_ref_of ns (parent_of g) (child_word g) ≡ child_ref_of (gather same ns (path_of e)) (parent_of g) (child_word g) = sym (child_of (fields_by S (parent_of g)) (child_word g) r.0 r.1) ∙ ap (λ (l : List ℕ). get_or l (child_word g) 0) q ∙ child_of (fields_by (after a) (parent_of g)) (child_word g) r.0 r.1 in
        omega (arith, child_ref ns g low, ref_none ns g f, child_ref (gather same ns (path_of e)) g low, ref_pos (gather same ns (path_of e)) g m)

    -- and the needing step of a node that is made
    need_new : (x : Corner) → (Memᴰ x ns → ⊥) → Memᴰ x (gather same ns (path_of e)) → replicate width 0 ≡ record_by (after a) x → ⊥
    need_new x f m q =
        let p : Memᴰ x (path_of e) = ⊎_elim (λ k. absurd (f k)) (λ k. k) (mem-gather_cases same same_sound same_refl ns (path_of e) m) in
        let n : needed ns S.need s e x ≡ s = rw (not_any x ns f, mem→any same same_sound same_refl p) in
        let w : 0 ≡ needed ns S.need s e x = ap (λ (l : List ℕ). get_or l need_word 0) q in
        omega arith

    risen_changes : (k : ℕ) (b x : Corner) → links b (stepped d b) (a, e) ≡ true → Memᴰ (stepped d b) (gather same ns (path_of e))
        → Memᴰ x (risen_by L ns k b (stepped d b)) → Kept x → ⊥
    risen_changes zero b x l n m q = mathlib.Core.List.Memᴰ.not-nil m
    risen_changes (suc k) b x l n m q = go (risen_cases L ns rooted k b g x m) (risen_changes k (parent_of b) x)
      where
        g : Corner
        g = stepped d b

        h : Corner
        h = stepped d (parent_of b)

        near : links_up L b g ≡ true → parent_of g ≡ h
        near = up-near L ns rooted d b g refl

        up : links_up L b g ≡ true → links (parent_of b) h (a, e) ≡ true
        up r = let f = goes_up_lem L b g r in subst (λ (y : Corner). links (parent_of b) y (a, e) ≡ true) (near r) (links-up b g a e f.0 f.1 l)

        none : links_up L b g ≡ true → L (parent_of b) h ≡ 0
        none r = ap (L (parent_of b)) (sym (near r)) ∙ (goes_up_lem L b g r).3

        across : links_up L b g ≡ true → Kept h → ⊥
        across r =
            link_new h (back d) (back_small d)
            (ap (L h) (stepped-back d (parent_of b)) ∙ sound.good.both h (parent_of b) ∙ none r)
            (ap (λ (y : Corner). links h y (a, e)) (stepped-back d (parent_of b)) ∙ links_flip h (parent_of b) a e ∙ up r)

        there : links_up L b g ≡ true → Memᴰ h (gather same ns (path_of e))
        there r = subst (λ (y : Corner). Memᴰ y (gather same ns (path_of e))) (near r) (gather_closed ns sound.good.closed e g n (goes_up_lem L b g r).1)

        go : Above L ns k b g x → (links (parent_of b) h (a, e) ≡ true → Memᴰ h (gather same ns (path_of e)) → Memᴰ x (risen_by L ns k (parent_of b) h) → Kept x → ⊥) → ⊥
        go (over-a r s t) ih = link_new (parent_of b) d small (none r) (up r) (subst Kept s q)
        go (over-e r s t) ih = across r (subst Kept (s ∙ near r) q)
        go (higher r i) ih = ih (up r) (there r) (subst (λ (y : Corner). Memᴰ x (risen_by L ns k (parent_of b) y)) (near r) i) q
        go (topmost r s t) ih = child_new g (rooted g r) (λ i. true≢false (sym r ∙ ap not (mem→any same same_sound same_refl i))) n (subst Kept s q)

    -- the record of a node before the step: zeros if it is made
    abbrev pub before : Corner → List ℕ
    before x = cond (any (same x) ns) (record_by S x) (replicate width 0)

    pub before-old : (x : Corner) → Memᴰ x ns → before x ≡ record_by S x
    before-old x m = rw (mem→any same same_sound same_refl m)

    pub before_new : (x : Corner) → (Memᴰ x ns → ⊥) → before x ≡ replicate width 0
    before_new x f = rw (not_any x ns f)

    alters : Corner → Bool
    alters x = not (same_words (before x) (record_by (after a) x))

    abbrev all : List Corner
    all = gather same ns (path_of e)

    end_in : Memᴰ e all
    end_in = mem-gather-right same same_sound same_refl ns (path_of e) (mem_path e)

    changes : (k : ℕ) (x : Corner) → Memᴰ x all → Memᴰ x (changed k a) → alters x ≡ true
    unfolding alters
    changes k x n m = ap not (is_false (same_words (before x) (record_by (after a) x)) (λ h. by-mem x ns ⊥ (λ i. old i (sym (before-old x i) ∙ same-words (before x) (record_by (after a) x) h)) (λ i. need_new x i n (sym (before_new x i) ∙ same-words (before x) (record_by (after a) x) h))))
      where
        old : Memᴰ x ns → Kept x → ⊥
        old i q =
            ⊎_elim
            (λ p. edge_a (subst Kept p q))
            (λ u. ⊎_elim (λ p. edge_e (subst Kept p q)) (λ v. risen_changes k a x (links_here a e) end_in v q) (mathlib.Core.List.Memᴰ.cases_cons u))
            (mathlib.Core.List.Memᴰ.cases_cons m)

    -- how many they are
    pub count-changed : (k : ℕ) → size_of a < k → count (λ x. not (same_words (before x) (record_by (after a) x))) all ≡ length (changed k a)
    unfolding alters
    count-changed k h = sym (count_listed alters all (changed k a) (distinct_gather same same_sound same_refl ns (path_of e) sound.good.distinct) (risen_once L ns rooted k d a e refl) (λ x m. let i = inside x m in (i, changes k x i m)) only)
      where
        inside : (x : Corner) → Memᴰ x (changed k a) → Memᴰ x all
        inside x m =
            ⊎_elim
            (λ p. mathlib.Core.List.Memᴰ.cast p (mem-gather-left same same_sound same_refl ns (path_of e) from))
            (λ u. ⊎_elim (λ p. mathlib.Core.List.Memᴰ.cast p end_in) (risen_all L ns rooted (λ y. Memᴰ y all) (gather_closed ns sound.good.closed e) k a e (mem-gather-left same same_sound same_refl ns (path_of e) from) end_in x) (mathlib.Core.List.Memᴰ.cases_cons u))
            (mathlib.Core.List.Memᴰ.cases_cons m)

        only : (x : Corner) → Memᴰ x all → alters x ≡ true → Memᴰ x (changed k a)
        only x m t =
            by-mem x (changed k a) (Memᴰ x (changed k a)) (λ i. i)
            (λ f. by-mem x ns (Memᴰ x (changed k a))
            (λ i. absurd (true≢false (sym t ∙ ap not (ap₂ same_words (before-old x i) (stays k h x i f) ∙ same_self (record_by S x)))))
            (λ i. mathlib.Core.List.Memᴰ.tail (risen_new L ns rooted sound.good k d a e refl h from x m i)))
