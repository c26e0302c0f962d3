-- What the stores of a node and of a visit make of the table of a state, and those that take them back.
-- Assumes nothing.
use mathlib.Core.Bool.{Bool, true, false, cond}
use mathlib.Core.List.Memᴰ
use mathlib.Core.List.{List, [], ◌∷◌, ◌++◌, Memᴰ}
use mathlib.Core.Logic.{⊎_elim}
use mathlib.Core.Path.{◌≡◌, refl, ap, ap₂, sym, ◌∙◌}
use Prim.Native.Nat.{ℕ, zero, suc, ◌+◌, ◌-◌, ◌*◌, ◌<◌, ◌≤◌}
use native.Mathlib.Omega.{arith}
use borrow.Author.Tests.{eqb-true, eqb-false}
use lib.Dec.{eqb}
use lib.ListN.{length, length-set, set, replicate}
use lib.Seq.{sets, set-set, set-get_or, get_or-set_other}
use Rattle.grid.specs.declared.Corner.{Corner}
use Rattle.grid.specs.Grid.{same, stepped}
use Rattle.grid.specs.Tree.{parent_of, is_root, child_word}
use Rattle.layout.specs.Table.{width, word_at, parent_word, visits_word, need_word, first_word, child_ref_of}
use Rattle.lists.specs.Lists.{tally, Distinct}
use Rattle.tree.specs.Nodes.{ref_of}
use Rattle.tree_laws.specs.State.{State, with_node, visited_by, Sound, neighbour_by, fields_by, record_by, rows_by, filled, table_by}
use Rattle.grid.proofs.ChildLaws.{slot_small}
use Rattle.grid.proofs.CornerLaws.{same_refl, same_sound}
use Rattle.layout.proofs.WordLaws.{bump, words_cong, with_child, words_child, child_of}
use Rattle.tree_laws.proofs.LaterLaws.{later-none}
use Rattle.lists.proofs.GatherLaws.{distinct_snoc}
use Rattle.lists.proofs.BoolLaws.{is_false}
use Rattle.tree_laws.proofs.AddLaws.{ref_append, ref_snoc, child_other, child_before, child_snoc, child_new, parent_ne}
use Rattle.tree_laws.proofs.PopLaws.{visit_first, visit_again, unvisit_last, unvisit_more}
use Rattle.table_laws.proofs.RowLaws.{Once, once, corners, upd, upd-at, upd_off, rows_cong, row-set, row-set_again, row_more, row_clear, wide-upd, upd-is}
use Rattle.table_laws.proofs.CellLaws.{wide, far, read_first}

-- ---- a node more
pub child_word_small : (e : Corner) → (0 < child_word e) × (child_word e < 10)
child_word_small e = (omega arith, omega (arith, slot_small e.0, slot_small e.1))

module _ (S : State) (sound : Sound S) (e : Corner) (s : ℕ) (deep : is_root e ≡ false) (under : Memᴰ (parent_of e) S.nodes) (fresh : Memᴰ e S.nodes → ⊥) where
  up_kept : (x : Corner) → Memᴰ x S.nodes → cond (is_root x) 0 (ref_of (S.nodes ++ (e ∷ [])) (parent_of x)) ≡ cond (is_root x) 0 (ref_of S.nodes (parent_of x))
  up_kept x m = go (is_root x) refl
    where
      go : (b : Bool) → is_root x ≡ b → cond b 0 (ref_of (S.nodes ++ (e ∷ [])) (parent_of x)) ≡ cond b 0 (ref_of S.nodes (parent_of x))
      go true p = refl
      go false p = ref_append S.nodes (e ∷ []) (parent_of x) (sound.good.closed x m p)

  side-kept : (x : Corner) (k : ℕ) → neighbour_by (S.nodes ++ (e ∷ [])) S.step x k ≡ neighbour_by S.nodes S.step x k
  side-kept x k = go (S.step x (stepped k x)) refl
    where
      go : (n : ℕ) → S.step x (stepped k x) ≡ n → far (S.step x (stepped k x)) (ref_of (S.nodes ++ (e ∷ [])) (stepped k x)) ≡ far (S.step x (stepped k x)) (ref_of S.nodes (stepped k x))
      go zero p = rw p
      go (suc n) p = ap (far (S.step x (stepped k x))) (ref_append S.nodes (e ∷ []) (stepped k x) (sound.good.ends x (stepped k x) (omega arith)).1)

  need-kept : (x : Corner) → (x ≡ e → ⊥) → cond (same x e) s (S.need x) ≡ S.need x
  need-kept x f = rw (is_false (same x e) (λ p. f (same_sound x e p)))

  old_ne : (x : Corner) → Memᴰ x S.nodes → x ≡ e → ⊥
  old_ne x m p = fresh (Memᴰ.cast (sym p) m)

  -- the nodes with e, and what of them was there before
  abbrev grown : List Corner
  grown = S.nodes ++ (e ∷ [])

  old : (x : Corner) → Memᴰ x grown → (x ≡ e → ⊥) → Memᴰ x S.nodes
  old x m f = ⊎_elim (λ k. k) (λ k. absurd (f (Memᴰ.eq_of_singleton k))) (Memᴰ.append_cases S.nodes m)

  -- the row of the parent with e as its child
  abbrev with_child_lem : List ℕ → List ℕ
  with_child_lem l = set l (child_word e) (suc (length S.nodes))

  pub node_row_x : (x : Corner) → Memᴰ x S.nodes → (x ≡ parent_of e → ⊥) → record_by (with_node S e s) x ≡ record_by S x
  node_row_x x m f =
      words_cong (fields_by (with_node S e s) x) (fields_by S x) (up_kept x m) (λ k i j. child_other S.nodes e x k (λ p q. f p)) (λ k h. side-kept x k) (λ k h. refl) refl (need-kept x (old_ne x m)) refl (λ k h. refl)

  node_row_parent : record_by (with_node S e s) (parent_of e) ≡ with_child_lem (record_by S (parent_of e))
  node_row_parent =
      words_cong (fields_by (with_node S e s) (parent_of e)) (with_child (fields_by S (parent_of e)) (child_word e) (suc (length S.nodes))) (up_kept (parent_of e) under) (λ k i j. kid k) (λ k h. side-kept (parent_of e) k) (λ k h. refl) refl
      (need-kept (parent_of e) (old_ne (parent_of e) under)) refl (λ k h. refl)
      ∙ sym (words_child (fields_by S (parent_of e)) (child_word e) (suc (length S.nodes)) (child_word_small e).0 (child_word_small e).1)
    where
      kid : (k : ℕ) → child_ref_of (S.nodes ++ (e ∷ [])) (parent_of e) k ≡ bump (child_ref_of S.nodes (parent_of e)) (child_word e) (suc (length S.nodes)) k
      kid k = go (eqb k (child_word e)) refl
        where
          go : (b : Bool) → eqb k (child_word e) ≡ b → child_ref_of (S.nodes ++ (e ∷ [])) (parent_of e) k ≡ bump (child_ref_of S.nodes (parent_of e)) (child_word e) (suc (length S.nodes)) k
          go true p = ap (child_ref_of (S.nodes ++ (e ∷ [])) (parent_of e)) (eqb-true k (child_word e) p) ∙ child_snoc S.nodes e deep fresh ∙ sym (rw p)
          go false p = child_other S.nodes e (parent_of e) k (λ q r. eqb-false k (child_word e) p r) ∙ sym (rw p)

  unlinked : (k : ℕ) → S.step e (stepped k e) ≡ 0
  unlinked k = go (S.step e (stepped k e)) refl
    where
      go : (n : ℕ) → S.step e (stepped k e) ≡ n → S.step e (stepped k e) ≡ 0
      go zero p = p
      go (suc n) p = absurd (fresh (sound.good.ends e (stepped k e) (omega arith)).0)

  node_row-e : (u : ℕ) → ref_of S.nodes (parent_of e) ≡ suc u → record_by (with_node S e s) e ≡ set (set (replicate width 0) parent_word (suc u)) need_word s
  node_row-e u h =
      words_cong (fields_by (with_node S e s) e) (record { parent = suc u; child = λ k. 0; neighbour = λ k. 0; link = λ k. 0; visits = 0; need = s; first = 0; edge = λ k. 0 })
      (rw deep (ref_append S.nodes (e ∷ []) (parent_of e) under ∙ h))
      (λ k i j. child_new S.nodes sound.good.closed e deep fresh k)
      (λ k i. ap (λ (n : ℕ). far n (ref_of (S.nodes ++ (e ∷ [])) (stepped k e))) (unlinked k))
      (λ k i. unlinked k)
      (sound.unvisited e fresh)
      (rw (same_refl e))
      (sound.unseen e fresh)
      (λ k i. sound.unwalked e (stepped k e) fresh)

  grown_once : (x : Corner) → Once x grown
  grown_once = once grown (distinct_snoc S.nodes e sound.good.distinct fresh)

  -- the three stores of a new node
  pub node_table : (words u : ℕ) → ref_of S.nodes (parent_of e) ≡ suc u → width * suc (length S.nodes) ≤ words
      → set (set (set (table_by words S) (word_at u (child_word e)) (length S.nodes + 1)) (word_at (length S.nodes) parent_word) (u + 1)) (word_at (length S.nodes) need_word) s ≡ table_by words (with_node S e s)
  node_table words u h room =
      let w = child_word_small e in
      let n : length S.nodes + 1 ≡ suc (length S.nodes) = omega arith in
      let i : u + 1 ≡ suc u = omega arith in
      rw (n, i)
      (ap (λ (t : List ℕ). stored (set t (word_at u (child_word e)) (suc (length S.nodes))))
      (row_more corners (record_by S) (wide S) words S.nodes e fresh (omega (arith, room)))
      ∙ ap stored (row-set corners A wide-A words grown (parent_of e) u (child_word e) (suc (length S.nodes)) (grown_once (parent_of e)) (ref_append S.nodes (e ∷ []) (parent_of e) under ∙ h) (omega (arith, w.1)))
      ∙ ap (λ (t : List ℕ). set t (word_at (length S.nodes) need_word) s) (row-set corners B wide-B words grown e (length S.nodes) parent_word (suc u) (grown_once e) (ref_snoc S.nodes e fresh) (omega arith))
      ∙ row-set_again corners B wide-B words grown e (set (B e) parent_word (suc u)) (length S.nodes) need_word s (length-set (B e) parent_word (suc u) ∙ wide-B e) (grown_once e) (ref_snoc S.nodes e fresh) (omega arith)
      ∙ ap (filled words) (rows_cong (upd corners B e (born (B e))) (record_by (with_node S e s)) grown row))
    where
      -- the two stores into the new row
      stored : List ℕ → List ℕ
      stored t = set (set t (word_at (length S.nodes) parent_word) (suc u)) (word_at (length S.nodes) need_word) s

      born : List ℕ → List ℕ
      born l = set (set l parent_word (suc u)) need_word s

      -- the rows with one of zeros for e, and then with e as a child of its parent
      A : Corner → List ℕ
      A = upd corners (record_by S) e (replicate width 0)

      wide-A : (x : Corner) → length (A x) ≡ width
      wide-A = wide-upd corners (record_by S) (wide S) e (replicate width 0) refl

      B : Corner → List ℕ
      B = upd corners A (parent_of e) (with_child_lem (A (parent_of e)))

      wide-B : (x : Corner) → length (B x) ≡ width
      wide-B = wide-upd corners A wide-A (parent_of e) (with_child_lem (A (parent_of e))) (length-set (A (parent_of e)) (child_word e) (suc (length S.nodes)) ∙ wide-A (parent_of e))

      B-e : B e ≡ replicate width 0
      B-e = upd_off corners A (parent_of e) (with_child_lem (A (parent_of e))) e (parent_ne e deep) ∙ upd-at corners (record_by S) e (replicate width 0)

      A-parent : A (parent_of e) ≡ record_by S (parent_of e)
      A-parent = upd_off corners (record_by S) e (replicate width 0) (parent_of e) (old_ne (parent_of e) under)

      row : (x : Corner) → Memᴰ x grown → upd corners B e (born (B e)) x ≡ record_by (with_node S e s) x
      row x m =
          upd-is corners B (record_by (with_node S e s)) e (born (B e)) (ap born B-e ∙ sym (node_row-e u h)) x
          (λ f. upd-is corners A (record_by (with_node S e s)) (parent_of e) (with_child_lem (A (parent_of e))) (ap with_child_lem A-parent ∙ sym node_row_parent) x
          (λ g. upd_off corners (record_by S) e (replicate width 0) x f ∙ sym (node_row_x x (old x m f) g)))

  -- and the stores that drop it: the parent's child word, and the whole row
  pub drop_table : (words u : ℕ) → ref_of S.nodes (parent_of e) ≡ suc u → width * suc (length S.nodes) ≤ words
      → sets (set (table_by words (with_node S e s)) (word_at u (child_word e)) 0) (length S.nodes * width) (replicate width 0) ≡ table_by words S
  drop_table words u h room =
      let w = child_word_small e in
      let z : List ℕ = replicate width 0 in
      ap (λ (t : List ℕ). sets t (length S.nodes * width) z) (row-set corners T (wide (with_node S e s)) words grown (parent_of e) u (child_word e) 0 (grown_once (parent_of e)) (ref_append S.nodes (e ∷ []) (parent_of e) under ∙ h) (omega (arith, w.1)))
      ∙ row_clear corners B wide-B words grown e (length S.nodes) (grown_once e) (ref_snoc S.nodes e fresh)
      ∙ ap (filled words) (rows_cong (upd corners B e z) (upd corners (record_by S) e z) grown row)
      ∙ sym (row_more corners (record_by S) (wide S) words S.nodes e fresh (omega (arith, room)))
    where
      T : Corner → List ℕ
      T = record_by (with_node S e s)

      -- the rows without e as a child of its parent
      cleared : List ℕ
      cleared = set (T (parent_of e)) (child_word e) 0

      B : Corner → List ℕ
      B = upd corners T (parent_of e) cleared

      wide-B : (x : Corner) → length (B x) ≡ width
      wide-B = wide-upd corners T (wide (with_node S e s)) (parent_of e) cleared (length-set (T (parent_of e)) (child_word e) 0)

      back_parent : cleared ≡ record_by S (parent_of e)
      back_parent =
          let w = child_word_small e in
          ap (λ (l : List ℕ). set l (child_word e) 0) node_row_parent
          ∙ set-set (record_by S (parent_of e)) (child_word e) (suc (length S.nodes)) 0
          ∙ ap (set (record_by S (parent_of e)) (child_word e)) (sym (child_of (fields_by S (parent_of e)) (child_word e) w.0 w.1 ∙ child_before S.nodes e deep fresh))
          ∙ set-get_or (record_by S (parent_of e)) (child_word e) 0

      row : (x : Corner) → Memᴰ x grown → upd corners B e (replicate width 0) x ≡ upd corners (record_by S) e (replicate width 0) x
      row x m =
          upd-is corners B (upd corners (record_by S) e (replicate width 0)) e (replicate width 0) (sym (upd-at corners (record_by S) e (replicate width 0))) x
          (λ f. upd-is corners T (record_by S) (parent_of e) cleared back_parent x (λ g. node_row_x x (old x m f) g) ∙ sym (upd_off corners (record_by S) e (replicate width 0) x f))

-- ---- a visit counted, and taken back: words 18 and 20 of one row
-- T is S apart from the visits at e
record Revisited (S T : State) (e : Corner) : Type 0 where
  nodes : T.nodes ≡ S.nodes
  step : (p q : Corner) → T.step p q ≡ S.step p q
  need : (p : Corner) → T.need p ≡ S.need p
  edges : (p q : Corner) → T.edges p q ≡ S.edges p q
  others : (p : Corner) → (p ≡ e → ⊥) → (T.visits p ≡ S.visits p) × (T.first p ≡ S.first p)

module _ (S T : State) (e : Corner) (words r x : ℕ) (dis : Distinct S.nodes) (h : ref_of S.nodes e ≡ suc r) (t : Revisited S T e) (seen : T.visits e ≡ x) where
  two-words : (y : ℕ) → T.first e ≡ y → set (set (table_by words S) (word_at r visits_word) x) (word_at r first_word) y ≡ table_by words T
  two-words y q =
      ap (λ (t : List ℕ). set t (word_at r first_word) y) (row-set corners (record_by S) (wide S) words S.nodes e r visits_word x (once S.nodes dis e) h (omega arith))
      ∙ row-set_again corners (record_by S) (wide S) words S.nodes e (set (record_by S e) visits_word x) r first_word y (length-set (record_by S e) visits_word x) (once S.nodes dis e) h (omega arith)
      ∙ ap (filled words) (rows_cong (upd corners (record_by S) e new) (record_by T) S.nodes (λ z k. row z) ∙ ap (rows_by (record_by T)) (sym t.nodes))
    where
      new : List ℕ
      new = set (set (record_by S e) visits_word x) first_word y

      up : (z : Corner) → cond (is_root z) 0 (ref_of S.nodes (parent_of z)) ≡ cond (is_root z) 0 (ref_of T.nodes (parent_of z))
      up z = ap (λ (k : List Corner). cond (is_root z) 0 (ref_of k (parent_of z))) (sym t.nodes)

      kid : (z : Corner) (w : ℕ) → child_ref_of S.nodes z w ≡ child_ref_of T.nodes z w
      kid z w = ap (λ (k : List Corner). child_ref_of k z w) (sym t.nodes)

      side : (z : Corner) (k : ℕ) → neighbour_by S.nodes S.step z k ≡ neighbour_by T.nodes T.step z k
      side z k = ap₂ far (sym (t.step z (stepped k z))) (ap (λ (j : List Corner). ref_of j (stepped k z)) (sym t.nodes))

      here : new ≡ record_by T e
      here =
          words_cong (record { parent = cond (is_root e) 0 (ref_of S.nodes (parent_of e)); child = child_ref_of S.nodes e; neighbour = neighbour_by S.nodes S.step e; link = λ k. S.step e (stepped k e); visits = x; need = S.need e; first = y; edge = λ k. S.edges e (stepped k e) }) (fields_by T e)
          (up e) (λ k i j. kid e k) (λ k i. side e k) (λ k i. sym (t.step e (stepped k e))) (sym seen) (sym (t.need e)) (sym q) (λ k i. sym (t.edges e (stepped k e)))

      row : (z : Corner) → upd corners (record_by S) e new z ≡ record_by T z
      row z =
          upd-is corners (record_by S) (record_by T) e new here z
          (λ o. words_cong (fields_by S z) (fields_by T z) (up z) (λ k i j. kid z k) (λ k i. side z k) (λ k i. sym (t.step z (stepped k z)))
          (sym (t.others z o).0) (sym (t.need z)) (sym (t.others z o).1) (λ k i. sym (t.edges z (stepped k z))))

  -- the second of the two stores changes nothing if the word is there already
  one_word : T.first e ≡ S.first e → set (table_by words S) (word_at r visits_word) x ≡ table_by words T
  one_word q =
      sym (set-get_or (set (table_by words S) (word_at r visits_word) x) (word_at r first_word) 0)
      ∙ ap (set (set (table_by words S) (word_at r visits_word) x) (word_at r first_word)) (get_or-set_other (table_by words S) (word_at r visits_word) (word_at r first_word) x 0 (omega arith) ∙ read_first words S e r h)
      ∙ two-words (S.first e) q

module _ (S : State) (sound : Sound S) (e : Corner) (k words r : ℕ) (h : ref_of S.nodes e ≡ suc r) where
  abbrev T : State
  T = visited_by S e k

  off : (p : Corner) → (p ≡ e → ⊥) → (T.visits p ≡ S.visits p) × (T.first p ≡ S.first p)
  off p f =
      let z : same p e ≡ false = is_false (same p e) (λ i. f (same_sound p e i)) in
      (rw z (omega arith), later-none (S.first p) (same p e) (suc k) z)

  forth : Revisited S T e
  forth = record { nodes = refl; step = λ p q. refl; need = λ p. refl; edges = λ p q. refl; others = off }

  again : Revisited T S e
  again = record { nodes = refl; step = λ p q. refl; need = λ p. refl; edges = λ p q. refl; others = λ p f. let z = off p f in (sym z.0, sym z.1) }

  one : tally (same e e) ≡ 1
  one = rw (same_refl e)

  more : T.visits e ≡ S.visits e + 1
  more = ap (λ (n : ℕ). S.visits e + n) one

  less : S.visits e ≡ T.visits e - 1
  less = let z : S.visits e ≡ S.visits e + tally (same e e) - 1 = omega (arith, one) in z

  pub visit_table_first : S.visits e ≡ 0 → set (set (table_by words S) (word_at r visits_word) (S.visits e + 1)) (word_at r first_word) (k + 1) ≡ table_by words (visited_by S e k)
  visit_table_first z = two-words S T e words r (S.visits e + 1) sound.good.distinct h forth more (k + 1) (visit_first S sound e k z e ∙ rw (same_refl e) (omega arith))

  pub visit_table_again : (S.visits e ≡ 0 → ⊥) → set (table_by words S) (word_at r visits_word) (S.visits e + 1) ≡ table_by words (visited_by S e k)
  visit_table_again f = one_word S T e words r (S.visits e + 1) sound.good.distinct h forth more (visit_again S sound e k f e)

  pub unvisit_table_last : (visited_by S e k).visits e ≡ 1
      → set (set (table_by words (visited_by S e k)) (word_at r visits_word) ((visited_by S e k).visits e - 1)) (word_at r first_word) 0 ≡ table_by words S
  unvisit_table_last z = two-words T S e words r (T.visits e - 1) sound.good.distinct h again less 0 (unvisit_last S sound e k z e ∙ rw (same_refl e))

  pub unvisit_table_more : ((visited_by S e k).visits e ≡ 1 → ⊥) → set (table_by words (visited_by S e k)) (word_at r visits_word) ((visited_by S e k).visits e - 1) ≡ table_by words S
  unvisit_table_more f = one_word T S e words r (T.visits e - 1) sound.good.distinct h again less (unvisit_more S sound e k f e)
