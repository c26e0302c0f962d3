-- How many records differ in two tables, row by row, and in the tables before and after a step.
-- Assumes nothing.
use mathlib.Core.Bool.{Bool, true, false, not, ◌&&◌}
use mathlib.Core.List.{List, [], ◌∷◌, ◌++◌, append_assoc, Memᴰ}
use mathlib.Core.Path.{◌≡◌, refl, ap, ap₂, sym, ◌∙◌}
use Prim.Native.Nat.{ℕ, zero, suc, ◌+◌, ◌-◌, ◌*◌, ◌<◌, ◌≤◌, max}
use native.Mathlib.Omega.{arith}
use borrow.Author.Tests.{eqb-true, eq-eqb}
use lib.Dec.{eqb}
use lib.ListN.{length, length-append, length-drop, take, drop, take-append-drop, replicate, replicate-append-replicate}
use lib.Seq.{take-append_seam, drop-append_seam, length-take-le}
use Rattle.grid.specs.declared.Corner.{Corner}
use Rattle.grid.specs.Grid.{same, stepped, corners_from, end_from}
use Rattle.grid.specs.Tree.{size_of, path_of, WithinLevels}
use Rattle.layout.specs.Marks.{same_words, changes_in, changes_of}
use Rattle.layout.specs.Table.{width, table_of}
use Rattle.lists.specs.Lists.{any, count, gather, tally}
use Rattle.tree.specs.Nodes.{nodes_of}
use Rattle.tree_laws.specs.State.{State, Sound, state_of, record_by, rows_by, risen_by, table_by}
use Rattle.lists.proofs.FindLaws.{bool_agree}
use Rattle.tree_laws.proofs.AddLaws.{Fresh, fresh}
use Rattle.tree_laws.proofs.LevelLaws.{root_known}
use Rattle.tree_laws.proofs.PushLaws.{push_nodes, sound_walk, finish_node}
use Rattle.tree_laws.proofs.RiseLaws.{risen_few}
use Rattle.table_laws.proofs.CellLaws.{same_self}
use Rattle.table_laws.proofs.ChangeLaws.{rooted, changed, after, before, before-old, before_new, count-changed}
use Rattle.table_laws.proofs.ChildLaws.{length_table}
use Rattle.table_laws.proofs.RowLaws.{table_state, rows_append, rows_cong, rows_zero, length-rows}
use Rattle.table_laws.proofs.StateLaws.{step_table, room-old}
use Rattle.table_laws.proofs.CellLaws.{wide}

-- the first record, and the others
take_row : (l r : List ℕ) → length l ≡ width → take width (l ++ r) ≡ l
take_row l r e = ap (λ (n : ℕ). take n (l ++ r)) (sym e) ∙ take-append_seam l r

drop-row : (l r : List ℕ) → length l ≡ width → drop width (l ++ r) ≡ r
drop-row l r e = ap (λ (n : ℕ). drop n (l ++ r)) (sym e) ∙ drop-append_seam l r

row_differs : (n : ℕ) (l m t u : List ℕ) → length l ≡ width → length m ≡ width → changes_in (suc n) (l ++ t) (m ++ u) ≡ tally (not (same_words l m)) + changes_in n t u
row_differs n l m t u e f =
    ap₂ ◌+◌ (ap₂ (λ (x y : List ℕ). tally (not (same_words x y))) (take_row l t e) (take_row m u f)) (ap₂ (changes_in n) (drop-row l t e) (drop-row m u f))

rows-differ : (R Q : Corner → List ℕ) → ((a : Corner) → length (R a) ≡ width) → ((a : Corner) → length (Q a) ≡ width) → (l : List Corner) (n m : ℕ) (r q : List ℕ) → m ≡ length l + n
    → changes_in m (rows_by R l ++ r) (rows_by Q l ++ q) ≡ count (λ x. not (same_words (R x) (Q x))) l + changes_in n r q
rows-differ R Q i j [] n m r q e = let z : m ≡ n = omega arith in ap (λ (k : ℕ). changes_in k r q) z ∙ omega arith
rows-differ R Q i j (x ∷ l) n zero r q e = absurd (omega arith)
rows-differ R Q i j (x ∷ l) n (suc m) r q e =
    ap₂ (changes_in (suc m)) (append_assoc (R x) (rows_by R l) r) (append_assoc (Q x) (rows_by Q l) q)
    ∙ row_differs m (R x) (Q x) (rows_by R l ++ r) (rows_by Q l ++ q) (i x) (j x)
    ∙ omega (arith, rows-differ R Q i j l n m r q (omega arith))

-- a table does not differ from itself, and it does not matter which of two comes first
changes_self : (n : ℕ) (t : List ℕ) → changes_in n t t ≡ 0
changes_self zero t = refl
changes_self (suc n) t = omega (arith, ap (λ (b : Bool). tally (not b)) (same_self (take width t)), changes_self n (drop width t))

same_flip : (l m : List ℕ) → same_words l m ≡ same_words m l
same_flip [] [] = refl
same_flip [] (y ∷ m) = refl
same_flip (x ∷ l) [] = refl
same_flip (x ∷ l) (y ∷ m) = ap₂ ◌&&◌ (bool_agree (eqb x y) (eqb y x) (λ e. eq-eqb y x (sym (eqb-true x y e))) (λ e. eq-eqb x y (sym (eqb-true y x e)))) (same_flip l m)

changes_flip : (n : ℕ) (t u : List ℕ) → changes_in n t u ≡ changes_in n u t
changes_flip zero t u = refl
changes_flip (suc n) t u = ap₂ ◌+◌ (ap (λ (b : Bool). tally (not b)) (same_flip (take width t) (take width u))) (changes_flip n (drop width t) (drop width u))

module _ (S : State) (sound : Sound S) (s d : ℕ) (pos : 0 < s) (small : d < 4) (a : Corner) (from : Memᴰ a S.nodes) where
  abbrev all : List Corner
  all = gather same S.nodes (path_of (stepped d a))

  abbrev old : Corner → List ℕ
  old = before S sound s d pos small a from

  old-wide : (x : Corner) → length (old x) ≡ width
  old-wide x = go (any (same x) S.nodes) refl
    where
      go : (b : Bool) → any (same x) S.nodes ≡ b → length (old x) ≡ width
      go true p = rw p refl
      go false p = rw p refl

  -- the table before the step, as rows of the nodes after it
  table_before : (words : ℕ) → width * length all ≤ words → table_by words S ≡ rows_by old all ++ replicate (words - width * length all) 0
  table_before words h =
      let ns = S.nodes in
      let f : Fresh ns (stepped d a) = fresh ns sound.good.closed (root_known ns S.step sound.good) (stepped d a) in
      let rs = rows_by (record_by S) ns in
      let n = length ns in
      let k = length f.new in
      let size : length all ≡ n + k = ap length f.nodes ∙ length-append ns f.new in
      let rows : rows_by old all ≡ rs ++ replicate (k * width) 0 = ap (rows_by old) f.nodes ∙ rows_append old ns f.new ∙ ap₂ (λ (x y : List ℕ). x ++ y) (rows_cong old (record_by S) ns (before-old S sound s d pos small a from)) (rows_zero width old f.new (λ x m. before_new S sound s d pos small a from x (f.unknown x m))) in
      let left : words - length rs ≡ k * width + (words - width * length all) = omega (arith, length-rows (record_by S) (wide S) ns) in
      ap (λ (m : ℕ). rs ++ replicate m 0) left
      ∙ ap (λ (l : List ℕ). rs ++ l) (sym (replicate-append-replicate (k * width) (words - width * length all) 0))
      ∙ sym (append_assoc rs (replicate (k * width) 0) (replicate (words - width * length all) 0))
      ∙ ap (λ (l : List ℕ). l ++ replicate (words - width * length all) 0) (sym rows)

  -- how many records the step changes, in a table of any size that is large enough
  step_changes : (k words n : ℕ) → size_of a < k → width * length all ≤ words → length all ≤ n → changes_in n (table_by words S) (table_by words (after S sound s d pos small a)) ≡ length (changed S sound s d pos small k a)
  step_changes k words n h room more =
      let T : State = after S sound s d pos small a in
      let z : List ℕ = replicate (words - width * length all) 0 in
      let new : table_by words T ≡ rows_by (record_by T) all ++ z = ap (λ (m : ℕ). rows_by (record_by T) all ++ replicate (words - m) 0) (length-rows (record_by T) (wide T) all ∙ (omega arith)) in
      ap₂ (changes_in n) (table_before words room) new
      ∙ rows-differ old (record_by T) old-wide (wide T) all (n - length all) n z z (omega arith)
      ∙ omega (arith, changes_self (n - length all) z, count-changed S sound s d pos small a from k h)

-- no more records differ than there are
changes_le : (n : ℕ) (t u : List ℕ) → changes_in n t u ≤ n
changes_le zero t u = omega arith
changes_le (suc n) t u = by (not (same_words (take width t) (take width u))) (changes_le n (drop width t) (drop width u))
  where
    by : (b : Bool) → changes_in n (drop width t) (drop width u) ≤ n → tally b + changes_in n (drop width t) (drop width u) ≤ suc n
    by true h = omega arith
    by false h = omega arith

pub changes_few : (c : Corner) (ds es : List ℕ) → changes_of c ds es ≤ max (length (nodes_of (corners_from c ds))) (length (nodes_of (corners_from c es)))
changes_few c ds es =
    let n = max (length (nodes_of (corners_from c ds))) (length (nodes_of (corners_from c es))) in
    changes_le n (table_of (n * width) c ds) (table_of (n * width) c es)

-- of a walk: with one step more,
module _ (c : Corner) (ds : List ℕ) (d : ℕ) (small : d < 4) where
  -- the two ends, and the nodes above them whose records change
  pub walk_changes : (k : ℕ) → size_of (end_from c ds) < k → changes_of c ds (ds ++ (d ∷ [])) ≡ 2 + length (risen_by (state_of (corners_from c ds)).step (nodes_of (corners_from c ds)) k (end_from c ds) (stepped d (end_from c ds)))
  walk_changes k h =
      let S : State = state_of (corners_from c ds) in
      let m = length (gather same (nodes_of (corners_from c ds)) (path_of (stepped d (end_from c ds)))) in
      let n = max (length (nodes_of (corners_from c ds))) (length (nodes_of (corners_from c (ds ++ (d ∷ []))))) in
      let e : n ≡ m = omega (arith, ap length (push_nodes c ds d), room-old (nodes_of (corners_from c ds)) (path_of (stepped d (end_from c ds)))) in
      let t = ap₂ (changes_in n) (table_state (n * width) c ds) (sym (step_table (n * width) c ds d)) in
      let r = step_changes S (sound_walk c ds) (suc (length ds)) d (omega arith) small (end_from c ds) (finish_node c ds) k (n * width) n h (omega arith) (omega arith) in
      t ∙ r ∙ omega arith

  -- at most 33 if no coordinate reaches 65,536
  pub walk_few : WithinLevels 16 (end_from c ds) → WithinLevels 16 (stepped d (end_from c ds)) → changes_of c ds (ds ++ (d ∷ [])) ≤ 33
  walk_few v w =
      let S : State = state_of (corners_from c ds) in
      let a = end_from c ds in
      let k = suc (size_of a) in
      let f = risen_few S.step S.nodes (rooted S (sound_walk c ds) (suc (length ds)) d (omega arith) small) 16 k d a (stepped d a) refl v w in
      omega (arith, walk_changes k (omega arith))

-- and with one step less: as many as with the step
pub changes-back : (c : Corner) (ds es : List ℕ) → changes_of c es ds ≡ changes_of c ds es
changes-back c ds es =
    let n = length (nodes_of (corners_from c ds)) in
    let m = length (nodes_of (corners_from c es)) in
    let e : max m n ≡ max n m = omega arith in
    ap (λ (k : ℕ). changes_in k (table_of (k * width) c es) (table_of (k * width) c ds)) e
    ∙ changes_flip (max n m) (table_of (max n m * width) c es) (table_of (max n m * width) c ds)

-- ---- tables of more records
split_rows : (n : ℕ) (t u r q : List ℕ) → length t ≡ n * width → length u ≡ n * width → (j m : ℕ) → m ≡ n + j → changes_in m (t ++ r) (u ++ q) ≡ changes_in n t u + changes_in j r q
split_rows zero t u r q e f j m i =
    let z : m ≡ j = omega arith in
    ap (λ (k : ℕ). changes_in k (t ++ r) (u ++ q)) z
    ∙ ap₂ (λ (x y : List ℕ). changes_in j (x ++ r) (y ++ q)) (none t (omega arith)) (none u (omega arith))
    ∙ omega arith
  where
    none : (l : List ℕ) → length l ≡ 0 → l ≡ []
    none [] h = refl
    none (x ∷ l) h = absurd (omega arith)
split_rows (suc n) t u r q e f j zero i = absurd (omega arith)
split_rows (suc n) t u r q e f j (suc m) i =
    let a = take width t in
    let b = take width u in
    let x = drop width t in
    let y = drop width u in
    let la : length a ≡ width = length-take-le width t (omega arith) in
    let lb : length b ≡ width = length-take-le width u (omega arith) in
    let ta : t ++ r ≡ a ++ (x ++ r) = ap (λ (l : List ℕ). l ++ r) (sym (take-append-drop width t)) ∙ append_assoc a x r in
    let ub : u ++ q ≡ b ++ (y ++ q) = ap (λ (l : List ℕ). l ++ q) (sym (take-append-drop width u)) ∙ append_assoc b y q in
    ap₂ (changes_in (suc m)) ta ub
    ∙ row_differs m a b (x ++ r) (y ++ q) la lb
    ∙ omega (arith, split_rows n x y r q (omega (arith, length-drop width t)) (omega (arith, length-drop width u)) j m (omega arith))

table_more : (c : Corner) (ds : List ℕ) (n m : ℕ) → length (nodes_of (corners_from c ds)) ≤ n → n ≤ m → table_of (m * width) c ds ≡ table_of (n * width) c ds ++ replicate ((m - n) * width) 0
table_more c ds n m h i =
    let S : State = state_of (corners_from c ds) in
    let rs = rows_by (record_by S) (nodes_of (corners_from c ds)) in
    let k = n * width - length rs in
    let e : m * width - length rs ≡ k + (m - n) * width = omega (arith, length-rows (record_by S) (wide S) (nodes_of (corners_from c ds))) in
    table_state (m * width) c ds
    ∙ ap (λ (j : ℕ). rs ++ replicate j 0) e
    ∙ ap (λ (l : List ℕ). rs ++ l) (sym (replicate-append-replicate k ((m - n) * width) 0))
    ∙ sym (append_assoc rs (replicate k 0) (replicate ((m - n) * width) 0))
    ∙ ap (λ (l : List ℕ). l ++ replicate ((m - n) * width) 0) (sym (table_state (n * width) c ds))

pub changes_larger : (c : Corner) (ds es : List ℕ) (m : ℕ) → length (nodes_of (corners_from c ds)) ≤ m → length (nodes_of (corners_from c es)) ≤ m → changes_in m (table_of (m * width) c ds) (table_of (m * width) c es) ≡ changes_of c ds es
changes_larger c ds es m h i =
    let n = max (length (nodes_of (corners_from c ds))) (length (nodes_of (corners_from c es))) in
    let z : List ℕ = replicate ((m - n) * width) 0 in
    let l : (fs : List ℕ) → length (nodes_of (corners_from c fs)) ≤ n → length (table_of (n * width) c fs) ≡ n * width = λ fs j. ap length (table_state (n * width) c fs) ∙ length_table (n * width) (state_of (corners_from c fs)) (omega arith) in
    ap₂ (changes_in m) (table_more c ds n m (omega arith) (omega arith)) (table_more c es n m (omega arith) (omega arith))
    ∙ split_rows n (table_of (n * width) c ds) (table_of (n * width) c es) z z (l ds (omega arith)) (l es (omega arith)) (m - n) m (omega arith)
    ∙ omega (arith, changes_self (m - n) z)
