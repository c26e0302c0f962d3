-- The lookup on lists, from its first read to its last store.
-- Assumes nothing.
use mathlib.Core.Bool.{Bool, true, false, true≢false}
use mathlib.Core.List.Memᴰ
use mathlib.Core.List.{List, [], ◌∷◌, ◌++◌, append-nil, append_assoc, Memᴰ}
use mathlib.Core.Logic.{⊎_elim}
use mathlib.Core.Path.{◌≡◌, refl, ap, ap₂, sym, ◌∙◌, subst}
use Prim.Native.Nat.{ℕ, zero, suc, ◌+◌, ◌-◌, ◌*◌, ◌<◌, ◌≤◌}
use native.Mathlib.Omega.{arith}
use borrow.Author.Tests.{ltb-true, ltb-false}
use lib.Dec.{ltb}
use lib.ListN.{length, get_or}
use Rattle.grid.specs.declared.Corner.{Corner}
use Rattle.grid.specs.Grid.{same, stepped}
use Rattle.grid.specs.Tree.{root, parent_of, is_root, size_of, path_of, child_word}
use Rattle.lists.specs.Lists.{add, gather}
use Rattle.tree.specs.Nodes.{ref_of}
use Rattle.layout.specs.Table.{width, word_at, parent_word, neighbour_word}
use Rattle.tree_laws.specs.State.{State, reached, with_link, grown, raised, Alike, Sound, table_by}
use Rattle.grid.proofs.CornerLaws.{same_refl, same_sound}
use Rattle.grid.proofs.ParentLaws.{parent_of-stepped}
use Rattle.grid.proofs.PathLaws.{size_of-parent_of}
use Rattle.lists.proofs.GatherLaws.{gather-more, distinct_add, mem-add, mem-gather-right}
use Rattle.tree.proofs.NodeLaws.{mem_path}
use Rattle.tree_laws.proofs.AddLaws.{ref_pos, ref_append}
use Rattle.tree_laws.proofs.LevelLaws.{root_is}
use Rattle.table_laws.specs.Model.{Out, out, child_in, link_in, join_in, finish_in, above_in, neighbour_in}
use Rattle.table_laws.proofs.StateLaws.{reach_known, reach-root, reach-over, sound_reached, room-old}
use Rattle.table_laws.proofs.CellLaws.{far, alike_table, read_parent, read_neighbour}
use Rattle.table_laws.proofs.LinkLaws.{link_table}
use Rattle.table_laws.proofs.ChildLaws.{MadeBy, child_made, join-none, finish_none, root_child, mem_of_ref, grown_nodes}

-- the state over which the last two stores are made: sound, with the parent of e, and more than S
pub record Raised (S T : State) (e : Corner) : Type 0 where
  pub sound : Sound T
  pub has : Memᴰ (parent_of e) T.nodes
  pub rest : List Corner
  pub more : T.nodes ≡ S.nodes ++ rest

pub raised_is : (S : State) → Sound S → (s : ℕ) (a e : Corner) → Memᴰ a S.nodes → (is_root a ≡ true → Memᴰ (parent_of e) S.nodes) → Raised S (raised S s a e) e
raised_is S sound s a e m r = go (is_root a) refl (same (parent_of a) (parent_of e)) refl
  where
    go : (b : Bool) → is_root a ≡ b → (q : Bool) → same (parent_of a) (parent_of e) ≡ q → Raised S (raised S s a e) e
    go true p q k = rw (p, raised) (record { sound = sound; has = r p; rest = []; more = sym (append-nil S.nodes) })
    go false p true k = rw (p, k, raised) (record { sound = sound; has = Memᴰ.cast (sym (same_sound (parent_of a) (parent_of e) k)) (sound.good.closed a m p); rest = []; more = sym (append-nil S.nodes) })
    go false p false k =
        let g = gather-more same S.nodes (path_of (parent_of e)) in
        rw (p, k, raised) (record {
          sound = sound_reached S sound s (parent_of e) (parent_of a) (sound.good.closed a m p);
          has = mem-gather-right same same_sound same_refl S.nodes (path_of (parent_of e)) (mem_path (parent_of e));
          rest = g.0;
          more = g.1;
        })

module _ (words : ℕ) (S : State) (sound : Sound S) (s d : ℕ) (pos : 0 < s) (small : d < 4) (room : width * length S.nodes ≤ words) where
  -- what a lookup from a gives
  abbrev pub Looked : Corner → Out → Type 0
  Looked a o = MadeBy words (reached S s a (stepped d a)) (stepped d a) o

  parent_word_lem : (a : Corner) (u : ℕ) → ref_of S.nodes a ≡ suc u → is_root a ≡ false → get_or (table_by words S) (word_at u parent_word) 0 ≡ ref_of S.nodes (parent_of a)
  parent_word_lem a u h r = read_parent words S a u h ∙ rw r

  pub above_made : (call : ℕ → Corner → Out) (a : Corner) (u : ℕ) → ref_of S.nodes a ≡ suc u → is_root (stepped d a) ≡ false
      → ((v : ℕ) → is_root a ≡ false → ref_of S.nodes (parent_of a) ≡ suc v → Looked (parent_of a) (call v (parent_of a)))
      → (o : Out) → above_in call (table_by words S) (length S.nodes) u a (stepped d a) ≡ o
      → MadeBy words (raised S s a (stepped d a)) (parent_of (stepped d a)) o
  above_made call a u h deep ih o q =
      subst (MadeBy words (raised S s a (stepped d a)) (parent_of (stepped d a))) q (go (is_root a) refl (same (parent_of a) (parent_of (stepped d a))) refl)
    where
      o₁ : Out
      o₁ = above_in call (table_by words S) (length S.nodes) u a (stepped d a)

      is : State → Out → Type 0
      is T x = MadeBy words T (parent_of (stepped d a)) x

      stay : (n : ℕ) → n ≡ ref_of S.nodes (parent_of (stepped d a)) → is S (out (table_by words S) n (length S.nodes))
      stay n e = record { fits = λ f. (refl, e, refl); full = λ f. absurd (omega arith) }

      go : (b : Bool) → is_root a ≡ b → (g : Bool) → same (parent_of a) (parent_of (stepped d a)) ≡ g → is (raised S s a (stepped d a)) o₁
      go true r g k =
          let z : a ≡ root = root_is a r in
          let x : o₁ ≡ out (table_by words S) (u + 1) (length S.nodes) = rw (r, above_in) in
          let y : raised S s a (stepped d a) ≡ S = rw (r, raised) in
          let p : parent_of (stepped d a) ≡ a = ap (λ (c : Corner). parent_of (stepped d c)) z ∙ root_child d ∙ sym z in
          subst (λ t. is t o₁) (sym y) (subst (λ t. is S t) (sym x) (stay (u + 1) (sym (ap (ref_of S.nodes) p ∙ h ∙ (omega arith)))))
      go false r true k =
          let x : o₁ ≡ out (table_by words S) (get_or (table_by words S) (word_at u parent_word) 0) (length S.nodes) = rw (r, k, above_in) in
          let y : raised S s a (stepped d a) ≡ S = rw (r, k, raised) in
          subst (λ t. is t o₁) (sym y) (subst (λ t. is S t) (sym x) (stay (get_or (table_by words S) (word_at u parent_word) 0) (parent_word_lem a u h r ∙ ap (ref_of S.nodes) (same_sound (parent_of a) (parent_of (stepped d a)) k))))
      go false r false k =
          let x : o₁ ≡ call (get_or (table_by words S) (word_at u parent_word) 0 - 1) (parent_of a) = rw (r, k, above_in) in
          let y : raised S s a (stepped d a) ≡ reached S s (parent_of a) (parent_of (stepped d a)) = rw (r, k, raised) in
          let m = sound.good.closed a (mem_of_ref S.nodes a u h) r in
          let p : parent_of (stepped d a) ≡ stepped d (parent_of a) = ⊎_elim (λ e. absurd (true≢false (sym (same_refl (parent_of a)) ∙ ap (same (parent_of a)) (sym e) ∙ k))) (λ e. e) (parent_of-stepped d a) in
          let w : ref_of S.nodes (parent_of a) ≡ suc (get_or (table_by words S) (word_at u parent_word) 0 - 1) = omega (arith, parent_word_lem a u h r, ref_pos S.nodes (parent_of a) m) in
          subst (λ t. is t o₁) (sym y)
          (subst (λ t. is (reached S s (parent_of a) (parent_of (stepped d a))) t) (sym x)
          (subst (λ c. MadeBy words (reached S s (parent_of a) c) c (call (get_or (table_by words S) (word_at u parent_word) 0 - 1) (parent_of a))) (sym p) (ih (get_or (table_by words S) (word_at u parent_word) 0 - 1) r w)))

  pub root_parent : (a : Corner) → Memᴰ a S.nodes → is_root a ≡ true → Memᴰ (parent_of (stepped d a)) S.nodes
  root_parent a m r = Memᴰ.cast (ap (λ (c : Corner). parent_of (stepped d c)) (root_is a r) ∙ root_child d ∙ sym (root_is a r)) m

  -- the last stores, if the neighbour e of a is not the root and they are not linked: the child, and then the link
  module _ (a : Corner) (u : ℕ) (h : ref_of S.nodes a ≡ suc u) (deep : is_root (stepped d a) ≡ false) (z : S.step a (stepped d a) ≡ 0) where
    abbrev e : Corner
    e = stepped d a

    abbrev T : State
    T = raised S s a e

    abbrev G : State
    G = grown T e s

    m : Memᴰ a S.nodes
    m = mem_of_ref S.nodes a u h

    up : Raised S T e
    up = raised_is S sound s a e m (root_parent a m)

    alike : Alike (reached S s a e) (with_link G a e s)
    alike = reach-over S sound s a e z m deep (root_parent a m)

    same_nodes : length (gather same S.nodes (path_of e)) ≡ length G.nodes
    same_nodes = ap length alike.nodes

    all : G.nodes ≡ add same T.nodes e
    all = grown_nodes T e s

    more : length T.nodes ≤ length G.nodes
    more = omega (arith, room-old T.nodes (e ∷ []), ap length all)

    there : Memᴰ e G.nodes
    there = rw all (mem-add same same_sound same_refl T.nodes e)

    ref_a : ref_of G.nodes a ≡ suc u
    ref_a =
        let g = gather-more same T.nodes (e ∷ []) in
        ap (λ (l : List Corner). ref_of l a) (all ∙ g.1 ∙ ap (λ (l : List Corner). l ++ g.0) up.more ∙ append_assoc S.nodes up.rest g.0)
        ∙ ref_append S.nodes (up.rest ++ g.0) a m
        ∙ h

    -- the link, after the child
    pub join_made : (v : Out) → MadeBy words (grown (raised S s a (stepped d a)) (stepped d a) s) (stepped d a) v → Looked a (join_in v u d s)
    join_made v made = fit (ltb words (width * length G.nodes)) refl
      where
        fit : (b : Bool) → ltb words (width * length G.nodes) ≡ b → Looked a (join_in v u d s)
        fit true p =
            let l = ltb-true words (width * length G.nodes) p in
            let q : v.at ≡ 0 = made.full l in
            let x : join_in v u d s ≡ v = join-none v u d s q in
            subst (Looked a) (sym x) (record { fits = λ f. absurd (omega (arith, same_nodes)); full = λ f. q })
        fit false p = node (ref_of G.nodes e) refl
          where
            l : width * length G.nodes ≤ words
            l = ltb-false words (width * length G.nodes) p

            node : (n : ℕ) → ref_of G.nodes e ≡ n → Looked a (join_in v u d s)
            node zero q = absurd (omega (arith, ref_pos G.nodes e there))
            node (suc k) q =
                let g = made.fits l in
                let x : join_in v u d s ≡ out (link_in v.table u k d s) (suc k) v.nodes = rw (g.1 ∙ q, join_in) in
                subst (Looked a) (sym x) (record {
                  fits = λ f. (
                    ap (λ (t : List ℕ). link_in t u k d s) g.0
                        ∙ link_table G a d s words u k small pos (rw all (distinct_add same same_sound same_refl T.nodes e up.sound.good.distinct)) ref_a q
                        ∙ sym (alike_table words (reached S s a e) (with_link G a e s) alike),
                    sym (ap (λ (l : List Corner). ref_of l e) alike.nodes ∙ q),
                    g.2 ∙ sym same_nodes,
                  );
                  full = λ f. absurd (omega (arith, same_nodes, l));
                })

    -- both
    pub finish_made : (o : Out) → MadeBy words (raised S s a (stepped d a)) (parent_of (stepped d a)) o → Looked a (finish_in o u (stepped d a) d s)
    finish_made o made = go (ltb words (width * length T.nodes)) refl
      where
        go : (b : Bool) → ltb words (width * length T.nodes) ≡ b → Looked a (finish_in o u e d s)
        go true p =
            let l = ltb-true words (width * length T.nodes) p in
            let q : o.at ≡ 0 = made.full l in
            let x : finish_in o u e d s ≡ o = finish_none o u e d s q in
            subst (Looked a) (sym x) (record { fits = λ f. absurd (omega (arith, same_nodes, more)); full = λ f. q })
        go false p = node (ref_of T.nodes (parent_of e)) refl
          where
            l : width * length T.nodes ≤ words
            l = ltb-false words (width * length T.nodes) p

            node : (n : ℕ) → ref_of T.nodes (parent_of e) ≡ n → Looked a (finish_in o u e d s)
            node zero q = absurd (omega (arith, ref_pos T.nodes (parent_of e) up.has))
            node (suc k) q =
                let g = made.fits l in
                let x : finish_in o u e d s ≡ join_in (child_in o.table o.nodes k (child_word e) s) u d s = rw (g.1 ∙ q, finish_in) in
                let y : child_in o.table o.nodes k (child_word e) s ≡ child_in (table_by words T) (length T.nodes) k (child_word e) s = ap₂ (λ (t : List ℕ) (n : ℕ). child_in t n k (child_word e) s) g.0 g.2 in
                subst (Looked a) (sym (x ∙ ap (λ (c : Out). join_in c u d s) y)) (join_made (child_in (table_by words T) (length T.nodes) k (child_word e) s) (child_made words T up.sound e s k deep up.has q l (child_in (table_by words T) (length T.nodes) k (child_word e) s) refl))

  -- `neighbour`: found, or made
  pub neighbour_made : (f : ℕ) (a : Corner) (u : ℕ) → size_of a < f → ref_of S.nodes a ≡ suc u → Looked a (neighbour_in f (table_by words S) (length S.nodes) u a d s)
  neighbour_made zero a u h r = absurd (omega arith)
  neighbour_made (suc f) a u h r = go (S.step a (stepped d a)) refl (is_root (stepped d a)) refl (λ v i j. neighbour_made f (parent_of a) v (omega (arith, size_of-parent_of a i)) j)
    where
      e : Corner
      e = stepped d a

      o : Out
      o = neighbour_in (suc f) (table_by words S) (length S.nodes) u a d s

      word : get_or (table_by words S) (word_at u (neighbour_word d)) 0 ≡ far (S.step a e) (ref_of S.nodes e)
      word = read_neighbour words S a u r d small

      go : (n : ℕ) → S.step a e ≡ n → (b : Bool) → is_root e ≡ b
          → ((v : ℕ) → is_root a ≡ false → ref_of S.nodes (parent_of a) ≡ suc v → Looked (parent_of a) (neighbour_in f (table_by words S) (length S.nodes) v (parent_of a) d s))
          → Looked a o
      go (suc n) p b q ih = known (ref_of S.nodes e) refl
        where
          alike : Alike (reached S s a e) S
          alike = reach_known S sound s a e (omega arith)

          known : (k : ℕ) → ref_of S.nodes e ≡ k → Looked a o
          known zero i = absurd (omega (arith, ref_pos S.nodes e (sound.good.ends a e (omega arith)).1))
          known (suc k) i =
              let x : o ≡ out (table_by words S) (suc k) (length S.nodes) = rw (word ∙ ap (λ (m : ℕ). far m (ref_of S.nodes e)) p ∙ i, neighbour_in) in
              subst (Looked a) (sym x) (record {
                fits = λ g. (sym (alike_table words (reached S s a e) S alike), sym (ap (λ (l : List Corner). ref_of l e) alike.nodes ∙ i), sym (ap length alike.nodes));
                full = λ g. absurd (omega (arith, ap length alike.nodes));
              })
      go zero p true q ih =
          let alike : Alike (reached S s a e) (with_link S a e s) = reach-root S sound s a e p q in
          let one : ref_of S.nodes e ≡ 1 = ap₂ ref_of sound.good.root.1 (root_is e q) in
          let x : o ≡ out (link_in (table_by words S) u 0 d s) 1 (length S.nodes) = rw (word ∙ ap (λ (m : ℕ). far m (ref_of S.nodes e)) p, q, neighbour_in) in
          subst (Looked a) (sym x) (record {
            fits = λ g. (
              link_table S a d s words u 0 small pos sound.good.distinct r one ∙ sym (alike_table words (reached S s a e) (with_link S a e s) alike),
              sym (ap (λ (l : List Corner). ref_of l e) alike.nodes ∙ one),
              sym (ap length alike.nodes),
            );
            full = λ g. absurd (omega (arith, ap length alike.nodes));
          })
      go zero p false q ih =
          let over : Out = above_in (λ v c. neighbour_in f (table_by words S) (length S.nodes) v c d s) (table_by words S) (length S.nodes) u a e in
          let x : o ≡ finish_in over u e d s = rw (word ∙ ap (λ (m : ℕ). far m (ref_of S.nodes e)) p, q, neighbour_in) in
          subst (Looked a) (sym x) (finish_made a u r q p over (above_made (λ v c. neighbour_in f (table_by words S) (length S.nodes) v c d s) a u r q ih over refl))
