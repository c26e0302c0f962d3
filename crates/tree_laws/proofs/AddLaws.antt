-- One node more: refs and child words.
-- Assumes nothing.
use mathlib.Core.Bool.{Bool, true, false, cond, not, ◌&&◌, ◌||◌}
use mathlib.Core.List.{List, [], ◌∷◌, ◌++◌, append-nil, append_assoc, Memᴰ}
use mathlib.Core.Logic.{◌⊎◌, inl, inr, ⊎_elim}
use mathlib.Core.Path.{◌≡◌, refl, ap, sym, ◌∙◌, subst}
use Prim.Native.Nat.{ℕ, suc, ◌<◌, ◌≤◌}
use native.Mathlib.Omega.{arith}
use borrow.Author.Tests.{eqb-true}
use lib.Dec.{eqb}
use lib.ListN.{length}
use Rattle.grid.specs.declared.Corner.{Corner}
use Rattle.grid.specs.Grid.{same}
use Rattle.grid.specs.Tree.{root, parent_of, is_root, size_of, path_of, child_word}
use Rattle.layout.specs.Table.{child_ref_of}
use Rattle.lists.specs.Lists.{any, add, gather}
use Rattle.tree.specs.Nodes.{ref_of}
use Rattle.grid.proofs.CornerLaws.{same_refl, same_sound}
use Rattle.grid.proofs.PathLaws.{size_of-parent_of, path_of-root, path_of_snoc, tree_ind}
use Rattle.layout.proofs.ChildLaws.{child_ref}
use Rattle.lists.proofs.FindLaws.{find_pos, find-left, find_none, any_append, any_some}
use Rattle.lists.proofs.GatherLaws.{and_left, and_right, add_cases, any→mem, mem→any, not_mem}
use Rattle.lists.proofs.BoolLaws.{not-true, is_false}
use Rattle.tree.proofs.NodeLaws.{mem_path}
use Rattle.tree.proofs.RefLaws.{not_any}
use Rattle.tree_laws.proofs.LaterLaws.{later_new, later-none, find_snoc}
use Rattle.tree_laws.specs.State.{needed}
use Rattle.tree_laws.proofs.LevelLaws.{nodes_known, nodes_step, path_known}

-- the ref of a node that is there stays
pub ref_append : (ns r : List Corner) (a : Corner) → Memᴰ a ns → ref_of (ns ++ r) a ≡ ref_of ns a
ref_append ns r a m = find-left (same a) ns r (mem→any same same_sound same_refl m)

pub ref_none : (ns : List Corner) (a : Corner) → (Memᴰ a ns → ⊥) → ref_of ns a ≡ 0
ref_none ns a f = find_none (same a) ns (not_any a ns f)

pub ref_pos : (ns : List Corner) (a : Corner) → Memᴰ a ns → 0 < ref_of ns a
ref_pos ns a m = find_pos (same a) ns (mem→any same same_sound same_refl m)

-- the new node comes last
pub ref_snoc : (ns : List Corner) (e : Corner) → (Memᴰ e ns → ⊥) → ref_of (ns ++ (e ∷ [])) e ≡ suc (length ns)
ref_snoc ns e f = find_snoc (same e) ns e ∙ later_new (ref_of ns e) (same e e) (suc (length ns)) (ref_none ns e f) (same_refl e)

child_test : Corner → ℕ → Corner → Bool
child_test a w x = not (is_root x) && same (parent_of x) a && eqb (child_word x) w

child_test-is : (a : Corner) (w : ℕ) (x : Corner) → child_test a w x ≡ true → (is_root x ≡ false) × (parent_of x ≡ a) × (child_word x ≡ w)
unfolding child_test
child_test-is a w x e =
    let n = not (is_root x) in
    let p = same (parent_of x) a in
    let v = eqb (child_word x) w in
    let h = and_left (n && p) v e in
    (not-true (is_root x) (and_left n p h), same_sound (parent_of x) a (and_right n p h), eqb-true (child_word x) w (and_right (n && p) v e))

-- no word but its own changes for a new node
pub child_other : (ns : List Corner) (e a : Corner) (w : ℕ) → (a ≡ parent_of e → w ≡ child_word e → ⊥) → child_ref_of (ns ++ (e ∷ [])) a w ≡ child_ref_of ns a w
unfolding child_test
child_other ns e a w f =
    find_snoc (child_test a w) ns e
    ∙ later-none (child_ref_of ns a w) (child_test a w e) (suc (length ns)) (is_false (child_test a w e) (λ h. let k = child_test-is a w e h in f (sym k.1) (sym k.2)))

-- its own was 0
pub child_before : (ns : List Corner) (e : Corner) → is_root e ≡ false → (Memᴰ e ns → ⊥) → child_ref_of ns (parent_of e) (child_word e) ≡ 0
child_before ns e h f = child_ref ns e h ∙ ref_none ns e f

-- and is now the new node's ref
pub child_snoc : (ns : List Corner) (e : Corner) → is_root e ≡ false → (Memᴰ e ns → ⊥) → child_ref_of (ns ++ (e ∷ [])) (parent_of e) (child_word e) ≡ suc (length ns)
child_snoc ns e h f = child_ref (ns ++ (e ∷ [])) e h ∙ ref_snoc ns e f

-- a node that is not there has no children
child_none : (ns : List Corner) → ((c : Corner) → Memᴰ c ns → is_root c ≡ false → Memᴰ (parent_of c) ns) → (e : Corner) → (Memᴰ e ns → ⊥) → (w : ℕ) → child_ref_of ns e w ≡ 0
unfolding child_test
child_none ns closed e f w =
    find_none (child_test e w) ns
    (is_false (any (child_test e w) ns) (λ h. let k = any_some (child_test e w) ns h in let q = child_test-is e w k.0 k.2 in f (mathlib.Core.List.Memᴰ.cast (sym q.1) (closed k.0 k.1 q.0))))

pub parent_ne : (e : Corner) → is_root e ≡ false → e ≡ parent_of e → ⊥
parent_ne e h p = omega (arith, size_of-parent_of e h, ap size_of p)

-- a new node has none either
pub child_new : (ns : List Corner) → ((c : Corner) → Memᴰ c ns → is_root c ≡ false → Memᴰ (parent_of c) ns) → (e : Corner) → is_root e ≡ false → (Memᴰ e ns → ⊥) → (w : ℕ) → child_ref_of (ns ++ (e ∷ [])) e w ≡ 0
child_new ns closed e h f w = child_other ns e e w (λ p q. parent_ne e h p) ∙ child_none ns closed e f w

-- a node is not on the path of its parent
path_size : (c x : Corner) → Memᴰ x (path_of c) → size_of x ≤ size_of c
path_size c x =
    tree_ind (λ c. Memᴰ x (path_of c) → size_of x ≤ size_of c)
    (λ c e m. omega (arith, ap size_of (mathlib.Core.List.Memᴰ.eq_of_singleton (subst (λ l. Memᴰ x l) (path_of-root c e) m))))
    (λ c e ih m. ⊎_elim (λ k. omega (arith, ih k, size_of-parent_of c e)) (λ k. omega (arith, ap size_of (mathlib.Core.List.Memᴰ.eq_of_singleton k))) (mathlib.Core.List.Memᴰ.append_cases (path_of (parent_of c)) (subst (λ l. Memᴰ x l) (path_of_snoc c e) m)))
    c

pub path_below : (e : Corner) → is_root e ≡ false → Memᴰ e (path_of (parent_of e)) → ⊥
path_below e h m = omega (arith, path_size (parent_of e) e m, size_of-parent_of e h)

-- one node after the other: each is a child of the one before it
abbrev pub Chain : Corner → List Corner → Type 0
Chain q [] = Unit {0}
Chain q (x ∷ xs) = (is_root x ≡ false) × (parent_of x ≡ q) × Chain x xs

-- what the path of c adds: its part that is not in use, root-first; the parent of the first is in use
pub record Fresh (ns : List Corner) (c : Corner) : Type 0 where
  pub old : List Corner
  pub new : List Corner
  pub split : path_of c ≡ old ++ new
  pub nodes : gather same ns (path_of c) ≡ ns ++ new
  pub known : (x : Corner) → Memᴰ x old → Memᴰ x ns
  pub unknown : (x : Corner) → Memᴰ x new → Memᴰ x ns → ⊥
  pub from : Corner
  pub used : Memᴰ from ns
  pub chain : Chain from new
  pub ends : (new ≡ []) ⊎ ((r : List Corner) × (new ≡ r ++ (c ∷ [])))

last_of : Corner → List Corner → Corner
last_of q [] = q
last_of q (x ∷ xs) = last_of x xs

chain_snoc : (q : Corner) (l : List Corner) (c : Corner) → Chain q l → is_root c ≡ false → parent_of c ≡ last_of q l → Chain q (l ++ (c ∷ []))
unfolding last_of
chain_snoc q [] c h e p = (e, p, tt)
chain_snoc q (x ∷ l) c h e p = (h.0, h.1, chain_snoc x l c h.2 e p)

last_snoc : (q : Corner) (l : List Corner) (c : Corner) → last_of q (l ++ (c ∷ [])) ≡ c
unfolding last_of
last_snoc q [] c = refl
last_snoc q (x ∷ l) c = last_snoc x l c

module _ (ns : List Corner) (closed : (c : Corner) → Memᴰ c ns → is_root c ≡ false → Memᴰ (parent_of c) ns) (top : Memᴰ root ns) where
  fresh_known : (c : Corner) → Memᴰ c ns → Fresh ns c
  fresh_known c m = record {
    old = path_of c;
    new = [];
    split = sym (append-nil (path_of c));
    nodes = nodes_known ns closed c m ∙ sym (append-nil ns);
    known = path_known ns closed c m;
    unknown = λ x n k. mathlib.Core.List.Memᴰ.not-nil n;
    from = c;
    used = m;
    chain = tt;
    ends = inl refl;
  }

  fresh_step : (c : Corner) → is_root c ≡ false → (Memᴰ c ns → ⊥) → Fresh ns (parent_of c) → Fresh ns c
  fresh_step c e f h = ⊎_elim first more h.ends
    where
      new_not : Memᴰ c (ns ++ h.new) → ⊥
      new_not m = ⊎_elim f (λ k. path_below c e (rw h.split (mathlib.Core.List.Memᴰ.append_right h.old k))) (mathlib.Core.List.Memᴰ.append_cases ns m)

      grown : gather same ns (path_of c) ≡ ns ++ (h.new ++ (c ∷ []))
      grown =
          nodes_step ns c e
          ∙ ap (λ (l : List Corner). add same l c) h.nodes
          ∙ ⊎_elim (λ k. absurd (new_not (any→mem same same_sound same_refl c (ns ++ h.new) k.0))) (λ k. k.1) (add_cases same (ns ++ h.new) c)
          ∙ append_assoc ns h.new (c ∷ [])

      splits : path_of c ≡ h.old ++ (h.new ++ (c ∷ []))
      splits = path_of_snoc c e ∙ ap (λ (l : List Corner). l ++ (c ∷ [])) h.split ∙ append_assoc h.old h.new (c ∷ [])

      not_known : (x : Corner) → Memᴰ x (h.new ++ (c ∷ [])) → Memᴰ x ns → ⊥
      not_known x m k = ⊎_elim (λ n. h.unknown x n k) (λ n. f (mathlib.Core.List.Memᴰ.cast (sym (mathlib.Core.List.Memᴰ.eq_of_singleton n)) k)) (mathlib.Core.List.Memᴰ.append_cases h.new m)

      first : h.new ≡ [] → Fresh ns c
      first z =
          let u : Memᴰ (parent_of c) ns = h.known (parent_of c) (subst (λ l. Memᴰ (parent_of c) l) (h.split ∙ ap (λ (l : List Corner). h.old ++ l) z ∙ append-nil h.old) (mem_path (parent_of c))) in
          record {
            old = h.old;
            new = h.new ++ (c ∷ []);
            split = splits;
            nodes = grown;
            known = h.known;
            unknown = not_known;
            from = parent_of c;
            used = u;
            chain = rw z (e, refl, tt);
            ends = inr (h.new, refl);
          }

      more : (r : List Corner) × (h.new ≡ r ++ (parent_of c ∷ [])) → Fresh ns c
      more k = record {
        old = h.old;
        new = h.new ++ (c ∷ []);
        split = splits;
        nodes = grown;
        known = h.known;
        unknown = not_known;
        from = h.from;
        used = h.used;
        chain = chain_snoc h.from h.new c h.chain e (sym (ap (last_of h.from) k.1 ∙ last_snoc h.from k.0 (parent_of c)));
        ends = inr (h.new, refl);
      }

  pub fresh : (c : Corner) → Fresh ns c
  fresh =
      tree_ind (λ c. Fresh ns c)
      (λ c e. fresh_known c (mathlib.Core.List.Memᴰ.cast (same_sound c root e) top))
      (λ c e ih. go c e ih (any (same c) ns) refl)
    where
      go : (c : Corner) → is_root c ≡ false → Fresh ns (parent_of c) → (b : Bool) → any (same c) ns ≡ b → Fresh ns c
      go c e ih true h = fresh_known c (any→mem same same_sound same_refl c ns h)
      go c e ih false h = fresh_step c e (not_mem same same_sound same_refl c ns h) ih

-- the nodes that a lookup's step needs, level by level
module _ (ns : List Corner) (N : Corner → ℕ) (s : ℕ) (e : Corner) where
  known_needed : ((x : Corner) → Memᴰ x (path_of e) → Memᴰ x ns) → (x : Corner) → needed ns N s e x ≡ N x
  known_needed f x = go (any (same x) ns) refl (any (same x) (path_of e)) refl
    where
      go : (b : Bool) → any (same x) ns ≡ b → (c : Bool) → any (same x) (path_of e) ≡ c → needed ns N s e x ≡ N x
      go true p c q = rw (p, needed)
      go false p true q = absurd (not_mem same same_sound same_refl x ns p (f x (any→mem same same_sound same_refl x (path_of e) q)))
      go false p false q = rw (p, q, needed)

  pub needed_known : ((c : Corner) → Memᴰ c ns → is_root c ≡ false → Memᴰ (parent_of c) ns) → Memᴰ e ns → (x : Corner) → needed ns N s e x ≡ N x
  needed_known closed m = known_needed (path_known ns closed e m)

  pub needed_step : is_root e ≡ false → (Memᴰ e ns → ⊥) → (x : Corner) → needed ns N s e x ≡ cond (same x e) s (needed ns N s (parent_of e) x)
  needed_step h f x = go (same x e) refl
    where
      path_any : any (same x) (path_of e) ≡ (any (same x) (path_of (parent_of e)) || (same x e || false))
      path_any = ap (any (same x)) (path_of_snoc e h) ∙ any_append (same x) (path_of (parent_of e)) (e ∷ [])

      or_nothing : (b : Bool) → (b || (false || false)) ≡ b
      or_nothing true = refl
      or_nothing false = refl

      go : (b : Bool) → same x e ≡ b → needed ns N s e x ≡ cond (same x e) s (needed ns N s (parent_of e) x)
      go true p =
          let q : x ≡ e = same_sound x e p in
          let u : any (same x) ns ≡ false = not_any x ns (λ m. f (mathlib.Core.List.Memᴰ.cast (sym q) m)) in
          let v : any (same x) (path_of e) ≡ true = mem→any same same_sound same_refl (mathlib.Core.List.Memᴰ.cast q (mem_path e)) in
          rw (p, u, v)
      go false p = rw (path_any, p, or_nothing (any (same x) (path_of (parent_of e))))

-- if the parent of e is in use, e alone is needed
pub needed_child : (ns : List Corner) → ((c : Corner) → Memᴰ c ns → is_root c ≡ false → Memᴰ (parent_of c) ns) → (N : Corner → ℕ) (s : ℕ) (e : Corner)
    → is_root e ≡ false → Memᴰ (parent_of e) ns → (Memᴰ e ns → ⊥) → (x : Corner) → needed ns N s e x ≡ cond (same x e) s (N x)
needed_child ns closed N s e h m f x = needed_step ns N s e h f x ∙ ap (λ (n : ℕ). cond (same x e) s n) (needed_known ns N s (parent_of e) closed m x)
