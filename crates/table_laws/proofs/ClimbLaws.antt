-- One level of the climb, and one of the way down, in the laws of the lookup.
-- Assumes nothing.
use mathlib.Core.Bool.{Bool, true, false, cond, not, ◌&&◌, true≢false}
use mathlib.Core.List.{List, Memᴰ}
use mathlib.Core.Path.{◌≡◌, refl, ap, sym, ◌∙◌, subst}
use Prim.Native.Nat.{ℕ, zero, suc, ◌+◌, ◌-◌, ◌*◌, ◌%◌, ◌<◌, ◌≤◌, max}
use native.Mathlib.Decide.{ℕ_discrete}
use native.Mathlib.Omega.{arith}
use borrow.Author.Tests.{eqb-true, eq-eqb}
use lib.Dec.{eqb}
use lib.IntN.{nat_abs}
use lib.ListN.{length, length-set, get_or, set}
use Rattle.grid.specs.declared.Corner.{Corner}
use Rattle.grid.specs.Grid.{same, stepped}
use Rattle.grid.specs.Tree.{parent_of, is_root, child_word, up_by}
use Rattle.layout.specs.Table.{width, word_at, HasRecord, parent_word, neighbour_word, link_word}
use Rattle.tree.specs.Nodes.{ref_of}
use Rattle.tree_laws.specs.State.{State, Sound, table_by, grown, raised, reached, Made, Holds}
use Rattle.grid.proofs.PathLaws.{nat_abs-half_of}
use Rattle.layout.proofs.ChildLaws.{child_ref}
use Rattle.lists.proofs.GatherLaws.{and_left, and_right}
use Rattle.lists.proofs.BoolLaws.{not-true}
use Rattle.tree_laws.proofs.AddLaws.{ref_pos, ref_append}
use Rattle.table_laws.specs.Model.{link_in}
use Rattle.table_laws.proofs.Cites.{made_holds, ref_below, not_linked, above_root, above_same, above_call, over_holds, near_no_parent, near_no_child, near-linked, link_bounds, parent_word_lem}
use Rattle.table_laws.proofs.LastLaws.{near_last}
use Rattle.table_laws.proofs.ChildLaws.{mem_of_ref, length_table}
use Rattle.table_laws.proofs.LookupLaws.{Raised, raised_is, root_parent}
use Rattle.table_laws.proofs.StateLaws.{sound_reached}
use Rattle.table_laws.proofs.CellLaws.{far, read_neighbour, read_child}
use Rattle.table_laws.proofs.StoreLaws.{child_word_small}
use Rattle.table_laws.specs.Climb.{goes_up, Apart, Climbed, Descends}

-- a link keeps the length
length_link : (t : List ℕ) (u v d s : ℕ) → length (link_in t u v d s) ≡ length t
length_link t u v d s =
    let b = (d + 2) % 4 in
    let t₁ = set t (word_at u (neighbour_word d)) (v + 1) in
    let t₂ = set t₁ (word_at u (link_word d)) s in
    let t₃ = set t₂ (word_at v (neighbour_word b)) (u + 1) in
    length-set t₃ (word_at v (link_word b)) s ∙ length-set t₂ (word_at v (neighbour_word b)) (u + 1) ∙ length-set t₁ (word_at u (link_word d)) s ∙ length-set t (word_at u (neighbour_word d)) (v + 1)

-- a node's record lies in the table
pub node_bound : (t : List ℕ) (n u : ℕ) (c : Corner) (S : State) → Holds t n S → ref_of S.nodes c ≡ suc u → HasRecord t u
node_bound t n u c S h r = omega (arith, ref_below S.nodes c u r, h.count, h.room)

-- the coordinates of a node above are not greater
pub up_small : (i : ℕ) (c : Corner) → (nat_abs (up_by i c).0 ≤ nat_abs c.0) × (nat_abs (up_by i c).1 ≤ nat_abs c.1)
up_small zero c = (omega arith, omega arith)
up_small (suc i) c =
    let h = up_small i c in
    (omega (arith, h.0, nat_abs-half_of (up_by i c).0), omega (arith, h.1, nat_abs-half_of (up_by i c).1))

-- ---- one level up
pub goes_apart : (t : List ℕ) (n u : ℕ) (c : Corner) (d s : ℕ) (S : State) → Holds t n S → ref_of S.nodes c ≡ suc u → d < 4 → 0 < s → goes_up t u c d ≡ true → Apart S d c
goes_apart t n u c d s S h r small pos g =
    let w = get_or t (word_at u (neighbour_word d)) 0 in
    let a = eqb w 0 in
    let b = not (is_root (stepped d c)) in
    let e = not (is_root c) in
    let f = not (same (parent_of c) (parent_of (stepped d c))) in
    let k = and_right a (b && (e && f)) g in
    let l = and_right b (e && f) k in
    record {
      none = not_linked t n u c d s S h r small pos (sym (eqb-true w 0 (and_left a (b && (e && f)) g)));
      inner = not-true (is_root c) (and_left e f l);
      outer = not-true (is_root (stepped d c)) (and_left b (e && f) k);
      parents = not-true (same (parent_of c) (parent_of (stepped d c))) (and_right e f l);
    }

pub climb_next : (S : State) (d : ℕ) (c : Corner) (level : ℕ) (a : Corner) → Climbed S d c level a → Apart S d a → Climbed S d c (suc level) (parent_of a)
climb_next S d c level a k p = record {
  above = ap parent_of k.above;
  below = λ j h. elim (ℕ_discrete j level) [ yes e ↦ subst (λ x. Apart S d x) (k.above ∙ ap (λ (i : ℕ). up_by i c) (sym e)) p | no e ↦ k.below j (omega arith) ];
}

-- the parent's number is read, and is that of the parent
pub up_reads : (t : List ℕ) (n u : ℕ) (c : Corner) (S : State) → Holds t n S → ref_of S.nodes c ≡ suc u → is_root c ≡ false → (w : ℕ) → w ≡ get_or t (word_at u parent_word) 0 → (0 < w) × (ref_of S.nodes (parent_of c) ≡ suc (w - 1))
up_reads t n u c S h r g w e =
    let q = parent_word_lem t n u c S h r g in
    let m = ref_pos S.nodes (parent_of c) (h.sound.good.closed c (mem_of_ref S.nodes c u r) g) in
    (omega (arith, e, q, m), omega (arith, e, q, m))

-- ---- the way down: S is the state before the lookup
module _ (words : ℕ) (S : State) (sound : Sound S) (n : ℕ) (count : n ≡ length S.nodes) (room : width * n ≤ words) (d s : ℕ) (small : d < 4) (pos : 0 < s) where
  abbrev Reached : Corner → List ℕ → ℕ → ℕ → Type 0
  Reached b t a m = Made words (reached S s b (stepped d b)) (stepped d b) t a m

  same-words : length (table_by words S) ≡ words
  same-words = length_table words S (omega (arith, count))

  held : Holds (table_by words S) n S
  held = record { sound = sound; table = ap (λ (w : ℕ). table_by w S) (sym same-words); count = count; room = omega (arith, same-words) }

  -- to the node b; t₁ is the table after the lookup of the parents
  module _ (b : Corner) (p : Apart S d b) (m : Memᴰ b S.nodes) where
    number_is : ref_of S.nodes b ≡ suc (ref_of S.nodes b - 1)
    number_is = omega (arith, ref_pos S.nodes b m)

    unlinked : 0 ≡ get_or (table_by words S) (word_at (ref_of S.nodes b - 1) (neighbour_word d)) 0
    unlinked = sym (read_neighbour words S b (ref_of S.nodes b - 1) number_is d small ∙ ap (λ (k : ℕ). far k (ref_of S.nodes (stepped d b))) p.none)

    -- what the lookup of the parents makes of the table, as the parent of b's neighbour
    raises : (t₁ : List ℕ) (a₁ n₁ : ℕ) → Reached (parent_of b) t₁ a₁ n₁ → Made (length (table_by words S)) (raised S s b (stepped d b)) (parent_of (stepped d b)) t₁ a₁ n₁
    raises t₁ a₁ n₁ made =
        above_call (table_by words S) n (ref_of S.nodes b - 1) b d s S held number_is small pos p.outer p.inner p.parents t₁ a₁ n₁
        (subst (λ (w : ℕ). Made w (reached S s (parent_of b) (stepped d (parent_of b))) (stepped d (parent_of b)) t₁ a₁ n₁) (sym same-words) made)

    -- a table that is too small for the parents is too small here
    none_above : (t₁ : List ℕ) (a₁ n₁ : ℕ) → a₁ ≡ 0 → Reached (parent_of b) t₁ a₁ n₁ → Reached b t₁ a₁ n₁
    none_above t₁ a₁ n₁ z made =
        subst (λ (w : ℕ). Made w (reached S s b (stepped d b)) (stepped d b) t₁ a₁ n₁) same-words
        (near_no_parent (table_by words S) n (ref_of S.nodes b - 1) b d s S held number_is small pos unlinked p.outer t₁ a₁ n₁ (raises t₁ a₁ n₁ made) z)

    module _ (t₁ : List ℕ) (a₁ n₁ : ℕ) (made : Reached (parent_of b) t₁ a₁ n₁) (some : a₁ ≡ 0 → ⊥) where
      down_holds : Holds t₁ n₁ (raised S s b (stepped d b)) × (ref_of (raised S s b (stepped d b)).nodes (parent_of (stepped d b)) ≡ suc (a₁ - 1)) × (length t₁ ≡ words)
      down_holds =
          let k = over_holds (table_by words S) n (ref_of S.nodes b - 1) b d s S held number_is small pos p.outer t₁ a₁ n₁ (raises t₁ a₁ n₁ made) some in
          (k.0, k.1, k.2 ∙ same-words)

      up : Raised S (raised S s b (stepped d b)) (stepped d b)
      up = raised_is S sound s b (stepped d b) m (root_parent words S sound s d pos small (omega (arith, count)) b m)

      kept : (x : Corner) → Memᴰ x S.nodes → ref_of (raised S s b (stepped d b)).nodes x ≡ ref_of S.nodes x
      kept x k = ap (λ (l : List Corner). ref_of l x) up.more ∙ ref_append S.nodes up.rest x k

      -- the node b is read in the record of its parent
      down_reads : (u : ℕ) → ref_of S.nodes (parent_of b) ≡ suc u → get_or t₁ (word_at u (child_word b)) 0 ≡ ref_of S.nodes b
      down_reads u r =
          let X : State = raised S s b (stepped d b) in
          let w = child_word_small b in
          ap (λ (l : List ℕ). get_or l (word_at u (child_word b)) 0) down_holds.0.table
          ∙ read_child (length t₁) X (parent_of b) u (kept (parent_of b) (sound.good.closed b m p.inner) ∙ r) (child_word b) w.0 w.1
          ∙ child_ref X.nodes b p.inner
          ∙ kept b m

      module _ (t₂ : List ℕ) (a₂ n₂ : ℕ) (grew : Made words (grown (raised S s b (stepped d b)) (stepped d b) s) (stepped d b) t₂ a₂ n₂) where
        grew₀ : Made (length (table_by words S)) (grown (raised S s b (stepped d b)) (stepped d b) s) (stepped d b) t₂ a₂ n₂
        grew₀ = subst (λ (w : ℕ). Made w (grown (raised S s b (stepped d b)) (stepped d b) s) (stepped d b) t₂ a₂ n₂) (sym same-words) grew

        -- the table is too small for the child; the child linked
        down_none : a₂ ≡ 0 → Reached b t₂ a₂ n₂
        down_none z =
            subst (λ (w : ℕ). Made w (reached S s b (stepped d b)) (stepped d b) t₂ a₂ n₂) same-words
            (near_no_child (table_by words S) n (ref_of S.nodes b - 1) b d s S held number_is small pos unlinked p.outer t₂ a₂ n₂ grew₀ z)

        down_linked : (a₂ ≡ 0 → ⊥) → Reached b (link_in t₂ (ref_of S.nodes b - 1) (a₂ - 1) d s) a₂ n₂
        down_linked f =
            subst (λ (w : ℕ). Made w (reached S s b (stepped d b)) (stepped d b) (link_in t₂ (ref_of S.nodes b - 1) (a₂ - 1) d s) a₂ n₂) same-words
            (near-linked (table_by words S) n (ref_of S.nodes b - 1) b d s S held number_is small pos unlinked p.outer t₂ a₂ n₂ grew₀ f)

        down_bounds : (a₂ ≡ 0 → ⊥) → HasRecord t₂ (ref_of S.nodes b - 1) × HasRecord t₂ (a₂ - 1) × (length t₂ ≡ words)
        down_bounds f =
            let k = link_bounds (table_by words S) n (ref_of S.nodes b - 1) b d s S held number_is small pos t₂ a₂ n₂ grew₀ f in
            (k.0, k.1, k.2 ∙ same-words)

  -- from a level down to c
  module _ (c : Corner) (start : Memᴰ c S.nodes) where
    up_mem : (level : ℕ) → ((j : ℕ) → j < level → Apart S d (up_by j c)) → Memᴰ (up_by level c) S.nodes
    up_mem zero f = start
    up_mem (suc l) f = sound.good.closed (up_by l c) (up_mem l (λ j h. f j (omega arith))) (f l (omega arith)).inner

    -- a table that is too small at a level is too small at all those below
    sunk : (level : ℕ) → ((j : ℕ) → j < level → Apart S d (up_by j c)) → (t : List ℕ) (a m : ℕ) → a ≡ 0 → Reached (up_by level c) t a m → Reached c t a m
    sunk zero f t a m z made = made
    sunk (suc l) f t a m z made =
        let g : (j : ℕ) → j < l → Apart S d (up_by j c) = λ j h. f j (omega arith) in
        sunk l g t a m z (none_above (up_by l c) (f l (omega arith)) (up_mem l g) t a m z made)

-- ---- a round of the way down, to the node b one level below
-- a level on the way down that is not the last: the node u above it, of the walk, and its neighbour v - 1
pub record Level (t : List ℕ) (n u v : ℕ) (c : Corner) (d s left : ℕ) (S : State) : Type 0 where
  pub down : Descends t n u v c d s left S
  pub more : 0 < left
  pub small : d < 4
  pub pos : 0 < s
  pub some : 0 < v

module _ {t : List ℕ} {n u v : ℕ} {c : Corner} {d s left : ℕ} {S : State} (here : Level t n u v c d s left S) where
  small : d < 4
  small = here.small

  pos : 0 < s
  pos = here.pos

  D : Descends t n u v c d s (suc (left - 1)) S
  D = let e : left ≡ suc (left - 1) = omega (arith, here.more) in subst (λ (l : ℕ). Descends t n u v c d s l S) e here.down

  abbrev b : Corner
  b = up_by (left - 1) c

  ne : v ≡ 0 → ⊥
  ne z = omega (arith, here.some)

  apart : Apart S d b
  apart = D.below (left - 1) (omega (arith, here.more))

  below : (j : ℕ) → j < left - 1 → Apart S d (up_by j c)
  below j h = D.below j (omega (arith, h))

  mem : Memᴰ b S.nodes
  mem = up_mem (length t) S D.sound n D.count D.room d s small pos c D.start (left - 1) below

  pub step_held : Holds t (max n v) (raised S s b (stepped d b)) × (ref_of (raised S s b (stepped d b)).nodes (parent_of (stepped d b)) ≡ suc (v - 1)) × (length t ≡ length t)
  step_held = down_holds (length t) S D.sound n D.count D.room d s small pos b apart mem t v (max n v) D.made ne

  pub step_word : word_at u (child_word b) < length t
  step_word =
      let r = kept (length t) S D.sound n D.count D.room d s small pos b apart mem t v (max n v) D.made ne (parent_of b) (D.sound.good.closed b mem apart.inner) ∙ D.here in
      omega (arith, node_bound t (max n v) u (parent_of b) (raised S s b (stepped d b)) step_held.0 r, (child_word_small b).1)

  -- the number that is read there is that of the node below
  pub step_number : (w : ℕ) → w ≡ get_or t (word_at u (child_word b)) 0 → (0 < w) × (ref_of S.nodes b ≡ suc (w - 1))
  step_number w e =
      let q = down_reads (length t) S D.sound n D.count D.room d s small pos b apart mem t v (max n v) D.made ne u D.here in
      let m = ref_pos S.nodes b mem in
      (omega (arith, e, q, m), omega (arith, e, q, m))

  -- what `child` ensures, at this level
  pub step_grew : (n' place : ℕ) → n' ≡ max n v → place ≡ child_word (stepped d b) → (t₂ : List ℕ) (a₂ : ℕ)
      → ((T : State) (e : Corner) → Holds t n' T → is_root e ≡ false → ref_of T.nodes (parent_of e) ≡ suc (v - 1) → place ≡ child_word e → Made (length t) (grown T e s) e t₂ a₂ (max n' a₂))
      → Made (length t) (grown (raised S s b (stepped d b)) (stepped d b) s) (stepped d b) t₂ a₂ (max (max n v) a₂)
  step_grew n' place e q t₂ a₂ f =
      let T = raised S s b (stepped d b) in
      let z = stepped d b in
      subst (λ (x : ℕ). Made (length t) (grown T z s) z t₂ a₂ (max x a₂)) e (f T z (subst (λ (x : ℕ). Holds t x T) (sym e) step_held.0) apart.outer step_held.1 q)

  module _ (t₂ : List ℕ) (a₂ : ℕ) (grew : Made (length t) (grown (raised S s b (stepped d b)) (stepped d b) s) (stepped d b) t₂ a₂ (max (max n v) a₂)) where
    last : {t' : List ℕ} → Made (length t) (reached S s b (stepped d b)) (stepped d b) t' a₂ (max (max n v) a₂) → Made (length t) (reached S s b (stepped d b)) (stepped d b) t' a₂ (max n a₂)
    last {t'} m =
        near_last (table_by (length t) S) n S (held (length t) S D.sound n D.count D.room d s small pos) (length t) s t' a₂ (max (max n v) a₂) b (stepped d b) m

    pub step_none : a₂ ≡ 0 → Made (length t) (reached S s c (stepped d c)) (stepped d c) t₂ a₂ (max n a₂)
    step_none z =
        sunk (length t) S D.sound n D.count D.room d s small pos c D.start (left - 1) below t₂ a₂ (max n a₂) z
        (last (down_none (length t) S D.sound n D.count D.room d s small pos b apart mem t v (max n v) D.made ne t₂ a₂ (max (max n v) a₂) grew z))

    pub step_bounds : (a₂ ≡ 0 → ⊥) → HasRecord t₂ (ref_of S.nodes b - 1) × HasRecord t₂ (a₂ - 1) × (length t₂ ≡ length t)
    step_bounds = down_bounds (length t) S D.sound n D.count D.room d s small pos b apart mem t v (max n v) D.made ne t₂ a₂ (max (max n v) a₂) grew

    pub step_next : (a₂ ≡ 0 → ⊥) → (at : ℕ) → ref_of S.nodes b ≡ suc at → (t₃ : List ℕ) → t₃ ≡ link_in t₂ at (a₂ - 1) d s → Descends t₃ n at a₂ c d s (left - 1) S × (length t₃ ≡ length t)
    step_next f at r t₃ e =
        let x : at ≡ ref_of S.nodes b - 1 = omega (arith, r) in
        let y : t₃ ≡ link_in t₂ (ref_of S.nodes b - 1) (a₂ - 1) d s = e ∙ ap (λ (k : ℕ). link_in t₂ k (a₂ - 1) d s) x in
        let q : length t₃ ≡ length t = ap length e ∙ length_link t₂ at (a₂ - 1) d s ∙ (step_bounds f).2 in
        let m = last (down_linked (length t) S D.sound n D.count D.room d s small pos b apart mem t v (max n v) D.made ne t₂ a₂ (max (max n v) a₂) grew f) in (
          record {
            sound = D.sound;
            count = D.count;
            room = omega (arith, D.room, q);
            start = D.start;
            below = below;
            here = r;
            made = subst (λ (w : ℕ). Made w (reached S s b (stepped d b)) (stepped d b) t₃ a₂ (max n a₂)) (sym q) (subst (λ (x : List ℕ). Made (length t) (reached S s b (stepped d b)) (stepped d b) x a₂ (max n a₂)) (sym y) m);
          },
          q,
        )

-- ---- the level where the climb stops: the neighbour is not linked and is not the root
module _ (t : List ℕ) (n u : ℕ) (c : Corner) (d s : ℕ) (S : State) (h : Holds t n S) (r : ref_of S.nodes c ≡ suc u) (small : d < 4) (pos : 0 < s) (stop : goes_up t u c d ≡ false) (none : 0 ≡ get_or t (word_at u (neighbour_word d)) 0) (deep : is_root (stepped d c) ≡ false)
    (over : ℕ) (o : over ≡ cond (is_root c) (u + 1) (get_or t (word_at u parent_word) 0)) where
  siblings : is_root c ≡ false → same (parent_of c) (parent_of (stepped d c)) ≡ true
  siblings g = go (same (parent_of c) (parent_of (stepped d c))) refl
    where
      go : (b : Bool) → same (parent_of c) (parent_of (stepped d c)) ≡ b → same (parent_of c) (parent_of (stepped d c)) ≡ true
      go true e = e
      go false e = absurd (true≢false (sym (all (eqb (get_or t (word_at u (neighbour_word d)) 0) 0) (is_root (stepped d c)) (is_root c) (same (parent_of c) (parent_of (stepped d c))) (eq-eqb (get_or t (word_at u (neighbour_word d)) 0) 0 (sym none)) deep g e) ∙ stop))
        where
          all : (w x y z : Bool) → w ≡ true → x ≡ false → y ≡ false → z ≡ false → (w && (not x && (not y && not z))) ≡ true
          all w x y z p q i j = rw (p, q, i, j)

  pub top_raises : (0 < over) × Made (length t) (raised S s c (stepped d c)) (parent_of (stepped d c)) t over n
  top_raises = go (is_root c) refl
    where
      go : (b : Bool) → is_root c ≡ b → (0 < over) × Made (length t) (raised S s c (stepped d c)) (parent_of (stepped d c)) t over n
      go true e =
          let q : over ≡ u + 1 = o ∙ rw e in
          (omega (arith, q), subst (λ (x : ℕ). Made (length t) (raised S s c (stepped d c)) (parent_of (stepped d c)) t x n) (sym q) (above_root t n u c d s S h r small pos deep e))
      go false e =
          let q : over ≡ get_or t (word_at u parent_word) 0 = o ∙ rw e in
          ((up_reads t n u c S h r e over q).0, above_same t n u c d s S h r small pos deep e (siblings e) over q)

  pub top_held : Holds t n (raised S s c (stepped d c)) × (ref_of (raised S s c (stepped d c)).nodes (parent_of (stepped d c)) ≡ suc (over - 1)) × (length t ≡ length t)
  top_held = over_holds t n u c d s S h r small pos deep t over n top_raises.1 (λ z. omega (arith, top_raises.0))

  module _ (t₂ : List ℕ) (a₂ : ℕ) (place : ℕ) (q : place ≡ child_word (stepped d c))
      (f : (T : State) (e : Corner) → Holds t n T → is_root e ≡ false → ref_of T.nodes (parent_of e) ≡ suc (over - 1) → place ≡ child_word e → Made (length t) (grown T e s) e t₂ a₂ (max n a₂)) where
    top_grew : Made (length t) (grown (raised S s c (stepped d c)) (stepped d c) s) (stepped d c) t₂ a₂ (max n a₂)
    top_grew = f (raised S s c (stepped d c)) (stepped d c) top_held.0 deep top_held.1 q

    pub top-none : a₂ ≡ 0 → Made (length t) (reached S s c (stepped d c)) (stepped d c) t₂ a₂ (max n a₂)
    top-none z = near_no_child t n u c d s S h r small pos none deep t₂ a₂ (max n a₂) top_grew z

    pub top-linked : (a₂ ≡ 0 → ⊥) → Made (length t) (reached S s c (stepped d c)) (stepped d c) (link_in t₂ u (a₂ - 1) d s) a₂ (max n a₂)
    top-linked g = near-linked t n u c d s S h r small pos none deep t₂ a₂ (max n a₂) top_grew g

    pub top_bounds : (a₂ ≡ 0 → ⊥) → HasRecord t₂ u × HasRecord t₂ (a₂ - 1) × (length t₂ ≡ length t)
    top_bounds g = link_bounds t n u c d s S h r small pos t₂ a₂ (max n a₂) top_grew g

-- ---- the climb, the top and the way down put together
module _ (t : List ℕ) (n u : ℕ) (c : Corner) (d s : ℕ) (S : State) (h : Holds t n S) (r : ref_of S.nodes c ≡ suc u) (small : d < 4) (pos : 0 < s) (level node : ℕ) (a : Corner) (k : Climbed S d c level a) (i : ref_of S.nodes a ≡ suc node)
    (t₁ : List ℕ) (v : ℕ) (made : Made (length t) (reached S s a (stepped d a)) (stepped d a) t₁ v (max n v)) where
  at_level : Made (length t) (reached S s (up_by level c) (stepped d (up_by level c))) (stepped d (up_by level c)) t₁ v (max n v)
  at_level = subst (λ (x : Corner). Made (length t) (reached S s x (stepped d x)) (stepped d x) t₁ v (max n v)) k.above made

  pub level-none : v ≡ 0 → Made (length t) (reached S s c (stepped d c)) (stepped d c) t₁ v (max n v)
  level-none z = sunk (length t) S h.sound n h.count h.room d s small pos c (mem_of_ref S.nodes c u r) level k.below t₁ v (max n v) z at_level

  pub level_descends : (v ≡ 0 → ⊥) → Descends t₁ n node v c d s level S × (length t₁ ≡ length t)
  level_descends f =
      let q : length t₁ ≡ length t = (made_holds (length t) (reached S s a (stepped d a)) (sound_reached S h.sound s (stepped d a) a (mem_of_ref S.nodes a node i)) (stepped d a) t₁ v (max n v) made f).2 in (
        record {
          sound = h.sound;
          count = h.count;
          room = omega (arith, h.room, q);
          start = mem_of_ref S.nodes c u r;
          below = k.below;
          here = ap (ref_of S.nodes) (sym k.above) ∙ i;
          made = subst (λ (w : ℕ). Made w (reached S s (up_by level c) (stepped d (up_by level c))) (stepped d (up_by level c)) t₁ v (max n v)) (sym q) at_level;
        },
        q,
      )
