-- The way up from a start to the root, and the way down on which its ancestors are planted.
-- Assumes nothing.
use mathlib.Core.Bool.{true, false}
use mathlib.Core.List.{List, []}
use mathlib.Core.Path.{◌≡◌, refl, ap, sym, subst, ◌∙◌}
use Prim.Native.Nat.{ℕ, suc, ◌+◌, ◌*◌, ◌<◌, ◌≤◌, max}
use native.Mathlib.Decide.{ℕ_discrete, dec_lt}
use native.Mathlib.Omega.{arith}
use lib.ListN.{length, get_or, replicate}
use Rattle.grid.specs.declared.Corner.{Corner}
use Rattle.grid.specs.Grid.{corners_from}
use Rattle.grid.specs.Tree.{root, parent_of, is_root, size_of, up_by, path_of, child_word}
use Rattle.layout.specs.Table.{width, HasRecord, word_at, visits_word}
use Rattle.tree.specs.Nodes.{nodes_of, ref_of}
use Rattle.tree_laws.specs.State.{State, grown, Holds, Made, table_by, planted_of}
use Rattle.grid.proofs.AncestorLaws.{path_of-first}
use Rattle.grid.proofs.CornerLaws.{same_sound}
use Rattle.grid.proofs.PathLaws.{size_of-parent_of, path_of-root}
use Rattle.tree.proofs.StartLaws.{nodes_start}
use Rattle.table_laws.specs.Model.{visit_in}
use Rattle.table_laws.proofs.PlantLaws.{planted_root, planted_next, planted_sound, planted_visit, length_path, path_up, ref_path}
use Rattle.table_laws.proofs.CellLaws.{alike_table, read_visits}
use Rattle.table_laws.proofs.TakeLaws.{visit_made}
use Rattle.walk_plant.specs.Plants.{Deep, Grown, Planted}

-- ---- up: n levels from c, none of those passed was the root
pub record Climbed (c at : Corner) (n : ℕ) : Type 0 where
  pub here : at ≡ up_by n c
  pub below : (j : ℕ) → j < n → is_root (up_by j c) ≡ false
  pub few : n + size_of at ≤ size_of c

pub climb_start : (c : Corner) → Climbed c c 0
climb_start c = record { here = refl; below = λ j h. absurd (omega arith); few = omega arith }

pub climb_next : (c at at' : Corner) (n : ℕ) → Climbed c at n → is_root at ≡ false → at' ≡ parent_of at → Climbed c at' (n + 1)
climb_next c at at' n k e q =
    let s : suc n ≡ n + 1 = omega arith in
    record {
      here = q ∙ ap parent_of k.here ∙ ap (λ (m : ℕ). up_by m c) s;
      below = λ j h. elim (ℕ_discrete j n) [ yes p ↦ ap (λ (m : ℕ). is_root (up_by m c)) p ∙ ap is_root (sym k.here) ∙ e | no p ↦ k.below j (omega arith) ];
      few = subst (λ (x : Corner). (n + 1) + size_of x ≤ size_of c) (sym q) (omega (arith, k.few, size_of-parent_of at e));
    }

pub climb_end : (c at : Corner) (n : ℕ) → Climbed c at n → is_root at ≡ true → Deep c n
climb_end c at n k e = record { top = ap is_root (sym k.here) ∙ e; below = k.below; few = omega (arith, k.few) }

-- ---- down: the path to the left-th parent of c stands in the table, and nothing else; last is its last node
pub record Growing (words : ℕ) (c : Corner) (t : List ℕ) (left last : ℕ) : Type 0 where
  pub table : t ≡ table_by words (planted_of (up_by left c))
  pub count : last + 1 ≡ length (path_of (up_by left c))
  pub room : width * (last + 1) ≤ words

pub growing_start : (words : ℕ) (c : Corner) (t : List ℕ) (n : ℕ) → Deep c n → t ≡ replicate words 0 → width ≤ words → Growing words c t n 0
growing_start words c t n d e h =
    let p : up_by n c ≡ root = same_sound (up_by n c) root d.top in
    record {
      table = e ∙ planted_root words h ∙ ap (λ (x : Corner). table_by words (planted_of x)) (sym p);
      count = sym (ap length (path_of-root (up_by n c) d.top));
      room = omega arith;
    }

module _ (words : ℕ) (c : Corner) (t : List ℕ) (left last : ℕ) (k : Growing words c t (left + 1) last) where
  -- the next node down
  abbrev e : Corner
  e = up_by left c

  up : up_by (left + 1) c ≡ parent_of e
  up = let s : left + 1 ≡ suc left = omega arith in ap (λ (m : ℕ). up_by m c) s

  pub growing_holds : length t ≡ words → Holds t (last + 1) (planted_of (up_by (left + 1) c))
  growing_holds l = record {
    sound = planted_sound (up_by (left + 1) c);
    table = k.table ∙ ap (λ (n : ℕ). table_by n (planted_of (up_by (left + 1) c))) (sym l);
    count = k.count;
    room = omega (arith, k.room);
  }

  growing_ref : ref_of (path_of (up_by (left + 1) c)) (parent_of e) ≡ suc last
  growing_ref =
      let s : last + 1 ≡ suc last = omega arith in
      ap (ref_of (path_of (up_by (left + 1) c))) (sym up) ∙ ref_path (up_by (left + 1) c) ∙ sym k.count ∙ s

  -- what `child` makes of it
  module _ (l : length t ≡ words) (deep : is_root e ≡ false) (place r : ℕ) (p : place ≡ child_word e) (t' : List ℕ)
      (child : (S : State) (x : Corner) → Holds t (last + 1) S → is_root x ≡ false → ref_of S.nodes (parent_of x) ≡ suc last → place ≡ child_word x → Made (length t) (grown S x 0) x t' r (max (last + 1) r)) where
    abbrev T : State
    T = grown (planted_of (up_by (left + 1) c)) e 0

    made : Made words T e t' r (max (last + 1) r)
    made = subst (λ (n : ℕ). Made n T e t' r (max (last + 1) r)) l (child (planted_of (up_by (left + 1) c)) e (growing_holds l) deep growing_ref p)

    alike : T ≡ grown (planted_of (parent_of e)) e 0
    alike = ap (λ (x : Corner). grown (planted_of x) e 0) up

    nodes_are_lem : T.nodes ≡ path_of e
    nodes_are_lem = ap (λ (S : State). S.nodes) alike ∙ (planted_next e deep).nodes

    size : length T.nodes ≡ length (path_of e)
    size = ap length nodes_are_lem

    -- a table that is too small for a part of the path is too small for the whole
    pub growing_full : r ≡ 0 → words < width * length (path_of c)
    growing_full z = elim (dec_lt words (width * length T.nodes)) [
      | yes h ↦ omega (arith, size, path_up c left)
      | no h ↦ absurd (omega (arith, (made.fits (omega arith)).1, ap (λ (l : List Corner). ref_of l e) nodes_are_lem, ref_path e, length_path e deep))
    ]

    pub growing_next : (v : ℕ) → r ≡ v + 1 → Growing words c t' left v
    growing_next v f = elim (dec_lt words (width * length T.nodes)) [
      | yes h ↦ absurd (omega (arith, f, made.full h))
      | no h ↦
          let g = made.fits (omega arith) in
          let n : r ≡ length (path_of e) = g.1 ∙ ap (λ (l : List Corner). ref_of l e) nodes_are_lem ∙ ref_path e in
          record {
            table = g.0 ∙ ap (table_by words) alike ∙ alike_table words (grown (planted_of (parent_of e)) e 0) (planted_of e) (planted_next e deep);
            count = sym f ∙ n;
            room = omega (arith, n, size);
          }
    ]

-- all of it
pub growing_end : (words : ℕ) (c : Corner) (t : List ℕ) (left last : ℕ) → Growing words c t left last → left ≡ 0 → Grown words c t (last + 1)
growing_end words c t left last k z =
    let p : up_by left c ≡ c = ap (λ (n : ℕ). up_by n c) z in
    let n : last + 1 ≡ length (path_of c) = k.count ∙ ap (λ (x : Corner). length (path_of x)) p in
    record { fits = λ h. (k.table ∙ ap (λ (x : Corner). table_by words (planted_of x)) p, n); full = λ h. absurd (omega (arith, n, k.room)) }

pub growing_none : (words : ℕ) (c : Corner) (t : List ℕ) → words < width * length (path_of c) → Grown words c t 0
growing_none words c t h = record { fits = λ g. absurd (omega arith); full = λ g. refl }

-- ---- the first visit
nodes : (c : Corner) → length (nodes_of (corners_from c [])) ≡ length (path_of c)
nodes c = ap length (nodes_start c)

pub planted_none : (words : ℕ) (c : Corner) (t : List ℕ) → Grown words c t 0 → (t' : List ℕ) → t' ≡ replicate words 0 → Planted words c t' 0
planted_none words c t k t' e = record {
  fits = λ h. absurd (omega (arith, (k.fits (omega (arith, nodes c))).1, path_some));
  full = λ h. (refl, e);
}
  where
    path_some : 0 < length (path_of c)
    path_some = let h = path_of-first c in omega (arith, ap length h.1)

module _ (words : ℕ) (c : Corner) (t : List ℕ) (u : ℕ) (k : Grown words c t (u + 1)) where
  grown_fits : width * length (path_of c) ≤ words
  grown_fits = elim (dec_lt words (width * length (path_of c))) [ yes h ↦ absurd (omega (arith, k.full h)) | no h ↦ omega arith ]

  here : ref_of (path_of c) c ≡ suc u
  here = let s : u + 1 ≡ suc u = omega arith in ref_path c ∙ sym (k.fits grown_fits).1 ∙ s

  pub planted_at : (t' : List ℕ) → t' ≡ visit_in t u 0 → Planted words c t' (u + 1)
  planted_at t' q =
      let g = k.fits grown_fits in
      record {
        fits = λ h. (
          q ∙ ap (λ (l : List ℕ). visit_in l u 0) g.0 ∙ visit_made words (planted_of c) (planted_sound c) c 0 u here ∙ planted_visit words c,
          g.1 ∙ sym (nodes c),
          g.1 ∙ sym (ref_path c) ∙ ap (λ (l : List Corner). ref_of l c) (sym (nodes_start c)),
        );
        full = λ h. absurd (omega (arith, nodes c, grown_fits));
      }

  -- what the visit asks of the table
  pub grown_visits : length t ≡ words → HasRecord t u × (get_or t (word_at u visits_word) 0 ≡ 0)
  grown_visits l =
      let g = k.fits grown_fits in
      (omega (arith, grown_fits, g.1), ap (λ (x : List ℕ). get_or x (word_at u visits_word) 0) g.0 ∙ read_visits words (planted_of c) c u here)
