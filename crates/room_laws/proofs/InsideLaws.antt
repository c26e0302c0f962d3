-- A panel is inside exactly if its surplus is odd; the panels inside a closed walk lie in its bounding box, so any list of them has as many as
-- the box; and if every surplus is 0 or s the sum over the panels is s times the number inside.
-- Assumes nothing.
use mathlib.Core.Bool.{Bool, true, false, ◌&&◌}
use mathlib.Core.List.{List, [], ◌∷◌, Memᴰ}
use mathlib.Core.Logic.{◌⊎◌, inl, inr, ⊎_elim}
use mathlib.Core.Path.{◌≡◌, refl, ap, ap₂, sym, ◌∙◌}
use Prim.Native.Nat.{ℕ, ◌%◌, ◌<◌}
use native.Mathlib.Omega.{arith}
use borrow.Author.Tests.{eqb-true, eq-eqb, ne_eqb}
use lib.IntN.{ℤ, pos, nat_abs, ◌+ℤ◌, ◌*ℤ◌, *ℤ-zero}
use lib.ListN.{length}
use lib.Signed.{◌≤ℤ◌, ◌<ℤ◌, lt_z}
use Rattle.int_laws.proofs.LinearLaws.{zarith, le_or_lt}
use Rattle.int_laws.proofs.RangeLaws.{lt_true}
use Rattle.int_laws.proofs.RingLaws.{*ℤ-add, ring, v, k, ◌⊗◌}
use Rattle.int_laws.proofs.NextLaws.{true_lt}
use Rattle.lists.specs.Lists.{tally, count, sum_of}
use Rattle.lists.proofs.CountLaws.{count_cong, count_some, count-mem, count_listed}
use Rattle.lists.proofs.GatherLaws.{and_left, and_right}
use Rattle.grid.specs.declared.{Corner.Corner, Panel.Panel}
use Rattle.grid.specs.Grid.{eq_z, end_from}
use Rattle.grid.proofs.CornerLaws.{eq_z_sound}
use Rattle.panels.specs.Edges.{Edge, edges_from, beside, surplus_of}
use Rattle.panels.specs.Box.{box_of, panels_in, panel_sum}
use Rattle.panels.specs.Inside.{edges_beside, Inside, inside, panels_inside, ListsInside}
use Rattle.area_laws.proofs.AreaLaws.{surplus_inside}
use Rattle.area_laws.proofs.BoxLaws.{HoldsFoot, box_holds, edges_held}
use Rattle.area_laws.proofs.EvenLaws.{row_even}
use Rattle.area_laws.proofs.PanelLaws.{HoldsPanel, panels_once, box_panels}

sum-count : {A : Type 0} (f : A → ℤ) (t : A → Bool) (s : ℤ) → ((x : A) → f x ≡ s *ℤ pos (tally (t x))) → (l : List A) → sum_of f l ≡ s *ℤ pos (count t l)
sum-count f t s h [] = sym (*ℤ-zero s)
sum-count f t s h (x ∷ l) = ap₂ ◌+ℤ◌ (h x) (sum-count f t s h l) ∙ sym (*ℤ-add s (pos (tally (t x))) (pos (count t l)))

module _ (c : Corner) (ds : List ℕ) where
  pub odd-inside : (s : ℤ) → nat_abs s % 2 ≡ 1 → (p : Panel) → surplus_of c ds p ≡ s → Inside c ds p
  odd-inside s o p e = (surplus_inside c ds p).1 (ap (λ (w : ℤ). nat_abs w % 2) e ∙ o)

  pub zero_outside : (p : Panel) → surplus_of c ds p ≡ pos 0 → Inside c ds p → ⊥
  zero_outside p e i = omega (arith, (surplus_inside c ds p).0 i, ap nat_abs e)

  surplus_share : (s : ℤ) → nat_abs s % 2 ≡ 1 → (p : Panel) → (surplus_of c ds p ≡ pos 0) ⊎ (surplus_of c ds p ≡ s) → surplus_of c ds p ≡ s *ℤ pos (tally (inside c ds p))
  surplus_share s o p (inl e) = e ∙ sym (ap (λ (b : Bool). s *ℤ pos (tally b)) (ne_eqb (edges_beside c ds p % 2) 1 (zero_outside p e)) ∙ *ℤ-zero s)
  surplus_share s o p (inr e) = e ∙ sym (ap (λ (b : Bool). s *ℤ pos (tally b)) (eq-eqb (edges_beside c ds p % 2) 1 (odd-inside s o p e)) ∙ ring 1 (s ∷ []) (v 0 ⊗ k (pos 1)) (v 0) tt)

  pub sum_inside : (s : ℤ) → nat_abs s % 2 ≡ 1 → ((p : Panel) → (surplus_of c ds p ≡ pos 0) ⊎ (surplus_of c ds p ≡ s)) → panel_sum c ds ≡ s *ℤ pos (panels_inside c ds)
  sum_inside s o h = sum-count (surplus_of c ds) (inside c ds) s (λ p. surplus_share s o p (h p)) (panels_in (box_of c ds))

  held : (e : Edge) → Memᴰ e (edges_from c ds) → HoldsFoot (box_of c ds) e.foot
  held = edges_held (box_of c ds) c ds (box_holds c ds)

  -- west of the box every edge of the row counts, and they are even in number
  west_even : end_from c ds ≡ c → (p : Panel) → p.0 <ℤ (box_of c ds).west → Inside c ds p → ⊥
  west_even h p l i = omega (arith, i, row_even p.1 c ds h, count_cong (λ e. beside p e.foot) (λ e. eq_z e.foot.1 p.1) (edges_from c ds) all)
    where
      all : (e : Edge) → Memᴰ e (edges_from c ds) → beside p e.foot ≡ eq_z e.foot.1 p.1
      all e m = ap (λ (b : Bool). eq_z e.foot.1 p.1 && b) (true_lt p.0 e.foot.0 (omega (zarith, l, (held e m).west))) ∙ and_true (eq_z e.foot.1 p.1)
        where
          and_true : (b : Bool) → (b && true) ≡ b
          and_true true = refl
          and_true false = refl

  pub inside_held : end_from c ds ≡ c → (p : Panel) → Inside c ds p → HoldsPanel (box_of c ds) p
  inside_held h p i =
      let f = count_some (λ e. beside p e.foot) (edges_from c ds) (omega (arith, i)) in
      let q = f.0.foot in
      let g = held f.0 f.1 in
      let y = eq_z_sound q.1 p.1 (and_left (eq_z q.1 p.1) (lt_z p.0 q.0) f.2) in
      let x : p.0 <ℤ q.0 = lt_true (and_right (eq_z q.1 p.1) (lt_z p.0 q.0) f.2) in
      let w : (box_of c ds).west ≤ℤ p.0 = ⊎_elim (λ l. l) (λ l. absurd (west_even h p l i)) (le_or_lt (box_of c ds).west p.0) in
      record { west = w; east = omega (zarith, x, g.east); south = omega (zarith, y, g.south); north = omega (zarith, y, g.north) }

  pub inside_found : end_from c ds ≡ c → (p : Panel) → Inside c ds p → Memᴰ p (panels_in (box_of c ds)) × (inside c ds p ≡ true)
  inside_found h p i = ((box_panels c ds p).1 (inside_held h p i), eq-eqb (edges_beside c ds p % 2) 1 i)

  -- a list of the panels inside has as many as the box has: there are no others
  pub inside_listed : end_from c ds ≡ c → (ps : List Panel) → ListsInside c ds ps → length ps ≡ panels_inside c ds
  inside_listed h ps l =
      count_listed (inside c ds) (panels_in (box_of c ds)) ps (panels_once (box_of c ds)) l.once
      (λ p m. inside_found h p ((l.panels p).0 m))
      (λ p m t. (l.panels p).1 (eqb-true (edges_beside c ds p % 2) 1 t))

  pub inside_some : end_from c ds ≡ c → (p : Panel) → Inside c ds p → 0 < panels_inside c ds
  inside_some h p i = let f = inside_found h p i in count-mem (inside c ds) (panels_in (box_of c ds)) p f.0 f.1
