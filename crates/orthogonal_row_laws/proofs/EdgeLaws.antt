-- The vertical edges in the row of a panel that is inside a walk, and the panels beside a vertical edge of a room.
-- Assumes nothing.
use mathlib.Core.Bool.{Bool, true, false, ◌&&◌, not}
use mathlib.Core.List.Memᴰ
use mathlib.Core.List.{List, [], ◌∷◌, ◌++◌, Memᴰ}
use mathlib.Core.Logic.{◌⊎◌, inl, inr, ⊎_elim}
use mathlib.Core.Path.{◌≡◌, refl, ap, sym, subst}
use Prim.Native.Nat.{ℕ, zero, suc, ◌+◌, ◌%◌, ◌<◌}
use native.Mathlib.Omega.{arith}
use lib.IntN.{ℤ, pred_ℤ}
use lib.Signed.{◌≤ℤ◌, ◌<ℤ◌, lt_z}
use Rattle.int_laws.proofs.RangeLaws.{lt_true, lt_false}
use Rattle.lists.specs.Lists.{tally, count}
use Rattle.lists.proofs.BoolLaws.{not-true}
use Rattle.lists.proofs.CountLaws.{count_some}
use Rattle.grid.specs.declared.{Corner.Corner, Panel.Panel}
use Rattle.grid.specs.Grid.{corner, panel_at, eq_z, stepped, end_from}
use Rattle.grid.proofs.CornerLaws.{eq_z_sound}
use Rattle.trace.specs.Verdict.{IsRoom}
use Rattle.panels.specs.Edges.{Edge, edge_of, edges_from, beside}
use Rattle.panels.specs.Inside.{Inside, edges_beside, left_of, right_of, EachStep}
use Rattle.area_laws.proofs.EvenLaws.{row_even}
use Rattle.room_laws.proofs.RoomLaws.{room-counts}

-- an edge of the walk in row b
pub record InRow (c : Corner) (ds : List ℕ) (b : ℤ) (e : Edge) : Type 0 where
  pub walked : Memᴰ e (edges_from c ds)
  pub row : e.foot.1 ≡ b

and_both : (a b : Bool) → (a && b) ≡ true → (a ≡ true) × (b ≡ true)
and_both true b e = (refl, e)
and_both false b e = let z : ◌≡◌ {A = ℕ} 0 1 = ap tally e in absurd (omega arith)

count_split : {A : Type 0} (f h : A → Bool) (l : List A) → count f l ≡ count (λ x. f x && h x) l + count (λ x. f x && not (h x)) l
count_split f h [] = refl
count_split f h (x ∷ l) = omega (arith, count_split f h l, one (f x) (h x))
  where
    one : (a b : Bool) → tally a ≡ tally (a && b) + tally (a && not b)
    one true true = refl
    one true false = refl
    one false b = refl

module _ (c : Corner) (ds : List ℕ) (p : Panel) (i : Inside c ds p) where
  -- an edge to the east of the panel
  pub edge_east : (e : Edge) × InRow c ds p.1 e × (p.0 <ℤ e.foot.0)
  edge_east =
      let w = count_some (λ e. beside p e.foot) (edges_from c ds) (odd_some (edges_beside c ds p) i) in
      let a = and_both (eq_z w.0.foot.1 p.1) (lt_z p.0 w.0.foot.0) w.2 in
      (w.0, record { walked = w.1; row = eq_z_sound w.0.foot.1 p.1 a.0 }, lt_true a.1)
    where
      odd_some : (n : ℕ) → n % 2 ≡ 1 → 0 < n
      odd_some zero h = absurd (omega (arith, h))
      odd_some (suc n) h = omega arith

  -- and one to the west
  pub edge_west : end_from c ds ≡ c → (e : Edge) × InRow c ds p.1 e × (e.foot.0 ≤ℤ p.0)
  edge_west closed =
      let es = edges_from c ds in
      let w = count_some (λ e. eq_z e.foot.1 p.1 && not (lt_z p.0 e.foot.0)) es (odd-rest (count (λ e. eq_z e.foot.1 p.1) es) (edges_beside c ds p) (count (λ e. eq_z e.foot.1 p.1 && not (lt_z p.0 e.foot.0)) es) (count_split (λ e. eq_z e.foot.1 p.1) (λ e. lt_z p.0 e.foot.0) es) (row_even p.1 c ds closed) i) in
      let a = and_both (eq_z w.0.foot.1 p.1) (not (lt_z p.0 w.0.foot.0)) w.2 in
      (w.0, record { walked = w.1; row = eq_z_sound w.0.foot.1 p.1 a.0 }, lt_false (not-true (lt_z p.0 w.0.foot.0) a.1))
    where
      odd-rest : (a b r : ℕ) → a ≡ b + r → a % 2 ≡ 0 → b % 2 ≡ 1 → 0 < r
      odd-rest a b zero e h k = absurd (omega (arith, e, h, k))
      odd-rest a b (suc r) e h k = omega arith

-- the panels beside a vertical edge
abbrev pub east_of_edge : Edge → Panel
east_of_edge e = panel_at e.foot

abbrev pub west_of_edge : Edge → Panel
west_of_edge e = panel_at (corner (pred_ℤ e.foot.0) e.foot.1)

pub mem-append : {A : Type 0} (x : A) (a b : List A) → Memᴰ x (a ++ b) → Memᴰ x a ⊎ Memᴰ x b
mem-append x [] b m = inr m
mem-append x (y ∷ a) b (Memᴰ.head e) = inl (Memᴰ.head e)
mem-append x (y ∷ a) b (Memᴰ.tail m) = ⊎_elim (λ k. inl (Memᴰ.tail k)) (λ k. inr k) (mem-append x a b m)

-- what holds of one side of each step holds beside each vertical edge, on one side or the other
module _ (P : Panel → Type 0) where
  lefts : (c : Corner) (ds : List ℕ) → EachStep (λ d q. P (left_of d q)) c ds → (e : Edge) → Memᴰ e (edges_from c ds) → P (east_of_edge e) ⊎ P (west_of_edge e)
  lefts c [] s e m = absurd (Memᴰ.not-nil m)
  lefts c (d ∷ ds) s e m = ⊎_elim (λ k. here d s.0 k) (λ k. lefts (stepped d c) ds s.1 e k) (mem-append e (edge_of d c) (edges_from (stepped d c) ds) m)
    where
      here : (d : ℕ) → P (left_of d c) → Memᴰ e (edge_of d c) → P (east_of_edge e) ⊎ P (west_of_edge e)
      here zero o k = absurd (Memᴰ.not-nil k)
      here (suc zero) o (Memᴰ.head f) = inr (subst (λ (x : Edge). P (west_of_edge x)) (sym f) o)
      here (suc zero) o (Memᴰ.tail k) = absurd (Memᴰ.not-nil k)
      here (suc (suc zero)) o k = absurd (Memᴰ.not-nil k)
      here (suc (suc (suc d))) o (Memᴰ.head f) = inl (subst (λ (x : Edge). P (east_of_edge x)) (sym f) o)
      here (suc (suc (suc d))) o (Memᴰ.tail k) = absurd (Memᴰ.not-nil k)

  rights : (c : Corner) (ds : List ℕ) → EachStep (λ d q. P (right_of d q)) c ds → (e : Edge) → Memᴰ e (edges_from c ds) → P (east_of_edge e) ⊎ P (west_of_edge e)
  rights c [] s e m = absurd (Memᴰ.not-nil m)
  rights c (d ∷ ds) s e m = ⊎_elim (λ k. here d s.0 k) (λ k. rights (stepped d c) ds s.1 e k) (mem-append e (edge_of d c) (edges_from (stepped d c) ds) m)
    where
      here : (d : ℕ) → P (right_of d c) → Memᴰ e (edge_of d c) → P (east_of_edge e) ⊎ P (west_of_edge e)
      here zero o k = absurd (Memᴰ.not-nil k)
      here (suc zero) o (Memᴰ.head f) = inl (subst (λ (x : Edge). P (east_of_edge x)) (sym f) o)
      here (suc zero) o (Memᴰ.tail k) = absurd (Memᴰ.not-nil k)
      here (suc (suc zero)) o k = absurd (Memᴰ.not-nil k)
      here (suc (suc (suc d))) o (Memᴰ.head f) = inr (subst (λ (x : Edge). P (west_of_edge x)) (sym f) o)
      here (suc (suc (suc d))) o (Memᴰ.tail k) = absurd (Memᴰ.not-nil k)

each_map : (Q R : ℕ → Corner → Type 0) → ((d : ℕ) (q : Corner) → Q d q → R d q) → (c : Corner) (ds : List ℕ) → EachStep Q c ds → EachStep R c ds
each_map Q R f c [] s = tt
each_map Q R f c (d ∷ ds) s = (f d c s.0, each_map Q R f (stepped d c) ds s.1)

-- beside each vertical edge of a room there is a panel inside it
pub edge_sides : (c : Corner) (ds : List ℕ) → IsRoom c ds → (e : Edge) → Memᴰ e (edges_from c ds) → Inside c ds (east_of_edge e) ⊎ Inside c ds (west_of_edge e)
edge_sides c ds r e m =
    ⊎_elim
    (λ k. lefts (Inside c ds) c ds (each_map (λ d q. Inside c ds (left_of d q) × (Inside c ds (right_of d q) → ⊥)) (λ d q. Inside c ds (left_of d q)) (λ d q w. w.0) c ds k.0) e m)
    (λ k. rights (Inside c ds) c ds (each_map (λ d q. Inside c ds (right_of d q) × (Inside c ds (left_of d q) → ⊥)) (λ d q. Inside c ds (right_of d q)) (λ d q w. w.0) c ds k.0) e m)
    (room-counts c ds r)
