-- The path that keeps to the right, way by way: it stays on walked edges, each way has one way before it, and its steps are the directions of the ways met.
-- Assumes nothing.
use mathlib.Core.Bool.{true}
use mathlib.Core.List.Memᴰ
use mathlib.Core.List.{List, [], ◌∷◌, Memᴰ}
use mathlib.Core.Logic.{⊎_elim}
use mathlib.Core.Path.{◌≡◌, refl, ap, ap₂, sym, ◌∙◌}
use Prim.Native.Nat.{ℕ, zero, suc, ◌<◌, ◌≤◌, ◌*◌}
use native.Mathlib.Omega.{arith}
use lib.ListN.{length}
use Rattle.lists.specs.Lists.{Distinct, zip}
use Rattle.grid.specs.declared.Corner.{Corner}
use Rattle.grid.specs.Grid.{stepped, corners_from, end_from, legs_from, back}
use Rattle.grid.proofs.StepLaws.{stepped-back}
use Rattle.outline.specs.Outline.{walked, onward, path_from}
use Rattle.outline_laws.proofs.OrbitLaws.{after, orbit, returns}
use Rattle.outline_laws.proofs.TurnLaws.{onward_small, came_by, turned}
use Rattle.outline_laws.proofs.EdgeLaws.{Way, same_way, same_way_sound, same_way_refl, walked-back, ways_from, length-ways_from, walked_way}

module _ (c : Corner) (ds : List ℕ) where
  -- where a way leads, and how the path goes on there
  abbrev pub next : Way → Way
  next x = (stepped x.1 x.0, onward (walked c ds (stepped x.1 x.0)) x.1)

  -- a way along a walked edge
  abbrev pub On : Way → Type 0
  On x = (x.1 < 4) × (walked c ds x.0 x.1 ≡ true)

module _ (c : Corner) (ds : List ℕ) where
  pub next_on : (x : Way) → On c ds x → On c ds (next c ds x)
  next_on x o =
      let w = walked c ds (stepped x.1 x.0) in
      (onward_small w x.1, (turned w x.1 o.0 (walked-back c ds x.0 x.1 o.1)).0)

  -- the way before, from where the path goes on and how
  pub came : (x : Way) → On c ds x → (y : Way) → next c ds x ≡ y → (x.1 ≡ came_by (walked c ds y.0) y.1) × (x.0 ≡ stepped (back x.1) y.0)
  came x o y e =
      let w = walked c ds (stepped x.1 x.0) in (
        sym (turned w x.1 o.0 (walked-back c ds x.0 x.1 o.1)).1 ∙ ap (λ (z : Way). came_by (walked c ds z.0) z.1) e,
        sym (stepped-back x.1 x.0) ∙ ap (λ (z : Way). stepped (back x.1) z.0) e,
      )

  next_inj : (x y : Way) → On c ds x → On c ds y → next c ds x ≡ next c ds y → x ≡ y
  next_inj x y o q e =
      let a = came x o (next c ds y) e in
      let b = came y q (next c ds y) refl in
      let d : x.1 ≡ y.1 = a.0 ∙ sym b.0 in
      ap₂ (λ (p : Corner) (k : ℕ). (p, k)) (a.1 ∙ ap (λ (k : ℕ). stepped (back k) (next c ds y).0) d ∙ sym b.1) d

  -- a path along walked edges comes back to its first way within two steps for each of the walk's, and takes no way twice before
  pub path_returns : (x : Way) → On c ds x → (k : ℕ) × (0 < k) × (k ≤ 2 * length ds) × (after (next c ds) k x ≡ x) × Distinct (orbit (next c ds) k x)
  path_returns x o =
      let b = returns (next c ds) (On c ds) next_on next_inj same_way same_way_sound same_way_refl (ways_from c ds) (λ y q. walked_way c ds y.0 y.1 q.0 q.1) x o in
      (b.0, b.1, omega (arith, b.2, length-ways_from c ds), b.3, b.4)

  pub length_path : (n : ℕ) (p : Corner) (d : ℕ) → length (path_from c ds n p d) ≡ n
  length_path zero p d = refl
  length_path (suc n) p d = ap suc (length_path n (stepped d p) (onward (walked c ds (stepped d p)) d))

  pub path_end : (n : ℕ) (p : Corner) (d : ℕ) → end_from p (path_from c ds n p d) ≡ (after (next c ds) n (p, d)).0
  path_end zero p d = refl
  path_end (suc n) p d = path_end n (stepped d p) (onward (walked c ds (stepped d p)) d)

  -- its corners and steps, side by side, are the ways met
  pub path_ways : (n : ℕ) (p : Corner) (d : ℕ) → zip (corners_from p (path_from c ds n p d)) (path_from c ds n p d) ≡ orbit (next c ds) n (p, d)
  path_ways zero p d = refl
  path_ways (suc n) p d = ap (λ (l : List Way). (p, d) ∷ l) (path_ways n (stepped d p) (onward (walked c ds (stepped d p)) d))

  -- its edges are those of the ways met
  pub way_edge : (n : ℕ) (p : Corner) (d : ℕ) (y : Way) → Memᴰ y (orbit (next c ds) n (p, d)) → Memᴰ (y.0, stepped y.1 y.0) (legs_from p (path_from c ds n p d))
  way_edge zero p d y m = absurd (Memᴰ.not-nil m)
  way_edge (suc n) p d y m =
      ⊎_elim
      (λ e. Memᴰ.head (ap (λ (z : Way). (z.0, stepped z.1 z.0)) e))
      (λ t. Memᴰ.tail (way_edge n (stepped d p) (onward (walked c ds (stepped d p)) d) y t))
      (Memᴰ.cases_cons m)

  pub edge_way : (n : ℕ) (p : Corner) (d : ℕ) (e : Corner × Corner) → Memᴰ e (legs_from p (path_from c ds n p d)) → (y : Way) × Memᴰ y (orbit (next c ds) n (p, d)) × (e ≡ (y.0, stepped y.1 y.0))
  edge_way zero p d e m = absurd (Memᴰ.not-nil m)
  edge_way (suc n) p d e m =
      ⊎_elim
      (λ g. ((p, d), Memᴰ.head refl, g))
      (λ t. let h = edge_way n (stepped d p) (onward (walked c ds (stepped d p)) d) e t in (h.0, Memᴰ.tail h.1, h.2))
      (Memᴰ.cases_cons m)

-- the directions of ways
abbrev pub dirs : List Way → List ℕ
dirs [] = []
dirs (y ∷ l) = y.1 ∷ dirs l

pub path_dirs : (c : Corner) (ds : List ℕ) (n : ℕ) (x : Way) → path_from c ds n x.0 x.1 ≡ dirs (orbit (next c ds) n x)
path_dirs c ds zero x = refl
path_dirs c ds (suc n) x = ap (λ (l : List ℕ). x.1 ∷ l) (path_dirs c ds n (next c ds x))
