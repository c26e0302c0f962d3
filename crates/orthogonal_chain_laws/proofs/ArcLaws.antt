-- Walks among the corners of a pile: where one ends, that its corners after the start are all different, and where they lie.
-- Assumes nothing.
use mathlib.Core.List.Memᴰ
use mathlib.Core.List.{List, [], ◌∷◌, ◌++◌, Memᴰ}
use mathlib.Core.Logic.{◌⊎◌, inl, inr, ⊎_elim}
use mathlib.Core.Path.{◌≡◌, refl, ap, sym, ◌∙◌, subst}
use Prim.Native.Nat.{ℕ, zero, suc, ◌+◌, ◌-◌, ◌<◌, ◌≤◌}
use native.Mathlib.Omega.{arith}
use lib.IntN.{ℤ, pos, ◌+ℤ◌, +ℤ-suc_ℤ, +ℤ-pred_ℤ}
use lib.ListN.{replicate}
use Rattle.int_laws.proofs.LinearLaws.{zarith, bal+}
use Rattle.lists.specs.Lists.{Distinct}
use Rattle.lists.proofs.DistinctLaws.{distinct_append}
use Rattle.grid.specs.declared.Corner.{Corner}
use Rattle.grid.specs.Grid.{corner, stepped, later_from, end_from}
use Rattle.grid.proofs.StepLaws.{end_from-append}
use Rattle.orthogonal_chain_laws.specs.Chain.{corner_by, sideways}
use Rattle.orthogonal_chain_laws.proofs.ChainCases as cases

-- where a step leads
pub step_east : (o : Corner) (x y : ℕ) → stepped 0 (corner_by o x y) ≡ corner_by o (suc x) y
step_east o x y = ap (λ (z : ℤ). corner z (o.1 +ℤ pos y)) (sym (+ℤ-suc_ℤ o.0 (pos x)))

pub step_north : (o : Corner) (x y : ℕ) → stepped 1 (corner_by o x y) ≡ corner_by o x (suc y)
step_north o x y = ap (corner (o.0 +ℤ pos x)) (sym (+ℤ-suc_ℤ o.1 (pos y)))

pub step_west : (o : Corner) (x y : ℕ) → stepped 2 (corner_by o (suc x) y) ≡ corner_by o x y
step_west o x y = ap (λ (z : ℤ). corner z (o.1 +ℤ pos y)) (sym (+ℤ-pred_ℤ o.0 (pos (suc x))))

pub step_south : (o : Corner) (x y : ℕ) → stepped 3 (corner_by o x (suc y)) ≡ corner_by o x y
step_south o x y = ap (corner (o.0 +ℤ pos x)) (sym (+ℤ-pred_ℤ o.1 (pos (suc y))))

-- no corner has two places
corner_by-one : (o : Corner) (x y a b : ℕ) → corner_by o x y ≡ corner_by o a b → (x ≡ a) × (y ≡ b)
corner_by-one o x y a b e = (
  omega (zarith, ap (λ (q : Corner). q.0) e, bal+ o.0 (pos x), bal+ o.0 (pos a)),
  omega (zarith, ap (λ (q : Corner). q.1) e, bal+ o.1 (pos y), bal+ o.1 (pos b)),
)

-- the corner x east and y north of o, with P x y
pub record Spot (o : Corner) (P : ℕ → ℕ → Type 0) (q : Corner) : Type 0 where
  pub x : ℕ
  pub y : ℕ
  pub is : q ≡ corner_by o x y
  pub holds : P x y

-- the walk of these steps from (x,y) ends at (a,b), and its corners after the start are all different and in P
pub record Arc (o : Corner) (x y : ℕ) (ds : List ℕ) (a b : ℕ) (P : ℕ → ℕ → Type 0) : Type 0 where
  pub ends : end_from (corner_by o x y) ds ≡ corner_by o a b
  pub once : Distinct (later_from (corner_by o x y) ds)
  pub corners : (q : Corner) → Memᴰ q (later_from (corner_by o x y) ds) → Spot o P q

later-append : (c : Corner) (s t : List ℕ) → later_from c (s ++ t) ≡ later_from c s ++ later_from (end_from c s) t
later-append c [] t = refl
later-append c (d ∷ s) t = ap (λ (l : List Corner). stepped d c ∷ l) (later-append (stepped d c) s t)

module _ {o : Corner} where
  spot_weaken : {P Q : ℕ → ℕ → Type 0} {q : Corner} → ((i j : ℕ) → P i j → Q i j) → Spot o P q → Spot o Q q
  spot_weaken f s = record { x = s.x; y = s.y; is = s.is; holds = f s.x s.y s.holds }

  pub arc_weaken : {x y a b : ℕ} {ds : List ℕ} {P Q : ℕ → ℕ → Type 0} → ((i j : ℕ) → P i j → Q i j) → Arc o x y ds a b P → Arc o x y ds a b Q
  arc_weaken f h = record { ends = h.ends; once = h.once; corners = λ q m. spot_weaken f (h.corners q m) }

  pub arc_none : {x y a b : ℕ} {P : ℕ → ℕ → Type 0} → corner_by o x y ≡ corner_by o a b → Arc o x y [] a b P
  arc_none e = record { ends = e; once = tt; corners = λ q m. absurd (Memᴰ.not-nil m) }

  pub arc_step : {x y a b d : ℕ} → stepped d (corner_by o x y) ≡ corner_by o a b → Arc o x y (d ∷ []) a b (λ i j. (i ≡ a) × (j ≡ b))
  arc_step {x} {y} {a} {b} {d} e =
      record {
        ends = e;
        once = ((λ m. Memᴰ.not-nil m), tt);
        corners = λ q m. record { x = a; y = b; is = Memᴰ.eq_of_singleton m ∙ e; holds = (refl, refl) };
      }

  -- one walk after another, with no corner in common
  pub arc_append : {x y a b u v : ℕ} {s t : List ℕ} {P Q : ℕ → ℕ → Type 0} → Arc o x y s a b P → Arc o a b t u v Q → ((i j : ℕ) → P i j → Q i j → ⊥) → Arc o x y (s ++ t) u v (λ i j. P i j ⊎ Q i j)
  arc_append {x} {y} {a} {b} {u} {v} {s} {t} {P} {Q} g h f =
      record {
        ends = end_from-append (corner_by o x y) s t ∙ ap (λ (q : Corner). end_from q t) g.ends ∙ h.ends;
        once = subst (λ (l : List Corner). Distinct l) (sym whole) (distinct_append (later_from (corner_by o x y) s) (later_from (corner_by o a b) t) g.once h.once (λ q m n. apart (g.corners q m) (h.corners q n)));
        corners = λ q m. ⊎_elim (λ k. spot_weaken (λ i j. inl) (g.corners q k)) (λ k. spot_weaken (λ i j. inr) (h.corners q k)) (Memᴰ.append_cases (later_from (corner_by o x y) s) (subst (λ (l : List Corner). Memᴰ q l) whole m));
      }
    where
      whole : later_from (corner_by o x y) (s ++ t) ≡ later_from (corner_by o x y) s ++ later_from (corner_by o a b) t
      whole = later-append (corner_by o x y) s t ∙ ap (λ (q : Corner). later_from (corner_by o x y) s ++ later_from q t) g.ends

      apart : {q : Corner} → Spot o P q → Spot o Q q → ⊥
      apart m n =
          let e = corner_by-one o m.x m.y n.x n.y (sym m.is ∙ n.is) in
          f n.x n.y (subst (λ (j : ℕ). P n.x j) e.1 (subst (λ (i : ℕ). P i m.y) e.0 m.holds)) n.holds

  arc_east : (n x b y : ℕ) → b ≡ x + n → Arc o x y (replicate n 0) b y (λ i j. (x < i) × (i ≤ b) × (j ≡ y))
  arc_east zero x b y e = arc_none (ap (λ (i : ℕ). corner_by o i y) (omega (arith, e)))
  arc_east (suc n) x b y e =
      arc_weaken (λ i j. ⊎_elim (λ k. (omega (arith, k.0), omega (arith, k.0, e), k.1)) (λ k. (omega (arith, k.0), k.1, k.2)))
      (arc_append (arc_step (step_east o x y)) (arc_east n (suc x) b y (omega (arith, e))) (λ i j g h. omega (arith, g.0, h.0)))

  arc_west : (n b x y : ℕ) → x ≡ b + n → Arc o x y (replicate n 2) b y (λ i j. (b ≤ i) × (i < x) × (j ≡ y))
  arc_west zero b x y e = arc_none (ap (λ (i : ℕ). corner_by o i y) (omega (arith, e)))
  arc_west (suc n) b zero y e = absurd (omega (arith, e))
  arc_west (suc n) b (suc x) y e =
      arc_weaken (λ i j. ⊎_elim (λ k. (omega (arith, k.0, e), omega (arith, k.0), k.1)) (λ k. (k.0, omega (arith, k.1), k.2)))
      (arc_append (arc_step (step_west o x y)) (arc_west n b x y (omega (arith, e))) (λ i j g h. omega (arith, g.0, h.1)))

  -- from column a to column b, past a
  pub arc_sideways : (a b y : ℕ) → Arc o a y (sideways a b) b y (λ i j. (((a < i) × (i ≤ b)) ⊎ ((b ≤ i) × (i < a))) × (j ≡ y))
  arc_sideways a b y =
      let m = a + (b - a) in
      arc_weaken (λ i j. ⊎_elim (λ k. (inl (k.0, omega (arith, k.0, k.1)), k.2)) (λ k. (inr (k.0, omega (arith, k.0, k.1)), k.2)))
      (arc_append (arc_east (b - a) a m y refl) (arc_west (a - b) b m y (omega arith)) (λ i j g h. omega (arith, g.0, g.1, h.0, h.1)))
