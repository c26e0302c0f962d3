-- The corners of the two sides of a pile, and that the chain around it meets none twice.
-- Assumes nothing.
use mathlib.Core.List.{◌∷◌}
use mathlib.Core.Logic.{◌⊎◌, inl, inr, ⊎_elim}
use mathlib.Core.Path.{◌≡◌, ap, ◌∙◌, subst}
use Prim.Native.Nat.{ℕ, zero, suc, ◌+◌, ◌-◌, ◌<◌, ◌≤◌}
use native.Mathlib.Omega.{arith}
use Rattle.grid.specs.declared.Corner.{Corner}
use Rattle.grid.specs.Grid.{stepped}
use Rattle.orthogonal_chain_laws.specs.Chain.{Piled, corner_by, sideways, left_side, right_side, chain_from_row}
use Rattle.orthogonal_chain_laws.proofs.ArcLaws.{Arc, step_north, step_south, arc_weaken, arc_none, arc_step, arc_append, arc_sideways}

-- on the left side from the foot of row m to that of row e: at each height between the left ends of the two rows that meet there, and at the foot of
-- row m at its left end
pub record OnLeftSide (l : ℕ → ℕ) (m e x y : ℕ) : Type 0 where
  pub low : m ≤ y
  pub high : y ≤ e
  pub foot : y ≡ m → x ≡ l m
  pub most : (x ≤ l y) ⊎ (x ≤ l (y - 1))
  pub least : (l y ≤ x) ⊎ (l (y - 1) ≤ x)

-- the same without the corner at the left end of row e, where the way down begins
abbrev Past : (ℕ → ℕ) → ℕ → ℕ → ℕ → ℕ → Type 0
Past l m e x y = OnLeftSide l m e x y × (y ≡ e → x ≡ l e → ⊥)

-- on the right side above the foot of row q up to the top of row e: there at its right end, and below between the right ends of the rows that meet
pub record OnRightSide (r : ℕ → ℕ) (q e x y : ℕ) : Type 0 where
  pub low : q < y
  pub high : y ≤ suc e
  pub top : y ≡ suc e → x ≡ r e
  pub least : y ≤ e → (r y ≤ x) ⊎ (r (y - 1) ≤ x)

-- from column a to column b at height y, past a
abbrev AtLevel : ℕ → ℕ → ℕ → ℕ → ℕ → Type 0
AtLevel a b y i j = (((a < i) × (i ≤ b)) ⊎ ((b ≤ i) × (i < a))) × (j ≡ y)

module _ (l : ℕ → ℕ) (m : ℕ) where
  -- the way from the left end of row m + n + 1 to that of the row below
  left_across : (n i j : ℕ) → AtLevel (l (m + suc n)) (l (m + n)) (m + suc n) i j → Past l m (m + suc n) i j
  left_across n i j k =
      let a : l j ≡ l (m + suc n) = ap l k.1 in
      let b : l (j - 1) ≡ l (m + n) = ap l (omega (arith, k.1)) in (
        record {
          low = omega (arith, k.1);
          high = omega (arith, k.1);
          foot = λ e. absurd (omega (arith, k.1, e));
          most = ⊎_elim (λ h. inr (omega (arith, h.1, b))) (λ h. inl (omega (arith, h.1, a))) k.0;
          least = ⊎_elim (λ h. inl (omega (arith, h.0, a))) (λ h. inr (omega (arith, h.0, b))) k.0;
        },
        λ e f. ⊎_elim (λ h. omega (arith, h.0, f)) (λ h. omega (arith, h.1, f)) k.0,
      )

  -- the foot of row m + n
  left_foot : (n e i j : ℕ) → m + n ≤ e → (i ≡ l (m + n)) × (j ≡ m + n) → OnLeftSide l m e i j
  left_foot n e i j h k =
      let a : l j ≡ l (m + n) = ap l k.1 in
      record { low = omega (arith, k.1); high = omega (arith, k.1, h); foot = λ f. k.0 ∙ ap l (omega (arith, k.1, f)); most = inl (omega (arith, k.0, a)); least = inl (omega (arith, k.0, a)) }

  left_higher : (e f i j : ℕ) → e ≤ f → OnLeftSide l m e i j → OnLeftSide l m f i j
  left_higher e f i j h k = record { low = k.low; high = omega (arith, k.high, h); foot = k.foot; most = k.most; least = k.least }

  arc_left : {o : Corner} (n : ℕ) → Arc o (l (m + n)) (m + n) (left_side l m n) (l m) m (Past l m (m + n))
  arc_left {o} zero = arc_none (ap (λ (z : ℕ). corner_by o (l z) z) (omega arith))
  arc_left {o} (suc n) =
      arc_weaken
      (λ i j. ⊎_elim (left_across n i j) (⊎_elim (λ k. (left_foot n (m + suc n) i j (omega arith) k, λ e f. omega (arith, k.1, e))) (λ k. (left_higher (m + n) (m + suc n) i j (omega arith) k.0, λ e f. omega (arith, k.0.high, e)))))
      (arc_append (arc_sideways (l (m + suc n)) (l (m + n)) (m + suc n))
      (arc_append (arc_step south) (arc_left n) (λ i j g h. h.1 g.1 g.0))
      (λ i j g. ⊎_elim (λ h. omega (arith, g.1, h.1)) (λ h. omega (arith, g.1, h.0.high))))
    where
      south : stepped 3 (corner_by o (l (m + n)) (m + suc n)) ≡ corner_by o (l (m + n)) (m + n)
      south = ap (λ (z : ℕ). stepped 3 (corner_by o (l (m + n)) z)) (omega arith) ∙ step_south o (l (m + n)) (m + n)

module _ (r : ℕ → ℕ) where
  arc_right : {o : Corner} (n q e : ℕ) → e ≡ q + n → Arc o (r q) q (right_side r q n) (r e) (suc e) (OnRightSide r q e)
  arc_right {o} zero q e h =
      let f : q ≡ e = omega (arith, h) in
      arc_weaken (λ i j k. record { low = omega (arith, k.1, f); high = omega (arith, k.1); top = λ g. k.0; least = λ g. absurd (omega (arith, k.1, g)) })
      (arc_step (step_north o (r q) q ∙ ap (λ (z : ℕ). corner_by o (r z) (suc z)) f))
  arc_right {o} (suc n) q e h =
      arc_weaken (λ i j. ⊎_elim (λ k. end i j k) (⊎_elim (λ k. across i j k) (λ k. further i j k)))
      (arc_append (arc_step (step_north o (r q) q))
      (arc_append (arc_sideways (r q) (r (suc q)) (suc q)) (arc_right n (suc q) e (omega (arith, h))) (λ i j g k. omega (arith, g.1, k.low)))
      (λ i j g. ⊎_elim (λ k. ⊎_elim (λ z. omega (arith, g.0, z.0)) (λ z. omega (arith, g.0, z.1)) k.0) (λ k. omega (arith, g.1, k.low))))
    where
      end : (i j : ℕ) → (i ≡ r q) × (j ≡ suc q) → OnRightSide r q e i j
      end i j k = record { low = omega (arith, k.1); high = omega (arith, k.1, h); top = λ f. absurd (omega (arith, k.1, f, h)); least = λ f. inr (omega (arith, k.0, below)) }
        where
          below : r (j - 1) ≡ r q
          below = ap r (omega (arith, k.1))

      across : (i j : ℕ) → AtLevel (r q) (r (suc q)) (suc q) i j → OnRightSide r q e i j
      across i j k =
          let a : r (j - 1) ≡ r q = ap r (omega (arith, k.1)) in
          let b : r j ≡ r (suc q) = ap r k.1 in
          record {
            low = omega (arith, k.1);
            high = omega (arith, k.1, h);
            top = λ f. absurd (omega (arith, k.1, f, h));
            least = λ f. ⊎_elim (λ z. inr (omega (arith, z.0, a))) (λ z. inl (omega (arith, z.0, b))) k.0;
          }

      further : (i j : ℕ) → OnRightSide r (suc q) e i j → OnRightSide r q e i j
      further i j k = record { low = omega (arith, k.low); high = k.high; top = k.top; least = k.least }

-- a corner of the chain lies on the left side below row k, on the foot of row 0, on the right side, on the top of row t, or on the left side from row k on
abbrev pub OnChain : (ℕ → ℕ) → (ℕ → ℕ) → ℕ → ℕ → ℕ → ℕ → Type 0
OnChain l r t k x y =
    OnLeftSide l 0 k x y ⊎ ((((l 0 < x) × (x ≤ r 0)) × (y ≡ 0)) ⊎ (OnRightSide r 0 t x y ⊎ ((((l t ≤ x) × (x < r t)) × (y ≡ suc t)) ⊎ OnLeftSide l k t x y)))

module _ (o : Corner) (l r : ℕ → ℕ) (t : ℕ) (p : Piled l r t) where
  -- the two sides are apart at every height between
  sides_apart : (x y : ℕ) → 0 < y → y ≤ t → (x ≤ l y) ⊎ (x ≤ l (y - 1)) → (r y ≤ x) ⊎ (r (y - 1) ≤ x) → ⊥
  sides_apart x zero h g a b = omega arith
  sides_apart x (suc q) h g a b =
      let c : l (suc q - 1) ≡ l q = ap l (omega arith) in
      let d : r (suc q - 1) ≡ r q = ap r (omega arith) in
      ⊎_elim
      (λ u. ⊎_elim (λ v. omega (arith, u, v, p.wide (suc q) g)) (λ v. omega (arith, u, v, d, p.above q (omega arith))) b)
      (λ u. ⊎_elim (λ v. omega (arith, u, v, c, p.below q (omega arith))) (λ v. omega (arith, u, v, c, d, p.wide q (omega arith))) b)
      a

  left-right : (m e x y : ℕ) → e ≤ t → OnLeftSide l m e x y → OnRightSide r 0 t x y → ⊥
  left-right m e x y h a b = sides_apart x y b.low (omega (arith, a.high)) a.most (b.least (omega (arith, a.high)))

  -- the chain is closed, and its corners after the start are all different
  pub arc_chain : (k : ℕ) → k ≤ t → Arc o (l k) k (chain_from_row l r t k) (l k) k (OnChain l r t k)
  arc_chain k h =
      arc_weaken (λ i j. ⊎_elim (λ z. inl z.0) (λ z. inr z))
      (arc_append down
      (arc_append foot
      (arc_append right
      (arc_append top upper (λ i j a b. omega (arith, a.1, b.high)))
      (λ i j a. ⊎_elim (λ b. omega (arith, a.top b.1, b.0.1)) (λ b. left-right k t i j (omega arith) b a)))
      (λ i j a. ⊎_elim (λ b. omega (arith, a.1, b.low)) (⊎_elim (λ b. omega (arith, a.1, b.1)) (λ b. foot_left k t i j a b))))
      (λ i j a. ⊎_elim (λ b. foot_left 0 k i j b a.0) (⊎_elim (λ b. left-right 0 k i j h a.0 b) (⊎_elim (λ b. omega (arith, a.0.high, b.1, h)) (λ b. lower_upper i j a b)))))
    where
      -- the foot of row 0 past its left end is not on the left side
      foot_left : (m e i j : ℕ) → ((l 0 < i) × (i ≤ r 0)) × (j ≡ 0) → OnLeftSide l m e i j → ⊥
      foot_left m e i j a b =
          let z : m ≡ 0 = omega (arith, a.1, b.low) in
          omega (arith, a.0.0, b.foot (omega (arith, a.1, z)), ap l z)

      -- the two parts of the left side have only the start in common
      lower_upper : (i j : ℕ) → Past l 0 k i j → OnLeftSide l k t i j → ⊥
      lower_upper i j a b = let e : j ≡ k = omega (arith, a.0.high, b.low) in a.1 e (b.foot e)

      down : Arc o (l k) k (left_side l 0 k) (l 0) 0 (Past l 0 k)
      down = subst (λ (z : ℕ). Arc o (l z) z (left_side l 0 k) (l 0) 0 (Past l 0 z)) (omega arith) (arc_left l 0 k)

      foot : Arc o (l 0) 0 (sideways (l 0) (r 0)) (r 0) 0 (λ i j. ((l 0 < i) × (i ≤ r 0)) × (j ≡ 0))
      foot = arc_weaken (λ i j a. (⊎_elim (λ b. b) (λ b. absurd (omega (arith, b.0, b.1, p.wide 0 (omega arith)))) a.0, a.1)) (arc_sideways (l 0) (r 0) 0)

      right : Arc o (r 0) 0 (right_side r 0 t) (r t) (suc t) (OnRightSide r 0 t)
      right = arc_right r t 0 t (omega arith)

      top : Arc o (r t) (suc t) (sideways (r t) (l t)) (l t) (suc t) (λ i j. ((l t ≤ i) × (i < r t)) × (j ≡ suc t))
      top = arc_weaken (λ i j a. (⊎_elim (λ b. absurd (omega (arith, b.0, b.1, p.wide t (omega arith)))) (λ b. b) a.0, a.1)) (arc_sideways (r t) (l t) (suc t))

      past : Arc o (l t) t (left_side l k (t - k)) (l k) k (Past l k t)
      past = subst (λ (z : ℕ). Arc o (l z) z (left_side l k (t - k)) (l k) k (Past l k z)) (omega arith) (arc_left l k (t - k))

      upper : Arc o (l t) (suc t) (3 ∷ left_side l k (t - k)) (l k) k (OnLeftSide l k t)
      upper = arc_weaken (λ i j. ⊎_elim (λ a. first i j a) (λ a. a.0)) (arc_append (arc_step {d = 3} (step_south o (l t) t)) past (λ i j a b. b.1 a.1 a.0))
        where
          first : (i j : ℕ) → (i ≡ l t) × (j ≡ t) → OnLeftSide l k t i j
          first i j a = left_foot l k (t - k) t i j (omega arith) (a.0 ∙ ap l (omega arith), omega (arith, a.1))
