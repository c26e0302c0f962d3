-- The outline of the hull is as long as twice the width and twice the height of the bounding box of the blocks, and a room's chain is no
-- shorter than that.
-- Assumes nothing.
use mathlib.Core.Bool.{Bool}
use mathlib.Core.List.{List, [], ◌∷◌, Memᴰ}
use mathlib.Core.Logic.{◌⊎◌, inl, inr, ⊎_elim}
use mathlib.Core.Path.{◌≡◌, refl, ap, ap₂, sym, ◌∙◌}
use Prim.Native.Nat.{ℕ, zero, suc, ◌+◌, ◌*◌, ◌≤◌}
use native.Mathlib.Decide.{dec_lt}
use native.Mathlib.Nat.{zero-mul, suc-mul, mul_assoc, mul_left_comm, mul-le-mul}
use native.Mathlib.Omega.{arith}
use lib.IntN.{ℤ, pos, suc_ℤ, pred_ℤ, nat_abs, ◌+ℤ◌, ◌-ℤ◌}
use lib.ListN.{length, take, length-append}
use lib.Seq.{take_all}
use lib.Signed.{◌≤ℤ◌}
use Rattle.int_laws.proofs.LinearLaws.{zarith, bal+}
use Rattle.int_laws.proofs.NextLaws.{bal_suc, bal_pred, above}
use Rattle.lists.specs.Lists.{count}
use Rattle.lists.proofs.BoolLaws.{tally_le}
use Rattle.lists.proofs.DistinctLaws.{get_d_mem}
use Rattle.grid.specs.declared.{Corner.Corner}
use Rattle.grid.specs.Grid.{stepped, corners_from, corner_at, end_from}
use Rattle.grid.proofs.StepLaws.{corners_from-at, length-corners_from, corner_at_end}
use Rattle.panels.specs.Box.{box_of, panel_row, panel_rows, panels_in}
use Rattle.panels.specs.Inside.{inside, panels_inside}
use Rattle.area_laws.proofs.BoxLaws.{HoldsCorner, box_holds, box_met}

-- ---- a closed walk is twice as long as its box is wide and high

-- how far a step goes along one axis, and how far steps go together
abbrev side_steps : ℕ → ℕ
side_steps zero = 1
side_steps (suc zero) = 0
side_steps (suc (suc zero)) = 1
side_steps (suc (suc (suc d))) = 0

abbrev up_steps : ℕ → ℕ
up_steps zero = 0
up_steps (suc zero) = 1
up_steps (suc (suc zero)) = 0
up_steps (suc (suc (suc d))) = 1

abbrev total : (ℕ → ℕ) → List ℕ → ℕ
total f [] = 0
total f (d ∷ ds) = f d + total f ds

totals : (ds : List ℕ) → total side_steps ds + total up_steps ds ≡ length ds
totals [] = refl
totals (zero ∷ ds) = let e = totals ds in omega (arith, e)
totals (suc zero ∷ ds) = let e = totals ds in omega (arith, e)
totals (suc (suc zero) ∷ ds) = let e = totals ds in omega (arith, e)
totals (suc (suc (suc d)) ∷ ds) = let e = totals ds in omega (arith, e)

-- a coordinate changes no more than the steps along its axis
module _ (f : Corner → ℤ) (s : ℕ → ℕ) (near : (d : ℕ) (c : Corner) → (f (stepped d c) ≤ℤ (f c +ℤ pos (s d))) × (f c ≤ℤ (f (stepped d c) +ℤ pos (s d)))) where
  -- from the start to place j
  drift : (c : Corner) (ds : List ℕ) (j : ℕ) → (f (corner_at c ds j) ≤ℤ (f c +ℤ pos (total s (take j ds)))) × (f c ≤ℤ (f (corner_at c ds j) +ℤ pos (total s (take j ds))))
  drift c ds zero = (omega (zarith, bal+ (f c) (pos 0)), omega (zarith, bal+ (f c) (pos 0)))
  drift c [] (suc j) = (omega (zarith, bal+ (f c) (pos 0)), omega (zarith, bal+ (f c) (pos 0)))
  drift c (d ∷ ds) (suc j) =
      let e = corner_at (stepped d c) ds j in
      let n : ℕ = total s (take j ds) in
      let k = drift (stepped d c) ds j in
      let m = near d c in (
        omega (zarith, k.0, m.0, bal+ (f (stepped d c)) (pos n), bal+ (f c) (pos (s d)), bal+ (f c) (pos (s d + n))),
        omega (zarith, k.1, m.1, bal+ (f e) (pos n), bal+ (f (stepped d c)) (pos (s d)), bal+ (f e) (pos (s d + n))),
      )

  -- from one place to a later one
  drift_between : (c : Corner) (ds : List ℕ) (i j : ℕ) → i ≤ j → (m : ℕ) × (total s (take i ds) + m ≡ total s (take j ds)) × (f (corner_at c ds j) ≤ℤ (f (corner_at c ds i) +ℤ pos m)) × (f (corner_at c ds i) ≤ℤ (f (corner_at c ds j) +ℤ pos m))
  drift_between c ds zero j h = let k = drift c ds j in (total s (take j ds), omega arith, k.0, k.1)
  drift_between c ds (suc i) zero h = absurd (omega arith)
  drift_between c [] (suc i) (suc j) h = (0, refl, omega (zarith, bal+ (f c) (pos 0)), omega (zarith, bal+ (f c) (pos 0)))
  drift_between c (d ∷ ds) (suc i) (suc j) h = let k = drift_between (stepped d c) ds i j (omega arith) in (k.0, omega (arith, k.1), k.2, k.3)

  -- two corners of a closed walk are apart by half of these steps at most
  apart : (c : Corner) (ds : List ℕ) → end_from c ds ≡ c → (i j : ℕ) → i ≤ j → j ≤ length ds → (k : ℕ) → (f (corner_at c ds j) ≡ f (corner_at c ds i) +ℤ pos k) ⊎ (f (corner_at c ds i) ≡ f (corner_at c ds j) +ℤ pos k) → 2 * k ≤ total s ds
  apart c ds closed i j h l k w =
      let n : ℕ = length ds in
      let x = f (corner_at c ds i) in
      let y = f (corner_at c ds j) in
      let a = drift c ds i in
      let b = drift_between c ds i j h in
      let d = drift_between c ds j n l in
      let e : f (corner_at c ds n) ≡ f c = ap f (corner_at_end c ds ∙ closed) in
      let z : total s (take n ds) ≡ total s ds = ap (total s) (take_all n ds (omega arith)) in
      ⊎_elim
      (λ g. omega (zarith, a.0, a.1, b.1, b.2, b.3, d.1, d.2, d.3, e, z, g, bal+ x (pos k), bal+ (f c) (pos (total s (take i ds))), bal+ x (pos (total s (take i ds))), bal+ x (pos b.0), bal+ y (pos b.0), bal+ y (pos d.0), bal+ (f (corner_at c ds n)) (pos d.0)))
      (λ g. omega (zarith, a.0, a.1, b.1, b.2, b.3, d.1, d.2, d.3, e, z, g, bal+ y (pos k), bal+ (f c) (pos (total s (take i ds))), bal+ x (pos (total s (take i ds))), bal+ x (pos b.0), bal+ y (pos b.0), bal+ y (pos d.0), bal+ (f (corner_at c ds n)) (pos d.0)))
      w

  wide_walk : (c : Corner) (ds : List ℕ) → end_from c ds ≡ c → (p q : Corner) → Memᴰ p (corners_from c ds) → Memᴰ q (corners_from c ds) → (k : ℕ) → f q ≡ f p +ℤ pos k → 2 * k ≤ total s ds
  wide_walk c ds closed p q m n k e =
      let i = place p m in
      let j = place q n in
      elim (dec_lt i.0 j.0) [
        | yes h ↦ apart c ds closed i.0 j.0 (omega arith) j.1 k (inl (ap f j.2 ∙ e ∙ ap (λ (v : Corner). f v +ℤ pos k) (sym i.2)))
        | no h ↦ apart c ds closed j.0 i.0 (omega arith) i.1 k (inr (ap f j.2 ∙ e ∙ ap (λ (v : Corner). f v +ℤ pos k) (sym i.2)))
      ]
    where
      place : (p : Corner) → Memᴰ p (corners_from c ds) → (i : ℕ) × (i ≤ length ds) × (corner_at c ds i ≡ p)
      place p m =
          let g = get_d_mem (corners_from c ds) c m in
          let h : g.0 ≤ length ds = omega (arith, g.1, length-corners_from c ds) in
          (g.0, h, sym (corners_from-at c ds g.0 c h) ∙ g.2)

side-near : (d : ℕ) (c : Corner) → ((stepped d c).0 ≤ℤ (c.0 +ℤ pos (side_steps d))) × (c.0 ≤ℤ ((stepped d c).0 +ℤ pos (side_steps d)))
side-near zero c = (omega (zarith, bal_suc c.0, bal+ c.0 (pos 1)), omega (zarith, bal_suc c.0, bal+ (suc_ℤ c.0) (pos 1)))
side-near (suc zero) c = (omega (zarith, bal+ c.0 (pos 0)), omega (zarith, bal+ c.0 (pos 0)))
side-near (suc (suc zero)) c = (omega (zarith, bal_pred c.0, bal+ c.0 (pos 1)), omega (zarith, bal_pred c.0, bal+ (pred_ℤ c.0) (pos 1)))
side-near (suc (suc (suc d))) c = (omega (zarith, bal+ c.0 (pos 0)), omega (zarith, bal+ c.0 (pos 0)))

up-near : (d : ℕ) (c : Corner) → ((stepped d c).1 ≤ℤ (c.1 +ℤ pos (up_steps d))) × (c.1 ≤ℤ ((stepped d c).1 +ℤ pos (up_steps d)))
up-near zero c = (omega (zarith, bal+ c.1 (pos 0)), omega (zarith, bal+ c.1 (pos 0)))
up-near (suc zero) c = (omega (zarith, bal_suc c.1, bal+ c.1 (pos 1)), omega (zarith, bal_suc c.1, bal+ (suc_ℤ c.1) (pos 1)))
up-near (suc (suc zero)) c = (omega (zarith, bal+ c.1 (pos 0)), omega (zarith, bal+ c.1 (pos 0)))
up-near (suc (suc (suc d))) c = (omega (zarith, bal_pred c.1, bal+ c.1 (pos 1)), omega (zarith, bal_pred c.1, bal+ (pred_ℤ c.1) (pos 1)))

-- so it is as long as twice the width and twice the height of its box, or longer
pub box_around : (c : Corner) (ds : List ℕ) → end_from c ds ≡ c → 2 * nat_abs ((box_of c ds).east -ℤ (box_of c ds).west) + 2 * nat_abs ((box_of c ds).north -ℤ (box_of c ds).south) ≤ length ds
box_around c ds closed = let e = totals ds in omega (arith, e, across, along)
  where
    held : HoldsCorner (box_of c ds) c
    held = box_holds c ds c (Memᴰ.head refl)

    across : 2 * nat_abs ((box_of c ds).east -ℤ (box_of c ds).west) ≤ total side_steps ds
    across =
        let a = (box_met c ds).0 in
        let z = (box_met c ds).1 in
        wide_walk (λ p. p.0) side_steps side-near c ds closed a.0 z.0 a.1 z.1 (nat_abs ((box_of c ds).east -ℤ (box_of c ds).west))
        (z.2 ∙ above (box_of c ds).west (box_of c ds).east (omega (zarith, held.west, held.east)) ∙ ap (λ (x : ℤ). x +ℤ pos (nat_abs ((box_of c ds).east -ℤ (box_of c ds).west))) (sym a.2))

    along : 2 * nat_abs ((box_of c ds).north -ℤ (box_of c ds).south) ≤ total up_steps ds
    along =
        let a = (box_met c ds).2 in
        let z = (box_met c ds).3 in
        wide_walk (λ p. p.1) up_steps up-near c ds closed a.0 z.0 a.1 z.1 (nat_abs ((box_of c ds).north -ℤ (box_of c ds).south))
        (z.2 ∙ above (box_of c ds).south (box_of c ds).north (omega (zarith, held.south, held.north)) ∙ ap (λ (x : ℤ). x +ℤ pos (nat_abs ((box_of c ds).north -ℤ (box_of c ds).south))) (sym a.2))

-- ---- how many panels it can have inside

count_most : {A : Type 0} (f : A → Bool) (l : List A) → count f l ≤ length l
count_most f [] = omega arith
count_most f (x ∷ l) = let k = count_most f l in let h = tally_le (f x) in omega (arith, k, h)

length-row : (b a : ℤ) (n : ℕ) → length (panel_row b a n) ≡ n
length-row b a zero = refl
length-row b a (suc n) = ap suc (length-row b (suc_ℤ a) n)

length-rows : (b a : ℤ) (n m : ℕ) → length (panel_rows b a n m) ≡ m * n
length-rows b a n zero = sym (zero-mul n)
length-rows b a n (suc m) = length-append (panel_row b a n) (panel_rows (suc_ℤ b) a n m) ∙ ap₂ (λ (x y : ℕ). x + y) (length-row b a n) (length-rows (suc_ℤ b) a n m) ∙ let e : n + m * n ≡ suc m * n = omega (arith, suc-mul m n) in e

quadruple : (h w : ℕ) → 2 * h * (2 * w) ≡ 4 * (h * w)
quadruple h w = mul_assoc 2 h (2 * w) ∙ ap (λ (x : ℕ). 2 * x) (mul_left_comm h 2 w) ∙ let e : 2 * (2 * (h * w)) ≡ 4 * (h * w) = omega arith in e

-- no more than its box has
pub inside_few : (c : Corner) (ds : List ℕ) → end_from c ds ≡ c → 4 * panels_inside c ds ≤ length ds * length ds
inside_few c ds closed = few (box_around c ds closed)
  where
    w : ℕ
    w = nat_abs ((box_of c ds).east -ℤ (box_of c ds).west)

    h : ℕ
    h = nat_abs ((box_of c ds).north -ℤ (box_of c ds).south)

    size : panels_inside c ds ≤ h * w
    size = let k = count_most (inside c ds) (panels_in (box_of c ds)) in let e = length-rows (box_of c ds).south (box_of c ds).west w h in omega (arith, k, e)

    few : 2 * w + 2 * h ≤ length ds → 4 * panels_inside c ds ≤ length ds * length ds
    few a =
        let p : 2 * w ≤ length ds = omega (arith, a) in
        let q : 2 * h ≤ length ds = omega (arith, a) in
        let m = mul-le-mul q p in
        let e = quadruple h w in
        omega (arith, size, m, e)
