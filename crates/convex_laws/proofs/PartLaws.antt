-- The depths of a part's columns are those of its highest corners, so the columns' test says that no grid point lies between the part and its hull.
-- Assumes nothing.
use mathlib.Core.Path.{◌≡◌, refl, sym, ap, ap₂, ◌∙◌, subst}
use mathlib.Core.Bool.{Bool, true, false, ◌&&◌}
use mathlib.Core.List.Memᴰ
use mathlib.Core.List.{List, [], ◌∷◌, Memᴰ}
use mathlib.Core.Logic.{◌↔◌}
use Prim.Native.Nat.{ℕ, zero, suc, ◌+◌, ◌*◌, ◌-◌, ◌≤◌, ◌<◌}
use native.Mathlib.Omega.{arith}
use borrow.Author.Tests.{ltb-true, ltb-false, lt-ltb}
use lib.ListN.{length, get_or}
use lib.Dec.{ltb}
use lib.IntN.{ℤ, pos, negsuc, suc_ℤ, ◌+ℤ◌, ◌-ℤ◌, +ℤ_one}
use lib.Signed.{◌≤ℤ◌, ◌<ℤ◌}
use Rattle.int_laws.proofs.LinearLaws.{zarith, bal+, bal-}
use Rattle.int_laws.proofs.RingLaws.{E, v, k, ◌⊕◌, ◌⊖◌, ◌⊗◌, ring}
use Rattle.int_laws.proofs.SignLaws.{h≤, hw, ◌⊞◌, ◌⊠◌, by≤}
use Rattle.int_laws.proofs.NextLaws.{plus_suc}
use Rattle.lists.specs.Lists.{Below}
use Rattle.grid.specs.declared.Corner.{Corner}
use Rattle.grid.specs.Grid.{corner, origin, stepped, corners_from}
use Rattle.hull.specs.Hull.{cross}
use Rattle.grid.proofs.CornerLaws.{corner_eq}
use Rattle.convex.specs.Convex.{Between, ConvexPart}
use Rattle.convex_laws.specs.Level.{depths_from, are_letters, level, level_of, convex_part}
use Rattle.convex_laws.proofs.LevelLaws.{Level, both, two, level_of_exactly}

-- the highest corner of column j, if column 0 stands at x and depths are counted down from h
abbrev top : ℤ → ℤ → List ℕ → ℕ → Corner
top x h ys j = corner (x +ℤ pos j) (h -ℤ pos (get_or ys j 0))

first-top : (c : Corner) (h : ℤ) (y : ℕ) → c.1 ≡ h -ℤ pos y → corner (c.0 +ℤ pos 0) (h -ℤ pos y) ≡ c
first-top c h y e = corner_eq (corner (c.0 +ℤ pos 0) (h -ℤ pos y)) c (here c.0) (sym e)
  where
    here : (x : ℤ) → x +ℤ pos 0 ≡ x
    here x = omega (zarith, bal+ x (pos 0))

north-top : (z h : ℤ) (y : ℕ) → 0 < y → z ≡ h -ℤ pos y → suc_ℤ z ≡ h -ℤ pos (y - 1)
north-top z h y l e = omega (zarith, +ℤ_one z, bal+ z (pos 1), bal- h (pos y), bal- h (pos (y - 1)))

-- the highest corner of each column is one of the part
tops_in : (h : ℤ) (w : List ℕ) → Below 2 w → (c : Corner) (y : ℕ) → length w ≤ y → c.1 ≡ h -ℤ pos y → (j : ℕ) → j < length (depths_from y w) → Memᴰ (top c.0 h (depths_from y w) j) (corners_from c w)
unfolding depths_from
tops_in h [] b c y l e zero g = Memᴰ.head (first-top c h y e)
tops_in h [] b c y l e (suc j) g = let z : ⊥ = omega arith in absurd z
tops_in h (zero ∷ w) b c y l e zero g = Memᴰ.head (first-top c h y e)
tops_in h (zero ∷ w) b c y l e (suc j) g =
    Memᴰ.tail (subst (λ (x : ℤ). Memᴰ (corner x (h -ℤ pos (get_or (depths_from y w) j 0))) (corners_from (stepped 0 c) w)) (plus_suc c.0 j)
    (tops_in h w b.1 (stepped 0 c) y (omega arith) e j (omega arith)))
tops_in h (suc zero ∷ w) b c y l e j g = Memᴰ.tail (tops_in h w b.1 (stepped 1 c) (y - 1) (omega arith) (north-top c.1 h y (omega arith) e) j g)
tops_in h (suc (suc d) ∷ w) b c y l e j g = let z : ⊥ = omega (arith, b.0) in absurd z

-- the column of p, with its highest corner not below p
record Under (x h : ℤ) (ys : List ℕ) (p : Corner) : Type 0 where
  col : ℕ
  within : col < length ys
  stands : p.0 ≡ x +ℤ pos col
  lower : p.1 ≤ℤ (h -ℤ pos (get_or ys col 0))

-- each corner of the part has one
under_tops : (h : ℤ) (w : List ℕ) → Below 2 w → (c : Corner) (y : ℕ) → length w ≤ y → c.1 ≡ h -ℤ pos y → (p : Corner) → Memᴰ p (corners_from c w) → Under c.0 h (depths_from y w) p
unfolding depths_from
under_tops h [] b c y l e p (Memᴰ.head m) = record { col = 0; within = omega arith; stands = ap (λ (z : Corner). z.0) (m ∙ sym (first-top c h y e)); lower = omega (zarith, ap (λ (z : Corner). z.1) (m ∙ sym (first-top c h y e))) }
under_tops h [] b c y l e p (Memᴰ.tail m) = absurd (Memᴰ.not-nil m)
under_tops h (zero ∷ w) b c y l e p (Memᴰ.head m) = record { col = 0; within = omega arith; stands = ap (λ (z : Corner). z.0) (m ∙ sym (first-top c h y e)); lower = omega (zarith, ap (λ (z : Corner). z.1) (m ∙ sym (first-top c h y e))) }
under_tops h (zero ∷ w) b c y l e p (Memᴰ.tail m) = more (under_tops h w b.1 (stepped 0 c) y (omega arith) e p m)
  where
    more : Under (suc_ℤ c.0) h (depths_from y w) p → Under c.0 h (y ∷ depths_from y w) p
    more u = record { col = suc u.col; within = omega (arith, u.within); stands = u.stands ∙ plus_suc c.0 u.col; lower = u.lower }
under_tops h (suc zero ∷ w) b c y l e p (Memᴰ.head m) = less (under_tops h w b.1 (stepped 1 c) (y - 1) (omega arith) (north-top c.1 h y (omega arith) e) (stepped 1 c) (first w))
  where
    first : (w : List ℕ) → Memᴰ (stepped 1 c) (corners_from (stepped 1 c) w)
    first [] = Memᴰ.head refl
    first (d ∷ w) = Memᴰ.head refl

    less : Under c.0 h (depths_from (y - 1) w) (stepped 1 c) → Under c.0 h (depths_from (y - 1) w) p
    less u = record { col = u.col; within = u.within; stands = ap (λ (z : Corner). z.0) m ∙ u.stands; lower = fall p.1 c.1 (ap (λ (z : Corner). z.1) m) (h -ℤ pos (get_or (depths_from (y - 1) w) u.col 0)) u.lower }
      where
        fall : (a z : ℤ) → a ≡ z → (t : ℤ) → suc_ℤ z ≤ℤ t → a ≤ℤ t
        fall a z e t h = omega (zarith, +ℤ_one z, bal+ z (pos 1))
under_tops h (suc zero ∷ w) b c y l e p (Memᴰ.tail m) = under_tops h w b.1 (stepped 1 c) (y - 1) (omega arith) (north-top c.1 h y (omega arith) e) p m
under_tops h (suc (suc d) ∷ w) b c y l e p m = let z : ⊥ = omega (arith, b.0) in absurd z

-- the grid point next above column j
abbrev next : ℤ → ℤ → List ℕ → ℕ → Corner
next x h ys j = corner (x +ℤ pos j) ((h -ℤ pos (get_or ys j 0)) +ℤ pos 1)

-- u and t are how far b and c lie right of p
cross_tops : (x h : ℤ) (p u t yp yb yc : ℕ) → cross (corner (x +ℤ pos p) (h -ℤ pos yp)) (corner (x +ℤ pos (p + u)) (h -ℤ pos yb)) (corner (x +ℤ pos (p + t)) ((h -ℤ pos yc) +ℤ pos 1)) ≡ pos (t * yb + u * yp + u) -ℤ pos (u * yc + t * yp)
unfolding cross
cross_tops x h p u t yp yb yc =
    let P : E = v 0 ⊕ v 2 in
    let B : E = v 0 ⊕ (v 2 ⊕ v 3) in
    let C : E = v 0 ⊕ (v 2 ⊕ v 4) in
    ring 8 (x ∷ h ∷ pos p ∷ pos u ∷ pos t ∷ pos yp ∷ pos yb ∷ pos yc ∷ [])
    ((B ⊖ P) ⊗ (((v 1 ⊖ v 7) ⊕ k (pos 1)) ⊖ (v 1 ⊖ v 5)) ⊖ ((v 1 ⊖ v 6) ⊖ (v 1 ⊖ v 5)) ⊗ (C ⊖ P))
    ((v 4 ⊗ v 6 ⊕ v 3 ⊗ v 5 ⊕ v 3) ⊖ (v 3 ⊗ v 7 ⊕ v 4 ⊗ v 5)) tt

module _ (x h : ℤ) (ys : List ℕ) (p c b : ℕ) (l : p < c) (r : c < b) where
  cross_cols : cross (top x h ys p) (top x h ys b) (next x h ys c) ≡ pos ((c - p) * get_or ys b 0 + (b - p) * get_or ys p 0 + (b - p)) -ℤ pos ((b - p) * get_or ys c 0 + (c - p) * get_or ys p 0)
  cross_cols =
      ap₂ (λ (m n : ℕ). cross (top x h ys p) (corner (x +ℤ pos m) (h -ℤ pos (get_or ys b 0))) (corner (x +ℤ pos n) ((h -ℤ pos (get_or ys c 0)) +ℤ pos 1))) back back'
      ∙ cross_tops x h p (b - p) (c - p) (get_or ys p 0) (get_or ys b 0) (get_or ys c 0)
    where
      back : b ≡ p + (b - p)
      back = omega arith

      back' : c ≡ p + (c - p)
      back' = omega arith

  -- the test passes if the next grid point lies above the line
  level-above : level ys p b c ≡ true → pos 0 <ℤ cross (top x h ys p) (top x h ys b) (next x h ys c)
  unfolding level
  level-above t = subst (λ (z : ℤ). pos 0 <ℤ z) (sym cross_cols) (more ((b - p) * get_or ys c 0 + (c - p) * get_or ys p 0) ((c - p) * get_or ys b 0 + (b - p) * get_or ys p 0 + (b - p)) t)
    where
      more : (m n : ℕ) → ltb m n ≡ true → pos 0 <ℤ (pos n -ℤ pos m)
      more m n t = omega (zarith, ltb-true m n t, bal- (pos n) (pos m))

  -- and fails if it does not
  level-under : level ys p b c ≡ false → cross (top x h ys p) (top x h ys b) (next x h ys c) ≤ℤ pos 0
  unfolding level
  level-under t = subst (λ (z : ℤ). z ≤ℤ pos 0) (sym cross_cols) (less ((b - p) * get_or ys c 0 + (c - p) * get_or ys p 0) ((c - p) * get_or ys b 0 + (b - p) * get_or ys p 0 + (b - p)) t)
    where
      less : (m n : ℕ) → ltb m n ≡ false → (pos n -ℤ pos m) ≤ℤ pos 0
      less m n t = omega (zarith, ltb-false m n t, bal- (pos n) (pos m))

-- a and b go up and q, between them, goes down: then it lies no farther left of the way from a to b
cross_falls : (a b q : Corner) (ay by qy : ℤ) → a.1 ≤ℤ ay → b.1 ≤ℤ by → qy ≤ℤ q.1 → a.0 <ℤ q.0 → q.0 <ℤ b.0 → cross (corner a.0 ay) (corner b.0 by) (corner q.0 qy) ≤ℤ cross a b q
unfolding cross
cross_falls a b q ay by qy i j l m n =
    let ρ = a.0 ∷ b.0 ∷ q.0 ∷ a.1 ∷ b.1 ∷ q.1 ∷ ay ∷ by ∷ qy ∷ [] in
    by≤ ((v 1 ⊖ v 0) ⊗ (v 8 ⊖ v 6) ⊖ (v 7 ⊖ v 6) ⊗ (v 2 ⊖ v 0)) ((v 1 ⊖ v 0) ⊗ (v 5 ⊖ v 3) ⊖ (v 4 ⊖ v 3) ⊗ (v 2 ⊖ v 0))
    (hw 9 ρ (v 0) (v 1) (omega zarith) ⊠ h≤ 9 ρ (v 8) (v 5) l ⊞ hw 9 ρ (v 2) (v 1) n ⊠ h≤ 9 ρ (v 3) (v 6) i ⊞ hw 9 ρ (v 0) (v 2) m ⊠ h≤ 9 ρ (v 4) (v 7) j) tt

-- the same, if the columns are given apart
not_under : (a b q : Corner) (ax bx qx ay by qy : ℤ) → a.0 ≡ ax → b.0 ≡ bx → q.0 ≡ qx → a.1 ≤ℤ ay → b.1 ≤ℤ by → qy ≤ℤ q.1 → a.0 <ℤ q.0 → q.0 <ℤ b.0 → pos 0 <ℤ cross (corner ax ay) (corner bx by) (corner qx qy) → cross a b q ≤ℤ pos 0 → ⊥
not_under a b q ax bx qx ay by qy e f g i j l m n t s =
    let x = subst (λ (z : ℤ). pos 0 <ℤ cross (corner z ay) (corner bx by) (corner qx qy)) (sym e) t in
    let y = subst (λ (z : ℤ). pos 0 <ℤ cross (corner a.0 ay) (corner z by) (corner qx qy)) (sym f) x in
    let z = subst (λ (z : ℤ). pos 0 <ℤ cross (corner a.0 ay) (corner b.0 by) (corner z qy)) (sym g) y in
    omega (zarith, z, s, cross_falls a b q ay by qy i j l m n)

-- a whole number right of a column is a column
column_of : (z : ℤ) (i : ℕ) → (pos 0 +ℤ pos i) <ℤ z → (m : ℕ) × (z ≡ pos 0 +ℤ pos m)
column_of (pos m) i h = (m, here m)
  where
    here : (m : ℕ) → pos m ≡ pos 0 +ℤ pos m
    here m = omega (zarith, bal+ (pos 0) (pos m))
column_of (negsuc m) i h = let z : ⊥ = omega (zarith, bal+ (pos 0) (pos i)) in absurd z

col_order : (x : ℤ) (m n : ℕ) → (x +ℤ pos m) <ℤ (x +ℤ pos n) → m < n
col_order x m n h = omega (zarith, bal+ x (pos m), bal+ x (pos n))

order_col : (x : ℤ) (m n : ℕ) → m < n → (x +ℤ pos m) <ℤ (x +ℤ pos n)
order_col x m n h = omega (zarith, bal+ x (pos m), bal+ x (pos n))

col_same : (x : ℤ) (m n : ℕ) → x +ℤ pos m ≡ x +ℤ pos n → m ≡ n
col_same x m n h = omega (zarith, bal+ x (pos m), bal+ x (pos n))

module _ (w : List ℕ) (letters : Below 2 w) where
  ys : List ℕ
  ys = depths_from (length w) w

  h : ℤ
  h = pos (length w)

  begins : pos 0 ≡ h -ℤ pos (length w)
  unfolding h
  begins = omega (zarith, bal- (pos (length w)) (pos (length w)))

  top_in : (j : ℕ) → j < length ys → Memᴰ (top (pos 0) h ys j) (corners_from origin w)
  unfolding ys
  top_in = tops_in h w letters origin (length w) (omega arith) begins

  has_top : (p : Corner) → Memᴰ p (corners_from origin w) → Under (pos 0) h ys p
  unfolding ys
  has_top = under_tops h w letters origin (length w) (omega arith) begins

  -- nothing lies between if the test passes
  level-none : Level ys → (q : Corner) → Between (corners_from origin w) q → ⊥
  level-none f q t = go (has_top t.a t.from) (has_top t.b t.to)
    where
      go : Under (pos 0) h ys t.a → Under (pos 0) h ys t.b → ⊥
      go u z = on (column_of q.0 u.col (subst (λ (x : ℤ). x <ℤ q.0) u.stands t.left))
        where
          on : (m : ℕ) × (q.0 ≡ pos 0 +ℤ pos m) → ⊥
          on (m, e) =
              not_under t.a t.b q (pos 0 +ℤ pos u.col) (pos 0 +ℤ pos z.col) (pos 0 +ℤ pos m) (h -ℤ pos (get_or ys u.col 0)) (h -ℤ pos (get_or ys z.col 0)) ((h -ℤ pos (get_or ys m 0)) +ℤ pos 1)
              u.stands z.stands e u.lower z.lower (over (t.above (top (pos 0) h ys m) (top_in m (omega (arith, z.within, r))) (sym e))) t.left t.right
              (level-above (pos 0) h ys u.col m z.col l r (f u.col m z.col l r z.within)) t.under
            where
              l : u.col < m
              l = col_order (pos 0) u.col m (subst (λ (x : ℤ). x <ℤ (pos 0 +ℤ pos m)) u.stands (subst (λ (x : ℤ). t.a.0 <ℤ x) e t.left))

              r : m < z.col
              r = col_order (pos 0) m z.col (subst (λ (x : ℤ). x <ℤ (pos 0 +ℤ pos z.col)) e (subst (λ (x : ℤ). q.0 <ℤ x) z.stands t.right))

              over : (h -ℤ pos (get_or ys m 0)) <ℤ q.1 → ((h -ℤ pos (get_or ys m 0)) +ℤ pos 1) ≤ℤ q.1
              over g = omega (zarith, bal+ (h -ℤ pos (get_or ys m 0)) (pos 1))

  -- and if nothing lies between it passes
  none-level : ((q : Corner) → Between (corners_from origin w) q → ⊥) → Level ys
  none-level f a c b l r m = go (level ys a b c) refl
    where
      above : (p : Corner) → Memᴰ p (corners_from origin w) → p.0 ≡ pos 0 +ℤ pos c → p.1 <ℤ ((h -ℤ pos (get_or ys c 0)) +ℤ pos 1)
      above p i e = high (has_top p i)
        where
          high : Under (pos 0) h ys p → p.1 <ℤ ((h -ℤ pos (get_or ys c 0)) +ℤ pos 1)
          high u = omega (zarith, subst (λ (j : ℕ). p.1 ≤ℤ (h -ℤ pos (get_or ys j 0))) (col_same (pos 0) u.col c (sym u.stands ∙ e)) u.lower, bal+ (h -ℤ pos (get_or ys c 0)) (pos 1))

      go : (t : Bool) → level ys a b c ≡ t → level ys a b c ≡ true
      go true e = e
      go false e = absurd (f (next (pos 0) h ys c) (record { a = top (pos 0) h ys a; b = top (pos 0) h ys b; from = top_in a (omega arith); to = top_in b m; left = order_col (pos 0) a c l; right = order_col (pos 0) c b r; under = level-under (pos 0) h ys a c b l r e; above = above }))

-- the letters
letters_below : (w : List ℕ) → are_letters w ≡ true → Below 2 w
unfolding are_letters
letters_below [] t = tt
letters_below (d ∷ w) t = (ltb-true d 2 (both (ltb d 2) (are_letters w) t).0, letters_below w (both (ltb d 2) (are_letters w) t).1)

below_letters : (w : List ℕ) → Below 2 w → are_letters w ≡ true
unfolding are_letters
below_letters [] b = refl
below_letters (d ∷ w) b = two (lt-ltb d 2 b.0) (below_letters w b.1)

-- the decision on a part is right
pub convex_part_exactly : (w : List ℕ) → (convex_part w ≡ true) ↔ ConvexPart w
unfolding convex_part ys
convex_part_exactly w = (there, back)
  where
    there : (are_letters w && level_of (depths_from (length w) w)) ≡ true → ConvexPart w
    there t =
        let e = both (are_letters w) (level_of (depths_from (length w) w)) t in
        let b : Below 2 w = letters_below w e.0 in
        record { letters = b; none = level-none w b ((level_of_exactly (depths_from (length w) w)).0 e.1) }

    back : ConvexPart w → (are_letters w && level_of (depths_from (length w) w)) ≡ true
    back p = two (below_letters w p.letters) ((level_of_exactly (depths_from (length w) w)).1 (none-level w p.letters p.none))
