-- Which way three corners turn.
-- Assumes nothing.
use mathlib.Core.Bool.{Bool, true, false, false≢true}
use mathlib.Core.Path.{◌≡◌, refl, subst}
use mathlib.Core.List.{[], ◌∷◌}
use Prim.Native.Nat.{ℕ, ◌+◌, ◌*◌}
use lib.IntN.{ℤ, pos}
use lib.Signed.{◌≤ℤ◌, ◌<ℤ◌}
use Rattle.int_laws.proofs.LinearLaws.{zarith}
use Rattle.int_laws.proofs.RingLaws.{E, v, k, ◌⊕◌, ◌⊖◌, ◌⊗◌, ring}
use Rattle.int_laws.proofs.SignLaws.{h≤, h<, hw, eqt, ◌⊞◌, ◌⊠◌, ◌⊡◌, by≤, by≤÷, by<÷}
use Rattle.grid.specs.declared.Corner.{Corner}
use Rattle.grid.specs.Grid.{same, numbers}
use Rattle.grid.proofs.CornerLaws.{same_sound, same_refl}
use Rattle.hull.specs.Hull.{Left, OnLeft, cross}

-- the variables of the i-th corner of a list; `numbers` are their values
abbrev pub X : ℕ → E
X i = v (2 * i)

abbrev pub Y : ℕ → E
Y i = v (2 * i + 1)

-- the cross product of corners i, j and l: above 0 if they turn left
abbrev pub cr : ℕ → ℕ → ℕ → E
cr i j l = (X j ⊖ X i) ⊗ (Y l ⊖ Y i) ⊖ (Y j ⊖ Y i) ⊗ (X l ⊖ X i)

-- how far corner i lies in the direction of variables 0 and 1, which stand before the corners' own
abbrev pub dt : ℕ → E
dt i = v 0 ⊗ X i ⊕ v 1 ⊗ Y i

abbrev pub O : E
O = k (pos 0)

unfoldable pub corner_dec : (p q : Corner) → Dec (p ≡ q)
corner_dec p q = go (same p q) (same_sound p q) (λ e. subst (λ (z : Corner). same p z ≡ true) e (same_refl p))
  where
    go : (b : Bool) → (b ≡ true → p ≡ q) → (p ≡ q → b ≡ true) → Dec (p ≡ q)
    go true f g = yes (f refl)
    go false f g = no (λ e. false≢true (g e))

cross_rot : (a b c : Corner) → cross a b c ≡ cross b c a
unfolding cross
cross_rot a b c = ring 6 (numbers (a ∷ b ∷ c ∷ [])) (cr 0 1 2) (cr 1 2 0) tt

pub left_rot : {a b c : Corner} → Left a b c → Left b c a
left_rot {a} {b} {c} h = record { left = subst (λ (z : ℤ). pos 0 <ℤ z) (cross_rot a b c) h.left }

pub on_rot : {a b c : Corner} → OnLeft a b c → OnLeft b c a
on_rot {a} {b} {c} h = record { on = subst (λ (z : ℤ). pos 0 ≤ℤ z) (cross_rot a b c) h.on }

pub left_on : {a b c : Corner} → Left a b c → OnLeft a b c
left_on {a} {b} {c} h = record { on = omega zarith }

pub not_left : (p b a : Corner) → cross p b a ≤ℤ pos 0 → OnLeft p a b
unfolding cross
not_left p b a h = record { on = by≤ O (cr 0 2 1) (h≤ 6 (numbers (p ∷ b ∷ a ∷ [])) (cr 0 1 2) O h) tt }

pub on_self : (a b : Corner) → OnLeft a b b
unfolding cross
on_self a b = record { on = by≤ O (cr 0 1 1) (h≤ 4 (numbers (a ∷ b ∷ [])) O O (omega zarith)) tt }

pub on_self' : (a b : Corner) → OnLeft a b a
unfolding cross
on_self' a b = record { on = by≤ O (cr 0 1 0) (h≤ 4 (numbers (a ∷ b ∷ [])) O O (omega zarith)) tt }

-- from a corner to itself
pub on_same : (a q : Corner) → OnLeft a a q
unfolding cross
on_same a q = record { on = by≤ O (cr 0 0 1) (h≤ 4 (numbers (a ∷ q ∷ [])) O O (omega zarith)) tt }

-- p, b, a, z from left to right: two left turns join
pub left_join : {p b a z : Corner} → Left p b a → Left b a z → p.0 <ℤ b.0 → b.0 <ℤ a.0 → a.0 <ℤ z.0 → Left p a z
unfolding cross
left_join {p} {b} {a} {z} h g i j l =
    let ρ = numbers (p ∷ b ∷ a ∷ z ∷ []) in
    record { left = by<÷ (X 2 ⊖ X 1) O (cr 0 2 3) (hw 8 ρ (X 1) (X 2) j) (h< 8 ρ (X 2) (X 3) l ⊡ h< 8 ρ O (cr 0 1 2) h.left ⊞ (hw 8 ρ (X 0) (X 1) i ⊞ hw 8 ρ (X 1) (X 2) j) ⊠ hw 8 ρ O (cr 1 2 3) g.left) tt }

-- p, b, a from left to right, turning left; q at or right of b, on or left of b a: so q is on or left of p b
pub on_ext : {p b a q : Corner} → Left p b a → OnLeft b a q → p.0 <ℤ b.0 → b.0 <ℤ a.0 → b.0 ≤ℤ q.0 → OnLeft p b q
unfolding cross
on_ext {p} {b} {a} {q} h g i j l =
    let ρ = numbers (p ∷ b ∷ a ∷ q ∷ []) in
    record { on = by≤÷ (X 2 ⊖ X 1) O (cr 0 1 3) (h< 8 ρ (X 1) (X 2) j) (h≤ 8 ρ (X 1) (X 3) l ⊠ hw 8 ρ O (cr 0 1 2) h.left ⊞ hw 8 ρ (X 0) (X 1) i ⊠ h≤ 8 ρ O (cr 1 2 3) g.on) tt }

-- b is popped: it is on or left of p a. What is on or left of p b, right of p, is on or left of p a
pub on_near : {p b a q : Corner} → OnLeft p b q → OnLeft p a b → p.0 <ℤ b.0 → p.0 <ℤ a.0 → p.0 ≤ℤ q.0 → OnLeft p a q
unfolding cross
on_near {p} {b} {a} {q} h g i j l =
    let ρ = numbers (p ∷ b ∷ a ∷ q ∷ []) in
    record { on = by≤÷ (X 1 ⊖ X 0) O (cr 0 2 3) (h< 8 ρ (X 0) (X 1) i) (h≤ 8 ρ (X 0) (X 3) l ⊠ h≤ 8 ρ O (cr 0 2 1) g.on ⊞ hw 8 ρ (X 0) (X 2) j ⊠ h≤ 8 ρ O (cr 0 1 3) h.on) tt }

-- and what is on or left of b a, left of a
pub on_far : {p b a q : Corner} → OnLeft b a q → OnLeft p a b → b.0 <ℤ a.0 → p.0 <ℤ a.0 → q.0 ≤ℤ a.0 → OnLeft p a q
unfolding cross
on_far {p} {b} {a} {q} h g i j l =
    let ρ = numbers (p ∷ b ∷ a ∷ q ∷ []) in
    record { on = by≤÷ (X 2 ⊖ X 1) O (cr 0 2 3) (h< 8 ρ (X 1) (X 2) i) (hw 8 ρ (X 0) (X 2) j ⊠ h≤ 8 ρ O (cr 1 2 3) h.on ⊞ h≤ 8 ρ (X 3) (X 2) l ⊠ h≤ 8 ρ O (cr 0 2 1) g.on) tt }

-- what lies above m is on the same side as m of a line from left to right
pub on_above : {a b m q : Corner} → OnLeft a b m → a.0 <ℤ b.0 → m.0 ≡ q.0 → m.1 ≤ℤ q.1 → OnLeft a b q
unfolding cross
on_above {a} {b} {m} {q} h i e l =
    let ρ = numbers (a ∷ b ∷ m ∷ q ∷ []) in
    record { on = by≤ O (cr 0 1 3) (h≤ 8 ρ O (cr 0 1 2) h.on ⊞ hw 8 ρ (X 0) (X 1) i ⊠ h≤ 8 ρ (Y 2) (Y 3) l ⊞ eqt 8 ρ (X 2) (X 3) (Y 0 ⊖ Y 1) e) tt }
