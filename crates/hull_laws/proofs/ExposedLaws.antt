-- The corners of a chain are exposed, and every exposed corner is on a chain.
--
-- An inequality is proved by a certificate over the numbers ρ of some corners: `X i` and `Y i` are the coordinates of the i-th of them, `cr i j l`
-- is the cross product of three, `dt i` how far one lies in a direction, `O` is 0. A fact comes in by `h≤`, `h<`, `hw` (a < b, as a ≤ b), `h≡`,
-- `h≢`, `hp` (0 < a), `h0` (0 ≤ a) or `eqt` (an equation times anything), with the number of variables, ρ and its two sides; `◌⊞◌` adds, `◌⊠◌` and
-- `◌⊡◌` multiply. `by≤`, `by<`, `by≡` and `by⊥` conclude; `by<÷ m` divides by m (int_laws, SignLaws).
-- Assumes nothing.
use mathlib.Core.Path.{◌≡◌, refl, sym, ap, subst}
use mathlib.Core.List.Memᴰ
use mathlib.Core.List.{List, [], ◌∷◌, Memᴰ}
use mathlib.Core.Logic.{◌⊎◌, inl, inr}
use Prim.Native.Nat.{ℕ, zero, ◌+◌, ◌≤◌}
use native.Mathlib.Omega.{arith}
use lib.IntN.{ℤ, pos, negsuc, neg_ℤ, nat_abs, ◌+ℤ◌, ◌-ℤ◌, ◌*ℤ◌}
use lib.Signed.{◌≤ℤ◌, ◌<ℤ◌}
use Rattle.int_laws.proofs.LinearLaws.{zarith, le_or_lt, up_neg, dn-neg}
use Rattle.int_laws.proofs.RangeLaws.{abs_nat}
use Rattle.int_laws.proofs.RingLaws.{E, v, k, ◌⊕◌, ◌⊖◌, ◌⊗◌, ⊝}
use Rattle.int_laws.proofs.SignLaws.{Nn, h≤, h<, h0, hp, eqt, by≤, by<, by⊥, by≤÷, ◌⊞◌, ◌⊠◌, ◌⋆◌}
use Rattle.grid.specs.declared.Corner.{Corner}
use Rattle.grid.specs.Grid.{numbers, Begins}
use Rattle.hull.specs.Hull.{Exposed, Left, cross, reach, AllLeft, OnLeft}
use Rattle.hull_laws.proofs.ChainLaws.{Chain, Ends}
use Rattle.hull_laws.proofs.CornerLaws.{O, X, Y, cr, dt, corner_dec}
use Rattle.grid.proofs.CornerLaws.{corner_eq}

-- how far p lies in the direction square to a b, to its right
abbrev square : Corner → Corner → Corner → ℤ
square a b = reach (b.1 -ℤ a.1) (a.0 -ℤ b.0)

-- if two edges meet at a left turn, the corner between them is exposed
-- on both lines
meet : (a q b p : Corner) → Left a q b → cross a q p ≡ pos 0 → cross q b p ≡ pos 0 → p ≡ q
unfolding cross
meet a q b p h e f =
    let ρ = numbers (a ∷ q ∷ b ∷ p ∷ []) in
    let turn = hp 8 ρ (cr 0 1 2) h.left in
    let on : (m n : E) → Nn 8 ρ (((O ⊖ cr 0 1 3) ⊗ m) ⊕ ((O ⊖ cr 1 2 3) ⊗ n)) = λ m n. eqt 8 ρ (cr 0 1 3) O m e ⊞ eqt 8 ρ (cr 1 2 3) O n f in
    let xl : p.0 ≤ℤ q.0 = by≤÷ (cr 0 1 2) (X 3) (X 1) turn (on (X 2 ⊖ X 1) (X 0 ⊖ X 1)) tt in
    let xr : q.0 ≤ℤ p.0 = by≤÷ (cr 0 1 2) (X 1) (X 3) turn (on (X 1 ⊖ X 2) (X 1 ⊖ X 0)) tt in
    let yl : p.1 ≤ℤ q.1 = by≤÷ (cr 0 1 2) (Y 3) (Y 1) turn (on (Y 2 ⊖ Y 1) (Y 0 ⊖ Y 1)) tt in
    let yr : q.1 ≤ℤ p.1 = by≤÷ (cr 0 1 2) (Y 1) (Y 3) turn (on (Y 1 ⊖ Y 2) (Y 1 ⊖ Y 0)) tt in
    corner_eq p q (omega zarith) (omega zarith)

-- not less in the direction square to a b: so on both lines
level : (a q b p : Corner) → OnLeft a q p → OnLeft q b p → square a b q ≤ℤ square a b p → (cross a q p ≤ℤ pos 0) × (cross q b p ≤ℤ pos 0)
unfolding cross reach
level a q b p h g l =
    let ρ = numbers (a ∷ q ∷ b ∷ p ∷ []) in
    let w = h≤ 8 ρ ((Y 2 ⊖ Y 0) ⊗ X 1 ⊕ (X 0 ⊖ X 2) ⊗ Y 1) ((Y 2 ⊖ Y 0) ⊗ X 3 ⊕ (X 0 ⊖ X 2) ⊗ Y 3) l in
    (by≤ (cr 0 1 3) O (w ⊞ h≤ 8 ρ O (cr 1 2 3) g.on) tt, by≤ (cr 1 2 3) O (w ⊞ h≤ 8 ρ O (cr 0 1 3) h.on) tt)

turn_exposed : (P : List Corner) (a q b : Corner) → Memᴰ q P → AllLeft P a q → AllLeft P q b → Left a q b → Exposed P q
turn_exposed P a q b m f g h = record { visited = m; u = b.1 -ℤ a.1; v = a.0 -ℤ b.0; most = top }
  where
    top : (p : Corner) → Memᴰ p P → ¬ (p ≡ q) → square a b p <ℤ square a b q
    top p n d = go (le_or_lt (square a b q) (square a b p))
      where
        go : (square a b q ≤ℤ square a b p) ⊎ (square a b p <ℤ square a b q) → square a b p <ℤ square a b q
        go (inr r) = r
        go (inl l) = absurd (d (meet a q b p h (zero (cross a q p) (level a q b p (f p n) (g p n) l).0 (f p n).on) (zero (cross q b p) (level a q b p (f p n) (g p n) l).1 (g p n).on)))
          where
            zero : (z : ℤ) → z ≤ℤ pos 0 → pos 0 ≤ℤ z → z ≡ pos 0
            zero z x y = omega zarith

-- a corner on or above an edge from left to right, in its columns, is below one of its ends in any direction that does not go up
seg : (u w : ℤ) (a b q : Corner) → a.0 <ℤ b.0 → a.0 ≤ℤ q.0 → q.0 ≤ℤ b.0 → OnLeft a b q → w ≤ℤ pos 0 → reach u w a <ℤ reach u w q → reach u w b <ℤ reach u w q → ⊥
unfolding cross reach
seg u w a b q i j l h n f g =
    let ρ = u ∷ w ∷ numbers (a ∷ b ∷ q ∷ []) in
    by⊥ (h≤ 8 ρ (X 3) (X 2) l ⊠ h< 8 ρ (dt 1) (dt 3) f ⊞ h≤ 8 ρ (X 1) (X 3) j ⊠ h< 8 ρ (dt 2) (dt 3) g ⊞ h≤ 8 ρ (v 1) O n ⊠ h0 8 ρ (cr 1 2 3) h.on ⊞ h< 8 ρ (X 1) (X 2) i) tt

-- straight above
col : (u w : ℤ) (b q : Corner) → q.0 ≡ b.0 → b.1 ≤ℤ q.1 → w ≤ℤ pos 0 → reach u w b <ℤ reach u w q → ⊥
unfolding reach
col u w b q e l n f =
    let ρ = u ∷ w ∷ numbers (b ∷ q ∷ []) in
    by⊥ (h< 6 ρ (dt 1) (dt 2) f ⊞ h≤ 6 ρ (v 1) O n ⊠ h≤ 6 ρ (Y 1) (Y 2) l ⊞ eqt 6 ρ (X 2) (X 1) (v 0) e) tt

-- so a corner in such a direction is on the chain
pub cover : (P : List Corner) (q : Corner) (c : Exposed P q) → c.v ≤ℤ pos 0 → (b : Corner) (s : List Corner) → Chain P (b ∷ s) → ((p : Corner) → Memᴰ p (b ∷ s) → Memᴰ p P) → b.0 ≤ℤ q.0 → Memᴰ q (b ∷ s)
cover P q c n b [] h sub l = go (corner_dec q b) (h q c.visited)
  where
    go : Dec (q ≡ b) → Ends b q → Memᴰ q (b ∷ [])
    go (yes e) z = Memᴰ.head e
    go (no d) (inl z) = absurd (bad z)
      where
        bad : q.0 <ℤ b.0 → ⊥
        bad z = omega zarith
    go (no d) (inr z) = absurd (col c.u c.v b q z.0 z.1 n (c.most b (sub b (Memᴰ.head refl)) (λ e. d (sym e))))
cover P q c n b (a ∷ s) h sub l = go (le_or_lt q.0 a.0) (corner_dec q b) (corner_dec q a) (cover P q c n a s h.3 (λ p m. sub p (Memᴰ.tail m)))
  where
    go : (q.0 ≤ℤ a.0) ⊎ (a.0 <ℤ q.0) → Dec (q ≡ b) → Dec (q ≡ a) → (a.0 ≤ℤ q.0 → Memᴰ q (a ∷ s)) → Memᴰ q (b ∷ (a ∷ s))
    go z (yes e) y f = Memᴰ.head e
    go z (no d) (yes e) f = Memᴰ.tail (Memᴰ.head e)
    go (inl z) (no d) (no e) f = absurd (seg c.u c.v b a q h.0 l z (h.1 q c.visited) n (c.most b (sub b (Memᴰ.head refl)) (λ r. d (sym r))) (c.most a (sub a (Memᴰ.tail (Memᴰ.head refl))) (λ r. e (sym r))))
    go (inr z) (no d) (no e) f = Memᴰ.tail (f (omega zarith))

-- the ends of a chain are exposed, by a direction that is nearly level
-- no y of the list is above this, or below its negation
bound : List Corner → ℕ
bound [] = 0
bound (p ∷ l) = nat_abs p.1 + bound l

bound_is : (P : List Corner) (q : Corner) → Memᴰ q P → nat_abs q.1 ≤ bound P
unfolding bound
bound_is [] q m = absurd (Memᴰ.not-nil m)
bound_is (p ∷ l) q (Memᴰ.head e) = omega (arith, ap (λ (z : Corner). nat_abs z.1) e)
bound_is (p ∷ l) q (Memᴰ.tail m) = omega (arith, bound_is l q m)

-- the first part of a direction that is nearly level, if no y is above K or below its negation: by a step along x it loses more than any two y differ
abbrev steep : ℤ → ℤ → ℤ
steep K s = neg_ℤ (s *ℤ (K +ℤ K +ℤ pos 1))

lean : (K s : ℤ) (b p : Corner) → pos 0 ≤ℤ K → (neg_ℤ K) ≤ℤ p.1 → b.1 ≤ℤ K → (s *ℤ b.0) <ℤ (s *ℤ p.0) → reach (steep K s) (negsuc 0) p <ℤ reach (steep K s) (negsuc 0) b
unfolding reach
lean K s b p z i j l =
    let ρ = K ∷ s ∷ numbers (b ∷ p ∷ []) in
    let u : E = ⊝ (v 1 ⊗ (v 0 ⊕ v 0 ⊕ k (pos 1))) in
    by< (u ⊗ X 2 ⊕ k (negsuc 0) ⊗ Y 2) (u ⊗ X 1 ⊕ k (negsuc 0) ⊗ Y 1) (h< 6 ρ (v 1 ⊗ X 1) (v 1 ⊗ X 2) l ⊠ (2 ⋆ h0 6 ρ (v 0) z ⊞ h0 6 ρ (k (pos 1)) (omega zarith)) ⊞ h≤ 6 ρ (⊝ (v 0)) (Y 2) i ⊞ h≤ 6 ρ (Y 1) (v 0) j) tt

same_col : (u : ℤ) (b p : Corner) → b.0 ≡ p.0 → b.1 <ℤ p.1 → reach u (negsuc 0) p <ℤ reach u (negsuc 0) b
unfolding reach
same_col u b p e l =
    let ρ = u ∷ pos 0 ∷ numbers (b ∷ p ∷ []) in
    by< (v 0 ⊗ X 2 ⊕ k (negsuc 0) ⊗ Y 2) (v 0 ⊗ X 1 ⊕ k (negsuc 0) ⊗ Y 1) (h< 6 ρ (Y 1) (Y 2) l ⊞ eqt 6 ρ (X 2) (X 1) (v 0) (sym e)) tt

-- s is 1 for the left end and -1 for the right end
end_exposed : (P : List Corner) (s : ℤ) (b : Corner) → Memᴰ b P → ((q : Corner) → Memᴰ q P → ((s *ℤ b.0) <ℤ (s *ℤ q.0)) ⊎ ((b.0 ≡ q.0) × (b.1 ≤ℤ q.1))) → Exposed P b
end_exposed P s b m f = record { visited = m; u = steep (pos (bound P)) s; v = negsuc 0; most = top }
  where
    top : (p : Corner) → Memᴰ p P → ¬ (p ≡ b) → reach (steep (pos (bound P)) s) (negsuc 0) p <ℤ reach (steep (pos (bound P)) s) (negsuc 0) b
    top p n d = go (f p n)
      where
        go : ((s *ℤ b.0) <ℤ (s *ℤ p.0)) ⊎ ((b.0 ≡ p.0) × (b.1 ≤ℤ p.1)) → reach (steep (pos (bound P)) s) (negsuc 0) p <ℤ reach (steep (pos (bound P)) s) (negsuc 0) b
        go (inl l) = lean (pos (bound P)) s b p (omega zarith) (omega (zarith, abs_nat p.1, bound_is P p n, up_neg (pos (bound P)), dn-neg (pos (bound P)))) (omega (zarith, abs_nat b.1, bound_is P b m)) l
        go (inr l) = same_col (steep (pos (bound P)) s) b p l.0 (strict (le_or_lt p.1 b.1))
          where
            strict : (p.1 ≤ℤ b.1) ⊎ (b.1 <ℤ p.1) → b.1 <ℤ p.1
            strict (inr z) = z
            strict (inl z) = absurd (d (corner_eq p b (sym l.0) (omega (zarith, l.1))))

times_one : (a b : ℤ) → a <ℤ b → (pos 1 *ℤ a) <ℤ (pos 1 *ℤ b)
times_one a b h = by< (k (pos 1) ⊗ v 0) (k (pos 1) ⊗ v 1) (h< 2 (a ∷ b ∷ []) (v 0) (v 1) h) tt

times_minus : (a b : ℤ) → b <ℤ a → (negsuc 0 *ℤ a) <ℤ (negsuc 0 *ℤ b)
times_minus a b h = by< (k (negsuc 0) ⊗ v 0) (k (negsuc 0) ⊗ v 1) (h< 2 (a ∷ b ∷ []) (v 1) (v 0) h) tt

pub first_exposed : (P : List Corner) (b : Corner) → Memᴰ b P → ((q : Corner) → Memᴰ q P → Begins b q) → Exposed P b
first_exposed P b m f = end_exposed P (pos 1) b m (λ q n. go q (f q n))
  where
    go : (q : Corner) → Begins b q → ((pos 1 *ℤ b.0) <ℤ (pos 1 *ℤ q.0)) ⊎ ((b.0 ≡ q.0) × (b.1 ≤ℤ q.1))
    go q (inl h) = inl (times_one b.0 q.0 h)
    go q (inr h) = inr h

last_exposed : (P : List Corner) (b : Corner) → Memᴰ b P → ((q : Corner) → Memᴰ q P → Ends b q) → Exposed P b
last_exposed P b m f = end_exposed P (negsuc 0) b m (λ q n. go q (f q n))
  where
    go : (q : Corner) → Ends b q → ((negsuc 0 *ℤ b.0) <ℤ (negsuc 0 *ℤ q.0)) ⊎ ((b.0 ≡ q.0) × (b.1 ≤ℤ q.1))
    go q (inl h) = inl (times_minus b.0 q.0 h)
    go q (inr h) = inr (sym h.0, h.1)

rest_exposed : (P : List Corner) (b a : Corner) (s : List Corner) → Chain P (b ∷ (a ∷ s)) → ((q : Corner) → Memᴰ q (a ∷ s) → Memᴰ q P) → (q : Corner) → Memᴰ q (a ∷ s) → Exposed P q
rest_exposed P b a [] c sub q (Memᴰ.head e) = subst (λ (z : Corner). Exposed P z) (sym e) (last_exposed P a (sub a (Memᴰ.head refl)) c.3)
rest_exposed P b a [] c sub q (Memᴰ.tail m) = absurd (Memᴰ.not-nil m)
rest_exposed P b a (z ∷ s) c sub q (Memᴰ.head e) = subst (λ (z : Corner). Exposed P z) (sym e) (turn_exposed P b a z (sub a (Memᴰ.head refl)) c.1 (second s c.3) c.2)
  where
    second : (s : List Corner) → Chain P (a ∷ (z ∷ s)) → AllLeft P a z
    second s c = c.1
rest_exposed P b a (z ∷ s) c sub q (Memᴰ.tail m) = rest_exposed P a z s c.3 (λ p n. sub p (Memᴰ.tail n)) q m

-- every corner of the chain is exposed
pub chain_exposed : (P : List Corner) (b : Corner) (s : List Corner) → Chain P (b ∷ s) → ((q : Corner) → Memᴰ q (b ∷ s) → Memᴰ q P) → ((q : Corner) → Memᴰ q P → Begins b q) → (q : Corner) → Memᴰ q (b ∷ s) → Exposed P q
chain_exposed P b s c sub f q (Memᴰ.head e) = subst (λ (z : Corner). Exposed P z) (sym e) (first_exposed P b (sub b (Memᴰ.head refl)) f)
chain_exposed P b [] c sub f q (Memᴰ.tail m) = absurd (Memᴰ.not-nil m)
chain_exposed P b (a ∷ s) c sub f q (Memᴰ.tail m) = rest_exposed P b a s c (λ p n. sub p (Memᴰ.tail n)) q m
