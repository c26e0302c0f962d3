-- The corners in their order: from edges that have all corners on or left of them to the statement on any three.
--
-- An inequality is proved by a certificate over the numbers ρ of some corners: `X i` and `Y i` are the coordinates of the i-th of them, `cr i j l`
-- is the cross product of three, `dt i` how far one lies in a direction, `O` is 0. A fact comes in by `h≤`, `h<`, `hw` (a < b, as a ≤ b), `h≡`,
-- `h≢`, `hp` (0 < a), `h0` (0 ≤ a) or `eqt` (an equation times anything), with the number of variables, ρ and its two sides; `◌⊞◌` adds, `◌⊠◌` and
-- `◌⊡◌` multiply. `by≤`, `by<`, `by≡` and `by⊥` conclude; `by<÷ m` divides by m (int_laws, SignLaws).
-- Assumes nothing.
use mathlib.Core.Path.{◌≡◌, refl, sym, subst}
use mathlib.Core.List.Memᴰ
use mathlib.Core.List.{List, [], ◌∷◌, Memᴰ}
use mathlib.Core.Logic.{◌⊎◌, inl, inr, ⊎_elim}
use lib.IntN.{ℤ, pos, ◌-ℤ◌, ◌*ℤ◌, *ℤ_comm}
use lib.Signed.{◌≤ℤ◌, ◌<ℤ◌}
use Rattle.int_laws.proofs.LinearLaws.{zarith, le_or_lt}
use Rattle.int_laws.proofs.RingLaws.{v, ◌⊖◌, ◌⊗◌}
use Rattle.int_laws.proofs.SignLaws.{h≤, h<, hw, h≡, h≢, h0, hp, eqt, by≤, by<, by⊥, by≡, by<÷, ◌⊞◌, ◌⊠◌, ◌⊡◌}
use Rattle.grid.specs.declared.Corner.{Corner}
use Rattle.grid.specs.Grid.{numbers, Begins}
use Rattle.lists.specs.Lists.{Distinct}
use Rattle.hull.specs.Hull.{Ccw, Exposed, Left, Pairs, cross, reach, AllLeft, OnLeft}
use Rattle.hull_laws.proofs.CornerLaws.{O, X, Y, cr, dt, left_rot, on_rot}
use Rattle.grid.proofs.CornerLaws.{corner_eq}

flat_left : (a b : Corner) → Left a b b → ⊥
unfolding cross
flat_left a b h = by⊥ (hp 4 (numbers (a ∷ b ∷ [])) (cr 0 1 1) h.left) tt

-- three that turn left are different
left_ne : {a b c : Corner} → Left a b c → ¬ (b ≡ c)
left_ne {a} {b} {c} h e = flat_left a c (subst (λ (z : Corner). Left a z c) e h)

pub begins_x : (o a : Corner) → Begins o a → o.0 ≤ℤ a.0
begins_x o a (inl h) = omega zarith
begins_x o a (inr h) = omega (zarith, h.0)

-- a lies right of o if something lies left of o a
right_of_lem : (o a b : Corner) → Begins o a → Begins o b → Left o a b → o.0 <ℤ a.0
unfolding cross
right_of_lem o a b (inl h) g l = h
right_of_lem o a b (inr h) g l =
    let ρ = numbers (o ∷ a ∷ b ∷ []) in
    absurd (by⊥ (hp 6 ρ (cr 0 1 2) l.left ⊞ h≤ 6 ρ (Y 0) (Y 1) h.1 ⊠ h≤ 6 ρ (X 0) (X 2) (begins_x o b g) ⊞ eqt 6 ρ (X 0) (X 1) (Y 0 ⊖ Y 2) h.0) tt)

-- the order round o
left_trans : (o a b c : Corner) → Begins o a → Begins o b → Begins o c → Left o a b → Left o b c → Left o a c
unfolding cross
left_trans o a b c f g h l m =
    let ρ = numbers (o ∷ a ∷ b ∷ c ∷ []) in
    record { left = by<÷ (X 2 ⊖ X 0) O (cr 0 1 3) (h≤ 8 ρ (X 0) (X 2) (begins_x o b g)) (h< 8 ρ (X 0) (X 1) (right_of_lem o a b f g l) ⊡ hp 8 ρ (cr 0 2 3) m.left ⊞ h≤ 8 ρ (X 0) (X 3) (begins_x o c h) ⊠ hw 8 ρ O (cr 0 1 2) l.left) tt }

-- a corner that lies left of o a, with c left of o b, makes a left turn
turn_in : (u w : ℤ) (o a b c : Corner) → Left o a b → Left o b c → reach u w o <ℤ reach u w b → reach u w a <ℤ reach u w b → reach u w c <ℤ reach u w b → cross a b c ≤ℤ pos 0 → ⊥
unfolding cross reach
turn_in u w o a b c l m f g h n =
    let ρ = u ∷ w ∷ numbers (o ∷ a ∷ b ∷ c ∷ []) in
    by⊥ (hp 10 ρ (cr 1 3 4) m.left ⊡ h< 10 ρ (dt 2) (dt 3) g ⊞ hw 10 ρ O (cr 1 2 3) l.left ⊠ hw 10 ρ (dt 4) (dt 3) h ⊞ h≤ 10 ρ (cr 2 3 4) O n ⊠ hw 10 ρ (dt 1) (dt 3) f) tt

left_ne₁ : {a b c : Corner} → Left a b c → ¬ (a ≡ c)
left_ne₁ h e = left_ne (left_rot h) (sym e)

turn_left : (P : List Corner) (o a b c : Corner) → Memᴰ o P → Memᴰ a P → Memᴰ c P → Exposed P b → Left o a b → Left o b c → Left a b c
turn_left P o a b c i j l e f g = go (le_or_lt (cross a b c) (pos 0))
  where
    go : (cross a b c ≤ℤ pos 0) ⊎ (pos 0 <ℤ cross a b c) → Left a b c
    go (inr h) = record { left = h }
    go (inl h) = absurd (turn_in e.u e.v o a b c f g (e.most o i (left_ne₁ f)) (e.most a j (left_ne f)) (e.most c l (λ r. left_ne g (sym r))) h)

-- three corners are in no line
-- a between o and b: s a = (s - r) o + r b
between : (u w r s : ℤ) (o a b : Corner) → pos 0 <ℤ s → pos 0 ≤ℤ r → r ≤ℤ s → s *ℤ (a.0 -ℤ o.0) ≡ r *ℤ (b.0 -ℤ o.0) → s *ℤ (a.1 -ℤ o.1) ≡ r *ℤ (b.1 -ℤ o.1) → reach u w o <ℤ reach u w a → reach u w b <ℤ reach u w a → ⊥
unfolding reach
between u w r s o a b i j l e f g h =
    let ρ = u ∷ w ∷ r ∷ s ∷ numbers (o ∷ a ∷ b ∷ []) in
    by⊥ (h≤ 10 ρ (v 2) (v 3) l ⊠ h< 10 ρ (dt 2) (dt 3) g ⊞ h0 10 ρ (v 2) j ⊠ h< 10 ρ (dt 4) (dt 3) h ⊞ hp 10 ρ (v 3) i ⊞ eqt 10 ρ (v 3 ⊗ (X 3 ⊖ X 2)) (v 2 ⊗ (X 4 ⊖ X 2)) (v 0) e ⊞ eqt 10 ρ (v 3 ⊗ (Y 3 ⊖ Y 2)) (v 2 ⊗ (Y 4 ⊖ Y 2)) (v 1) f) tt

line_x : (u w : ℤ) (o a b : Corner) → o.0 <ℤ a.0 → a.0 ≤ℤ b.0 → cross o a b ≡ pos 0 → reach u w o <ℤ reach u w a → reach u w b <ℤ reach u w a → ⊥
unfolding cross
line_x u w o a b i j z f g =
    let ρ = numbers (o ∷ a ∷ b ∷ []) in
    between u w (a.0 -ℤ o.0) (b.0 -ℤ o.0) o a b
    (by< O (X 2 ⊖ X 0) (h< 6 ρ (X 0) (X 1) i ⊞ h≤ 6 ρ (X 1) (X 2) j) tt) (by≤ O (X 1 ⊖ X 0) (hw 6 ρ (X 0) (X 1) i) tt) (by≤ (X 1 ⊖ X 0) (X 2 ⊖ X 0) (h≤ 6 ρ (X 1) (X 2) j) tt)
    (*ℤ_comm (b.0 -ℤ o.0) (a.0 -ℤ o.0)) (by≡ ((X 2 ⊖ X 0) ⊗ (Y 1 ⊖ Y 0)) ((X 1 ⊖ X 0) ⊗ (Y 2 ⊖ Y 0)) (h≢ 6 ρ (cr 0 1 2) O z) (h≡ 6 ρ (cr 0 1 2) O z) tt tt) f g

line_y : (u w : ℤ) (o a b : Corner) → o.0 ≡ a.0 → o.0 ≡ b.0 → o.1 <ℤ a.1 → a.1 ≤ℤ b.1 → reach u w o <ℤ reach u w a → reach u w b <ℤ reach u w a → ⊥
line_y u w o a b e e' i j f g =
    let ρ = numbers (o ∷ a ∷ b ∷ []) in
    between u w (a.1 -ℤ o.1) (b.1 -ℤ o.1) o a b
    (by< O (Y 2 ⊖ Y 0) (h< 6 ρ (Y 0) (Y 1) i ⊞ h≤ 6 ρ (Y 1) (Y 2) j) tt) (by≤ O (Y 1 ⊖ Y 0) (hw 6 ρ (Y 0) (Y 1) i) tt) (by≤ (Y 1 ⊖ Y 0) (Y 2 ⊖ Y 0) (h≤ 6 ρ (Y 1) (Y 2) j) tt)
    (by≡ ((Y 2 ⊖ Y 0) ⊗ (X 1 ⊖ X 0)) ((Y 1 ⊖ Y 0) ⊗ (X 2 ⊖ X 0)) (eqt 6 ρ (X 0) (X 1) (Y 0 ⊖ Y 2) e ⊞ eqt 6 ρ (X 0) (X 2) (Y 1 ⊖ Y 0) e') (eqt 6 ρ (X 0) (X 1) (Y 2 ⊖ Y 0) e ⊞ eqt 6 ρ (X 0) (X 2) (Y 0 ⊖ Y 1) e') tt tt)
    (*ℤ_comm (b.1 -ℤ o.1) (a.1 -ℤ o.1)) f g

-- a right of o and b straight above it
askew : (o a b : Corner) → o.0 <ℤ a.0 → o.0 ≡ b.0 → o.1 <ℤ b.1 → cross o a b ≡ pos 0 → ⊥
unfolding cross
askew o a b i e l z =
    let ρ = numbers (o ∷ a ∷ b ∷ []) in
    by⊥ (h< 6 ρ (X 0) (X 1) i ⊡ h< 6 ρ (Y 0) (Y 2) l ⊞ h≡ 6 ρ (cr 0 1 2) O z ⊞ eqt 6 ρ (X 0) (X 2) (Y 0 ⊖ Y 1) e) tt

swap_zero : (o a b : Corner) → cross o a b ≡ pos 0 → cross o b a ≡ pos 0
unfolding cross
swap_zero o a b z =
    let ρ = numbers (o ∷ a ∷ b ∷ []) in
    by≡ (cr 0 2 1) O (h≢ 6 ρ (cr 0 1 2) O z) (h≡ 6 ρ (cr 0 1 2) O z) tt tt

above : (o a : Corner) → ¬ (o ≡ a) → o.0 ≡ a.0 → o.1 ≤ℤ a.1 → o.1 <ℤ a.1
above o a d e h = go (le_or_lt a.1 o.1)
  where
    go : (a.1 ≤ℤ o.1) ⊎ (o.1 <ℤ a.1) → o.1 <ℤ a.1
    go (inr l) = l
    go (inl l) = absurd (d (corner_eq o a e (omega zarith)))

-- o is a corner of P before a and b, which are exposed, and all three differ
record Three (P : List Corner) (o a b : Corner) : Type 0 where
  visited : Memᴰ o P
  first : Exposed P a
  second : Exposed P b
  before-first : Begins o a
  before_second : Begins o b
  o-a : ¬ (o ≡ a)
  o-b : ¬ (o ≡ b)
  a-b : ¬ (a ≡ b)

-- they are not in a line
in_line : (P : List Corner) (o a b : Corner) → Three P o a b → cross o a b ≡ pos 0 → ⊥
in_line P o a b t z = go t.before-first t.before_second
  where
    ea : Exposed P a
    ea = t.first

    eb : Exposed P b
    eb = t.second

    a-over-o : reach ea.u ea.v o <ℤ reach ea.u ea.v a
    a-over-o = ea.most o t.visited t.o-a

    a-over-b : reach ea.u ea.v b <ℤ reach ea.u ea.v a
    a-over-b = ea.most b eb.visited (λ e. t.a-b (sym e))

    b-over-o : reach eb.u eb.v o <ℤ reach eb.u eb.v b
    b-over-o = eb.most o t.visited t.o-b

    b-over-a : reach eb.u eb.v a <ℤ reach eb.u eb.v b
    b-over-a = eb.most a ea.visited t.a-b

    go : Begins o a → Begins o b → ⊥
    go (inl f) (inl g) =
        ⊎_elim (λ l. line_x ea.u ea.v o a b f l z a-over-o a-over-b)
        (λ l. line_x eb.u eb.v o b a g (omega zarith) (swap_zero o a b z) b-over-o b-over-a) (le_or_lt a.0 b.0)
    go (inl f) (inr g) = askew o a b f g.0 (above o b t.o-b g.0 g.1) z
    go (inr f) (inl g) = askew o b a g f.0 (above o a t.o-a f.0 f.1) (swap_zero o a b z)
    go (inr f) (inr g) =
        ⊎_elim (λ l. line_y ea.u ea.v o a b f.0 g.0 (above o a t.o-a f.0 f.1) l a-over-o a-over-b)
        (λ l. line_y eb.u eb.v o b a g.0 f.0 (above o b t.o-b g.0 g.1) (omega zarith) b-over-o b-over-a) (le_or_lt a.1 b.1)

strict : (P : List Corner) (o a b : Corner) → Three P o a b → OnLeft a b o → Left o a b
strict P o a b t h = go (le_or_lt (cross o a b) (pos 0)) (on_rot (on_rot h))
  where
    go : (cross o a b ≤ℤ pos 0) ⊎ (pos 0 <ℤ cross o a b) → OnLeft o a b → Left o a b
    go (inr l) n = record { left = l }
    go (inl l) n = absurd (in_line P o a b t (omega (zarith, n.on)))

-- a path with all of P on or left of each step
abbrev pub Edges : List Corner → List Corner → Type 0
Edges P [] = Unit {0}
Edges P (b ∷ []) = Unit {0}
Edges P (b ∷ (a ∷ s)) = (¬ (b ≡ a)) × AllLeft P b a × Edges P (a ∷ s)

pub edges_tail : (P : List Corner) (b : Corner) (s : List Corner) → Edges P (b ∷ s) → Edges P s
edges_tail P b [] h = tt
edges_tail P b (a ∷ s) h = h.2

module _ (P : List Corner) (o : Corner) (i : Memᴰ o P) (first : (q : Corner) → Memᴰ q P → Begins o q) where
  fan : (R : List Corner) → Edges P R → ((q : Corner) → Memᴰ q R → Exposed P q) → ((q : Corner) → Memᴰ q R → ¬ (o ≡ q)) → Pairs (λ a b. Left o a b) R
  fan [] h e d = tt
  fan (a ∷ []) h e d = ((λ b m. absurd (Memᴰ.not-nil m)), tt)
  fan (a ∷ (b ∷ s)) h e d = both (fan (b ∷ s) h.2 (λ q m. e q (Memᴰ.tail m)) (λ q m. d q (Memᴰ.tail m)))
    where
      ea : Exposed P a
      ea = e a (Memᴰ.head refl)

      eb : Exposed P b
      eb = e b (Memᴰ.tail (Memᴰ.head refl))

      ab : Left o a b
      ab =
          strict P o a b
          (record { visited = i; first = ea; second = eb; before-first = first a ea.visited; before_second = first b eb.visited; o-a = d a (Memᴰ.head refl); o-b = d b (Memᴰ.tail (Memᴰ.head refl)); a-b = h.0 })
          (h.1 o i)

      near : Pairs (λ a b. Left o a b) (b ∷ s) → (c : Corner) → Memᴰ c (b ∷ s) → Left o a c
      near rest c (Memᴰ.head r) = subst (λ (z : Corner). Left o a z) (sym r) ab
      near rest c (Memᴰ.tail m) = left_trans o a b c (first a ea.visited) (first b eb.visited) (first c (e c (Memᴰ.tail (Memᴰ.tail m))).visited) ab (rest.0 c m)

      both : Pairs (λ a b. Left o a b) (b ∷ s) → Pairs (λ a b. Left o a b) (a ∷ (b ∷ s))
      both rest = (near rest, rest)

  pairs_of : (a : Corner) (R : List Corner) → Memᴰ a P → ((q : Corner) → Memᴰ q R → Exposed P q) → ((q : Corner) → Memᴰ q R → Left o a q) → Pairs (λ b c. Left o b c) R → Pairs (λ b c. Left a b c) R
  pairs_of a [] n e f h = tt
  pairs_of a (b ∷ s) n e f h = ((λ c m. turn_left P o a b c i n (e c (Memᴰ.tail m)).visited (e b (Memᴰ.head refl)) (f b (Memᴰ.head refl)) (h.0 c m)), pairs_of a s n (λ q m. e q (Memᴰ.tail m)) (λ q m. f q (Memᴰ.tail m)) h.1)

  ccw_of : (R : List Corner) → ((q : Corner) → Memᴰ q R → Exposed P q) → Pairs (λ b c. Left o b c) R → Ccw R
  ccw_of [] e h = tt
  ccw_of (a ∷ s) e h = (pairs_of a s (e a (Memᴰ.head refl)).visited (λ q m. e q (Memᴰ.tail m)) h.0 h.1, ccw_of s (λ q m. e q (Memᴰ.tail m)) h.1)

  once_of : (R : List Corner) → Pairs (λ b c. Left o b c) R → Distinct R
  once_of [] h = tt
  once_of (a ∷ s) h = ((λ m. left_ne (h.0 a m) refl), once_of s h.1)

  pub ordered : (R : List Corner) → Edges P R → ((q : Corner) → Memᴰ q R → Exposed P q) → ((q : Corner) → Memᴰ q R → ¬ (o ≡ q)) → Ccw (o ∷ R) × Distinct (o ∷ R)
  ordered R h e d = ((fan R h e d, ccw_of R e (fan R h e d)), ((λ m. d o m refl), once_of R (fan R h e d)))
