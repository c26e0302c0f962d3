-- The sides of a pile, and what is written from a place on.
-- Assumes nothing.
use mathlib.Core.Path.{◌≡◌, refl, sym, ap, ap₂, ◌∙◌}
use mathlib.Core.Bool.{Bool, cond}
use mathlib.Core.List.{List, [], ◌∷◌, ◌++◌, append-nil, append_assoc}
use mathlib.Core.Logic.{◌⊎◌, inl, inr}
use Prim.Native.Nat.{ℕ, zero, suc, ◌+◌, ◌-◌, ◌<◌, ◌≤◌}
use native.Mathlib.Omega.{arith}
use native.Mathlib.Numerals.{add-one}
use borrow.Author.Tests.{lt-ltb, le-ltb}
use lib.Dec.{ltb}
use lib.ListN.{length, replicate, set, take, drop, length-replicate, length-append, length-take, length-drop}
use lib.Seq.{sets}
use borrow.Rule.Slice.PartMut.{put_mid}
use Rattle.std.proofs.lemmas.Slice.{put_mid-paste}
use Rattle.std.proofs.lemmas.List.Edits.{sets-eq, paste_all}
use Rattle.orthogonal_chain_laws.specs.Chain.{sideways, left_side, right_side, chain_from_row, home_row, chain_from_home, blocks_from}
use Rattle.orthogonal_draw.specs.Sides.{descent, ascent}

sets_append : (l : List ℕ) (i : ℕ) (a b : List ℕ) → sets l i (a ++ b) ≡ sets (sets l i a) (i + length a) b
sets_append l i [] b = ap (λ (n : ℕ). sets l n b) none
  where
    none : i ≡ i + 0
    none = omega arith
sets_append l i (x ∷ a) b = sets_append (set l i x) (suc i) a b ∙ ap (λ (n : ℕ). sets (sets (set l i x) (suc i) a) n b) next
  where
    next : suc i + length a ≡ i + suc (length a)
    next = omega arith

-- the left side is a descent from the end of the row above it
left-descent : (l : ℕ → ℕ) (m n : ℕ) → left_side l m n ≡ descent l (l (m + n)) m n
unfolding descent
left-descent l m zero = refl
left-descent l m (suc n) = ap (λ (s : List ℕ). sideways (l (m + suc n)) (l (m + n)) ++ (3 ∷ s)) (left-descent l m n)

-- the right side, with the way to its foot before it, is an ascent
right-ascent : (r : ℕ → ℕ) (x q n : ℕ) → sideways x (r q) ++ right_side r q n ≡ ascent r x q (suc n)
unfolding ascent
right-ascent r x q zero = refl
right-ascent r x q (suc n) = ap (λ (s : List ℕ). sideways x (r q) ++ (1 ∷ s)) (right-ascent r (r q) (suc q) n)

-- the chain: down to row 0, up to the top, and down to the row that it starts from
chain_sides : (l r : ℕ → ℕ) (t k : ℕ) → k ≤ t → chain_from_row l r t k ≡ descent l (l k) 0 k ++ (ascent r (l 0) 0 (suc t) ++ descent l (r t) k (suc (t - k)))
unfolding descent
chain_sides l r t k h =
    ap₂ (λ (a b : List ℕ). a ++ b) (left-descent l 0 k ∙ ap (λ (n : ℕ). descent l (l n) 0 k) none)
    (sym (append_assoc (sideways (l 0) (r 0)) (right_side r 0 t) (sideways (r t) (l t) ++ (3 ∷ left_side l k (t - k))))
    ∙ ap₂ (λ (a b : List ℕ). a ++ b) (right-ascent r (l 0) 0 t) last)
  where
    none : 0 + k ≡ k
    none = omega arith

    same : k + (t - k) ≡ t
    same = omega arith

    last : sideways (r t) (l t) ++ (3 ∷ left_side l k (t - k)) ≡ descent l (r t) k (suc (t - k))
    last = ap (λ (s : List ℕ). sideways (r t) (l t) ++ (3 ∷ s)) (left-descent l k (t - k)) ∙ ap (λ (n : ℕ). sideways (r t) (l n) ++ (3 ∷ descent l (l (k + (t - k))) k (t - k))) (sym same)

-- what a fill of k places from place `at` on leaves
pub filled : (out ys : List ℕ) (at n k d : ℕ) → n ≡ k → at + k ≤ length out → ys ≡ replicate (length (take n (drop at out))) d → put_mid at n out ys ≡ sets out at (replicate k d)
filled out ys at n k d e h f =
    put_mid-paste at n out ys (replicate k d) (length (replicate k d)) (f ∙ ap (λ (m : ℕ). replicate m d) size) (length-replicate k d ∙ sym e) refl
    ∙ paste_all out at (replicate k d) (length (replicate k d)) refl
    ∙ sym (append_assoc (take at out) (replicate k d) (drop (at + length (replicate k d)) out))
    ∙ sym (sets-eq (replicate k d) out at (omega (arith, length-replicate k d)))
  where
    size : length (take n (drop at out)) ≡ k
    size = omega (arith, length-take n (drop at out), length-drop at out)

-- the home row of one row more
pub home_next : (l : ℕ → ℕ) (q home home' : ℕ) → 1 ≤ q → home < q → home ≡ home_row l (q - 1) → ((l q < l home) × (home' ≡ q)) ⊎ ((l home ≤ l q) × (home' ≡ home)) → (home' < q + 1) × (home' ≡ home_row l (q + 1 - 1))
home_next l zero home home' g b e t = absurd (omega arith)
home_next l (suc k) home home' g b e t = (below t, by t ∙ ap (home_row l) (sym last))
  where
    same : suc k - 1 ≡ k
    same = omega arith

    last : suc k + 1 - 1 ≡ suc k
    last = omega arith

    here : home ≡ home_row l k
    here = e ∙ ap (home_row l) same

    below : ((l (suc k) < l home) × (home' ≡ suc k)) ⊎ ((l home ≤ l (suc k)) × (home' ≡ home)) → home' < suc k + 1
    below (inl u) = omega (arith, u.1)
    below (inr u) = omega (arith, u.1)

    by : ((l (suc k) < l home) × (home' ≡ suc k)) ⊎ ((l home ≤ l (suc k)) × (home' ≡ home)) → home' ≡ home_row l (suc k)
    by (inl u) = u.1 ∙ sym (ap (λ (b : Bool). cond b (suc k) (home_row l k)) (ap (λ (n : ℕ). ltb (l (suc k)) (l n)) (sym here) ∙ lt-ltb (l (suc k)) (l home) u.0))
    by (inr u) = u.1 ∙ here ∙ sym (ap (λ (b : Bool). cond b (suc k) (home_row l k)) (ap (λ (n : ℕ). ltb (l (suc k)) (l n)) (sym here) ∙ le-ltb (l (suc k)) (l home) u.0))

-- the blocks of a row, and those of the rows after it
pub count_next : (l r : ℕ → ℕ) (q n len G : ℕ) → q < len → n + blocks_from l r q (len - q) ≡ G → (n + (r q - l q)) + blocks_from l r (q + 1) (len - (q + 1)) ≡ G
count_next l r q n len G h e = omega (arith, e, ap (blocks_from l r q) left, ap (λ (k : ℕ). blocks_from l r k (len - (q + 1))) (add-one q))
  where
    left : len - q ≡ suc (len - (q + 1))
    left = omega arith

pub count_end : (l r : ℕ → ℕ) (q n len G : ℕ) → len ≤ q → n + blocks_from l r q (len - q) ≡ G → n ≡ G
count_end l r q n len G h e = omega (arith, e, ap (blocks_from l r q) none)
  where
    none : len - q ≡ 0
    none = omega arith

pub count-start : (l r : ℕ → ℕ) (len : ℕ) → 0 + blocks_from l r 0 (len - 0) ≡ blocks_from l r 0 len
count-start l r len = omega (arith, ap (blocks_from l r 0) none)
  where
    none : len - 0 ≡ len
    none = omega arith

-- the steps from one column to another, when it lies to the east and when it does not
pub sideways-east : (a b : ℕ) → a < b → sideways a b ≡ replicate (b - a) 0
sideways-east a b h = ap (λ (n : ℕ). replicate (b - a) 0 ++ replicate n 2) none ∙ append-nil (replicate (b - a) 0)
  where
    none : a - b ≡ 0
    none = omega arith

pub sideways_west : (a b : ℕ) → b ≤ a → sideways a b ≡ replicate (a - b) 2
sideways_west a b h = ap (λ (n : ℕ). replicate n 0 ++ replicate (a - b) 2) none
  where
    none : b - a ≡ 0
    none = omega arith

-- what is written after them
pub run_along : (out : List ℕ) (at k d end : ℕ) (S : List ℕ) → S ≡ replicate k d → end ≡ at + k → (out' : List ℕ) → out' ≡ sets out at (replicate k d) → (out' ≡ sets out at S) × (end ≡ at + length S)
run_along out at k d end S e f out' h = (h ∙ ap (sets out at) (sym e), omega (arith, f, ap length e, length-replicate k d))

pub run_fits : (k d : ℕ) (S : List ℕ) → S ≡ replicate k d → length S ≡ k
run_fits k d S e = ap length e ∙ length-replicate k d

pub leg_done : (out : List ℕ) (at : ℕ) (S : List ℕ) (d end : ℕ) (out' : List ℕ) → out' ≡ sets out at S → end ≡ at + length S → set out' end d ≡ sets out at (S ++ (d ∷ []))
leg_done out at S d end out' e f = ap₂ (λ (l : List ℕ) (n : ℕ). set l n d) e f ∙ sym (sets_append out at S (d ∷ []))

-- `rest` from place `at` on completes G from place `from` on
pub record Drawing (out₀ : List ℕ) (from : ℕ) (G out : List ℕ) (at : ℕ) (rest : List ℕ) : Type 0 where
  pub left : sets out at rest ≡ sets out₀ from G
  pub place : at + length rest ≡ from + length G
  pub size : length out ≡ length out₀

pub drawing_start : (out : List ℕ) (from : ℕ) (G G' : List ℕ) → G ≡ G' → Drawing out from G' out from G
drawing_start out from G G' e = record { left = ap (sets out from) e; place = ap (λ (l : List ℕ). from + length l) e; size = refl }

module _ {out₀ : List ℕ} {from : ℕ} {G out : List ℕ} {at : ℕ} {rest : List ℕ} (w : Drawing out₀ from G out at rest) where
  pub drawing_room : (S : List ℕ) (d : ℕ) (rest' : List ℕ) → rest ≡ S ++ (d ∷ rest') → from + length G ≤ length out₀ → at + length S < length out
  drawing_room S d rest' e h = omega (arith, w.place, w.size, ap length e, length-append S (d ∷ rest'))

  pub drawing_step : (S : List ℕ) (d : ℕ) (rest' : List ℕ) → rest ≡ S ++ (d ∷ rest') → (out' : List ℕ) (at' : ℕ) → length out' ≡ length out → out' ≡ sets out at (S ++ (d ∷ [])) → at' ≡ at + length S + 1 → Drawing out₀ from G out' at' rest'
  drawing_step S d rest' e out' at' k f g = record {
    left = ap₂ (λ (l : List ℕ) (n : ℕ). sets l n rest') f here ∙ sym (sets_append out at (S ++ (d ∷ [])) rest') ∙ ap (sets out at) (append_assoc S (d ∷ []) rest' ∙ sym e) ∙ w.left;
    place = omega (arith, w.place, ap length e, length-append S (d ∷ rest'));
    size = k ∙ w.size;
  }
    where
      here : at' ≡ at + length (S ++ (d ∷ []))
      here = omega (arith, length-append S (d ∷ []))

  pub drawing_end : rest ≡ [] → (out ≡ sets out₀ from G) × (at ≡ from + length G)
  drawing_end e = (ap (sets out at) (sym e) ∙ w.left, omega (arith, w.place, ap length e))

-- the next row of a descent, and of an ascent
pub descent-next : (l : ℕ → ℕ) (x m q : ℕ) → m < q → descent l x m (q - m) ≡ sideways x (l (q - 1)) ++ (3 ∷ descent l (l (q - 1)) m (q - 1 - m))
unfolding descent
descent-next l x m q h = ap (descent l x m) left ∙ ap (λ (n : ℕ). sideways x (l n) ++ (3 ∷ descent l (l n) m (q - 1 - m))) last
  where
    left : q - m ≡ suc (q - 1 - m)
    left = omega arith

    last : m + (q - 1 - m) ≡ q - 1
    last = omega arith

pub descent-none : (l : ℕ → ℕ) (x m q : ℕ) → q ≤ m → descent l x m (q - m) ≡ []
unfolding descent
descent-none l x m q h = ap (descent l x m) none
  where
    none : q - m ≡ 0
    none = omega arith

pub ascent-next : (r : ℕ → ℕ) (x q n : ℕ) → q < n → ascent r x q (n - q) ≡ sideways x (r q) ++ (1 ∷ ascent r (r q) (q + 1) (n - (q + 1)))
unfolding ascent
ascent-next r x q n h = ap (ascent r x q) left ∙ ap (λ (k : ℕ). sideways x (r q) ++ (1 ∷ ascent r (r q) k (n - (q + 1)))) (sym (add-one q))
  where
    left : n - q ≡ suc (n - (q + 1))
    left = omega arith

pub ascent-none : (r : ℕ → ℕ) (x q n : ℕ) → n ≤ q → ascent r x q (n - q) ≡ []
unfolding ascent
ascent-none r x q n h = ap (ascent r x q) none
  where
    none : n - q ≡ 0
    none = omega arith

pub ascent-all : (r : ℕ → ℕ) (x n : ℕ) → ascent r x 0 (n - 0) ≡ ascent r x 0 n
ascent-all r x n = ap (ascent r x 0) all
  where
    all : n - 0 ≡ n
    all = omega arith

-- the whole outline as the three parts that are written, each from the column where the one before it ends
module _ (l r : ℕ → ℕ) (len n k : ℕ) (same : n ≡ len) (home : k ≡ home_row l (len - 1)) (within : k < len) (x y z : ℕ) (ex : x ≡ l k) (ey : y ≡ l 0) (ez : z ≡ r (n - 1)) where
  down : List ℕ
  down = descent l x 0 (k - 0)

  up : List ℕ
  up = ascent r y 0 n

  last : List ℕ
  last = descent l z k (len - k)

  parts : chain_from_home l r (len - 1) ≡ down ++ (up ++ last)
  unfolding down up last
  parts =
      ap (chain_from_row l r (len - 1)) (sym home) ∙ chain_sides l r (len - 1) k (omega arith)
      ∙ ap₂ (λ (a b : List ℕ). a ++ b) (ap₂ (λ (c i : ℕ). descent l c 0 i) (sym ex) none)
      (ap₂ (λ (a b : List ℕ). a ++ b) (ap₂ (λ (c i : ℕ). ascent r c 0 i) (sym ey) all) (ap₂ (λ (c i : ℕ). descent l c k i) (ap r top ∙ sym ez) rest))
    where
      none : k ≡ k - 0
      none = omega arith

      all : suc (len - 1) ≡ n
      all = omega arith

      top : len - 1 ≡ n - 1
      top = omega arith

      rest : suc (len - 1 - k) ≡ len - k
      rest = omega arith

  lengths : length (chain_from_home l r (len - 1)) ≡ length down + (length up + length last)
  lengths = ap length parts ∙ length-append down (up ++ last) ∙ ap (λ (i : ℕ). length down + i) (length-append up last)

  pub first_fits : (room : ℕ) → length (chain_from_home l r (len - 1)) ≤ room → 0 + length (descent l x 0 (k - 0)) ≤ room
  unfolding down
  first_fits room h = omega (arith, lengths)

  pub second_fits : (room : ℕ) → length (chain_from_home l r (len - 1)) ≤ room → (at : ℕ) → at ≡ 0 + length (descent l x 0 (k - 0)) → at + length (ascent r y 0 n) ≤ room
  unfolding down up
  second_fits room h at e = omega (arith, lengths)

  pub third_fits : (room : ℕ) → length (chain_from_home l r (len - 1)) ≤ room → (at on : ℕ) → at ≡ 0 + length (descent l x 0 (k - 0)) → on ≡ at + length (ascent r y 0 n) → on + length (descent l z k (len - k)) ≤ room
  unfolding down up last
  third_fits room h at on e f = omega (arith, lengths)

  pub drawn : (out a b c : List ℕ) (at on : ℕ) → a ≡ sets out 0 (descent l x 0 (k - 0)) → at ≡ 0 + length (descent l x 0 (k - 0)) → b ≡ sets a at (ascent r y 0 n) → on ≡ at + length (ascent r y 0 n) → c ≡ sets b on (descent l z k (len - k)) → c ≡ sets out 0 (chain_from_home l r (len - 1))
  unfolding down up last
  drawn out a b c at on ea eat eb eon ec =
      ec ∙ ap₂ (λ (m : List ℕ) (i : ℕ). sets m i last) (eb ∙ ap₂ (λ (m : List ℕ) (i : ℕ). sets m i up) ea eat) (eon ∙ ap (λ (i : ℕ). i + length up) eat)
      ∙ sym (sets_append (sets out 0 down) (0 + length down) up last)
      ∙ sym (sets_append out 0 down (up ++ last))
      ∙ ap (sets out 0) (sym parts)
