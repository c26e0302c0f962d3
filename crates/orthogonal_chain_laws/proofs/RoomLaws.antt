-- The chain around a pile is a room, counterclockwise, and the blocks inside it are those of the rows.
-- Assumes nothing.
use mathlib.Core.Bool.{Bool}
use mathlib.Core.List.{List, [], ◌∷◌}
use mathlib.Core.Logic.{◌⊎◌, ◌↔◌, inl, inr, ⊎_elim}
use mathlib.Core.Path.{◌≡◌, refl, ap, ap₂, sym, ◌∙◌}
use Prim.Native.Nat.{ℕ, zero, suc, ◌+◌, ◌-◌, ◌%◌, ◌<◌, ◌≤◌}
use native.Mathlib.Decide.{ℕ_discrete, dec_lt}
use native.Mathlib.Omega.{arith}
use lib.IntN.{ℤ, pos, neg_ℤ, nat_abs, ◌+ℤ◌, ◌-ℤ◌}
use lib.ListN.{length, get_or}
use lib.Signed.{◌≤ℤ◌, ◌<ℤ◌, lt_z}
use Rattle.int_laws.proofs.LinearLaws.{zarith, bal+, bal-, le_or_lt}
use Rattle.int_laws.proofs.NextLaws.{above, true_lt, false_lt}
use Rattle.int_laws.proofs.RingLaws.{ring, v, k, ◌⊕◌, ◌⊖◌, ⊝}
use Rattle.lists.specs.Lists.{tally, Distinct}
use Rattle.lists.proofs.DistinctLaws.{distinct_get_d}
use Rattle.grid.specs.declared.{Corner.Corner, Panel.Panel}
use Rattle.grid.specs.Grid.{later_from, end_from, corner_at}
use Rattle.grid.proofs.StepLaws.{corners_from-at, length-corners_from, corner_at_end}
use Rattle.trace.specs.Meeting.{Meets}
use Rattle.trace.specs.Verdict.{IsRoom, area_of}
use Rattle.trace.proofs.VerdictLaws.{area_room}
use Rattle.panels.specs.Edges.{beside}
use Rattle.panels.specs.Inside.{edges_beside, Inside, panels_inside, InsideLeft}
use Rattle.panels.proofs.BesideLaws.{beside_other, beside-row}
use Rattle.room_laws.proofs.RoomLaws.{room_sign, room_magnitude}
use Rattle.orthogonal_chain_laws.specs.Chain.{Piled, corner_by, InPile, blocks_from, chain_from_row}
use Rattle.orthogonal_chain_laws.proofs.SideLaws.{arc_chain}
use Rattle.orthogonal_chain_laws.proofs.LengthLaws.{chain_four}
use Rattle.orthogonal_chain_laws.proofs.SumLaws.{row_sum, sum-front, count_adds, sweep_adds, adds_chain}

-- a closed walk of at least four steps whose corners after the start are all different is a room
round_room : (c : Corner) (ds : List ℕ) → 4 ≤ length ds → end_from c ds ≡ c → Distinct (later_from c ds) → IsRoom c ds
round_room c ds h e u = record { four = h; closed = e; only = only }
  where
    at : (j : ℕ) → suc j ≤ length ds → get_or (later_from c ds) j c ≡ corner_at c ds (suc j)
    at j g = corners_from-at c ds (suc j) c g

    apart : (i j : ℕ) → i < j → suc j ≤ length ds → corner_at c ds (suc i) ≡ corner_at c ds (suc j) → ⊥
    apart i j g n f = distinct_get_d (later_from c ds) i j c u g (omega (arith, n, length-corners_from c ds)) (at i (omega arith) ∙ f ∙ sym (at j n))

    only : (i j : ℕ) → Meets c ds i j → (i ≡ 0) × (j ≡ length ds)
    only i zero m = absurd (omega (arith, m.earlier))
    only (suc i) (suc j) m = absurd (apart i j (omega (arith, m.earlier)) m.within m.equal)
    only zero (suc j) m =
        elim (dec_lt (suc j) (length ds)) [
          | yes g ↦ absurd (last (length ds) refl g)
          | no g ↦ (refl, omega (arith, m.within))
        ]
      where
        last : (n : ℕ) → length ds ≡ n → suc j < length ds → ⊥
        last zero q g = omega (arith, q)
        last (suc n) q g = apart j n (omega (arith, q)) (omega (arith, q)) (sym m.equal ∙ sym e ∙ sym (corner_at_end c ds) ∙ ap (corner_at c ds) q)

-- sums over the lowest rows, if one of them counts, or none
sum-none : (g : ℕ → ℤ) (n : ℕ) → ((q : ℕ) → q < n → g q ≡ pos 0) → row_sum g 0 n ≡ pos 0
sum-none g zero h = refl
sum-none g (suc n) h = ap₂ (λ (x y : ℤ). x +ℤ y) (h (0 + n) (omega arith)) (sum-none g n (λ q u. h q (omega arith)))

sum_one : (g : ℕ → ℤ) (n q : ℕ) → q < n → ((i : ℕ) → (i ≡ q → ⊥) → g i ≡ pos 0) → row_sum g 0 n ≡ g q
sum_one g zero q h f = absurd (omega arith)
sum_one g (suc n) q h f =
    elim (ℕ_discrete q n) [
      | yes e ↦
          let z : 0 + n ≡ q = omega (arith, e) in
          ap₂ (λ (x y : ℤ). x +ℤ y) (ap g z) (sum-none g n (λ i u. f i (λ w. omega (arith, w, e)))) ∙ ring 1 (g q ∷ []) (v 0 ⊕ k (pos 0)) (v 0) tt
      | no e ↦
          ap₂ (λ (x y : ℤ). x +ℤ y) (f (0 + n) (λ w. e (omega (arith, w)))) (sum_one g n q (omega arith) f) ∙ ring 1 (g q ∷ []) (k (pos 0) ⊕ v 0) (v 0) tt
    ]

module _ (o : Corner) (l r : ℕ → ℕ) where
  -- right ends less left ends are the blocks
  ends_blocks : (n m : ℕ) → ((q : ℕ) → q < m + n → l q < r q) → row_sum (λ q. (corner_by o (r q) q).0) m n +ℤ row_sum (λ q. neg_ℤ (corner_by o (l q) q).0) m n ≡ pos (blocks_from l r m n)
  ends_blocks zero m h = refl
  ends_blocks (suc n) m h =
      let R = row_sum (λ q. (corner_by o (r q) q).0) (suc m) n in
      let L = row_sum (λ q. neg_ℤ (corner_by o (l q) q).0) (suc m) n in
      ap₂ (λ (x y : ℤ). x +ℤ y) (sum-front (λ q. (corner_by o (r q) q).0) m n) (sum-front (λ q. neg_ℤ (corner_by o (l q) q).0) m n)
      ∙ ring 5 (o.0 ∷ pos (r m) ∷ pos (l m) ∷ R ∷ L ∷ []) (v 0 ⊕ v 1 ⊕ v 3 ⊕ (⊝ (v 0 ⊕ v 2) ⊕ v 4)) (v 1 ⊖ v 2 ⊕ (v 3 ⊕ v 4)) tt
      ∙ ap₂ (λ (x y : ℤ). x +ℤ y) width (ends_blocks n (suc m) (λ q u. h q (omega arith)))
    where
      width : pos (r m) -ℤ pos (l m) ≡ pos (r m - l m)
      width = omega (zarith, bal- (pos (r m)) (pos (l m)), h m (omega arith))

  module _ (t : ℕ) (p : Panel) where
    -- the edges of one side that the panel sees
    abbrev seen_by : (ℕ → ℕ) → ℤ
    seen_by x = row_sum (λ q. pos (tally (beside p (corner_by o (x q) q)))) 0 (suc t)

    seen : (x : ℕ → ℕ) (q : ℕ) → q ≤ t → p.1 ≡ o.1 +ℤ pos q → seen_by x ≡ pos (tally (lt_z p.0 (o.0 +ℤ pos (x q))))
    seen x q h e =
        sum_one (λ q. pos (tally (beside p (corner_by o (x q) q)))) (suc t) q (omega arith)
        (λ i f. ap (λ (b : Bool). pos (tally b)) (beside_other p (corner_by o (x i) i) (λ g. f (omega (zarith, e, g, bal+ o.1 (pos i), bal+ o.1 (pos q))))))
        ∙ ap (λ (b : Bool). pos (tally b)) (beside-row p (corner_by o (x q) q) (sym e))

    unseen : (x : ℕ → ℕ) → ((q : ℕ) → q ≤ t → p.1 ≡ o.1 +ℤ pos q → ⊥) → seen_by x ≡ pos 0
    unseen x f = sum-none (λ q. pos (tally (beside p (corner_by o (x q) q)))) (suc t) (λ q u. ap (λ (b : Bool). pos (tally b)) (beside_other p (corner_by o (x q) q) (λ g. f q (omega arith) (sym g))))

    -- the panel's row is one of the pile, or none of it
    which : ((q : ℕ) × (q ≤ t) × (p.1 ≡ o.1 +ℤ pos q)) ⊎ ((q : ℕ) → q ≤ t → p.1 ≡ o.1 +ℤ pos q → ⊥)
    which = by (le_or_lt o.1 p.1)
      where
        by : (o.1 ≤ℤ p.1) ⊎ (p.1 <ℤ o.1) → ((q : ℕ) × (q ≤ t) × (p.1 ≡ o.1 +ℤ pos q)) ⊎ ((q : ℕ) → q ≤ t → p.1 ≡ o.1 +ℤ pos q → ⊥)
        by (inr h) = inr (λ q u e. omega (zarith, h, e, bal+ o.1 (pos q)))
        by (inl h) =
            let n = nat_abs (p.1 -ℤ o.1) in
            let e = above o.1 p.1 h in
            elim (dec_lt n (suc t)) [
              | yes g ↦ inl (n, omega (arith, g), e)
              | no g ↦ inr (λ q u f. g (omega (zarith, e, f, u, bal+ o.1 (pos q), bal+ o.1 (pos n))))
            ]

    -- an odd number of both sides exactly if it is in the pile
    module _ (wide : (q : ℕ) → q ≤ t → l q < r q) (n : ℕ) (edges : pos n ≡ seen_by r +ℤ seen_by l) where
      in_row : (q : ℕ) → q ≤ t → p.1 ≡ o.1 +ℤ pos q → n ≡ tally (lt_z p.0 (o.0 +ℤ pos (r q))) + tally (lt_z p.0 (o.0 +ℤ pos (l q)))
      in_row q h e = ap nat_abs (edges ∙ ap₂ (λ (x y : ℤ). x +ℤ y) (seen r q h e) (seen l q h e))

      odd_pile : n % 2 ≡ 1 → InPile o l r t p
      odd_pile odd = ⊎_elim (λ w. found w.0 w.1 w.2) (λ f. absurd (omega (arith, odd, ap nat_abs (edges ∙ ap₂ (λ (x y : ℤ). x +ℤ y) (unseen r f) (unseen l f))))) which
        where
          found : (q : ℕ) → q ≤ t → p.1 ≡ o.1 +ℤ pos q → InPile o l r t p
          found q h e = by (le_or_lt (o.0 +ℤ pos (l q)) p.0) (le_or_lt (o.0 +ℤ pos (r q)) p.0)
            where
              by : ((o.0 +ℤ pos (l q)) ≤ℤ p.0) ⊎ (p.0 <ℤ (o.0 +ℤ pos (l q))) → ((o.0 +ℤ pos (r q)) ≤ℤ p.0) ⊎ (p.0 <ℤ (o.0 +ℤ pos (r q))) → InPile o l r t p
              by (inl a) (inl b) = absurd (omega (arith, odd, in_row q h e, ap tally (false_lt p.0 (o.0 +ℤ pos (l q)) a), ap tally (false_lt p.0 (o.0 +ℤ pos (r q)) b)))
              by (inl a) (inr b) = record { row = q; among = h; level = e; west = a; east = b }
              by (inr a) (inl b) = absurd (omega (zarith, a, b, wide q h, bal+ o.0 (pos (l q)), bal+ o.0 (pos (r q))))
              by (inr a) (inr b) = absurd (omega (arith, odd, in_row q h e, ap tally (true_lt p.0 (o.0 +ℤ pos (l q)) a), ap tally (true_lt p.0 (o.0 +ℤ pos (r q)) b)))

      pile_odd : InPile o l r t p → n % 2 ≡ 1
      pile_odd i =
          let q = i.row in
          omega (arith, in_row q i.among i.level, ap tally (false_lt p.0 (o.0 +ℤ pos (l q)) i.west), ap tally (true_lt p.0 (o.0 +ℤ pos (r q)) i.east))

-- the chain from the south-west corner of row m
module _ (o : Corner) (l r : ℕ → ℕ) (t : ℕ) (p : Piled l r t) (m : ℕ) (h : m ≤ t) where
  abbrev c : Corner
  c = corner_by o (l m) m

  abbrev ds : List ℕ
  ds = chain_from_row l r t m

  pub chain-room : IsRoom c ds
  chain-room = let a = arc_chain o l r t p m h in round_room c ds (chain_four l r t m p) a.ends a.once

  -- the blocks inside are those of the rows
  pub chain-inside : (b : Panel) → Inside c ds b ↔ InPile o l r t b
  chain-inside b =
      let e = adds_chain (count_adds (λ f. beside b f.foot)) o l r t m h in
      (odd_pile o l r t b p.wide (edges_beside c ds b) e, pile_odd o l r t b p.wide (edges_beside c ds b) e)

  -- there are as many as the rows have
  chain_area : area_of c ds ≡ pos (blocks_from l r 0 (suc t))
  chain_area = area_room c ds chain-room ∙ adds_chain sweep_adds o l r t m h ∙ ends_blocks o l r (suc t) 0 (λ q u. p.wide q (omega arith))

  pub chain_panels : panels_inside c ds ≡ blocks_from l r 0 (suc t)
  chain_panels = sym (room_magnitude c ds chain-room) ∙ ap nat_abs chain_area

  -- they lie on its left
  pub chain_left : InsideLeft c ds
  chain_left = (room_sign c ds chain-room).0.0 (omega (zarith, chain_area, p.wide 0 (omega arith)))
