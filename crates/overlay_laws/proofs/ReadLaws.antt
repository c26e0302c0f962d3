-- Lower ends read from the numbers of spans, and that the numbers of a room are small.
-- Assumes nothing.
use mathlib.Core.Bool.{Bool, true, false}
use mathlib.Core.List.{List, [], ◌∷◌, ◌++◌}
use mathlib.Core.Path.{◌≡◌, refl, ap, ap₂, ◌∙◌}
use Prim.Native.Nat.{ℕ, zero, suc, ◌+◌, ◌*◌, ◌/◌, ◌%◌, ◌<◌, ◌≤◌}
use native.Mathlib.Omega.{arith}
use borrow.Author.Tests.{ltb-false, le-ltb}
use lib.Dec.{ltb}
use lib.IntN.{ℤ, pos, negsuc, pred_ℤ, nat_abs, ◌+ℤ◌, ◌-ℤ◌}
use lib.ListN.{length, get_or}
use Rattle.int_laws.specs.Signed.{up, dn}
use Rattle.int_laws.proofs.LinearLaws.{zarith, bal+, bal-}
use Rattle.int_laws.proofs.NextLaws.{bal_pred}
use Rattle.int_laws.proofs.RangeLaws.{abs_nat}
use Rattle.lists.specs.Lists.{tally, count, Below}
use Rattle.answer.specs.Limits.{most_steps, most_start, Near}
use Rattle.grid.specs.declared.Corner.{Corner}
use Rattle.grid.specs.Grid.{corner}
use Rattle.grid.proofs.CornerLaws.{eq_z_refl}
use Rattle.panels.specs.Edges.{edges_from}
use Rattle.trace.specs.Verdict.{IsRoom}
use Rattle.row.specs.Rows.{span_numbers}
use Rattle.row_laws.specs.Feet.{feet_of, pairs_of, rows_of}
use Rattle.row_laws.proofs.FootLaws.{UpTo, InTurn, climbs_in_turn}
use Rattle.row_laws.proofs.PairLaws.{EvenRows, pair_row, pairs_even, turn_up-to}
use Rattle.row_bucket_laws.specs.Buckets.{bucket_of, low_of}
use Rattle.row_bucket_laws.proofs.RowLaws.{feet_none}
use Rattle.overlay_laws.specs.Sweep.{end_at, ends_from}
use Rattle.overlay_laws.proofs.PartLaws.{Ends}

-- ---- ends read from numbers

-- a span later
end_later : (x y z : ℤ) (l : List ℤ) (i : ℕ) → end_at (x ∷ y ∷ z ∷ l) (suc (suc i)) ≡ end_at l i
end_later x y z l i = ap₂ corner (ap₂ (λ (n m : ℕ). get_or (x ∷ y ∷ z ∷ l) n (pos 0) +ℤ pos m) three two) (ap (λ (n : ℕ). get_or (x ∷ y ∷ z ∷ l) n (pos 0)) row)
  where
    three : 3 * (suc (suc i) / 2) + 1 + suc (suc i) % 2 ≡ suc (suc (suc (3 * (i / 2) + 1 + i % 2)))
    three = omega arith

    two : suc (suc i) % 2 ≡ i % 2
    two = omega arith

    row : 3 * (suc (suc i) / 2) ≡ suc (suc (suc (3 * (i / 2))))
    row = omega arith

ends-later : (x y z : ℤ) (l : List ℤ) (i k : ℕ) → ends_from (x ∷ y ∷ z ∷ l) (suc (suc i)) k ≡ ends_from l i k
ends-later x y z l i zero = refl
ends-later x y z l i (suc k) = ap₂ (λ (q : Corner) (R : List Corner). q ∷ R) (end_later x y z l i) (ends-later x y z l (suc i) k)

-- the numbers of the spans between ends give the ends back
ends_turn : (P : List Corner) (tail : List ℤ) → InTurn UpTo P → EvenRows P → ends_from (span_numbers (pairs_of P) ++ tail) 0 (length P) ≡ P
ends_turn [] tail g even = refl
ends_turn (x ∷ []) tail g even = absurd (omega (arith, even x.1, ap tally (eq_z_refl x.1)))
ends_turn (x ∷ y ∷ P) tail g even =
    let r = pair_row x y P g even in
    ap₂ (λ (p : Corner) (R : List Corner). p ∷ R) (ap (λ (z : ℤ). corner z x.1) (same x.0))
    (ap₂ (λ (q : Corner) (R : List Corner). q ∷ R) (ap₂ corner (past y.0) r) (ends-later x.1 x.0 (pred_ℤ y.0) (span_numbers (pairs_of P) ++ tail) 0 (length P) ∙ ends_turn P tail (climbs_in_turn UpTo y P g.1) (pairs_even x y P r even)))
  where
    same : (z : ℤ) → z +ℤ pos 0 ≡ z
    same z = omega (zarith, bal+ z (pos 0))

    past : (z : ℤ) → pred_ℤ z +ℤ pos 1 ≡ z
    past z = omega (zarith, bal+ (pred_ℤ z) (pos 1), bal_pred z)

pub ends_read : (P : List Corner) (tail : List ℤ) → Ends P → ends_from (span_numbers (pairs_of P) ++ tail) 0 (length P) ≡ P
ends_read P tail e = ends_turn P tail (turn_up-to P e.sorted) e.even

-- lists that begin alike have the same ends
pub ends_same : (a b : List ℤ) (n : ℕ) → n % 2 ≡ 0 → ((j : ℕ) → j < 3 * (n / 2) → get_or a j (pos 0) ≡ get_or b j (pos 0)) → ends_from a 0 n ≡ ends_from b 0 n
ends_same a b n even h = go 0 n (omega arith)
  where
    go : (i k : ℕ) → i + k ≡ n → ends_from a i k ≡ ends_from b i k
    go i zero e = refl
    go i (suc k) e = ap₂ (λ (q : Corner) (R : List Corner). q ∷ R) (ap₂ corner (ap (λ (z : ℤ). z +ℤ pos (i % 2)) (h (3 * (i / 2) + 1 + i % 2) (omega (arith, e)))) (h (3 * (i / 2)) (omega (arith, e)))) (go (suc i) k (omega (arith, e)))

-- ---- the numbers of a room are small

abs_between : (z : ℤ) (b : ℕ) → up z ≤ b + dn z → dn z ≤ b + up z → nat_abs z ≤ b
abs_between z b h g = by z h g
  where
    by : (z : ℤ) → up z ≤ b + dn z → dn z ≤ b + up z → nat_abs z ≤ b
    by (pos n) h g = omega arith
    by (negsuc n) h g = omega arith

-- a coordinate m west of z at most, and m east of it
near_by : (z : ℤ) (m k b : ℕ) → nat_abs z ≤ b → k < 2 * m → nat_abs ((z -ℤ pos m) +ℤ pos k) ≤ b + m
near_by z m k b h g =
    abs_between ((z -ℤ pos m) +ℤ pos k) (b + m)
    (omega (arith, h, abs_nat z, bal+ (z -ℤ pos m) (pos k), bal- z (pos m)))
    (omega (arith, h, abs_nat z, bal+ (z -ℤ pos m) (pos k), bal- z (pos m)))

abbrev far : ℤ → Bool
far z = ltb 24577 (nat_abs z)

not_far : (z : ℤ) → tally (far z) ≡ 0 → nat_abs z ≤ 24577
not_far z h = by (far z) refl h
  where
    by : (b : Bool) → far z ≡ b → tally b ≡ 0 → nat_abs z ≤ 24577
    by true e k = absurd (omega (arith, k))
    by false e k = ltb-false 24577 (nat_abs z) e

-- if no end is far the numbers are small
numbers_small : (P : List Corner) → count (λ q. far q.0) P ≡ 0 → count (λ q. far q.1) P ≡ 0 → (k : ℕ) → nat_abs (get_or (span_numbers (pairs_of P)) k (pos 0)) ≤ 32767
numbers_small [] e f k = omega arith
numbers_small (x ∷ []) e f k = omega arith
numbers_small (x ∷ y ∷ P) e f zero = omega (arith, not_far x.1 (omega (arith, f)))
numbers_small (x ∷ y ∷ P) e f (suc zero) = omega (arith, not_far x.0 (omega (arith, e)))
numbers_small (x ∷ y ∷ P) e f (suc (suc zero)) = omega (arith, not_far y.0 (omega (arith, e)), abs_nat y.0, abs_nat (pred_ℤ y.0), abs_pred y.0)
  where
    abs_pred : (z : ℤ) → nat_abs (pred_ℤ z) ≤ suc (nat_abs z)
    abs_pred z = abs_between (pred_ℤ z) (suc (nat_abs z)) (omega (arith, abs_nat z, bal_pred z)) (omega (arith, abs_nat z, bal_pred z))
numbers_small (x ∷ y ∷ P) e f (suc (suc (suc k))) = numbers_small P (omega (arith, e)) (omega (arith, f)) k

pub room_small : (c : Corner) (ds : List ℕ) → IsRoom c ds → Below 4 ds → length ds ≤ most_steps → Near c → (k : ℕ) → nat_abs (get_or (span_numbers (rows_of c ds)) k (pos 0)) ≤ 32767
room_small c ds room digits few near =
    let m = length ds / 2 + 1 in
    let none = feet_none c ds m room digits (omega arith) (omega (arith, few)) in
    numbers_small (feet_of (edges_from c ds))
    (none (λ q. far q.0) (λ q h k. le-ltb 24577 (nat_abs ((c.0 -ℤ pos m) +ℤ pos (bucket_of ds m q))) (omega (arith, few, near_by c.0 m (bucket_of ds m q) most_start near.0 h))))
    (none (λ q. far q.1) (λ q h k. le-ltb 24577 (nat_abs ((c.1 -ℤ pos m) +ℤ pos (low_of ds m q))) (omega (arith, few, near_by c.1 m (low_of ds m q) most_start near.1 k))))
