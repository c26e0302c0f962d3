-- A room has few panels, a list no more spans than panels, and that of a part no more than the rows of both rooms.
-- Assumes nothing.
use mathlib.Core.Bool.{Bool, true, false, cond, true≢false}
use mathlib.Core.List.{List, [], ◌∷◌}
use mathlib.Core.Path.{◌≡◌, refl, ap, sym, ◌∙◌}
use Prim.Native.Nat.{ℕ, zero, suc, ◌+◌, ◌*◌, ◌≤◌}
use native.Mathlib.Omega.{arith}
use lib.IntN.{pos, nat_abs, suc_ℤ, ◌+ℤ◌, ◌-ℤ◌, ◌*ℤ◌, +ℤ_invr, +ℤ_idr}
use lib.ListN.{length, drop}
use lib.Signed.{◌≤ℤ◌}
use Rattle.int_laws.proofs.LinearLaws.{zarith}
use Rattle.int_laws.proofs.NextLaws.{suc_sub, pred_sub, bal_suc, above}
use Rattle.int_laws.proofs.RangeLaws.{abs+, abs*≤}
use Rattle.grid.specs.declared.Corner.{Corner}
use Rattle.grid.specs.Grid.{stepped, end_from}
use Rattle.grid.proofs.BoundLaws.{stepped_bound}
use Rattle.trace.specs.Verdict.{sweep_from}
use Rattle.row.specs.Rows.{Span, InOrder, span_length, lengths_of}
use Rattle.row_laws.specs.Feet.{pairs_of, rows_of}
use Rattle.row_laws.proofs.PairLaws.{pairs_length, turn_up-to}
use Rattle.overlay.specs.declared.Part.{Part}
use Rattle.overlay_laws.specs.{Join.Stop, Join.leads, Join.stops_by, Join.join, Join.differ, Join.changes, Sweep.part_has, Sweep.ends_of_walk, Sweep.part_ends, Sweep.lists_of}
use Rattle.overlay_laws.proofs.OverlayLaws.{walk_ends}

change_small : (d : ℕ) (c : Corner) → nat_abs ((stepped d c).1 -ℤ c.1) ≤ 1
change_small zero c = omega (arith, ap nat_abs (+ℤ_invr c.1))
change_small (suc zero) c = omega (arith, ap nat_abs (suc_sub c.1))
change_small (suc (suc zero)) c = omega (arith, ap nat_abs (+ℤ_invr c.1))
change_small (suc (suc (suc d))) c = omega (arith, ap nat_abs (pred_sub c.1))

-- the sum of x times the change of y
pub sweep_bound : (c : Corner) (ds : List ℕ) (b : ℕ) → nat_abs c.0 + length ds ≤ b → nat_abs (sweep_from c ds) ≤ length ds * b
sweep_bound c [] b h = omega arith
sweep_bound c (d ∷ ds) b h =
    let x = c.0 *ℤ ((stepped d c).1 -ℤ c.1) in
    let e = abs+ x (sweep_from (stepped d c) ds) in
    let f = abs*≤ c.0 ((stepped d c).1 -ℤ c.1) b 1 (omega arith) (change_small d c) in
    let g = sweep_bound (stepped d c) ds b (omega (arith, (stepped_bound d c).0)) in
    omega (arith, e, f, g)

one-panel : (s : Span) → s.first ≤ℤ s.last → 1 ≤ span_length s
one-panel s h = by (span_length s) refl
  where
    by : (n : ℕ) → span_length s ≡ n → 1 ≤ span_length s
    by zero e =
        let a = above s.first (suc_ℤ s.last) (omega (zarith, bal_suc s.last)) in
        let b : suc_ℤ s.last ≡ s.first = a ∙ ap (λ (n : ℕ). s.first +ℤ pos n) e ∙ +ℤ_idr s.first in
        absurd (omega (zarith, b, h, bal_suc s.last))
    by (suc n) e = omega (arith, e)

pub spans_few_lem : (L : List Span) → InOrder L → length L ≤ lengths_of L
spans_few_lem [] o = omega arith
spans_few_lem (s ∷ L) o = omega (arith, one-panel s o.0, spans_few_lem L o.2)

-- ---- spans of a part

first-left : (P Q : List Corner) → leads P Q ≡ true → length (drop 1 P) + 1 ≡ length P
first-left [] Q e = absurd (true≢false (sym e))
first-left (p ∷ P) Q e = omega arith

abbrev Few : ℕ → List Corner → List Corner → Type 0
Few n X Y = length (join n X Y) ≤ length X + length Y

-- there are no more stops than lower ends
join_few : (n : ℕ) (P Q : List Corner) → Few n P Q
join_few zero P Q = omega arith
join_few (suc n) P Q = by (leads P Q) (leads Q P) refl refl (join_few n (drop 1 P) (drop 1 Q)) (join_few n (drop 1 P) Q) (join_few n P (drop 1 Q))
  where
    by : (a b : Bool) → leads P Q ≡ a → leads Q P ≡ b → Few n (drop 1 P) (drop 1 Q) → Few n (drop 1 P) Q → Few n P (drop 1 Q) → length (stops_by (λ (X Y : List Corner). join n X Y) P Q a b) ≤ length P + length Q
    by true true e f h i j = omega (arith, h, first-left P Q e, first-left Q P f)
    by true false e f h i j = omega (arith, i, first-left P Q e)
    by false true e f h i j = omega (arith, j, first-left Q P f)
    by false false e f h i j = omega arith

-- nor more changes than stops
changes_few : (part : Bool → Bool → Bool) (a b : Bool) (J : List Stop) → length (changes part a b J) ≤ length J
changes_few part a b [] = omega arith
changes_few part a b (t ∷ J) = by (differ (part a b) (part (differ a t.one) (differ b t.two))) (changes_few part (differ a t.one) (differ b t.two) J)
  where
    by : (d : Bool) → length (changes part (differ a t.one) (differ b t.two) J) ≤ length J
        → length (cond d (t.at ∷ changes part (differ a t.one) (differ b t.two) J) (changes part (differ a t.one) (differ b t.two) J)) ≤ suc (length J)
    by true h = omega arith
    by false h = omega arith

pairs_few : (E : List Corner) → 2 * length (pairs_of E) ≤ length E
pairs_few [] = omega arith
pairs_few (p ∷ []) = omega arith
pairs_few (p ∷ q ∷ E) = omega (arith, pairs_few E)

-- the list of a part has half as many spans as there are lower ends at most
pub part_half : (k : Part) (P Q : List Corner) → 2 * length (pairs_of (part_ends k P Q)) ≤ length P + length Q
part_half k P Q =
    let J = join (length P + length Q) P Q in
    omega (arith, pairs_few (part_ends k P Q), changes_few (part_has k) false false J, join_few (length P + length Q) P Q)

-- it has no more spans than the rows of both walks
pub part_few : (s : Corner) (ds : List ℕ) (t : Corner) (es : List ℕ) → end_from s ds ≡ s → end_from t es ≡ t → (k : Part) → length (lists_of s ds t es k) ≤ length (rows_of s ds) + length (rows_of t es)
part_few s ds t es e f k = omega (arith, part_half k (ends_of_walk s ds) (ends_of_walk t es), half s ds e, half t es f)
  where
    half : (c : Corner) (l : List ℕ) → end_from c l ≡ c → 2 * length (rows_of c l) ≡ length (ends_of_walk c l)
    half c l h = let w = walk_ends c l h in pairs_length (ends_of_walk c l) (turn_up-to (ends_of_walk c l) w.sorted) w.even
