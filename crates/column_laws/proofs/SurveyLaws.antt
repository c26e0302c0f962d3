-- The pass that finds how far a walk goes.
-- Assumes nothing.
use mathlib.Core.Path.{◌≡◌, sym, ap, ◌∙◌}
use mathlib.Core.List.{List, []}
use Prim.Native.Nat.{ℕ, ◌+◌, ◌*◌, ◌≤◌, ◌<◌, min, max}
use native.Mathlib.Omega.{arith}
use native.Mathlib.Numerals.{add-one}
use lib.ListN.{length, get_or, drop, drop_of_length-le}
use lib.Seq.{drop-cons}
use Rattle.answer.specs.Limits.{most_steps}
use Rattle.column_laws.specs.Columns.{col_after, west_from, east_from}
use Rattle.column_laws.proofs.TrailLaws.{near, west_le, east_ge}
use Rattle.steps.proofs.ChainLaws.{Judging, judging_start, judging_step}

none_left : (chain : List ℕ) (i : ℕ) → length chain ≤ i → drop i chain ≡ []
none_left chain i h = drop_of_length-le chain {i = i} h

-- the walk stands in column x after i steps, and was in the columns w to e
pub record Surveyed (chain : List ℕ) (x w e i : ℕ) : Type 0 where
  pub judging : Judging chain i
  pub left : most_steps ≤ x + i
  pub right : x ≤ most_steps + i
  pub here : w ≤ x
  pub here2 : x ≤ e
  pub west : min w (west_from x (drop i chain)) ≡ west_from most_steps chain
  pub east : max e (east_from x (drop i chain)) ≡ east_from most_steps chain

pub surveyed_start : (chain : List ℕ) → Surveyed chain most_steps most_steps most_steps 0
surveyed_start chain = record {
  judging = judging_start chain;
  left = omega arith;
  right = omega arith;
  here = omega arith;
  here2 = omega arith;
  west = omega (arith, west_le most_steps chain);
  east = omega (arith, east_ge most_steps chain);
}

module _ (chain : List ℕ) (x w e i : ℕ) (s : Surveyed chain x w e i) where
  west_step : i < length chain → west_from x (drop i chain) ≡ min x (west_from (col_after x (get_or chain i 0)) (drop (i + 1) chain))
  unfolding west_from
  west_step h = ap (west_from x) (drop-cons chain i 0 h) ∙ ap (λ (k : ℕ). min x (west_from (col_after x (get_or chain i 0)) (drop k chain))) (sym (add-one i))

  east_step : i < length chain → east_from x (drop i chain) ≡ max x (east_from (col_after x (get_or chain i 0)) (drop (i + 1) chain))
  unfolding east_from
  east_step h = ap (east_from x) (drop-cons chain i 0 h) ∙ ap (λ (k : ℕ). max x (east_from (col_after x (get_or chain i 0)) (drop k chain))) (sym (add-one i))

  -- a column to step to
  pub surveyed_room : ¬ (i ≡ most_steps) → (0 < x) × (x ≤ 2 * most_steps)
  surveyed_room n = (omega (arith, s.judging.few, s.left), omega (arith, s.judging.few, s.right))

  -- one more step
  pub surveyed_step : (x' w' e' : ℕ) → i < length chain → get_or chain i 0 ≤ 3 → ¬ (i ≡ most_steps) → x' ≡ col_after x (get_or chain i 0) → w' ≡ min w x' → e' ≡ max e x' → Surveyed chain x' w' e' (i + 1)
  surveyed_step x' w' e' h g n ex ew ee = record {
    judging = judging_step chain i s.judging h g n;
    left = omega (arith, close, s.left);
    right = omega (arith, close, s.right);
    here = omega arith;
    here2 = omega arith;
    west = omega (arith, s.west, s.here, west_step h, west_le x' (drop (i + 1) chain), ap (λ (k : ℕ). west_from k (drop (i + 1) chain)) ex);
    east = omega (arith, s.east, s.here2, east_step h, east_ge x' (drop (i + 1) chain), ap (λ (k : ℕ). east_from k (drop (i + 1) chain)) ex);
  }
    where
      close : (x ≤ col_after x (get_or chain i 0) + 1) × (col_after x (get_or chain i 0) ≤ x + 1)
      close = near x (get_or chain i 0) (surveyed_room n).0

  pub surveyed_west : length chain ≤ i → w ≡ west_from most_steps chain
  unfolding west_from
  surveyed_west h = omega (arith, s.west, s.here, ap (west_from x) (none_left chain i h))

  pub surveyed_east : length chain ≤ i → e ≡ east_from most_steps chain
  unfolding east_from
  surveyed_east h = omega (arith, s.east, s.here2, ap (east_from x) (none_left chain i h))
