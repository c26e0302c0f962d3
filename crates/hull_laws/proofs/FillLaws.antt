-- The pass that fills the columns.
-- Assumes nothing.
use mathlib.Core.Path.{◌≡◌, refl, sym, ap, ◌∙◌, subst}
use mathlib.Core.List.{List, ◌∷◌, map}
use Prim.Native.Nat.{ℕ, suc, ◌+◌, ◌*◌, ◌-◌, ◌≤◌, ◌<◌}
use native.Mathlib.Omega.{arith}
use native.Mathlib.Numerals.{add-one}
use lib.ListN.{length, get_or, drop, drop_of_length-le}
use lib.Seq.{drop-cons}
use Rattle.answer.specs.Limits.{most_steps}
use Rattle.column_laws.specs.Columns.{col_after, row_after, trail, west_from, east_from}
use Rattle.hull_laws.specs.Lowest.{sink, sinks, counted_from, half_turned}
use Rattle.column_laws.proofs.TrailLaws.{near, near-row, west_le, east_ge}
use Rattle.hull_laws.proofs.SinkLaws.{length-sink}

-- after i steps the walk stands at column x and height y; what is left of it gives the columns of the whole
pub record Filling (chain : List ℕ) (w e : ℕ) (lo₀ hi₀ lo hi : List ℕ) (x y i : ℕ) : Type 0 where
  pub within : i ≤ length chain
  pub left : length chain - i ≤ x
  pub right : x + (length chain - i) ≤ 2 * most_steps
  pub down : length chain - i ≤ y
  pub up : y + (length chain - i) ≤ 2 * most_steps
  pub west : w ≤ west_from x (drop i chain)
  pub east : east_from x (drop i chain) ≤ e
  pub size : length lo ≡ length lo₀
  pub size2 : length hi ≡ length hi₀
  pub lows : sinks lo (map (counted_from w) (trail x y (drop i chain))) ≡ sinks lo₀ (map (counted_from w) (trail most_steps most_steps chain))
  pub highs : sinks hi (map (half_turned e (2 * most_steps)) (trail x y (drop i chain))) ≡ sinks hi₀ (map (half_turned e (2 * most_steps)) (trail most_steps most_steps chain))

pub filling_start : (chain : List ℕ) (w e : ℕ) (lo hi : List ℕ) → length chain ≤ most_steps → w ≡ west_from most_steps chain → e ≡ east_from most_steps chain → Filling chain w e lo hi lo hi most_steps most_steps 0
filling_start chain w e lo hi h a b = record {
  within = omega arith;
  left = omega arith;
  right = omega arith;
  down = omega arith;
  up = omega arith;
  west = omega arith;
  east = omega arith;
  size = refl;
  size2 = refl;
  lows = refl;
  highs = refl;
}

module _ {chain : List ℕ} {w e : ℕ} {lo₀ hi₀ lo hi : List ℕ} {x y i : ℕ} (f : Filling chain w e lo₀ hi₀ lo hi x y i) where
  -- the corner stood on lies between
  pub filling_west : w ≤ x
  filling_west = omega (arith, f.west, west_le x (drop i chain))

  pub filling_east : x ≤ e
  filling_east = omega (arith, f.east, east_ge x (drop i chain))

  pub filling_top : y ≤ 2 * most_steps
  filling_top = omega (arith, f.up)

  pub filling_in_lo : e - w < length lo₀ → x - w < length lo
  filling_in_lo h = omega (arith, filling_west, filling_east, f.size)

  pub filling_in_hi : e - w < length hi₀ → e - x < length hi
  filling_in_hi h = omega (arith, filling_west, filling_east, f.size2)

  -- with space for a step
  pub filling_column : i < length chain → (0 < x) × (x ≤ 2 * most_steps)
  filling_column h = (omega (arith, f.left), omega (arith, f.right))

  pub filling_row : i < length chain → (0 < y) × (y ≤ 2 * most_steps)
  filling_row h = (omega (arith, f.down), omega (arith, f.up))

  d : ℕ
  d = get_or chain i 0

  trail_here : i < length chain → trail x y (drop i chain) ≡ (x, y) ∷ trail (col_after x d) (row_after y d) (drop (suc i) chain)
  unfolding trail d
  trail_here h = ap (trail x y) (drop-cons chain i 0 h)

  west_here : i < length chain → w ≤ west_from (col_after x d) (drop (suc i) chain)
  unfolding west_from d
  west_here h = omega (arith, f.west, ap (west_from x) (drop-cons chain i 0 h))

  east_here : i < length chain → east_from (col_after x d) (drop (suc i) chain) ≤ e
  unfolding east_from d
  east_here h = omega (arith, f.east, ap (east_from x) (drop-cons chain i 0 h))

  sinks_here : (g : ℕ × ℕ → ℕ × ℕ) (a a' G : List ℕ) → i < length chain → a' ≡ sink a (g (x, y)) → sinks a (map g (trail x y (drop i chain))) ≡ G → sinks a' (map g (trail (col_after x d) (row_after y d) (drop (suc i) chain))) ≡ G
  unfolding sinks
  sinks_here g a a' G h s t = ap (λ (l : List ℕ). sinks l (map g (trail (col_after x d) (row_after y d) (drop (suc i) chain)))) s ∙ ap (λ (vs : List (ℕ × ℕ)). sinks a (map g vs)) (sym (trail_here h)) ∙ t

  pub filling_step : (x' y' : ℕ) (lo' hi' : List ℕ) → i < length chain → x' ≡ col_after x (get_or chain i 0) → y' ≡ row_after y (get_or chain i 0) → lo' ≡ sink lo (x - w, y) → hi' ≡ sink hi (e - x, 2 * most_steps - y) → Filling chain w e lo₀ hi₀ lo' hi' x' y' (i + 1)
  unfolding d
  filling_step x' y' lo' hi' h ex ey el eh =
      subst (λ (j : ℕ). Filling chain w e lo₀ hi₀ lo' hi' x' y' j) (sym (add-one i)) (subst (λ (k : ℕ). Filling chain w e lo₀ hi₀ lo' hi' k y' (suc i)) (sym ex) (subst (λ (k : ℕ). Filling chain w e lo₀ hi₀ lo' hi' (col_after x d) k (suc i)) (sym ey) next))
    where
      n : (x ≤ col_after x d + 1) × (col_after x d ≤ x + 1)
      n = near x d (omega (arith, f.left))

      m : (y ≤ row_after y d + 1) × (row_after y d ≤ y + 1)
      m = near-row y d (omega (arith, f.down))

      next : Filling chain w e lo₀ hi₀ lo' hi' (col_after x d) (row_after y d) (suc i)
      next = record {
        within = omega arith;
        left = omega (arith, n, f.left);
        right = omega (arith, n, f.right);
        down = omega (arith, m, f.down);
        up = omega (arith, m, f.up);
        west = west_here h;
        east = east_here h;
        size = ap length el ∙ length-sink lo (x - w, y) ∙ f.size;
        size2 = ap length eh ∙ length-sink hi (e - x, 2 * most_steps - y) ∙ f.size2;
        lows = sinks_here (counted_from w) lo lo' (sinks lo₀ (map (counted_from w) (trail most_steps most_steps chain))) h el f.lows;
        highs = sinks_here (half_turned e (2 * most_steps)) hi hi' (sinks hi₀ (map (half_turned e (2 * most_steps)) (trail most_steps most_steps chain))) h eh f.highs;
      }

  last_here : (g : ℕ × ℕ → ℕ × ℕ) (a a' G : List ℕ) → length chain ≤ i → a' ≡ sink a (g (x, y)) → sinks a (map g (trail x y (drop i chain))) ≡ G → a' ≡ G
  unfolding sinks trail
  last_here g a a' G h s t = s ∙ ap (λ (ds : List ℕ). sinks a (map g (trail x y ds))) (sym (drop_of_length-le chain {i = i} h)) ∙ t

  pub filling_low : (lo' : List ℕ) → length chain ≤ i → lo' ≡ sink lo (x - w, y) → lo' ≡ sinks lo₀ (map (counted_from w) (trail most_steps most_steps chain))
  filling_low lo' h s = last_here (counted_from w) lo lo' (sinks lo₀ (map (counted_from w) (trail most_steps most_steps chain))) h s f.lows

  pub filling_high : (hi' : List ℕ) → length chain ≤ i → hi' ≡ sink hi (e - x, 2 * most_steps - y) → hi' ≡ sinks hi₀ (map (half_turned e (2 * most_steps)) (trail most_steps most_steps chain))
  filling_high hi' h s = last_here (half_turned e (2 * most_steps)) hi hi' (sinks hi₀ (map (half_turned e (2 * most_steps)) (trail most_steps most_steps chain))) h s f.highs
