-- From the parts of the hull call to the whole.
-- Assumes nothing.
use Rattle.std.specs.Prelude.{Ok}
use mathlib.Core.Path.{◌≡◌, sym, ap, ap₂, ◌∙◌, subst}
use mathlib.Core.List.{List, map}
use Prim.Native.Nat.{ℕ, suc, ◌+◌, ◌*◌, ◌-◌, ◌≤◌, ◌<◌}
use native.Mathlib.Omega.{arith}
use lib.Dec.{ltb}
use lib.IntN.{ℤ, pos, ◌+ℤ◌, ◌-ℤ◌}
use lib.ListN.{length, get_or, take, drop, replicate, get_or-replicate, length-replicate, length-drop}
use Rattle.std.specs.List.{between}
use Rattle.std.proofs.lemmas.List.{take-replicate}
use Rattle.std.proofs.lemmas.Slice.{between_to_end}
use Rattle.answer.specs.Answers.{Counted, Judged}
use Rattle.int_laws.proofs.LinearLaws.{zarith, bal+, bal-}
use Rattle.grid.specs.declared.Corner.{Corner}
use Rattle.grid.specs.Grid.{corners_from, numbers}
use Rattle.answer.specs.declared.Refusal.TheVariants.{HullRoom}
use Rattle.answer.specs.Limits.{most_steps}
use Rattle.answer.specs.Refusal.{when}
use Rattle.answer.specs.Listed.{counted_of, laid_if}
use Rattle.hull.specs.Hull.{HullIs}
use Rattle.steps.specs.Chain.{as_walk_judged}
use Rattle.hull.specs.Call.{hull_judged, HullCall}
use Rattle.column_laws.specs.Columns.{west_from, east_from, trail, spot, middle, top}
use Rattle.hull_laws.specs.Lowest.{sinks, counted_from, half_turned, blank}
use Rattle.hull_laws.specs.Chain.{hull_by, chain_from}
use Rattle.grid.proofs.CornerLaws.{corner_eq}
use Rattle.column_laws.proofs.TrailLaws.{width_le, east_le, west_le, east_ge}
use Rattle.hull_laws.proofs.SinkLaws.{length-sinks}
use Rattle.hull_laws.proofs.WalkLaws.{Room, columns_hull}
use Rattle.hull_laws.proofs.CallLaws.{judged-room}
use Rattle.hull_laws.proofs.RowLaws.{row_hull}
use Rattle.hull_chains.specs.Stack.{Scanned}
use Rattle.hull_columns.specs.Extent.{Spans}
use Rattle.hull_corners.specs.Parts.{ListGiven, TwoChains, two_at}
use Rattle.hull_call.specs.Store.{HullStore, Hulled}

-- a walk that is not refused
pub walked_order : {chain : List ℕ} {w e : ℕ} → Spans chain w e → w ≤ e
walked_order {chain} {w} {e} h = omega (arith, h.west, h.east, west_le middle chain, east_ge middle chain)

pub walked-top : {chain : List ℕ} {w e : ℕ} → Spans chain w e → e ≤ top
walked-top {chain} {w} {e} h = omega (arith, h.east, h.short, east_le middle chain h.short)

-- it goes through one column more than it has steps, at most
pub walked_across : {chain : List ℕ} {w e : ℕ} → Spans chain w e → e - w ≤ length chain
walked_across {chain} {w} {e} h = omega (arith, h.west, h.east, width_le middle chain h.short)

pub walked-width : {chain : List ℕ} {w e : ℕ} → Spans chain w e → e - w ≤ most_steps
walked-width h = omega (arith, h.short, walked_across h)

-- the columns of a store of one length
pub stored : {w e : ℕ} (n : ℕ) → e - w < n → n ≤ suc blank → HullStore w e (take ((e - w) + 1) (replicate n blank)) (take ((e - w) + 1) (replicate n blank)) (replicate n 0) (replicate n 0)
stored {w} {e} n h g = rw (take-replicate ((e - w) + 1) n blank (omega arith)) record {
  low = omega (arith, columns);
  high = omega (arith, columns);
  stack = omega (arith, size);
  stack2 = omega (arith, size);
  short = omega (arith, size);
  short2 = omega (arith, size);
  clear = clear;
  clear2 = clear;
}
  where
    size : length (replicate {A = ℕ} n 0) ≡ n
    size = length-replicate n 0

    columns : length (replicate {A = ℕ} ((e - w) + 1) blank) ≡ (e - w) + 1
    columns = length-replicate ((e - w) + 1) blank

    clear : replicate ((e - w) + 1) blank ≡ replicate (length (replicate {A = ℕ} ((e - w) + 1) blank)) blank
    clear = ap (λ (k : ℕ). replicate k blank) (sym columns)

-- the start stands in the middle
start_is : (c : Corner) → spot (c.0 -ℤ pos middle) (c.1 -ℤ pos middle) (middle, middle) ≡ c
start_is c = corner_eq (spot (c.0 -ℤ pos middle) (c.1 -ℤ pos middle) (middle, middle)) c (back c.0) (back c.1)
  where
    back : (z : ℤ) → (z -ℤ pos middle) +ℤ pos middle ≡ z
    back z = omega (zarith, bal- z (pos middle), bal+ (z -ℤ pos middle) (pos middle))

-- a walk through a new column at each step is along one line
pub row_hulled : {c : Corner} {chain : List ℕ} {w e : ℕ} {before after : List ℤ} {r : Counted} → Spans chain w e → w < e → e - w ≡ length chain → ListGiven (two_at c w e) before r after → Hulled c chain before r after
row_hulled {c} {chain} {w} {e} k h g l = record { list = two_at c w e; hull = whole; listed = l }
  where
    whole : HullIs (corners_from c chain) (two_at c w e)
    whole =
        subst (λ (z : Corner). HullIs (corners_from z chain) (two_at c w e)) (start_is c)
        (subst (HullIs (corners_from (spot (c.0 -ℤ pos middle) (c.1 -ℤ pos middle) (middle, middle)) chain)) (ap₂ (two_at c) (sym k.west) (sym k.east)) (row_hull (c.0 -ℤ pos middle) (c.1 -ℤ pos middle) middle middle chain k.short k.short (omega arith) (omega (arith, k.west, k.east))))

-- the columns filled, from a store that is clear
module _ {chain : List ℕ} {w e : ℕ} {lo hi s t : List ℕ} (k : Spans chain w e) (m : HullStore w e lo hi s t) where
  cleared : (l : List ℕ) → l ≡ replicate (length l) blank → (i : ℕ) → i < length l → get_or l i 0 ≡ blank
  cleared l r i h = ap (λ (l : List ℕ). get_or l i 0) r ∙ get_or-replicate (length l) i blank 0 h

  store_room : Room middle middle chain top blank lo hi
  store_room = record {
    across = k.short;
    up = k.short;
    high = omega (arith, k.short);
    over = omega arith;
    first = omega (arith, m.low, k.west, k.east);
    second = omega (arith, m.high, k.west, k.east);
    blank = λ i h. cleared lo m.clear i (omega (arith, h, m.low, k.west, k.east));
    blank2 = λ i h. cleared hi m.clear2 i (omega (arith, h, m.high, k.west, k.east));
  }

  -- what the scans leave
  pub chained : (lo' hi' s' t' : List ℕ) (a b : ℕ) → lo' ≡ sinks lo (map (counted_from w) (trail middle middle chain)) → hi' ≡ sinks hi (map (half_turned e top) (trail middle middle chain)) → length s' ≡ length s → length t' ≡ length t → Scanned lo' s' a → Scanned hi' t' b → TwoChains w e lo' hi' (between a (length s') s') (between b (length t') t')
  chained lo' hi' s' t' a b p q i j x y = record {
    ordered = walked_order k;
    within = walked-top k;
    low = omega (arith, low);
    high = omega (arith, high);
    lower = from_a ∙ x.chain ∙ ap (chain_from lo' 0) low;
    upper = from_b ∙ y.chain ∙ ap (chain_from hi' 0) high;
    short = omega (arith, m.short, i, ap length from_a, length-drop a s');
    short2 = omega (arith, m.short2, j, ap length from_b, length-drop b t');
  }
    where
      low : length lo' ≡ suc (e - w)
      low = ap length p ∙ length-sinks lo (map (counted_from w) (trail middle middle chain)) ∙ m.low

      high : length hi' ≡ suc (e - w)
      high = ap length q ∙ length-sinks hi (map (half_turned e top) (trail middle middle chain)) ∙ m.high

      from_a : between a (length s') s' ≡ drop a s'
      from_a = between_to_end s' a (length s') (omega arith)

      from_b : between b (length t') t' ≡ drop b t'
      from_b = between_to_end t' b (length t') (omega arith)

  pub hulled : (c : Corner) (lo' hi' : List ℕ) (before after : List ℤ) (r : Counted) → lo' ≡ sinks lo (map (counted_from w) (trail middle middle chain)) → hi' ≡ sinks hi (map (half_turned e top) (trail middle middle chain)) → ListGiven (hull_by (c.0 -ℤ pos middle) (c.1 -ℤ pos middle) w e top lo' hi') before r after → Hulled c chain before r after
  hulled c lo' hi' before after r p q l = record {
    list = hull_by (c.0 -ℤ pos middle) (c.1 -ℤ pos middle) w e top lo' hi';
    hull = whole;
    listed = l;
  }
    where
      at : HullIs (corners_from c chain) (hull_by (c.0 -ℤ pos middle) (c.1 -ℤ pos middle) (west_from middle chain) (east_from middle chain) top (sinks lo (map (counted_from (west_from middle chain)) (trail middle middle chain))) (sinks hi (map (half_turned (east_from middle chain) top) (trail middle middle chain))))
      at = subst (λ (z : Corner). HullIs (corners_from z chain) (hull_by (c.0 -ℤ pos middle) (c.1 -ℤ pos middle) (west_from middle chain) (east_from middle chain) top (sinks lo (map (counted_from (west_from middle chain)) (trail middle middle chain))) (sinks hi (map (half_turned (east_from middle chain) top) (trail middle middle chain))))) (start_is c) (columns_hull (c.0 -ℤ pos middle) (c.1 -ℤ pos middle) middle middle chain top blank lo hi store_room)

      same : hull_by (c.0 -ℤ pos middle) (c.1 -ℤ pos middle) (west_from middle chain) (east_from middle chain) top (sinks lo (map (counted_from (west_from middle chain)) (trail middle middle chain))) (sinks hi (map (half_turned (east_from middle chain) top) (trail middle middle chain))) ≡ hull_by (c.0 -ℤ pos middle) (c.1 -ℤ pos middle) w e top lo' hi'
      same = ap₂ (λ (u v : ℕ). hull_by (c.0 -ℤ pos middle) (c.1 -ℤ pos middle) u v top (sinks lo (map (counted_from u) (trail middle middle chain))) (sinks hi (map (half_turned v top) (trail middle middle chain)))) (sym k.west) (sym k.east) ∙ ap₂ (hull_by (c.0 -ℤ pos middle) (c.1 -ℤ pos middle) w e top) (sym p) (sym q)

      whole : HullIs (corners_from c chain) (hull_by (c.0 -ℤ pos middle) (c.1 -ℤ pos middle) w e top lo' hi')
      whole = subst (HullIs (corners_from c chain)) same at

-- and if nothing else is refused that is the call
pub call_listed : {s : Corner} {chain : List ℕ} {before after : List ℤ} {r : Counted} → as_walk_judged s chain ≡ Ok tt → Hulled s chain before r after → HullCall s chain before r after
call_listed {s} {chain} {before} e k = record {
  list = k.list;
  hull = k.hull;
  answer = k.listed.answer ∙ sym (ap (λ (j : Judged). counted_of j (length k.list)) same);
  buffer = k.listed.buffer ∙ sym (ap (λ (j : Judged). laid_if j (numbers k.list) before) same);
}
  where
    same : hull_judged s chain (length before) (length k.list) ≡ when (ltb (length before) (2 * length k.list)) HullRoom
    same = judged-room s chain (length before) (length k.list) e
