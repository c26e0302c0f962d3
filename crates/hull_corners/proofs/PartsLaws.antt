-- From the two chains to the list in the buffer.
-- Assumes nothing.
use Rattle.std.specs.Prelude.{Err, Ok}
use mir.Val.{bool_byte}
use mathlib.Core.Path.{refl, ◌≡◌, sym, ap, ap₂, ◌∙◌, subst}
use mathlib.Core.Bool.{Bool, true, false, ◌&&◌}
use mathlib.Core.List.{List, map}
use Prim.Native.Nat.{ℕ, suc, ◌+◌, ◌*◌, ◌-◌, ◌≤◌, ◌<◌}
use native.Mathlib.Omega.{arith}
use lib.Dec.{ltb, eqb}
use lib.IntN.{ℤ, pos, negsuc, nat_abs, ◌+ℤ◌, ◌-ℤ◌}
use lib.ListN.{length, get_or, set}
use lib.Seq.{sets, slice, take-length}
use Rattle.std.specs.List.{between}
use Rattle.std.proofs.lemmas.List.Edits.{length-between, get_or-between}
use Rattle.std.proofs.lemmas.Slice.{between_is}
use Rattle.answer.specs.Answers.{Judged}
use Rattle.int_laws.proofs.LinearLaws.{zarith, bal+}
use Rattle.int_laws.proofs.RangeLaws.{abs+, abs-}
use Rattle.lists.specs.Lists.{tally}
use Rattle.grid.specs.declared.Corner.{Corner}
use Rattle.answer.specs.declared.Refusal.TheVariants.{HullRoom}
use Rattle.answer.specs.Limits.{most_steps}
use Rattle.answer.specs.Refusal.{when}
use Rattle.answer.specs.Listed.{counted_of, laid_if}
use Rattle.grid.specs.Grid.{numbers}
use Rattle.hull_laws.specs.Chain.{spot_by, col_at, hull_by}
use Rattle.column_laws.specs.Columns.{spot, middle, top}
use Rattle.hull_laws.proofs.StackLaws.{stack_in}
use Rattle.hull_laws.proofs.JoinLaws.{seam_room, close_room, length_both, parts_hull, spot-by, write_both}
use Rattle.hull_laws.proofs.CallLaws.{room-short, room_enough, written}
use Rattle.answer.specs.Limits.{Near}
use Rattle.hull_corners.specs.Parts.{both_sides, two_at, ListGiven, Puts, Parts, TwoChains}
use Rattle.hull_laws.specs.Lowest.{blank}

-- a test counts 1 if it holds
pub tally-byte : (t : Bool) → bool_byte t ≡ tally t
tally-byte true = refl
tally-byte false = refl

-- a corner of the columns fits the numbers of the buffer
near_axis : (z : ℤ) (n : ℕ) → nat_abs z ≤ most_steps → n ≤ top → nat_abs ((z -ℤ pos middle) +ℤ pos n) ≤ suc blank
near_axis z n h g = omega (arith, abs+ (z -ℤ pos middle) (pos n), abs- z (pos middle))

module _ (c : Corner) {w e : ℕ} {lo hi s t : List ℕ} {room : ℕ} (n : Near c) (p : Parts w e lo hi s t room) where
  pub puts_lower : (base : Corner) → base ≡ spot (c.0 -ℤ pos middle) (c.1 -ℤ pos middle) (w, 0) → Puts room 0 base (pos 1) lo s
  puts_lower base r = record {
    fits = omega (arith, p.fits);
    x = subst (λ (z : Corner). nat_abs z.0 ≤ suc blank) (sym r) (near_axis c.0 w n.0 (omega (arith, p.ordered, p.within)));
    y = subst (λ (z : Corner). nat_abs z.1 ≤ suc blank) (sym r) (near_axis c.1 0 n.1 (omega arith));
    one = omega arith;
    columns = p.columns;
  }

  pub puts_upper : (base : Corner) (k : ℕ) → base ≡ spot (c.0 -ℤ pos middle) (c.1 -ℤ pos middle) (e, top) → k ≡ room → Puts k (2 * length s) base (negsuc 0) hi t
  puts_upper base k r i = record {
    fits = omega (arith, p.fits);
    x = subst (λ (z : Corner). nat_abs z.0 ≤ suc blank) (sym r) (near_axis c.0 e n.0 p.within);
    y = subst (λ (z : Corner). nat_abs z.1 ≤ suc blank) (sym r) (near_axis c.1 top n.1 (omega arith));
    one = omega arith;
    columns = p.columns2;
  }

-- one chain is written after the other
pub both_written : (c : Corner) (w e : ℕ) (lo hi s t : List ℕ) (first last : Corner) (out one two : List ℤ)
    → first ≡ spot (c.0 -ℤ pos middle) (c.1 -ℤ pos middle) (w, 0) → last ≡ spot (c.0 -ℤ pos middle) (c.1 -ℤ pos middle) (e, top)
    → one ≡ sets out 0 (numbers (map (λ i. spot_by first (pos 1) (col_at lo i)) s))
    → two ≡ sets one (2 * length s) (numbers (map (λ i. spot_by last (negsuc 0) (col_at hi i)) t))
    → two ≡ sets out 0 (numbers (both_sides c w e lo hi s t))
both_written c w e lo hi s t first last out one two p q h g =
    let whole = write_both (c.0 -ℤ pos middle) (c.1 -ℤ pos middle) w e top lo hi s t 0 0 (length t) first last out one two p q
    (simp take-length h) (simp (take-length, none) g) in
    simp take-length at whole
  where
    none : length s - 0 ≡ length s
    none = omega arith

-- the upper chain is written without the corners that the lower one has too
module _ {w e : ℕ} {lo hi s t : List ℕ} (h : TwoChains w e lo hi s t) (f g : ℕ)
    (ef : f ≡ tally (eqb (get_or lo (e - w) 0 + get_or hi 0 0) top)) (eg : g ≡ length t - tally (ltb f (length t) && eqb (get_or lo 0 0 + get_or hi (e - w) 0) top)) where
  seam_le : f ≤ length t
  seam_le = omega (arith, seam_room hi t 0 (e - w) (eqb (get_or lo (e - w) 0 + get_or hi 0 0) top) h.upper)

  pub close_ge : f ≤ g
  close_ge = omega (arith, close_room f (length t) (eqb (get_or lo 0 0 + get_or hi (e - w) 0) top) seam_le)

  close_le : g ≤ length t
  close_le = omega arith

  size : length (between f g t) ≡ g - f
  size = length-between t f g close_le

  pub chained_parts : (room : ℕ) → 2 * (length s + length (between f g t)) ≤ room → Parts w e lo hi s (between f g t) room
  chained_parts room k = record {
    ordered = h.ordered;
    within = h.within;
    fits = k;
    columns = λ j n. omega (arith, stack_in lo s 0 0 (suc (e - w)) j h.lower (omega arith) n, h.low);
    columns2 = λ j n. omega (arith, get_or-between t f g j 0 (omega (arith, size)), stack_in hi t 0 0 (suc (e - w)) (f + j) h.upper (omega arith) (omega (arith, size, close_le)), h.high);
  }

  module _ (c : Corner) where
    chains : both_sides c w e lo hi s (slice f g t) ≡ hull_by (c.0 -ℤ pos middle) (c.1 -ℤ pos middle) w e top lo hi
    chains = parts_hull (c.0 -ℤ pos middle) (c.1 -ℤ pos middle) w e top lo hi s t 0 0 f g h.lower h.upper start eg
      where
        start : f ≡ 0 + tally (eqb (get_or lo (e - w) 0 + get_or hi 0 0) top)
        start = omega (arith, ef)

    is : both_sides c w e lo hi s (between f g t) ≡ hull_by (c.0 -ℤ pos middle) (c.1 -ℤ pos middle) w e top lo hi
    is = ap (both_sides c w e lo hi s) (between_is t f g) ∙ chains

    count : length (hull_by (c.0 -ℤ pos middle) (c.1 -ℤ pos middle) w e top lo hi) ≡ length s + length (between f g t)
    count = omega (arith, size, ap length (sym chains) ∙ length_both (c.0 -ℤ pos middle) (c.1 -ℤ pos middle) w e top lo hi s t 0 f g close_ge close_le)

    pub listed_short : (before : List ℤ) → length before < 2 * (length s + length (between f g t)) → ListGiven (hull_by (c.0 -ℤ pos middle) (c.1 -ℤ pos middle) w e top lo hi) before (Err HullRoom) before
    listed_short before k = record {
      answer = sym (ap (λ (j : Judged). counted_of j (length (hull_by (c.0 -ℤ pos middle) (c.1 -ℤ pos middle) w e top lo hi))) short);
      buffer = sym (ap (λ (j : Judged). laid_if j (numbers (hull_by (c.0 -ℤ pos middle) (c.1 -ℤ pos middle) w e top lo hi)) before) short);
    }
      where
        short : when (ltb (length before) (2 * length (hull_by (c.0 -ℤ pos middle) (c.1 -ℤ pos middle) w e top lo hi))) HullRoom ≡ Err HullRoom
        short = room-short (length before) (length (hull_by (c.0 -ℤ pos middle) (c.1 -ℤ pos middle) w e top lo hi)) (omega (arith, count))

    pub listed_enough : (before after : List ℤ) → 2 * (length s + length (between f g t)) ≤ length before → after ≡ sets before 0 (numbers (both_sides c w e lo hi s (between f g t))) → ListGiven (hull_by (c.0 -ℤ pos middle) (c.1 -ℤ pos middle) w e top lo hi) before (Ok (length s + length (between f g t))) after
    listed_enough before after k z = record {
      answer = ap Ok (sym count) ∙ sym (ap (λ (j : Judged). counted_of j (length (hull_by (c.0 -ℤ pos middle) (c.1 -ℤ pos middle) w e top lo hi))) enough);
      buffer = z ∙ ap (λ (l : List Corner). sets before 0 (numbers l)) is ∙ written (hull_by (c.0 -ℤ pos middle) (c.1 -ℤ pos middle) w e top lo hi) before (omega (arith, count)) ∙ sym (ap (λ (j : Judged). laid_if j (numbers (hull_by (c.0 -ℤ pos middle) (c.1 -ℤ pos middle) w e top lo hi)) before) enough);
    }
      where
        enough : when (ltb (length before) (2 * length (hull_by (c.0 -ℤ pos middle) (c.1 -ℤ pos middle) w e top lo hi))) HullRoom ≡ Ok tt
        enough = room_enough (length before) (length (hull_by (c.0 -ℤ pos middle) (c.1 -ℤ pos middle) w e top lo hi)) (omega (arith, count))

-- two corners in the buffer
pub ends_base : (c base : Corner) → base ≡ spot (c.0 -ℤ pos middle) (c.1 -ℤ pos middle) (0, 0) → Near c → (nat_abs base.0 ≤ suc blank) × (nat_abs base.1 ≤ suc blank)
ends_base c base r n =
    (subst (λ (z : Corner). nat_abs z.0 ≤ suc blank) (sym r) (near_axis c.0 0 n.0 (omega arith)), subst (λ (z : Corner). nat_abs z.1 ≤ suc blank) (sym r) (near_axis c.1 0 n.1 (omega arith)))

module _ (c : Corner) (w e : ℕ) where
  pub ends-short : (before : List ℤ) → length before < 4 → ListGiven (two_at c w e) before (Err HullRoom) before
  ends-short before k = record {
    answer = sym (ap (λ (j : Judged). counted_of j 2) short);
    buffer = sym (ap (λ (j : Judged). laid_if j (numbers (two_at c w e)) before) short);
  }
    where
      short : when (ltb (length before) (2 * 2)) HullRoom ≡ Err HullRoom
      short = room-short (length before) 2 k

  from_base : (base : Corner) → base ≡ spot (c.0 -ℤ pos middle) (c.1 -ℤ pos middle) (0, 0) → (v : ℕ × ℕ) → spot_by base (pos 1) v ≡ spot (c.0 -ℤ pos middle) (c.1 -ℤ pos middle) v
  from_base base r v =
      ap (λ (z : Corner). spot_by z (pos 1) v) r
      ∙ spot-by (c.0 -ℤ pos middle) (c.1 -ℤ pos middle) 0 v
      ∙ ap (λ (z : ℤ). spot z (c.1 -ℤ pos middle) v) none
    where
      none : (c.0 -ℤ pos middle) +ℤ pos 0 ≡ c.0 -ℤ pos middle
      none = omega (zarith, bal+ (c.0 -ℤ pos middle) (pos 0))

  pub ends_enough : (base : Corner) (before one after : List ℤ) → base ≡ spot (c.0 -ℤ pos middle) (c.1 -ℤ pos middle) (0, 0) → 4 ≤ length before
      → one ≡ set (set before 0 (spot_by base (pos 1) (w, middle)).0) 1 (spot_by base (pos 1) (w, middle)).1
      → after ≡ set (set one 2 (spot_by base (pos 1) (e, middle)).0) 3 (spot_by base (pos 1) (e, middle)).1
      → ListGiven (two_at c w e) before (Ok 2) after
  ends_enough base before one after r k p q = record {
    answer = sym (ap (λ (j : Judged). counted_of j 2) enough);
    buffer =
        q ∙ ap₂ (λ (l : List ℤ) (z : Corner). set (set l 2 z.0) 3 z.1) (p ∙ ap (λ (z : Corner). set (set before 0 z.0) 1 z.1) (from_base base r (w, middle))) (from_base base r (e, middle))
        ∙ written (two_at c w e) before k ∙ sym (ap (λ (j : Judged). laid_if j (numbers (two_at c w e)) before) enough);
  }
    where
      enough : when (ltb (length before) (2 * 2)) HullRoom ≡ Ok tt
      enough = room_enough (length before) 2 k
