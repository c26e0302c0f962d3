-- From an accepted room to its lanes, from lanes to the ends of rows, and from these to the answer.
-- Assumes nothing.
use Rattle.std.specs.Prelude.{Err, Ok}
use mathlib.Core.Bool.{Bool, true, false, not}
use mathlib.Core.List.{List, ◌++◌}
use mathlib.Core.Path.{◌≡◌, refl, sym, ap, ap₂, ◌∙◌, subst, subst₂}
use Prim.Native.Nat.{ℕ, suc, ◌+◌, ◌*◌, ◌-◌, ◌/◌, ◌%◌, ◌<◌, ◌≤◌}
use native.Mathlib.Omega.{arith}
use Rattle.std.proofs.lemmas.List.{take-replicate}
use native.Mathlib.Nat.{mod-lt, div-add-mod', div-lt_iff_lt-mul, div-le_self, add-mul}
use lib.Dec.{T}
use lib.IntN.{ℤ, pos, negsuc, nat_abs, ◌+ℤ◌, ◌-ℤ◌}
use lib.ListN.{length, get_or, take, drop, replicate, length-replicate, length-drop}
use lib.Seq.{sets, sets-eq, length-take-le, get_or-take, get_or-drop}
use lib.Signed.{non_neg, ◌≤ℤ◌}
use mir.Syntax.{w64}
use mir.Val.{Fits}
use Rattle.answer.specs.Answers.{Judged}
use Rattle.int_laws.proofs.LinearLaws.{zarith, bal+, bal-}
use Rattle.int_laws.proofs.RangeLaws.{abs_nat}
use Rattle.lists.specs.Lists.{Below}
use Rattle.lists.proofs.BelowLaws.{below_all}
use Rattle.lists.proofs.BoolLaws.{not-true, not-false}
use Rattle.grid.specs.declared.Corner.{Corner}
use Rattle.grid.specs.Grid.{corner}
use Rattle.answer.specs.declared.{Refusal.TheVariants.TooMany, Refusal.TheVariants.StartRange, Refusal.TheVariants.GridSize, Refusal.TheVariants.ChainRoom}
use Rattle.answer.specs.{Limits.most_input, Limits.most_start, Limits.most_steps, Limits.start_fits, Limits.Near}
use Rattle.trace.specs.Verdict.{IsRoom}
use Rattle.room.specs.Room.{as_room_judged}
use Rattle.room.proofs.RoomLaws.{good_room}
use Rattle.hull_laws.specs.Lowest.{blank, sinks}
use Rattle.hull_laws.proofs.SinkLaws.{length-sinks}
use Rattle.steps.proofs.ChainLaws.{good_digits, good_short}
use Rattle.room_thread_laws.specs.Threads.{Stays}
use Rattle.room_thread_laws.proofs.RoomLaws.{closed_stays}
use Rattle.orthogonal.specs.declared.{Enclosed.Enclosed}
use Rattle.orthogonal.specs.Blocks.{HoldsInside}
use Rattle.orthogonal.specs.Call.{most_grid, grid_fits, on_grid_judged, OrthogonalCall, enclosed_of}
use Rattle.orthogonal_chain_laws.specs.Chain.{home_row, blocks_from}
use Rattle.orthogonal_chain_laws.proofs.HomeLaws.{home_row-is}
use Rattle.orthogonal_laws.specs.HullRows.{hull_left, RowEnds}
use Rattle.orthogonal_laws.proofs.CallLaws.{on_grid_many, on_grid_range, on_grid_size, on_grid_room, on_grid_good, grid_within, short_call, outlined_call}
use Rattle.orthogonal_row_laws.specs.Lanes.{lanes_from, from_west, from_east, Ruled, EmptyBefore, EmptyFrom, Aligned}
use Rattle.orthogonal_row_laws.proofs.FloorLaws.{aligned}
use Rattle.orthogonal_row_laws.proofs.EndsLaws.{some_rows, row_ends}
use Rattle.orthogonal_row_laws.proofs.PileLaws.{pile_outline, pile_blocks, pile_fits, pile_length}
use Rattle.orthogonal_draw.specs.Sides.{left_in, right_in}
use Rattle.orthogonal_call.specs.Store.{shift, shifted, home_in, start_in, chain_in, Small, Outlinable, Shaped, Edgeless, Laned, LanesReady}

-- ---- refusals

-- an accepted room on a grid
pub record Accepted (s : Corner) (ds : List ℕ) (g : ℕ) : Type 0 where
  pub room : IsRoom s ds
  pub digits : Below 4 ds
  pub few : length ds ≤ most_steps
  pub near : Near s
  pub some : 0 < g
  pub most : g ≤ most_grid

pub accepted : (s : Corner) (ds : List ℕ) (g : ℕ) → on_grid_judged s ds g ≡ Ok tt → Accepted s ds g
accepted s ds g e =
    let k = on_grid_good s ds g e in
    let r = good_room s ds k.0 in
    let w = grid_within g k.1 in
    record { room = r.room; digits = below_all 4 ds (good_digits 0 ds r.steps); few = omega (arith, good_short 0 ds (omega arith) r.steps); near = r.near; some = w.0; most = w.1 }

module _ (s : Corner) (ds : List ℕ) (g : ℕ) where
  pub told_many : most_input < length ds → Err TooMany ≡ on_grid_judged s ds g
  told_many h = sym (on_grid_many s ds g h)

  module _ (h : length ds ≤ most_input) (b : Bool) (eb : b ≡ start_fits s) where
    pub told_range : not b ≡ true → Err StartRange ≡ on_grid_judged s ds g
    told_range n = sym (on_grid_range s ds g h (sym eb ∙ not-true b n))

    module _ (n : not b ≡ false) (c : Bool) (ec : c ≡ grid_fits g) where
      pub told_grid : not c ≡ true → Err GridSize ≡ on_grid_judged s ds g
      told_grid m = sym (on_grid_size s ds g h (sym eb ∙ not-false b n) (sym ec ∙ not-true c m))

      pub told_room : not c ≡ false → (j : Judged) → j ≡ as_room_judged s ds → j ≡ on_grid_judged s ds g
      told_room m j e = e ∙ sym (on_grid_room s ds g (sym ec ∙ not-false c m))

-- ---- coordinates

-- z - m, counted from block -32,768
module _ (z : ℤ) (m g : ℕ) (near : nat_abs z ≤ most_start) (few : m ≤ most_steps) (some : 0 < g) (most : g ≤ most_grid) where
  abbrev lift : ℤ
  lift = (z -ℤ pos m) +ℤ pos (32768 * g)

  lift_pos : pos 0 ≤ℤ lift
  lift_pos = omega (zarith, near, few, some, abs_nat z, bal- z (pos m), bal+ (z -ℤ pos m) (pos (32768 * g)))

  abs_pos : (w : ℤ) → pos 0 ≤ℤ w → w ≡ pos (nat_abs w)
  abs_pos (pos n) h = refl
  abs_pos (negsuc n) h = absurd (omega (zarith, h))

  not_less : (w : ℤ) → pos 0 ≤ℤ w → T (non_neg w)
  not_less (pos n) h = tt
  not_less (negsuc n) h = absurd (omega (zarith, h))

  lift-within : nat_abs lift < 65536 * g
  lift-within = omega (zarith, near, few, some, abs_nat z, abs_pos lift lift_pos, bal- z (pos m), bal+ (z -ℤ pos m) (pos (32768 * g)))

  pub lift_casts : T (non_neg lift) × Fits w64 (nat_abs lift)
  lift_casts = (not_less lift lift_pos, record { fits = omega (arith, lift-within, most) })

  pub lift-is : (z -ℤ pos m ≡ pos (nat_abs lift) -ℤ pos (shift * g)) × (nat_abs lift < 65536 * g)
  lift-is = (omega (zarith, abs_pos lift lift_pos, bal+ (z -ℤ pos m) (pos (32768 * g)), bal- (pos (nat_abs lift)) (pos (32768 * g))), lift-within)

-- ---- the answer

-- the rows' ends are not too far apart for their sum
pub ends_fit : (span : ℕ) (lo hi : List ℕ) (home : ℕ) → home < length lo → length hi ≡ length lo → ((q : ℕ) → q < length lo → get_or lo q 0 + get_or hi q 0 ≤ span) → get_or hi (home_in hi) 0 + get_or lo home 0 ≤ span
ends_fit span lo hi home h e f = omega (arith, f home h, (home_row-is (left_in hi) (length hi - 1)).least home (omega arith))

module _ {s : Corner} {ds : List ℕ} {g span x y : ℕ} {lo hi : List ℕ} (d : Outlinable s ds g span x y lo hi) (home : ℕ) (eh : home ≡ home_in lo) (steps : ℕ) (es : steps ≡ 2 * (span - get_or hi (home_in hi) 0 - get_or lo home 0 + length lo)) where
  pub steps_are : steps ≡ length (chain_in span lo hi)
  steps_are = es ∙ ap (λ (k : ℕ). 2 * (span - get_or hi (home_in hi) 0 - get_or lo k 0 + length lo)) eh ∙ sym d.long

  pub answer_short : (before : List ℕ) → length before < steps → OrthogonalCall s ds g before (Err ChainRoom) before
  answer_short before h = short_call s ds g before (start_in x y lo) (chain_in span lo hi) d.good d.outline (omega (arith, steps_are))

  pub answer_outlined : (before after : List ℕ) → steps ≤ length before → after ≡ sets before 0 (chain_in span lo hi) → (cx cy : ℤ) (e n : ℕ) → e ≡ get_or lo home 0 → cx ≡ pos (x + e) -ℤ pos shift → cy ≡ pos (y + home) -ℤ pos shift → n ≡ blocks_from (left_in lo) (right_in span hi) 0 (length lo) → OrthogonalCall s ds g before (Ok (record { steps = steps; start = corner cx cy; blocks = n })) after
  answer_outlined before after h ea cx cy e n ee ex ey en =
      subst₂ (λ (r : Enclosed) (b : List ℕ). OrthogonalCall s ds g before (Ok r) b) same (sym written) (outlined_call s ds g before (start_in x y lo) (chain_in span lo hi) d.good d.outline (omega (arith, steps_are)))
    where
      written : after ≡ chain_in span lo hi ++ drop (length (chain_in span lo hi)) before
      written = ea ∙ sets-eq (chain_in span lo hi) before 0 (omega (arith, steps_are)) ∙ ap (λ (k : ℕ). chain_in span lo hi ++ drop k before) none
        where
          none : 0 + length (chain_in span lo hi) ≡ length (chain_in span lo hi)
          none = omega arith

      west : (pos x -ℤ pos shift) +ℤ pos (get_or lo (home_in lo) 0) ≡ cx
      west =
          let k : get_or lo (home_in lo) 0 ≡ e = ap (λ (q : ℕ). get_or lo q 0) (sym eh) ∙ sym ee in
          omega (zarith, ex, k, bal- (pos x) (pos shift), bal+ (pos x -ℤ pos shift) (pos (get_or lo (home_in lo) 0)), bal- (pos (x + e)) (pos shift))

      south : (pos y -ℤ pos shift) +ℤ pos (home_in lo) ≡ cy
      south = omega (zarith, ey, eh, bal- (pos y) (pos shift), bal+ (pos y -ℤ pos shift) (pos (home_in lo)), bal- (pos (y + home)) (pos shift))

      same : enclosed_of (start_in x y lo) (chain_in span lo hi) ≡ record { steps = steps; start = corner cx cy; blocks = n }
      same = λ i. record { steps = sym steps_are i; start = ap₂ corner west south i; blocks = (d.blocks ∙ sym en) i }

-- ---- from the ends of rows of blocks to those of the hull

pub shaped_outlinable : (s : Corner) (ds : List ℕ) (g span x y : ℕ) (lo hi lo' hi' : List ℕ) → Small span x y lo hi → 0 < g → Shaped s ds g span x y lo hi → length lo' ≡ length lo → length hi' ≡ length hi
    → ((q : ℕ) → q < length lo → get_or lo' q 0 ≡ hull_left (λ k. get_or lo k 0 / g) (length lo - 1) q) → ((q : ℕ) → q < length hi → get_or hi' q 0 ≡ hull_left (λ k. get_or hi k 0 / g) (length hi - 1) q) → Outlinable s ds g span x y lo' hi'
shaped_outlinable s ds g span x y lo hi lo' hi' sm some sh nl nh fl fh =
    record {
      good = sh.good;
      fits = λ q h. pile_fits s ds a.room a.digits g some (shifted x y) l f span t ends lo' hi' ea eb q (omega arith);
      outline = pile_outline s ds a.room a.digits g some (shifted x y) l f span t ends lo' hi' ea eb;
      long = pile_length s ds a.room a.digits g some (shifted x y) l f span t ends lo' hi' ea eb
          ∙ ap₂ (λ (k n : ℕ). 2 * (span - get_or hi' (home_row (left_in hi') k) 0 - get_or lo' (home_in lo') 0 + n)) other whole;
      blocks = pile_blocks s ds a.room a.digits g some (shifted x y) l f span t ends lo' hi' ea eb ∙ ap (blocks_from (left_in lo') (right_in span hi') 0) whole;
    }
  where
    a : Accepted s ds g
    a = accepted s ds g sh.good

    l : ℕ → ℕ
    l k = get_or lo k 0 / g

    f : ℕ → ℕ
    f k = get_or hi k 0 / g

    t : ℕ
    t = length lo' - 1

    here : length lo - 1 ≡ length lo' - 1
    here = ap (λ (n : ℕ). n - 1) (sym nl)

    there : length hi - 1 ≡ length lo' - 1
    there = ap (λ (n : ℕ). n - 1) (sm.same ∙ sym nl)

    other : length lo' - 1 ≡ length hi' - 1
    other = ap (λ (n : ℕ). n - 1) (nl ∙ sym sm.same ∙ sym nh)

    whole : suc (length lo' - 1) ≡ length lo'
    whole = omega (arith, nl, sm.some)

    ends : RowEnds (HoldsInside s ds g) (shifted x y) l (λ q. span - f q) t
    ends = subst (RowEnds (HoldsInside s ds g) (shifted x y) (λ k. get_or lo k 0 / g) (λ q. span - get_or hi q 0 / g)) here sh.ends

    ea : (q : ℕ) → q ≤ t → get_or lo' q 0 ≡ hull_left l t q
    ea q h = fl q (omega (arith, nl, sm.some)) ∙ ap (λ (n : ℕ). hull_left (λ k. get_or lo k 0 / g) n q) here

    eb : (q : ℕ) → q ≤ t → get_or hi' q 0 ≡ hull_left f t q
    eb q h = fh q (omega (arith, nl, sm.some, sm.same)) ∙ ap (λ (n : ℕ). hull_left (λ k. get_or hi k 0 / g) n q) there

-- ---- from lanes to the ends of rows of blocks

module _ {s : Corner} {ds : List ℕ} {g m span x y : ℕ} {lo hi : List ℕ} (w : Laned s ds g m span x y lo hi) (some : 0 < g) (south north : ℕ) (before : EmptyBefore lo south) (after : EmptyFrom lo north) where
  abbrev bx : ℤ
  bx = pos (x / g) -ℤ pos shift

  abbrev by : ℤ
  by = pos (y / g) -ℤ pos shift

  abbrev lanes : List ℕ
  lanes = sinks (replicate span blank) (lanes_from g (y % g) (from_west (x % g)) m m ds)

  a : Accepted s ds g
  a = accepted s ds g w.good

  ax : Aligned g (s.0 -ℤ pos m) (x % g) bx
  ax = aligned g some (s.0 -ℤ pos m) x shift w.west

  ay : Aligned g (s.1 -ℤ pos m) (y % g) by
  ay = aligned g some (s.1 -ℤ pos m) y shift w.south

  size : length lanes ≡ span
  size = length-sinks (replicate span blank) (lanes_from g (y % g) (from_west (x % g)) m m ds) ∙ length-replicate {A = ℕ} span blank

  eb : EmptyBefore lanes south
  eb = subst (λ (l : List ℕ). EmptyBefore l south) w.low before

  ef : EmptyFrom lanes north
  ef = subst (λ (l : List ℕ). EmptyFrom l north) w.low after

  pub laned_rows : south < north
  laned_rows = some_rows s ds a.room a.digits m g (x % g) (y % g) span span w.ruled w.stays bx by ax ay south north eb ef size

  laned_within : north ≤ span
  laned_within = omega (arith, ef.within, size)

  part : List ℕ → List ℕ
  part l = take (north - south) (drop south l)

  part_size : (l : List ℕ) → length l ≡ span → length (part l) ≡ north - south
  unfolding part
  part_size l e = length-take-le (north - south) (drop south l) (omega (arith, length-drop south l, e, laned_within))

  part_at : (l : List ℕ) (q : ℕ) → q < north - south → get_or (part l) q 0 ≡ get_or l (south + q) 0
  unfolding part
  part_at l q h = get_or-take (north - south) (drop south l) q 0 h ∙ get_or-drop south l q 0

  pub part_length : (l : List ℕ) → length l ≡ span → length (take (north - south) (drop south l)) ≡ north - south
  unfolding part
  part_length = part_size

  pub laned_shaped : length lo ≡ span → Shaped s ds g span (x / g) (y / g + south) (take (north - south) (drop south lo)) (take (north - south) (drop south hi))
  unfolding part
  laned_shaped e =
      record {
        good = w.good;
        ends = subst₂ (λ (o : Corner) (t : ℕ). RowEnds (HoldsInside s ds g) o (λ q. get_or (part lo) q 0 / g) (λ q. span - get_or (part hi) q 0 / g) t) origin top
            (row_ends s ds a.room a.digits m g (x % g) (y % g) span span w.ruled w.stays bx by ax ay south north eb ef size (part lo) (part hi) (λ q h. part_at lo q h ∙ ap (λ (l : List ℕ). get_or l (south + q) 0) w.low) (λ q h. part_at hi q h ∙ ap (λ (l : List ℕ). get_or l (south + q) 0) w.high));
      }
    where
      origin : corner bx (by +ℤ pos south) ≡ shifted (x / g) (y / g + south)
      origin = ap (corner bx) (omega (zarith, bal- (pos (y / g)) (pos shift), bal+ by (pos south), bal- (pos (y / g + south)) (pos shift)))

      top : north - south - 1 ≡ length (part lo) - 1
      top = ap (λ (n : ℕ). n - 1) (sym (part_size lo e))

  pub laned_small : x < 65536 * g → y < 65536 * g → span < blank → length lo ≡ span → length hi ≡ span → Small span (x / g) (y / g + south) (take (north - south) (drop south lo)) (take (north - south) (drop south hi))
  unfolding part
  laned_small hx hy n el eh =
      let k = laned_rows in
      record {
        some = omega (arith, part_size lo el, k);
        same = part_size hi eh ∙ sym (part_size lo el);
        few = omega (arith, part_size lo el, laned_within);
        narrow = n;
        west = (div-lt_iff_lt-mul {k = g} {x = x} {y = 65536} some).1 hx;
        south = omega (arith, (div-lt_iff_lt-mul {k = g} {x = y} {y = 65536} some).1 hy, k, laned_within);
      }

-- ---- from an accepted room to its lanes

module _ {s : Corner} {ds : List ℕ} {g m : ℕ} {lo hi t : List ℕ} (w : LanesReady s ds g m lo hi t) where
  abbrev span : ℕ
  span = length lo

  pub ready_accepted : Accepted s ds g
  ready_accepted = accepted s ds g w.good

  pub ready_m : m ≤ most_steps
  ready_m = let a = ready_accepted in omega (arith, w.tight, a.few)

  pub ready_high : length hi ≡ span
  ready_high = ap length w.high ∙ length-replicate {A = ℕ} span blank

  pub ready_stays : Stays ds m (2 * m)
  ready_stays = let a = ready_accepted in closed_stays s ds m a.room.closed w.wide (2 * m) (omega arith) (omega (arith, w.tight, a.few))

  pub ready_span : span < blank
  ready_span = let a = ready_accepted in omega (arith, w.few, w.tight, a.few)

  pub ready_far : span * g < blank
  ready_far = let a = ready_accepted in omega (arith, w.near, w.tight, a.few, a.most)

  pub ready_ruled : (x y n : ℕ) → n ≡ span → Ruled m g (x % g) (y % g) (span * g) n
  ready_ruled x y n e =
      let a = ready_accepted in
      record {
        some = a.some;
        across = omega (arith, w.whole, mod-lt x a.some);
        narrow = ready_far;
        along = omega (arith, w.whole, mod-lt y a.some, ap (λ (k : ℕ). k * g) e);
        low = omega (arith, mod-lt y a.some, a.most);
      }

  pub ready_laned : (x y : ℕ) (lo' hi' : List ℕ) → length lo' ≡ span → s.0 -ℤ pos m ≡ pos x -ℤ pos (shift * g) → s.1 -ℤ pos m ≡ pos y -ℤ pos (shift * g) → lo' ≡ sinks lo (lanes_from g (y % g) (from_west (x % g)) m m ds) → hi' ≡ sinks hi (lanes_from g (y % g) (from_east (span * g) (x % g)) m m ds) → Laned s ds g m (length lo') x y lo' hi'
  ready_laned x y lo' hi' n ex ey el eh =
      subst (λ (k : ℕ). Laned s ds g m k x y lo' hi') (sym n) (record {
        good = w.good;
        ruled = ready_ruled x y span refl;
        stays = ready_stays;
        west = ex;
        south = ey;
        low = el ∙ ap (λ (l : List ℕ). sinks l (lanes_from g (y % g) (from_west (x % g)) m m ds)) w.low;
        high = eh ∙ ap (λ (l : List ℕ). sinks l (lanes_from g (y % g) (from_east (span * g) (x % g)) m m ds)) w.high;
      })

-- ---- the store

-- the rows of blocks that a walk needs
module _ (m g : ℕ) (pm : 0 < m) (some : 0 < g) where
  abbrev need : ℕ
  need = (2 * m - 2) / g + 2

  whole_blocks : need * g ≡ (2 * m - 2) / g * g + 2 * g
  whole_blocks = add-mul ((2 * m - 2) / g) 2 g

  need-whole : 2 * m + g ≤ need * g + 1
  need-whole = omega (arith, whole_blocks, div-add-mod' (2 * m - 2) g, mod-lt (2 * m - 2) some)

  need-near : need * g ≤ 2 * m + 2 * g
  need-near = omega (arith, whole_blocks, div-add-mod' (2 * m - 2) g)

  need_few : need ≤ 2 * m
  need_few = let k : (2 * m - 2) / g ≤ 2 * m - 2 = div-le_self (2 * m - 2) g in omega (arith, k)

  pub store_ready : (s : Corner) (ds : List ℕ) (lo hi t : List ℕ) → on_grid_judged s ds g ≡ Ok tt → length ds < 2 * m → 2 * m ≤ length ds + 2 → length ds + 2 ≤ length lo → Edgeless lo → Edgeless hi → length hi ≡ length lo → length t ≡ length lo → LanesReady s ds g m (take need lo) (take need hi) (take need t)
  store_ready s ds lo hi t e a b h el eh nh nt =
      record {
        good = e;
        wide = a;
        tight = b;
        low = ap (take need) el ∙ take-replicate need (length lo) blank (omega (arith, need_few)) ∙ rows;
        high = ap (take need) eh ∙ take-replicate need (length hi) blank (omega (arith, need_few, nh)) ∙ rows;
        store = length-take-le need t (omega (arith, need_few, nt)) ∙ sym size;
        whole = rw size need-whole;
        near = rw size need-near;
        few = rw size need_few;
      }
    where
      size : length (take need lo) ≡ need
      size = length-take-le need lo (omega (arith, need_few))

      rows : replicate {A = ℕ} need blank ≡ replicate (length (take need lo)) blank
      rows = ap (λ (k : ℕ). replicate k blank) (sym size)

-- ---- stores that are kept

pub small_kept : {span x y : ℕ} {lo hi : List ℕ} (lo' hi' : List ℕ) → Small span x y lo hi → length lo' ≡ length lo → length hi' ≡ length hi → Small span x y lo' hi'
small_kept lo' hi' s el eh = record { some = omega (arith, s.some, el); same = eh ∙ s.same ∙ sym el; few = omega (arith, s.few, el); narrow = s.narrow; west = s.west; south = s.south }
