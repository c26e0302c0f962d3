-- A closed walk of n steps stays within n / 2 of its start, and it is a room exactly when no two of its places but the last are one.
-- Assumes nothing.
use mathlib.Core.Path.{◌≡◌, refl, sym, ap, ◌∙◌, subst}
use mathlib.Core.Bool.{Bool, true, false, false≢true}
use mathlib.Core.List.{List, [], ◌∷◌}
use mathlib.Core.Logic.{◌↔◌}
use Prim.Native.Nat.{ℕ, zero, suc, ◌+◌, ◌*◌, ◌-◌, ◌<◌, ◌≤◌}
use native.Mathlib.Omega.{arith}
use native.Mathlib.Decide.{dec_lt, ℕ_discrete}
use lib.ListN.{length, get_or, take, replicate, get_or-replicate, length-replicate, get_or-eq_default}
use lib.Seq.{take-suc}
use native.Mathlib.Numerals.{add-one}
use lib.IntN.{ℤ, pos, suc_ℤ, pred_ℤ, ◌+ℤ◌, ◌-ℤ◌, +ℤ_one, -ℤ_one}
use lib.Signed.{◌≤ℤ◌}
use Rattle.int_laws.proofs.LinearLaws.{zarith, bal+, bal-}
use Rattle.grid.specs.declared.Corner.{Corner}
use Rattle.grid.specs.Grid.{corner, stepped, end_from, corner_at}
use Rattle.grid.proofs.StepLaws.{corner_at_end, end_from_snoc}
use Rattle.trace.specs.Meeting.{Meets}
use Rattle.trace.specs.Verdict.{IsRoom}
use Rattle.column_laws.specs.Columns.{top, col_after, row_after}
use Rattle.grid.proofs.CornerLaws.{corner_eq}
use Rattle.column_laws.proofs.TrailLaws.{near, near-row}
use Rattle.room_thread_laws.specs.Threads.{Double, Stays, Scattered, Goes, Closes, Told, ThreadStore, along_from, columns_from, rows_from}

-- a step leads one on, one back, or nowhere along an axis
suc_is : (z : ℤ) → suc_ℤ z ≡ z +ℤ pos 1
suc_is z = sym (+ℤ_one z)

module _ (after : ℕ → ℕ → ℕ) (coord : Corner → ℤ)
    (far : (d : ℕ) (p : Corner) → (coord (stepped d p) ≤ℤ (coord p +ℤ pos 1)) × (coord p ≤ℤ (coord (stepped d p) +ℤ pos 1)))
    (move : (d x : ℕ) (p : Corner) (o : ℤ) → 0 < x → coord p ≡ o +ℤ pos x → coord (stepped d p) ≡ o +ℤ pos (after x d)) where
  end_near : (p : Corner) (ds : List ℕ) → (coord (end_from p ds) ≤ℤ (coord p +ℤ pos (length ds))) × (coord p ≤ℤ (coord (end_from p ds) +ℤ pos (length ds)))
  end_near p [] = (omega (zarith, bal+ (coord p) (pos 0)), omega (zarith, bal+ (coord p) (pos 0)))
  end_near p (d ∷ ds) =
      let r = end_near (stepped d p) ds in
      let s = far d p in
      let q = stepped d p in
      let e = end_from q ds in (
        omega (zarith, r.0, s.0, bal+ (coord q) (pos (length ds)), bal+ (coord p) (pos 1), bal+ (coord p) (pos (suc (length ds)))),
        omega (zarith, r.1, s.1, bal+ (coord e) (pos (length ds)), bal+ (coord q) (pos 1), bal+ (coord e) (pos (suc (length ds)))),
      )

  -- where the walk is after i steps, when the rest leads back to where it stood at m
  here : (p : Corner) (ds : List ℕ) (x m i : ℕ) (o : ℤ) → coord p ≡ o +ℤ pos x → coord (end_from p ds) ≡ o +ℤ pos m → m ≤ x + i → x ≤ m + i → i + length ds < 2 * m → (0 < x) × (x < 2 * m)
  here p ds x m i o e f g h l =
      let r = end_near p ds in (
        omega (zarith, r.0, r.1, bal+ (coord p) (pos (length ds)), bal+ (coord (end_from p ds)) (pos (length ds)), bal+ o (pos x), bal+ o (pos m)),
        omega (zarith, r.0, r.1, bal+ (coord p) (pos (length ds)), bal+ (coord (end_from p ds)) (pos (length ds)), bal+ o (pos x), bal+ o (pos m)),
      )

  stays : (p : Corner) (ds : List ℕ) (x m i : ℕ) (o : ℤ) → coord p ≡ o +ℤ pos x → coord (end_from p ds) ≡ o +ℤ pos m → m ≤ x + i → x ≤ m + i → i + length ds < 2 * m → (j : ℕ) → j < length ds → (0 < get_or (along_from after x ds) j 0) × (get_or (along_from after x ds) j 0 < 2 * m) × (coord (corner_at p ds j) ≡ o +ℤ pos (get_or (along_from after x ds) j 0))
  unfolding along_from
  stays p [] x m i o e f g h l j b = let z : ⊥ = omega arith in absurd z
  stays p (d ∷ ds) x m i o e f g h l zero b = let r = here p (d ∷ ds) x m i o e f g h l in (r.0, r.1, e)
  stays p (d ∷ ds) x m i o e f g h l (suc j) b =
      let k = move d x p o (here p (d ∷ ds) x m i o e f g h l).0 e in
      let n = apart (coord p) (coord (stepped d p)) x (after x d) o e k (far d p).0 (far d p).1 in
      stays (stepped d p) ds (after x d) m (suc i) o k f (omega (arith, n.1)) (omega (arith, n.0)) (omega arith) j (omega arith)
    where
      apart : (a b : ℤ) (x y : ℕ) (o : ℤ) → a ≡ o +ℤ pos x → b ≡ o +ℤ pos y → b ≤ℤ (a +ℤ pos 1) → a ≤ℤ (b +ℤ pos 1) → (y ≤ x + 1) × (x ≤ y + 1)
      apart a b x y o e f g h = (omega (zarith, bal+ o (pos x), bal+ o (pos y), bal+ a (pos 1), bal+ b (pos 1)), omega (zarith, bal+ o (pos x), bal+ o (pos y), bal+ a (pos 1), bal+ b (pos 1)))

-- along x
one_on : (z : ℤ) → (suc_ℤ z ≤ℤ (z +ℤ pos 1)) × (z ≤ℤ (suc_ℤ z +ℤ pos 1))
one_on z = (omega (zarith, suc_is z), omega (zarith, suc_is z, bal+ z (pos 1), bal+ (suc_ℤ z) (pos 1)))

one-back : (z : ℤ) → (pred_ℤ z ≤ℤ (z +ℤ pos 1)) × (z ≤ℤ (pred_ℤ z +ℤ pos 1))
one-back z = (omega (zarith, sym (-ℤ_one z), bal- z (pos 1), bal+ z (pos 1)), omega (zarith, sym (-ℤ_one z), bal- z (pos 1), bal+ (pred_ℤ z) (pos 1)))

none_on : (z : ℤ) → (z ≤ℤ (z +ℤ pos 1)) × (z ≤ℤ (z +ℤ pos 1))
none_on z = (omega (zarith, bal+ z (pos 1)), omega (zarith, bal+ z (pos 1)))

up_one : (z o : ℤ) (x : ℕ) → z ≡ o +ℤ pos x → suc_ℤ z ≡ o +ℤ pos (x + 1)
up_one z o x e = omega (zarith, suc_is z, bal+ z (pos 1), bal+ o (pos x), bal+ o (pos (x + 1)))

down_one : (z o : ℤ) (x : ℕ) → 0 < x → z ≡ o +ℤ pos x → pred_ℤ z ≡ o +ℤ pos (x - 1)
down_one z o x l e = omega (zarith, sym (-ℤ_one z), bal- z (pos 1), bal+ o (pos x), bal+ o (pos (x - 1)))

far_x : (d : ℕ) (p : Corner) → ((stepped d p).0 ≤ℤ (p.0 +ℤ pos 1)) × (p.0 ≤ℤ ((stepped d p).0 +ℤ pos 1))
far_x zero p = one_on p.0
far_x (suc zero) p = none_on p.0
far_x (suc (suc zero)) p = one-back p.0
far_x (suc (suc (suc d))) p = none_on p.0

far_y : (d : ℕ) (p : Corner) → ((stepped d p).1 ≤ℤ (p.1 +ℤ pos 1)) × (p.1 ≤ℤ ((stepped d p).1 +ℤ pos 1))
far_y zero p = none_on p.1
far_y (suc zero) p = one_on p.1
far_y (suc (suc zero)) p = none_on p.1
far_y (suc (suc (suc d))) p = one-back p.1

pub move_x : (d x : ℕ) (p : Corner) (o : ℤ) → 0 < x → p.0 ≡ o +ℤ pos x → (stepped d p).0 ≡ o +ℤ pos (col_after x d)
unfolding col_after
move_x zero x p o l e = up_one p.0 o x e
move_x (suc zero) x p o l e = e
move_x (suc (suc zero)) x p o l e = down_one p.0 o x l e
move_x (suc (suc (suc d))) x p o l e = e

pub move_y : (d y : ℕ) (p : Corner) (o : ℤ) → 0 < y → p.1 ≡ o +ℤ pos y → (stepped d p).1 ≡ o +ℤ pos (row_after y d)
unfolding row_after
move_y zero y p o l e = e
move_y (suc zero) y p o l e = up_one p.1 o y e
move_y (suc (suc zero)) y p o l e = e
move_y (suc (suc (suc d))) y p o l e = down_one p.1 o y l e

module _ (c : Corner) (ds : List ℕ) (m : ℕ) (closed : end_from c ds ≡ c) (wide : length ds < 2 * m) where
  at_m : (z : ℤ) → z ≡ (z -ℤ pos m) +ℤ pos m
  at_m z = omega (zarith, bal- z (pos m), bal+ (z -ℤ pos m) (pos m))

  columns_at : (j : ℕ) → j < length ds → (0 < get_or (columns_from m ds) j 0) × (get_or (columns_from m ds) j 0 < 2 * m) × ((corner_at c ds j).0 ≡ (c.0 -ℤ pos m) +ℤ pos (get_or (columns_from m ds) j 0))
  columns_at = stays col_after (λ (p : Corner). p.0) far_x move_x c ds m m 0 (c.0 -ℤ pos m) (at_m c.0) (ap (λ (p : Corner). p.0) closed ∙ at_m c.0) (omega arith) (omega arith) (omega arith)

  rows_at : (j : ℕ) → j < length ds → (0 < get_or (rows_from m ds) j 0) × (get_or (rows_from m ds) j 0 < 2 * m) × ((corner_at c ds j).1 ≡ (c.1 -ℤ pos m) +ℤ pos (get_or (rows_from m ds) j 0))
  rows_at = stays row_after (λ (p : Corner). p.1) far_y move_y c ds m m 0 (c.1 -ℤ pos m) (at_m c.1) (ap (λ (p : Corner). p.1) closed ∙ at_m c.1) (omega arith) (omega arith) (omega arith)

  -- it stays in the working store
  pub closed_stays : (room : ℕ) → 2 * m ≤ room → room ≤ suc top → Stays ds m room
  closed_stays room g h = record { columns = λ j l. let r = columns_at j l in (r.0, omega (arith, r.1)); rows = λ j l. let r = rows_at j l in (r.0, omega (arith, r.1)); narrow = h }

  same_at : (o : ℤ) (a b : ℕ) → o +ℤ pos a ≡ o +ℤ pos b → a ≡ b
  same_at o a b e = omega (zarith, bal+ o (pos a), bal+ o (pos b))

  double_meets : Double (columns_from m ds) (rows_from m ds) (length ds) → (j : ℕ) × (k : ℕ) × (k < length ds) × Meets c ds j k
  double_meets d =
      let jl : d.j < length ds = omega (arith, d.earlier, d.within) in (
        d.j,
        d.k,
        d.within,
        record {
          earlier = d.earlier;
          within = omega (arith, d.within);
          equal = corner_eq (corner_at c ds d.j) (corner_at c ds d.k)
              ((columns_at d.j jl).2 ∙ ap (λ (x : ℕ). (c.0 -ℤ pos m) +ℤ pos x) d.column ∙ sym (columns_at d.k d.within).2)
              ((rows_at d.j jl).2 ∙ ap (λ (x : ℕ). (c.1 -ℤ pos m) +ℤ pos x) d.height ∙ sym (rows_at d.k d.within).2);
        },
      )

  meets_double : (j k : ℕ) → j < k → k < length ds → corner_at c ds j ≡ corner_at c ds k → Double (columns_from m ds) (rows_from m ds) (length ds)
  meets_double j k h g e =
      let jl : j < length ds = omega arith in
      record {
        j = j;
        k = k;
        earlier = h;
        within = g;
        column = same_at (c.0 -ℤ pos m) (get_or (columns_from m ds) j 0) (get_or (columns_from m ds) k 0) (sym (columns_at j jl).2 ∙ ap (λ (p : Corner). p.0) e ∙ (columns_at k g).2);
        height = same_at (c.1 -ℤ pos m) (get_or (rows_from m ds) j 0) (get_or (rows_from m ds) k 0) (sym (rows_at j jl).2 ∙ ap (λ (p : Corner). p.1) e ∙ (rows_at k g).2);
      }

  -- no two places but the last are one exactly in a room
  pub scattered_room : 4 ≤ length ds → (r : Bool) → Scattered ds m r → (r ≡ true) ↔ IsRoom c ds
  scattered_room four r s = (there, back r refl)
    where
      there : r ≡ true → IsRoom c ds
      there t = record { four = four; closed = closed; only = only }
        where
          only : (j k : ℕ) → Meets c ds j k → (j ≡ 0) × (k ≡ length ds)
          only j k w = go (dec_lt k (length ds)) (ℕ_discrete j 0)
            where
              last : (k < length ds → ⊥) → k ≡ length ds
              last n = omega (arith, w.within)

              go : Dec (k < length ds) → Dec (j ≡ 0) → (j ≡ 0) × (k ≡ length ds)
              go (yes h) z = absurd (s.yes t (meets_double j k w.earlier h w.equal))
              go (no h) (yes z) = (z, last h)
              go (no h) (no z) = absurd (s.yes t (meets_double 0 j (omega arith) (omega (arith, w.earlier, w.within)) (sym closed ∙ sym (corner_at_end c ds) ∙ ap (corner_at c ds) (sym (last h)) ∙ sym w.equal)))

      back : (b : Bool) → r ≡ b → IsRoom c ds → r ≡ true
      back true e q = e
      back false e q = let d = double_meets (s.no e) in absurd (past d.1 d.2 (q.only d.0 d.1 d.3).1)
        where
          past : (k : ℕ) → k < length ds → k ≡ length ds → ⊥
          past k h e = omega arith

-- a walk, step by step
pub goes_start : (chain : List ℕ) (m : ℕ) → Goes chain m m m 0
goes_start chain m = record { west = omega arith; east = omega arith; south = omega arith; north = omega arith; corner = λ c. (at c.0, at c.1) }
  where
    at : (z : ℤ) → z ≡ (z -ℤ pos m) +ℤ pos m
    at z = omega (zarith, bal- z (pos m), bal+ (z -ℤ pos m) (pos m))

module _ (chain : List ℕ) (m x y i : ℕ) (w : Goes chain m x y i) where
  next-corner : (c : Corner) → i < length chain → corner_at c chain (i + 1) ≡ stepped (get_or chain i 0) (corner_at c chain i)
  next-corner c l = ap (corner_at c chain) (add-one i) ∙ ap (end_from c) (take-suc chain i 0 l) ∙ end_from_snoc c (take i chain) (get_or chain i 0)

  pub goes_step : (x' y' : ℕ) → x' ≡ col_after x (get_or chain i 0) → y' ≡ row_after y (get_or chain i 0) → i < length chain → length chain ≤ m → Goes chain m x' y' (i + 1)
  goes_step x' y' e f l h = record {
    west = omega (arith, nx.0, w.west);
    east = omega (arith, nx.1, w.east);
    south = omega (arith, ny.0, w.south);
    north = omega (arith, ny.1, w.north);
    corner = λ c. (
      ap (λ (p : Corner). p.0) (next-corner c l) ∙ move_x d x (corner_at c chain i) (c.0 -ℤ pos m) px (w.corner c).0 ∙ ap (λ (n : ℕ). (c.0 -ℤ pos m) +ℤ pos n) (sym e),
      ap (λ (p : Corner). p.1) (next-corner c l) ∙ move_y d y (corner_at c chain i) (c.1 -ℤ pos m) py (w.corner c).1 ∙ ap (λ (n : ℕ). (c.1 -ℤ pos m) +ℤ pos n) (sym f),
    );
  }
    where
      d : ℕ
      d = get_or chain i 0

      px : 0 < x
      px = omega (arith, w.west)

      py : 0 < y
      py = omega (arith, w.south)

      nx : (x ≤ x' + 1) × (x' ≤ x + 1)
      nx = let r = near x d px in (omega (arith, r.0), omega (arith, r.1))

      ny : (y ≤ y' + 1) × (y' ≤ y + 1)
      ny = let r = near-row y d py in (omega (arith, r.0), omega (arith, r.1))

-- a store that is new
pub fresh : (chain : List ℕ) (m room places : ℕ) → Stays chain m room → 0 < room → length chain ≤ places → ThreadStore chain m (replicate room 0) (replicate places 0) (replicate places 0) (replicate room 0)
fresh chain m room places s h g = record {
  stays = subst (Stays chain m) (sym (length-replicate {A = ℕ} room 0)) s;
  some = omega (arith, length-replicate {A = ℕ} room 0);
  places = omega (arith, length-replicate {A = ℕ} places 0);
  heights = omega arith;
  marks = refl;
  zeros = (zero_all room, zero_all places, zero_all places, zero_all room);
}
  where
    zero_all : (n j : ℕ) → get_or (replicate {A = ℕ} n 0) j 0 ≡ 0
    zero_all n j = go (dec_lt j n)
      where
        go : Dec (j < n) → get_or (replicate {A = ℕ} n 0) j 0 ≡ 0
        go (yes l) = get_or-replicate n j 0 0 l
        go (no l) = get_or-eq_default (replicate n 0) 0 {n = j} (omega (arith, length-replicate {A = ℕ} n 0))

-- the whole answer
pub told_short : (chain : List ℕ) → length chain < 4 → Told chain false
told_short chain h c = ((λ e. absurd (false≢true e)), (λ p. let z : ⊥ = omega (arith, p.four) in absurd z))

pub told_open : (chain : List ℕ) → Closes chain false → Told chain false
told_open chain f c = ((λ e. absurd (false≢true e)), (λ p. absurd (false≢true ((f c).1 p.closed))))

pub told_closed : (chain : List ℕ) (m : ℕ) (r : Bool) → 4 ≤ length chain → Closes chain true → length chain < 2 * m → Scattered chain m r → Told chain r
told_closed chain m r h f g s c = scattered_room c chain m ((f c).0 refl) g h r s
