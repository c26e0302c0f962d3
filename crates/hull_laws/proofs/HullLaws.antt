-- Every walk has a hull; what else holds of it.
-- Assumes nothing.
use mathlib.Core.Path.{◌≡◌, sym, subst}
use mathlib.Core.List.{List, [], Memᴰ}
use Prim.Native.Nat.{ℕ, suc, ◌*◌, ◌-◌, ◌≤◌, ◌+◌}
use native.Mathlib.Omega.{arith}
use lib.ListN.{length, replicate, length-replicate, get_or-replicate}
use lib.IntN.{ℤ, pos, ◌+ℤ◌, ◌-ℤ◌}
use Rattle.int_laws.proofs.LinearLaws.{zarith, bal+, bal-}
use Rattle.grid.specs.declared.Corner.{Corner}
use Rattle.lists.specs.Lists.{gather}
use Rattle.lists.proofs.GatherLaws.{mem-gather-right}
use Rattle.lists.proofs.PigeonLaws.{pigeon}
use Rattle.grid.specs.Grid.{same, corners_from}
use Rattle.grid.proofs.CornerLaws.{same_sound, same_refl, corner_eq}
use Rattle.grid.proofs.StepLaws.{length-corners_from}
use Rattle.hull.specs.Hull.{HullIs, Encloses}
use Rattle.column_laws.specs.Columns.{west_from, east_from, spot}
use Rattle.hull_laws.specs.Chain.{hull_of}
use Rattle.hull_laws.proofs.WalkLaws.{Room, columns_both}
use Rattle.hull_laws.proofs.OneLaws.{hull_is_one}

hull_of-both : (s : Corner) (ds : List ℕ) → HullIs (corners_from s ds) (hull_of s ds) × Encloses (corners_from s ds) (hull_of s ds)
unfolding hull_of
hull_of-both s ds = subst (λ (c : Corner). HullIs (corners_from c ds) (hull_of s ds) × Encloses (corners_from c ds) (hull_of s ds)) start (columns_both (s.0 -ℤ pos n) (s.1 -ℤ pos n) n n ds (2 * n) (suc (2 * n)) blank blank room)
  where
    n : ℕ
    n = length ds

    width : ℕ
    width = suc (east_from n ds - west_from n ds)

    blank : List ℕ
    blank = replicate width (suc (2 * n))

    room : Room n n ds (2 * n) (suc (2 * n)) blank blank
    room = record {
      across = omega arith;
      up = omega arith;
      high = omega arith;
      over = omega arith;
      first = omega (arith, length-replicate {A = ℕ} width (suc (2 * n)));
      second = omega (arith, length-replicate {A = ℕ} width (suc (2 * n)));
      blank = λ c h. get_or-replicate width c (suc (2 * n)) 0 (omega arith);
      blank2 = λ c h. get_or-replicate width c (suc (2 * n)) 0 (omega arith);
    }

    back : (z : ℤ) → (z -ℤ pos n) +ℤ pos n ≡ z
    back z = omega (zarith, bal- z (pos n), bal+ (z -ℤ pos n) (pos n))

    start : spot (s.0 -ℤ pos n) (s.1 -ℤ pos n) (n, n) ≡ s
    start = corner_eq (spot (s.0 -ℤ pos n) (s.1 -ℤ pos n) (n, n)) s (back s.0) (back s.1)

pub hull_of_hull : (s : Corner) (ds : List ℕ) → HullIs (corners_from s ds) (hull_of s ds)
hull_of_hull s ds = (hull_of-both s ds).0

-- every walk has a hull
pub hull_exists : (s : Corner) (ds : List ℕ) → (L : List Corner) × HullIs (corners_from s ds) L
hull_exists s ds = (hull_of s ds, hull_of_hull s ds)

module _ (s : Corner) (ds : List ℕ) (L : List Corner) (h : HullIs (corners_from s ds) L) where
  -- and it is the computed one
  hull_hull_of : L ≡ hull_of s ds
  hull_hull_of = hull_is_one (corners_from s ds) L (hull_of s ds) h (hull_of_hull s ds)

  -- every visited corner lies on or left of every edge, that from the last corner to the first included
  pub hull_edges : Encloses (corners_from s ds) L
  hull_edges = subst (Encloses (corners_from s ds)) (sym hull_hull_of) (hull_of-both s ds).1

  -- its corners are visited
  hull_visited : (q : Corner) → Memᴰ q L → Memᴰ q (corners_from s ds)
  hull_visited q m = ((h.corners q).0 m).visited

  -- there are no more of them than different corners visited
  pub hull_count : length L ≤ length (gather same [] (corners_from s ds))
  hull_count = pigeon L (gather same [] (corners_from s ds)) h.once (λ a m. mem-gather-right same same_sound same_refl [] (corners_from s ds) (hull_visited a m))

  -- nor than steps and one
  pub hull_count-steps : length L ≤ suc (length ds)
  hull_count-steps = omega (arith, pigeon L (corners_from s ds) h.once hull_visited, length-corners_from s ds)

pub length-hull_of : (s : Corner) (w : List ℕ) → length (hull_of s w) ≤ length w + 1
length-hull_of s w = omega (arith, hull_count-steps s w (hull_of s w) (hull_of_hull s w))
