-- Where a walk may start: the test, and what it shows.
-- Assumes nothing.
use mathlib.Core.Bool.{true}
use mathlib.Core.Path.{◌≡◌}
use borrow.Author.Tests.{leb-true, le-leb}
use lib.Dec.{leb}
use lib.IntN.{nat_abs}
use Rattle.grid.specs.declared.Corner.{Corner}
use Rattle.lists.proofs.GatherLaws.{and_left, and_right}
use Rattle.answer.specs.Limits.{most_start, Near, start_fits}

pub fits_near : (c : Corner) → start_fits c ≡ true → Near c
fits_near c e =
    let a = leb (nat_abs c.0) most_start in
    let b = leb (nat_abs c.1) most_start in
    (leb-true (nat_abs c.0) most_start (and_left a b e), leb-true (nat_abs c.1) most_start (and_right a b e))

pub near_fits : (c : Corner) → Near c → start_fits c ≡ true
near_fits c n = rw (le-leb (nat_abs c.0) most_start n.0, le-leb (nat_abs c.1) most_start n.1)
