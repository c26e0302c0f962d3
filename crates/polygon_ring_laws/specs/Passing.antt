-- A walk that passes the points of a ring.
-- Assumes nothing.
use Rattle.std.specs.Prelude.{◌≡◌, List, [], ◌∷◌, ◌++◌, take, drop, replicate, ℕ, ◌<◌}
use Rattle.polygon_ring.specs.Ring.{start_of, later_of, ring_of}
use Rattle.polygon_ring.specs.declared.Found.{Found}
use Rattle.grid.specs.{declared.Corner.Corner, Grid.end_from}

-- the steps lead from a to each corner of the list, by one straight run to each, and end at the last
abbrev pub PassesFrom : Corner → List Corner → List ℕ → Type 0
PassesFrom a [] ds = ds ≡ []
PassesFrom a (b ∷ cs) ds =
    (k : ℕ) × (d : ℕ) × (rest : List ℕ) × (0 < k) × (d < 4) × (ds ≡ replicate k d ++ rest)
    × (end_from a (replicate k d) ≡ b) × PassesFrom b cs rest

-- the chain that was written is the one that passes the points of the file's ring from its start; it ends where it began, and the
-- bytes after it are as they were
pub record RingPassed (file out : List ℕ) (f : Found) (out' : List ℕ) : Type 0 where
  pub first : f.start ≡ start_of (ring_of file)
  pub points : PassesFrom f.start (later_of (ring_of file)) (take f.steps out')
  pub only : (ds : List ℕ) → PassesFrom f.start (later_of (ring_of file)) ds → ds ≡ take f.steps out'
  pub home : end_from f.start (take f.steps out') ≡ f.start
  pub after : drop f.steps out' ≡ drop f.steps out
