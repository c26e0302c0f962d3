-- The convex hull of the centres of panels (RULES 17.8). Assumes nothing.
use mathlib.Core.List.{Memᴰ}
use Rattle.lists.specs.Lists.{sum_of}
use Rattle.std.specs.Prelude.{◌≡◌, List, length, ◌<◌, pos, ◌*ℤ◌}
use Rattle.grid.specs.declared.Panel.{Panel}

-- q is the mean of the panels of a list, each as often as it is listed
pub record MeanOf (ps : List Panel) (q : Panel) : Type 0 where
  pub some : 0 < length ps
  pub mean_x : sum_of (λ p. p.0) ps ≡ pos (length ps) *ℤ q.0
  pub mean_y : sum_of (λ p. p.1) ps ≡ pos (length ps) *ℤ q.1

-- the centre of q lies in the convex hull of the centres of the panels that have S: q is the mean of a list of them
pub record InHull (S : Panel → Type 0) (q : Panel) : Type 0 where
  pub panels : List Panel
  pub all : (p : Panel) → Memᴰ p panels → S p
  pub mean : MeanOf panels q
