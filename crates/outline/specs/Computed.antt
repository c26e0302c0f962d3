-- The outline, computed: outline_laws proves that this is the outline, so that a reader of the call needs none of it. Assumes
-- nothing.
use Rattle.std.specs.Prelude.{true, false, List, length, ℕ, zero, suc, ◌*◌}
use Rattle.grid.specs.declared.Corner.{Corner}
use Rattle.outline.specs.Outline.{path_from_home, is_done}

-- the first of at most f moments from k on at which the path is done
abbrev pub moment_from : Corner → List ℕ → ℕ → ℕ → ℕ
moment_from c ds zero k = k
moment_from c ds (suc f) k = elim (is_done c ds (path_from_home c ds k)) [ true ↦ k | false ↦ moment_from c ds f (suc k) ]

-- it has at most two steps for each of the walk's
abbrev pub outline_of : Corner → List ℕ → List ℕ
outline_of c ds = path_from_home c ds (moment_from c ds (2 * length ds) 0)
