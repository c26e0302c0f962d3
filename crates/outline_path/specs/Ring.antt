-- What the passes along the outline ask and promise, wherever the walk starts. Assumes nothing.
use Rattle.answer.specs.Limits.{most_steps}
use Rattle.std.specs.Prelude.{◌≡◌, Bool, List, ℕ, suc, ◌+◌, ◌*◌, ◌<◌, ◌≤◌, ltb, length, get_or, drop, ◌++◌}
use Rattle.grid.specs.declared.Corner.{Corner}
use Rattle.outline.specs.Outline.{first_way}
use Rattle.outline.specs.Computed.{outline_of}
use Rattle.outline_links.specs.Built.{Built}

-- the edges of corner i were walked
abbrev pub ways_at : List ℕ → ℕ → ℕ → Bool
ways_at links i e = ltb 0 (get_or links (4 * i + e) 0)

-- the store of a walk with steps, with the corner and the way by which its outline starts
pub record RingStore (chain links : List ℕ) (home first : ℕ) : Type 0 where
  pub some : 0 < length chain
  pub short : length chain ≤ most_steps
  pub words : 4 * suc (length chain) ≤ length links
  pub built : (c : Corner) → Built c chain links home
  pub firstly : (c : Corner) → first ≡ first_way c chain

-- how long the outline is
abbrev pub Long : List ℕ → ℕ → Type 0
Long chain n = (c : Corner) → n ≡ length (outline_of c chain)

-- the outline, and then what stood after it
abbrev pub Written : List ℕ → List ℕ → List ℕ → Type 0
Written chain before after = (c : Corner) → after ≡ outline_of c chain ++ drop (length (outline_of c chain)) before
