-- What a step asks of the store and leaves in it. Assumes nothing.
use Rattle.answer.specs.Limits.{most_steps}
use Rattle.std.specs.Prelude.{set, ◌≡◌, ◌⊎◌, List, ℕ, suc, ◌+◌, ◌*◌, ◌<◌, ◌≤◌, length, get_or}
use Rattle.grid.specs.Grid.{back}
use Rattle.outline_roster.specs.Tree.{Tree, Seated}

-- space for one more corner, and numbers that fit their words
pub record RoomForMore (keys kids links : List ℕ) (used node : ℕ) : Type 0 where
  pub tree : Tree keys kids used
  pub room : used < length keys
  pub there : node < used
  pub words : length links ≡ 4 * length keys
  pub small : length keys ≤ suc most_steps

-- along a link, and nothing changes
pub record Along (keys kids links : List ℕ) (used node d : ℕ) (keys' kids' links' : List ℕ) (node' used' : ℕ) : Type 0 where
  pub link : get_or links (4 * node + d) 0 ≡ suc node'
  pub same : (keys' ≡ keys) × (kids' ≡ kids) × (links' ≡ links) × (used' ≡ used)

-- if there is no link: the corner is seated, and two words are set
pub record LinkMade (keys links : List ℕ) (used node k d : ℕ) (keys' kids' links' : List ℕ) (node' used' : ℕ) : Type 0 where
  pub none : get_or links (4 * node + d) 0 ≡ 0
  pub seated : Seated keys used k keys' kids' node' used'
  pub words : links' ≡ set (set links (4 * node + d) (suc node')) (4 * node' + back d) (suc node)

-- a step goes along a link, or makes one
abbrev pub StepLinked : List ℕ → List ℕ → List ℕ → ℕ → ℕ → ℕ → ℕ → List ℕ → List ℕ → List ℕ → ℕ → ℕ → Type 0
StepLinked keys kids links used node k d keys' kids' links' node' used' =
    Along keys kids links used node d keys' kids' links' node' used'
    ⊎ LinkMade keys links used node k d keys' kids' links' node' used'
