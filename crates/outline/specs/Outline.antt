-- The outer outline of a walk (RULES 15.1 to 15.4): the path along walked edges that keeps to the right, from the lowest of the
-- leftmost corners until it is back there with each of that corner's walked edges used. A walk without steps is not a special
-- case: it has no walked edge, so that its path is done at once. Assumes nothing.
use Rattle.lists.specs.Lists.{any}
use Rattle.std.specs.Prelude.{◌≡◌, Bool, true, false, cond, not, ◌&&◌, ◌||◌, List, [], ◌∷◌, length, ℕ, zero, suc, ◌<◌}
use Rattle.std.specs.Int.Signed.{lt_z}
use Rattle.grid.specs.{declared.Corner.Corner, Grid.eq_z, Grid.same, Grid.stepped, Grid.end_from, Grid.legs_from, Grid.joins}
use Rattle.steps.specs.Turns.{step_after}

-- the edge from p in direction d was walked: some step has its two ends, either way
abbrev pub walked : Corner → List ℕ → Corner → ℕ → Bool
walked c ds p d = any (joins p (stepped d p)) (legs_from c ds)

-- a is left of b, or straight below it
abbrev pub begins_before : Corner → Corner → Bool
begins_before a b = lt_z a.0 b.0 || eq_z a.0 b.0 && lt_z a.1 b.1

-- the lowest of the leftmost corners
abbrev pub home_of : Corner → List ℕ → Corner
home_of c [] = c
home_of c (d ∷ ds) = cond (begins_before (home_of (stepped d c) ds) c) (home_of (stepped d c) ds) c

-- first east if that edge was walked and otherwise north
abbrev pub first_way : Corner → List ℕ → ℕ
first_way c ds = cond (walked c ds (home_of c ds) 0) 0 1

-- arriving by direction d, the first walked edge of right turn, straight on, left turn, back: turns 3, 0, 1, 2. It came by the
-- edge back
abbrev pub onward : (ℕ → Bool) → ℕ → ℕ
onward w d = step_after d (cond (w (step_after d 3)) 3 (cond (w (step_after d 0)) 0 (cond (w (step_after d 1)) 1 2)))

-- the first n steps of the path that leaves p in direction d
abbrev pub path_from : Corner → List ℕ → ℕ → Corner → ℕ → List ℕ
path_from c ds zero p d = []
path_from c ds (suc n) p d = d ∷ path_from c ds n (stepped d p) (onward (walked c ds (stepped d p)) d)

-- the first n steps of the path from the lowest of the leftmost corners
abbrev pub path_from_home : Corner → List ℕ → ℕ → List ℕ
path_from_home c ds n = path_from c ds n (home_of c ds) (first_way c ds)

-- some walked edge of h is not used, one way or the other, by the steps es from h
abbrev pub lacks : Corner → List ℕ → Corner → List ℕ → Bool
lacks c ds h es = any (λ d. walked c ds h d && not (walked h es h d)) (0 ∷ 1 ∷ 2 ∷ 3 ∷ [])

-- back at the start with each of its walked edges used, one way or the other
abbrev pub is_done : Corner → List ℕ → List ℕ → Bool
is_done c ds es = same (end_from (home_of c ds) es) (home_of c ds) && not (lacks c ds (home_of c ds) es)

-- es is the outline of the walk of ds from c: the path, until it is done for the first time
pub record OutlineIs (c : Corner) (ds es : List ℕ) : Type 0 where
  pub path : es ≡ path_from_home c ds (length es)
  pub done : is_done c ds es ≡ true
  pub first : (k : ℕ) → k < length es → is_done c ds (path_from_home c ds k) ≡ false
