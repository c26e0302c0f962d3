-- Connected sets of panels or blocks, and the four quadrants of a block (RULES 21.7). Assumes nothing.
use Rattle.std.specs.Prelude.{ℕ, ◌≤ℤ◌}
use Rattle.grid.specs.{declared.Corner.Corner, declared.Panel.Panel}
use Rattle.panels.specs.Inside.{left_of, right_of}

-- p itself, and every panel of B that is reached from it across edges, from panel to panel of B
pub data JoinedIn (B : Panel → Type 0) (p : Panel) : Panel → Type 0 where
  here : JoinedIn B p p
  across : (d : ℕ) (q : Corner) → JoinedIn B p (right_of d q) → B (left_of d q) → JoinedIn B p (left_of d q)

-- every panel of B is reached from every other
abbrev pub Connected : (Panel → Type 0) → Type 0
Connected B = (p q : Panel) → B p → B q → JoinedIn B p q

-- B has a panel that is related to p by x, and by y
pub record Holding (B : Panel → Type 0) (across along : Panel → Type 0) : Type 0 where
  pub at : Panel
  pub one : B at
  pub x : across at
  pub y : along at

-- each of the four quadrants of p, its row and its column included, holds a panel of B
pub record Quadrants (B : Panel → Type 0) (p : Panel) : Type 0 where
  pub south_west : Holding B (λ b. b.0 ≤ℤ p.0) (λ b. b.1 ≤ℤ p.1)
  pub south_east : Holding B (λ b. p.0 ≤ℤ b.0) (λ b. b.1 ≤ℤ p.1)
  pub north_west : Holding B (λ b. b.0 ≤ℤ p.0) (λ b. p.1 ≤ℤ b.1)
  pub north-east : Holding B (λ b. p.0 ≤ℤ b.0) (λ b. p.1 ≤ℤ b.1)
