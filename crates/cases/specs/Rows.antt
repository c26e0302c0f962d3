-- The worked walks P1 to P12 (RULES 9.1): for each row the operations, and what is said of them.
-- Assumes nothing.
use Rattle.std.specs.Prelude.{◌≡◌, List, [], ◌∷◌, ℕ, ◌+◌, ◌*◌, ℤ, pos, negsuc, length, take, drop}
use Rattle.lists.specs.Lists.{count}
use Rattle.grid.specs.declared.Corner.{Corner}
use Rattle.grid.specs.Grid.{corner, origin, same, corners_from}
use Rattle.answer.specs.Refusal.{verdict_number, judged_number, judged_place}
use Rattle.steps.specs.Operations.{survivors}
use Rattle.steps.specs.Turns.{turns_of}
use Rattle.trace.specs.Meeting.{Meeting, none, meet, meeting_of, visited_of}
use Rattle.trace.specs.Verdict.{verdict_of, area_of}
use Rattle.tree.specs.Nodes.{nodes_of, ref_of, link_step_of}
use Rattle.layout.specs.Table.{width, table_of}
use Rattle.layout.specs.Marks.{mark_words, marks_of}
use Rattle.walk.specs.Walk.{walk_judged}
use Rattle.hull.specs.Hull.{HullIs}

-- what is said of a walk from the origin
pub data Fact : Type 0 where
  verdict_is : ℕ → Fact
  nodes_are : ℕ → Fact
  corners_are : ℕ → Fact
  meeting_is : Meeting → Fact
  area_is : ℤ → Fact
  hull_is : List Corner → Fact
  marks_are : List ℕ → Fact
  survive : List ℕ → Fact
  turns_are : List ℕ → Fact
  -- the node of this number is this corner
  node_is : ℕ → Corner → Fact
  visits_are : Corner → ℕ → Fact
  -- the record of the node of this number, in a table of this many records
  record_is : ℕ → ℕ → List ℕ → Fact
  -- the step of the link from a corner in a direction
  link_is : Corner → ℕ → ℕ → Fact
  -- with this many records: the refusal's number and place
  judged_as : ℕ → ℕ → ℕ → Fact

-- the corners p0 to pn of the surviving steps
abbrev corners_of : List ℕ → List Corner
corners_of os = corners_from origin (survivors os)

abbrev pub FactHolds : List ℕ → Fact → Type 0
FactHolds os (verdict_is v) = verdict_number (verdict_of origin (survivors os)) ≡ v
FactHolds os (nodes_are n) = length (nodes_of (corners_of os)) ≡ n
FactHolds os (corners_are n) = length (visited_of (corners_of os)) ≡ n
FactHolds os (meeting_is m) = meeting_of origin (survivors os) ≡ m
FactHolds os (area_is z) = area_of origin (survivors os) ≡ z
FactHolds os (hull_is h) = HullIs (corners_of os) h
FactHolds os (marks_are ms) = marks_of origin os ≡ ms
FactHolds os (survive ds) = survivors os ≡ ds
FactHolds os (turns_are ts) = turns_of (survivors os) ≡ ts
FactHolds os (node_is n a) = ref_of (nodes_of (corners_of os)) a ≡ n + 1
FactHolds os (visits_are a n) = count (same a) (corners_of os) ≡ n
FactHolds os (record_is r n ws) = take width (drop (n * width) (table_of (r * width) origin (survivors os))) ≡ ws
FactHolds os (link_is a d k) = link_step_of (corners_of os) a d ≡ k
FactHolds os (judged_as r n p) =
    (judged_number (walk_judged origin os (r * width) (mark_words * length os) (length os)) ≡ n)
    × (judged_place (walk_judged origin os (r * width) (mark_words * length os) (length os)) ≡ p)

-- all of them hold
abbrev HoldAll : List ℕ → List Fact → Type 0
HoldAll os [] = Unit {0}
HoldAll os (f ∷ fs) = FactHolds os f × HoldAll os fs

pub record WorkedRow : Type 0 where
  pub operations : List ℕ
  pub facts : List Fact

abbrev row : List ℕ → List Fact → WorkedRow
row os fs = record { operations = os; facts = fs }

-- every fact of every row holds
abbrev pub Worked : List WorkedRow → Type 0
Worked [] = Unit {0}
Worked (r ∷ rs) = HoldAll r.operations r.facts × Worked rs

-- a corner with no coordinate below zero
abbrev at : ℕ → ℕ → Corner
at x y = corner (pos x) (pos y)

-- P1 to P12, the two refusals of P12 as a row each
abbrev pub rows : List WorkedRow
rows =
    row [] (verdict_is 0 ∷ nodes_are 1 ∷ corners_are 1 ∷ meeting_is none ∷ hull_is (at 0 0 ∷ []) ∷ [])
    ∷ row (0 ∷ 1 ∷ 2 ∷ 3 ∷ []) (verdict_is 2 ∷ meeting_is (meet 0 4) ∷ area_is (pos 1) ∷ [])
    ∷ row (3 ∷ 2 ∷ 1 ∷ 0 ∷ []) (verdict_is 2 ∷ area_is (negsuc 0) ∷ [])
    ∷ row (0 ∷ 2 ∷ []) (verdict_is 5 ∷ meeting_is (meet 0 2) ∷ area_is (pos 0) ∷ [])
    ∷ row (0 ∷ 2 ∷ 2 ∷ [])
    (verdict_is 3 ∷ meeting_is (meet 0 2) ∷ nodes_are 3 ∷ hull_is (corner (negsuc 0) (pos 0) ∷ at 1 0 ∷ []) ∷ [])
    ∷ row (0 ∷ 1 ∷ 2 ∷ 2 ∷ 3 ∷ []) (verdict_is 1 ∷ nodes_are 6 ∷ node_is 2 (at 1 1) ∷ node_is 4 (corner (negsuc 0) (pos 1)) ∷ [])
    ∷ row (2 ∷ 2 ∷ 2 ∷ 2 ∷ []) (nodes_are 5 ∷ [])
    ∷ row (0 ∷ 0 ∷ 1 ∷ 1 ∷ [])
    (corners_are 5 ∷ nodes_are 6 ∷ marks_are (2 ∷ 1 ∷ 2 ∷ 3 ∷ 1 ∷ 2 ∷ 4 ∷ 1 ∷ 3 ∷ 6 ∷ 1 ∷ 5 ∷ [])
    ∷ node_is 4 (at 1 1) ∷ visits_are (at 1 1) 0 ∷ link_is (at 1 0) 1 4
    ∷ record_is 6 4 (1 ∷ 0 ∷ 0 ∷ 0 ∷ 0 ∷ 6 ∷ 0 ∷ 0 ∷ 0 ∷ 0 ∷ 0 ∷ 0 ∷ 0 ∷ 2 ∷ 0 ∷ 0 ∷ 0 ∷ 4 ∷ 0 ∷ 4 ∷ 0 ∷ 0 ∷ 0 ∷ 0 ∷ 0 ∷ [])
    ∷ judged_as 5 7 3 ∷ judged_as 6 0 0 ∷ [])
    ∷ row (0 ∷ 0 ∷ 4 ∷ 1 ∷ 2 ∷ 3 ∷ [])
    (marks_are (2 ∷ 1 ∷ 2 ∷ 3 ∷ 1 ∷ 2 ∷ 2 ∷ 1 ∷ 2 ∷ 3 ∷ 1 ∷ 3 ∷ 4 ∷ 1 ∷ 3 ∷ 4 ∷ 2 ∷ 2 ∷ []) ∷ [])
    ∷ row (0 ∷ 2 ∷ 0 ∷ 4 ∷ [])
    (marks_are (2 ∷ 1 ∷ 2 ∷ 2 ∷ 2 ∷ 2 ∷ 2 ∷ 2 ∷ 2 ∷ 2 ∷ 2 ∷ 2 ∷ []) ∷ survive (0 ∷ 2 ∷ []) ∷ verdict_is 5
    ∷ link_is origin 0 1 ∷ [])
    ∷ row (0 ∷ 0 ∷ 1 ∷ 1 ∷ 0 ∷ 0 ∷ 3 ∷ 2 ∷ 2 ∷ 2 ∷ 2 ∷ 3 ∷ [])
    (verdict_is 4 ∷ meeting_is (meet 3 9) ∷ nodes_are 11
    ∷ hull_is (at 0 0 ∷ at 2 0 ∷ at 4 1 ∷ at 4 2 ∷ at 2 2 ∷ at 0 1 ∷ [])
    ∷ turns_are (0 ∷ 0 ∷ 1 ∷ 0 ∷ 3 ∷ 0 ∷ 3 ∷ 3 ∷ 0 ∷ 0 ∷ 0 ∷ 1 ∷ []) ∷ [])
    ∷ row (4 ∷ []) (judged_as 1 5 0 ∷ [])
    ∷ row (0 ∷ 5 ∷ []) (judged_as 2 4 1 ∷ [])
    ∷ []
