-- The words of a record, and the table (RULES 4.1 to 4.3). Assumes nothing.
use Rattle.lists.specs.Lists.{find, count}
use Rattle.std.specs.Prelude.{cond, not, ◌&&◌, List, [], ◌∷◌, ◌++◌, length, replicate, ℕ, zero, suc, ◌+◌, ◌-◌, ◌*◌, ◌/◌, ◌≤◌, eqb}
use Rattle.grid.specs.{declared.Corner.Corner, Grid.same, Grid.stepped, Grid.corners_from, Grid.legs_of, Grid.joins, Tree.parent_of, Tree.is_root, Tree.child_word}
use Rattle.tree.specs.Nodes.{nodes_of, ref_of, need_of, link_step_of}

-- words of a record: 14 that all walks in a table share, and 11 of each of m walks
abbrev pub record_words : ℕ → ℕ
record_words m = 14 + m * 11

-- words of a record in the table of one walk
abbrev pub width : ℕ
width = record_words 1

-- how many records this many words hold
abbrev pub records_in : ℕ → ℕ
records_in words = words / width

-- the place of word w of record u in the table
abbrev pub word_at : ℕ → ℕ → ℕ
word_at u w = u * width + w

-- record u lies in the table
abbrev pub HasRecord : List ℕ → ℕ → Type 0
HasRecord t u = suc u * width ≤ length t

-- the words of a record by name; a child's is child_word
abbrev pub parent_word : ℕ
parent_word = 0

abbrev pub neighbour_word : ℕ → ℕ
neighbour_word d = 10 + d

abbrev pub link_word : ℕ → ℕ
link_word d = 14 + d

abbrev pub visits_word : ℕ
visits_word = 18

abbrev pub need_word : ℕ
need_word = 19

abbrev pub first_word : ℕ
first_word = 20

abbrev pub edge_word : ℕ → ℕ
edge_word d = 21 + d

-- what a record holds: the parent; the child in word w; the neighbour in direction d, and that link's step; the visits; the step
-- that first needed the node; 1 + the least k with pk here; how often the edge in direction d was walked
pub record Fields : Type 0 where
  pub parent : ℕ
  pub child : ℕ → ℕ
  pub neighbour : ℕ → ℕ
  pub link : ℕ → ℕ
  pub visits : ℕ
  pub need : ℕ
  pub first : ℕ
  pub edge : ℕ → ℕ

-- the values of f at n numbers, from i on
abbrev pub tab : ℕ → ℕ → (ℕ → ℕ) → List ℕ
tab i zero f = []
tab i (suc n) f = f i ∷ tab (suc i) n f

-- its words: those that all walks in a table share, the children's being 1 to 9; then those of one walk
abbrev pub shared_words : Fields → List ℕ
shared_words r = r.parent ∷ tab 1 9 r.child ++ tab 0 4 r.neighbour

abbrev pub own_words : Fields → List ℕ
own_words r = tab 0 4 r.link ++ (r.visits ∷ r.need ∷ r.first ∷ tab 0 4 r.edge)

abbrev pub words_of : Fields → List ℕ
words_of r = shared_words r ++ own_words r

-- the ref of the child of a that stands in word w
abbrev pub child_ref_of : List Corner → Corner → ℕ → ℕ
child_ref_of ns a w = find (λ c. not (is_root c) && same (parent_of c) a && eqb (child_word c) w) ns

-- the ref of the neighbour in direction d, if there is a link
abbrev pub neighbour_ref_of : List Corner → List Corner → Corner → ℕ → ℕ
neighbour_ref_of ps ns a d = elim (link_step_of ps a d) [ zero ↦ 0 | suc k ↦ ref_of ns (stepped d a) ]

-- how often the edge from a in direction d was walked: the steps whose two ends are a and its neighbour there, either way
abbrev pub edges_of : List Corner → Corner → ℕ → ℕ
edges_of ps a d = count (joins a (stepped d a)) (legs_of ps)

-- what the record of node a holds, in a walk with corners ps and nodes ns, and its words
abbrev pub fields_of : List Corner → List Corner → Corner → Fields
fields_of ps ns a = record {
  parent = cond (is_root a) 0 (ref_of ns (parent_of a));
  child = child_ref_of ns a;
  neighbour = neighbour_ref_of ps ns a;
  link = link_step_of ps a;
  visits = count (same a) ps;
  need = need_of ps a;
  first = find (same a) ps;
  edge = edges_of ps a;
}

abbrev pub record_of : List Corner → List Corner → Corner → List ℕ
record_of ps ns a = words_of (fields_of ps ns a)

-- the records of these nodes, one after the other
abbrev pub records_of : List Corner → List Corner → List Corner → List ℕ
records_of ps ns [] = []
records_of ps ns (a ∷ rest) = record_of ps ns a ++ records_of ps ns rest

-- the table of this many words: the records of the nodes in use, then zeros
abbrev pub table_of : ℕ → Corner → List ℕ → List ℕ
table_of words c ds =
    let ps = corners_from c ds in
    let ns = nodes_of ps in
    let rs = records_of ps ns ns in
    rs ++ replicate (words - length rs) 0
