-- What the table holds at any moment, also in the middle of a step: the nodes, and the words of a node that are not refs.
-- Assumes nothing.
use Rattle.std.specs.Prelude.{Bool, true, false, cond, not, ◌&&◌, ◌⊎◌, ◌≡◌, ℕ, zero, suc, ◌+◌, ◌-◌, ◌*◌, ◌<◌, ◌≤◌, pred, eqb, length, replicate}
use mathlib.Core.List.{List, [], ◌∷◌, ◌++◌, Memᴰ}
use Rattle.grid.specs.declared.Corner.{Corner}
use Rattle.grid.specs.Grid.{same, stepped, legs_of, joins}
use Rattle.grid.specs.Tree.{root, parent_of, is_root, path_of}
use Rattle.layout.specs.Table.{width, Fields, words_of, child_ref_of}
use Rattle.lists.specs.Lists.{any, find, count, gather, tally, Distinct}
use Rattle.tree.specs.Nodes.{nodes_of, links, ref_of}

-- a number that is set once: what it was, or else s if the test passes
abbrev pub later : ℕ → Bool → ℕ → ℕ
later zero true s = s
later zero false s = 0
later (suc n) b s = suc n

-- the link steps (of two nodes) after one lookup by step s from a to its neighbour e: every level that both have
abbrev pub linked : (Corner → Corner → ℕ) → ℕ → Corner → Corner → Corner → Corner → ℕ
linked L s a e x y = later (L x y) (links x y (a, e)) s

-- the link between a and e alone, both ways
abbrev pub link_put : (Corner → Corner → ℕ) → ℕ → Corner → Corner → Corner → Corner → ℕ
link_put L s a e x y = cond (joins x y (a, e)) s (L x y)

-- what holds of the nodes and the link steps at every moment: the root is first, the parents are there and come before, no
-- node stands twice, a link's ends are nodes, it stands both ways, and the parents, if they differ, are linked too
pub record WellLinked (ns : List Corner) (L : Corner → Corner → ℕ) : Type 0 where
  pub root : (r : List Corner) × (ns ≡ root ∷ r)
  pub closed : (c : Corner) → Memᴰ c ns → is_root c ≡ false → Memᴰ (parent_of c) ns
  pub distinct : Distinct ns
  pub order : (c : Corner) → Memᴰ c ns → is_root c ≡ false → ref_of ns (parent_of c) < ref_of ns c
  pub ends : (x y : Corner) → 0 < L x y → Memᴰ x ns × Memᴰ y ns
  pub both : (x y : Corner) → L x y ≡ L y x
  pub up : (x y : Corner) → 0 < L x y → is_root x ≡ false → is_root y ≡ false → (parent_of x ≡ parent_of y → ⊥)
      → 0 < L (parent_of x) (parent_of y)

-- the nodes in their order; the step of the link of two nodes; the visits, the needing step and 1 + the first visit of a node;
-- how often the edge between two nodes was walked
pub record State : Type 0 where
  pub nodes : List Corner
  pub step : Corner → Corner → ℕ
  pub visits : Corner → ℕ
  pub need : Corner → ℕ
  pub first : Corner → ℕ
  pub edges : Corner → Corner → ℕ

-- the path of a corner, with nothing on it
abbrev pub planted_of : Corner → State
planted_of c = record { nodes = path_of c; step = λ x y. 0; visits = λ x. 0; need = λ x. 0; first = λ x. 0; edges = λ x y. 0 }

-- a node that the path of e adds to the nodes
abbrev is_new : List Corner → Corner → Corner → Bool
is_new ns e x = not (any (same x) ns) && any (same x) (path_of e)

-- the needing steps after a lookup of e by step s
abbrev pub needed : List Corner → (Corner → ℕ) → ℕ → Corner → Corner → ℕ
needed ns N s e x = cond (is_new ns e x) s (N x)

-- the state after a lookup by step s from the node a to its neighbour e
abbrev pub reached : State → ℕ → Corner → Corner → State
reached S s a e = record {
  nodes = gather same S.nodes (path_of e);
  step = linked S.step s a e;
  visits = S.visits;
  need = needed S.nodes S.need s e;
  first = S.first;
  edges = S.edges;
}

-- the state after a visit of the node e at corner number k
abbrev pub visited_by : State → Corner → ℕ → State
visited_by S e k = record {
  nodes = S.nodes;
  step = S.step;
  visits = λ x. S.visits x + tally (same x e);
  need = S.need;
  first = λ x. later (S.first x) (same x e) (suc k);
  edges = S.edges;
}

-- the state after the edge between a and e was walked once more
abbrev pub walked_by : State → Corner → Corner → State
walked_by S a e = record {
  nodes = S.nodes;
  step = S.step;
  visits = S.visits;
  need = S.need;
  first = S.first;
  edges = λ x y. S.edges x y + tally (joins x y (a, e));
}

-- the state with the node e more, which step s needs
abbrev pub with_node : State → Corner → ℕ → State
with_node S e s = record {
  nodes = S.nodes ++ (e ∷ []);
  step = S.step;
  visits = S.visits;
  need = λ x. cond (same x e) s (S.need x);
  first = S.first;
  edges = S.edges;
}

-- the state with the link of a and e set to s (0: cleared)
abbrev pub with_link : State → Corner → Corner → ℕ → State
with_link S a e s = record {
  nodes = S.nodes;
  step = link_put S.step s a e;
  visits = S.visits;
  need = S.need;
  first = S.first;
  edges = S.edges;
}

-- with the node e, which is made if it is not there
abbrev pub grown : State → Corner → ℕ → State
grown S e s = elim (any (same e) S.nodes) [ true ↦ S | false ↦ with_node S e s ]

-- the state in which the parent of e is looked up, for the neighbour e of a: that of the parents' lookup, if they differ
abbrev pub raised : State → ℕ → Corner → Corner → State
raised S s a e =
    elim (is_root a)
    [ true ↦ S | false ↦ elim (same (parent_of a) (parent_of e)) [ true ↦ S | false ↦ reached S s (parent_of a) (parent_of e) ] ]

-- a take-back on its way from reached S s a e to S: the links M are left, and the nodes on the path of e
abbrev pub unlinking : State → ℕ → Corner → (Corner → Corner → ℕ) → State
unlinking S s e M = record {
  nodes = gather same S.nodes (path_of e);
  step = M;
  visits = S.visits;
  need = needed S.nodes S.need s e;
  first = S.first;
  edges = S.edges;
}

-- link steps that agree on different nodes
abbrev pub Agree : (Corner → Corner → ℕ) → (Corner → Corner → ℕ) → Type 0
Agree M K = (x y : Corner) → (x ≡ y → ⊥) → M x y ≡ K x y

-- the links M while those of a step to z are cleared, from the node at in direction d up: they are L again, or those that the
-- step made from here up are left
abbrev pub Unlinking : (Corner → Corner → ℕ) → ℕ → Corner → ℕ → (Corner → Corner → ℕ) → Corner → Type 0
Unlinking L s z d M at = Agree M L ⊎ (Agree M (linked L s at (stepped d at)) × Memᴰ (stepped d at) (path_of z))

-- ---- what a step from a to its neighbour e changes, if the nodes are ns and the link steps L before it
-- the link of the parents is made too: neither is the root, the parents differ, and they had no link
abbrev pub links_up : (Corner → Corner → ℕ) → Corner → Corner → Bool
links_up L a e =
    not (is_root a) && not (is_root e) && not (same (parent_of a) (parent_of e)) && eqb (L (parent_of a) (parent_of e)) 0

-- the node is made
abbrev pub is_fresh : List Corner → Corner → Bool
is_fresh ns e = not (any (same e) ns)

-- x, unless it is y
abbrev pub but : Corner → Corner → List Corner
but x y = cond (same x y) [] (x ∷ [])

-- the nodes above a and e whose records change, in at most k levels: the ends of the links that are made there, each left out if
-- it is the other end of the level below, and the parent of the topmost node that is made
abbrev pub risen_by : (Corner → Corner → ℕ) → List Corner → ℕ → Corner → Corner → List Corner
risen_by L ns zero a e = []
risen_by L ns (suc k) a e =
    cond (links_up L a e) (but (parent_of a) e ++ (but (parent_of e) a ++ risen_by L ns k (parent_of a) (parent_of e)))
    (cond (is_fresh ns e) (but (parent_of e) a) [])

-- two states with the same table
pub record Alike (S T : State) : Type 0 where
  pub nodes : S.nodes ≡ T.nodes
  pub step : (x y : Corner) → (x ≡ y → ⊥) → S.step x y ≡ T.step x y
  pub visits : (x : Corner) → S.visits x ≡ T.visits x
  pub need : (x : Corner) → S.need x ≡ T.need x
  pub first : (x : Corner) → S.first x ≡ T.first x
  pub edges : (x y : Corner) → S.edges x y ≡ T.edges x y

-- a state that may stand in the table: its links are good, what is not a node has no visits, no step needs it and no edge of it
-- was walked, the visited nodes are those with a first visit, and an edge has one count at both its ends
pub record Sound (S : State) : Type 0 where
  pub good : WellLinked S.nodes S.step
  pub unvisited : (x : Corner) → (Memᴰ x S.nodes → ⊥) → S.visits x ≡ 0
  pub unneeded : (x : Corner) → (Memᴰ x S.nodes → ⊥) → S.need x ≡ 0
  pub unseen : (x : Corner) → (Memᴰ x S.nodes → ⊥) → S.first x ≡ 0
  pub fewer : (x : Corner) → S.visits x ≡ 0 → S.first x ≡ 0
  pub more : (x : Corner) → S.first x ≡ 0 → S.visits x ≡ 0
  pub paired : (x y : Corner) → S.edges x y ≡ S.edges y x
  pub unwalked : (x y : Corner) → (Memᴰ x S.nodes → ⊥) → S.edges x y ≡ 0

-- the state after the walk with corners ps
abbrev pub state_of : List Corner → State
state_of ps = record {
  nodes = nodes_of ps;
  step = λ x y. find (links x y) (legs_of ps);
  visits = λ a. count (same a) ps;
  need = λ a. pred (find (λ p. any (same a) (path_of p)) ps);
  first = λ a. find (same a) ps;
  edges = λ x y. count (joins x y) (legs_of ps);
}

-- the ref of the neighbour in direction d, if there is a link
abbrev pub neighbour_by : List Corner → (Corner → Corner → ℕ) → Corner → ℕ → ℕ
neighbour_by ns L a d = elim (L a (stepped d a)) [ zero ↦ 0 | suc k ↦ ref_of ns (stepped d a) ]

-- what the record of node a holds, and its words
abbrev pub fields_by : State → Corner → Fields
fields_by S a = record {
  parent = cond (is_root a) 0 (ref_of S.nodes (parent_of a));
  child = child_ref_of S.nodes a;
  neighbour = neighbour_by S.nodes S.step a;
  link = λ d. S.step a (stepped d a);
  visits = S.visits a;
  need = S.need a;
  first = S.first a;
  edge = λ d. S.edges a (stepped d a);
}

abbrev pub record_by : State → Corner → List ℕ
record_by S a = words_of (fields_by S a)

-- a table by its rows, each the row of a key
abbrev pub rows_by : {A : Type 0} → (A → List ℕ) → List A → List ℕ
rows_by R [] = []
rows_by R (a ∷ l) = R a ++ rows_by R l

-- this many words: these, then zeros
abbrev pub filled : ℕ → List ℕ → List ℕ
filled words rs = rs ++ replicate (words - length rs) 0

-- the table of a state
abbrev pub table_by : ℕ → State → List ℕ
table_by words S = filled words (rows_by (record_by S) S.nodes)

-- a table whose links of step s to z are being cleared, on the way to S; next is the node u, in direction d
pub record UnlinkAt (words : ℕ) (S : State) (s : ℕ) (z : Corner) (d : ℕ) (t : List ℕ) (u : ℕ) : Type 0 where
  pub at : Corner
  pub links : Corner → Corner → ℕ
  pub table : t ≡ table_by words (unlinking S s z links)
  pub here : ref_of (gather same S.nodes (path_of z)) at ≡ suc u
  pub inv : Unlinking S.step s z d links at

-- a table whose nodes of step s are being taken off, on the way to S; next is the node u, which stands for h
pub record DropAt (words : ℕ) (S : State) (s : ℕ) (t : List ℕ) (left u : ℕ) (h : Corner) : Type 0 where
  pub table : t ≡ table_by words (unlinking S s h S.step)
  pub count : left ≡ length (gather same S.nodes (path_of h))
  pub here : ref_of (gather same S.nodes (path_of h)) h ≡ suc u
  pub room : width * left ≤ words

-- what a lookup makes of the table (t), answering the ref `at` of the node e and the number of nodes: the state T, if the table
-- is large enough
pub record Made (words : ℕ) (T : State) (e : Corner) (t : List ℕ) (at nodes : ℕ) : Type 0 where
  pub fits : width * length T.nodes ≤ words → (t ≡ table_by words T) × (at ≡ ref_of T.nodes e) × (nodes ≡ length T.nodes)
  pub full : words < width * length T.nodes → at ≡ 0

-- a table that holds a state, with this many nodes in use
pub record Holds (t : List ℕ) (n : ℕ) (S : State) : Type 0 where
  pub sound : Sound S
  pub table : t ≡ table_by (length t) S
  pub count : n ≡ length S.nodes
  pub room : width * n ≤ length t

-- some state
pub record Held (t : List ℕ) (n : ℕ) : Type 0 where
  pub state : State
  pub holds : Holds t n state

-- some state in which node u is the corner c
pub record Stood (t : List ℕ) (n u : ℕ) (c : Corner) : Type 0 where
  pub state : State
  pub holds : Holds t n state
  pub here : ref_of state.nodes c ≡ suc u
  pub below : u < n
