-- The code's stores on a table, as functions on lists: the lookup, the visit, the edge, and the take-back. The lookup is a
-- recursion from each level to the one above it, which the code does by a loop up and a loop down; its first argument bounds how
-- often it goes up, and more than the node's size is enough.
-- Assumes nothing.
use Rattle.std.specs.Prelude.{true, false, List, ℕ, zero, suc, ◌+◌, ◌-◌, ◌%◌, ltb, eqb, length, get_or, set}
use Rattle.grid.specs.declared.Corner.{Corner}
use Rattle.grid.specs.Grid.{same, stepped}
use Rattle.grid.specs.Tree.{parent_of, is_root, child_word}
use Rattle.layout.specs.Table.{records_in, word_at, parent_word, neighbour_word, link_word, visits_word, need_word, first_word, edge_word}

-- the answer: the table, a ref, the number of nodes
pub record Out : Type 0 where
  pub table : List ℕ
  pub at : ℕ
  pub nodes : ℕ

abbrev pub out : List ℕ → ℕ → ℕ → Out
out t a n = record { table = t; at = a; nodes = n }

-- the child in word w of node u, made by step s if it is not there: `child`
abbrev pub child_in : List ℕ → ℕ → ℕ → ℕ → ℕ → Out
child_in t n u w s =
    elim (get_or t (word_at u w) 0) [
      | zero ↦ elim (ltb n (records_in (length t))) [
        | true ↦ out (set (set (set t (word_at u w) (n + 1)) (word_at n parent_word) (u + 1)) (word_at n need_word) s) (n + 1)
            (n + 1)
        | false ↦ out t 0 n
      ]
      | suc k ↦ out t (suc k) n
    ]

-- ---- the lookup
abbrev pub link_in : List ℕ → ℕ → ℕ → ℕ → ℕ → List ℕ
link_in t u v d s =
    set (set (set (set t (word_at u (neighbour_word d)) (v + 1)) (word_at u (link_word d)) s)
    (word_at v (neighbour_word ((d + 2) % 4)))
    (u + 1)) (word_at v (link_word ((d + 2) % 4))) s

-- the node found is linked with u
abbrev pub join_in : Out → ℕ → ℕ → ℕ → Out
join_in v u d s = elim v.at [ zero ↦ v | suc k ↦ out (link_in v.table u k d s) (suc k) v.nodes ]

-- the child e of the node found, linked with u
abbrev pub finish_in : Out → ℕ → Corner → ℕ → ℕ → Out
finish_in o u e d s = elim o.at [ zero ↦ o | suc p ↦ join_in (child_in o.table o.nodes p (child_word e) s) u d s ]

-- the parent of e, the neighbour of c, which is node u; the lookup of the parent's neighbour is its first argument
abbrev pub above_in : (ℕ → Corner → Out) → List ℕ → ℕ → ℕ → Corner → Corner → Out
above_in call t n u c e =
    elim (is_root c) [
      | true ↦ out t (u + 1) n
      | false ↦ elim (same (parent_of c) (parent_of e)) [
        | true ↦ out t (get_or t (word_at u parent_word) 0) n
        | false ↦
            call (get_or t (word_at u parent_word) 0 - 1) (parent_of c)
      ]
    ]

-- the neighbour of node u, which is the corner c, in direction d, by step s: `neighbour`
abbrev pub neighbour_in : ℕ → List ℕ → ℕ → ℕ → Corner → ℕ → ℕ → Out
neighbour_in zero t n u c d s = out t 0 n
neighbour_in (suc f) t n u c d s =
    elim (get_or t (word_at u (neighbour_word d)) 0) [
      | zero ↦ elim (is_root (stepped d c)) [
        | true ↦ out (link_in t u 0 d s) 1 n
        | false ↦ finish_in (above_in (λ v p. neighbour_in f t n v p d s) t n u c (stepped d c)) u (stepped d c) d s
      ]
      | suc k ↦ out t (suc k) n
    ]

-- ---- the visit
abbrev pub visit_in : List ℕ → ℕ → ℕ → List ℕ
visit_in t r k =
    elim (eqb (get_or t (word_at r visits_word) 0) 0) [
      | true ↦ set (set t (word_at r visits_word) (get_or t (word_at r visits_word) 0 + 1)) (word_at r first_word) (k + 1)
      | false ↦ set t (word_at r visits_word) (get_or t (word_at r visits_word) 0 + 1)
    ]

-- a visit taken back
abbrev pub unvisit_in : List ℕ → ℕ → List ℕ
unvisit_in t r =
    elim (eqb (get_or t (word_at r visits_word) 0) 1) [
      | true ↦ set (set t (word_at r visits_word) (get_or t (word_at r visits_word) 0 - 1)) (word_at r first_word) 0
      | false ↦ set t (word_at r visits_word) (get_or t (word_at r visits_word) 0 - 1)
    ]

-- ---- the edge between u and v, which lies in the direction d of u: its count at both ends
abbrev pub edge_in : List ℕ → ℕ → ℕ → ℕ → ℕ → List ℕ
edge_in t u v d x = set (set t (word_at u (edge_word d)) x) (word_at v (edge_word ((d + 2) % 4))) x

-- walked once more, and once less
abbrev pub tread_in : List ℕ → ℕ → ℕ → ℕ → List ℕ
tread_in t u v d = edge_in t u v d (get_or t (word_at u (edge_word d)) 0 + 1)

abbrev pub untread_in : List ℕ → ℕ → ℕ → ℕ → List ℕ
untread_in t u v d = edge_in t u v d (get_or t (word_at u (edge_word d)) 0 - 1)

-- ---- the take-back: the links, and then the nodes
abbrev pub unset_in : List ℕ → ℕ → ℕ → ℕ → List ℕ
unset_in t u v d =
    set (set (set (set t (word_at u (neighbour_word d)) 0) (word_at u (link_word d)) 0) (word_at v (neighbour_word ((d + 2) % 4)))
    0)
    (word_at v (link_word ((d + 2) % 4))) 0
