-- How often the edges were walked: which steps are counted, one count for both ends, and no step left out.
-- Assumes nothing.
use mathlib.Core.Bool.{Bool, true, false}
use mathlib.Core.List.{List, [], ◌∷◌, Memᴰ}
use mathlib.Core.Logic.{◌⊎◌, inl, inr, ⊎_elim}
use mathlib.Core.Path.{◌≡◌, refl, ap, ap₂, sym, ◌∙◌, subst}
use Prim.Native.Nat.{ℕ, zero, suc, ◌+◌, ◌<◌}
use native.Mathlib.Omega.{arith}
use lib.IntN.{ℤ, pos, ◌+ℤ◌, pos-+ℤ-pos}
use lib.ListN.{length, get_or}
use Rattle.grid.specs.declared.Corner.{Corner}
use Rattle.grid.specs.Grid.{origin, stepped, corners_from, legs_of, joins, back}
use Rattle.layout.specs.Table.{edges_of}
use Rattle.lists.specs.Lists.{count, tally, sum_of, Distinct, Below}
use Rattle.tree.specs.Nodes.{nodes_of}
use Rattle.grid.proofs.StepLaws.{stepped-back}
use Rattle.lists.proofs.CountLaws.{count_cong, count_some, count-mem}
use Rattle.lists.proofs.DistinctLaws.{mem_get_d}
use Rattle.lists.proofs.FindLaws.{any-mem}
use Rattle.lists.proofs.ZipLaws.{zip-within, zip-at, any_at}
use Rattle.grid.proofs.JoinLaws.{joins_here, joins-there, joins_flip, joins-stepped}
use Rattle.tree.proofs.NodeLaws.{nodes_of_distinct}
use Rattle.tree_laws.proofs.PushLaws.{leg_nodes, length_legs, leg_step}

-- both ends of an edge have one count
pub edge_both-ends : (ps : List Corner) (a : Corner) (d : ℕ) → edges_of ps a d ≡ edges_of ps (stepped d a) (back d)
edge_both-ends ps a d =
    count_cong (joins a (stepped d a)) (joins (stepped d a) a) (legs_of ps) (λ l m. joins_flip a (stepped d a) l)
    ∙ ap (λ (b : Corner). count (joins (stepped d a) b) (legs_of ps)) (sym (stepped-back d a))

-- it is above 0 exactly when some step has these two ends, in either order
abbrev nowhere : Corner × Corner
nowhere = (origin, origin)

pub edge_some : (ps : List Corner) (a b : Corner) → 0 < count (joins a b) (legs_of ps) → (k : ℕ) × (suc k < length ps) × (joins a b (get_or ps k origin, get_or ps (suc k) origin) ≡ true)
edge_some [] a b h = absurd (omega arith)
edge_some (p ∷ ps) a b h =
    let s = count_some (joins a b) (legs_of (p ∷ ps)) h in
    let g = any_at (joins a b) (legs_of (p ∷ ps)) nowhere (any-mem (joins a b) s.0 (legs_of (p ∷ ps)) s.1 s.2) in
    let w = zip-within (p ∷ ps) ps g.0 g.1 in
    (g.0, omega (arith, w.1), subst (λ (l : Corner × Corner). joins a b l ≡ true) (zip-at (p ∷ ps) ps g.0 origin w.0 w.1).1 g.2)

pub edge_there : (ps : List Corner) (a b : Corner) (k : ℕ) → suc k < length ps → joins a b (get_or ps k origin, get_or ps (suc k) origin) ≡ true → 0 < count (joins a b) (legs_of ps)
edge_there [] a b k h e = absurd (omega arith)
edge_there (p ∷ ps) a b k h e =
    let z = zip-at (p ∷ ps) ps k origin (omega arith) (omega arith) in
    count-mem (joins a b) (legs_of (p ∷ ps)) (get_or (legs_of (p ∷ ps)) k nowhere) (mem_get_d (legs_of (p ∷ ps)) k nowhere z.0) (subst (λ (l : Corner × Corner). joins a b l ≡ true) (sym z.1) e)

-- ---- the sum over the nodes of what stands east and north of them is the number of steps
abbrev total : (Corner → ℕ) → List Corner → ℕ
total f [] = 0
total f (x ∷ l) = f x + total f l

sum-total : (f : Corner → ℕ) (l : List Corner) → sum_of (λ a. pos (f a)) l ≡ pos (total f l)
sum-total f [] = refl
sum-total f (x ∷ l) = ap (λ (z : ℤ). pos (f x) +ℤ z) (sum-total f l) ∙ pos-+ℤ-pos (f x) (total f l)

total_zero : (f : Corner → ℕ) (l : List Corner) → ((a : Corner) → Memᴰ a l → f a ≡ 0) → total f l ≡ 0
total_zero f [] h = refl
total_zero f (x ∷ l) h = omega (arith, h x (mathlib.Core.List.Memᴰ.head refl), total_zero f l (λ a m. h a (mathlib.Core.List.Memᴰ.tail m)))

total-one : (f : Corner → ℕ) (l : List Corner) (z : Corner) → Distinct l → Memᴰ z l → f z ≡ 1 → ((a : Corner) → (a ≡ z → ⊥) → f a ≡ 0) → total f l ≡ 1
total-one f [] z d m p h = absurd (mathlib.Core.List.Memᴰ.not-nil m)
total-one f (x ∷ l) z d m p h =
    ⊎_elim
    (λ e. omega (arith, ap f (sym e) ∙ p, total_zero f l (λ a k. h a (λ q. d.0 (mathlib.Core.List.Memᴰ.cast (sym (q ∙ e)) k)))))
    (λ k. omega (arith, h x (λ e. d.0 (mathlib.Core.List.Memᴰ.cast e k)), total-one f l z d.1 k p h))
    (mathlib.Core.List.Memᴰ.cases_cons m)

total-plus : (f g h : Corner → ℕ) (l : List Corner) → ((a : Corner) → f a ≡ g a + h a) → total f l ≡ total g l + total h l
total-plus f g h [] e = refl
total-plus f g h (x ∷ l) e = omega (arith, e x, total-plus f g h l e)

-- what one step adds to the words east and north of a
abbrev share : Corner × Corner → Corner → ℕ
share l a = tally (joins a (stepped 0 a) l) + tally (joins a (stepped 1 a) l)

module _ (p : Corner) (d : ℕ) (small : d < 4) where
  none : (k : ℕ) (a : Corner) → k < 4 → ((a ≡ p) × (k ≡ d) → ⊥) → ((a ≡ stepped d p) × (k ≡ back d) → ⊥) → tally (joins a (stepped k a) (p, stepped d p)) ≡ 0
  none k a h f g = go (joins a (stepped k a) (p, stepped d p)) refl
    where
      go : (b : Bool) → joins a (stepped k a) (p, stepped d p) ≡ b → tally (joins a (stepped k a) (p, stepped d p)) ≡ 0
      go true e = absurd (⊎_elim f g (joins-stepped k d a p h small e))
      go false e = rw e

  here : tally (joins p (stepped d p) (p, stepped d p)) ≡ 1
  here = ap tally (joins_here p (stepped d p))

  there : tally (joins (stepped d p) (stepped (back d) (stepped d p)) (p, stepped d p)) ≡ 1
  there = ap (λ (b : Corner). tally (joins (stepped d p) b (p, stepped d p))) (stepped-back d p) ∙ ap tally (joins-there p (stepped d p))

-- the one node whose words count the step: that in the west or in the south
share-one : (p : Corner) (d : ℕ) → d < 4 → (z : Corner) × ((z ≡ p) ⊎ (z ≡ stepped d p)) × (share (p, stepped d p) z ≡ 1) × ((a : Corner) → (a ≡ z → ⊥) → share (p, stepped d p) a ≡ 0)
share-one p zero h = (p, inl refl, omega (arith, here p 0 h, none p 0 h 1 p (omega arith) (λ q. omega (arith, q.1)) (λ q. omega (arith, q.1))), λ a f. omega (arith, none p 0 h 0 a (omega arith) (λ q. f q.0) (λ q. omega (arith, q.1)), none p 0 h 1 a (omega arith) (λ q. omega (arith, q.1)) (λ q. omega (arith, q.1))))
share-one p (suc zero) h = (p, inl refl, omega (arith, here p 1 h, none p 1 h 0 p (omega arith) (λ q. omega (arith, q.1)) (λ q. omega (arith, q.1))), λ a f. omega (arith, none p 1 h 1 a (omega arith) (λ q. f q.0) (λ q. omega (arith, q.1)), none p 1 h 0 a (omega arith) (λ q. omega (arith, q.1)) (λ q. omega (arith, q.1))))
share-one p (suc (suc zero)) h = (stepped 2 p, inr refl, omega (arith, there p 2 h, none p 2 h 1 (stepped 2 p) (omega arith) (λ q. omega (arith, q.1)) (λ q. omega (arith, q.1))), λ a f. omega (arith, none p 2 h 0 a (omega arith) (λ q. omega (arith, q.1)) (λ q. f q.0), none p 2 h 1 a (omega arith) (λ q. omega (arith, q.1)) (λ q. omega (arith, q.1))))
share-one p (suc (suc (suc zero))) h = (stepped 3 p, inr refl, omega (arith, there p 3 h, none p 3 h 0 (stepped 3 p) (omega arith) (λ q. omega (arith, q.1)) (λ q. omega (arith, q.1))), λ a f. omega (arith, none p 3 h 1 a (omega arith) (λ q. omega (arith, q.1)) (λ q. f q.0), none p 3 h 0 a (omega arith) (λ q. omega (arith, q.1)) (λ q. omega (arith, q.1))))
share-one p (suc (suc (suc (suc d)))) h = absurd (omega arith)

-- steps, each from some corner in some direction, with their ends among the nodes
abbrev IsLeg : List Corner → Corner × Corner → Type 0
IsLeg ns l = (d : ℕ) × (d < 4) × (l.1 ≡ stepped d l.0) × Memᴰ l.0 ns × Memᴰ l.1 ns

all_counted : (ns : List Corner) → Distinct ns → (ls : List (Corner × Corner)) → ((l : Corner × Corner) → Memᴰ l ls → IsLeg ns l)
    → total (λ a. count (joins a (stepped 0 a)) ls + count (joins a (stepped 1 a)) ls) ns ≡ length ls
all_counted ns d [] h = total_zero (λ a. 0) ns (λ a m. refl)
all_counted ns d (l ∷ ls) h =
    let w = h l (mathlib.Core.List.Memᴰ.head refl) in
    let s = share-one l.0 w.0 w.1 in
    let e : (l.0, stepped w.0 l.0) ≡ l = ap (λ (b : Corner). (l.0, b)) (sym w.2) in
    let m : Memᴰ s.0 ns = ⊎_elim (λ q. mathlib.Core.List.Memᴰ.cast q w.3) (λ q. mathlib.Core.List.Memᴰ.cast (q ∙ sym w.2) w.4) s.1 in
    let one : total (share l) ns ≡ 1 = subst (λ (k : Corner × Corner). total (share k) ns ≡ 1) e (total-one (share (l.0, stepped w.0 l.0)) ns s.0 d m s.2 s.3) in
    total-plus (λ a. count (joins a (stepped 0 a)) (l ∷ ls) + count (joins a (stepped 1 a)) (l ∷ ls)) (share l) (λ a. count (joins a (stepped 0 a)) ls + count (joins a (stepped 1 a)) ls) ns (λ a. omega arith)
    ∙ ap₂ ◌+◌ one (all_counted ns d ls (λ k i. h k (mathlib.Core.List.Memᴰ.tail i)))
    ∙ omega arith

pub edges_all : (c : Corner) (ds : List ℕ) → Below 4 ds → sum_of (λ a. pos (edges_of (corners_from c ds) a 0 + edges_of (corners_from c ds) a 1)) (nodes_of (corners_from c ds)) ≡ pos (length ds)
edges_all c ds b =
    sum-total (λ a. edges_of ps a 0 + edges_of ps a 1) (nodes_of ps)
    ∙ ap pos (all_counted (nodes_of ps) (nodes_of_distinct ps) (legs_of ps) (λ l m. let k = leg_step c ds b l m in let n = leg_nodes c ds l m in (k.0, k.1, k.2, n.0, n.1)) ∙ length_legs c ds)
  where
    ps : List Corner
    ps = corners_from c ds
