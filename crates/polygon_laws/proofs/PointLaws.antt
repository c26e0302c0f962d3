-- The points of a ring are the start, each later corner with a turn that is not 0, and the start; each is written exactly.
-- Assumes nothing.
use mathlib.Core.Bool.{Bool, true, false, not, cond}
use mathlib.Core.List.Memᴰ
use mathlib.Core.List.{List, [], ◌∷◌, ◌++◌, Memᴰ}
use mathlib.Core.Logic.{◌↔◌, ⊎_elim}
use mathlib.Core.Path.{◌≡◌, refl, sym, ap, ◌∙◌, subst}
use Prim.Native.Nat.{ℕ, zero, suc, ◌+◌, ◌≤◌, ◌<◌}
use native.Mathlib.Omega.{arith}
use borrow.Author.Tests.{eq-eqb, ne_eqb}
use lib.IntN.{nat_abs}
use lib.ListN.{length, take, get_or, length-take}
use Rattle.answer.specs.Limits.{farthest}
use Rattle.grid.specs.declared.Corner.{Corner}
use Rattle.grid.specs.Grid.{stepped, corner_at}
use Rattle.grid.proofs.BoundLaws.{end_from_bound}
use Rattle.steps.specs.Turns.{turn_of}
use Rattle.polygon.specs.Coordinate.{Exact}
use Rattle.polygon.specs.Polygon.{bends, bends_from, bends_of, points_of}
use Rattle.polygon_laws.specs.Bends.{Drawable}
use Rattle.polygon_laws.specs.Points.{Bend}
use Rattle.polygon_laws.proofs.ValueLaws.{exact}

-- ---- each bend, found by the place of its step: the step a led to c

record From (a : ℕ) (c : Corner) (ds : List ℕ) (p : Corner) : Type 0 where
  place : ℕ
  within : place < length ds
  turns : turn_of (get_or (a ∷ ds) place 0) (get_or ds place 0) ≡ 0 → ⊥
  here : p ≡ corner_at c ds place

bent : (a d : ℕ) → bends a d ≡ true → turn_of a d ≡ 0 → ⊥
bent a d e z = clash (sym e ∙ ap not (eq-eqb (turn_of a d) 0 z))
  where
    clash : true ≡ false → ⊥
    clash q = let z : ◌≡◌ {A = ℕ} 0 1 = cc in omega arith

module _ (a : ℕ) (c : Corner) (d : ℕ) (ds : List ℕ) (p : Corner) where
  first-from : bends a d ≡ true → p ≡ c → From a c (d ∷ ds) p
  first-from e q = record { place = 0; within = omega arith; turns = bent a d e; here = q }

  next-from : From d (stepped d c) ds p → From a c (d ∷ ds) p
  next-from f = record { place = suc f.place; within = omega (arith, f.within); turns = f.turns; here = f.here }

  mem_cons : (b : Bool) → bends a d ≡ b → (Memᴰ p (bends_from d (stepped d c) ds) → From d (stepped d c) ds p) → Memᴰ p (cond b (c ∷ []) [] ++ bends_from d (stepped d c) ds) → From a c (d ∷ ds) p
  mem_cons true e f m = ⊎_elim (λ q. first-from e q) (λ n. next-from (f n)) (Memᴰ.cases_cons m)
  mem_cons false e f m = next-from (f m)

  cons_mem : (b : Bool) → bends a d ≡ b → (From d (stepped d c) ds p → Memᴰ p (bends_from d (stepped d c) ds)) → From a c (d ∷ ds) p → Memᴰ p (cond b (c ∷ []) [] ++ bends_from d (stepped d c) ds)
  cons_mem b e g f = go f.place f.within f.turns f.here b e
    where
      go : (k : ℕ) → k < suc (length ds) → (turn_of (get_or (a ∷ d ∷ ds) k 0) (get_or (d ∷ ds) k 0) ≡ 0 → ⊥) → p ≡ corner_at c (d ∷ ds) k → (b : Bool) → bends a d ≡ b → Memᴰ p (cond b (c ∷ []) [] ++ bends_from d (stepped d c) ds)
      go zero h t q true e = Memᴰ.head q
      go zero h t q false e = absurd (clash (sym e ∙ ap not (ne_eqb (turn_of a d) 0 t)))
        where
          clash : false ≡ true → ⊥
          clash q = let z : ◌≡◌ {A = ℕ} 0 1 = cc in omega arith
      go (suc k) h t q true e = Memᴰ.tail (g (record { place = k; within = omega arith; turns = t; here = q }))
      go (suc k) h t q false e = g (record { place = k; within = omega arith; turns = t; here = q })

mem-from : (a : ℕ) (c : Corner) (ds : List ℕ) (p : Corner) → Memᴰ p (bends_from a c ds) → From a c ds p
mem-from a c [] p m = absurd (Memᴰ.not-nil m)
mem-from a c (d ∷ ds) p m = mem_cons a c d ds p (bends a d) refl (mem-from d (stepped d c) ds p) m

from-mem : (a : ℕ) (c : Corner) (ds : List ℕ) (p : Corner) → From a c ds p → Memᴰ p (bends_from a c ds)
from-mem a c [] p f = absurd (omega (arith, f.within))
from-mem a c (d ∷ ds) p f = cons_mem a c d ds p (bends a d) refl (from-mem d (stepped d c) ds p) f

pub bends_exactly : (s : Corner) (ds : List ℕ) (p : Corner) → Memᴰ p (bends_of s ds) ↔ Bend s ds p
bends_exactly s [] p = (λ m. absurd (Memᴰ.not-nil m), λ b. absurd (omega (arith, b.within)))
bends_exactly s (d ∷ ds) p = (
  λ m. let f = mem-from d (stepped d s) ds p m in record { place = f.place; within = omega (arith, f.within); turns = f.turns; here = f.here },
  λ b. from-mem d (stepped d s) ds p (record { place = b.place; within = omega (arith, b.within); turns = b.turns; here = b.here }),
)

-- ---- each coordinate is within 32,768, so that 600 times it is exact

near-at : (s : Corner) (ds : List ℕ) (k : ℕ) → (nat_abs (corner_at s ds k).0 ≤ nat_abs s.0 + length ds) × (nat_abs (corner_at s ds k).1 ≤ nat_abs s.1 + length ds)
near-at s ds k = let h = end_from_bound (take k ds) s in (omega (arith, h.0, length-take k ds), omega (arith, h.1, length-take k ds))

near_exact : (p : Corner) → nat_abs p.0 ≤ farthest → nat_abs p.1 ≤ farthest → Exact p
near_exact p h k = (exact p.0 h, exact p.1 k)

pub points_exact : (s : Corner) (ds : List ℕ) → Drawable s ds → (p : Corner) → Memᴰ p (points_of s ds) → Exact p
points_exact s ds w p m = ⊎_elim at-start (λ n. ⊎_elim at_bend (λ k. at-start (Memᴰ.eq_of_singleton k)) (Memᴰ.append_cases (bends_of s ds) n)) (Memᴰ.cases_cons m)
  where
    at-start : p ≡ s → Exact p
    at-start e = subst Exact (sym e) (near_exact s (omega (arith, w.near_x)) (omega (arith, w.near_y)))

    at_bend : Memᴰ p (bends_of s ds) → Exact p
    at_bend n =
        let b = (bends_exactly s ds p).0 n in
        let h = near-at s ds (suc b.place) in
        subst Exact (sym b.here) (near_exact (corner_at s ds (suc b.place)) (omega (arith, h.0, w.near_x, w.few)) (omega (arith, h.1, w.near_y, w.few)))
