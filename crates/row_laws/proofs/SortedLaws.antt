-- The rows of a room: its lower ends, sorted in whatever way, are all different, and their pairs are the rows, half as many as there are edges.
-- Assumes nothing.
use mathlib.Core.Bool.{Bool, true, false, cond}
use mathlib.Core.List.Memᴰ
use mathlib.Core.List.{List, [], ◌∷◌, Memᴰ, map}
use mathlib.Core.Logic.{◌⊎◌, inl, inr, ⊎_elim}
use mathlib.Core.Path.{◌≡◌, refl, ap, ap₂, sym, ◌∙◌, subst}
use Prim.Native.Nat.{ℕ, zero, suc, ◌+◌, ◌*◌, ◌%◌, ◌<◌, ◌≤◌}
use native.Mathlib.Omega.{arith}
use lib.ListN.{length}
use Rattle.int_laws.proofs.LinearLaws.{zarith, le_or_lt}
use Rattle.lists.specs.Lists.{tally, count, Distinct, Below}
use Rattle.std.specs.Prelude.{eqb}
use Rattle.grid.specs.declared.Corner.{Corner}
use Rattle.grid.specs.Grid.{corner, same, stepped}
use Rattle.grid.proofs.{CornerLaws.same_sound, CornerLaws.same_refl}
use Rattle.trace.specs.Verdict.{IsRoom}
use Rattle.panels.specs.{Edges.Edge, Edges.edges_from, Inside.Inside}
use Rattle.row.specs.Rows.{RowsIs}
use Rattle.area_laws.proofs.EvenLaws.{row_even}
use Rattle.row_laws.specs.Feet.{ahead, toggle, feet_of, pairs_of, rows_of}
use Rattle.row_laws.proofs.{FootLaws.feet_in_turn, FootLaws.feet_parity, PairLaws.on_row, PairLaws.turn_up-to, PairLaws.pairs_length, RoomLaws.feet_from, RoomLaws.count_feet, RoomLaws.room_feet, FootLaws.Ahead, FootLaws.UpTo, FootLaws.Climbs, FootLaws.InTurn, RowLaws.sorted_rows}

-- as many of each kind: no element twice here, none twice there
count-mem : (q : Corner) (l : List Corner) → 0 < count (same q) l → Memᴰ q l
count-mem q [] h = absurd (omega arith)
count-mem q (x ∷ l) h = by (same q x) refl (λ k. count-mem q l k)
  where
    by : (b : Bool) → same q x ≡ b → (0 < count (same q) l → Memᴰ q l) → Memᴰ q (x ∷ l)
    by true e ih = Memᴰ.head (same_sound q x e)
    by false e ih = Memᴰ.tail (ih (omega (arith, h, ap tally e)))

mem-count : (q : Corner) (l : List Corner) → Memᴰ q l → 0 < count (same q) l
mem-count q [] m = elim m [ ]
mem-count q (x ∷ l) (Memᴰ.head e) = omega (arith, ap tally (ap (same q) (sym e) ∙ same_refl q))
mem-count q (x ∷ l) (Memᴰ.tail m) = omega (arith, mem-count q l m)

distinct_once : (l : List Corner) (q : Corner) → Distinct l → count (same q) l ≤ 1
distinct_once [] q h = omega arith
distinct_once (x ∷ l) q h = by (same q x) refl (count (same q) l) refl (distinct_once l q h.1)
  where
    by : (b : Bool) → same q x ≡ b → (n : ℕ) → count (same q) l ≡ n → n ≤ 1 → tally b + n ≤ 1
    by true e zero f ih = omega arith
    by true e (suc n) f ih = absurd (h.0 (Memᴰ.cast (sym (same_sound q x e)) (count-mem q l (omega (arith, f)))))
    by false e n f ih = omega arith

once_distinct : (l : List Corner) → ((q : Corner) → count (same q) l ≤ 1) → Distinct l
once_distinct [] h = tt
once_distinct (x ∷ l) h = ((λ m. omega (arith, h x, mem-count x l m, ap tally (same_refl x))), once_distinct l (λ q. omega (arith, h q)))

climbs_ahead : (p : Corner) (qs : List Corner) → Climbs UpTo p qs → Distinct (p ∷ qs) → Climbs Ahead p qs
climbs_ahead p [] g h = tt
climbs_ahead p (q ∷ qs) g h = (by g.0, climbs_ahead q qs g.1 h.1)
  where
    by : UpTo p q → Ahead p q
    by (inl k) = inl k
    by (inr k) = ⊎_elim (λ f. absurd (h.0 (Memᴰ.head (ap₂ corner (omega (zarith, f, k.1)) k.0)))) (λ f. inr (k.0, f)) (le_or_lt q.0 p.0)

turn_ahead : (qs : List Corner) → InTurn UpTo qs → Distinct qs → InTurn Ahead qs
turn_ahead [] g h = tt
turn_ahead (q ∷ qs) g h = climbs_ahead q qs g h

-- sort the lower ends of a room's vertical edges by row and then by x, in whatever way, and pair them: that is its list of rows
pub room-rows : (c : Corner) (ds : List ℕ) (qs : List Corner) → IsRoom c ds → InTurn UpTo qs → ((t : Corner → Bool) → count t qs ≡ count t (feet_from c ds)) → RowsIs (Inside c ds) (pairs_of qs)
room-rows c ds qs r g m = sorted_rows c ds qs r.closed (turn_ahead qs g (once_distinct qs once)) (λ t. ap (λ (n : ℕ). n % 2) (m t ∙ count_feet t c ds))
  where
    once : (q : Corner) → count (same q) qs ≤ 1
    once q = omega (arith, m (same q), distinct_once (feet_from c ds) q (room_feet c ds r))

-- nothing cancels if all are different
toggle-mem : (p q : Corner) (qs : List Corner) → Memᴰ q (toggle p qs) → (q ≡ p) ⊎ Memᴰ q qs
toggle-mem p q [] m = inl (Memᴰ.eq_of_singleton m)
toggle-mem p q (r ∷ qs) m = by (ahead p r) (same p r) (toggle-mem p q qs) m
  where
    by : (x y : Bool) → (Memᴰ q (toggle p qs) → (q ≡ p) ⊎ Memᴰ q qs) → Memᴰ q (cond x (p ∷ r ∷ qs) (cond y qs (r ∷ toggle p qs))) → (q ≡ p) ⊎ Memᴰ q (r ∷ qs)
    by true y ih n = Memᴰ.cases_cons n
    by false true ih n = inr (Memᴰ.tail n)
    by false false ih n = ⊎_elim (λ e. inr (Memᴰ.head e)) (λ k. ⊎_elim inl (λ l. inr (Memᴰ.tail l)) (ih k)) (Memᴰ.cases_cons n)

toggle-count : (t : Corner → Bool) (p : Corner) (qs : List Corner) → (Memᴰ p qs → ⊥) → count t (toggle p qs) ≡ tally (t p) + count t qs
toggle-count t p [] f = refl
toggle-count t p (r ∷ qs) f = by (ahead p r) (same p r) refl (toggle-count t p qs (λ m. f (Memᴰ.tail m)))
  where
    by : (x y : Bool) → same p r ≡ y → count t (toggle p qs) ≡ tally (t p) + count t qs → count t (cond x (p ∷ r ∷ qs) (cond y qs (r ∷ toggle p qs))) ≡ tally (t p) + (tally (t r) + count t qs)
    by true y e ih = refl
    by false true e ih = absurd (f (Memᴰ.head (same_sound p r e)))
    by false false e ih = omega (arith, ih)

abbrev foots : List Edge → List Corner
foots es = map (λ e. e.foot) es

feet_mem : (es : List Edge) (q : Corner) → Memᴰ q (feet_of es) → Memᴰ q (foots es)
feet_mem [] q m = m
feet_mem (e ∷ es) q m = ⊎_elim (λ k. Memᴰ.head k) (λ k. Memᴰ.tail (feet_mem es q k)) (toggle-mem e.foot q (feet_of es) m)

feet_count : (t : Corner → Bool) (es : List Edge) → Distinct (foots es) → count t (feet_of es) ≡ count t (foots es)
feet_count t [] d = refl
feet_count t (e ∷ es) d = omega (arith, toggle-count t e.foot (feet_of es) (λ m. d.0 (feet_mem es e.foot m)), feet_count t es d.1)

foots_feet : (c : Corner) (ds : List ℕ) → foots (edges_from c ds) ≡ feet_from c ds
foots_feet c [] = refl
foots_feet c (zero ∷ ds) = foots_feet (stepped 0 c) ds
foots_feet c (suc zero ∷ ds) = ap (λ (l : List Corner). c ∷ l) (foots_feet (stepped 1 c) ds)
foots_feet c (suc (suc zero) ∷ ds) = foots_feet (stepped 2 c) ds
foots_feet c (suc (suc (suc d)) ∷ ds) = ap (λ (l : List Corner). stepped 3 c ∷ l) (foots_feet (stepped 3 c) ds)

-- so of a room the sorted list has every lower end
pub room-all : (t : Corner → Bool) (c : Corner) (ds : List ℕ) → IsRoom c ds → count t (feet_of (edges_from c ds)) ≡ count t (feet_from c ds)
room-all t c ds r =
    let e = foots_feet c ds in
    feet_count t (edges_from c ds) (subst (λ (l : List Corner). Distinct l) (sym e) (room_feet c ds r)) ∙ ap (count t) e

pub room-count : (c : Corner) (ds : List ℕ) → IsRoom c ds → 2 * length (rows_of c ds) ≡ length (feet_from c ds)
room-count c ds r =
    let es = edges_from c ds in
    omega (arith, pairs_length (feet_of es) (turn_up-to (feet_of es) (feet_in_turn es)) (λ b. feet_parity (on_row b) es ∙ row_even b c ds r.closed), length-count (feet_of es), length-count (feet_from c ds), room-all (λ q. true) c ds r)
  where
    length-count : (l : List Corner) → count (λ q. true) l ≡ length l
    length-count [] = refl
    length-count (x ∷ l) = omega (arith, length-count l)

-- as many edges as steps north and south
length_feet : (c : Corner) (ds : List ℕ) → Below 4 ds → length (feet_from c ds) ≡ count (λ d. eqb (d % 2) 1) ds
length_feet c [] b = refl
length_feet c (zero ∷ ds) b = omega (arith, length_feet (stepped 0 c) ds b.1)
length_feet c (suc zero ∷ ds) b = omega (arith, length_feet (stepped 1 c) ds b.1)
length_feet c (suc (suc zero) ∷ ds) b = omega (arith, length_feet (stepped 2 c) ds b.1)
length_feet c (suc (suc (suc zero)) ∷ ds) b = omega (arith, length_feet (stepped 3 c) ds b.1)
length_feet c (suc (suc (suc (suc d))) ∷ ds) b = absurd (omega (arith, b.0))

-- so there are half as many spans as steps north and south
pub room_half : (c : Corner) (ds : List ℕ) → IsRoom c ds → Below 4 ds → 2 * length (rows_of c ds) ≡ count (λ d. eqb (d % 2) 1) ds
room_half c ds r b = room-count c ds r ∙ length_feet c ds b
