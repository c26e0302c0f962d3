-- The bends of a walk, counted and laid down one after the other.
-- Assumes nothing.
use mathlib.Core.Path.{◌≡◌, refl, sym, ap, ap₂, ◌∙◌, subst}
use mathlib.Core.Bool.{Bool, true, false, not, cond}
use mathlib.Core.List.{List, [], ◌∷◌, ◌++◌, append-nil}
use Prim.Native.Nat.{ℕ, suc, ◌+◌, ◌-◌, ◌*◌, ◌%◌, ◌≤◌, ◌<◌}
use native.Mathlib.Omega.{arith}
use native.Mathlib.Numerals.{add-one}
use borrow.Author.Tests.{eq-eqb, ne_eqb}
use native.Mathlib.Decide.{ℕ_discrete}
use lib.Dec.{eqb}
use lib.IntN.{nat_abs}
use lib.ListN.{length, take, drop, get_or, length-append, length-drop, length-take, take-append-drop, drop_of_length-le}
use lib.Seq.{drop-cons}
use Rattle.answer.specs.Limits.{most_start}
use Rattle.lists.specs.Lists.{tally, Below}
use Rattle.lists.proofs.BelowLaws.{below_get_d}
use Rattle.lists.proofs.BoolLaws.{tally_le}
use Rattle.steps.specs.Turns.{turn_of}
use Rattle.grid.specs.declared.Corner.{Corner}
use Rattle.grid.specs.Grid.{stepped}
use Rattle.grid.proofs.BoundLaws.{stepped_bound}
use Rattle.polygon.specs.Polygon.{point_bytes, points_bytes, bends, bend_at, bends_from, bends_of, points_of}
use Rattle.polygon_laws.specs.Bends.{Drawable, turning_from, turning, bytes_if, point_laid}
use Rattle.polygon_laws.proofs.BytesLaws.{Laying, laying_first, laying_more, laying_last, over, over-lent, length-point_bytes, points_bytes-append}

-- ---- how many there are

pub straight_on : (d : ℕ) → d < 4 → bends d d ≡ false
straight_on d h = ap not (eq-eqb (turn_of d d) 0 (same d h))
  where
    same : (d : ℕ) → d < 4 → (d + (4 - d)) % 4 ≡ 0
    same d h = omega arith

-- a turn is not 0 exactly if the two steps differ
pub bends-differ : (a d : ℕ) → a < 4 → d < 4 → not (eqb a d) ≡ bends a d
bends-differ a d h g = elim (ℕ_discrete a d) [
  | yes e ↦ ap not (eq-eqb a d e ∙ sym (eq-eqb (turn_of a d) 0 (same a d h e)))
  | no f ↦ ap not (ne_eqb a d f ∙ sym (ne_eqb (turn_of a d) 0 (λ z. f (other a d h g z))))
]
  where
    same : (a d : ℕ) → a < 4 → a ≡ d → (d + (4 - a)) % 4 ≡ 0
    same a d h e = omega arith

    other : (a d : ℕ) → a < 4 → d < 4 → (d + (4 - a)) % 4 ≡ 0 → a ≡ d
    other a d h g z = omega arith

bends_of-from : (s : Corner) (ds : List ℕ) → Below 4 ds → bends_from (get_or ds 0 0) s ds ≡ bends_of s ds
bends_of-from s [] b = refl
bends_of-from s (d ∷ ds) b = ap (λ (t : Bool). cond t (s ∷ []) [] ++ bends_from d (stepped d s) ds) (straight_on d b.0)

length-bend_at : (t : Bool) (c : Corner) → length (cond t (c ∷ []) []) ≡ tally t
length-bend_at true c = refl
length-bend_at false c = refl

length-bends_from : (a : ℕ) (c : Corner) (ds : List ℕ) → length (bends_from a c ds) ≡ turning_from a ds
length-bends_from a c [] = refl
length-bends_from a c (d ∷ ds) =
    length-append (bend_at a d c) (bends_from d (stepped d c) ds) ∙ ap₂ (λ (m n : ℕ). m + n) (length-bend_at (bends a d) c) (length-bends_from d (stepped d c) ds)

pub length-bends_of : (s : Corner) (ds : List ℕ) → Below 4 ds → length (bends_of s ds) ≡ turning ds
length-bends_of s ds b = ap length (sym (bends_of-from s ds b)) ∙ length-bends_from (get_or ds 0 0) s ds

pub length-points_of : (s : Corner) (ds : List ℕ) → Below 4 ds → length (points_of s ds) ≡ turning ds + 2
length-points_of s ds b = ap suc (length-append (bends_of s ds) (s ∷ [])) ∙ more (length (bends_of s ds)) (turning ds) (length-bends_of s ds b)
  where
    more : (a b : ℕ) → a ≡ b → suc (a + 1) ≡ b + 2
    more a b e = omega arith

turning_from_le : (a : ℕ) (ds : List ℕ) → turning_from a ds ≤ length ds
turning_from_le a [] = omega arith
turning_from_le a (d ∷ ds) = more (bends a d) (turning_from d ds) (length ds) (turning_from_le d ds)
  where
    more : (t : Bool) (m n : ℕ) → m ≤ n → tally t + m ≤ suc n
    more true m n h = omega arith
    more false m n h = omega arith

pub turning_le : (ds : List ℕ) → turning ds ≤ length ds
turning_le ds = turning_from_le (get_or ds 0 0) ds

-- the first step makes no turn
pub turning-less : (ds : List ℕ) → Below 4 ds → 0 < length ds → turning ds < length ds
turning-less [] b h = omega arith
turning-less (d ∷ ds) b h = omega (arith, ap (λ (t : Bool). tally t + turning_from d ds) (straight_on d b.0), turning_from_le d ds)

turning-next : (a i : ℕ) (ds : List ℕ) → i < length ds → turning_from a (drop i ds) ≡ tally (bends a (get_or ds i 0)) + turning_from (get_or ds i 0) (drop (i + 1) ds)
turning-next a i ds h = rw add-one (ap (turning_from a) (drop-cons ds i 0 h))

-- ---- one after the other: what is laid down, and what is left, give the whole

bytes-at : (b : Bool) (c : Corner) → points_bytes (cond b (c ∷ []) []) ≡ bytes_if b c
unfolding points_bytes
bytes-at true c = append-nil (point_bytes c)
bytes-at false c = refl

length-bytes_if : (b : Bool) (c : Corner) → length (bytes_if b c) ≡ 16 * tally b
length-bytes_if true c = length-point_bytes c
length-bytes_if false c = refl

place : (k t n : ℕ) → n ≡ 16 * t → 16 * (k + t) ≡ 16 * k + n
place k t n e = omega arith

pub record Bent (l : List ℕ) (s : Corner) (ds out : List ℕ) (at : Corner) (last k i : ℕ) : Type 0 where
  pub laid : Laying l (points_bytes (bends_from (get_or ds 0 0) s ds)) (points_bytes (bends_from last at (drop i ds))) out (16 * k)
  pub number : turning ds ≡ k + turning_from last (drop i ds)
  pub near_x : nat_abs at.0 ≤ most_start + i
  pub near_y : nat_abs at.1 ≤ most_start + i
  pub small : last < 4
  pub within : i ≤ length ds

below_first : (ds : List ℕ) → Below 4 ds → get_or ds 0 0 < 4
below_first [] b = omega arith
below_first (d ∷ ds) b = b.0

pub bent_first : (l : List ℕ) (s : Corner) (ds : List ℕ) (last : ℕ) → Drawable s ds → last ≡ get_or ds 0 0 → Bent l s ds l s last 0 0
bent_first l s ds last p e = record {
  laid = laying_first (points_bytes (bends_from last s ds)) (ap (λ (a : ℕ). points_bytes (bends_from a s ds)) (sym e));
  number = ap (λ (a : ℕ). turning_from a ds) (sym e) ∙ start (turning_from last ds);
  near_x = omega (arith, p.near_x);
  near_y = omega (arith, p.near_y);
  small = subst (λ (a : ℕ). a < 4) (sym e) (below_first ds p.digits);
  within = omega arith;
}
  where
    start : (n : ℕ) → n ≡ 0 + n
    start n = omega arith

-- point k laid down is its bytes laid over their place
laid_over : (out : List ℕ) (k : ℕ) (b : Bool) (c : Corner) → point_laid out k b c ≡ over out (16 * k) (bytes_if b c)
laid_over out k b c = ap (λ (n : ℕ). take (16 * k) out ++ bytes_if b c ++ drop n out) (place k (tally b) (length (bytes_if b c)) (length-bytes_if b c))

-- the bends that are left fit into the space that is left
pub bent_room : (l : List ℕ) (s : Corner) (ds out : List ℕ) (at : Corner) (last k i : ℕ) → 16 * turning ds ≤ length l → i < length ds → Bent l s ds out at last k i
    → 16 * (k + tally (bends last (get_or ds i 0))) ≤ length out
bent_room l s ds out at last k i fit h p =
    sum (turning ds) (turning_from last (drop i ds)) (tally (bends last (get_or ds i 0))) (turning_from (get_or ds i 0) (drop (i + 1) ds)) (length l) (length out) fit p.laid.same p.number (turning-next last i ds h)
  where
    sum : (n m t r a b : ℕ) → 16 * n ≤ a → b ≡ a → n ≡ k + m → m ≡ t + r → 16 * (k + t) ≤ b
    sum n m t r a b f g u v = omega arith

bent_step : (l : List ℕ) (s : Corner) (ds out after : List ℕ) (at : Corner) (last k r i : ℕ) → 16 * turning ds ≤ length l → Below 4 ds → i < length ds
    → r ≡ k + tally (bends last (get_or ds i 0)) → after ≡ point_laid out k (bends last (get_or ds i 0)) at
    → Bent l s ds out at last k i → Bent l s ds after (stepped (get_or ds i 0) at) (get_or ds i 0) r (i + 1)
bent_step l s ds out after at last k r i fit b h u v p =
    let d = get_or ds i 0 in
    let t = bends last d in
    let room : 16 * (k + tally t) ≤ length out = bent_room l s ds out at last k i fit h p in
    let size : 16 * (k + tally t) ≡ 16 * k + length (bytes_if t at) = place k (tally t) (length (bytes_if t at)) (length-bytes_if t at) in
    let near = stepped_bound d at in
    let rest = bends_from d (stepped d at) (drop (i + 1) ds) in
    let left : points_bytes (bends_from last at (drop i ds)) ≡ bytes_if t at ++ points_bytes rest =
    ap (λ (z : List ℕ). points_bytes (bends_from last at z)) (drop-cons ds i 0 h)
    ∙ ap (λ (m : ℕ). points_bytes (bend_at last d at ++ bends_from d (stepped d at) (drop m ds))) (sym (add-one i))
    ∙ points_bytes-append (bend_at last d at) rest
    ∙ ap (λ (z : List ℕ). z ++ points_bytes rest) (bytes-at t at) in
    record {
      laid = laying_more (bytes_if t at) (points_bytes rest) after (16 * r) left (subst (λ (n : ℕ). n ≤ length out) size room) (v ∙ laid_over out k t at) (ap (λ (m : ℕ). 16 * m) u ∙ size) p.laid;
      number = p.number ∙ sum k (turning_from last (drop i ds)) (tally t) (turning_from d (drop (i + 1) ds)) (turning-next last i ds h) ∙ ap (λ (m : ℕ). m + turning_from d (drop (i + 1) ds)) (sym u);
      near_x = omega (arith, near.0, p.near_x);
      near_y = omega (arith, near.1, p.near_y);
      small = below_get_d 4 ds i b h;
      within = omega arith;
    }
  where
    sum : (k m t r : ℕ) → m ≡ t + r → k + m ≡ k + t + r
    sum k m t r e = omega arith

pub bent_more : (l : List ℕ) (s : Corner) (ds out after : List ℕ) (at : Corner) (last k r i : ℕ) → 16 * turning ds ≤ length l → Below 4 ds → i < length ds
    → r ≡ k + tally (bends last (get_or ds i 0)) → after ≡ point_laid out k (bends last (get_or ds i 0)) at
    → (next : Corner) → next ≡ stepped (get_or ds i 0) at
    → Bent l s ds out at last k i → Bent l s ds after next (get_or ds i 0) r (i + 1)
bent_more l s ds out after at last k r i fit b h u v next m p = subst (λ (e : Corner). Bent l s ds after e (get_or ds i 0) r (i + 1)) (sym m) (bent_step l s ds out after at last k r i fit b h u v p)

pub bent_last : (l : List ℕ) (s : Corner) (ds out : List ℕ) (at : Corner) (last k i : ℕ) → Below 4 ds → length ds ≤ i → Bent l s ds out at last k i
    → (k ≡ turning ds) × (out ≡ points_bytes (bends_of s ds) ++ drop (16 * turning ds) l)
unfolding points_bytes
bent_last l s ds out at last k i b h p =
    let none : drop i ds ≡ [] = drop_of_length-le ds h in
    let e : turning ds ≡ k = p.number ∙ ap (λ (z : List ℕ). k + turning_from last z) none ∙ plain k in (
      sym e,
      laying_last (ap (λ (z : List ℕ). points_bytes (bends_from last at z)) none) p.laid
          ∙ ap₂ (λ (c : List Corner) (n : ℕ). points_bytes c ++ drop (16 * n) l) (bends_of-from s ds b) (sym e),
    )
  where
    plain : (k : ℕ) → k + 0 ≡ k
    plain k = omega arith

-- ---- counted one after the other

pub record Counting (ds : List ℕ) (last k i : ℕ) : Type 0 where
  pub number : turning ds ≡ k + turning_from last (drop i ds)
  pub small : last < 4
  pub within : i ≤ length ds
  pub few : k ≤ i

pub count-first : (ds : List ℕ) (last : ℕ) → Below 4 ds → last ≡ get_or ds 0 0 → Counting ds last 0 0
count-first ds last b e = record {
  number = ap (λ (a : ℕ). turning_from a ds) (sym e) ∙ plain (turning_from last ds);
  small = subst (λ (a : ℕ). a < 4) (sym e) (below_first ds b);
  within = omega arith;
  few = omega arith;
}
  where
    plain : (n : ℕ) → n ≡ 0 + n
    plain n = omega arith

pub count-more : (ds : List ℕ) (last k t i : ℕ) → Below 4 ds → i < length ds → t ≡ tally (bends last (get_or ds i 0)) → Counting ds last k i → Counting ds (get_or ds i 0) (k + t) (i + 1)
count-more ds last k t i b h e p = record {
  number = p.number ∙ sum (turning_from last (drop i ds)) t (tally (bends last (get_or ds i 0))) (turning_from (get_or ds i 0) (drop (i + 1) ds)) e (turning-next last i ds h);
  small = below_get_d 4 ds i b h;
  within = omega arith;
  few = omega (arith, p.few, tally_le (bends last (get_or ds i 0)));
}
  where
    sum : (m t u r : ℕ) → t ≡ u → m ≡ u + r → k + m ≡ k + t + r
    sum m t u r e f = omega arith

pub count-last : (ds : List ℕ) (last k i : ℕ) → length ds ≤ i → Counting ds last k i → k ≡ turning ds
count-last ds last k i h p = sym (p.number ∙ ap (λ (z : List ℕ). k + turning_from last z) (drop_of_length-le ds h) ∙ plain k)
  where
    plain : (k : ℕ) → k + 0 ≡ k
    plain k = omega arith

-- ---- point k laid down, or not

clash : ◌≡◌ {A = ℕ} 0 1 → ⊥
clash z = omega arith

pub put_one : (l ys : List ℕ) (k : ℕ) (b : Bool) (c : Corner) → b ≡ true → 16 * (k + tally b) ≤ length l → ys ≡ point_bytes c ++ drop 16 (take (length l - 16 * k) (drop (16 * k) l))
    → (k + 1 ≡ k + tally b) × (take (16 * k) l ++ (ys ++ drop (length l - 16 * k) (drop (16 * k) l)) ≡ point_laid l k b c)
put_one l ys k true c e h w = (
  refl,
  over-lent l (16 * k) (point_bytes c) ys (omega arith) (w ∙ ap (λ (n : ℕ). point_bytes c ++ drop n (take (length l - 16 * k) (drop (16 * k) l))) (sym (length-point_bytes c)))
      ∙ sym (laid_over l k true c),
)
put_one l ys k false c e h w = let z : ◌≡◌ {A = ℕ} 0 1 = cc in absurd (clash z)

pub put-none : (l : List ℕ) (k : ℕ) (b : Bool) (c : Corner) → b ≡ false → (k ≡ k + tally b) × (l ≡ point_laid l k b c)
put-none l k false c e = (
  plain k,
  sym (take-append-drop (16 * k) l)
      ∙ ap (λ (z : List ℕ). z ++ drop (16 * k) l) (sym (append-nil (take (16 * k) l)))
      ∙ ap (λ (n : ℕ). take (16 * k) l ++ [] ++ drop (16 * n) l) (plain k),
)
  where
    plain : (k : ℕ) → k ≡ k + 0
    plain k = omega arith
put-none l k true c e = let z : ◌≡◌ {A = ℕ} 0 1 = cc in absurd (clash z)

pub room : (l : List ℕ) (a : ℕ) → a + 16 ≤ length l → 16 ≤ length (take (length l - a) (drop a l))
room l a h = simp (length-take, length-drop) (omega arith)

pub below_room : (k : ℕ) (b : Bool) (n : ℕ) → b ≡ true → 16 * (k + tally b) ≤ n → 16 * k + 16 ≤ n
below_room k true n e h = omega arith
below_room k false n e h = let z : ◌≡◌ {A = ℕ} 0 1 = cc in absurd (clash z)
