-- A room of more than two steps has two bends or more.
-- Assumes nothing.
use mathlib.Core.Path.{◌≡◌, refl, sym, ap, ap₂, ◌∙◌, subst}
use mathlib.Core.Bool.{Bool, true, false}
use mathlib.Core.List.{List, [], ◌∷◌, ◌++◌, append_assoc}
use Prim.Native.Nat.{ℕ, zero, suc, ◌+◌, ◌≤◌, ◌<◌}
use native.Mathlib.Omega.{arith}
use native.Mathlib.Decide.{dec_lt}
use lib.IntN.{ℤ, pos, suc_ℤ, pred_ℤ, ◌+ℤ◌, ◌-ℤ◌}
use lib.ListN.{length, take, replicate, length-append, length-replicate}
use lib.Seq.{take_at}
use Rattle.int_laws.proofs.LinearLaws.{nat_eq, eq_nat, bal+, bal-}
use Rattle.lists.specs.Lists.{tally, Below}
use Rattle.grid.specs.declared.Corner.{Corner}
use Rattle.grid.specs.Grid.{corner, stepped, end_from}
use Rattle.trace.specs.Meeting.{Meets}
use Rattle.trace.specs.Verdict.{IsRoom}
use Rattle.polygon.specs.Polygon.{bends}
use Rattle.polygon_laws.specs.Bends.{turning_from, turning}
use Rattle.polygon_laws.proofs.BendLaws.{straight_on}
use Rattle.polygon_ring_laws.proofs.BackLaws.{on_along, replicate-shift}
use Rattle.polygon_ring_laws.proofs.RunLaws.{ahead, ahead_end}
use Rattle.int_laws.proofs.NextLaws.{bal_suc, bal_pred}
use Rattle.grid.proofs.StepLaws.{end_from-append}

-- ---- with one bend at most a chain is two runs

all_one : (a : ℕ) (ds : List ℕ) → a < 4 → Below 4 ds → turning_from a ds ≡ 0 → ds ≡ replicate (length ds) a
all_one a [] h b e = refl
all_one a (d ∷ ds) h b e = go (bends a d) refl (λ p. all_one d ds b.0 b.1 p)
  where
    go : (t : Bool) → bends a d ≡ t → (turning_from d ds ≡ 0 → ds ≡ replicate (length ds) d) → d ∷ ds ≡ replicate (suc (length ds)) a
    go true t r = absurd (bad (turning_from d ds) (ap (λ (u : Bool). tally u + turning_from d ds) (sym t) ∙ e))
      where
        bad : (n : ℕ) → 1 + n ≡ 0 → ⊥
        bad n z = omega arith
    go false t r =
        let g : d ≡ a = on_along a d h b.0 t in
        ap (λ (l : List ℕ). d ∷ l) (r (less (turning_from d ds) (ap (λ (u : Bool). tally u + turning_from d ds) (sym t) ∙ e))) ∙ ap (replicate (suc (length ds))) g
      where
        less : (n : ℕ) → 0 + n ≡ 0 → n ≡ 0
        less n z = omega arith

record TwoRuns (a : ℕ) (ds : List ℕ) : Type 0 where
  i : ℕ
  j : ℕ
  b : ℕ
  small : b < 4
  runs : ds ≡ replicate i a ++ replicate j b

two_runs : (a : ℕ) (ds : List ℕ) → a < 4 → Below 4 ds → turning_from a ds ≤ 1 → TwoRuns a ds
two_runs a [] h b e = record { i = 0; j = 0; b = a; small = h; runs = refl }
two_runs a (d ∷ ds) h b e = go (bends a d) refl (λ p. two_runs d ds b.0 b.1 p)
  where
    go : (t : Bool) → bends a d ≡ t → (turning_from d ds ≤ 1 → TwoRuns d ds) → TwoRuns a (d ∷ ds)
    go true t r =
        let z : turning_from d ds ≡ 0 = less (turning_from d ds) (subst (λ (u : Bool). tally u + turning_from d ds ≤ 1) t e) in
        record { i = 0; j = suc (length ds); b = d; small = b.0; runs = ap (λ (l : List ℕ). d ∷ l) (all_one d ds b.0 b.1 z) }
      where
        less : (n : ℕ) → 1 + n ≤ 1 → n ≡ 0
        less n z = omega arith
    go false t r =
        let g : d ≡ a = on_along a d h b.0 t in
        let w = r (less (turning_from d ds) (subst (λ (u : Bool). tally u + turning_from d ds ≤ 1) t e)) in
        record { i = suc w.i; j = w.j; b = w.b; small = w.small; runs = ap (λ (l : List ℕ). d ∷ l) w.runs ∙ ap (λ (x : ℕ). replicate (suc w.i) x ++ replicate w.j w.b) g }
      where
        less : (n : ℕ) → 0 + n ≤ 1 → n ≤ 1
        less n z = omega arith

-- ---- two runs that lead back go there and back along one line

-- a step of the second run undoes the last step of the first
abbrev Undoes : ℕ → ℕ → ℕ → Corner → Type 0
Undoes i a b s = stepped b (ahead (suc i) a s) ≡ ahead i a s

x_of_lem : {a b : Corner} → a ≡ b → a.0 ≡ b.0
x_of_lem e = ap (λ (c : Corner). c.0) e

y_of : {a b : Corner} → a ≡ b → a.1 ≡ b.1
y_of e = ap (λ (c : Corner). c.1) e

module _ (x : ℤ) (i j : ℕ) where
  up_only : x +ℤ pos (suc i) ≡ x → ⊥
  up_only e = omega (arith, eq_nat e, bal+ x (pos (suc i)))

  down_only : x -ℤ pos (suc i) ≡ x → ⊥
  down_only e = omega (arith, eq_nat e, bal- x (pos (suc i)))

  up_up : (x +ℤ pos (suc i)) +ℤ pos j ≡ x → ⊥
  up_up e = omega (arith, eq_nat e, bal+ x (pos (suc i)), bal+ (x +ℤ pos (suc i)) (pos j))

  down_down : (x -ℤ pos (suc i)) -ℤ pos j ≡ x → ⊥
  down_down e = omega (arith, eq_nat e, bal- x (pos (suc i)), bal- (x -ℤ pos (suc i)) (pos j))

  up_down : (x +ℤ pos (suc i)) -ℤ pos j ≡ x → j ≡ suc i
  up_down e = omega (arith, eq_nat e, bal+ x (pos (suc i)), bal- (x +ℤ pos (suc i)) (pos j))

  down_up : (x -ℤ pos (suc i)) +ℤ pos j ≡ x → j ≡ suc i
  down_up e = omega (arith, eq_nat e, bal- x (pos (suc i)), bal+ (x -ℤ pos (suc i)) (pos j))

pred_up : (x : ℤ) (i : ℕ) → pred_ℤ (x +ℤ pos (suc i)) ≡ x +ℤ pos i
pred_up x i = nat_eq (pred_ℤ (x +ℤ pos (suc i))) (x +ℤ pos i) (omega (arith, bal+ x (pos (suc i)), bal+ x (pos i), bal_pred (x +ℤ pos (suc i))))

suc_down : (x : ℤ) (i : ℕ) → suc_ℤ (x -ℤ pos (suc i)) ≡ x -ℤ pos i
suc_down x i = nat_eq (suc_ℤ (x -ℤ pos (suc i))) (x -ℤ pos i) (omega (arith, bal- x (pos (suc i)), bal- x (pos i), bal_suc (x -ℤ pos (suc i))))

there_back : (a b i j : ℕ) (s : Corner) → ahead j b (ahead (suc i) a s) ≡ s → (j ≡ suc i) × Undoes i a b s
there_back zero zero i j s e = absurd (up_up s.0 i j (x_of_lem e))
there_back zero (suc zero) i j s e = absurd (up_only s.0 i j (x_of_lem e))
there_back zero (suc (suc zero)) i j s e = (up_down s.0 i j (x_of_lem e), ap₂ corner (pred_up s.0 i) refl)
there_back zero (suc (suc (suc b))) i j s e = absurd (up_only s.0 i j (x_of_lem e))
there_back (suc zero) zero i j s e = absurd (up_only s.1 i j (y_of e))
there_back (suc zero) (suc zero) i j s e = absurd (up_up s.1 i j (y_of e))
there_back (suc zero) (suc (suc zero)) i j s e = absurd (up_only s.1 i j (y_of e))
there_back (suc zero) (suc (suc (suc b))) i j s e = (up_down s.1 i j (y_of e), ap₂ corner refl (pred_up s.1 i))
there_back (suc (suc zero)) zero i j s e = (down_up s.0 i j (x_of_lem e), ap₂ corner (suc_down s.0 i) refl)
there_back (suc (suc zero)) (suc zero) i j s e = absurd (down_only s.0 i j (x_of_lem e))
there_back (suc (suc zero)) (suc (suc zero)) i j s e = absurd (down_down s.0 i j (x_of_lem e))
there_back (suc (suc zero)) (suc (suc (suc b))) i j s e = absurd (down_only s.0 i j (x_of_lem e))
there_back (suc (suc (suc a))) zero i j s e = absurd (down_only s.1 i j (y_of e))
there_back (suc (suc (suc a))) (suc zero) i j s e = (down_up s.1 i j (y_of e), ap₂ corner refl (suc_down s.1 i))
there_back (suc (suc (suc a))) (suc (suc zero)) i j s e = absurd (down_only s.1 i j (y_of e))
there_back (suc (suc (suc a))) (suc (suc (suc b))) i j s e = absurd (down_down s.1 i j (y_of e))

-- ---- so a room with one bend at most has two steps

module _ (s : Corner) (a b i : ℕ) where
  before : take i (replicate (suc i) a ++ replicate (suc i) b) ≡ replicate i a
  before = ap (take i) (replicate-shift i a (replicate (suc i) b)) ∙ take_at (replicate i a) (a ∷ replicate (suc i) b) i (length-replicate i a)

  after : take (i + 2) (replicate (suc i) a ++ replicate (suc i) b) ≡ replicate (suc i) a ++ (b ∷ [])
  after =
      ap (take (i + 2)) (sym (append_assoc (replicate (suc i) a) (b ∷ []) (replicate i b)))
      ∙ take_at (replicate (suc i) a ++ (b ∷ [])) (replicate i b) (i + 2) (length-append (replicate (suc i) a) (b ∷ []) ∙ ap (λ (n : ℕ). n + 1) (length-replicate (suc i) a) ∙ two i)
    where
      two : (i : ℕ) → suc i + 1 ≡ i + 2
      two i = omega arith

  meets : Undoes i a b s → Meets s (replicate (suc i) a ++ replicate (suc i) b) i (i + 2)
  meets u = record {
    earlier = omega arith;
    within = subst (λ (n : ℕ). i + 2 ≤ n) (sym (length-append (replicate (suc i) a) (replicate (suc i) b) ∙ ap₂ ◌+◌ (length-replicate (suc i) a) (length-replicate (suc i) b))) (omega arith);
    equal =
        ap (end_from s) before ∙ ahead_end i a s
        ∙ sym (ap (end_from s) after ∙ end_from-append s (replicate (suc i) a) (b ∷ []) ∙ ap (stepped b) (ahead_end (suc i) a s) ∙ u);
  }

one_bend : (s : Corner) (d : ℕ) (ds : List ℕ) → Below 4 (d ∷ ds) → IsRoom s (d ∷ ds) → turning_from d ds ≤ 1 → length (d ∷ ds) ≡ 2
one_bend s d ds b r t =
    let w = two_runs d ds b.0 b.1 t in
    let e : d ∷ ds ≡ replicate (suc w.i) d ++ replicate w.j w.b = ap (λ (l : List ℕ). d ∷ l) w.runs in
    let home : ahead w.j w.b (ahead (suc w.i) d s) ≡ s =
    sym (ap (end_from s) e ∙ end_from-append s (replicate (suc w.i) d) (replicate w.j w.b) ∙ ahead_end w.j w.b (end_from s (replicate (suc w.i) d)) ∙ ap (ahead w.j w.b) (ahead_end (suc w.i) d s)) ∙ r.closed in
    let u = there_back d w.b w.i w.j s home in
    let f : d ∷ ds ≡ replicate (suc w.i) d ++ replicate (suc w.i) w.b = e ∙ ap (λ (n : ℕ). replicate (suc w.i) d ++ replicate n w.b) u.0 in
    let m : Meets s (d ∷ ds) w.i (w.i + 2) = subst (λ (l : List ℕ). Meets s l w.i (w.i + 2)) (sym f) (meets s d w.b w.i u.1) in
    let o = r.only w.i (w.i + 2) m in
    sym o.1 ∙ ap (λ (n : ℕ). n + 2) o.0

pub room-turns : (s : Corner) (ds : List ℕ) → Below 4 ds → IsRoom s ds → 2 ≤ turning ds
room-turns s [] b r = absurd (omega (arith, r.four))
room-turns s (d ∷ ds) b r =
    let e : turning (d ∷ ds) ≡ turning_from d ds = ap (λ (t : Bool). tally t + turning_from d ds) (straight_on d b.0) ∙ plain (turning_from d ds) in
    elim (dec_lt (turning_from d ds) 2) [
      | yes l ↦ absurd (omega (arith, r.four, one_bend s d ds b r (omega arith)))
      | no f ↦ subst (λ (n : ℕ). 2 ≤ n) (sym e) (omega arith)
    ]
  where
    plain : (n : ℕ) → 0 + n ≡ n
    plain n = omega arith
