-- The walk along a ring passes its points, and is the only one that does.
-- Assumes nothing.
use mathlib.Core.Path.{◌≡◌, refl, sym, ap, ap₂, ◌∙◌, subst}
use mathlib.Core.Bool.{Bool, true, false, not, cond, false≢true}
use mathlib.Core.List.{List, [], ◌∷◌, ◌++◌}
use Prim.Native.Nat.{ℕ, suc, ◌+◌, ◌-◌, ◌<◌}
use native.Mathlib.Omega.{arith}
use lib.IntN.{ℤ, pos, nat_abs, ◌+ℤ◌, ◌-ℤ◌}
use lib.ListN.{length, replicate, get_or}
use lib.Signed.{◌≤ℤ◌, lt_z, yes_non_neg, pos-nat_abs}
use Rattle.int_laws.proofs.LinearLaws.{nat_le, nat_eq, bal+, bal-, zarith}
use Rattle.int_laws.proofs.RangeLaws.{lt_true, lt_false}
use Rattle.lists.proofs.GatherLaws.{and_left, and_right}
use Rattle.grid.proofs.StepLaws.{end_from-append}
use Rattle.grid.specs.declared.Corner.{Corner}
use Rattle.grid.specs.Grid.{corner, origin, eq_z, end_from}
use Rattle.grid.proofs.CornerLaws.{eq_z_sound, eq_z_refl}
use Rattle.polygon_ring.specs.Ring.{straight, straight_from, apart, direction_of, steps_along}
use Rattle.polygon_ring_laws.specs.Passing.{PassesFrom}
use Rattle.polygon_ring_laws.proofs.AxisLaws.{diff_swap, self_no}
use Rattle.polygon_ring_laws.proofs.RunLaws.{ahead, ahead_end, run_ahead, direction_by, self_less}

-- ---- one axis

climb : (x y : ℤ) → x ≤ℤ y → x +ℤ pos (nat_abs (y -ℤ x)) ≡ y
climb x y h =
    ap (λ (z : ℤ). x +ℤ z) (pos-nat_abs (y -ℤ x) (yes_non_neg (nat_le (pos 0) (y -ℤ x) (omega (zarith, bal- y x)))))
    ∙ nat_eq (x +ℤ (y -ℤ x)) y (omega (arith, bal- y x, bal+ x (y -ℤ x)))

fall : (x y : ℤ) → y ≤ℤ x → x -ℤ pos (nat_abs (y -ℤ x)) ≡ y
fall x y h =
    ap (λ (n : ℕ). x -ℤ pos n) (diff_swap y x)
    ∙ ap (λ (z : ℤ). x -ℤ z) (pos-nat_abs (x -ℤ y) (yes_non_neg (nat_le (pos 0) (x -ℤ y) (omega (zarith, bal- x y)))))
    ∙ nat_eq (x -ℤ (x -ℤ y)) y (omega (arith, bal- x y, bal- x (x -ℤ y)))

-- ---- two corners in a line are the ends of a run

record Joined (a b : Corner) : Type 0 where
  some : 0 < apart a b
  small : direction_of a b < 4
  leads : ahead (apart a b) (direction_of a b) a ≡ b

apart_zero : (x y : ℤ) → nat_abs (y -ℤ x) ≡ 0 → x ≤ℤ y → x ≡ y
apart_zero x y e h = sym (nat_eq (x +ℤ pos 0) x (omega (arith, bal+ x (pos 0)))) ∙ ap (λ (n : ℕ). x +ℤ pos n) (sym e) ∙ climb x y h

positive : (n : ℕ) → (n ≡ 0 → ⊥) → 0 < n
positive n f = omega arith

apart_some : (x y : ℤ) → eq_z x y ≡ false → 0 < nat_abs (y -ℤ x)
apart_some x y e = positive (nat_abs (y -ℤ x)) (λ z. go (lt_z x y) refl z)
  where
    go : (t : Bool) → lt_z x y ≡ t → nat_abs (y -ℤ x) ≡ 0 → ⊥
    go true f z = false≢true (sym e ∙ ap (eq_z x) (sym (apart_zero x y z (nat_le x y (omega (zarith, lt_true {a = x} {b = y} f))))) ∙ eq_z_refl x)
    go false f z = false≢true (sym e ∙ ap (λ (w : ℤ). eq_z w y) (sym (apart_zero y x (diff_swap x y ∙ z) (lt_false {a = x} {b = y} f))) ∙ eq_z_refl y)

module _ (a b : Corner) where
  -- the same x: north or south
  joined_y : a.0 ≡ b.0 → eq_z a.1 b.1 ≡ false → Joined a b
  joined_y e f = go (lt_z a.1 b.1) refl
    where
      none : nat_abs (b.0 -ℤ a.0) ≡ 0
      none = ap (λ (x : ℤ). nat_abs (b.0 -ℤ x)) e ∙ self_less b.0

      far : apart a b ≡ nat_abs (b.1 -ℤ a.1)
      far = ap (λ (n : ℕ). n + nat_abs (b.1 -ℤ a.1)) none ∙ plain (nat_abs (b.1 -ℤ a.1))
        where
          plain : (n : ℕ) → 0 + n ≡ n
          plain n = omega arith

      not_east : lt_z a.0 b.0 ≡ false
      not_east = ap (λ (x : ℤ). lt_z x b.0) e ∙ self_no b.0

      not_west : lt_z b.0 a.0 ≡ false
      not_west = ap (lt_z b.0) e ∙ self_no b.0

      build : (d : ℕ) → direction_of a b ≡ d → d < 4 → ahead (nat_abs (b.1 -ℤ a.1)) d a ≡ b → Joined a b
      build d w s l = record {
        some = subst (λ (n : ℕ). 0 < n) (sym far) (apart_some a.1 b.1 f);
        small = subst (λ (n : ℕ). n < 4) (sym w) s;
        leads = ap₂ (λ (k d : ℕ). ahead k d a) far w ∙ l;
      }

      go : (t : Bool) → lt_z a.1 b.1 ≡ t → Joined a b
      go true g =
          build 1 (direction_by false false true a b not_east not_west g) (omega arith)
          (ap₂ corner e (climb a.1 b.1 (nat_le a.1 b.1 (omega (zarith, lt_true {a = a.1} {b = b.1} g)))))
      go false g = build 3 (direction_by false false false a b not_east not_west g) (omega arith) (ap₂ corner e (fall a.1 b.1 (lt_false {a = a.1} {b = b.1} g)))

  -- the same y: east or west
  joined_x : a.1 ≡ b.1 → eq_z a.0 b.0 ≡ false → Joined a b
  joined_x e f = go (lt_z a.0 b.0) (lt_z b.0 a.0) refl refl
    where
      none : nat_abs (b.1 -ℤ a.1) ≡ 0
      none = ap (λ (x : ℤ). nat_abs (b.1 -ℤ x)) e ∙ self_less b.1

      far : apart a b ≡ nat_abs (b.0 -ℤ a.0)
      far = ap (λ (n : ℕ). nat_abs (b.0 -ℤ a.0) + n) none ∙ plain (nat_abs (b.0 -ℤ a.0))
        where
          plain : (n : ℕ) → n + 0 ≡ n
          plain n = omega arith

      build : (d : ℕ) → direction_of a b ≡ d → d < 4 → ahead (nat_abs (b.0 -ℤ a.0)) d a ≡ b → Joined a b
      build d w s l = record {
        some = subst (λ (n : ℕ). 0 < n) (sym far) (apart_some a.0 b.0 f);
        small = subst (λ (n : ℕ). n < 4) (sym w) s;
        leads = ap₂ (λ (k d : ℕ). ahead k d a) far w ∙ l;
      }

      go : (t u : Bool) → lt_z a.0 b.0 ≡ t → lt_z b.0 a.0 ≡ u → Joined a b
      go true u g h =
          build 0 (direction_by true u (lt_z a.1 b.1) a b g h refl) (omega arith)
          (ap₂ corner (climb a.0 b.0 (nat_le a.0 b.0 (omega (zarith, lt_true {a = a.0} {b = b.0} g)))) e)
      go false true g h = build 2 (direction_by false true (lt_z a.1 b.1) a b g h refl) (omega arith) (ap₂ corner (fall a.0 b.0 (lt_false {a = a.0} {b = b.0} g)) e)
      go false false g h =
          let p : a.0 ≡ b.0 = nat_eq a.0 b.0 (omega (zarith, lt_false {a = a.0} {b = b.0} g, lt_false {a = b.0} {b = a.0} h)) in
          absurd (false≢true (sym f ∙ ap (λ (x : ℤ). eq_z x b.0) p ∙ eq_z_refl b.0))

  joined : straight a b ≡ true → Joined a b
  joined h = go (eq_z a.0 b.0) (eq_z a.1 b.1) refl refl h
    where
      go : (p q : Bool) → eq_z a.0 b.0 ≡ p → eq_z a.1 b.1 ≡ q → cond p (not q) q ≡ true → Joined a b
      go true false e f t = joined_y (eq_z_sound a.0 b.0 e) f
      go true true e f t = absurd (false≢true t)
      go false true e f t = joined_x (eq_z_sound a.1 b.1 f) e
      go false false e f t = absurd (false≢true t)

-- ---- along a whole ring

pub passes : (a : Corner) (cs : List Corner) → straight_from a cs ≡ true → PassesFrom a cs (steps_along a cs)
passes a [] e = refl
passes a (b ∷ cs) e =
    let j = joined a b (and_left (straight a b) (straight_from b cs) e) in
    (apart a b, direction_of a b, steps_along b cs, j.some, j.small, refl, ahead_end (apart a b) (direction_of a b) a ∙ j.leads, passes b cs (and_right (straight a b) (straight_from b cs) e))

pub passes-one : (a : Corner) (cs : List Corner) (ds : List ℕ) → PassesFrom a cs ds → ds ≡ steps_along a cs
passes-one a [] ds p = p
passes-one a (b ∷ cs) ds (k, d, rest, some, small, e, leads, p) =
    let r = run_ahead k d a some small in
    let at : ahead k d a ≡ b = sym (ahead_end k d a) ∙ leads in
    e
    ∙ ap₂ (λ (n m : ℕ). replicate n m ++ rest) (sym r.far ∙ ap (apart a) at) (sym r.way ∙ ap (direction_of a) at)
    ∙ ap (λ (l : List ℕ). replicate (apart a b) (direction_of a b) ++ l) (passes-one b cs rest p)

-- ---- where it ends

abbrev last_from : Corner → List Corner → Corner
last_from a [] = a
last_from a (b ∷ cs) = last_from b cs

passes_end : (a : Corner) (cs : List Corner) → straight_from a cs ≡ true → end_from a (steps_along a cs) ≡ last_from a cs
passes_end a [] e = refl
passes_end a (b ∷ cs) e =
    let j = joined a b (and_left (straight a b) (straight_from b cs) e) in
    end_from-append a (replicate (apart a b) (direction_of a b)) (steps_along b cs)
    ∙ ap (λ (c : Corner). end_from c (steps_along b cs)) (ahead_end (apart a b) (direction_of a b) a ∙ j.leads)
    ∙ passes_end b cs (and_right (straight a b) (straight_from b cs) e)

last-at : (a : Corner) (cs : List Corner) → get_or (a ∷ cs) (length cs) origin ≡ last_from a cs
last-at a [] = refl
last-at a (b ∷ cs) = last-at b cs

pub ends_at : (a : Corner) (cs : List Corner) → straight_from a cs ≡ true → end_from a (steps_along a cs) ≡ get_or (a ∷ cs) (length (a ∷ cs) - 1) origin
ends_at a cs e = passes_end a cs e ∙ sym (last-at a cs) ∙ ap (λ (n : ℕ). get_or (a ∷ cs) n origin) (one (length cs))
  where
    one : (n : ℕ) → n ≡ suc n - 1
    one n = omega arith
