-- At a corner that a closed walk visits once, arriving by one step and leaving by another: the surplus on the left of the two is the same, and on
-- the right it is one less.
-- Assumes nothing.
use mathlib.Core.Bool.{Bool, true, false, true≢false, ◌&&◌}
use mathlib.Core.List.Memᴰ
use mathlib.Core.List.{List, [], ◌∷◌, Memᴰ}
use mathlib.Core.Path.{◌≡◌, refl, ap, sym, ◌∙◌}
use Prim.Native.Nat.{ℕ, zero, suc, ◌<◌}
use native.Mathlib.Omega.{arith}
use borrow.Author.Tests.{eqb-true, eq-eqb}
use lib.IntN.{ℤ, pos, suc_ℤ, pred_ℤ, ◌+ℤ◌, +ℤ_one, +ℤ_idr, pred-suc}
use lib.ListN.{length}
use Rattle.lists.specs.Lists.{tally, Distinct}
use Rattle.lists.proofs.FindLaws.{bool_agree}
use Rattle.grid.specs.declared.{Corner.Corner, Panel.Panel}
use Rattle.grid.specs.Grid.{corner, panel_at, same, stepped, corners_from, end_from, back}
use Rattle.grid.proofs.CornerLaws.{same_sound, same_refl}
use Rattle.grid.proofs.StepLaws.{stepped-back, stepped_ne, start_from_mem, end_from-mem}
use Rattle.panels.specs.Edges.{surplus_of}
use Rattle.panels.specs.Inside.{left_of, right_of}
use Rattle.room_laws.proofs.AcrossLaws.{along, walks, across}

-- a value that is the same for all digits above 2 is one for digits that go one way
module _ {A : Type 0} (f : ℕ → A) (south : (d : ℕ) → f (suc (suc (suc d))) ≡ f 3) where
  again : (d : ℕ) → f (back (back d)) ≡ f d
  again zero = refl
  again (suc zero) = refl
  again (suc (suc zero)) = refl
  again (suc (suc (suc d))) = sym (south d)

  pub along_one : (e d : ℕ) → along e d ≡ true → f e ≡ f d
  along_one e d h = sym (again e) ∙ ap (λ (n : ℕ). f (back n)) (eqb-true (back e) (back d) h) ∙ again d

along_again : (d : ℕ) → along d (back (back d)) ≡ true
along_again d = eq-eqb (back d) (back (back (back d))) (sym (again back (λ n. refl) d))

along-stepped : (e d : ℕ) (c : Corner) → along e d ≡ true → stepped e c ≡ stepped d c
along-stepped e d c = along_one (λ n. stepped n c) (λ n. refl) e d

-- a test of a way and a corner that is never both
pub never : (x y : Bool) → (x ≡ true → y ≡ true → ⊥) → tally (x && y) ≡ 0
never true true f = absurd (f refl refl)
never true false f = refl
never false y f = refl

-- and one if the way says the corner
ever : (x y : Bool) → (x ≡ true → y ≡ true) → tally (x && y) ≡ tally x
ever true y f = ap tally (f refl)
ever false y f = refl

-- the step out and the step back: no walk that avoids v takes a step from v, or one to it
walks_from : (c : Corner) (ds : List ℕ) (d : ℕ) (v : Corner) → (Memᴰ v (corners_from c ds) → ⊥) → walks c ds d v ≡ 0
walks_from c [] d v f = refl
walks_from c (e ∷ ds) d v f = omega (arith, never (along e d) (same c v) (λ h s. f (Memᴰ.head (sym (same_sound c v s)))), walks_from (stepped e c) ds d v (λ m. f (Memᴰ.tail m)))

back_to : (e d : ℕ) (c v : Corner) → along e (back d) ≡ true → same c (stepped d v) ≡ true → stepped e c ≡ v
back_to e d c v h s = along-stepped e (back d) c h ∙ ap (stepped (back d)) (same_sound c (stepped d v) s) ∙ stepped-back d v

walks-to : (c : Corner) (ds : List ℕ) (d : ℕ) (v : Corner) → (Memᴰ v (corners_from c ds) → ⊥) → walks c ds (back d) (stepped d v) ≡ 0
walks-to c [] d v f = refl
walks-to c (e ∷ ds) d v f =
    omega (arith, never (along e (back d)) (same c (stepped d v)) (λ h s. f (Memᴰ.tail (Memᴰ.cast (sym (back_to e d c v h s)) (start_from_mem (stepped e c) ds)))), walks-to (stepped e c) ds d v (λ m. f (Memᴰ.tail m)))

-- a closed walk of the steps d and ds whose corners after the first are all different
pub record Round (c : Corner) (d : ℕ) (ds : List ℕ) : Type 0 where
  pub closed : end_from (stepped d c) ds ≡ c
  pub once : Distinct (corners_from (stepped d c) ds)

module _ (c : Corner) (a b : ℕ) (ds : List ℕ) (r : Round c a (b ∷ ds)) where
  abbrev v : Corner
  v = stepped a c

  -- of the steps from v only b is taken, of those to v only a
  leaving : (d : ℕ) → walks c (a ∷ b ∷ ds) d v ≡ tally (along b d)
  leaving d =
      omega (
        arith,
        never (along a d) (same c v) (λ h s. stepped_ne a c (sym (same_sound c v s))),
        ever (along b d) (same v v) (λ h. same_refl v),
        walks_from (stepped b v) ds d v r.once.0,
      )

  arriving : (d : ℕ) → walks c (a ∷ b ∷ ds) (back d) (stepped d v) ≡ tally (along a (back d))
  arriving d =
      omega (
        arith,
        ever (along a (back d)) (same c (stepped d v)) (λ h. ap (same c) (came h) ∙ same_refl c),
        never (along b (back d)) (same v (stepped d v)) (λ h s. stepped_ne d v (sym (same_sound v (stepped d v) s))),
        walks-to (stepped b v) ds d v r.once.0,
      )
    where
      came : along a (back d) ≡ true → stepped d v ≡ c
      came h = sym (again (λ n. stepped n v) (λ n. refl) d) ∙ ap (λ (n : ℕ). stepped n v) (sym (eqb-true (back a) (back (back d)) h)) ∙ stepped-back a c

  around : (d : ℕ) → surplus_of c (a ∷ b ∷ ds) (left_of d v) +ℤ pos (tally (along a (back d))) ≡ surplus_of c (a ∷ b ∷ ds) (right_of d v) +ℤ pos (tally (along b d))
  around d =
      ap (λ (n : ℕ). surplus_of c (a ∷ b ∷ ds) (left_of d v) +ℤ pos n) (sym (arriving d))
      ∙ across c (a ∷ b ∷ ds) r.closed d v
      ∙ ap (λ (n : ℕ). surplus_of c (a ∷ b ∷ ds) (right_of d v) +ℤ pos n) (leaving d)

  -- with another step to come it does not turn back
  onward : 0 < length ds → along b (back a) ≡ false
  onward h = bool_agree (along b (back a)) false (λ e. absurd (far ds h r.once.1 (along-stepped b (back a) v e ∙ stepped-back a c ∙ sym r.closed))) (λ e. absurd (true≢false (sym e)))
    where
      far : (l : List ℕ) → 0 < length l → Distinct (corners_from (stepped b v) l) → stepped b v ≡ end_from (stepped b v) l → ⊥
      far [] h m e = omega arith
      far (x ∷ l) h m e = m.0 (Memᴰ.cast e (end_from-mem (stepped x (stepped b v)) l))

-- the sides of a step seen from its end
pub left_back : (a : ℕ) (c : Corner) → right_of (back a) (stepped a c) ≡ left_of a c
left_back zero c = ap (λ (x : ℤ). panel_at (corner x c.1)) (pred-suc c.0)
left_back (suc zero) c = ap (λ (y : ℤ). panel_at (corner (pred_ℤ c.0) y)) (pred-suc c.1)
left_back (suc (suc zero)) c = refl
left_back (suc (suc (suc a))) c = refl

pub right-back : (a : ℕ) (c : Corner) → left_of (back a) (stepped a c) ≡ right_of a c
right-back zero c = ap (λ (x : ℤ). panel_at (corner x (pred_ℤ c.1))) (pred-suc c.0)
right-back (suc zero) c = ap (λ (y : ℤ). panel_at (corner c.0 y)) (pred-suc c.1)
right-back (suc (suc zero)) c = refl
right-back (suc (suc (suc a))) c = refl

higher : (x y : ℤ) → x +ℤ pos 1 ≡ y +ℤ pos 0 → y ≡ suc_ℤ x
higher x y e = sym (+ℤ_idr y) ∙ sym e ∙ +ℤ_one x

module _ (F : Panel → ℤ) (v : Corner) where
  abbrev Around : ℕ → ℕ → ℕ → Type 0
  Around a b d = F (left_of d v) +ℤ pos (tally (along a (back d))) ≡ F (right_of d v) +ℤ pos (tally (along b d))

  level : (d : ℕ) → F (left_of d v) +ℤ pos 0 ≡ F (right_of d v) +ℤ pos 0 → F (left_of d v) ≡ F (right_of d v)
  level d e = sym (+ℤ_idr (F (left_of d v))) ∙ e ∙ +ℤ_idr (F (right_of d v))

  -- straight on, a left turn or a right turn: the panels to the left are joined across steps that are not taken
  turn : (a b : ℕ) → along b (back a) ≡ false → ((d : ℕ) → Around a b d) → F (right_of (back a) v) ≡ F (left_of b v)
  turn zero zero n h = level 1 (h 1)
  turn zero (suc zero) n h = refl
  turn zero (suc (suc zero)) n h = absurd (true≢false n)
  turn zero (suc (suc (suc b))) n h = level 1 (h 1) ∙ level 0 (h 0)
  turn (suc zero) zero n h = level 2 (h 2) ∙ level 1 (h 1)
  turn (suc zero) (suc zero) n h = level 2 (h 2)
  turn (suc zero) (suc (suc zero)) n h = refl
  turn (suc zero) (suc (suc (suc b))) n h = absurd (true≢false n)
  turn (suc (suc zero)) zero n h = absurd (true≢false n)
  turn (suc (suc zero)) (suc zero) n h = level 3 (h 3) ∙ level 2 (h 2)
  turn (suc (suc zero)) (suc (suc zero)) n h = level 3 (h 3)
  turn (suc (suc zero)) (suc (suc (suc b))) n h = refl
  turn (suc (suc (suc a))) zero n h = refl
  turn (suc (suc (suc a))) (suc zero) n h = absurd (true≢false n)
  turn (suc (suc (suc a))) (suc (suc zero)) n h = level 0 (h 0) ∙ level 3 (h 3)
  turn (suc (suc (suc a))) (suc (suc (suc b))) n h = level 0 (h 0)

  -- across the step that arrives
  drop : (a b : ℕ) → along b (back a) ≡ false → ((d : ℕ) → Around a b d) → F (right_of (back a) v) ≡ suc_ℤ (F (left_of (back a) v))
  drop a b n h = higher (F (left_of (back a) v)) (F (right_of (back a) v)) (ap (λ (x : Bool). F (left_of (back a) v) +ℤ pos (tally x)) (sym (along_again a)) ∙ h (back a) ∙ ap (λ (x : Bool). F (right_of (back a) v) +ℤ pos (tally x)) n)

-- the left panels of two steps in turn have one surplus
pub left-left : (c : Corner) (a b : ℕ) (ds : List ℕ) → Round c a (b ∷ ds) → 0 < length ds → surplus_of c (a ∷ b ∷ ds) (left_of b (stepped a c)) ≡ surplus_of c (a ∷ b ∷ ds) (left_of a c)
left-left c a b ds r h =
    let F = surplus_of c (a ∷ b ∷ ds) in
    sym (turn F (stepped a c) a b (onward c a b ds r h) (around c a b ds r)) ∙ ap F (left_back a c)

-- and the right panel of a step one less than its left panel
pub left-right : (c : Corner) (a : ℕ) (es : List ℕ) → Round c a es → 1 < length es → surplus_of c (a ∷ es) (left_of a c) ≡ suc_ℤ (surplus_of c (a ∷ es) (right_of a c))
left-right c a [] r h = absurd (omega arith)
left-right c a (b ∷ ds) r h =
    let F = surplus_of c (a ∷ b ∷ ds) in
    ap F (sym (left_back a c)) ∙ drop F (stepped a c) a b (onward c a b ds r (omega arith)) (around c a b ds r) ∙ ap (λ (p : Panel). suc_ℤ (F p)) (right-back a c)
