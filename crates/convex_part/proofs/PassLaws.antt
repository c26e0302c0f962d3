-- The passes over a part, one turn of each loop.
-- Assumes nothing.
use mathlib.Core.Path.{◌≡◌, refl, sym, ap, ap₂, ◌∙◌}
use mathlib.Core.Bool.{Bool, true, false, not, ◌&&◌}
use mathlib.Core.List.{List, [], ◌∷◌, ◌++◌}
use Prim.Native.Nat.{ℕ, zero, suc, ◌+◌, ◌-◌, ◌%◌, ◌≤◌, ◌<◌}
use native.Mathlib.Omega.{arith}
use native.Mathlib.Numerals.{add-one}
use lib.Dec.{eqb, ltb}
use lib.ListN.{length, get_or, take, drop, set, length-drop, drop_of_length-le}
use lib.Seq.{drop-cons, take-set-le, take-suc-set, append_snoc}
use borrow.Author.Tests.{ne_eqb, lt-ltb, le-ltb}
use mir.Val.{bool_byte}
use Rattle.hull_laws.specs.Chain.{chain_from}
use Rattle.hull_laws.proofs.StackLaws.{stack_in}
use Rattle.convex.specs.Parts.{turned_by}
use Rattle.convex_laws.specs.Level.{depths_from, are_letters, level, levels, level_along, level_of, convex_part}
use Rattle.convex_laws.proofs.LevelLaws.{chain_rises}
use Rattle.convex_part.specs.Steps.{over, under, Rises}

pub test_le : (b : Bool) → bool_byte b ≤ 1
test_le true = omega arith
test_le false = omega arith

pub column-by : (k d : ℕ) → k + bool_byte (eqb d 0) ≡ over k d
column-by k zero = omega arith
column-by k (suc d) = omega (arith, ap bool_byte (ne_eqb (suc d) 0 (λ e. omega arith)))

pub depth_by : (y d : ℕ) → y - bool_byte (not (eqb d 0)) ≡ under y d
depth_by y zero = omega arith
depth_by y (suc d) = omega (arith, ap (λ (x : Bool). bool_byte (not x)) (ne_eqb (suc d) 0 (λ e. omega arith)))

-- `and` with a test that is known
and_true : (s t : Bool) → s ≡ true → (s && t) ≡ t
and_true s t e = ap (λ (x : Bool). x && t) e

and_false : (s t : Bool) → s ≡ false → (s && t) ≡ false
and_false s t e = ap (λ (x : Bool). x && t) e

-- the columns between two: those from c on are left
module _ (ys : List ℕ) (p b : ℕ) where
  here : (c : ℕ) → c < b → levels ys p b c (b - c) ≡ (level ys p b c && levels ys p b (c + 1) (b - (c + 1)))
  unfolding levels
  here c h = ap (levels ys p b c) more ∙ ap (λ (m : ℕ). level ys p b c && levels ys p b m (b - (c + 1))) (sym (add-one c))
    where
      more : b - c ≡ suc (b - (c + 1))
      more = omega arith

  pub levels_here : (c : ℕ) → c < b → level ys p b c ≡ false → levels ys p b c (b - c) ≡ false
  levels_here c h e = here c h ∙ and_false (level ys p b c) (levels ys p b (c + 1) (b - (c + 1))) e

  pub levels-next : (c : ℕ) → c < b → level ys p b c ≡ true → levels ys p b (c + 1) (b - (c + 1)) ≡ levels ys p b c (b - c)
  levels-next c h e = sym (here c h ∙ and_true (level ys p b c) (levels ys p b (c + 1) (b - (c + 1))) e)

  pub levels-none : (c : ℕ) → b ≤ c → true ≡ levels ys p b c (b - c)
  unfolding levels
  levels-none c h = ap (levels ys p b c) none
    where
      none : 0 ≡ b - c
      none = omega arith

-- the neighbours of the chain: those from the one before place q on are left
module _ (ys s : List ℕ) where
  there : (q p b : ℕ) → 0 < q → q < length s → p ≡ get_or s (q - 1) 0 → b ≡ get_or s q 0 → level_along ys (drop (q - 1) s) ≡ (levels ys p b (p + 1) (b - (p + 1)) && level_along ys (drop q s))
  unfolding level_along
  there q p b g h e f =
      ap (level_along ys) (drop-cons s (q - 1) 0 (omega arith) ∙ ap₂ (λ (x : ℕ) (l : List ℕ). x ∷ l) (sym e) (ap (λ (i : ℕ). drop i s) after ∙ tail))
      ∙ ap₂ (λ (m : ℕ) (l : List ℕ). levels ys p b m (b - m) && level_along ys l) (sym (add-one p)) (sym tail)
    where
      after : suc (q - 1) ≡ q
      after = omega arith

      tail : drop q s ≡ b ∷ drop (suc q) s
      tail = drop-cons s q 0 h ∙ ap (λ (x : ℕ). x ∷ drop (suc q) s) (sym f)

  pub along_here : (q p b : ℕ) → 0 < q → q < length s → p ≡ get_or s (q - 1) 0 → b ≡ get_or s q 0 → levels ys p b (p + 1) (b - (p + 1)) ≡ false → false ≡ level_along ys (drop (q - 1) s)
  along_here q p b g h e f t = sym (there q p b g h e f ∙ and_false (levels ys p b (p + 1) (b - (p + 1))) (level_along ys (drop q s)) t)

  pub along-next : (q p b : ℕ) → 0 < q → q < length s → p ≡ get_or s (q - 1) 0 → b ≡ get_or s q 0 → levels ys p b (p + 1) (b - (p + 1)) ≡ true → level_along ys (drop (q + 1 - 1) s) ≡ level_along ys (drop (q - 1) s)
  along-next q p b g h e f t =
      ap (λ (i : ℕ). level_along ys (drop i s)) same
      ∙ sym (there q p b g h e f ∙ and_true (levels ys p b (p + 1) (b - (p + 1))) (level_along ys (drop q s)) t)
    where
      same : q + 1 - 1 ≡ q
      same = omega arith

  few : (l : List ℕ) → length l < 2 → true ≡ level_along ys l
  unfolding level_along
  few [] h = refl
  few (p ∷ []) h = refl
  few (p ∷ (b ∷ l)) h = let z : ⊥ = omega arith in absurd z

  pub along-none : (q : ℕ) → length s ≤ q → true ≡ level_along ys (drop (q - 1) s)
  along-none q h = few (drop (q - 1) s) (omega (arith, length-drop (q - 1) s))

-- the letters of a part, turned: those from place i on are left
pub length-turned : (i : ℕ) (ds : List ℕ) → length (turned_by i ds) ≡ length ds
length-turned i [] = refl
length-turned i (d ∷ ds) = ap suc (length-turned i ds)

turned-at : (t : ℕ) (ds : List ℕ) (i : ℕ) → i < length ds → get_or (turned_by t ds) i 0 ≡ (get_or ds i 0 + t) % 4
turned-at t [] i h = let z : ⊥ = omega arith in absurd z
turned-at t (d ∷ ds) zero h = refl
turned-at t (d ∷ ds) (suc i) h = turned-at t ds i (omega arith)

module _ (ds : List ℕ) (t : ℕ) where
  left : (i d : ℕ) → i < length ds → d ≡ (get_or ds i 0 + t) % 4 → drop i (turned_by t ds) ≡ d ∷ drop (i + 1) (turned_by t ds)
  left i d h e =
      drop-cons (turned_by t ds) i 0 (omega (arith, length-turned t ds))
      ∙ ap₂ (λ (x m : ℕ). x ∷ drop m (turned_by t ds)) (turned-at t ds i h ∙ sym e) (sym (add-one i))

  none_left : (i : ℕ) → length ds ≤ i → drop i (turned_by t ds) ≡ []
  none_left i h = drop_of_length-le (turned_by t ds) {i = i} (omega (arith, length-turned t ds))

  pub letters_here : (i d : ℕ) → i < length ds → d ≡ (get_or ds i 0 + t) % 4 → 1 < d → false ≡ are_letters (drop i (turned_by t ds))
  unfolding are_letters
  letters_here i d h e l = sym (ap are_letters (left i d h e) ∙ and_false (ltb d 2) (are_letters (drop (i + 1) (turned_by t ds))) (le-ltb d 2 (omega arith)))

  pub letters_next : (i d : ℕ) → i < length ds → d ≡ (get_or ds i 0 + t) % 4 → d ≤ 1 → are_letters (drop (i + 1) (turned_by t ds)) ≡ are_letters (drop i (turned_by t ds))
  unfolding are_letters
  letters_next i d h e l = sym (ap are_letters (left i d h e) ∙ and_true (ltb d 2) (are_letters (drop (i + 1) (turned_by t ds))) (lt-ltb d 2 (omega arith)))

  pub letters_none : (i : ℕ) → length ds ≤ i → true ≡ are_letters (drop i (turned_by t ds))
  unfolding are_letters
  letters_none i h = sym (ap are_letters (none_left i h))

  -- the depths: k columns stand in ys, and the rest of the letters gives the rest
  pub dig_step : (ys : List ℕ) (k y i d : ℕ) (D : List ℕ) → i < length ds → d ≡ (get_or ds i 0 + t) % 4 → k < length ys → take k ys ++ depths_from y (drop i (turned_by t ds)) ≡ D → take (over k d) (set ys k y) ++ depths_from (under y d) (drop (i + 1) (turned_by t ds)) ≡ D
  unfolding depths_from
  dig_step ys k y i d D h e l g = by d (ap (λ (w : List ℕ). take k ys ++ depths_from y w) (sym (left i d h e)) ∙ g)
    where
      rest : List ℕ
      rest = drop (i + 1) (turned_by t ds)

      by : (d : ℕ) → take k ys ++ depths_from y (d ∷ rest) ≡ D → take (over k d) (set ys k y) ++ depths_from (under y d) rest ≡ D
      by zero f = ap (λ (l : List ℕ). l ++ depths_from y rest) (ap (λ (m : ℕ). take m (set ys k y)) (add-one k) ∙ take-suc-set ys k y l) ∙ append_snoc (take k ys) y (depths_from y rest) ∙ f
      by (suc d) f = ap (λ (l : List ℕ). l ++ depths_from (y - 1) rest) (take-set-le k ys k y (omega arith)) ∙ f

  pub dig_end : (ys : List ℕ) (k y i : ℕ) (D : List ℕ) → length ds ≤ i → k < length ys → take k ys ++ depths_from y (drop i (turned_by t ds)) ≡ D → take (k + 1) (set ys k y) ≡ D
  unfolding depths_from
  dig_end ys k y i D h l g = ap (λ (m : ℕ). take m (set ys k y)) (add-one k) ∙ take-suc-set ys k y l ∙ ap (λ (w : List ℕ). take k ys ++ depths_from y w) (sym (none_left i h)) ∙ g

pub over_le : (k i d : ℕ) → k ≤ i → over k d ≤ i + 1
over_le k i zero h = omega arith
over_le k i (suc d) h = omega arith

pub under_le : (n y i d : ℕ) → n ≤ y + i → n ≤ under y d + (i + 1)
under_le n y i zero h = omega arith
under_le n y i (suc d) h = omega arith

-- the chain that a scan leaves stands from left to right
pub scan_rises : (ys s : List ℕ) (n : ℕ) → s ≡ chain_from ys 0 n → n ≤ length ys → Rises (length ys) s
scan_rises ys s n e g = record {
  rises = λ j r. rw e (chain_rises ys n j (omega (arith, ap length e)));
  columns = λ j r. omega (arith, (stack_in ys s 0 0 n j e (omega arith) r).1);
}

-- a part is judged by its letters and by its columns
pub judge_letters : (w : List ℕ) → are_letters w ≡ false → false ≡ convex_part w
unfolding convex_part
judge_letters w e = sym (and_false (are_letters w) (level_of (depths_from (length w) w)) e)

pub judge_columns : (w ys : List ℕ) (m : ℕ) → are_letters w ≡ true → m ≡ length w → ys ≡ depths_from m w → level_of ys ≡ convex_part w
unfolding convex_part
judge_columns w ys m e g f = ap level_of (f ∙ ap (λ (n : ℕ). depths_from n w) g) ∙ sym (and_true (are_letters w) (level_of (depths_from (length w) w)) e)

pub columns_level : (ys s : List ℕ) → s ≡ chain_from ys 0 (length ys) → level_along ys s ≡ level_of ys
unfolding level_of
columns_level ys s h = ap (level_along ys) h
