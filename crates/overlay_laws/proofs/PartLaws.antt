-- Any part of two sets of panels has its list: the changes of the part, two by two.
-- Assumes nothing.
use mathlib.Core.Bool.{Bool, true, false, ◌&&◌, ◌||◌}
use mathlib.Core.List.{List, [], ◌∷◌}
use mathlib.Core.Logic.{◌⊎◌, inl, inr, ◌↔◌, ⊎_elim}
use mathlib.Core.Path.{◌≡◌, refl, ap, ap₂, sym, ◌∙◌}
use Prim.Native.Nat.{ℕ, zero, suc, ◌+◌, ◌%◌}
use native.Mathlib.Omega.{arith}
use lib.Dec.{eqb}
use lib.IntN.{ℤ, suc_ℤ}
use lib.ListN.{length}
use lib.Signed.{◌≤ℤ◌, ◌<ℤ◌, lt_z}
use Rattle.int_laws.proofs.LinearLaws.{zarith, le_or_lt}
use Rattle.int_laws.proofs.NextLaws.{bal_suc, true_lt, false_lt}
use Rattle.int_laws.proofs.RangeLaws.{lt_true}
use Rattle.lists.specs.Lists.{tally, count}
use Rattle.grid.specs.declared.{Corner.Corner, Panel.Panel}
use Rattle.grid.specs.Grid.{corner, eq_z}
use Rattle.grid.proofs.CornerLaws.{eq_z_refl, eq_z_not}
use Rattle.panels.specs.Edges.{beside}
use Rattle.panels.proofs.BesideLaws.{beside_other, beside-row}
use Rattle.area_laws.proofs.EvenLaws.{crossed}
use Rattle.row.specs.Rows.{RowsIs}
use Rattle.row_laws.specs.Feet.{ahead, pairs_of}
use Rattle.row_laws.proofs.FootLaws.{Ahead, UpTo, InTurn, ahead_true, ahead_yes, ahead_trans, climbs_in_turn}
use Rattle.row_laws.proofs.PairLaws.{on_row, EvenRows, pair_row, pairs_even, pairs_rows, pairs_length, turn_up-to}
use Rattle.overlay_laws.specs.Join.{Stop, join, changes}
use Rattle.overlay_laws.proofs.JoinLaws.{ones_in, twos_in, join-all, join_turn}
use Rattle.overlay_laws.proofs.ChangeLaws.{ones, twos, changes_pass, changes_turn}

abbrev place : Panel → Corner
place p = corner p.0 p.1

-- ---- tests that stay passed

above : ℤ → Corner → Bool
above b q = lt_z b q.1

level : ℤ → Corner → Bool
level b q = lt_z b (suc_ℤ q.1)

above_mono : (b : ℤ) (p q : Corner) → Ahead p q → above b p ≡ true → above b q ≡ true
unfolding above
above_mono b p q h e = let l : b <ℤ p.1 = lt_true {a = b} {b = p.1} e in true_lt b q.1 (⊎_elim (λ k. omega (zarith, l, k)) (λ k. omega (zarith, l, k.0)) h)

level_mono : (b : ℤ) (p q : Corner) → Ahead p q → level b p ≡ true → level b q ≡ true
unfolding level
level_mono b p q h e =
    let l : b <ℤ suc_ℤ p.1 = lt_true {a = b} {b = suc_ℤ p.1} e in
    true_lt b (suc_ℤ q.1) (⊎_elim (λ k. omega (zarith, l, k, bal_suc p.1, bal_suc q.1)) (λ k. omega (zarith, l, k.0, bal_suc p.1, bal_suc q.1)) h)

ahead_mono : (c p q : Corner) → Ahead p q → ahead c p ≡ true → ahead c q ≡ true
ahead_mono c p q h e = ahead_yes c q (ahead_trans c p q (ahead_true c p e) h)

-- ---- they count what is beside a panel and what is in a row

count-level : (b : ℤ) (l : List Corner) → count (level b) l ≡ count (on_row b) l + count (above b) l
unfolding above level
count-level b [] = refl
count-level b (q ∷ l) = omega (arith, crossed b q.1, count-level b l)

tally-ahead : (p : Panel) (q : Corner) → tally (ahead (place p) q) ≡ tally (above p.1 q) + tally (beside p q)
unfolding above
tally-ahead p q = by (le_or_lt q.1 p.1) (le_or_lt p.1 q.1)
  where
    by : (q.1 ≤ℤ p.1) ⊎ (p.1 <ℤ q.1) → (p.1 ≤ℤ q.1) ⊎ (q.1 <ℤ p.1) → tally (ahead (place p) q) ≡ tally (lt_z p.1 q.1) + tally (beside p q)
    by (inr h) g = omega (arith, ap tally (ahead_yes (place p) q (inl h)), ap tally (true_lt p.1 q.1 h), ap tally (beside_other p q (λ e. omega (zarith, e, h))))
    by (inl h) (inl g) =
        let e : q.1 ≡ p.1 = omega (zarith, h, g) in
        omega (arith, ap tally (ap₂ (λ (x y : Bool). x || (y && lt_z p.0 q.0)) (false_lt p.1 q.1 h) (ap (eq_z p.1) e ∙ eq_z_refl p.1)), ap tally (false_lt p.1 q.1 h), ap tally (beside-row p q e))
    by (inl h) (inr g) =
        let f : q.1 ≡ p.1 → ⊥ = λ e. omega (zarith, e, g) in
        omega (arith, ap tally (ap₂ (λ (x y : Bool). x || (y && lt_z p.0 q.0)) (false_lt p.1 q.1 h) (eq_z_not p.1 q.1 (λ e. f (sym e)))), ap tally (false_lt p.1 q.1 h), ap tally (beside_other p q f))

count-ahead : (p : Panel) (l : List Corner) → count (ahead (place p)) l ≡ count (above p.1) l + count (beside p) l
count-ahead p [] = refl
count-ahead p (q ∷ l) = omega (arith, tally-ahead p q, count-ahead p l)

-- even above any row if every row is even
above_even : (b : ℤ) (qs : List Corner) → InTurn UpTo qs → EvenRows qs → count (above b) qs % 2 ≡ 0
unfolding above
above_even b [] g even = refl
above_even b (x ∷ []) g even = absurd (omega (arith, even x.1, ap tally (eq_z_refl x.1)))
above_even b (x ∷ y ∷ qs) g even =
    let r = pair_row x y qs g even in
    omega (arith, above_even b qs (climbs_in_turn UpTo y qs g.1) (pairs_even x y qs r even), ap (λ (z : ℤ). tally (lt_z b z)) r)

pub tally-odd : (n : ℕ) → tally (eqb (n % 2) 1) ≡ n % 2
tally-odd n = by (n % 2) (omega arith)
  where
    by : (m : ℕ) → m % 2 ≡ m → tally (eqb m 1) ≡ m
    by zero h = refl
    by (suc zero) h = refl
    by (suc (suc m)) h = absurd (omega (arith, h))

tally_true : (b : Bool) → tally b ≡ 1 ↔ (b ≡ true)
tally_true true = (λ e. refl, λ e. refl)
tally_true false = (λ e. absurd (omega (arith, e)), λ e. omega (arith, ap tally e))

length-count : (l : List Corner) → count (λ q. true) l ≡ length l
length-count [] = refl
length-count (x ∷ l) = omega (arith, length-count l)

all_ones : (J : List Stop) → (ones_in (λ q. true) J ≡ ones J) × (twos_in (λ q. true) J ≡ twos J)
all_ones [] = (refl, refl)
all_ones (t ∷ J) = let r = all_ones J in (omega (arith, r.0, ap tally (and_true t.one)), omega (arith, r.1, ap tally (and_true t.two)))
  where
    and_true : (b : Bool) → (b && true) ≡ b
    and_true true = refl
    and_true false = refl

-- an odd number of the lower ends is beside the panel
abbrev pub within : List Corner → Panel → Bool
within P p = eqb (count (beside p) P % 2) 1

-- sorted lower ends, all different and an even number in each row
pub record Ends (P : List Corner) : Type 0 where
  pub sorted : InTurn Ahead P
  pub even : EvenRows P

module _ (P Q : List Corner) (eP : Ends P) (eQ : Ends Q) where
  abbrev stops_of : List Stop
  stops_of = join (length P + length Q) P Q

  whole_even : (S : List Corner) → Ends S → length S % 2 ≡ 0
  whole_even S s = omega (arith, pairs_length S (turn_up-to S s.sorted) s.even)

  stops_even : (ones stops_of % 2 ≡ 0) × (twos stops_of % 2 ≡ 0)
  stops_even =
      let r = join-all (λ q. true) (length P + length Q) P Q (omega arith) in
      let u = all_ones stops_of in
      (omega (arith, r.0, u.0, length-count P, whole_even P eP), omega (arith, r.1, u.1, length-count Q, whole_even Q eQ))

  module _ (part : Bool → Bool → Bool) (none : part false false ≡ false) where
    abbrev pub ends_of : List Corner
    ends_of = changes part false false stops_of

    ends_pass : (T : Corner → Bool) → ((p q : Corner) → Ahead p q → T p ≡ true → T q ≡ true) → (x y : Bool) → tally x ≡ count T P % 2 → tally y ≡ count T Q % 2 → count T ends_of % 2 ≡ tally (part x y)
    ends_pass T mono x y e f =
        let r = join-all T (length P + length Q) P Q (omega arith) in
        changes_pass part none T mono stops_of false false x y (sym stops_even.0) (sym stops_even.1) (e ∙ ap (λ (n : ℕ). n % 2) (sym r.0)) (f ∙ ap (λ (n : ℕ). n % 2) (sym r.1))
        (join_turn (length P + length Q) P Q eP.sorted eQ.sorted)

    above-ends : (b : ℤ) → count (above b) ends_of % 2 ≡ 0
    above-ends b =
        ends_pass (above b) (above_mono b) false false (sym (above_even b P (turn_up-to P eP.sorted) eP.even)) (sym (above_even b Q (turn_up-to Q eQ.sorted) eQ.even)) ∙ ap tally none

    level_even : (b : ℤ) (S : List Corner) → Ends S → count (level b) S % 2 ≡ 0
    level_even b S s = omega (arith, count-level b S, s.even b, above_even b S (turn_up-to S s.sorted) s.even)

    ends_even : EvenRows ends_of
    ends_even b =
        omega (arith, count-level b ends_of, above-ends b, ends_pass (level b) (level_mono b) false false (sym (level_even b P eP)) (sym (level_even b Q eQ)), ap tally none)

    pub ends-ends : Ends ends_of
    ends-ends = record { sorted = changes_turn part stops_of false false (join_turn (length P + length Q) P Q eP.sorted eQ.sorted); even = ends_even }

    beside-ends : (p : Panel) → count (beside p) ends_of % 2 ≡ tally (part (within P p) (within Q p))
    beside-ends p =
        let k = ends_pass (ahead (place p)) (ahead_mono (place p)) (within P p) (within Q p) (at P eP) (at Q eQ) in
        omega (arith, k, count-ahead p ends_of, above-ends p.1)
      where
        at : (S : List Corner) → Ends S → tally (within S p) ≡ count (ahead (place p)) S % 2
        at S s = omega (arith, tally-odd (count (beside p) S), count-ahead p S, above_even p.1 S (turn_up-to S s.sorted) s.even)

    -- the list of the part
    pub part_rows : RowsIs (λ p. part (within P p) (within Q p) ≡ true) (pairs_of ends_of)
    part_rows =
        let k = pairs_rows ends_of ends-ends.sorted ends_even in
        record {
          order = k.order;
          panels = λ p. (λ n. (tally_true (part (within P p) (within Q p))).0 (sym (beside-ends p) ∙ (k.panels p).0 n), λ n. (k.panels p).1 (beside-ends p ∙ (tally_true (part (within P p) (within Q p))).1 n));
        }
