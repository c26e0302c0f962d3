-- The steps of a walk in its chain: one more, one less, and zeros after the last.
-- Assumes nothing.
use mathlib.Core.List.{List, [], ◌∷◌, ◌++◌}
use mathlib.Core.Logic.{inl, inr}
use mathlib.Core.Path.{◌≡◌, refl, ap, sym, ◌∙◌, subst}
use Prim.Native.Nat.{ℕ, suc, ◌+◌, ◌-◌, ◌<◌, ◌≤◌}
use native.Mathlib.Omega.{arith}
use lib.IntN.{nat_abs}
use lib.ListN.{length, length-append, length-set, take, get_or, set, replicate}
use lib.Seq.{take-suc, take-suc-set, take_at, length-take-le}
use Rattle.answer.specs.Limits.{most_steps, most_start, Near}
use Rattle.grid.specs.declared.Corner.{Corner}
use Rattle.grid.specs.Grid.{end_from}
use Rattle.lists.specs.Lists.{Below}
use Rattle.steps.specs.Operations.{operate, Walkable}
use Rattle.grid.proofs.BoundLaws.{end_from_bound}
use Rattle.steps.proofs.SurvivorLaws.{operate_step, operate-back, below_last, walkable_operate}
use Rattle.walk_step.specs.Chains.{ChainKeeps}

-- no step yet
pub keeps_none : (c : Corner) (ch : List ℕ) → Near c → ChainKeeps c ch []
keeps_none c ch n = record { near = n; sound = record { digits = tt; few = omega arith }; kept = refl; space = omega arith }

module _ (c : Corner) (ch ds : List ℕ) (k : ChainKeeps c ch ds) where
  -- the end of the walk is not far out
  pub keeps_near : (a : Corner) → a ≡ end_from c ds → (nat_abs a.0 < 65536) × (nat_abs a.1 < 65536)
  keeps_near a e =
      let h = end_from_bound ds c in
      let x : nat_abs a.0 ≡ nat_abs (end_from c ds).0 = ap (λ (x : Corner). nat_abs x.0) e in
      let y : nat_abs a.1 ≡ nat_abs (end_from c ds).1 = ap (λ (x : Corner). nat_abs x.1) e in
      (less (nat_abs a.0) (nat_abs (end_from c ds).0) (nat_abs c.0) (length ds) x h.0 k.near.0 k.sound.few, less (nat_abs a.1) (nat_abs (end_from c ds).1) (nat_abs c.1) (length ds) y h.1 k.near.1 k.sound.few)
    where
      less : (a b m n : ℕ) → a ≡ b → b ≤ m + n → m ≤ most_start → n ≤ most_steps → a < 65536
      less a b m n p q r s = omega arith

  -- the last step of n, read from the chain
  module _ (n : ℕ) (i : n ≡ length ds) (some : 0 < n) where
    pub keeps_place : n - 1 < length ch
    keeps_place = omega (arith, i, k.space)

    pub keeps_split : ds ≡ take (n - 1) ch ++ (get_or ch (n - 1) 0 ∷ [])
    keeps_split =
        let p : length ds ≡ suc (n - 1) = omega (arith, i) in
        k.kept ∙ ap (λ (m : ℕ). take m ch) p ∙ take-suc ch (n - 1) 0 keeps_place

    pub keeps_digit : get_or ch (n - 1) 0 < 4
    keeps_digit = below_last (take (n - 1) ch) (get_or ch (n - 1) 0) (subst (λ (l : List ℕ). Below 4 l) keeps_split k.sound.digits)

    pub keeps_back : ChainKeeps c ch (take (n - 1) ch)
    keeps_back =
        let m : length (take (n - 1) ch) ≡ n - 1 = length-take-le (n - 1) ch (omega (arith, keeps_place)) in
        record {
          near = k.near;
          sound = subst Walkable (ap (λ (l : List ℕ). operate l 4) keeps_split ∙ operate-back (take (n - 1) ch) (get_or ch (n - 1) 0)) (walkable_operate ds 4 k.sound (inl (refl, omega (arith, i))));
          kept = ap (λ (x : ℕ). take x ch) (sym m);
          space = omega (arith, m, keeps_place);
        }

  -- a step more, written after the n that are there
  pub keeps_step : (n : ℕ) → n ≡ length ds → (d : ℕ) → d < 4 → n < most_steps → n < length ch → ChainKeeps c (set ch n d) (ds ++ (d ∷ []))
  keeps_step n i d small few place =
      let m : length (ds ++ (d ∷ [])) ≡ suc n = omega (arith, length-append ds (d ∷ []), i) in
      let t : take n ch ≡ ds = ap (λ (x : ℕ). take x ch) i ∙ sym k.kept in
      record {
        near = k.near;
        sound = subst Walkable (operate_step ds d small) (walkable_operate ds d k.sound (inr (small, omega (arith, i))));
        kept = ap (λ (l : List ℕ). l ++ (d ∷ [])) (sym t) ∙ sym (take-suc-set ch n d place) ∙ ap (λ (x : ℕ). take x (set ch n d)) (sym m);
        space = omega (arith, m, length-set ch n d);
      }

  -- zeros after the n that are there
  module _ (n : ℕ) (i : n ≡ length ds) (ch' : List ℕ) (e : ch' ≡ take n ch ++ replicate (length ch - n) 0) where
    pub keeps_zeros : ch' ≡ ds ++ replicate (length ch - length ds) 0
    keeps_zeros = e ∙ ap (λ (x : ℕ). take x ch ++ replicate (length ch - x) 0) i ∙ ap (λ (x : List ℕ). x ++ replicate (length ch - length ds) 0) (sym k.kept)

    pub keeps_end : ChainKeeps c ch' ds
    keeps_end = record {
      near = k.near;
      sound = k.sound;
      kept = sym (ap (take (length ds)) keeps_zeros ∙ take_at ds (replicate (length ch - length ds) 0) (length ds) refl);
      space = omega (arith, ap length keeps_zeros, length-append ds (replicate (length ch - length ds) 0));
    }
