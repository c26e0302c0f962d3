-- The bits of a byte of the map: one more is set, and the others stay.
-- Assumes nothing.
use Rattle.std.proofs.Common.{◌≡◌, ℕ, zero, suc, ◌+◌, ◌*◌, ◌%◌, ◌^◌, ◌<◌, Bool, true, false, cond, not, ◌&&◌, ◌||◌, eqb, ltb, sym, refl, ap, ◌∙◌, arith, ltb-true, eq-eqb, ne_eqb}
use native.Mathlib.Decide.{ℕ_discrete}
use lib.Bits.{bit_or}
use Rattle.lists.proofs.GatherLaws.{and_left, and_right, or_right}
use Rattle.grid.specs.Grid.{back}
use Rattle.grid.proofs.StepLaws.{back-mod}
use Rattle.outline_map.specs.Map.{way_on}

-- a test of all numbers below n
abbrev all_below : ℕ → (ℕ → Bool) → Bool
all_below zero f = true
all_below (suc n) f = f n && all_below n f

all_below_lem : (n : ℕ) (f : ℕ → Bool) → all_below n f ≡ true → (k : ℕ) → k < n → f k ≡ true
all_below_lem zero f h k l = absurd (omega arith)
all_below_lem (suc n) f h k l =
    elim (ℕ_discrete k n) [
      | yes e ↦ ap f e ∙ and_left (f n) (all_below n f) h
      | no e ↦ all_below_lem n f (and_right (f n) (all_below n f) h) k (omega arith)
    ]

abbrev agree : Bool → Bool → Bool
agree a b = cond a b (not b)

agree_sound : (a b : Bool) → agree a b ≡ true → a ≡ b
agree_sound true true h = refl
agree_sound true false h = sym h
agree_sound false true h = h
agree_sound false false h = refl

-- setting bit f of the byte m sets it and no other, as computed for all sixteen bytes
abbrev bit_test : ℕ → ℕ → ℕ → Bool
bit_test m f e = ltb (bit_or m (2 ^ f)) 16 && agree (way_on (bit_or m (2 ^ f)) e) (way_on m e || eqb e f)

bits_hold : all_below 16 (λ m. all_below 4 (λ f. all_below 4 (λ e. bit_test m f e))) ≡ true
bits_hold = refl

module _ (m f e : ℕ) (hm : m < 16) (hf : f < 4) (he : e < 4) where
  bit_test_lem : bit_test m f e ≡ true
  bit_test_lem =
      all_below_lem 4 (λ e. bit_test m f e) (all_below_lem 4 (λ f. all_below 4 (λ e. bit_test m f e)) (all_below_lem 16 (λ m. all_below 4 (λ f. all_below 4 (λ e. bit_test m f e))) bits_hold m hm) f hf) e he

  pub bit_small : bit_or m (2 ^ f) < 16
  bit_small = ltb-true (bit_or m (2 ^ f)) 16 (and_left (ltb (bit_or m (2 ^ f)) 16) (agree (way_on (bit_or m (2 ^ f)) e) (way_on m e || eqb e f)) bit_test_lem)

  bit_way : way_on (bit_or m (2 ^ f)) e ≡ (way_on m e || eqb e f)
  bit_way = agree_sound (way_on (bit_or m (2 ^ f)) e) (way_on m e || eqb e f) (and_right (ltb (bit_or m (2 ^ f)) 16) (agree (way_on (bit_or m (2 ^ f)) e) (way_on m e || eqb e f)) bit_test_lem)

  pub bit_more : way_on m e ≡ true → way_on (bit_or m (2 ^ f)) e ≡ true
  bit_more h = bit_way ∙ ap (λ (b : Bool). b || eqb e f) h

  pub bit_there : e ≡ f → way_on (bit_or m (2 ^ f)) e ≡ true
  bit_there h = bit_way ∙ or_right (way_on m e) (eq-eqb e f h)

  pub bit_other : (e ≡ f → ⊥) → way_on (bit_or m (2 ^ f)) e ≡ way_on m e
  bit_other h = bit_way ∙ ap (λ (b : Bool). way_on m e || b) (ne_eqb e f h) ∙ neither (way_on m e)
    where
      neither : (b : Bool) → (b || false) ≡ b
      neither true = refl
      neither false = refl

-- no way at all
pub zero_way : (e : ℕ) → e < 4 → way_on 0 e ≡ false
zero_way zero h = refl
zero_way (suc zero) h = refl
zero_way (suc (suc zero)) h = refl
zero_way (suc (suc (suc zero))) h = refl
zero_way (suc (suc (suc (suc e)))) h = absurd (omega arith)

-- a bit by a shift
pub shift_bit : (d : ℕ) → d < 4 → (1 * 2 ^ d) % 2 ^ 8 ≡ 2 ^ d
shift_bit zero h = refl
shift_bit (suc zero) h = refl
shift_bit (suc (suc zero)) h = refl
shift_bit (suc (suc (suc zero))) h = refl
shift_bit (suc (suc (suc (suc d)))) h = absurd (omega arith)

pub shift_back : (d : ℕ) → d < 4 → (1 * 2 ^ ((d + 2) % 4)) % 2 ^ 8 ≡ 2 ^ back d
shift_back d h = shift_bit ((d + 2) % 4) (omega arith) ∙ ap (λ (e : ℕ). 2 ^ e) (sym (back-mod d h))
