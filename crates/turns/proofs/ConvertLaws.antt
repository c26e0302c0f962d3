-- A buffer that is filled digit by digit, either way.
-- Assumes nothing.
use Rattle.std.proofs.Common.{◌≡◌, ℕ, suc, ◌+◌, ◌<◌, ◌≤◌, List, [], ◌∷◌, ◌++◌, length, get_or, take, drop, set, sym, refl, ap, ◌∙◌, ap₂, append-nil, add-one, arith, length-set, drop_of_length-le, take_all, drop-cons, take-suc-set}
use lib.Seq.{append_snoc}
use Rattle.std.specs.Prelude.{Err}
use Rattle.lists.specs.Lists.{Below}
use Rattle.answer.specs.Answers.{Judged}
use Rattle.answer.specs.declared.Refusal.{Refusal}
use Rattle.steps.specs.Turns.{turns_judged, written_if, ConvertedBy}
use Rattle.steps.proofs.TurnLaws.{turns_from-east, steps_from-east}
use Rattle.turns.specs.declared.Way.{Way}
use Rattle.turns.specs.declared.Way.TheVariants.{ToTurns, ToSteps}
use Rattle.turns.specs.Way.{digit_by, step_by, convert_from, convert_of}

-- the conversion has no digit of none, and of one more it writes its digit and goes on from the step there
from_nil : (way : Way) (a : ℕ) → convert_from way a [] ≡ []
from_nil ToTurns a = refl
from_nil ToSteps a = refl

from_cons : (way : Way) (a x : ℕ) (xs : List ℕ) → convert_from way a (x ∷ xs) ≡ digit_by way a x ∷ convert_from way (step_by way x (digit_by way a x)) xs
from_cons ToTurns a x xs = refl
from_cons ToSteps a x xs = refl

-- the step east before the first digit changes nothing
from-east : (way : Way) (ds : List ℕ) → Below 4 ds → convert_from way 0 ds ≡ convert_of way ds
from-east ToTurns = turns_from-east
from-east ToSteps = steps_from-east

step_by_lt : (way : Way) (x y : ℕ) → x < 4 → y < 4 → step_by way x y < 4
step_by_lt ToTurns x y h k = h
step_by_lt ToSteps x y h k = k

-- the first i digits are converted, a is the step before the rest, and what is left gives the whole
pub record SoFar (way : Way) (ds out : List ℕ) (a i : ℕ) : Type 0 where
  pub within : i ≤ length ds
  pub long : length out ≡ length ds
  pub small : a < 4
  pub left : take i out ++ convert_from way a (drop i ds) ≡ convert_from way 0 ds

pub one_more : (way : Way) (ds out : List ℕ) (a i y b : ℕ) → i < length ds → y ≡ digit_by way a (get_or ds i 0) → b ≡ step_by way (get_or ds i 0) y
    → get_or ds i 0 < 4 → y < 4 → SoFar way ds out a i → SoFar way ds (set out i y) b (i + 1)
one_more way ds out a i y b h ey eb lx ly s =
    let x = get_or ds i 0 in
    let e : convert_from way a (drop i ds) ≡ y ∷ convert_from way b (drop (suc i) ds) =
    ap (convert_from way a) (drop-cons ds i 0 h)
    ∙ from_cons way a x (drop (suc i) ds)
    ∙ ap (λ (v : ℕ). v ∷ convert_from way (step_by way x v) (drop (suc i) ds)) (sym ey)
    ∙ ap (λ (v : ℕ). y ∷ convert_from way v (drop (suc i) ds)) (sym eb) in
    record {
      within = omega arith;
      long = simp length-set s.long;
      small = omega (arith, eb, step_by_lt way x y lx ly);
      left = rw (add-one, take-suc-set out i y (omega (arith, s.long)), append_snoc) (ap (λ (l : List ℕ). take i out ++ l) (sym e) ∙ s.left);
    }

pub all_done : (way : Way) (ds out : List ℕ) (a i : ℕ) → length ds ≤ i → Below 4 ds → SoFar way ds out a i → out ≡ convert_of way ds
all_done way ds out a i h b s =
    let t : take i out ≡ out = take_all i out (omega (arith, s.long)) in
    let r : convert_from way a (drop i ds) ≡ [] = ap (convert_from way a) (drop_of_length-le ds h) ∙ from_nil way a in
    sym (append-nil out) ∙ sym (ap₂ (λ (k l : List ℕ). k ++ l) t r) ∙ s.left ∙ from-east way ds b

-- a refused call leaves the buffer as it was
pub kept : (convert : List ℕ → List ℕ) (ds out : List ℕ) (r : Judged) (x : Refusal) → r ≡ turns_judged ds (length out) → r ≡ Err x → ConvertedBy convert ds out r out
kept convert ds out r x e f = record { answer = e; buffer = ap (λ (j : Judged). written_if j (convert ds) out) (sym f ∙ e) }
