-- The first of several refusals: there is none exactly when none of the list is one.
-- Assumes nothing.
use Rattle.std.specs.Prelude.{Err, Ok}
use mathlib.Core.Bool.{Bool, true, false}
use mathlib.Core.List.{List, [], ◌∷◌, ◌++◌}
use mathlib.Core.Path.{◌≡◌, refl, ap, sym, ◌∙◌}
use Prim.Native.Nat.{ℕ}
use native.Mathlib.Omega.{arith}
use Rattle.answer.specs.Answers.{Judged}
use Rattle.answer.specs.declared.Refusal.{Refusal}
use Rattle.answer.specs.Refusal.{when, or_else, first_of}

pub refused_not_good : (r : Refusal) → ◌≡◌ {A = Judged} (Err r) (Ok tt) → ⊥
refused_not_good r e = let z : ◌≡◌ {A = ℕ} 0 1 = cc in omega arith

pub or_else_good : (a b : Judged) → or_else a b ≡ Ok tt → (a ≡ Ok tt) × (b ≡ Ok tt)
or_else_good (Ok _) b e = (refl, e)
or_else_good (Err r) b e = absurd (refused_not_good r e)

-- none of a list is a refusal
abbrev pub Clear : List Judged → Type 0
Clear [] = Unit {0}
Clear (j ∷ js) = (j ≡ Ok tt) × Clear js

pub clear : (js : List Judged) → first_of js ≡ Ok tt → Clear js
clear [] e = tt
clear (j ∷ js) e = let h = or_else_good j (first_of js) e in (h.0, clear js h.1)

pub clear_first : (js : List Judged) → Clear js → first_of js ≡ Ok tt
clear_first [] h = refl
clear_first (j ∷ js) h = rw h.0 (clear_first js h.1)

pub when_good : (b : Bool) (r : Refusal) → when b r ≡ Ok tt → b ≡ false
when_good true r e = absurd (refused_not_good r e)
when_good false r e = refl

pub or_else-right : (a : Judged) → or_else a (Ok tt) ≡ a
or_else-right (Ok _) = refl
or_else-right (Err r) = refl

or_else_assoc : (a b c : Judged) → or_else (or_else a b) c ≡ or_else a (or_else b c)
or_else_assoc (Ok _) b c = refl
or_else_assoc (Err r) b c = refl

-- one more at the end of the list is judged last
pub first_of-last : (js : List Judged) (j : Judged) → first_of (js ++ (j ∷ [])) ≡ or_else (first_of js) j
first_of-last [] j = or_else-right j
first_of-last (i ∷ js) j = ap (or_else i) (first_of-last js j) ∙ sym (or_else_assoc i (first_of js) j)

-- of two judgements: the first if it is a refusal, otherwise the second
pub first_refused : (a b : Judged) (r : Refusal) → a ≡ Err r → first_of (a ∷ b ∷ []) ≡ Err r
first_refused a b r e = ap (λ (j : Judged). or_else j (or_else b (Ok tt))) e

pub first-last : (a b : Judged) → a ≡ Ok tt → first_of (a ∷ b ∷ []) ≡ b
first-last a b e = ap (λ (j : Judged). or_else j (or_else b (Ok tt))) e ∙ or_else-right b

pub first_good : (a b : Judged) → first_of (a ∷ b ∷ []) ≡ Ok tt → (a ≡ Ok tt) × (b ≡ Ok tt)
first_good a b e = let h = clear (a ∷ b ∷ []) e in (h.0, h.1.0)
