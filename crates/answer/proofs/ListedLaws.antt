-- What the answer of a call that lists says of its judgement.
-- Assumes nothing.
use Rattle.std.specs.Prelude.{Err, Ok}
use mathlib.Core.Path.{◌≡◌, refl}
use Prim.Native.Nat.{ℕ}
use native.Mathlib.Omega.{arith}
use Rattle.answer.specs.Answers.{Judged}
use Rattle.answer.specs.declared.Refusal.{Refusal}
use Rattle.answer.specs.Listed.{counted_of}

pub count_refused : (j : Judged) (n : ℕ) (q : Refusal) → Err q ≡ counted_of j n → j ≡ Err q
count_refused (Ok _) n q e = absurd (let z : ◌≡◌ {A = ℕ} 0 1 = cc in omega arith)
count_refused (Err r) n q e = cc

pub count_good : (j : Judged) (n : ℕ) → Ok n ≡ counted_of j n → j ≡ Ok tt
count_good (Ok _) n e = refl
count_good (Err r) n e = absurd (let z : ◌≡◌ {A = ℕ} 0 1 = cc in omega arith)
