-- Operations of two parties in one string of bytes, the surviving steps of each, and the refusals 20, 4, 5 and 6 (RULES 19.1,
-- 19.7). Assumes nothing.
use Rattle.std.specs.Prelude.{Bool, true, false, cond, List, [], ◌∷◌, ℕ, zero, suc, ◌/◌, ◌%◌, eqb, Ok, ltb}
use Rattle.answer.specs.Answers.{Judged}
use Rattle.answer.specs.declared.{Refusal.TheVariants.UnknownParty}
use Rattle.answer.specs.Refusal.{when, or_else}
use Rattle.steps.specs.Operations.{operate, survivors, fault_of, after}

-- a byte is 16 times the party, 0 or 1, plus the number of the operation
abbrev pub party_of : ℕ → ℕ
party_of o = o / 16

abbrev pub op_of : ℕ → ℕ
op_of o = o % 16

-- what is party q's, of what is the first's and the second's
abbrev pub by_party : {A : Type 0} → ℕ → A → A → A
by_party zero x y = x
by_party (suc q) x y = y

-- the byte is an operation of party q
abbrev pub moves : ℕ → ℕ → Bool
moves q o = eqb (party_of o) q

-- the operations of party q alone, as their numbers
abbrev pub own_ops : ℕ → List ℕ → List ℕ
own_ops q [] = []
own_ops q (o ∷ os) = elim (moves q o) [ true ↦ op_of o ∷ own_ops q os | false ↦ own_ops q os ]

-- the surviving steps of party q: a take-back concerns that party's last step
abbrev pub steps_by : ℕ → List ℕ → List ℕ
steps_by q os = survivors (own_ops q os)

-- one byte: the party that moves has its operation, the other keeps its steps
abbrev pub moved_by : ℕ → List ℕ → ℕ → List ℕ
moved_by q steps o = elim (moves q o) [ true ↦ operate steps (op_of o) | false ↦ steps ]

-- how many steps of party q survive it
abbrev pub after_by : ℕ → ℕ → ℕ → ℕ
after_by q n o = elim (moves q o) [ true ↦ after n (op_of o) | false ↦ n ]

-- what is wrong with byte o at place i, if m steps of party 0 and n steps of party 1 survive: 20, unknown party; then 4, 5 and 6
-- for the party that moves
abbrev pub byte_fault_of : ℕ → ℕ → ℕ → ℕ → Judged
byte_fault_of i m n o = or_else (when (ltb 1 (party_of o)) (UnknownParty i)) (fault_of i (cond (moves 0 o) m n) (op_of o))

-- the first fault, with m and n steps surviving at place i
abbrev pub bytes_judged : ℕ → ℕ → ℕ → List ℕ → Judged
bytes_judged i m n [] = Ok tt
bytes_judged i m n (o ∷ os) = or_else (byte_fault_of i m n o) (bytes_judged (suc i) (after_by 0 m o) (after_by 1 n o) os)
