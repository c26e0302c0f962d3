-- `lines::tell_early` meets its contract.
use mathlib.Core.Path.{◌≡◌, sym, ap, subst}
use mathlib.Core.List.{List, []}
use mathlib.Core.Logic.{◌⊎◌, inl, inr}
use Prim.Native.Nat.{ℕ}
use Rattle.line_fields.specs.Put.{Wrote}
use Rattle.line_fields.proofs.PutLaws.{wrote_nil}
use Rattle.lines.specs.declared.Task.{Task, TheVariants.Answer, TheVariants.Rows, TheVariants.Enter}
use Rattle.lines.specs.Tasks.{job_of}
use Rattle.lines.proofs.tell_early.Goals as goal

none : {t : Task} → (t ≡ Answer) ⊎ ((t ≡ Rows) ⊎ (t ≡ Enter)) → (h s : List ℕ) → [] ≡ (job_of t).early h s
none (inl e) h s = ap (λ (t : Task). (job_of t).early h s) (sym e)
none (inr (inl e)) h s = ap (λ (t : Task). (job_of t).early h s) (sym e)
none (inr (inr e)) h s = ap (λ (t : Task). (job_of t).early h s) (sym e)

pub returns-in-Answer : goal.returns-in-Answer
returns-in-Answer c =
    let a = c.args in
    subst (λ (l : List ℕ). Wrote l a.used a.out.now a.used a.out.now) (none c.in-Answer.is a.h.now a.s.now) (wrote_nil a.used a.out.now)
