-- The hull's and the conversions' promises: an answer for every input, and an untouched buffer for a refused one.
-- Assumes nothing.
use Rattle.std.specs.Prelude.{Err, Ok}
use mathlib.Core.List.{List, ◌++◌}
use mathlib.Core.Path.{◌≡◌, refl, ap, sym, ◌∙◌}
use Prim.Native.Nat.{ℕ, ◌*◌}
use native.Mathlib.Omega.{arith}
use lib.IntN.{ℤ}
use lib.ListN.{length, drop}
use Rattle.answer.specs.Answers.{Counted, Judged}
use Rattle.answer.specs.declared.Refusal.{Refusal}
use Rattle.grid.specs.declared.Corner.{Corner}
use Rattle.steps.specs.Turns.{turns_judged, written_if, ConvertedBy}
use Rattle.hull.specs.Call.{hull_judged, HullCall}
use Rattle.answer.specs.Listed.{counted_of, laid_if}
use Rattle.grid.specs.Grid.{numbers}
use Rattle.hull_laws.proofs.HullLaws.{hull_exists}
use Rattle.hull_laws.proofs.JoinLaws.{length-numbers}

-- ---- conversions
pub converted_some : (convert : List ℕ → List ℕ) (ds out : List ℕ) → (r : Judged) × (out' : List ℕ) × ConvertedBy convert ds out r out'
converted_some convert ds out = (turns_judged ds (length out), written_if (turns_judged ds (length out)) (convert ds) out, record { answer = refl; buffer = refl })

pub converted_untouched : {convert : List ℕ → List ℕ} {ds out out' : List ℕ} (q : Refusal) → ConvertedBy convert ds out (Err q) out' → out' ≡ out
converted_untouched {convert} {ds} {out} q p = p.buffer ∙ ap (λ (j : Judged). written_if j (convert ds) out) (sym p.answer)

pub converted_written : {convert : List ℕ → List ℕ} {ds out out' : List ℕ} → ConvertedBy convert ds out (Ok tt) out' → out' ≡ convert ds
converted_written {convert} {ds} {out} p = p.buffer ∙ ap (λ (j : Judged). written_if j (convert ds) out) (sym p.answer)

-- ---- hulls
module _ (s : Corner) (chain : List ℕ) (before : List ℤ) where
  abbrev judged : List Corner → Judged
  judged L = hull_judged s chain (length before) (length L)

  pub hull_call_some : (r : Counted) × (after : List ℤ) × HullCall s chain before r after
  hull_call_some =
      let h = hull_exists s chain in
      (counted_of (judged h.0) (length h.0), laid_if (judged h.0) (numbers h.0) before, record { list = h.0; hull = h.1; answer = refl; buffer = refl })

  pub hull_untouched : {after : List ℤ} (q : Refusal) → HullCall s chain before (Err q) after → after ≡ before
  hull_untouched q p = p.buffer ∙ by (judged p.list) p.answer
    where
      by : (j : Judged) → Err q ≡ counted_of j (length p.list) → laid_if j (numbers p.list) before ≡ before
      by (Ok _) e = absurd (let z : ◌≡◌ {A = ℕ} 0 1 = cc in omega arith)
      by (Err r) e = refl

  pub hull_written : {after : List ℤ} (n : ℕ) (p : HullCall s chain before (Ok n) after) → (n ≡ length p.list) × (after ≡ numbers p.list ++ drop (2 * length p.list) before)
  hull_written {after} n p = by (judged p.list) p.answer p.buffer
    where
      by : (j : Judged) → Ok n ≡ counted_of j (length p.list) → after ≡ laid_if j (numbers p.list) before → (n ≡ length p.list) × (after ≡ numbers p.list ++ drop (2 * length p.list) before)
      by (Ok _) e b = (cc, b ∙ ap (λ (k : ℕ). numbers p.list ++ drop k before) (length-numbers p.list))
      by (Err r) e b = absurd (let z : ◌≡◌ {A = ℕ} 0 1 = cc in omega arith)
