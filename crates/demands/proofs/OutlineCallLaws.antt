-- The judgements of the outline's call are given on their occasions and on no other; its promise taken apart.
-- Assumes nothing.
use Rattle.std.specs.Prelude.{Err, Ok}
use mathlib.Core.Bool.{Bool}
use mathlib.Core.List.{List, ◌++◌}
use mathlib.Core.Logic.{◌↔◌}
use mathlib.Core.Path.{◌≡◌, refl, ap, sym, ◌∙◌, subst}
use Prim.Native.Nat.{ℕ, ◌*◌, ◌≤◌}
use native.Mathlib.Decide.{dec_lt}
use native.Mathlib.Omega.{arith}
use borrow.Author.Tests.{lt-ltb, le-ltb}
use lib.Dec.{ltb}
use lib.ListN.{length, drop}
use Rattle.answer.specs.Answers.{Counted, Judged}
use Rattle.answer.specs.declared.{Refusal.Refusal}
use Rattle.answer.specs.declared.Refusal.TheVariants.{OutlineRoom}
use Rattle.answer.specs.Limits.{most_steps}
use Rattle.answer.specs.Refusal.{when}
use Rattle.answer.specs.Listed.{counted_of, laid_if}
use Rattle.answer.proofs.RefusalLaws.{first_good}
use Rattle.answer.proofs.ListedLaws.{count_refused, count_good}
use Rattle.grid.specs.declared.Corner.{Corner}
use Rattle.steps.specs.Chain.{as_walk_judged}
use Rattle.steps.proofs.ChainLaws.{good_walk}
use Rattle.outline.specs.Call.{outline_judged, OutlineCall}
use Rattle.outline_laws.proofs.OutlineLaws.{outline_short}
use Rattle.outline_laws.proofs.CallLaws.{judged_refused, judged-last}
use Rattle.demands.specs.GivenChain.{GivenChain}
use Rattle.demands.specs.GivenOutline.{GivenOutline}
use Rattle.demands.specs.GivenOutline as given
use Rattle.demands.proofs.DigitLaws.{chain-when}

module _ (s : Corner) (ds : List ℕ) (room steps : ℕ) where
  last : GivenChain s ds (Ok tt) → outline_judged s ds room steps ≡ when (ltb room steps) OutlineRoom
  last g = judged-last s ds room steps ((chain-when s ds (Ok tt)).1 g)

  given_outline : (j : Judged) → GivenOutline s ds room steps j → outline_judged s ds room steps ≡ j
  given_outline _ (given.not_walk q g) = judged_refused s ds room steps q ((chain-when s ds (Err q)).1 g)
  given_outline _ (given.outline_room g l) = last g ∙ ap (λ (b : Bool). when b OutlineRoom) (lt-ltb room steps l)
  given_outline _ (given.accepted g l) = last g ∙ ap (λ (b : Bool). when b OutlineRoom) (le-ltb room steps l)

  by_chain : (j : Judged) → as_walk_judged s ds ≡ j → (k : Judged) × GivenOutline s ds room steps k
  by_chain (Ok _) e =
      let g = (chain-when s ds (Ok tt)).0 e in
      elim (dec_lt room steps) [ yes k ↦ (Err OutlineRoom, given.outline_room g k) | no k ↦ (Ok tt, given.accepted g (omega arith)) ]
  by_chain (Err q) e = (Err q, given.not_walk q ((chain-when s ds (Err q)).0 e))

  outline_when : (j : Judged) → outline_judged s ds room steps ≡ j ↔ GivenOutline s ds room steps j
  outline_when j =
      let y = by_chain (as_walk_judged s ds) refl in
      (λ e. subst (GivenOutline s ds room steps) (sym (given_outline y.0 y.1) ∙ e) y.1, given_outline j)

module _ {s : Corner} {ds before : List ℕ} {r : Counted} {after : List ℕ} (w : OutlineCall s ds before r after) where
  abbrev n : ℕ
  n = length w.steps

  abbrev judged : Judged
  judged = outline_judged s ds (length before) n

  pub refused_when : (q : Refusal) → r ≡ Err q ↔ GivenOutline s ds (length before) (length w.steps) (Err q)
  refused_when q = (
    λ e. (outline_when s ds (length before) n (Err q)).0 (count_refused judged n q (sym e ∙ w.answer)),
    λ g. w.answer ∙ ap (λ (j : Judged). counted_of j n) ((outline_when s ds (length before) n (Err q)).1 g),
  )

  pub written_when : r ≡ Ok (length w.steps) ↔ GivenOutline s ds (length before) (length w.steps) (Ok tt)
  written_when = (
    λ e. (outline_when s ds (length before) n (Ok tt)).0 (count_good judged n (sym e ∙ w.answer)),
    λ g. w.answer ∙ ap (λ (j : Judged). counted_of j n) ((outline_when s ds (length before) n (Ok tt)).1 g),
  )

module _ (s : Corner) (ds before : List ℕ) {after : List ℕ} (n : ℕ) (w : OutlineCall s ds before (Ok n) after) where
  call_good : (outline_judged s ds (length before) (length w.steps) ≡ Ok tt) × (n ≡ length w.steps) × (after ≡ w.steps ++ drop (length w.steps) before)
  call_good = go (outline_judged s ds (length before) (length w.steps)) refl w.answer w.buffer
    where
      go : (j : Judged) → outline_judged s ds (length before) (length w.steps) ≡ j → Ok n ≡ counted_of j (length w.steps) → after ≡ laid_if j w.steps before
          → (outline_judged s ds (length before) (length w.steps) ≡ Ok tt) × (n ≡ length w.steps) × (after ≡ w.steps ++ drop (length w.steps) before)
      go (Ok _) f e b = (f, cc, b)
      go (Err q) f e b = absurd (let z : ◌≡◌ {A = ℕ} 0 1 = cc in omega arith)

  pub call_written : (n ≡ length w.steps) × (after ≡ w.steps ++ drop (length w.steps) before)
  call_written = let g = call_good in (g.1, g.2)

  -- a walk that is not refused has at most 16,384 steps, and its outline twice as many
  pub call_most : n ≤ 2 * most_steps
  call_most =
      let g = call_good in
      let e = (first_good (as_walk_judged s ds) (when (ltb (length before) (length w.steps)) OutlineRoom) g.0).0 in
      omega (arith, g.1, outline_short w.outline, (good_walk s ds e).short)
