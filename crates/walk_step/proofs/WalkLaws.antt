-- A step and a take-back of a walk with its tally, from those of the two parts.
-- Assumes nothing.
use Rattle.std.specs.Prelude.{None, Option, Some}
use mathlib.Core.List.{List, [], ◌∷◌, ◌++◌}
use mathlib.Core.Path.{◌≡◌, sym, subst}
use Prim.Native.Nat.{ℕ, suc, ◌+◌, ◌<◌, ◌≤◌}
use native.Mathlib.Omega.{arith}
use lib.ListN.{length, length-append}
use Rattle.answer.specs.Limits.{no_meeting}
use Rattle.grid.specs.declared.Corner.{Corner}
use Rattle.grid.specs.Grid.{same, stepped, corners_from}
use Rattle.trace.specs.Meeting.{visited_of}
use Rattle.grid.proofs.StepLaws.{length-corners_from}
use Rattle.lists.proofs.GatherLaws.{gather_le, gather_ge}
use Rattle.walk_step.specs.declared.Spot.{Spot}
use Rattle.walk_step.specs.declared.Tally.{Tally}
use Rattle.walk_step.specs.declared.Walk.{Walk}
use Rattle.walk_step.specs.Spots.{Walked, Stepped, Went}
use Rattle.walk_step.specs.Tallies.{TallyIs}
use Rattle.walk_step.specs.Walks.{Known, Knowing, Advanced}

-- a walk has a corner, and one more with each step at most
pub visited_some : (c : Corner) (ds : List ℕ) → 0 < length (visited_of (corners_from c ds))
visited_some c [] = omega arith
visited_some c (d ∷ ds) = omega (arith, gather_ge same (c ∷ []) (corners_from (stepped d c) ds))

pub visited_few : (c : Corner) (ds : List ℕ) → length (visited_of (corners_from c ds)) ≤ length ds + 1
visited_few c ds = omega (arith, gather_le same [] (corners_from c ds), length-corners_from c ds)

pub corners_some : (t : List ℕ) (c : Corner) (ds : List ℕ) (w : Walk) → Known t c ds w → 0 < w.tally.corners
corners_some t c ds w k = subst (λ (n : ℕ). 0 < n) (sym k.counted.seen) (visited_some c ds)

corners_few : (t : List ℕ) (c : Corner) (ds : List ℕ) (w : Walk) → Known t c ds w → w.tally.corners ≤ w.spot.steps + 1
corners_few t c ds w k = less w.tally.corners (length (visited_of (corners_from c ds))) (length ds) w.spot.steps k.counted.seen (visited_few c ds) k.walked.steps
  where
    less : (a b n s : ℕ) → a ≡ b → b ≤ n + 1 → s ≡ n → a ≤ s + 1
    less a b n s p q r = omega arith

-- where the step led
module _ (t t' : List ℕ) (w : Walk) (d : ℕ) (r : Option Spot) (next : Spot) (f : (c : Corner) (ds : List ℕ) → Walked t c ds w.spot → Went (length t) t' c (ds ++ (d ∷ [])) r) (e : r ≡ Some next) where
  went : (c : Corner) (ds : List ℕ) → Walked t c ds w.spot → Walked t' c (ds ++ (d ∷ [])) next × (length t' ≡ length t)
  went c ds k = subst (λ (g : Option Spot). Went (length t) t' c (ds ++ (d ∷ [])) g) e (f c ds k)

  pub advance_stepped : Knowing t w → w.spot.steps + 1 < no_meeting → Stepped t' next d × (next.steps < no_meeting) × (w.tally.corners < 65536)
  advance_stepped k small =
      let h = (went k.start k.chain k.known.walked).0 in
      let n : next.steps ≡ suc w.spot.steps = one next.steps (length (k.chain ++ (d ∷ []))) (length k.chain) w.spot.steps h.steps (length-append k.chain (d ∷ [])) k.known.walked.steps in
      (record { start = k.start; chain = k.chain; walked = h }, omega (arith, n), omega (arith, corners_few t k.start k.chain w k.known))
    where
      one : (a b n s : ℕ) → a ≡ b → b ≡ n + 1 → s ≡ n → a ≡ suc s
      one a b n s p q z = omega arith

  pub advance_to : (m : Tally) → ((c : Corner) (ds : List ℕ) → Walked t' c (ds ++ (d ∷ [])) next → TallyIs c ds w.tally → TallyIs c (ds ++ (d ∷ [])) m)
      → (v : Walk) → v.spot ≡ next → v.tally ≡ m → (c : Corner) (ds : List ℕ) → Known t c ds w → Advanced (length t) t' c (ds ++ (d ∷ [])) (Some v)
  advance_to m g v p q c ds k =
      let h = went c ds k.walked in
      (record { walked = subst (λ (s : Spot). Walked t' c (ds ++ (d ∷ [])) s) (sym p) h.0; counted = subst (λ (x : Tally). TallyIs c (ds ++ (d ∷ [])) x) (sym q) (g c ds h.0 k.counted) }, h.1)

pub advance_full : (t t' : List ℕ) (w : Walk) (d : ℕ) (r : Option Spot) → ((c : Corner) (ds : List ℕ) → Walked t c ds w.spot → Went (length t) t' c (ds ++ (d ∷ [])) r) → r ≡ None
    → (c : Corner) (ds : List ℕ) → Known t c ds w → Advanced (length t) t' c (ds ++ (d ∷ [])) None
advance_full t t' w d r f e c ds k = subst (λ (g : Option Spot). Went (length t) t' c (ds ++ (d ∷ [])) g) e (f c ds k.walked)

-- and back
pub withdraw_to : (t t' : List ℕ) (w : Walk) (d : ℕ) (s : Spot) (m : Tally)
    → ((c : Corner) (ds : List ℕ) → Walked t c (ds ++ (d ∷ [])) w.spot → TallyIs c (ds ++ (d ∷ [])) w.tally → TallyIs c ds m)
    → ((c : Corner) (ds : List ℕ) → Walked t c (ds ++ (d ∷ [])) w.spot → Walked t' c ds s)
    → (v : Walk) → v.spot ≡ s → v.tally ≡ m → (c : Corner) (ds : List ℕ) → Known t c (ds ++ (d ∷ [])) w → Known t' c ds v
withdraw_to t t' w d s m f g v p q c ds k = record {
  walked = subst (λ (x : Spot). Walked t' c ds x) (sym p) (g c ds k.walked);
  counted = subst (λ (x : Tally). TallyIs c ds x) (sym q) (f c ds k.walked k.counted);
}
