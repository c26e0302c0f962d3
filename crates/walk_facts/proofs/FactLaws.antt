-- The area and the facts, as the proofs of the code cite them.
-- Assumes nothing.
use mathlib.Core.Bool.{Bool, true, cond}
use mathlib.Core.List.{List}
use mathlib.Core.Path.{◌≡◌, refl, ap, ap₂, sym, subst, ◌∙◌}
use Prim.Native.Nat.{ℕ, zero, suc, ◌+◌, ◌*◌, ◌<◌, ◌≤◌}
use native.Mathlib.Omega.{arith}
use borrow.Author.Tests.{eq-eqb}
use lib.IntN.{ℤ, pos, negsuc, neg_ℤ, nat_abs, ◌+ℤ◌, ◌-ℤ◌, ◌*ℤ◌, +ℤ_assoc, +ℤ_invr, *ℤ-zero, *ℤ-negsuc, pos-*ℤ-pos, negsuc-*ℤ-pos}
use lib.ListN.{length, take, drop, get_or}
use lib.Seq.{drop-cons}
use Rattle.answer.specs.declared.Verdict.{Verdict}
use Rattle.answer.specs.declared.Verdict.TheVariants.{Room, ThereAndBack}
use Rattle.grid.specs.declared.Corner.{Corner}
use Rattle.grid.specs.Grid.{stepped, same, end_from, north_of}
use Rattle.walk_step.specs.Tallies.{Says}
use Rattle.trace.specs.Meeting.{Meeting, none, meet, meeting_of, meeting_j, meeting_k}
use Rattle.trace.specs.Verdict.{round_by, verdict_by, sweep_from, area_by}
use Rattle.grid.proofs.BoundLaws.{stepped_bound}
use Rattle.int_laws.proofs.NextLaws.{suc_sub, pred_sub}
use Rattle.int_laws.proofs.RangeLaws.{abs+, abs_neg}
use Rattle.answer.specs.declared.PartyFacts.{PartyFacts}
use Rattle.answer.specs.Limits.{most_steps, most_start, farthest}
use Rattle.walk.specs.Walk.{party_facts_of}
use Rattle.walk_step.specs.declared.Tally.{Tally}
use Rattle.walk_facts.specs.Settled.{gain, WalkOver}

-- ---- the area
sub_self : (y : ℤ) → y -ℤ y ≡ pos 0
sub_self y = +ℤ_invr y

times_one : (x : ℤ) → x *ℤ pos 1 ≡ x
times_one (pos n) = pos-*ℤ-pos n 1 ∙ ap pos (omega arith)
times_one (negsuc n) = let e : suc n * 1 ≡ suc n = omega arith in negsuc-*ℤ-pos n 1 ∙ ap (λ (k : ℕ). neg_ℤ (pos k)) e

-- the change of y is what the step adds to it
change : (d : ℕ) (c : Corner) → (stepped d c).1 -ℤ c.1 ≡ north_of d
change zero c = sub_self c.1
change (suc zero) c = suc_sub c.1
change (suc (suc zero)) c = sub_self c.1
change (suc (suc (suc d))) c = pred_sub c.1

times_gain : (d : ℕ) (c : Corner) → c.0 *ℤ ((stepped d c).1 -ℤ c.1) ≡ gain d c.0
times_gain d c = ap (λ (z : ℤ). c.0 *ℤ z) (change d c)

sweep_next : (w : ℤ) (sum : ℤ) (c : Corner) (ds : List ℕ) (i : ℕ) → i < length ds → w ≡ sum +ℤ sweep_from c (drop i ds)
    → w ≡ (sum +ℤ gain (get_or ds i 0) c.0) +ℤ sweep_from (stepped (get_or ds i 0) c) (drop (i + 1) ds)
sweep_next w sum c ds i h e =
    let d = get_or ds i 0 in
    let n : suc i ≡ i + 1 = omega arith in
    e
    ∙ ap (λ (l : List ℕ). sum +ℤ sweep_from c l) (drop-cons ds i 0 h)
    ∙ ap (λ (z : ℤ). sum +ℤ (z +ℤ sweep_from (stepped d c) (drop (suc i) ds))) (times_gain d c)
    ∙ sym (+ℤ_assoc sum (gain d c.0) (sweep_from (stepped d c) (drop (suc i) ds)))
    ∙ ap (λ (k : ℕ). (sum +ℤ gain d c.0) +ℤ sweep_from (stepped d c) (drop k ds)) n

pub gain_bound : (d : ℕ) (x : ℤ) → nat_abs (gain d x) ≤ nat_abs x
gain_bound zero x = omega (arith, ap nat_abs (*ℤ-zero x))
gain_bound (suc zero) x = omega (arith, ap nat_abs (times_one x))
gain_bound (suc (suc zero)) x = omega (arith, ap nat_abs (*ℤ-zero x))
gain_bound (suc (suc (suc d))) x = omega (arith, ap nat_abs (*ℤ-negsuc x 0 ∙ ap neg_ℤ (times_one x)), abs_neg x)

sum_bound : (sum x : ℤ) (d i : ℕ) → nat_abs sum ≤ i * farthest → nat_abs x ≤ farthest → nat_abs (sum +ℤ gain d x) ≤ (i + 1) * farthest
sum_bound sum x d i h k = omega (arith, abs+ sum (gain d x), gain_bound d x)

-- one step more of the sum
pub sweep_again : (ds : List ℕ) (i : ℕ) (at at' : Corner) (sum sum' w : ℤ) → length ds ≤ most_steps → i < length ds → nat_abs at.0 ≤ most_start + i → nat_abs at.1 ≤ most_start + i → nat_abs sum ≤ i * farthest
    → w ≡ sum +ℤ sweep_from at (drop i ds) → at' ≡ stepped (get_or ds i 0) at → sum' ≡ sum +ℤ gain (get_or ds i 0) at.0
    → (nat_abs at'.0 ≤ most_start + (i + 1)) × (nat_abs at'.1 ≤ most_start + (i + 1)) × (nat_abs sum' ≤ (i + 1) * farthest) × (w ≡ sum' +ℤ sweep_from at' (drop (i + 1) ds))
sweep_again ds i at at' sum sum' w few more x y z e p q =
    let d = get_or ds i 0 in
    let h = stepped_bound d at in (
      subst (λ (a : Corner). nat_abs a.0 ≤ most_start + (i + 1)) (sym p) (omega (arith, h.0)),
      subst (λ (a : Corner). nat_abs a.1 ≤ most_start + (i + 1)) (sym p) (omega (arith, h.1)),
      subst (λ (a : ℤ). nat_abs a ≤ (i + 1) * farthest) (sym q) (sum_bound sum at.0 d i z (omega arith)),
      sweep_next w sum at ds i more e ∙ ap₂ (λ (a : ℤ) (b : Corner). a +ℤ sweep_from b (drop (i + 1) ds)) (sym q) (sym p),
    )

-- ---- the facts
abbrev party_facts_with : Verdict → ℕ → ℕ → ℕ → ℕ → ℤ → Corner → PartyFacts
party_facts_with v n s j k a l = record { verdict = v; steps = n; corners = s; j = j; k = k; area = a; last = l }

party_equal : {v v' : Verdict} {n n' s s' j j' k k' : ℕ} {a a' : ℤ} {l l' : Corner}
    → v ≡ v' → n ≡ n' → s ≡ s' → j ≡ j' → k ≡ k' → a ≡ a' → l ≡ l' → party_facts_with v n s j k a l ≡ party_facts_with v' n' s' j' k' a' l'
party_equal e₁ e₂ e₃ e₄ e₅ e₆ e₇ = cc

says_j : (m : Meeting) (j k : ℕ) → Says m j k → j ≡ meeting_j m
says_j none j k s = s.0
says_j (meet a b) j k s = s.0

says_k : (m : Meeting) (j k : ℕ) → Says m j k → k ≡ meeting_k m
says_k none j k s = s.1
says_k (meet a b) j k s = s.1

pub party_are : (c : Corner) (ch ds : List ℕ) (n : ℕ) (last : Corner) (t : Tally) → WalkOver c ch ds n last t → (v : Verdict) (b : Bool) (a : ℤ)
    → b ≡ same last c → ((m : Meeting) → Says m t.j t.k → v ≡ verdict_by n b m) → a ≡ area_by v (sweep_from c (take n ch))
    → (f : PartyFacts) → f ≡ party_facts_with v n t.corners t.j t.k a last → f ≡ party_facts_of c ds
party_are c ch ds n last t k v b a p f q g e =
    let m = meeting_of c ds in
    let s = k.counted.met in
    let r : b ≡ same (end_from c ds) c = p ∙ ap (λ (z : Corner). same z c) k.corner in
    let x : v ≡ verdict_by (length ds) (same (end_from c ds) c) m = f m s ∙ ap₂ (λ (n : ℕ) (y : Bool). verdict_by n y m) k.steps r in
    let z : take n ch ≡ ds = ap (λ (n : ℕ). take n ch) k.steps ∙ sym k.own.kept in
    e ∙ party_equal x k.steps k.counted.seen (says_j m t.j t.k s) (says_k m t.j t.k s) (q ∙ ap₂ (λ (y : Verdict) (l : List ℕ). area_by y (sweep_from c l)) x z) k.corner

-- there and back: a closed walk of two steps whose first meeting is at its ends
module _ (m : Meeting) (j k n : ℕ) (s : Says m j k) (some : n ≡ 0 → ⊥) where
  verdict_round : (b : Bool) → b ≡ true → j ≡ 0 → k ≡ n → round_by n ≡ verdict_by n b m
  verdict_round b e p q = go n some q m s
    where
      go : (n : ℕ) → (n ≡ 0 → ⊥) → k ≡ n → (m : Meeting) → Says m j k → round_by n ≡ verdict_by n b m
      go zero f q m s = absurd (f refl)
      go (suc n) f q none s = absurd (omega (arith, s.0, p))
      go (suc n) f q (meet a c) s = rw (e, verdict_by) (rw (eq-eqb a 0 (sym s.0 ∙ p), eq-eqb c (suc n) (sym s.1 ∙ q)))

  pub verdict_back : (b : Bool) → b ≡ true → j ≡ 0 → k ≡ n → n ≡ 2 → ThereAndBack ≡ verdict_by n b m
  verdict_back b e p q l = sym (ap (λ (b : Bool). cond b ThereAndBack Room) (eq-eqb n 2 l)) ∙ verdict_round b e p q
