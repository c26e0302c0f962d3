-- The laws of the tally, as the proofs of the code cite them.
-- Assumes nothing.
use mathlib.Core.Bool.{Bool, true}
use mathlib.Core.List.{List, [], ◌∷◌, ◌++◌}
use mathlib.Core.Path.{◌≡◌, refl, ap, sym, ◌∙◌, subst}
use Prim.Native.Nat.{ℕ, zero, suc, ◌+◌, ◌-◌, ◌*◌, ◌<◌, ◌≤◌}
use native.Mathlib.Omega.{arith}
use borrow.Author.Tests.{eq-eqb, ne_eqb}
use lib.Dec.{eqb}
use lib.ListN.{length, length-append, get_or}
use Rattle.answer.specs.Limits.{no_meeting}
use Rattle.grid.specs.declared.Corner.{Corner}
use Rattle.grid.specs.Grid.{same, stepped, corners_from, end_from}
use Rattle.lists.specs.Lists.{find, count, tally}
use Rattle.trace.specs.Meeting.{Meeting, none, meet, meeting_of, visited_of}
use Rattle.tree.specs.Nodes.{nodes_of}
use Rattle.layout.specs.Table.{width, word_at, HasRecord, visits_word, first_word}
use Rattle.tree_laws.specs.State.{later, state_of}
use Rattle.grid.proofs.CornerLaws.{same_refl}
use Rattle.grid.proofs.StepLaws.{end_from_snoc}
use Rattle.table_laws.proofs.Cites.{ref_below}
use Rattle.table_laws.proofs.RowLaws.{table_state}
use Rattle.table_laws.proofs.CellLaws.{read_visits, read_first}
use Rattle.tree_laws.proofs.MeetLaws.{met, unmet, push_meeting, pop_meeting}
use Rattle.tree_laws.proofs.PushLaws.{push_visits, push_first, push_visited, sound_walk}
use Rattle.walk_step.specs.declared.Spot.{Spot}
use Rattle.walk_step.specs.declared.Tally.{Tally}
use Rattle.walk_step.specs.Spots.{Walked}
use Rattle.walk_step.specs.Tallies.{Says, TallyIs}

met_zero : (n : ℕ) (m : Meeting) → met 0 n m ≡ m
met_zero n none = refl
met_zero n (meet a b) = refl

says_none : (m : Meeting) (j k : ℕ) → Says m j k → k ≡ no_meeting → m ≡ none
says_none none j k h e = refl
says_none (meet a b) j k h e = absurd (omega (arith, h.1, h.2))

says_some : (m : Meeting) (j k : ℕ) → Says m j k → (k ≡ no_meeting → ⊥) → (f n : ℕ) → met f n m ≡ m
says_some none j k h g f n = absurd (g h.1)
says_some (meet a b) j k h g f n = refl

-- ---- what is read in the table: how often the corner was visited, and when first
module _ (t : List ℕ) (c : Corner) (ds : List ℕ) (d : ℕ) (w : Spot) (k : Walked t c (ds ++ (d ∷ [])) w) where
  pub tally_bound : HasRecord t w.node
  tally_bound = bound w.node (length (nodes_of (corners_from c (ds ++ (d ∷ []))))) w.nodes (length t) (ref_below (nodes_of (corners_from c (ds ++ (d ∷ [])))) (end_from c (ds ++ (d ∷ []))) w.node k.here) k.count k.room
    where
      bound : (a n m l : ℕ) → a < n → m ≡ n → width * m ≤ l → suc a * width ≤ l
      bound a n m l p q s = omega arith

  pub steps_here : w.steps ≡ suc (length ds)
  steps_here = omega (arith, k.steps, length-append ds (d ∷ []))

  pub tally_seen : get_or t (word_at w.node visits_word) 0 ≡ count (same (stepped d (end_from c ds))) (corners_from c ds) + 1
  tally_seen =
      let ps = corners_from c (ds ++ (d ∷ [])) in
      let p = stepped d (end_from c ds) in
      ap (λ (x : List ℕ). get_or x (word_at w.node visits_word) 0) (k.whole ∙ table_state (length t) c (ds ++ (d ∷ []))) ∙ read_visits (length t) (state_of ps) (end_from c (ds ++ (d ∷ []))) w.node k.here
      ∙ ap (λ (x : Corner). count (same x) ps) (end_from_snoc c ds d) ∙ push_visits c ds d p ∙ ap (λ (b : Bool). count (same p) (corners_from c ds) + tally b) (same_refl p)

  pub tally-found : get_or t (word_at w.node first_word) 0 ≡ later (find (same (stepped d (end_from c ds))) (corners_from c ds)) true (suc (suc (length ds)))
  tally-found =
      let ps = corners_from c (ds ++ (d ∷ [])) in
      let p = stepped d (end_from c ds) in
      ap (λ (x : List ℕ). get_or x (word_at w.node first_word) 0) (k.whole ∙ table_state (length t) c (ds ++ (d ∷ []))) ∙ read_first (length t) (state_of ps) (end_from c (ds ++ (d ∷ []))) w.node k.here
      ∙ ap (λ (x : Corner). find (same x) ps) (end_from_snoc c ds d) ∙ push_first c ds d p ∙ ap (λ (b : Bool). later (find (same p) (corners_from c ds)) b (suc (suc (length ds)))) (same_refl p)

  pub tally-first : (f : ℕ) → f ≡ get_or t (word_at w.node first_word) 0 → 0 < f
  tally-first f e = go (find (same (stepped d (end_from c ds))) (corners_from c ds)) (e ∙ tally-found)
    where
      go : (n : ℕ) → f ≡ later n true (suc (suc (length ds))) → 0 < f
      go zero q = omega arith
      go (suc n) q = omega arith

-- ---- a step: v visits with it
module _ (c : Corner) (ds : List ℕ) (d : ℕ) (m : Tally) (h : TallyIs c ds m) (v : ℕ) (e : v ≡ count (same (stepped d (end_from c ds))) (corners_from c ds) + 1) where
  none_yet : v ≡ 1 → count (same (stepped d (end_from c ds))) (corners_from c ds) ≡ 0
  none_yet q = less v (count (same (stepped d (end_from c ds))) (corners_from c ds)) e q
    where
      less : (a b : ℕ) → a ≡ b + 1 → a ≡ 1 → b ≡ 0
      less a b p r = omega arith

  -- the first visit
  pub tally_new : v ≡ 1 → (r : Tally) → r.corners ≡ m.corners + 1 → r.j ≡ m.j → r.k ≡ m.k → TallyIs c (ds ++ (d ∷ [])) r
  tally_new q r p₁ p₂ p₃ =
      let p = stepped d (end_from c ds) in
      let z = none_yet q in
      let y : find (same p) (corners_from c ds) ≡ 0 = (sound_walk c ds).fewer p z in
      let s : meeting_of c (ds ++ (d ∷ [])) ≡ meeting_of c ds = push_meeting c ds d ∙ ap (λ (f : ℕ). met f (suc (length ds)) (meeting_of c ds)) y ∙ met_zero (suc (length ds)) (meeting_of c ds) in
      record {
        seen = p₁ ∙ ap (λ (n : ℕ). n + 1) h.seen ∙ sym (push_visited c ds d ∙ ap (λ (n : ℕ). length (visited_of (corners_from c ds)) + tally (eqb n 0)) z);
        met = subst (λ (x : Meeting). Says x r.j r.k) (sym s) (subst (λ (x : ℕ). Says (meeting_of c ds) x r.k) (sym p₂) (subst (λ (x : ℕ). Says (meeting_of c ds) m.j x) (sym p₃) h.met));
      }

  -- a later one
  module _ (g : v ≡ 1 → ⊥) where
    some : count (same (stepped d (end_from c ds))) (corners_from c ds) ≡ 0 → ⊥
    some z = g (e ∙ ap (λ (n : ℕ). n + 1) z)

    same_seen : length (visited_of (corners_from c (ds ++ (d ∷ [])))) ≡ length (visited_of (corners_from c ds))
    same_seen =
        let p = stepped d (end_from c ds) in
        let z : length (visited_of (corners_from c ds)) + 0 ≡ length (visited_of (corners_from c ds)) = omega arith in
        push_visited c ds d ∙ ap (λ (b : Bool). length (visited_of (corners_from c ds)) + tally b) (ne_eqb (count (same p) (corners_from c ds)) 0 some) ∙ z

    pub tally-same : (m.k ≡ no_meeting → ⊥) → TallyIs c (ds ++ (d ∷ [])) m
    tally-same x =
        let s : meeting_of c (ds ++ (d ∷ [])) ≡ meeting_of c ds = push_meeting c ds d ∙ says_some (meeting_of c ds) m.j m.k h.met x (find (same (stepped d (end_from c ds))) (corners_from c ds)) (suc (length ds)) in
        record { seen = h.seen ∙ sym same_seen; met = subst (λ (y : Meeting). Says y m.j m.k) (sym s) h.met }

    pub tally_meets : m.k ≡ no_meeting → (n : ℕ) → n ≡ suc (length ds) → n < no_meeting → (f : ℕ) → f ≡ later (find (same (stepped d (end_from c ds))) (corners_from c ds)) true (suc (suc (length ds))) → (r : Tally) → r.corners ≡ m.corners → r.j ≡ f - 1 → r.k ≡ n → TallyIs c (ds ++ (d ∷ [])) r
    tally_meets x n i few f q r p₁ p₂ p₃ = record { seen = p₁ ∙ h.seen ∙ sym same_seen; met = subst (λ (y : Meeting). Says y r.j r.k) (sym s) (go (find (same (stepped d (end_from c ds))) (corners_from c ds)) refl q) }
      where
        s : meeting_of c (ds ++ (d ∷ [])) ≡ met (find (same (stepped d (end_from c ds))) (corners_from c ds)) (suc (length ds)) none
        s = push_meeting c ds d ∙ ap (met (find (same (stepped d (end_from c ds))) (corners_from c ds)) (suc (length ds))) (says_none (meeting_of c ds) m.j m.k h.met x)

        go : (n : ℕ) → find (same (stepped d (end_from c ds))) (corners_from c ds) ≡ n → f ≡ later n true (suc (suc (length ds))) → Says (met n (suc (length ds)) none) r.j r.k
        go zero y a = absurd (some ((sound_walk c ds).more (stepped d (end_from c ds)) y))
        go (suc l) y a = (p₂ ∙ less f l a, p₃ ∙ i, subst (λ (b : ℕ). b < no_meeting) i few)
          where
            less : (a b : ℕ) → a ≡ suc b → a - 1 ≡ b
            less a b z = omega arith

-- ---- and back
unsays_here : (m : Meeting) (j k n : ℕ) → Says m j k → k ≡ n → n < no_meeting → unmet n m ≡ none
unsays_here none j k n h e l = absurd (omega (arith, h.1))
unsays_here (meet a b) j k n h e l = rw (eq-eqb b n (sym h.1 ∙ e), unmet)

unsays_not : (m : Meeting) (j k n : ℕ) → Says m j k → (k ≡ n → ⊥) → unmet n m ≡ m
unsays_not none j k n h g = refl
unsays_not (meet a b) j k n h g = rw (ne_eqb b n (λ q. g (h.1 ∙ q)), unmet)

module _ (c : Corner) (ds : List ℕ) (d : ℕ) (m : Tally) (h : TallyIs c (ds ++ (d ∷ [])) m) (v : ℕ) (e : v ≡ count (same (stepped d (end_from c ds))) (corners_from c ds) + 1) where
  -- the only visit
  pub untally_new : v ≡ 1 → (r : Tally) → r.corners ≡ m.corners - 1 → r.j ≡ m.j → r.k ≡ m.k → TallyIs c ds r
  untally_new q r p₁ p₂ p₃ =
      let p = stepped d (end_from c ds) in
      let z : count (same p) (corners_from c ds) ≡ 0 = less v (count (same p) (corners_from c ds)) e q in
      let y : find (same p) (corners_from c ds) ≡ 0 = (sound_walk c ds).fewer p z in
      let s : meeting_of c (ds ++ (d ∷ [])) ≡ meeting_of c ds = push_meeting c ds d ∙ ap (λ (f : ℕ). met f (suc (length ds)) (meeting_of c ds)) y ∙ met_zero (suc (length ds)) (meeting_of c ds) in
      let n : length (visited_of (corners_from c (ds ++ (d ∷ [])))) ≡ length (visited_of (corners_from c ds)) + 1 = push_visited c ds d ∙ ap (λ (n : ℕ). length (visited_of (corners_from c ds)) + tally (eqb n 0)) z in
      record {
        seen = p₁ ∙ ap (λ (x : ℕ). x - 1) (h.seen ∙ n) ∙ down (length (visited_of (corners_from c ds)));
        met = subst (λ (x : Meeting). Says x r.j r.k) s (subst (λ (x : ℕ). Says (meeting_of c (ds ++ (d ∷ []))) x r.k) (sym p₂) (subst (λ (x : ℕ). Says (meeting_of c (ds ++ (d ∷ []))) m.j x) (sym p₃) h.met));
      }
    where
      less : (a b : ℕ) → a ≡ b + 1 → a ≡ 1 → b ≡ 0
      less a b p r = omega arith

      down : (a : ℕ) → a + 1 - 1 ≡ a
      down a = omega arith

  -- there were others
  module _ (g : v ≡ 1 → ⊥) where
    still : length (visited_of (corners_from c (ds ++ (d ∷ [])))) ≡ length (visited_of (corners_from c ds))
    still =
        let p = stepped d (end_from c ds) in
        let z : length (visited_of (corners_from c ds)) + 0 ≡ length (visited_of (corners_from c ds)) = omega arith in
        push_visited c ds d ∙ ap (λ (b : Bool). length (visited_of (corners_from c ds)) + tally b) (ne_eqb (count (same p) (corners_from c ds)) 0 (λ y. g (e ∙ ap (λ (n : ℕ). n + 1) y))) ∙ z

    pub untally_same : (n : ℕ) → n ≡ suc (length ds) → (m.k ≡ n → ⊥) → TallyIs c ds m
    untally_same n i x =
        let s : meeting_of c (ds ++ (d ∷ [])) ≡ meeting_of c ds = sym (unsays_not (meeting_of c (ds ++ (d ∷ []))) m.j m.k (suc (length ds)) h.met (λ y. x (y ∙ sym i))) ∙ pop_meeting c ds d in
        record { seen = h.seen ∙ still; met = subst (λ (y : Meeting). Says y m.j m.k) s h.met }

    pub untally_meets : (n : ℕ) → n ≡ suc (length ds) → m.k ≡ n → n < no_meeting → (r : Tally) → r.corners ≡ m.corners → r.j ≡ no_meeting → r.k ≡ no_meeting → TallyIs c ds r
    untally_meets n i x few r p₁ p₂ p₃ =
        let s : none ≡ meeting_of c ds = sym (unsays_here (meeting_of c (ds ++ (d ∷ []))) m.j m.k (suc (length ds)) h.met (x ∙ i) (subst (λ (b : ℕ). b < no_meeting) i few)) ∙ pop_meeting c ds d in
        record { seen = p₁ ∙ h.seen ∙ still; met = subst (λ (y : Meeting). Says y r.j r.k) s (p₂, p₃) }
