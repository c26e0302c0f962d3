-- How the first meeting changes with a step more and with a take-back.
-- Assumes nothing.
use mathlib.Core.Bool.{true, false}
use mathlib.Core.List.{List, [], ◌∷◌, ◌++◌, append-nil, append_assoc}
use mathlib.Core.Path.{◌≡◌, refl, ap, sym, ◌∙◌}
use Prim.Native.Nat.{ℕ, zero, suc, ◌<◌}
use native.Mathlib.Omega.{arith}
use borrow.Author.Tests.{eq-eqb, ne_eqb}
use lib.Dec.{eqb}
use lib.ListN.{length}
use Rattle.grid.specs.declared.Corner.{Corner}
use Rattle.grid.specs.Grid.{same, corners_from, stepped, end_from}
use Rattle.lists.specs.Lists.{find}
use Rattle.trace.specs.Meeting.{Meeting, none, meet, meeting_from, meeting_of}
use Rattle.grid.proofs.StepLaws.{length-corners_from, corners_from_snoc}
use Rattle.trace.proofs.MeetingLaws.{meeting_of_meets}

-- a corner more: its first visit (1 + its number, 0 for none), and its number
abbrev pub met : ℕ → ℕ → Meeting → Meeting
met f n none = elim f [ zero ↦ none | suc j ↦ meet j n ]
met f n (meet j k) = meet j k

-- the corner n less
abbrev pub unmet : ℕ → Meeting → Meeting
unmet n none = none
unmet n (meet j k) = elim (eqb k n) [ true ↦ none | false ↦ meet j k ]

meeting_snoc : (seen ps : List Corner) (p : Corner) → meeting_from seen (ps ++ (p ∷ [])) ≡ met (find (same p) (seen ++ ps)) (length (seen ++ ps)) (meeting_from seen ps)
meeting_snoc seen [] p = sym (ap (λ (l : List Corner). met (find (same p) l) (length l) none) (append-nil seen) ∙ last (find (same p) seen) refl)
  where
    last : (f : ℕ) → find (same p) seen ≡ f → met (find (same p) seen) (length seen) none ≡ meeting_from seen (p ∷ [])
    last zero e = rw (e, met, meeting_from)
    last (suc j) e = rw (e, met, meeting_from)
meeting_snoc seen (q ∷ ps) p = go (find (same q) seen) refl (meeting_snoc (seen ++ (q ∷ [])) ps p)
  where
    go : (f : ℕ) → find (same q) seen ≡ f
        → meeting_from (seen ++ (q ∷ [])) (ps ++ (p ∷ [])) ≡ met (find (same p) ((seen ++ (q ∷ [])) ++ ps)) (length ((seen ++ (q ∷ [])) ++ ps)) (meeting_from (seen ++ (q ∷ [])) ps)
        → meeting_from seen (q ∷ ps ++ (p ∷ [])) ≡ met (find (same p) (seen ++ (q ∷ ps))) (length (seen ++ (q ∷ ps))) (meeting_from seen (q ∷ ps))
    go zero e h = rw (e, meeting_from) (h ∙ ap (λ (l : List Corner). met (find (same p) l) (length l) (meeting_from (seen ++ (q ∷ [])) ps)) (append_assoc seen (q ∷ []) ps))
    go (suc j) e h = rw (e, meeting_from)

module _ (c : Corner) (ds : List ℕ) (d : ℕ) where
  pub push_meeting : meeting_of c (ds ++ (d ∷ [])) ≡ met (find (same (stepped d (end_from c ds))) (corners_from c ds)) (suc (length ds)) (meeting_of c ds)
  push_meeting =
      ap (meeting_from []) (corners_from_snoc c ds d)
      ∙ meeting_snoc [] (corners_from c ds) (stepped d (end_from c ds))
      ∙ ap (λ (n : ℕ). met (find (same (stepped d (end_from c ds))) (corners_from c ds)) n (meeting_of c ds)) (length-corners_from c ds)

  pub pop_meeting : unmet (suc (length ds)) (meeting_of c (ds ++ (d ∷ []))) ≡ meeting_of c ds
  pop_meeting = ap (unmet (suc (length ds))) push_meeting ∙ back (meeting_of c ds) refl (find (same (stepped d (end_from c ds))) (corners_from c ds))
    where
      back : (m : Meeting) → meeting_of c ds ≡ m → (f : ℕ) → unmet (suc (length ds)) (met f (suc (length ds)) (meeting_of c ds)) ≡ meeting_of c ds
      back none e zero = rw e
      back none e (suc j) = rw e (rw (eq-eqb (suc (length ds)) (suc (length ds)) refl, unmet))
      back (meet j k) e f =
          let f = (meeting_of_meets c ds j k e).meets in
          let l : k < suc (length ds) = omega (arith, f.within) in
          rw e (rw (ne_eqb k (suc (length ds)) (λ q. omega arith), unmet))
