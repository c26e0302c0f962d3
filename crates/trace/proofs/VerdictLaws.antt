-- The verdicts: the one given says what holds of the walk, and no other does.
-- Assumes nothing.
use mathlib.Core.Bool.{Bool, true, false, cond, true≢false}
use mathlib.Core.List.{List, [], ◌∷◌}
use mathlib.Core.Logic.{◌⊎◌, inl, inr}
use mathlib.Core.Path.{◌≡◌, refl, ap, sym, ◌∙◌, subst}
use Prim.Native.Nat.{ℕ, zero, suc, ◌<◌, ◌≤◌}
use native.Mathlib.Omega.{arith}
use native.Mathlib.Decide.{ℕ_discrete}
use borrow.Author.Tests.{eqb-true, eqb-false, eq-eqb, ne_eqb}
use lib.Dec.{eqb}
use lib.IntN.{pos}
use lib.ListN.{length}
use Rattle.answer.specs.declared.Verdict.{Verdict}
use Rattle.answer.specs.declared.Verdict.TheVariants.{Nowhere, Open, Room, OpenMeeting, ClosedMeeting, ThereAndBack}
use Rattle.lists.specs.Lists.{Below}
use Rattle.lists.proofs.GatherLaws.{and_left, and_right}
use Rattle.grid.specs.declared.Corner.{Corner}
use Rattle.grid.specs.Grid.{same, end_from}
use Rattle.grid.proofs.CornerLaws.{same_refl, same_sound}
use Rattle.grid.proofs.ColourLaws.{closed_even}
use Rattle.grid.proofs.StepLaws.{corner_at_end, stepped_ne}
use Rattle.steps.specs.Turns.{turns_of, steps_of}
use Rattle.steps.proofs.TurnLaws.{steps_of-turns_of}
use Rattle.trace.specs.Meeting.{Meets, FirstMeets, Meeting, none, meet, meeting_of}
use Rattle.trace.specs.Verdict.{only_ends, round_by, verdict_by, verdict_of, sweep_from, area_by, area_of, IsRoom, VerdictSays}
use Rattle.trace.proofs.MeetingLaws.{first_meets_only, meeting_of_meets, meeting_of-none, meets_meeting_of, none-meeting_of}

-- whether the first meeting is (0,n)
only_ends_true : (n j k : ℕ) → only_ends n (meet j k) ≡ true → (j ≡ 0) × (k ≡ n)
only_ends_true n j k e = (eqb-true j 0 (and_left (eqb j 0) (eqb k n) e), eqb-true k n (and_right (eqb j 0) (eqb k n) e))

only_ends_false : (n j k : ℕ) → only_ends n (meet j k) ≡ false → (j ≡ 0) × (k ≡ n) → ⊥
only_ends_false n j k e h = true≢false (sym (rw (eq-eqb j 0 h.0, eq-eqb k n h.1)) ∙ e)

module _ (c : Corner) (ds : List ℕ) where
  -- a closed walk with a step meets itself at (0,n)
  ends_meet : 0 < length ds → end_from c ds ≡ c → Meets c ds 0 (length ds)
  ends_meet h e = record { earlier = h; within = omega arith; equal = sym (corner_at_end c ds ∙ e) }

  -- if the first meeting is (0,n), there is no other
  ends_only : FirstMeets c ds 0 (length ds) → (j k : ℕ) → Meets c ds j k → (j ≡ 0) × (k ≡ length ds)
  ends_only f j k m =
      let e : k ≡ length ds = omega (arith, f.least j k m, m.within) in
      (first_meets_only f (subst (λ (n : ℕ). Meets c ds j n) e m), e)

  first_ends : (j k : ℕ) → j ≡ 0 → k ≡ length ds → FirstMeets c ds j k → FirstMeets c ds 0 (length ds)
  first_ends j k p q f = subst (λ (i : ℕ). FirstMeets c ds i (length ds)) p (subst (λ (m : ℕ). FirstMeets c ds j m) q f)

  -- a closed walk with no meeting but (0,n) goes there and back or is a room: the number of its steps is even
  round_says : 0 < length ds → end_from c ds ≡ c → FirstMeets c ds 0 (length ds) → VerdictSays c ds (round_by (length ds))
  round_says h e f = by (eqb (length ds) 2) refl
    where
      by : (b : Bool) → eqb (length ds) 2 ≡ b → VerdictSays c ds (cond b ThereAndBack Room)
      by true q = (eqb-true (length ds) 2 q, e)
      by false q = record { four = omega (arith, eqb-false (length ds) 2 q, closed_even c ds e); closed = e; only = ends_only f }

  closed_says : (n : ℕ) → length ds ≡ suc n → end_from c ds ≡ c → (m : Meeting) → meeting_of c ds ≡ m → VerdictSays c ds (cond (only_ends (suc n) m) (round_by (suc n)) ClosedMeeting)
  closed_says n l e none p = absurd (meeting_of-none c ds p 0 (length ds) (ends_meet (omega arith) e))
  closed_says n l e (meet j k) p = by (only_ends (suc n) (meet j k)) refl
    where
      by : (b : Bool) → only_ends (suc n) (meet j k) ≡ b → VerdictSays c ds (cond b (round_by (suc n)) ClosedMeeting)
      by true q =
          let h = only_ends_true (suc n) j k q in
          subst (λ (k : ℕ). VerdictSays c ds (round_by k)) l (round_says (omega arith) e (first_ends j k h.0 (h.1 ∙ sym l) (meeting_of_meets c ds j k p)))
      by false q = (omega arith, e, (j, k, (meeting_of_meets c ds j k p).meets, λ h. only_ends_false (suc n) j k q (h.0, h.1 ∙ l)))

  -- the verdict says what holds
  pub verdict_says : VerdictSays c ds (verdict_of c ds)
  verdict_says = by (length ds) refl (same (end_from c ds) c) refl (meeting_of c ds) refl
    where
      apart : same (end_from c ds) c ≡ false → end_from c ds ≡ c → ⊥
      apart s e = true≢false (sym (same_refl c) ∙ ap (λ (x : Corner). same x c) (sym e) ∙ s)

      by : (n : ℕ) → length ds ≡ n → (b : Bool) → same (end_from c ds) c ≡ b → (m : Meeting) → meeting_of c ds ≡ m → VerdictSays c ds (verdict_by n b m)
      by zero l b s m p = l
      by (suc n) l true s m p = closed_says n l (same_sound (end_from c ds) c s) m p
      by (suc n) l false s none p = (omega arith, λ e. apart s e, meeting_of-none c ds p)
      by (suc n) l false s (meet j k) p = (omega arith, λ e. apart s e, (j, k, (meeting_of_meets c ds j k p).meets))

  -- the verdict by its three parts
  by_parts : (n : ℕ) (b : Bool) (m : Meeting) → length ds ≡ suc n → same (end_from c ds) c ≡ b → meeting_of c ds ≡ m → verdict_of c ds ≡ verdict_by (suc n) b m
  by_parts n b m l s p = rw (l, s, p)

  open_walk : (end_from c ds ≡ c → ⊥) → same (end_from c ds) c ≡ false
  open_walk f = by (same (end_from c ds) c) refl
    where
      by : (b : Bool) → same (end_from c ds) c ≡ b → same (end_from c ds) c ≡ false
      by true s = absurd (f (same_sound (end_from c ds) c s))
      by false s = s

  closed_walk : end_from c ds ≡ c → same (end_from c ds) c ≡ true
  closed_walk e = ap (λ (x : Corner). same x c) e ∙ same_refl c

  -- the first meeting of a room is (0,n)
  pub room-first : IsRoom c ds → FirstMeets c ds 0 (length ds)
  room-first r = record { meets = ends_meet (omega (arith, r.four)) r.closed; least = λ i m x. omega (arith, (r.only i m x).1) }

  room_verdict : (n : ℕ) → length ds ≡ suc n → IsRoom c ds → verdict_of c ds ≡ Room
  room_verdict n l r =
      by_parts n true (meet 0 (length ds)) l (closed_walk r.closed) (meets_meeting_of c ds 0 (length ds) (room-first r))
      ∙ ap (λ (b : Bool). cond b (round_by (suc n)) ClosedMeeting) (eq-eqb (length ds) (suc n) l)
      ∙ ap (λ (b : Bool). cond b ThereAndBack Room) (ne_eqb (suc n) 2 (omega (arith, r.four)))

  open_verdict : (n : ℕ) → length ds ≡ suc n → VerdictSays c ds OpenMeeting → verdict_of c ds ≡ OpenMeeting
  open_verdict n l x = by (meeting_of c ds) refl
    where
      by : (m : Meeting) → meeting_of c ds ≡ m → verdict_of c ds ≡ OpenMeeting
      by none p = absurd (meeting_of-none c ds p x.2.0 x.2.1 x.2.2)
      by (meet j k) p = by_parts n false (meet j k) l (open_walk x.1) p

  closed_verdict : (n : ℕ) → length ds ≡ suc n → VerdictSays c ds ClosedMeeting → verdict_of c ds ≡ ClosedMeeting
  closed_verdict n l x = by (meeting_of c ds) refl
    where
      by : (m : Meeting) → meeting_of c ds ≡ m → verdict_of c ds ≡ ClosedMeeting
      by none p = absurd (meeting_of-none c ds p x.2.0 x.2.1 x.2.2)
      by (meet j k) p = ends (only_ends (suc n) (meet j k)) refl
        where
          ends : (b : Bool) → only_ends (suc n) (meet j k) ≡ b → verdict_of c ds ≡ ClosedMeeting
          ends true q =
              let h = only_ends_true (suc n) j k q in
              absurd (x.2.3 (ends_only (first_ends j k h.0 (h.1 ∙ sym l) (meeting_of_meets c ds j k p)) x.2.0 x.2.1 x.2.2))
          ends false q = by_parts n true (meet j k) l (closed_walk x.1) p ∙ ap (λ (b : Bool). cond b (round_by (suc n)) ClosedMeeting) q

  -- of a closed walk of two steps the first meeting is (0,2), since no step leads back to its corner
  back-first : length ds ≡ 2 → end_from c ds ≡ c → FirstMeets c ds 0 (length ds)
  back-first l e = record { meets = ends_meet (omega arith) e; least = λ i m x. later ds i m l x }
    where
      later : (ds : List ℕ) (i m : ℕ) → length ds ≡ 2 → Meets c ds i m → length ds ≤ m
      later ds i zero l x = absurd (omega (arith, x.earlier))
      later (d ∷ ds) zero (suc zero) l x = absurd (stepped_ne d c (sym x.equal))
      later [] zero (suc zero) l x = absurd (omega (arith, x.within))
      later ds (suc i) (suc zero) l x = absurd (omega (arith, x.earlier))
      later ds i (suc (suc m)) l x = omega arith

  back_verdict : (n : ℕ) → length ds ≡ suc n → VerdictSays c ds ThereAndBack → verdict_of c ds ≡ ThereAndBack
  back_verdict n l x =
      by_parts n true (meet 0 (length ds)) l (closed_walk x.1) (meets_meeting_of c ds 0 (length ds) (back-first x.0 x.1))
      ∙ ap (λ (b : Bool). cond b (round_by (suc n)) ClosedMeeting) (eq-eqb (length ds) (suc n) l)
      ∙ ap (λ (b : Bool). cond b ThereAndBack Room) (eq-eqb (suc n) 2 (omega (arith, x.0)))

  -- a verdict that says what holds is the one
  pub says_verdict : (v : Verdict) → VerdictSays c ds v → verdict_of c ds ≡ v
  says_verdict v x = by (length ds) refl v x
    where
      by : (n : ℕ) → length ds ≡ n → (v : Verdict) → VerdictSays c ds v → verdict_of c ds ≡ v
      by zero l Nowhere x = rw l
      by (suc n) l Nowhere x = absurd (omega arith)
      by zero l Open x = absurd (omega (arith, x.0))
      by (suc n) l Open x = by_parts n false none l (open_walk x.1) (none-meeting_of c ds x.2)
      by zero l Room x = absurd (omega (arith, x.four))
      by (suc n) l Room x = room_verdict n l x
      by zero l OpenMeeting x = absurd (omega (arith, x.0))
      by (suc n) l OpenMeeting x = open_verdict n l x
      by zero l ClosedMeeting x = absurd (omega (arith, x.0))
      by (suc n) l ClosedMeeting x = closed_verdict n l x
      by zero l ThereAndBack x = absurd (omega (arith, x.0))
      by (suc n) l ThereAndBack x = back_verdict n l x

  -- a closed walk with a step and no meeting but (0,n) is a room or goes there and back
  pub round-one : 0 < length ds → end_from c ds ≡ c → ((j k : ℕ) → Meets c ds j k → (j ≡ 0) × (k ≡ length ds)) → IsRoom c ds ⊎ VerdictSays c ds ThereAndBack
  round-one h e f = elim (ℕ_discrete (length ds) 2) [
    | yes l ↦ inr (l, e)
    | no l ↦ inl (record { four = omega (arith, l, closed_even c ds e); closed = e; only = f })
  ]

  -- verdict 2 is given to rooms alone
  pub verdict_room : verdict_of c ds ≡ Room → IsRoom c ds
  verdict_room e = subst (VerdictSays c ds) e verdict_says

  -- so no two verdicts hold of one walk
  pub verdict_says_one : (v w : Verdict) → VerdictSays c ds v → VerdictSays c ds w → v ≡ w
  verdict_says_one v w x y = sym (says_verdict v x) ∙ says_verdict w y

  -- the area of a room, and of any other walk
  pub area_room : IsRoom c ds → area_of c ds ≡ sweep_from c ds
  area_room r = ap (λ (v : Verdict). area_by v (sweep_from c ds)) (says_verdict Room r)

  pub area_other : (IsRoom c ds → ⊥) → area_of c ds ≡ pos 0
  area_other f = by (verdict_of c ds) verdict_says
    where
      by : (v : Verdict) → VerdictSays c ds v → area_by v (sweep_from c ds) ≡ pos 0
      by Nowhere x = refl
      by Open x = refl
      by Room x = absurd (f x)
      by OpenMeeting x = refl
      by ClosedMeeting x = refl
      by ThereAndBack x = refl

-- a walk turned into turns and back has the same area
pub area_turns : (c : Corner) (ds : List ℕ) → Below 4 ds → area_of c (steps_of (turns_of ds)) ≡ area_of c ds
area_turns c ds b = ap (area_of c) (steps_of-turns_of ds b)
