-- The first meeting: it is one, no meeting has a smaller k, its j is the only one, and there is none exactly if nothing meets.
-- Assumes nothing.
use mathlib.Core.List.{List, [], ◌∷◌, ◌++◌, append-nil, append_assoc}
use mathlib.Core.Path.{◌≡◌, refl, sym, ◌∙◌, subst}
use Prim.Native.Nat.{ℕ, zero, suc, ◌<◌, ◌≤◌}
use native.Mathlib.Decide.{ℕ_discrete, dec_lt}
use native.Mathlib.Omega.{arith}
use lib.ListN.{length, get_or, take, length-append, get_or-append}
use lib.Seq.{length-take-le, get_or-take, get_or-append_seam, take-append_seam}
use Rattle.lists.specs.Lists.{Distinct, find}
use Rattle.lists.proofs.DistinctLaws.{distinct_get_d}
use Rattle.lists.proofs.FindLaws.{find_pos, find_get}
use Rattle.lists.proofs.GatherLaws.{distinct_snoc, mem→any}
use Rattle.grid.specs.declared.Corner.{Corner}
use Rattle.grid.specs.Grid.{origin, same, corners_from, corner_at}
use Rattle.grid.proofs.CornerLaws.{same_refl, same_sound}
use Rattle.grid.proofs.StepLaws.{length-corners_from, corners_from-at}
use Rattle.trace.specs.Meeting.{Meets, FirstMeets, Meeting, none, meet, meeting_from, meeting_of}
use Rattle.trace.proofs.TraceCases as cases

-- place k of a list is the first that equals an earlier one, which is place j
record FirstIn (ps : List Corner) (j k : ℕ) : Type 0 where
  earlier : j < k
  pub inside : k < length ps
  equal : get_or ps j origin ≡ get_or ps k origin
  fresh : Distinct (take k ps)

abbrev SaysIn : List Corner → Meeting → Type 0
SaysIn ps none = Distinct ps
SaysIn ps (meet j k) = FirstIn ps j k

meeting_from_says : (seen ps : List Corner) → Distinct seen → SaysIn (seen ++ ps) (meeting_from seen ps)
meeting_from_says seen [] d = rw (append-nil seen) d
meeting_from_says seen (p ∷ ps) d = go (find (same p) seen) refl (λ h. subst (λ l. SaysIn l (meeting_from (seen ++ (p ∷ [])) ps)) (append_assoc seen (p ∷ []) ps) (meeting_from_says (seen ++ (p ∷ [])) ps h))
  where
    go : (n : ℕ) → find (same p) seen ≡ n → (Distinct (seen ++ (p ∷ [])) → SaysIn (seen ++ (p ∷ ps)) (meeting_from (seen ++ (p ∷ [])) ps)) → SaysIn (seen ++ (p ∷ ps)) (meeting_from seen (p ∷ ps))
    go zero e ih = rw (e, meeting_from) (ih (distinct_snoc seen p d (λ m. omega (arith, e, find_pos (same p) seen (mem→any same same_sound same_refl m)))))
    go (suc j) e ih =
        let h = find_get (same p) seen j origin e in
        rw (e, meeting_from) (record {
          earlier = h.0;
          inside = omega (arith, length-append seen (p ∷ ps));
          equal = get_or-append seen (p ∷ ps) origin j h.0 ∙ sym (same_sound p (get_or seen j origin) h.1) ∙ sym (get_or-append_seam seen p ps origin);
          fresh = rw take-append_seam d;
        })

module _ (c : Corner) (ds : List ℕ) where
  -- a meeting, as places of the list of corners
  places : (j k : ℕ) → Meets c ds j k → get_or (corners_from c ds) j origin ≡ get_or (corners_from c ds) k origin
  places j k m = corners_from-at c ds j origin (omega (arith, m.earlier, m.within)) ∙ m.equal ∙ sym (corners_from-at c ds k origin m.within)

  none_says : Distinct (corners_from c ds) → (j k : ℕ) → Meets c ds j k → ⊥
  none_says d j k m = distinct_get_d (corners_from c ds) j k origin d m.earlier (omega (arith, m.within, length-corners_from c ds)) (places j k m)

  first_says : (j k : ℕ) → FirstIn (corners_from c ds) j k → FirstMeets c ds j k
  first_says j k f =
      let w : k ≤ length ds = omega (arith, f.inside, length-corners_from c ds) in
      record {
        meets = record {
          earlier = f.earlier;
          within = w;
          equal = sym (corners_from-at c ds j origin (omega (arith, f.earlier))) ∙ f.equal ∙ corners_from-at c ds k origin w;
        };
        least = λ i m x. elim (dec_lt m k) [ yes h ↦ absurd (sooner i m x h) | no h ↦ omega arith ];
      }
    where
      sooner : (i m : ℕ) → Meets c ds i m → m < k → ⊥
      sooner i m x h =
          let t : (n : ℕ) → n < k → get_or (take k (corners_from c ds)) n origin ≡ get_or (corners_from c ds) n origin = λ n l. get_or-take k (corners_from c ds) n origin l in
          distinct_get_d (take k (corners_from c ds)) i m origin f.fresh x.earlier (subst (λ (n : ℕ). m < n) (sym (length-take-le k (corners_from c ds) (omega (arith, f.inside)))) h)
          (t i (omega (arith, x.earlier)) ∙ places i m x ∙ sym (t m h))

-- what is said by the first meeting, or by there being none
abbrev MeetingSays : Corner → List ℕ → Meeting → Type 0
MeetingSays c ds none = (j k : ℕ) → Meets c ds j k → ⊥
MeetingSays c ds (meet j k) = FirstMeets c ds j k

meeting_says : (c : Corner) (ds : List ℕ) → MeetingSays c ds (meeting_of c ds)
meeting_says c ds = by (meeting_of c ds) (meeting_from_says [] (corners_from c ds) tt)
  where
    by : (m : Meeting) → SaysIn (corners_from c ds) m → MeetingSays c ds m
    by none d = none_says c ds d
    by (meet j k) f = first_says c ds j k f

-- with the least k, j is the only one
pub first_meets_only : {c : Corner} {ds : List ℕ} {i j k : ℕ} → FirstMeets c ds j k → Meets c ds i k → i ≡ j
first_meets_only {c} {ds} {i} {j} {k} f m =
    elim (ℕ_discrete i j) [
      | yes e ↦ e
      | no n ↦ absurd (elim (dec_lt i j) [ yes h ↦ least i j h (m.equal ∙ sym f.meets.equal) f.meets.earlier | no h ↦ least j i (omega arith) (f.meets.equal ∙ sym m.equal) m.earlier ])
    ]
  where
    least : (a b : ℕ) → a < b → corner_at c ds a ≡ corner_at c ds b → b < k → ⊥
    least a b h e l = omega (arith, f.least a b (record { earlier = h; within = omega (arith, f.meets.within); equal = e }))

pub first_meets_one : {c : Corner} {ds : List ℕ} {j k j' k' : ℕ} → FirstMeets c ds j k → FirstMeets c ds j' k' → (j ≡ j') × (k ≡ k')
first_meets_one {c} {ds} {j} {k} {j'} {k'} f g =
    let e : k ≡ k' = omega (arith, f.least j' k' g.meets, g.least j k f.meets) in
    (first_meets_only g (subst (λ (n : ℕ). Meets c ds j n) e f.meets), e)

-- two that say the same are one
meeting_says_one : (c : Corner) (ds : List ℕ) (m n : Meeting) → MeetingSays c ds m → MeetingSays c ds n → m ≡ n
meeting_says_one c ds none none x y = refl
meeting_says_one c ds none (meet j k) x y = absurd (x j k y.meets)
meeting_says_one c ds (meet j k) none x y = absurd (y j k x.meets)
meeting_says_one c ds (meet j k) (meet j' k') x y = let e = first_meets_one x y in rw (e.0, e.1)

-- the first meeting is found exactly where it is
pub meeting_of_meets : (c : Corner) (ds : List ℕ) (j k : ℕ) → meeting_of c ds ≡ meet j k → FirstMeets c ds j k
meeting_of_meets c ds j k e = subst (MeetingSays c ds) e (meeting_says c ds)

pub meets_meeting_of : (c : Corner) (ds : List ℕ) (j k : ℕ) → FirstMeets c ds j k → meeting_of c ds ≡ meet j k
meets_meeting_of c ds j k f = meeting_says_one c ds (meeting_of c ds) (meet j k) (meeting_says c ds) f

-- and none is found exactly if there is none
pub meeting_of-none : (c : Corner) (ds : List ℕ) → meeting_of c ds ≡ none → (j k : ℕ) → Meets c ds j k → ⊥
meeting_of-none c ds e = subst (MeetingSays c ds) e (meeting_says c ds)

pub none-meeting_of : (c : Corner) (ds : List ℕ) → ((j k : ℕ) → Meets c ds j k → ⊥) → meeting_of c ds ≡ none
none-meeting_of c ds f = meeting_says_one c ds (meeting_of c ds) none (meeting_says c ds) f

-- then all its corners differ
pub corners_distinct : (c : Corner) (ds : List ℕ) → meeting_of c ds ≡ none → Distinct (corners_from c ds)
corners_distinct c ds e = subst (SaysIn (corners_from c ds)) e (meeting_from_says [] (corners_from c ds) tt)

-- before the first meeting they differ
pub corners-fresh : (c : Corner) (ds : List ℕ) (j k : ℕ) → FirstMeets c ds j k → Distinct (take k (corners_from c ds))
corners-fresh c ds j k f =
    let s : FirstIn (corners_from c ds) j k = subst (SaysIn (corners_from c ds)) (meets_meeting_of c ds j k f) (meeting_from_says [] (corners_from c ds) tt) in
    s.fresh
