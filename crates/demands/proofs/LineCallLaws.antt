-- Lines: each answer is given on its occasion and on no other, and every number of an answer has its digits.
-- Assumes nothing.
use Rattle.std.specs.Prelude.{Err, Ok, Option, Some, None}
use mathlib.Core.Bool.{Bool, true, false, cond}
use mathlib.Core.List.{List, [], ◌∷◌, ◌++◌}
use mathlib.Core.Logic.{◌↔◌}
use mathlib.Core.Path.{◌≡◌, refl, ap, ap₂, sym, ◌∙◌, subst}
use Prim.Native.Nat.{ℕ, zero, suc, ◌+◌, ◌*◌, ◌^◌, ◌<◌, ◌≤◌}
use native.Mathlib.Omega.{arith}
use lib.Dec.{eqb}
use lib.IntN.{pos, nat_abs, ◌-ℤ◌, ◌*ℤ◌, +ℤ_invr}
use lib.ListN.{length, get_or, take}
use lib.Seq.{length-take-le}
use Rattle.answer.specs.Answers.{Judged}
use Rattle.answer.specs.declared.Refusal.{Refusal}
use Rattle.answer.specs.declared.Refusal.TheVariants.{TooMany, Table, ResultRoom, BadDigit, NothingToTake, TooLong, NoRoom, HullRoom, BadLine, StartRange, OutlineRoom, NotRoom, PolygonRoom, FileLength, FileKind, BadCoordinate, BadRing, ChainRoom, RetiredKind, UnknownParty, SpanRoom, GridSize}
use Rattle.answer.specs.declared.Verdict.TheVariants.{Room}
use Rattle.answer.specs.Refusal.{refusal_number, refusal_place, verdict_number}
use Rattle.lists.specs.Lists.{Below}
use Rattle.grid.specs.declared.Corner.{Corner}
use Rattle.grid.specs.Grid.{origin, stepped, corners_from}
use Rattle.grid.proofs.BoundLaws.{stepped_bound}
use Rattle.grid.proofs.StepLaws.{length-corners_from}
use Rattle.int_laws.proofs.NextLaws.{suc_sub, pred_sub}
use Rattle.int_laws.proofs.RangeLaws.{abs+, abs*≤}
use Rattle.lists.proofs.DistinctLaws.{mem_get_d}
use Rattle.steps.specs.Operations.{survivors}
use Rattle.steps.specs.Turns.{steps_of}
use Rattle.steps.proofs.SurvivorLaws.{length-survivors}
use Rattle.steps.proofs.TurnLaws.{length-steps_of}
use Rattle.layout.specs.Marks.{mark_words}
use Rattle.trace.specs.Meeting.{Meeting, none, meet, meeting_of, meeting_j, meeting_k}
use Rattle.trace.specs.Verdict.{verdict_of, sweep_from, area_of}
use Rattle.trace.proofs.MeetingLaws.{meeting_of_meets}
use Rattle.trace.proofs.VisitLaws.{length_visited_le}
use Rattle.tree_laws.proofs.CountLaws.{few_nodes}
use Rattle.walk.specs.Walk.{walk_judged, facts_of, answer_by}
use Rattle.hull.specs.Hull.{HullIs}
use Rattle.hull_laws.proofs.{HullLaws.hull_of_hull, HullLaws.hull_count-steps, OneLaws.hull_is_one}
use Rattle.hull_laws.specs.Chain.{hull_of}
use Rattle.line_frame.specs.declared.{Kind.Kind, Kind.TheVariants.Operations, Kind.TheVariants.Turns}
use Rattle.line_frame.specs.Sizes.{most_digits, table_words}
use Rattle.line_frame.specs.Line.{kind_named, frame_of, digits_of, line_answer, line_walked}
use Rattle.line_frame.specs.Spelled.{refused_line, facts_line, hull_line, answer_line}
use Rattle.line_frame.specs.Converted.{Turned, converted_line}
use Rattle.line_frame.proofs.ConvertedLaws.{converted_frame, converted_digits}
use Rattle.line_frame.proofs.FrameLaws.{frame_of-framed, digits_framed, kind_number, kind_number_lem, frame_spelled}
use Rattle.line_frame.specs.Program.{feeds_in, answered, program}
use Rattle.line_frame.proofs.LineLaws.{one_frame, line_answer_feeds}
use Rattle.line_frame.proofs.OutputLaws.{feeds_in-append}
use Rattle.line_frame.proofs.SpelledLaws.{length-refused_line, length_accepted}
use Rattle.sheet.specs.Sheet.{lines_in}
use Rattle.sheet.proofs.RowLaws.{output_lines}
use Rattle.line_room.proofs.WalkedLaws.{line_walked-by, line_answer-walked}
use Rattle.demands.specs.Moments.{steps_after}
use Rattle.demands.specs.Given.{WalkSized, Faultless, GivenWalk}
use Rattle.demands.specs.Given as goal
use Rattle.demands.specs.GivenLine.{FrameIs, FineFrame, GivenLine}
use Rattle.demands.specs.GivenLine as line
use Rattle.demands.specs.Fields.{RefusalRead, AnswerRead}
use Rattle.demands.proofs.GivenLaws.{given_judged, judged_given}
use Rattle.demands.proofs.AloneLaws.{corners-near}
use Rattle.demands.proofs.FieldLaws.{Spellable, refusal_read, answer_read}

-- ---- what a frame spells, and what is read
pub frame_read : {s : List ℕ} {k : ℕ} {ds : List ℕ} → k < 2 → FrameIs s k ds → (frame_of s ≡ Some (kind_named k, length ds)) × (digits_of s ≡ ds)
frame_read {s} {k} {ds} h f = (ap frame_of f.spelled ∙ frame_of-framed k h ds f.digits (omega (arith, f.few)), ap digits_of f.spelled ∙ digits_framed k h ds f.digits)

read_frame : (s : List ℕ) (k : Kind) (n : ℕ) → frame_of s ≡ Some (k, n) → FrameIs s (kind_number k) (digits_of s)
read_frame s k n e = let x = frame_spelled s k n e in record { few = x.0; digits = x.1; spelled = x.2 }

-- a line is a frame in one way at most
pub frame_one : {s : List ℕ} {k j : ℕ} {ds es : List ℕ} → k < 2 → j < 2 → FrameIs s k ds → FrameIs s j es → (k ≡ j) × (ds ≡ es)
frame_one {s} {k} {j} {ds} {es} h i f g =
    let a = frame_read h f in
    let b = frame_read i g in
    let n : kind_named k ≡ kind_named j = (one_frame (sym a.0 ∙ b.0)).0 in
    (sym (kind_number_lem k h) ∙ ap kind_number n ∙ kind_number_lem j i, sym a.1 ∙ b.1)

-- ---- the walk of a frame is taken as it is
sized : (os : List ℕ) → length os ≤ most_digits → WalkSized origin os table_words (mark_words * length os) (length os)
sized os h = record { few = omega arith; table = (320, omega arith, omega arith, refl); room = (refl, refl); start = (omega arith, omega arith) }

few_steps : (os : List ℕ) (i : ℕ) → i < length os → length (steps_after os i) ≤ length os
few_steps os i h = omega (arith, length-survivors [] (take i os), length-take-le i os (omega arith))

abbrev walk_of : List ℕ → Judged
walk_of os = walk_judged origin os table_words (mark_words * length os) (length os)

walk_judged_lem : {s os : List ℕ} (j : Judged) → FrameIs s 0 os → GivenWalk origin os table_words (mark_words * length os) (length os) j → line_walked s ≡ answer_by j (facts_of origin (survivors (digits_of s)))
walk_judged_lem {s} {os} j f g =
    let r = frame_read (omega arith) f in
    sym (line_walked-by s (Some (Operations, length os)) r.0)
    ∙ ap (λ (i : Judged). answer_by i (facts_of origin (survivors (digits_of s)))) (ap walk_of r.1 ∙ given_judged origin os table_words (mark_words * length os) (length os) j g)

faultless : {s os : List ℕ} → FineFrame s os → Faultless origin os table_words (mark_words * length os) (length os)
faultless {s} {os} f = record { sized = sized os f.frame.few; fine = f.fine }

-- on each occasion of a line, that judgement
pub line_judged : (s : List ℕ) (j : Judged) → GivenLine s j → line_walked s ≡ answer_by j (facts_of origin (survivors (digits_of s)))
line_judged s _ (line.bad_line f) = by (frame_of s) refl
  where
    by : (g : Option (Kind × ℕ)) → frame_of s ≡ g → line_walked s ≡ Err BadLine
    by (Some (Operations, n)) e = absurd (f 0 (digits_of s) (omega arith) (read_frame s Operations n e))
    by (Some (Turns, n)) e = absurd (f 1 (digits_of s) (omega arith) (read_frame s Turns n e))
    by None e = sym (line_walked-by s None e)
line_judged s _ (line.retired_kind ds f) = sym (line_walked-by s (Some (Turns, length ds)) (frame_read (omega arith) f).0)
line_judged s _ (line.bad_digit os i f h) = walk_judged_lem (Err (BadDigit i)) f (goal.bad_digit i (sized os f.few) h)
line_judged s _ (line.nothing_to_take os i f h) = walk_judged_lem (Err (NothingToTake i)) f (goal.nothing_to_take i (sized os f.few) h)
line_judged s _ (line.no_room os i k f h e) = walk_judged_lem (Err (NoRoom i)) f.frame (goal.no_room i k (faultless f) h e)
line_judged s _ (line.accepted os f h) = walk_judged_lem (Ok tt) f.frame (goal.accepted (faultless f) h)

-- of the walk's occasions those that a frame can have
walk_line : {s os : List ℕ} (j : Judged) → FrameIs s 0 os → GivenWalk origin os table_words (mark_words * length os) (length os) j → GivenLine s j
walk_line _ f (goal.too_many h) = absurd (omega (arith, f.few))
walk_line {s} {os} _ f (goal.table h g) = absurd (g (sized os f.few).table)
walk_line {s} {os} _ f (goal.result_room h t g) = absurd (g (refl, refl))
walk_line {s} {os} _ f (goal.start_range h t r g) = absurd (g (sized os f.few).start)
walk_line {s} {os} _ f (goal.bad_digit i w h) = line.bad_digit os i f h
walk_line {s} {os} _ f (goal.nothing_to_take i w h) = line.nothing_to_take os i f h
walk_line {s} {os} _ f (goal.too_long i w h) = absurd (omega (arith, f.few, h.here.1, few_steps os i h.inside))
walk_line {s} {os} _ f (goal.no_room i k w h e) = line.no_room os i k (record { frame = f; fine = w.fine }) h e
walk_line {s} {os} _ f (goal.accepted w h) = line.accepted os (record { frame = f; fine = w.fine }) h

-- every line has an occasion
pub line_given : (s : List ℕ) → (j : Judged) × GivenLine s j
line_given s = by (frame_of s) refl
  where
    none : frame_of s ≡ None → (k : ℕ) (ds : List ℕ) → k < 2 → FrameIs s k ds → ⊥
    none e k ds h f = let z : ◌≡◌ {A = Option (Kind × ℕ)} None (Some (kind_named k, length ds)) = sym e ∙ (frame_read h f).0 in let y : ◌≡◌ {A = ℕ} 0 1 = cc in omega arith

    by : (g : Option (Kind × ℕ)) → frame_of s ≡ g → (j : Judged) × GivenLine s j
    by (Some (Operations, n)) e =
        let os = digits_of s in
        (walk_of os, walk_line (walk_of os) (read_frame s Operations n e) (judged_given origin os table_words (mark_words * length os) (length os)))
    by (Some (Turns, n)) e = (Err RetiredKind, line.retired_kind (digits_of s) (read_frame s Turns n e))
    by None e = (Err BadLine, line.bad_line (none e))

-- an accepted line is a frame
pub accepted_frame : (s : List ℕ) → GivenLine s (Ok tt) → FrameIs s 0 (digits_of s)
accepted_frame s (line.accepted os f h) = subst (FrameIs s 0) (sym (frame_read (omega arith) f.frame).1) f.frame

-- the place of a refusal is one of the frame's
pub place_few : {s : List ℕ} (q : Refusal) → GivenLine s (Err q) → refusal_place q ≤ most_digits
place_few _ (line.bad_line f) = omega arith
place_few _ (line.retired_kind ds f) = omega arith
place_few _ (line.bad_digit os i f h) = omega (arith, f.few, h.inside)
place_few _ (line.nothing_to_take os i f h) = omega (arith, f.few, h.inside)
place_few _ (line.no_room os i k f h e) = omega (arith, f.frame.few, h.inside)

-- ---- the answer's line
-- a refusal by its number and its place
abbrev named : ℕ → ℕ → Refusal
named n i =
    cond (eqb n 1) TooMany
    (cond (eqb n 2) Table
    (cond (eqb n 3) ResultRoom
    (cond (eqb n 4) (BadDigit i)
    (cond (eqb n 5) (NothingToTake i)
    (cond (eqb n 6) (TooLong i)
    (cond (eqb n 7) (NoRoom i)
    (cond (eqb n 8) HullRoom
    (cond (eqb n 9) BadLine
    (cond (eqb n 10) StartRange
    (cond (eqb n 11) OutlineRoom
    (cond (eqb n 12) NotRoom
    (cond (eqb n 13) PolygonRoom
    (cond (eqb n 14) FileLength
    (cond (eqb n 15) FileKind
    (cond (eqb n 16) BadCoordinate
    (cond (eqb n 17) BadRing
    (cond (eqb n 18) ChainRoom
    (cond (eqb n 19) RetiredKind
    (cond (eqb n 20) (UnknownParty i)
    (cond (eqb n 21) SpanRoom GridSize))))))))))))))))))))

named_back : (q : Refusal) → named (refusal_number q) (refusal_place q) ≡ q
named_back TooMany = refl
named_back Table = refl
named_back ResultRoom = refl
named_back (BadDigit i) = refl
named_back (NothingToTake i) = refl
named_back (TooLong i) = refl
named_back (NoRoom i) = refl
named_back HullRoom = refl
named_back BadLine = refl
named_back StartRange = refl
named_back OutlineRoom = refl
named_back NotRoom = refl
named_back PolygonRoom = refl
named_back FileLength = refl
named_back FileKind = refl
named_back BadCoordinate = refl
named_back BadRing = refl
named_back ChainRoom = refl
named_back RetiredKind = refl
named_back (UnknownParty i) = refl
named_back SpanRoom = refl
named_back GridSize = refl

-- number and place are those of one refusal
pub refusal_same : (q r : Refusal) → refusal_number q ≡ refusal_number r → refusal_place q ≡ refusal_place r → q ≡ r
refusal_same q r n i = sym (named_back q) ∙ ap₂ named n i ∙ named_back r

-- and so is a line
pub refusal_one : {l : List ℕ} (q r : Refusal) → RefusalRead l q → RefusalRead l r → q ≡ r
refusal_one q r a b = refusal_same q r (omega (arith, a.number, b.number)) (sym a.place ∙ b.place)

module _ (s : List ℕ) where
  abbrev left : List ℕ
  left = survivors (digits_of s)

  line_answer_lem : (j : Judged) → GivenLine s j → line_answer s ≡ answer_line (answer_by j (facts_of origin left)) left
  line_answer_lem j g = sym (line_answer-walked s (answer_by j (facts_of origin left)) (line_judged s j g))

  pub line_refused : (q : Refusal) → GivenLine s (Err q) → (line_answer s ≡ refused_line q) × RefusalRead (line_answer s) q
  line_refused q g =
      let e = line_answer_lem (Err q) g in
      (e, subst (λ (l : List ℕ). RefusalRead l q) (sym e) (refusal_read q (omega (arith, place_few q g))))

  pub refused_line_lem : (q : Refusal) → refusal_place q < 16 ^ 8 → line_answer s ≡ refused_line q → GivenLine s (Err q)
  refused_line_lem q h e = let x = line_given s in by x.0 x.1
    where
      by : (j : Judged) → GivenLine s j → GivenLine s (Err q)
      by (Ok _) g = absurd (omega (arith, ap length (sym e ∙ line_answer_lem (Ok tt) g), length-refused_line q, length_accepted (facts_of origin left) left))
      by (Err r) g = subst (λ (x : Refusal). GivenLine s (Err x)) (refusal_one r q (line_refused r g).1 (subst (λ (l : List ℕ). RefusalRead l q) (sym e) (refusal_read q h))) g

  -- an accepted line has the hull of the steps that survive
  module _ (L : List Corner) (hull : HullIs (corners_from origin left) L) where
    its_hull : hull_of origin left ≡ L
    its_hull = hull_is_one (corners_from origin left) (hull_of origin left) L (hull_of_hull origin left) hull

    line_accepted : GivenLine s (Ok tt) → line_answer s ≡ facts_line (facts_of origin left) ++ hull_line L
    line_accepted g = line_answer_lem (Ok tt) g ∙ ap (λ (l : List Corner). facts_line (facts_of origin left) ++ hull_line l) its_hull

    accepted_line : line_answer s ≡ facts_line (facts_of origin left) ++ hull_line L → GivenLine s (Ok tt)
    accepted_line e = let x = line_given s in by x.0 x.1
      where
        by : (j : Judged) → GivenLine s j → GivenLine s (Ok tt)
        by (Ok _) g = g
        by (Err r) g =
            absurd (omega (arith, ap length (sym (line_refused r g).0 ∙ e ∙ ap (λ (l : List Corner). facts_line (facts_of origin left) ++ hull_line l) (sym its_hull)), length-refused_line r, length_accepted (facts_of origin left) left))

-- of a frame with these operations
pub accepted_when : (s os : List ℕ) → FrameIs s 0 os → (L : List Corner) → HullIs (corners_from origin (survivors os)) L → line_answer s ≡ facts_line (facts_of origin (survivors os)) ++ hull_line L ↔ GivenLine s (Ok tt)
accepted_when s os f L hull =
    let e : digits_of s ≡ os = (frame_read (omega arith) f).1 in
    let h = subst (λ (ds : List ℕ). HullIs (corners_from origin (survivors ds)) L) (sym e) hull in
    let x = ap (λ (ds : List ℕ). facts_line (facts_of origin (survivors ds)) ++ hull_line L) e in
    (λ p. accepted_line s L h (p ∙ sym x), λ g. line_accepted s L h g ∙ x)

-- one line is written for each
pub program_lines : (s : List ℕ) → feeds_in (program s) ≡ lines_in s
program_lines s = output_lines answered (λ l. omega (arith, feeds_in-append (line_answer l) (10 ∷ []), line_answer_feeds l)) s

-- ---- every number has its digits
rise_few : (d : ℕ) (c : Corner) → nat_abs ((stepped d c).1 -ℤ c.1) ≤ 1
rise_few zero c = omega (arith, ap nat_abs (+ℤ_invr c.1))
rise_few (suc zero) c = omega (arith, ap nat_abs (suc_sub c.1))
rise_few (suc (suc zero)) c = omega (arith, ap nat_abs (+ℤ_invr c.1))
rise_few (suc (suc (suc d))) c = omega (arith, ap nat_abs (pred_sub c.1))

sweep_few : (c : Corner) (ds : List ℕ) → nat_abs c.0 + length ds ≤ most_digits → nat_abs (sweep_from c ds) ≤ length ds * most_digits
sweep_few c [] h = omega arith
sweep_few c (d ∷ ds) h =
    let e = stepped d c in
    omega (
      arith,
      abs+ (c.0 *ℤ (e.1 -ℤ c.1)) (sweep_from e ds),
      abs*≤ c.0 (e.1 -ℤ c.1) (nat_abs c.0) 1 (omega arith) (rise_few d c),
      sweep_few e ds (omega (arith, (stepped_bound d c).0)),
    )

area_few : (ds : List ℕ) → length ds ≤ most_digits → nat_abs (area_of origin ds) < 2 ^ 31
area_few ds h = by (eqb (verdict_number (verdict_of origin ds)) (verdict_number Room))
  where
    by : (b : Bool) → nat_abs (cond b (sweep_from origin ds) (pos 0)) < 2 ^ 31
    by true = omega (arith, sweep_few origin ds (omega arith))
    by false = omega arith

meeting_few : (ds : List ℕ) → length ds ≤ most_digits → (meeting_j (meeting_of origin ds) < 2 ^ 16) × (meeting_k (meeting_of origin ds) < 2 ^ 16)
meeting_few ds h = by (meeting_of origin ds) refl
  where
    by : (m : Meeting) → meeting_of origin ds ≡ m → (meeting_j m < 2 ^ 16) × (meeting_k m < 2 ^ 16)
    by none e = (omega arith, omega arith)
    by (meet j k) e = let m = (meeting_of_meets origin ds j k e).meets in (omega (arith, m.earlier, m.within), omega (arith, m.within))

pub line_spellable : (ds : List ℕ) (L : List Corner) → length ds ≤ most_digits → HullIs (corners_from origin ds) L → Spellable (facts_of origin ds) L
line_spellable ds L h hull =
    let ps = corners_from origin ds in
    let n = length_visited_le ps in
    let m = length-corners_from origin ds in
    record {
      steps = omega arith;
      nodes = omega (arith, n, m, few_nodes ds);
      corners = omega (arith, n, m);
      j = (meeting_few ds h).0;
      k = (meeting_few ds h).1;
      area = area_few ds h;
      hull = omega (arith, hull_count-steps origin ds L hull);
      near = λ i l.
          let b = corners-near origin ds (get_or L i origin) ((hull.corners (get_or L i origin)).0 (mem_get_d L i origin l)).visited in
          (omega (arith, b.0), omega (arith, b.1));
    }

pub line_read : (s os : List ℕ) → FrameIs s 0 os → (L : List Corner) → HullIs (corners_from origin (survivors os)) L → GivenLine s (Ok tt) → AnswerRead (line_answer s) (facts_of origin (survivors os)) L
line_read s os f L hull g =
    let few : length (survivors os) ≤ most_digits = omega (arith, length-survivors [] os, f.few) in
    subst (λ (l : List ℕ). AnswerRead l (facts_of origin (survivors os)) L) (sym ((accepted_when s os f L hull).1 g)) (answer_read (facts_of origin (survivors os)) L (line_spellable (survivors os) L few hull))

-- ---- a frame of turns, converted
pub turned : (s ts : List ℕ) → FrameIs s 1 ts → Below 4 ts → Turned s
turned s ts f b = let r = frame_read (omega arith) f in record { count = length ts; frame = r.0; turns = subst (Below 4) (sym r.1) b }

pub converted-is : (s ts : List ℕ) → FrameIs s 1 ts → Below 4 ts → FrameIs (converted_line s) 0 (steps_of ts) × (length (steps_of ts) ≡ length ts)
converted-is s ts f b =
    let t = turned s ts f b in
    let d : digits_of s ≡ ts = (frame_read (omega arith) f).1 in
    let n = length-steps_of ts in
    let x = read_frame (converted_line s) Operations (length (steps_of (digits_of s))) (converted_frame s t) in
    (subst (FrameIs (converted_line s) 0) (converted_digits s t ∙ ap steps_of d) x, n)
