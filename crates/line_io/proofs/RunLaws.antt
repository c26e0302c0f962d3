-- The rounds of a program on lines, one after the other: what was taken from the reader, what came to the writer, and what is still to
-- be written.
-- Assumes nothing.
use Rattle.std.proofs.Common.{◌≡◌, ℕ, ◌+◌, ◌-◌, ◌<◌, ◌≤◌, List, [], ◌++◌, None, Some, IfSome, length, take, drop, refl, sym, ap, ◌∙◌, subst, arith, append_assoc, append-nil, take-append-drop, length-take-le, drop-drop}
use native.Mathlib.Decide.{dec_lt}
use Rattle.std.specs.Prelude.{Option, Result, Ok, Err}
use Rattle.std.specs.Io.KnownBytes.{Appends, Consumes, IsAtEnd}
use Rattle.std.proofs.KnownBytes.{Appends-nil, Appends-trans, Consumes-nil, Consumes-trans, Consumes-whole}
use Rattle.std.proofs.lemmas.List.{drop_all}
use Rattle.line_stream.specs.declared.Progress.{Progress}
use Rattle.line_stream.specs.Stream.{owed_from, Fed, ended, fed}
use Rattle.line_stream.proofs.StreamLaws as stream_laws
use Rattle.sheet.specs.declared.Margin.{Margin}
use Rattle.sheet.specs.Sheet.{at_top}
use Rattle.sheet.proofs.NumberLaws.{page_append}
use Rattle.lines.specs.declared.Task.{Task, TheVariants.Answer, TheVariants.Convert, TheVariants.Rows, TheVariants.Enter}
use Rattle.lines.specs.Tasks.{job_of, fed_line_of, last_line_of, output_of, handed_of, margin_of, all_handed}
use Rattle.lines.proofs.TaskLaws.{job_does}
use Rattle.lines.proofs.Demand.{run_task}
use Rattle.line_io.specs.declared.{Round.Round, Round.TheVariants.More, Round.TheVariants.Over, Failure.Failure, Failure.TheVariants.Unread, Failure.TheVariants.Unwritten}
use Rattle.line_io.specs.Round.{RoundIs, Flows}
use Rattle.line_io.specs.Send.{ClosesBy}
use Rattle.line_io.specs.Whole.{Begun, Ends}

-- what is passed on of two parts, one after the other
handed_append : (t : Task) (m : Margin) (r s : List ℕ) → handed_of t m (r ++ s) ≡ handed_of t m r ++ handed_of t (margin_of t m r) s
handed_append Answer m r s = refl
handed_append Convert m r s = refl
handed_append Rows m r s = refl
handed_append Enter m r s = page_append m r s

-- the bytes `done` were taken and passed, and the task wrote w of them; what was passed on of it is `given`. The sheet stands at m, the
-- bytes h of a line are held, and `rest` was taken and is not passed yet
pub record Sofar (t : Task) (left left' held held' : Option (List ℕ)) (m : Margin) (h rest : List ℕ) : Type 0 where
  pub done : List ℕ
  pub w : List ℕ
  pub given : List ℕ
  pub took : Consumes left left' (done ++ rest)
  pub gave : Appends held held' given
  pub carries : (v : List ℕ) → given ++ handed_of t m v ≡ handed_of t at_top (w ++ v)
  pub passed : Fed (job_of t) [] done w h

pub sofar_begun : (t : Task) (left held : Option (List ℕ)) → Sofar t left left held held at_top [] []
sofar_begun t left held = record {
  done = [];
  w = [];
  given = [];
  took = Consumes-nil left;
  gave = Appends-nil held;
  carries = λ v. refl;
  passed = stream_laws.fed_nil (job_of t) [];
}

module _ {t : Task} {left left' held held' : Option (List ℕ)} {m : Margin} {h rest : List ℕ} (f : Sofar t left left' held held' m h rest) where
  -- bytes of the rest are passed
  sofar_passed : {held'' : Option (List ℕ)} (s w h' r : List ℕ) → s ++ r ≡ rest → Fed (job_of t) h s w h' → Appends held' held'' (handed_of t m w)
      → Sofar t left left' held held'' (margin_of t m w) h' r
  sofar_passed s w h' r e p g = record {
    done = f.done ++ s;
    w = f.w ++ w;
    given = f.given ++ handed_of t m w;
    took = subst (Consumes left left') (ap (λ (l : List ℕ). f.done ++ l) (sym e) ∙ sym (append_assoc f.done s r)) f.took;
    gave = Appends-trans held held' _ f.given (handed_of t m w) f.gave g;
    carries = λ v.
        append_assoc f.given (handed_of t m w) (handed_of t (margin_of t m w) v)
        ∙ ap (λ (l : List ℕ). f.given ++ l) (sym (handed_append t m w v))
        ∙ f.carries (w ++ v)
        ∙ ap (handed_of t at_top) (sym (append_assoc f.w w v));
    passed = stream_laws.fed_append (job_of t) [] f.done f.w h s w h' f.passed p;
  }

  -- the next bytes are taken, if all were passed
  sofar_taken : {left'' : Option (List ℕ)} (s : List ℕ) → rest ≡ [] → Consumes left' left'' s → Sofar t left left'' held held' m h s
  sofar_taken {left''} s e c = record {
    done = f.done;
    w = f.w;
    given = f.given;
    took = subst (Consumes left left'') (append_assoc f.done rest s ∙ ap (λ (l : List ℕ). f.done ++ (l ++ s)) e) (Consumes-trans left left' left'' (f.done ++ rest) s f.took c);
    gave = f.gave;
    carries = f.carries;
    passed = f.passed;
  }

  -- the input is over, and what is written of the last line is passed on
  sofar_over : (left'' held'' : Option (List ℕ)) → rest ≡ [] → Consumes left' left'' [] → IsAtEnd left'' → Appends held' held'' (handed_of t m ((job_of t).last h))
      → IfSome left (λ s. Appends held held'' (all_handed t s))
  sofar_over left'' held'' e c z g =
      let all = f.done ++ [] in
      let took : Consumes left left'' all = subst (Consumes left left'')
      (append_assoc f.done rest [] ∙ ap (λ (l : List ℕ). f.done ++ l) (append-nil rest ∙ e))
      (Consumes-trans left left' left'' (f.done ++ rest) [] f.took c) in
      let whole : f.given ++ handed_of t m ((job_of t).last h) ≡ all_handed t all =
      f.carries ((job_of t).last h) ∙ ap (handed_of t at_top) (run_task t (fed f.done f.w h f.passed ended))
      in
      Consumes-whole left left'' all (λ s. Appends held held'' (all_handed t s)) took z
      (subst (Appends held held'') whole (Appends-trans held held' held'' f.given _ f.gave g))

  -- what was passed on is a beginning of the whole
  begun_of : (r s : List ℕ) → s ≡ (f.done ++ rest) ++ r → Begun held held' (all_handed t s)
  begun_of r s e =
      let v = rest ++ r in
      let J = job_of t in
      let owed = owed_from J h [] v in (
        f.given,
        handed_of t m owed,
        f.gave,
        f.carries owed
            ∙ ap (handed_of t at_top)
            (f.passed v
            ∙ stream_laws.owed_output J (fed_line_of t) (last_line_of t) (job_does t) [] (f.done ++ v)
            ∙ ap (output_of t) (sym (e ∙ append_assoc f.done rest r))),
      )

pub sofar_broken : (t : Task) (left left' held held' : Option (List ℕ)) {m : Margin} {h rest : List ℕ} → Sofar t left left' held held' m h rest
    → IfSome left (λ s. Begun held held' (all_handed t s))
sofar_broken t None left' held held' f = tt
sofar_broken t (Some s) None held held' f = absurd f.took
sofar_broken t (Some s) (Some r) held held' f = begun_of f r s f.took

-- a round: the chunk is the first n bytes of buf, and was passed up to the place of p
module _ {t : Task} {line buf out line' buf' out' : List ℕ} {p : Progress} {n : ℕ} {m : Margin} {r : Result Round Failure} {left left' left'' held held' held'' : Option (List ℕ)}
    (f : Sofar t left left' held held' m (take p.held line) (drop p.at (take n buf)))
    (i : RoundIs t line p buf n out m r line' buf' out') (j : Flows t p n m r buf' out' left' left'' held' held'') (fits : n ≤ length buf) where
  none_left : n ≤ p.at → drop p.at (take n buf) ≡ []
  none_left l = drop_all p.at (take n buf) (omega (arith, length-take-le n buf fits))

  pub round_more : {q : Progress} {k : ℕ} {o : Margin} → r ≡ Ok (More q k o) → Sofar t left left'' held held'' o (take q.held line') (drop q.at (take k buf'))
  round_more {q} {k} {o} e =
      let a : RoundIs t line p buf n out m (Ok (More q k o)) line' buf' out' = subst (λ (x : Result Round Failure). RoundIs t line p buf n out m x line' buf' out') e i in
      let b : Flows t p n m (Ok (More q k o)) buf' out' left' left'' held' held'' = subst (λ (x : Result Round Failure). Flows t p n m x buf' out' left' left'' held' held'') e j in
      elim (dec_lt p.at n) [
        | yes l ↦
            let (passed, same) = a.on l in
            let (filled, count, stands) = passed in
            let (gave, kept) = b.on l in
            let s = take n buf in
            let chunk : take k buf' ≡ s = ap (take k) same ∙ ap (λ (x : ℕ). take x buf) (count ∙ length-take-le n buf fits) in
            let sum : p.at + (q.at - p.at) ≡ q.at = omega (arith, filled.from) in
            let parts : take (q.at - p.at) (drop p.at s) ++ drop q.at s ≡ drop p.at s =
            ap (λ (x : List ℕ). take (q.at - p.at) (drop p.at s) ++ x) (sym (drop-drop (q.at - p.at) p.at s ∙ ap (λ (x : ℕ). drop x s) sum))
            ∙ take-append-drop (q.at - p.at) (drop p.at s)
            in
            let g : Sofar t left left' held held'' (margin_of t m (take q.used out')) (take q.held line') (drop q.at s) = sofar_passed f _ _ _ _ parts filled.fed gave in
            subst (λ (x : Option (List ℕ)). Sofar t left x held held'' o (take q.held line') (drop q.at (take k buf'))) (sym kept)
            (subst (λ (x : List ℕ). Sofar t left left' held held'' o (take q.held line') (drop q.at x)) (sym chunk)
            (subst (λ (x : Margin). Sofar t left left' held held'' x (take q.held line') (drop q.at s)) (sym stands) g))
        | no g ↦
            let l : n ≤ p.at = omega (arith, g) in
            let (read, same, _) = a.next l in
            let (at_start, _, stands) = read in
            let (took, kept) = b.next l in
            let d : Sofar t left left'' held held' m (take p.held line) (take k buf') = sofar_taken f (take k buf') (none_left l) took in
            subst (λ (x : Progress). Sofar t left left'' held held'' o (take x.held line') (drop x.at (take k buf'))) (sym at_start)
            (subst (λ (x : List ℕ). Sofar t left left'' held held'' o (take p.held x) (take k buf')) (sym same)
            (subst (λ (x : Margin). Sofar t left left'' held held'' x (take p.held line) (take k buf')) (sym stands)
            (subst (λ (x : Option (List ℕ)). Sofar t left left'' held x m (take p.held line) (take k buf')) (sym kept) d)))
      ]

  pub round_over : {k : ℕ} (last : Option (List ℕ)) → r ≡ Ok (Over k) → 0 < length buf' → Appends held'' last (handed_of t m ((job_of t).last (take k line')))
      → IfSome left (λ s. Appends held last (all_handed t s))
  round_over {k} last e z g =
      let a : RoundIs t line p buf n out m (Ok (Over k)) line' buf' out' = subst (λ (x : Result Round Failure). RoundIs t line p buf n out m x line' buf' out') e i in
      let b : Flows t p n m (Ok (Over k)) buf' out' left' left'' held' held'' = subst (λ (x : Result Round Failure). Flows t p n m x buf' out' left' left'' held' held'') e j in
      elim (dec_lt p.at n) [
        | yes l ↦ absurd (a.on l).0
        | no o ↦
            let l : n ≤ p.at = omega (arith, o) in
            let (count, same, _) = a.next l in
            let (took, kept) = b.next l in
            let h : take k line' ≡ take p.held line = ap (take k) same ∙ ap (λ (x : ℕ). take x line) count in
            sofar_over f left'' last (none_left l) took.0 (took.1 z)
            (subst (λ (x : List ℕ). Appends held' last (handed_of t m ((job_of t).last x))) h
            (subst (λ (x : Option (List ℕ)). Appends x last (handed_of t m ((job_of t).last (take k line')))) kept g))
      ]

  pub round_unread : r ≡ Err Unread → IfSome left (λ s. Begun held held'' (all_handed t s))
  round_unread e =
      let a : RoundIs t line p buf n out m (Err Unread) line' buf' out' = subst (λ (x : Result Round Failure). RoundIs t line p buf n out m x line' buf' out') e i in
      let b : Flows t p n m (Err Unread) buf' out' left' left'' held' held'' = subst (λ (x : Result Round Failure). Flows t p n m x buf' out' left' left'' held' held'') e j in
      elim (dec_lt p.at n) [
        | yes l ↦ absurd (a.on l).0
        | no o ↦
            let l : n ≤ p.at = omega (arith, o) in
            let (took, kept) = b.next l in
            subst (λ (x : Option (List ℕ)). IfSome left (λ s. Begun held x (all_handed t s))) (sym kept)
            (sofar_broken t left left'' held held' (sofar_taken f [] (none_left l) took))
      ]

  -- the run ends as the close does, and a failure ends it
  pub round_closed : {k : ℕ} (last : Option (List ℕ)) (e : Result (Unit {0}) Failure) → r ≡ Ok (Over k) → 0 < length buf'
      → ClosesBy held'' last (handed_of t m ((job_of t).last (take k line'))) e → Ends t left held last e
  round_closed last (Ok u) q z g = round_over last q z g
  round_closed last (Err x) q z g = subst (λ (y : Failure). Ends t left held last (Err y)) (sym g) tt

  pub round_failed : (e : Failure) → r ≡ Err e → Ends t left held held'' (Err e)
  round_failed Unread q = round_unread q
  round_failed Unwritten q = tt
