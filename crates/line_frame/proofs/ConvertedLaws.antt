-- Lines converted: which change, what they become, and the whole output of the converter.
-- Assumes nothing.
use Rattle.std.specs.Prelude.{Err, Ok, Option, Some, None}
use mathlib.Core.Path.{◌≡◌, refl, sym, ap, ◌∙◌, subst}
use mathlib.Core.Bool.{Bool, true, false, ◌&&◌}
use mathlib.Core.List.{List, [], ◌∷◌, ◌++◌}
use Prim.Native.Nat.{ℕ, ◌+◌, ◌<◌, ◌≤◌}
use native.Mathlib.Omega.{arith}
use borrow.Author.Tests.{ne_eqb}
use lib.ListN.{length}
use Rattle.answer.specs.Answers.{Judged}
use Rattle.lists.specs.Lists.{Below}
use Rattle.steps.specs.Turns.{steps_of, turns_judged, written_if}
use Rattle.steps.proofs.TurnLaws.{steps_of_below, length-steps_of}
use Rattle.steps.proofs.TurnPromiseLaws.{turns_judged_good, good_turns_judged}
use Rattle.steps.specs.Operations.{survivors}
use Rattle.line_frame.specs.declared.Kind.TheVariants.{Operations, Turns}
use Rattle.line_frame.specs.Sizes.{head_digits, most_digits, most_line}
use Rattle.line_frame.specs.Hex.{is_hex, all_hex}
use Rattle.line_frame.specs.Line.{frame_of, digits_of, kind_walked, line_answer}
use Rattle.line_frame.specs.Spelled.{answer_line}
use Rattle.line_frame.specs.Program.{output_from, feeds_in}
use Rattle.line_frame.specs.Converted.{steps_frame, converted_by, Turned, converted_line, converted, converter}
use Rattle.line_frame.proofs.HexLaws.{is_hex_range}
use Rattle.line_frame.proofs.LineLaws.{one_frame, frame_good, line_answer-by, length-digits_of}
use Rattle.line_frame.proofs.FrameLaws.{length-framed, framed_hex, frame_of-framed, digits_framed}
use Rattle.line_frame.proofs.OutputLaws.{feeds_in-more, output_same, output_length, output_feeds, output_then}
use Rattle.line_frame.specs.declared.Kind.{Kind}

below_more : (m n : ℕ) (ds : List ℕ) → m ≤ n → Below m ds → Below n ds
below_more m n [] h b = tt
below_more m n (d ∷ ds) h b = (omega (arith, b.0), below_more m n ds h b.1)

-- digits hold no line feed
hex_feeds : (s : List ℕ) → all_hex s ≡ true → feeds_in s ≡ 0
unfolding all_hex
hex_feeds [] e = refl
hex_feeds (b ∷ s) e = go (is_hex b) refl e (λ k. hex_feeds s k)
  where
    go : (c : Bool) → is_hex b ≡ c → c && all_hex s ≡ true → (all_hex s ≡ true → feeds_in s ≡ 0) → feeds_in (b ∷ s) ≡ 0
    go true p q f = feeds_in-more b s (ne_eqb b 10 (λ x. omega (arith, (is_hex_range b p).0))) ∙ f q
    go false p q f = let z : ◌≡◌ {A = ℕ} 0 1 = cc in absurd (omega arith)

-- a frame's turns are few
few_turns : (s : List ℕ) (t : Turned s) → (length s ≡ head_digits + length (digits_of s)) × (length (digits_of s) ≤ most_digits)
few_turns s t =
    let g = frame_good s Turns t.count t.frame in
    let e = length-digits_of s t.count g.size in
    (omega (arith, g.size, e), omega (arith, g.most, e))

-- those that may be converted are judged good
turned_good : (s : List ℕ) → Turned s → turns_judged (digits_of s) (length (digits_of s)) ≡ Ok tt
turned_good s t = good_turns_judged (digits_of s) (length (digits_of s)) (record { few = omega (arith, few_turns s t); long = refl; digits = t.turns })

-- which lines change
dec_turned : (s : List ℕ) → Dec (Turned s)
dec_turned s = go (frame_of s) (turns_judged (digits_of s) (length (digits_of s))) refl refl
  where
    go : (f : Option (Kind × ℕ)) (j : Judged) → frame_of s ≡ f → turns_judged (digits_of s) (length (digits_of s)) ≡ j → Dec (Turned s)
    go (Some (Operations, n)) j e k = no (λ t. let z : ◌≡◌ {A = Option (Kind × ℕ)} (Some (Operations, n)) (Some (Turns, t.count)) = sym e ∙ t.frame in let x = (one_frame z).0 in let y : ◌≡◌ {A = ℕ} 0 1 = cc in omega arith)
    go None j e k = no (λ t. let z : ◌≡◌ {A = Option (Kind × ℕ)} None (Some (Turns, t.count)) = sym e ∙ t.frame in let y : ◌≡◌ {A = ℕ} 0 1 = cc in omega arith)
    go (Some (Turns, n)) (Ok _) e k = yes (record { count = n; frame = e; turns = (turns_judged_good (digits_of s) (length (digits_of s)) k).digits })
    go (Some (Turns, n)) (Err r) e k = no (λ t. let z : ◌≡◌ {A = Judged} (Ok tt) (Err r) = sym (turned_good s t) ∙ k in let y : ◌≡◌ {A = ℕ} 0 1 = cc in omega arith)

-- by its frame
pub converted_line-by : (s : List ℕ) (f : Option (Kind × ℕ)) → frame_of s ≡ f → converted_by f s ≡ converted_line s
unfolding converted_line
converted_line-by s f e = sym (ap (λ (g : Option (Kind × ℕ)). converted_by g s) e)

-- what they become
converted-turned : (s : List ℕ) → Turned s → converted_line s ≡ steps_frame (steps_of (digits_of s))
unfolding converted_line
converted-turned s t =
    ap (λ (f : Option (Kind × ℕ)). converted_by f s) t.frame
    ∙ ap (λ (j : Judged). written_if j (steps_frame (steps_of (digits_of s))) s) (turned_good s t)

-- and that the others stay
pub converted_other : (s : List ℕ) → (Turned s → ⊥) → converted_line s ≡ s
unfolding converted_line
converted_other s n = go (frame_of s) (turns_judged (digits_of s) (length (digits_of s))) refl refl
  where
    go : (f : Option (Kind × ℕ)) (j : Judged) → frame_of s ≡ f → turns_judged (digits_of s) (length (digits_of s)) ≡ j → converted_by f s ≡ s
    go (Some (Operations, m)) j e k = refl
    go None j e k = refl
    go (Some (Turns, m)) (Ok _) e k = absurd (n (record { count = m; frame = e; turns = (turns_judged_good (digits_of s) (length (digits_of s)) k).digits }))
    go (Some (Turns, m)) (Err r) e k = ap (λ (j : Judged). written_if j (steps_frame (steps_of (digits_of s))) s) k

pub converted-long : (s : List ℕ) → most_line < length s → converted_line s ≡ s
converted-long s h = converted_other s (λ t. omega (arith, few_turns s t))

pub converted_nil : converted_line [] ≡ []
converted_nil = converted_other [] (λ t. omega (arith, few_turns [] t))

-- the steps of a line that changes
module _ (s : List ℕ) (t : Turned s) where
  steps_below : Below 4 (steps_of (digits_of s))
  steps_below = steps_of_below (digits_of s) t.turns

  steps_digits : Below 16 (steps_of (digits_of s))
  steps_digits = below_more 4 16 (steps_of (digits_of s)) (omega arith) steps_below

  steps_few : length (steps_of (digits_of s)) ≤ most_digits
  steps_few = omega (arith, length-steps_of (digits_of s), few_turns s t)

  pub converted_frame : frame_of (converted_line s) ≡ Some (Operations, length (steps_of (digits_of s)))
  converted_frame = ap frame_of (converted-turned s t) ∙ frame_of-framed 0 (omega arith) (steps_of (digits_of s)) steps_digits steps_few

  pub converted_digits : digits_of (converted_line s) ≡ steps_of (digits_of s)
  converted_digits = ap digits_of (converted-turned s t) ∙ digits_framed 0 (omega arith) (steps_of (digits_of s)) steps_digits

  -- converted, it is answered as they are
  pub converted_answer : line_answer (converted_line s) ≡ answer_line (kind_walked Operations (steps_of (digits_of s))) (survivors (steps_of (digits_of s)))
  converted_answer =
      sym (line_answer-by (converted_line s) (Some (Operations, length (steps_of (digits_of s)))) converted_frame)
      ∙ ap (λ (ds : List ℕ). answer_line (kind_walked Operations ds) (survivors ds)) converted_digits

  turned-length : length (converted_line s) ≡ length s
  turned-length =
      omega (arith, ap length (converted-turned s t), length-framed 0 (omega arith) (steps_of (digits_of s)) steps_digits, length-steps_of (digits_of s), few_turns s t)

  turned_feeds : feeds_in (converted_line s) ≡ feeds_in s
  turned_feeds =
      ap feeds_in (converted-turned s t)
      ∙ hex_feeds (steps_frame (steps_of (digits_of s))) (framed_hex 0 (omega arith) (steps_of (digits_of s)) steps_digits)
      ∙ sym (hex_feeds s (frame_good s Turns t.count t.frame).digits)

-- a line and what becomes of it
pub converted-length : (s : List ℕ) → length (converted_line s) ≡ length s
converted-length s = elim (dec_turned s) [ yes t ↦ turned-length s t | no n ↦ ap length (converted_other s n) ]

converted_feeds : (s : List ℕ) → feeds_in (converted_line s) ≡ feeds_in s
converted_feeds s = elim (dec_turned s) [ yes t ↦ turned_feeds s t | no n ↦ ap feeds_in (converted_other s n) ]

pub converted-none : (s : List ℕ) → Turned (converted_line s) → ⊥
converted-none s u = elim (dec_turned s) [ yes t ↦ two (converted_frame s t) u.frame | no n ↦ n (subst Turned (converted_other s n) u) ]
  where
    two : {f : Option (Kind × ℕ)} {m k : ℕ} → f ≡ Some (Operations, m) → f ≡ Some (Turns, k) → ⊥
    two {f} {m} {k} p q = let z : ◌≡◌ {A = Option (Kind × ℕ)} (Some (Operations, m)) (Some (Turns, k)) = sym p ∙ q in let x = (one_frame z).0 in let y : ◌≡◌ {A = ℕ} 0 1 = cc in omega arith

-- the whole output: what is done with its lines is done with the lines converted
pub converter_then : (told last : List ℕ → List ℕ) (s : List ℕ) → output_from told last [] (converter s) ≡ output_from (λ l. told (converted_line l)) (λ l. last (converted_line l)) [] s
converter_then told last s = output_then converted_line converted-length converted_feeds told last [] s refl

pub converter-twice : (s : List ℕ) → converter (converter s) ≡ converter s
converter-twice s =
    converter_then converted converted_line s
    ∙ output_same (λ l. converted (converted_line l)) (λ l. converted_line (converted_line l)) converted converted_line (λ l. ap (λ (x : List ℕ). x ++ (10 ∷ [])) (once l)) once [] s
  where
    once : (l : List ℕ) → converted_line (converted_line l) ≡ converted_line l
    once l = converted_other (converted_line l) (converted-none l)

pub converter-length : (s : List ℕ) → length (converter s) ≡ length s
converter-length s = omega (arith, output_length converted_line converted-length converted_feeds [] s)

pub converter_feeds : (s : List ℕ) → feeds_in (converter s) ≡ feeds_in s
converter_feeds s = omega (arith, output_feeds converted_line converted-length converted_feeds [] s)
