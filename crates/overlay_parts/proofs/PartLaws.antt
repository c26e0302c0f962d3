-- From the lists of the parts to what is answered for them.
-- Assumes nothing.
use Rattle.std.specs.Prelude.{Err, Ok}
use mathlib.Core.List.{List}
use mathlib.Core.Path.{◌≡◌, sym, ap, ap₂, ◌∙◌}
use Prim.Native.Nat.{ℕ, ◌+◌, ◌*◌, ◌/◌, ◌<◌, ◌≤◌}
use native.Mathlib.Omega.{arith}
use lib.IntN.{ℤ}
use lib.ListN.{length}
use Rattle.answer.specs.Answers.{Judged}
use Rattle.answer.specs.declared.{Refusal.TheVariants.SpanRoom}
use Rattle.answer.specs.Listed.{laid_if}
use Rattle.row.specs.{Rows.Span, Rows.span_numbers}
use Rattle.row_laws.proofs.NumberLaws.{written}
use Rattle.overlay.specs.declared.{Part.Part, Part.TheVariants.First, Part.TheVariants.Second, Part.TheVariants.Both, Measure.Measure, Measures.Measures}
use Rattle.overlay.specs.Call.{of_parts, measure_of, measures_of, overlaid_of}
use Rattle.overlay_laws.specs.Sweep.{ends_from}
use Rattle.overlay_laws.proofs.{FewLaws.part_half, SweepLaws.length-ends_from}
use Rattle.overlay_laws.proofs.CallLaws.{any-short, all_enough}
use Rattle.overlay_sweep.specs.Keys.{in_parts}
use Rattle.answer.specs.Limits.{most_steps}
use Rattle.overlay_sweep.specs.Parts.{Spanned, part_spans, Swept}
use Rattle.overlay_parts.specs.Parts.{HaveRoom, PartsCall}

-- the list of a part has three numbers for each two ends at most
pub part_most : (a : List ℤ) (na : ℕ) (b : List ℤ) (nb : ℕ) (k : Part) → 3 * length (part_spans a na b nb k) ≤ 3 * ((na + nb) / 2)
part_most a na b nb k = omega (arith, part_half k (ends_from a 0 na) (ends_from b 0 nb), length-ends_from a 0 na, length-ends_from b 0 nb)

module _ (L : Part → List Span) where
  pub parts_measured : (r : Measures) → ((k : Part) → in_parts r k ≡ measure_of (L k)) → r ≡ measures_of L
  parts_measured r e = ap₂ (λ (i j : Measure). record { first = i; second = j; both = r.both }) (e First) (e Second) ∙ ap (λ (k : Measure). record { first = measure_of (L First); second = measure_of (L Second); both = k }) (e Both)

  pub parts_spans : (r : Measures) → r ≡ measures_of L → (k : Part) → (in_parts r k).spans ≡ length (L k)
  parts_spans r e First = ap (λ (m : Measures). m.first.spans) e
  parts_spans r e Second = ap (λ (m : Measures). m.second.spans) e
  parts_spans r e Both = ap (λ (m : Measures). m.both.spans) e

  module _ (f g h : List ℤ) where
    pub parts_short : (r : Measures) → r ≡ measures_of L → (k : Part) → length (of_parts f g h k) < 3 * (in_parts r k).spans → PartsCall L (of_parts f g h) (Err SpanRoom) (of_parts f g h)
    parts_short r m k l =
        let e = any-short (of_parts f g h) L k (omega (arith, l, parts_spans r m k)) in
        record { answer = sym (ap (λ (j : Judged). overlaid_of j L) e); buffers = λ i. sym (ap (λ (j : Judged). laid_if j (span_numbers (L i)) (of_parts f g h i)) e) }

    pub parts_room : 3 * length (L First) ≤ length f → 3 * length (L Second) ≤ length g → 3 * length (L Both) ≤ length h → HaveRoom L (of_parts f g h)
    parts_room l m n First = l
    parts_room l m n Second = m
    parts_room l m n Both = n

    pub parts_listed : (r : Measures) (after : Part → List ℤ) → HaveRoom L (of_parts f g h) → ((k : Part) → Swept (L k) (of_parts f g h k) (in_parts r k) (after k)) → PartsCall L (of_parts f g h) (Ok r) after
    parts_listed r after all w =
        let e = all_enough (of_parts f g h) L all in
        record {
          answer = ap Ok (parts_measured r (λ k. (w k).measure)) ∙ sym (ap (λ (j : Judged). overlaid_of j L) e);
          buffers = λ k. (w k).buffer (all k) ∙ written (of_parts f g h k) (L k) (all k) ∙ sym (ap (λ (j : Judged). laid_if j (span_numbers (L k)) (of_parts f g h k)) e);
        }

-- a part has no more spans than the rooms have steps, as they were measured
pub spans_few : {a b : List ℤ} {na nb : ℕ} → Spanned a na → Spanned b nb → (r : Measures) → r ≡ measures_of (part_spans a na b nb) → (k : Part) → (in_parts r k).spans ≤ most_steps
spans_few {a} {b} {na} {nb} x y r m k = omega (arith, parts_spans (part_spans a na b nb) r m k, part_most a na b nb k, x.held.numbers.few, y.held.numbers.few)
