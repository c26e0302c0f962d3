-- The words of a refusal, and answers whose numbers fit 32 bits. Assumes nothing.
use Rattle.std.specs.Prelude.{List, ◌∷◌, replicate, ℕ, ◌-◌, ◌^◌, Err, Ok, ◌<◌}
use Rattle.polygon_ring.specs.Answers.{Given}
use Rattle.overlay.specs.Answers.{Overlaid}
use Rattle.orthogonal.specs.Answers.{Orthogonal}
use Rattle.answer.specs.Answers.{Answer, Counted, PairAnswer}
use Rattle.answer.specs.declared.{PartyFacts.PartyFacts, PairFacts.PairFacts, Refusal.Refusal}
use Rattle.answer.specs.Refusal.{refusal_number, refusal_place}
use Rattle.orthogonal.specs.declared.{Enclosed.Enclosed}
use Rattle.overlay.specs.declared.{Measure.Measure, Measures.Measures}

-- of n words of a refusal the first two are its number and place, and all others 0
abbrev pub refused_words : ℕ → Refusal → List ℕ
refused_words n r = refusal_number r ∷ refusal_place r ∷ replicate (n - 2) 0

-- of a walk
abbrev pub AnswerFits : Answer → Type 0
AnswerFits (Ok f) =
    (f.steps < 2 ^ 32) × (f.nodes < 2 ^ 32) × (f.corners < 2 ^ 32) × (f.j < 2 ^ 32) × (f.k < 2 ^ 32)
AnswerFits (Err r) = refusal_place r < 2 ^ 32

-- of two parties
abbrev pub PartyFits : PartyFacts → Type 0
PartyFits f = (f.steps < 2 ^ 32) × (f.corners < 2 ^ 32) × (f.j < 2 ^ 32) × (f.k < 2 ^ 32)

abbrev pub PairFits : PairFacts → Type 0
PairFits f = (f.nodes < 2 ^ 32) × PartyFits f.first × PartyFits f.second

abbrev pub PairAnswerFits : PairAnswer → Type 0
PairAnswerFits (Ok f) = PairFits f
PairAnswerFits (Err r) = refusal_place r < 2 ^ 32

-- of a call that lists
abbrev pub CountedFits : Counted → Type 0
CountedFits (Ok n) = n < 2 ^ 32
CountedFits (Err r) = refusal_place r < 2 ^ 32

-- of a polygon that is read
abbrev pub GivenFits : Given → Type 0
GivenFits (Ok f) = f.steps < 2 ^ 32
GivenFits (Err r) = refusal_place r < 2 ^ 32

-- of two rooms that are laid over each other
abbrev pub MeasureFits : Measure → Type 0
MeasureFits m = (m.panels < 2 ^ 32) × (m.spans < 2 ^ 32)

abbrev pub MeasuresFit : Measures → Type 0
MeasuresFit m = MeasureFits m.first × MeasureFits m.second × MeasureFits m.both

abbrev pub OverlaidFits : Overlaid → Type 0
OverlaidFits (Ok m) = MeasuresFit m
OverlaidFits (Err r) = refusal_place r < 2 ^ 32

-- of an orthogonal hull
abbrev pub EnclosedFits : Enclosed → Type 0
EnclosedFits h = (h.steps < 2 ^ 32) × (h.blocks < 2 ^ 32)

abbrev pub OrthogonalFits : Orthogonal → Type 0
OrthogonalFits (Ok h) = EnclosedFits h
OrthogonalFits (Err r) = refusal_place r < 2 ^ 32
