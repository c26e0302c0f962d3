-- The numbers that cross the boundary are those of the answers.
-- Assumes nothing.
use Rattle.std.specs.Prelude.{Err, Ok}
use mathlib.Core.List.{List, [], ◌∷◌}
use mathlib.Core.Path.{◌≡◌, ap, ap₂, ◌∙◌}
use Prim.Native.Nat.{ℕ, ◌<◌}
use native.Mathlib.Omega.{arith}
use lib.ListN.{get_or}
use Rattle.polygon_ring.specs.Answers.{Given}
use Rattle.overlay.specs.Answers.{Overlaid}
use Rattle.orthogonal.specs.Answers.{Orthogonal}
use Rattle.answer.specs.Answers.{Answer, Counted, PairAnswer}
use Rattle.answer.specs.declared.Facts.{Facts}
use Rattle.answer.specs.declared.PairFacts.{PairFacts}
use Rattle.answer.specs.declared.PartyFacts.{PartyFacts}
use Rattle.answer.specs.declared.Verdict.{Verdict}
use Rattle.answer.specs.declared.Verdict.TheVariants.{Nowhere, Open, Room, OpenMeeting, ClosedMeeting, ThereAndBack}
use Rattle.answer.specs.Refusal.{verdict_number}
use Rattle.polygon_ring.specs.declared.{Found.Found}
use Rattle.polygon_ring.specs.Words.{given_words, given_number}
use Rattle.orthogonal.specs.declared.{Enclosed.Enclosed}
use Rattle.orthogonal.specs.Call.{orthogonal_words, orthogonal_number}
use Rattle.overlay.specs.Call.{overlaid_words, overlaid_number}
use Rattle.pair.specs.Words.{party_words, pair_answer_words, pair_answer_number}
use Rattle.answer.specs.Words.{bits_of, facts_words, answer_words, counted_words, answer_number, counted_number}

-- the first word is the result
pub answer_first : (a : Answer) (w : List ℕ) → w ≡ answer_words a → get_or w 0 0 ≡ answer_number a
answer_first (Ok f) w e = ap (λ (l : List ℕ). get_or l 0 0) e
answer_first (Err r) w e = ap (λ (l : List ℕ). get_or l 0 0) e

pub pair_first : (a : PairAnswer) (w : List ℕ) → w ≡ pair_answer_words a → get_or w 0 0 ≡ pair_answer_number a
pair_first (Ok f) w e = ap (λ (l : List ℕ). get_or l 0 0) e
pair_first (Err r) w e = ap (λ (l : List ℕ). get_or l 0 0) e

pub counted_first : (c : Counted) (w : List ℕ) → w ≡ counted_words c → get_or w 0 0 ≡ counted_number c
counted_first (Ok n) w e = ap (λ (l : List ℕ). get_or l 0 0) e
counted_first (Err r) w e = ap (λ (l : List ℕ). get_or l 0 0) e

pub given_first : (g : Given) (w : List ℕ) → w ≡ given_words g → get_or w 0 0 ≡ given_number g
given_first (Ok f) w e = ap (λ (l : List ℕ). get_or l 0 0) e
given_first (Err r) w e = ap (λ (l : List ℕ). get_or l 0 0) e

pub overlaid_first : (o : Overlaid) (w : List ℕ) → w ≡ overlaid_words o → get_or w 0 0 ≡ overlaid_number o
overlaid_first (Ok m) w e = ap (λ (l : List ℕ). get_or l 0 0) e
overlaid_first (Err r) w e = ap (λ (l : List ℕ). get_or l 0 0) e

pub orthogonal_first : (o : Orthogonal) (w : List ℕ) → w ≡ orthogonal_words o → get_or w 0 0 ≡ orthogonal_number o
orthogonal_first (Ok h) w e = ap (λ (l : List ℕ). get_or l 0 0) e
orthogonal_first (Err r) w e = ap (λ (l : List ℕ). get_or l 0 0) e

-- ---- the words of an accepted walk
pub verdict_small : (v : Verdict) (n : ℕ) → n ≡ verdict_number v → n < 6
verdict_small Nowhere n e = omega arith
verdict_small Open n e = omega arith
verdict_small Room n e = omega arith
verdict_small OpenMeeting n e = omega arith
verdict_small ClosedMeeting n e = omega arith
verdict_small ThereAndBack n e = omega arith

pub accepted_words : (f : Facts) (v a x y : ℕ) → v ≡ verdict_number f.verdict → a ≡ bits_of f.area → x ≡ bits_of f.last.0 → y ≡ bits_of f.last.1
    → 0 ∷ 0 ∷ v ∷ f.steps ∷ f.nodes ∷ f.corners ∷ f.j ∷ f.k ∷ a ∷ x ∷ y ∷ [] ≡ facts_words f
accepted_words f v a x y e₁ e₂ e₃ e₄ =
    ap₂ (λ (p q : ℕ). 0 ∷ 0 ∷ p ∷ f.steps ∷ f.nodes ∷ f.corners ∷ f.j ∷ f.k ∷ q ∷ x ∷ y ∷ []) e₁ e₂
    ∙ ap₂ (λ (p q : ℕ). 0 ∷ 0 ∷ verdict_number f.verdict ∷ f.steps ∷ f.nodes ∷ f.corners ∷ f.j ∷ f.k ∷ bits_of f.area ∷ p ∷ q ∷ []) e₃ e₄

-- ---- those of two parties that are accepted
pub party_words_lem : (f : PartyFacts) (v a x y : ℕ) → v ≡ verdict_number f.verdict → a ≡ bits_of f.area → x ≡ bits_of f.last.0 → y ≡ bits_of f.last.1
    → v ∷ f.steps ∷ f.corners ∷ f.j ∷ f.k ∷ a ∷ x ∷ y ∷ [] ≡ party_words f
party_words_lem f v a x y e₁ e₂ e₃ e₄ =
    ap₂ (λ (p q : ℕ). p ∷ f.steps ∷ f.corners ∷ f.j ∷ f.k ∷ q ∷ x ∷ y ∷ []) e₁ e₂
    ∙ ap₂ (λ (p q : ℕ). verdict_number f.verdict ∷ f.steps ∷ f.corners ∷ f.j ∷ f.k ∷ bits_of f.area ∷ p ∷ q ∷ []) e₃ e₄

pub pair_words : (f : PairFacts) (a b : List ℕ) → a ≡ party_words f.first → b ≡ party_words f.second
    → 0 ∷ 0 ∷ f.nodes ∷ get_or a 0 0 ∷ get_or a 1 0 ∷ get_or a 2 0 ∷ get_or a 3 0 ∷ get_or a 4 0 ∷ get_or a 5 0 ∷ get_or a 6 0 ∷ get_or a 7 0
    ∷ get_or b 0 0 ∷ get_or b 1 0 ∷ get_or b 2 0 ∷ get_or b 3 0 ∷ get_or b 4 0 ∷ get_or b 5 0 ∷ get_or b 6 0 ∷ get_or b 7 0 ∷ [] ≡ pair_answer_words (Ok f)
pair_words f a b d e = ap₂ (λ (x y : List ℕ).
    0 ∷ 0 ∷ f.nodes ∷ get_or x 0 0 ∷ get_or x 1 0 ∷ get_or x 2 0 ∷ get_or x 3 0 ∷ get_or x 4 0 ∷ get_or x 5 0 ∷ get_or x 6 0 ∷ get_or x 7 0
    ∷ get_or y 0 0 ∷ get_or y 1 0 ∷ get_or y 2 0 ∷ get_or y 3 0 ∷ get_or y 4 0 ∷ get_or y 5 0 ∷ get_or y 6 0 ∷ get_or y 7 0 ∷ []) d e

-- ---- those of a polygon that is accepted
pub found-words : (f : Found) (x y : ℕ) → x ≡ bits_of f.start.0 → y ≡ bits_of f.start.1 → 0 ∷ 0 ∷ f.steps ∷ x ∷ y ∷ [] ≡ given_words (Ok f)
found-words f x y e h = ap₂ (λ (p q : ℕ). 0 ∷ 0 ∷ f.steps ∷ p ∷ q ∷ []) e h

-- ---- and those of an outline of a hull
pub enclosed_words : (h : Enclosed) (x y : ℕ) → x ≡ bits_of h.start.0 → y ≡ bits_of h.start.1 → 0 ∷ 0 ∷ h.steps ∷ x ∷ y ∷ h.blocks ∷ [] ≡ orthogonal_words (Ok h)
enclosed_words h x y e k = ap₂ (λ (p q : ℕ). 0 ∷ 0 ∷ h.steps ∷ p ∷ q ∷ h.blocks ∷ []) e k
