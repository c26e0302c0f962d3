-- Each exported call has one answer and one state of every lent buffer.
-- Assumes nothing.
use mathlib.Core.List.{List}
use mathlib.Core.Path.{◌≡◌, ap, sym, ◌∙◌}
use Prim.Native.Nat.{ℕ}
use lib.IntN.{ℤ}
use Rattle.answer.specs.Refusal.{judged_number}
use Rattle.answer.specs.Words.{answer_words, answer_number, counted_words, counted_number, judged_words}
use Rattle.grid.specs.declared.Corner.{Corner}
use Rattle.line_reply.specs.Reply.{LineIs}
use Rattle.line_reply.proofs.ReplyLaws as reply_laws
use Rattle.line_convert.specs.Convert.{ConvertedIs}
use Rattle.line_convert.proofs.ConvertLaws as convert_laws
use Rattle.polygon_ring.specs.Words.{given_words, given_number}
use Rattle.pair.specs.Call.{PairLent}
use Rattle.pair.specs.Words.{pair_answer_words, pair_answer_number}
use Rattle.pair_demands.proofs.Parties.{pair_is_one}
use Rattle.demands.proofs.Demand.{walk_is_one, hull_call_one, turns-one}
use Rattle.demands.proofs.Outline.{outline_call_one}
use Rattle.demands.proofs.Polygon.{polygon_call_one}
use Rattle.demands.proofs.Convex.{convex_call_one}
use Rattle.demands.proofs.PolygonIn.{read_call_one}
use Rattle.demands.proofs.Rows.{rows_call_one}
use Rattle.demands.proofs.Overlay.{overlay_call_one}
use Rattle.demands.proofs.Orthogonal.{orthogonal_call_one}
use Rattle.orthogonal.specs.Call.{orthogonal_words, orthogonal_number}
use Rattle.overlay.specs.declared.Part.{Part}
use Rattle.overlay.specs.Call.{overlaid_words, overlaid_number}
use Rattle.undrwyth.specs.Boundary.{WalkGives, PairGives, HullGives, OutlineGives, TurnsGive, PolygonGives, ChainGives, ConvexGives, RowsGives, OverlayGives, OrthogonalGives}

pub walk_gives_one : {c : Corner} {os t ms ch t₁ ms₁ ch₁ w₁ t₂ ms₂ ch₂ w₂ : List ℕ} {n₁ n₂ : ℕ} → WalkGives c os t ms ch n₁ t₁ ms₁ ch₁ w₁ → WalkGives c os t ms ch n₂ t₂ ms₂ ch₂ w₂
    → (n₁ ≡ n₂) × (t₁ ≡ t₂) × (ms₁ ≡ ms₂) × (ch₁ ≡ ch₂) × (w₁ ≡ w₂)
walk_gives_one g h =
    let e = walk_is_one g.walked h.walked in
    (g.result ∙ ap answer_number e.0 ∙ sym h.result, e.1, e.2, e.3, g.words_are ∙ ap answer_words e.0 ∙ sym h.words_are)

pub pair_gives_one : {c e : Corner} {os : List ℕ} {b b₁ b₂ : PairLent} {w₁ w₂ : List ℕ} {n₁ n₂ : ℕ} → PairGives c e os b n₁ b₁ w₁ → PairGives c e os b n₂ b₂ w₂ → (n₁ ≡ n₂) × (b₁ ≡ b₂) × (w₁ ≡ w₂)
pair_gives_one g h =
    let e = pair_is_one g.walked h.walked in
    (g.result ∙ ap pair_answer_number e.0 ∙ sym h.result, e.1, g.words_are ∙ ap pair_answer_words e.0 ∙ sym h.words_are)

pub hull_gives_one : {c : Corner} {chain : List ℕ} {before after₁ after₂ : List ℤ} {w₁ w₂ : List ℕ} {n₁ n₂ : ℕ} → HullGives c chain before n₁ after₁ w₁ → HullGives c chain before n₂ after₂ w₂
    → (n₁ ≡ n₂) × (after₁ ≡ after₂) × (w₁ ≡ w₂)
hull_gives_one g h =
    let e = hull_call_one g.listed h.listed in
    (g.result ∙ ap counted_number e.0 ∙ sym h.result, e.1, g.words_are ∙ ap counted_words e.0 ∙ sym h.words_are)

pub outline_gives_one : {s : Corner} {chain before after₁ after₂ w₁ w₂ : List ℕ} {n₁ n₂ : ℕ} → OutlineGives s chain before n₁ after₁ w₁ → OutlineGives s chain before n₂ after₂ w₂
    → (n₁ ≡ n₂) × (after₁ ≡ after₂) × (w₁ ≡ w₂)
outline_gives_one g h =
    let e = outline_call_one g.written h.written in
    (g.result ∙ ap counted_number e.0 ∙ sym h.result, e.1, g.words_are ∙ ap counted_words e.0 ∙ sym h.words_are)

pub polygon_gives_one : {s : Corner} {chain before after₁ after₂ w₁ w₂ : List ℕ} {n₁ n₂ : ℕ} → PolygonGives s chain before n₁ after₁ w₁ → PolygonGives s chain before n₂ after₂ w₂
    → (n₁ ≡ n₂) × (after₁ ≡ after₂) × (w₁ ≡ w₂)
polygon_gives_one g h =
    let e = polygon_call_one g.written h.written in
    (g.result ∙ ap counted_number e.0 ∙ sym h.result, e.1, g.words_are ∙ ap counted_words e.0 ∙ sym h.words_are)

pub rows_gives_one : {s : Corner} {chain : List ℕ} {before after₁ after₂ : List ℤ} {w₁ w₂ : List ℕ} {n₁ n₂ : ℕ} → RowsGives s chain before n₁ after₁ w₁ → RowsGives s chain before n₂ after₂ w₂
    → (n₁ ≡ n₂) × (after₁ ≡ after₂) × (w₁ ≡ w₂)
rows_gives_one {s} {chain} {before} g h =
    let e = rows_call_one s chain before g.listed h.listed in
    (g.result ∙ ap counted_number e.0 ∙ sym h.result, e.1, g.words_are ∙ ap counted_words e.0 ∙ sym h.words_are)

pub overlay_gives_one : {s t : Corner} {chain steps : List ℕ} {before after₁ after₂ : Part → List ℤ} {w₁ w₂ : List ℕ} {n₁ n₂ : ℕ} → OverlayGives s chain t steps before n₁ after₁ w₁ → OverlayGives s chain t steps before n₂ after₂ w₂
    → (n₁ ≡ n₂) × ((k : Part) → after₁ k ≡ after₂ k) × (w₁ ≡ w₂)
overlay_gives_one {s} {t} {chain} {steps} {before} g h =
    let e = overlay_call_one s chain t steps before g.laid h.laid in
    (g.result ∙ ap overlaid_number e.0 ∙ sym h.result, e.1, g.words_are ∙ ap overlaid_words e.0 ∙ sym h.words_are)

pub convex_gives_one : {s : Corner} {chain w₁ w₂ : List ℕ} {n₁ n₂ : ℕ} → ConvexGives s chain n₁ w₁ → ConvexGives s chain n₂ w₂ → (n₁ ≡ n₂) × (w₁ ≡ w₂)
convex_gives_one g h =
    let e = convex_call_one g.told h.told in
    (g.result ∙ ap counted_number e ∙ sym h.result, g.words_are ∙ ap counted_words e ∙ sym h.words_are)

pub orthogonal_gives_one : {s : Corner} {chain before after₁ after₂ w₁ w₂ : List ℕ} {g n₁ n₂ : ℕ} → OrthogonalGives s chain g before n₁ after₁ w₁ → OrthogonalGives s chain g before n₂ after₂ w₂
    → (n₁ ≡ n₂) × (after₁ ≡ after₂) × (w₁ ≡ w₂)
orthogonal_gives_one {s} {chain} {before} {after₁} {after₂} {w₁} {w₂} {g} p q =
    let e = orthogonal_call_one s chain g before p.outlined q.outlined in
    (p.result ∙ ap orthogonal_number e.0 ∙ sym q.result, e.1, p.words_are ∙ ap orthogonal_words e.0 ∙ sym q.words_are)

pub chain_gives_one : {file before after₁ after₂ w₁ w₂ : List ℕ} {n₁ n₂ : ℕ} → ChainGives file before n₁ after₁ w₁ → ChainGives file before n₂ after₂ w₂
    → (n₁ ≡ n₂) × (after₁ ≡ after₂) × (w₁ ≡ w₂)
chain_gives_one g h =
    let e = read_call_one g.read h.read in
    (g.result ∙ ap given_number e.0 ∙ sym h.result, e.1, g.words_are ∙ ap given_words e.0 ∙ sym h.words_are)

pub turns_give_one : (convert : List ℕ → List ℕ) {ds out out₁ out₂ w₁ w₂ : List ℕ} {n₁ n₂ : ℕ} → TurnsGive convert ds out n₁ out₁ w₁ → TurnsGive convert ds out n₂ out₂ w₂
    → (n₁ ≡ n₂) × (out₁ ≡ out₂) × (w₁ ≡ w₂)
turns_give_one convert g h =
    let e = turns-one convert g.converted h.converted in
    (g.result ∙ ap judged_number e.0 ∙ sym h.result, e.1, g.words_are ∙ ap judged_words e.0 ∙ sym h.words_are)

pub line_is_one : {s before after₁ after₂ : List ℕ} {n₁ n₂ : ℕ} → LineIs s before n₁ after₁ → LineIs s before n₂ after₂ → (n₁ ≡ n₂) × (after₁ ≡ after₂)
line_is_one = reply_laws.line_is_one

pub converted_is_one : {s before after₁ after₂ : List ℕ} {n₁ n₂ : ℕ} → ConvertedIs s before n₁ after₁ → ConvertedIs s before n₂ after₂ → (n₁ ≡ n₂) × (after₁ ≡ after₂)
converted_is_one = convert_laws.converted_is_one
