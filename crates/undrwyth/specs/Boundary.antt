-- The promises of the exported functions.
-- Assumes nothing.
use Rattle.std.specs.Prelude.{List, ◌≡◌, ℕ, ℤ}
use Rattle.polygon_ring.specs.Answers.{Given}
use Rattle.overlay.specs.Answers.{Overlaid}
use Rattle.orthogonal.specs.Answers.{Orthogonal}
use Rattle.answer.specs.Answers.{Answer, Counted, Judged, PairAnswer}
use Rattle.answer.specs.Refusal.{judged_number}
use Rattle.walk.specs.Walk.{WalkIs}
use Rattle.pair.specs.Call.{PairLent, PairIs}
use Rattle.pair.specs.Words.{pair_answer_words, pair_answer_number}
use Rattle.grid.specs.declared.Corner.{Corner}
use Rattle.hull.specs.Call.{HullCall}
use Rattle.outline.specs.Call.{OutlineCall}
use Rattle.steps.specs.Turns.{ConvertedBy}
use Rattle.polygon.specs.Polygon.{PolygonCall}
use Rattle.convex.specs.Convex.{ConvexCall}
use Rattle.orthogonal.specs.Call.{OrthogonalCall, orthogonal_words, orthogonal_number}
use Rattle.overlay.specs.declared.{Part.Part}
use Rattle.overlay.specs.Call.{OverlayCall, overlaid_words, overlaid_number}
use Rattle.row.specs.Call.{RowsCall}
use Rattle.polygon_ring.specs.Ring.{ReadCall}
use Rattle.polygon_ring.specs.Words.{given_words, given_number}
use Rattle.answer.specs.Words.{answer_words, answer_number, counted_words, counted_number, judged_words}

-- the walk's promise, with its answer as numbers
pub record WalkGives (c : Corner) (os t ms ch : List ℕ) (n : ℕ) (t' ms' ch' words : List ℕ) : Type 0 where
  pub answer : Answer
  pub walked : WalkIs c os t ms ch answer t' ms' ch'
  pub words_are : words ≡ answer_words answer
  pub result : n ≡ answer_number answer

-- that of two parties in one table
pub record PairGives (c e : Corner) (os : List ℕ) (b : PairLent) (n : ℕ) (b' : PairLent) (words : List ℕ) : Type 0 where
  pub answer : PairAnswer
  pub walked : PairIs c e os b answer b'
  pub words_are : words ≡ pair_answer_words answer
  pub result : n ≡ pair_answer_number answer

-- the hull's
pub record HullGives (c : Corner) (chain : List ℕ) (before : List ℤ) (n : ℕ) (after : List ℤ) (words : List ℕ) : Type 0 where
  pub answer : Counted
  pub listed : HullCall c chain before answer after
  pub words_are : words ≡ counted_words answer
  pub result : n ≡ counted_number answer

-- the outline's
pub record OutlineGives (c : Corner) (chain before : List ℕ) (n : ℕ) (after words : List ℕ) : Type 0 where
  pub answer : Counted
  pub written : OutlineCall c chain before answer after
  pub words_are : words ≡ counted_words answer
  pub result : n ≡ counted_number answer

-- that of a room that is written as a polygon
pub record PolygonGives (c : Corner) (chain before : List ℕ) (n : ℕ) (after words : List ℕ) : Type 0 where
  pub answer : Counted
  pub written : PolygonCall c chain before answer after
  pub words_are : words ≡ counted_words answer
  pub result : n ≡ counted_number answer

-- that of a room that is listed by rows
pub record RowsGives (c : Corner) (chain : List ℕ) (before : List ℤ) (n : ℕ) (after : List ℤ) (words : List ℕ) : Type 0 where
  pub answer : Counted
  pub listed : RowsCall c chain before answer after
  pub words_are : words ≡ counted_words answer
  pub result : n ≡ counted_number answer

-- that of two rooms that are laid over each other
pub record OverlayGives (c : Corner) (chain : List ℕ) (e : Corner) (steps : List ℕ) (before : Part → List ℤ) (n : ℕ)
    (after : Part → List ℤ) (words : List ℕ) : Type 0 where
  pub answer : Overlaid
  pub laid : OverlayCall c chain e steps before answer after
  pub words_are : words ≡ overlaid_words answer
  pub result : n ≡ overlaid_number answer

-- that of the question whether a room is convex
pub record ConvexGives (c : Corner) (chain : List ℕ) (n : ℕ) (words : List ℕ) : Type 0 where
  pub answer : Counted
  pub told : ConvexCall c chain answer
  pub words_are : words ≡ counted_words answer
  pub result : n ≡ counted_number answer

-- that of the orthogonal hull of a room's blocks
pub record OrthogonalGives (s : Corner) (chain : List ℕ) (g : ℕ) (before : List ℕ) (n : ℕ) (after words : List ℕ) : Type 0 where
  pub answer : Orthogonal
  pub outlined : OrthogonalCall s chain g before answer after
  pub words_are : words ≡ orthogonal_words answer
  pub result : n ≡ orthogonal_number answer

-- that of a polygon that is read
pub record ChainGives (file before : List ℕ) (n : ℕ) (after words : List ℕ) : Type 0 where
  pub answer : Given
  pub read : ReadCall file before answer after
  pub words_are : words ≡ given_words answer
  pub result : n ≡ given_number answer

-- those of the two conversions
pub record TurnsGive (convert : List ℕ → List ℕ) (ds out : List ℕ) (n : ℕ) (out' words : List ℕ) : Type 0 where
  pub answer : Judged
  pub converted : ConvertedBy convert ds out answer out'
  pub words_are : words ≡ judged_words answer
  pub result : n ≡ judged_number answer
