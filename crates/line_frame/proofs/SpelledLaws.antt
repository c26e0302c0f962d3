-- How long the answers to good frames are, and that each is one line.
-- Assumes nothing.
use Rattle.std.specs.Prelude.{Err, Ok}
use mathlib.Core.Path.{◌≡◌, refl}
use mathlib.Core.List.{List, [], ◌∷◌, ◌++◌}
use Prim.Native.Nat.{ℕ, ◌+◌, ◌*◌, ◌≤◌}
use native.Mathlib.Omega.{arith}
use lib.IntN.{ℤ}
use lib.ListN.{length, length-append}
use Rattle.answer.specs.Answers.{Answer}
use Rattle.answer.specs.declared.Refusal.{Refusal}
use Rattle.answer.specs.declared.Facts.{Facts}
use Rattle.answer.specs.Refusal.{refusal_number, refusal_place, verdict_number}
use Rattle.answer.specs.Words.{bits_of}
use Rattle.grid.specs.declared.Corner.{Corner}
use Rattle.grid.specs.Grid.{origin, numbers}
use Rattle.hull_laws.specs.Chain.{hull_of}
use Rattle.hull_laws.proofs.HullLaws.{length-hull_of}
use Rattle.hull_laws.proofs.JoinLaws.{length-numbers}
use Rattle.line_frame.specs.Sizes.{most_digits, refused_digits, facts_digits, most_answer}
use Rattle.line_frame.specs.Hex.{hex_of}
use Rattle.line_frame.specs.Program.{feeds_in}
use Rattle.line_frame.specs.Spelled.{refused_line, facts_line, numbers_line, hull_line, answer_line}
use Rattle.line_frame.proofs.HexLaws.{length-hex_of, none-append, field_feeds}

pub length-refused_line : (r : Refusal) → length (refused_line r) ≡ refused_digits
length-refused_line r = simp (length-append, length-hex_of)

pub length-facts_line : (f : Facts) → length (facts_line f) ≡ facts_digits
length-facts_line f = simp (length-append, length-hex_of)

pub length-numbers_line : (zs : List ℤ) → length (numbers_line zs) ≡ 4 * length zs
unfolding numbers_line
length-numbers_line [] = refl
length-numbers_line (z ∷ zs) = simp (length-append, length-hex_of, length-numbers_line zs) (omega arith)

length-hull_line : (cs : List Corner) → length (hull_line cs) ≡ 4 + 8 * length cs
length-hull_line cs =
    omega (arith, length-append (hex_of 4 (length cs)) (numbers_line (numbers cs)), length-hex_of 4 (length cs), length-numbers_line (numbers cs), length-numbers cs)

-- an accepted frame gives the digits of the facts, 4 for the count, and 8 for each hull corner
pub length_accepted : (f : Facts) (w : List ℕ) → length (answer_line (Ok f) w) ≡ facts_digits + 4 + 8 * length (hull_of origin w)
length_accepted f w = omega (arith, length-append (facts_line f) (hull_line (hull_of origin w)), length-facts_line f, length-hull_line (hull_of origin w))

pub answer_line_most : (a : Answer) (w : List ℕ) → length w ≤ most_digits → length (answer_line a w) + 1 ≤ most_answer
answer_line_most (Ok f) w h = omega (arith, length_accepted f w, length-hull_of origin w)
answer_line_most (Err r) w h = omega (arith, length-refused_line r)

-- ---- no line feed
field_more : (l : List ℕ) (n v : ℕ) → feeds_in l ≡ 0 → feeds_in (l ++ hex_of n v) ≡ 0
field_more l n v h = none-append l (hex_of n v) h (field_feeds n v)

pub refused_line_feeds : (r : Refusal) → feeds_in (refused_line r) ≡ 0
refused_line_feeds r = field_more (hex_of 2 (0x80 + refusal_number r)) 8 (refusal_place r) (field_feeds 2 (0x80 + refusal_number r))

facts_line_feeds : (f : Facts) → feeds_in (facts_line f) ≡ 0
facts_line_feeds f =
    let l1 : List ℕ = hex_of 2 (verdict_number f.verdict) in
    let l2 : List ℕ = l1 ++ hex_of 4 f.steps in
    let l3 : List ℕ = l2 ++ hex_of 8 f.nodes in
    let l4 : List ℕ = l3 ++ hex_of 4 f.corners in
    let l5 : List ℕ = l4 ++ hex_of 4 f.j in
    let l6 : List ℕ = l5 ++ hex_of 4 f.k in
    let h3 = field_more l2 8 f.nodes (field_more l1 4 f.steps (field_feeds 2 (verdict_number f.verdict))) in
    field_more l6 8 (bits_of f.area) (field_more l5 4 f.k (field_more l4 4 f.j (field_more l3 4 f.corners h3)))

pub numbers_line_feeds : (zs : List ℤ) → feeds_in (numbers_line zs) ≡ 0
unfolding numbers_line
numbers_line_feeds [] = refl
numbers_line_feeds (z ∷ zs) = none-append (hex_of 4 (bits_of z)) (numbers_line zs) (field_feeds 4 (bits_of z)) (numbers_line_feeds zs)

pub answer_line_feeds : (a : Answer) (w : List ℕ) → feeds_in (answer_line a w) ≡ 0
answer_line_feeds (Ok f) w =
    let L = hull_of origin w in
    none-append (facts_line f) (hull_line L) (facts_line_feeds f) (none-append (hex_of 4 (length L)) (numbers_line (numbers L)) (field_feeds 4 (length L)) (numbers_line_feeds (numbers L)))
answer_line_feeds (Err r) w = refused_line_feeds r
