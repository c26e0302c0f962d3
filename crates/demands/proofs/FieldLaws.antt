-- Fields of the lines that the programs write, read back.
-- Assumes nothing.
use mathlib.Core.List.{List, [], ◌∷◌, ◌++◌}
use mathlib.Core.Path.{◌≡◌, refl, ap, sym, ◌∙◌}
use Prim.Native.Nat.{ℕ, zero, suc, ◌+◌, ◌-◌, ◌*◌, ◌^◌, ◌<◌, ◌≤◌}
use native.Mathlib.Omega.{arith}
use borrow.Author.Tests.{lt-ltb, le-ltb}
use lib.IntN.{ℤ, pos, negsuc, nat_abs}
use lib.ListN.{length, take, drop, get_or, length-append, length-drop, get_or-append}
use lib.Seq.{get_or-append-add, take_all, take-append-le, drop-append-le, drop-append-add}
use Rattle.answer.specs.declared.Facts.{Facts}
use Rattle.answer.specs.declared.Refusal.{Refusal}
use Rattle.answer.specs.declared.Refusal.TheVariants.{TooMany, Table, ResultRoom, BadDigit, NothingToTake, TooLong, NoRoom, HullRoom, BadLine, StartRange, OutlineRoom, NotRoom, PolygonRoom, FileLength, FileKind, BadCoordinate, BadRing, ChainRoom, RetiredKind, UnknownParty, SpanRoom, GridSize}
use Rattle.answer.specs.declared.Verdict.{Verdict, TheVariants.Nowhere, TheVariants.Open, TheVariants.Room, TheVariants.OpenMeeting, TheVariants.ClosedMeeting, TheVariants.ThereAndBack}
use Rattle.answer.specs.Refusal.{refusal_number, refusal_place, verdict_number}
use Rattle.answer.specs.Words.{bits_of}
use Rattle.grid.specs.declared.Corner.{Corner}
use Rattle.grid.specs.Grid.{origin, numbers}
use Rattle.hull_laws.proofs.JoinLaws.{length-numbers}
use Rattle.row.specs.Rows.{Span, span_numbers}
use Rattle.line_frame.specs.Hex.{number_from, hex_of}
use Rattle.line_frame.specs.Program.{feeds_in}
use Rattle.line_frame.specs.Spelled.{refused_line, facts_line, numbers_line, hull_line}
use Rattle.line_frame.proofs.HexLaws.{length-hex_of, field_number, field_back}
use Rattle.line_frame.proofs.OutputLaws.{feeds_in-append}
use Rattle.line_frame.proofs.SpelledLaws.{length-refused_line, length-facts_line, length-numbers_line, numbers_line_feeds}
use Rattle.line_room.specs.Told.{spans_told}
use Rattle.line_room.proofs.ToldLaws.{length-spans_told}
use Rattle.demands.specs.Fields.{signed_by, signed_at, RefusalRead, AnswerRead, no_span, SpansRead}

-- ---- a part of a list
part_left : (l r : List ℕ) (i n : ℕ) → i + n ≤ length l → take n (drop i (l ++ r)) ≡ take n (drop i l)
part_left l r i n h = ap (take n) (drop-append-le i l r (omega arith)) ∙ take-append-le n (drop i l) r (omega (arith, length-drop i l))

part_right : (l r : List ℕ) (i n j : ℕ) → j ≡ length l + i → take n (drop j (l ++ r)) ≡ take n (drop i r)
part_right l r i n j e = ap (λ (k : ℕ). take n (drop k (l ++ r))) e ∙ ap (take n) (drop-append-add l r i)

-- a field that comes first, and one that comes last
part_first : (n v : ℕ) (r : List ℕ) → take n (hex_of n v ++ r) ≡ hex_of n v
part_first n v r = part_left (hex_of n v) r 0 n (omega (arith, length-hex_of n v)) ∙ take_all n (hex_of n v) (omega (arith, length-hex_of n v))

part_last : (l : List ℕ) (i n v : ℕ) → i ≡ length l → take n (drop i (l ++ hex_of n v)) ≡ hex_of n v
part_last l i n v e = part_right l (hex_of n v) 0 n i (omega arith) ∙ take_all n (hex_of n v) (omega (arith, length-hex_of n v))

-- ---- two's complement: of eight digits, and of four
low-back : (m v n : ℕ) → v ≡ n → n + n < m → signed_by m v ≡ pos n
low-back m v n e h = rw (lt-ltb (v + v) m (omega arith)) (ap pos e)

high-back : (m v n : ℕ) → v + suc n ≡ m → suc n + suc n ≤ m → signed_by m v ≡ negsuc n
high-back m v n e h = let d : m - suc v ≡ n = omega arith in rw (le-ltb (v + v) m (omega arith)) (ap negsuc d)

eight-back : (z : ℤ) → nat_abs z < 2 ^ 31 → signed_by (16 ^ 8) (number_from 0 (hex_of 8 (bits_of z))) ≡ z
eight-back (pos n) h = low-back (16 ^ 8) (number_from 0 (hex_of 8 n)) n (field_back 8 n (omega arith)) (omega arith)
eight-back (negsuc n) h =
    let v : ℕ = 4294967296 - (n + 1) in
    high-back (16 ^ 8) (number_from 0 (hex_of 8 v)) n (omega (arith, field_back 8 v (omega arith))) (omega arith)

four_back : (z : ℤ) → nat_abs z < 2 ^ 15 → signed_by (16 ^ 4) (number_from 0 (hex_of 4 (bits_of z))) ≡ z
four_back (pos n) h = low-back (16 ^ 4) (number_from 0 (hex_of 4 n)) n (field_back 4 n (omega arith)) (omega arith)
four_back (negsuc n) h =
    let v : ℕ = 4294967296 - (n + 1) in
    let x = field_number 4 v in
    high-back (16 ^ 4) (number_from 0 (hex_of 4 v)) n (omega (arith, x.1, x.2)) (omega arith)

-- ---- the line of a refusal
pub number_few : (q : Refusal) → (0 < refusal_number q) × (refusal_number q < 23)
number_few TooMany = (omega arith, omega arith)
number_few Table = (omega arith, omega arith)
number_few ResultRoom = (omega arith, omega arith)
number_few (BadDigit i) = (omega arith, omega arith)
number_few (NothingToTake i) = (omega arith, omega arith)
number_few (TooLong i) = (omega arith, omega arith)
number_few (NoRoom i) = (omega arith, omega arith)
number_few HullRoom = (omega arith, omega arith)
number_few BadLine = (omega arith, omega arith)
number_few StartRange = (omega arith, omega arith)
number_few OutlineRoom = (omega arith, omega arith)
number_few NotRoom = (omega arith, omega arith)
number_few PolygonRoom = (omega arith, omega arith)
number_few FileLength = (omega arith, omega arith)
number_few FileKind = (omega arith, omega arith)
number_few BadCoordinate = (omega arith, omega arith)
number_few BadRing = (omega arith, omega arith)
number_few ChainRoom = (omega arith, omega arith)
number_few RetiredKind = (omega arith, omega arith)
number_few (UnknownParty i) = (omega arith, omega arith)
number_few SpanRoom = (omega arith, omega arith)
number_few GridSize = (omega arith, omega arith)

pub refusal_read : (q : Refusal) → refusal_place q < 16 ^ 8 → RefusalRead (refused_line q) q
refusal_read q h =
    let a : List ℕ = hex_of 2 (0x80 + refusal_number q) in
    record {
      long = length-refused_line q;
      number = ap (number_from 0) (part_first 2 (0x80 + refusal_number q) (hex_of 8 (refusal_place q))) ∙ field_back 2 (0x80 + refusal_number q) (omega (arith, number_few q));
      place = ap (number_from 0) (part_last a 2 8 (refusal_place q) (sym (length-hex_of 2 (0x80 + refusal_number q)))) ∙ field_back 8 (refusal_place q) h;
    }

-- ---- numbers in four digits each
numbers_part : (zs : List ℤ) (i : ℕ) → i < length zs → take 4 (drop (4 * i) (numbers_line zs)) ≡ hex_of 4 (bits_of (get_or zs i (pos 0)))
unfolding numbers_line
numbers_part [] i h = absurd (omega arith)
numbers_part (z ∷ zs) zero h = part_first 4 (bits_of z) (numbers_line zs)
numbers_part (z ∷ zs) (suc i) h = part_right (hex_of 4 (bits_of z)) (numbers_line zs) (4 * i) 4 (4 * suc i) (omega (arith, length-hex_of 4 (bits_of z))) ∙ numbers_part zs i (omega arith)

numbers_x : (L : List Corner) (i : ℕ) → i < length L → get_or (numbers L) (2 * i) (pos 0) ≡ (get_or L i origin).0
numbers_x [] i h = absurd (omega arith)
numbers_x (c ∷ L) zero h = refl
numbers_x (c ∷ L) (suc i) h = let e : 2 * suc i ≡ suc (suc (2 * i)) = omega arith in ap (λ (k : ℕ). get_or (numbers (c ∷ L)) k (pos 0)) e ∙ numbers_x L i (omega arith)

numbers_y : (L : List Corner) (i : ℕ) → i < length L → get_or (numbers L) (2 * i + 1) (pos 0) ≡ (get_or L i origin).1
numbers_y [] i h = absurd (omega arith)
numbers_y (c ∷ L) zero h = refl
numbers_y (c ∷ L) (suc i) h = let e : 2 * suc i + 1 ≡ suc (suc (2 * i + 1)) = omega arith in ap (λ (k : ℕ). get_or (numbers (c ∷ L)) k (pos 0)) e ∙ numbers_y L i (omega arith)

pub verdict_few : (v : Verdict) → verdict_number v < 6
verdict_few Nowhere = omega arith
verdict_few Open = omega arith
verdict_few Room = omega arith
verdict_few OpenMeeting = omega arith
verdict_few ClosedMeeting = omega arith
verdict_few ThereAndBack = omega arith

-- every number has its digits
pub record Spellable (f : Facts) (L : List Corner) : Type 0 where
  pub steps : f.steps < 2 ^ 16
  pub nodes : f.nodes < 2 ^ 32
  pub corners : f.corners < 2 ^ 16
  pub j : f.j < 2 ^ 16
  pub k : f.k < 2 ^ 16
  pub area : nat_abs f.area < 2 ^ 31
  pub hull : length L < 2 ^ 16
  pub near : (i : ℕ) → i < length L → (nat_abs (get_or L i origin).0 < 2 ^ 15) × (nat_abs (get_or L i origin).1 < 2 ^ 15)

-- ---- the line of an accepted frame
module _ (f : Facts) (L : List Corner) (s : Spellable f L) where
  abbrev p1 : List ℕ
  p1 = hex_of 2 (verdict_number f.verdict)

  abbrev p2 : List ℕ
  p2 = p1 ++ hex_of 4 f.steps

  abbrev p3 : List ℕ
  p3 = p2 ++ hex_of 8 f.nodes

  abbrev p4 : List ℕ
  p4 = p3 ++ hex_of 4 f.corners

  abbrev p5 : List ℕ
  p5 = p4 ++ hex_of 4 f.j

  abbrev p6 : List ℕ
  p6 = p5 ++ hex_of 4 f.k

  abbrev whole : List ℕ
  whole = facts_line f ++ hull_line L

  size1 : length p1 ≡ 2
  size1 = length-hex_of 2 (verdict_number f.verdict)

  size2 : length p2 ≡ 6
  size2 = omega (arith, length-append p1 (hex_of 4 f.steps), size1, length-hex_of 4 f.steps)

  size3 : length p3 ≡ 14
  size3 = omega (arith, length-append p2 (hex_of 8 f.nodes), size2, length-hex_of 8 f.nodes)

  size4 : length p4 ≡ 18
  size4 = omega (arith, length-append p3 (hex_of 4 f.corners), size3, length-hex_of 4 f.corners)

  size5 : length p5 ≡ 22
  size5 = omega (arith, length-append p4 (hex_of 4 f.j), size4, length-hex_of 4 f.j)

  size6 : length p6 ≡ 26
  size6 = omega (arith, length-append p5 (hex_of 4 f.k), size5, length-hex_of 4 f.k)

  size7 : length (facts_line f) ≡ 34
  size7 = length-facts_line f

  -- what is read in the whole is read in its first parts
  at7 : (i n : ℕ) → i + n ≤ 34 → take n (drop i whole) ≡ take n (drop i (facts_line f))
  at7 i n h = part_left (facts_line f) (hull_line L) i n (omega (arith, size7))

  at6 : (i n : ℕ) → i + n ≤ 26 → take n (drop i whole) ≡ take n (drop i p6)
  at6 i n h = at7 i n (omega arith) ∙ part_left p6 (hex_of 8 (bits_of f.area)) i n (omega (arith, size6))

  at5 : (i n : ℕ) → i + n ≤ 22 → take n (drop i whole) ≡ take n (drop i p5)
  at5 i n h = at6 i n (omega arith) ∙ part_left p5 (hex_of 4 f.k) i n (omega (arith, size5))

  at4 : (i n : ℕ) → i + n ≤ 18 → take n (drop i whole) ≡ take n (drop i p4)
  at4 i n h = at5 i n (omega arith) ∙ part_left p4 (hex_of 4 f.j) i n (omega (arith, size4))

  at3 : (i n : ℕ) → i + n ≤ 14 → take n (drop i whole) ≡ take n (drop i p3)
  at3 i n h = at4 i n (omega arith) ∙ part_left p3 (hex_of 4 f.corners) i n (omega (arith, size3))

  at2 : (i n : ℕ) → i + n ≤ 6 → take n (drop i whole) ≡ take n (drop i p2)
  at2 i n h = at3 i n (omega arith) ∙ part_left p2 (hex_of 8 f.nodes) i n (omega (arith, size2))

  at1 : take 2 (drop 0 whole) ≡ p1
  at1 = at2 0 2 (omega arith) ∙ part_first 2 (verdict_number f.verdict) (hex_of 4 f.steps)

  -- the numbers of the hull
  hull_part : (i : ℕ) → i < length (numbers L) → (j : ℕ) → j ≡ 38 + 4 * i → signed_at whole j 4 ≡ signed_by (16 ^ 4) (number_from 0 (hex_of 4 (bits_of (get_or (numbers L) i (pos 0)))))
  hull_part i h j e =
      ap (λ (l : List ℕ). signed_by (16 ^ 4) (number_from 0 l))
      (part_right (facts_line f) (hull_line L) (4 + 4 * i) 4 j (omega (arith, size7))
      ∙ part_right (hex_of 4 (length L)) (numbers_line (numbers L)) (4 * i) 4 (4 + 4 * i) (omega (arith, length-hex_of 4 (length L)))
      ∙ numbers_part (numbers L) i h)

  pub answer_read : AnswerRead (facts_line f ++ hull_line L) f L
  answer_read = record {
    long = omega (arith, length-append (facts_line f) (hull_line L), size7, length-append (hex_of 4 (length L)) (numbers_line (numbers L)), length-hex_of 4 (length L), length-numbers_line (numbers L), length-numbers L);
    verdict = ap (number_from 0) at1 ∙ field_back 2 (verdict_number f.verdict) (omega (arith, verdict_few f.verdict));
    steps = ap (number_from 0) (at2 2 4 (omega arith) ∙ part_last p1 2 4 f.steps (sym size1)) ∙ field_back 4 f.steps s.steps;
    nodes = ap (number_from 0) (at3 6 8 (omega arith) ∙ part_last p2 6 8 f.nodes (sym size2)) ∙ field_back 8 f.nodes s.nodes;
    corners = ap (number_from 0) (at4 14 4 (omega arith) ∙ part_last p3 14 4 f.corners (sym size3)) ∙ field_back 4 f.corners s.corners;
    j = ap (number_from 0) (at5 18 4 (omega arith) ∙ part_last p4 18 4 f.j (sym size4)) ∙ field_back 4 f.j s.j;
    k = ap (number_from 0) (at6 22 4 (omega arith) ∙ part_last p5 22 4 f.k (sym size5)) ∙ field_back 4 f.k s.k;
    area = ap (λ (l : List ℕ). signed_by (16 ^ 8) (number_from 0 l)) (at7 26 8 (omega arith) ∙ part_last p6 26 8 (bits_of f.area) (sym size6)) ∙ eight-back f.area s.area;
    count = ap (number_from 0) (part_right (facts_line f) (hull_line L) 0 4 34 (omega (arith, size7)) ∙ part_first 4 (length L) (numbers_line (numbers L))) ∙ field_back 4 (length L) s.hull;
    x = λ i h.
        hull_part (2 * i) (omega (arith, h, length-numbers L)) (38 + 8 * i) (omega arith)
        ∙ ap (λ (z : ℤ). signed_by (16 ^ 4) (number_from 0 (hex_of 4 (bits_of z)))) (numbers_x L i h)
        ∙ four_back (get_or L i origin).0 (s.near i h).0;
    y = λ i h.
        hull_part (2 * i + 1) (omega (arith, h, length-numbers L)) (42 + 8 * i) (omega arith)
        ∙ ap (λ (z : ℤ). signed_by (16 ^ 4) (number_from 0 (hex_of 4 (bits_of z)))) (numbers_y L i h)
        ∙ four_back (get_or L i origin).1 (s.near i h).1;
  }

-- ---- the lines of spans
abbrev three : Span → List ℤ
three s = s.row ∷ s.first ∷ s.last ∷ []

size_span : (s : Span) → length (numbers_line (three s)) ≡ 12
size_span s = length-numbers_line (three s)

span_part : (L : List Span) (i n : ℕ) → i < length L → n < 3 → take 4 (drop (13 * i + 4 * n) (spans_told L)) ≡ hex_of 4 (bits_of (get_or (span_numbers L) (3 * i + n) (pos 0)))
unfolding spans_told
span_part [] i n h k = absurd (omega arith)
span_part (s ∷ L) zero n h k =
    let d : 13 * 0 + 4 * n ≡ 4 * n = omega arith in
    let e : n ≡ 3 * 0 + n = omega arith in
    ap (λ (m : ℕ). take 4 (drop m (spans_told (s ∷ L)))) d
    ∙ part_left (numbers_line (three s) ++ (10 ∷ [])) (spans_told L) (4 * n) 4 (omega (arith, length-append (numbers_line (three s)) (10 ∷ []), size_span s))
    ∙ part_left (numbers_line (three s)) (10 ∷ []) (4 * n) 4 (omega (arith, size_span s))
    ∙ numbers_part (three s) n k
    ∙ ap (λ (z : ℤ). hex_of 4 (bits_of z)) (first n k ∙ ap (λ (m : ℕ). get_or (span_numbers (s ∷ L)) m (pos 0)) e)
  where
    first : (m : ℕ) → m < 3 → get_or (three s) m (pos 0) ≡ get_or (span_numbers (s ∷ L)) m (pos 0)
    first zero l = refl
    first (suc zero) l = refl
    first (suc (suc zero)) l = refl
    first (suc (suc (suc m))) l = absurd (omega arith)
span_part (s ∷ L) (suc i) n h k =
    let e : 3 * suc i + n ≡ suc (suc (suc (3 * i + n))) = omega arith in
    part_right (numbers_line (three s) ++ (10 ∷ [])) (spans_told L) (13 * i + 4 * n) 4 (13 * suc i + 4 * n) (omega (arith, length-append (numbers_line (three s)) (10 ∷ []), size_span s))
    ∙ span_part L i n (omega arith) k
    ∙ sym (ap (λ (m : ℕ). hex_of 4 (bits_of (get_or (span_numbers (s ∷ L)) m (pos 0)))) e)

span_feed : (L : List Span) (i : ℕ) → i < length L → get_or (spans_told L) (13 * i + 12) 0 ≡ 10
unfolding spans_told
span_feed [] i h = absurd (omega arith)
span_feed (s ∷ L) zero h =
    let l : List ℕ = numbers_line (three s) in
    let e : 12 ≡ length l + 0 = omega (arith, size_span s) in
    get_or-append (l ++ (10 ∷ [])) (spans_told L) 0 12 (omega (arith, length-append l (10 ∷ []), size_span s))
    ∙ ap (λ (k : ℕ). get_or (l ++ (10 ∷ [])) k 0) e
    ∙ get_or-append-add l (10 ∷ []) 0 0
span_feed (s ∷ L) (suc i) h =
    let l : List ℕ = numbers_line (three s) ++ (10 ∷ []) in
    let e : 13 * suc i + 12 ≡ length l + (13 * i + 12) = omega (arith, length-append (numbers_line (three s)) (10 ∷ []), size_span s) in
    ap (λ (k : ℕ). get_or (l ++ spans_told L) k 0) e
    ∙ get_or-append-add l (spans_told L) (13 * i + 12) 0
    ∙ span_feed L i (omega arith)

span_feeds : (L : List Span) → feeds_in (spans_told L) ≡ length L
unfolding spans_told
span_feeds [] = refl
span_feeds (s ∷ L) =
    let l : List ℕ = numbers_line (three s) in
    omega (arith, feeds_in-append (l ++ (10 ∷ [])) (spans_told L), feeds_in-append l (10 ∷ []), numbers_line_feeds (three s), span_feeds L)

span-row : (L : List Span) (i : ℕ) → i < length L → (get_or (span_numbers L) (3 * i + 0) (pos 0) ≡ (get_or L i no_span).row) × (get_or (span_numbers L) (3 * i + 1) (pos 0) ≡ (get_or L i no_span).first) × (get_or (span_numbers L) (3 * i + 2) (pos 0) ≡ (get_or L i no_span).last)
span-row [] i h = absurd (omega arith)
span-row (s ∷ L) zero h = (refl, refl, refl)
span-row (s ∷ L) (suc i) h =
    let x = span-row L i (omega arith) in
    let e : (n : ℕ) → get_or (span_numbers (s ∷ L)) (3 * suc i + n) (pos 0) ≡ get_or (span_numbers L) (3 * i + n) (pos 0) = λ n. let q : 3 * suc i + n ≡ suc (suc (suc (3 * i + n))) = omega arith in ap (λ (m : ℕ). get_or (span_numbers (s ∷ L)) m (pos 0)) q in
    (e 0 ∙ x.0, e 1 ∙ x.1, e 2 ∙ x.2)

module _ (L : List Span) (near : (k : ℕ) → nat_abs (get_or (span_numbers L) k (pos 0)) < 2 ^ 15) where
  span-at : (i n j : ℕ) → i < length L → n < 3 → j ≡ 13 * i + 4 * n → (z : ℤ) → get_or (span_numbers L) (3 * i + n) (pos 0) ≡ z → signed_at (spans_told L) j 4 ≡ z
  span-at i n j h k e z q =
      ap (λ (m : ℕ). signed_at (spans_told L) m 4) e
      ∙ ap (λ (l : List ℕ). signed_by (16 ^ 4) (number_from 0 l)) (span_part L i n h k)
      ∙ four_back (get_or (span_numbers L) (3 * i + n) (pos 0)) (near (3 * i + n))
      ∙ q

  pub spans_read : SpansRead (spans_told L) L
  spans_read = record {
    long = length-spans_told L;
    row = λ i h. span-at i 0 (13 * i) h (omega arith) (omega arith) (get_or L i no_span).row (span-row L i h).0;
    first = λ i h. span-at i 1 (13 * i + 4) h (omega arith) (omega arith) (get_or L i no_span).first (span-row L i h).1;
    last = λ i h. span-at i 2 (13 * i + 8) h (omega arith) (omega arith) (get_or L i no_span).last (span-row L i h).2;
    feed = λ i h. span_feed L i h;
    lines = span_feeds L;
  }
