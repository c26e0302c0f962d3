-- A corner and the numbers that cross the boundary fit 32 bits.
-- Assumes nothing.
use Rattle.std.specs.Prelude.{Err, Ok}
use mathlib.Core.Bool.{Bool, true, false, not}
use mathlib.Core.List.{List, [], ◌∷◌}
use mathlib.Core.Path.{◌≡◌, refl, ap, ap₂, sym, ◌∙◌, subst}
use Prim.Native.Nat.{ℕ, suc, ◌+◌, ◌*◌, ◌^◌, ◌<◌, ◌≤◌}
use native.Mathlib.Omega.{arith}
use borrow.Author.Tests.{ltb-false}
use lib.Dec.{eqb, ltb}
use lib.IntN.{ℤ}
use lib.ListN.{length}
use mir.Syntax.{w32}
use mir.Val.{SFits, to_z, of_z}
use mir.ValLaws.{to_z-of_z}
use Rattle.polygon_ring.specs.Answers.{Given}
use Rattle.overlay.specs.Answers.{Overlaid}
use Rattle.orthogonal.specs.Answers.{Orthogonal}
use Rattle.answer.specs.Answers.{Answer, Counted, Judged, PairAnswer}
use Rattle.answer.specs.declared.Refusal.TheVariants.{TooMany, ResultRoom, BadDigit, TooLong, HullRoom, StartRange, OutlineRoom, NotRoom, PolygonRoom, FileLength, FileKind, BadCoordinate, BadRing, ChainRoom, SpanRoom, GridSize}
use Rattle.answer.specs.Limits.{most_input, most_steps, start_fits}
use Rattle.answer.specs.Refusal.{when, or_else, first_of, judged_place}
use Rattle.walk.specs.Walk.{walk_judged, facts_of, answer_by, WalkIs}
use Rattle.grid.specs.declared.Corner.{Corner}
use Rattle.grid.specs.Grid.{corner}
use Rattle.hull.specs.Call.{hull_judged, HullCall}
use Rattle.steps.specs.Chain.{chain_judged, as_walk_judged}
use Rattle.steps.proofs.ChainLaws.{good_walk}
use Rattle.answer.specs.Listed.{counted_of}
use Rattle.outline.specs.Call.{outline_judged, OutlineCall}
use Rattle.outline_laws.proofs.OutlineLaws.{outline_short}
use Rattle.lists.specs.Lists.{any}
use Rattle.steps.specs.Operations.{survivors}
use Rattle.steps.specs.Turns.{digits_judged, turns_judged}
use Rattle.lists.specs.Lists.{tally}
use Rattle.room.specs.Room.{is_room, as_room_judged}
use Rattle.convex.specs.Convex.{ConvexCall}
use Rattle.polygon.specs.Polygon.{polygon_of, polygon_judged, PolygonCall}
use Rattle.polygon_ring.specs.Ring.{order_of, is_neither, is_faulty, is_ring, length_of, count_given, points_given, ring_of, read_judged, given_of, ReadCall}
use Rattle.polygon_laws.proofs.WriteLaws.{polygon_few}
use Rattle.polygon_ring_laws.proofs.TripLaws.{read_few}
use Rattle.row.specs.Rows.{Span}
use Rattle.row.specs.Call.{rows_judged, RowsCall}
use Rattle.orthogonal.specs.declared.{Enclosed.Enclosed}
use Rattle.orthogonal.specs.Call.{grid_fits, on_grid_judged, orthogonal_judged, enclosed_of, orthogonal_of, OrthogonalCall}
use Rattle.demands.proofs.Orthogonal.{orthogonal_most}
use Rattle.overlay.specs.declared.{Part.Part, Part.TheVariants.First, Part.TheVariants.Second, Part.TheVariants.Both, Measures.Measures}
use Rattle.overlay.specs.Call.{of_parts, part_room_judged, overlay_judged, measures_of, overlaid_of, OverlayCall}
use Rattle.overlay_laws.proofs.CallLaws.{buffers_judged}
use Rattle.demands.proofs.Overlay.{overlay_few}
use Rattle.row_laws.proofs.CallLaws.{rows_few}
use Rattle.answer.proofs.RefusalLaws.{or_else_good, first_good}
use Rattle.walk.proofs.SmallLaws.{Placed, placed-when, placed_or, walk_placed, walk_few}
use Rattle.hull_laws.proofs.HullLaws.{hull_count-steps}
use Rattle.pair_steps.specs.Parties.{steps_by}
use Rattle.pair.specs.Call.{pair_facts_of, pair_answer_by, PairLent, pair_judged_in, PairIs}
use Rattle.pair_laws.proofs.SmallLaws.{pair_placed, pair_few}
use Rattle.undrwyth_words.specs.Words.{AnswerFits, PairAnswerFits, CountedFits, GivenFits, MeasureFits, MeasuresFit, OverlaidFits, EnclosedFits, OrthogonalFits}

-- a corner whose coordinates fit 32 bits is read as it was written
pub same_corner : {x y : ℤ} → SFits w32 x → SFits w32 y → corner (to_z w32 (of_z w32 x)) (to_z w32 (of_z w32 y)) ≡ corner x y
same_corner {x} {y} f g = ap₂ corner (to_z-of_z w32 x f) (to_z-of_z w32 y g)

place_fits : (j : Judged) → Placed most_input j → judged_place j < 2 ^ 32
place_fits (Ok _) p = omega arith
place_fits (Err r) p = omega (arith, p)

pub answer_fits : (c : Corner) (os t ms ch : List ℕ) (r : Answer) (t' ms' ch' : List ℕ) → WalkIs c os t ms ch r t' ms' ch' → AnswerFits r
answer_fits c os t ms ch r t' ms' ch' w = subst AnswerFits (sym w.answer) (go (walk_judged c os (length t) (length ms) (length ch)) refl)
  where
    go : (j : Judged) → walk_judged c os (length t) (length ms) (length ch) ≡ j → AnswerFits (answer_by (walk_judged c os (length t) (length ms) (length ch)) (facts_of c (survivors os)))
    go (Ok _) e =
        let k = walk_few c os (length t) (length ms) (length ch) e in
        rw e (omega (arith, k.seen.steps), omega (arith, k.nodes), omega (arith, k.seen.corners), omega (arith, k.seen.j), omega (arith, k.seen.k))
    go (Err x) e = rw e (omega (arith, subst (Placed most_input) e (walk_placed c os (length t) (length ms) (length ch))))

pub pair_fits : (c e : Corner) (os : List ℕ) (b : PairLent) (r : PairAnswer) (b' : PairLent) → PairIs c e os b r b' → PairAnswerFits r
pair_fits c e os b r b' w = subst PairAnswerFits (sym w.answer) (go (pair_judged_in c e os b) refl)
  where
    go : (j : Judged) → pair_judged_in c e os b ≡ j → PairAnswerFits (pair_answer_by (pair_judged_in c e os b) (pair_facts_of c e (steps_by 0 os) (steps_by 1 os)))
    go (Ok _) i =
        let k = pair_few c e os (length b.table) (length b.marks) (length b.first) (length b.second) i in
        let f = k.first in
        let g = k.second in
        rw i (omega (arith, k.nodes), (omega (arith, f.steps), omega (arith, f.corners), omega (arith, f.j), omega (arith, f.k)), (omega (arith, g.steps), omega (arith, g.corners), omega (arith, g.j), omega (arith, g.k)))
    go (Err x) i = rw i (omega (arith, subst (Placed most_input) i (pair_placed c e os (length b.table) (length b.marks) (length b.first) (length b.second))))

-- a refusal of digits stands at one of them
placed_hull : (i : ℕ) (ds : List ℕ) (b : ℕ) → i + length ds ≤ b → Placed b (chain_judged i ds)
placed_hull i [] b h = tt
placed_hull i (d ∷ ds) b h =
    let x = when (ltb 3 d) (BadDigit i) in
    let y = when (eqb i most_steps) (TooLong i) in
    placed_or b (or_else x y) (chain_judged (suc i) ds)
    (placed_or b x y (placed-when b (ltb 3 d) (BadDigit i) (omega arith)) (placed-when b (eqb i most_steps) (TooLong i) (omega arith)))
    (placed_hull (suc i) ds b (omega arith))

placed_digits : (i : ℕ) (ds : List ℕ) (b : ℕ) → i + length ds ≤ b → Placed b (digits_judged i ds)
placed_digits i [] b h = tt
placed_digits i (d ∷ ds) b h = placed_or b (when (ltb 3 d) (BadDigit i)) (digits_judged (suc i) ds) (placed-when b (ltb 3 d) (BadDigit i) (omega arith)) (placed_digits (suc i) ds b (omega arith))

-- 1 comes first, so that what comes after it is judged of an input of 32,768 bytes at most
placed-after : (n : ℕ) (rest : Judged) → (n ≤ most_input → Placed most_input rest) → Placed most_input (or_else (when (ltb most_input n) TooMany) rest)
placed-after n rest f = go (ltb most_input n) refl
  where
    go : (b : Bool) → ltb most_input n ≡ b → Placed most_input (or_else (when (ltb most_input n) TooMany) rest)
    go true e = rw e (omega arith)
    go false e = rw e (f (ltb-false most_input n e))

pub turns_fit : (ds : List ℕ) (room : ℕ) (j : Judged) → j ≡ turns_judged ds room → judged_place j < 2 ^ 32
turns_fit ds room j e =
    let x = not (eqb room (length ds)) in
    let f = digits_judged 0 ds in
    place_fits j (subst (Placed most_input) (sym e) (placed-after (length ds) (or_else (when x ResultRoom) (or_else f (Ok tt))) (λ h.
    placed_or most_input (when x ResultRoom) (or_else f (Ok tt)) (placed-when most_input x ResultRoom (omega arith)) (placed_or most_input f (Ok tt) (placed_digits 0 ds most_input (omega arith)) tt))))

chain-placed : (c : Corner) (chain : List ℕ) → Placed most_input (as_walk_judged c chain)
chain-placed c chain =
    let q = when (not (start_fits c)) StartRange in
    let f = chain_judged 0 chain in
    placed-after (length chain) (or_else q (or_else f (Ok tt))) (λ h.
    placed_or most_input q (or_else f (Ok tt)) (placed-when most_input (not (start_fits c)) StartRange (omega arith)) (placed_or most_input f (Ok tt) (placed_hull 0 chain most_input (omega arith)) tt))

-- and then one of its own
placed_then : (c : Corner) (chain : List ℕ) (own : Judged) → Placed most_input own → Placed most_input (first_of (as_walk_judged c chain ∷ own ∷ []))
placed_then c chain own p = placed_or most_input (as_walk_judged c chain) (or_else own (Ok tt)) (chain-placed c chain) (placed_or most_input own (Ok tt) p tt)

chain-short : (c : Corner) (chain : List ℕ) (own : Judged) → first_of (as_walk_judged c chain ∷ own ∷ []) ≡ Ok tt → length chain ≤ most_input
chain-short c chain own e = omega (arith, (good_walk c chain (first_good (as_walk_judged c chain) own e).0).short)

hull_placed : (c : Corner) (chain : List ℕ) (room n : ℕ) → Placed most_input (hull_judged c chain room n)
hull_placed c chain room n = placed_then c chain (when (ltb room (2 * n)) HullRoom) (placed-when most_input (ltb room (2 * n)) HullRoom (omega arith))

pub counted_fits : (c : Corner) (chain : List ℕ) (before : List ℤ) (r : Counted) (after : List ℤ) → HullCall c chain before r after → CountedFits r
counted_fits c chain before r after h = subst CountedFits (sym h.answer) (go (hull_judged c chain (length before) (length h.list)) refl)
  where
    go : (j : Judged) → hull_judged c chain (length before) (length h.list) ≡ j → CountedFits (counted_of (hull_judged c chain (length before) (length h.list)) (length h.list))
    go (Ok _) e = rw e (omega (arith, hull_count-steps c chain h.list h.hull, chain-short c chain (when (ltb (length before) (2 * length h.list)) HullRoom) e))
    go (Err x) e = rw e (omega (arith, subst (Placed most_input) e (hull_placed c chain (length before) (length h.list))))

outline_placed : (s : Corner) (ds : List ℕ) (room n : ℕ) → Placed most_input (outline_judged s ds room n)
outline_placed s ds room n = placed_then s ds (when (ltb room n) OutlineRoom) (placed-when most_input (ltb room n) OutlineRoom (omega arith))

pub outline_fits : (s : Corner) (ds before : List ℕ) (r : Counted) (after : List ℕ) → OutlineCall s ds before r after → CountedFits r
outline_fits s ds before r after w = subst CountedFits (sym w.answer) (go (outline_judged s ds (length before) n) refl)
  where
    n : ℕ
    n = length w.steps

    go : (j : Judged) → outline_judged s ds (length before) n ≡ j → CountedFits (counted_of (outline_judged s ds (length before) n) n)
    go (Ok _) e = rw e (omega (arith, outline_short w.outline, chain-short s ds (when (ltb (length before) n) OutlineRoom) e))
    go (Err x) e = rw e (omega (arith, subst (Placed most_input) e (outline_placed s ds (length before) n)))

room-placed : (s : Corner) (ds : List ℕ) → Placed most_input (as_room_judged s ds)
room-placed s ds = placed_then s ds (when (not (is_room s ds)) NotRoom) (placed-when most_input (not (is_room s ds)) NotRoom (omega arith))

polygon_placed : (s : Corner) (ds : List ℕ) (room : ℕ) → Placed most_input (polygon_judged s ds room)
polygon_placed s ds room =
    let p = ltb room (length (polygon_of s ds)) in
    placed_or most_input (as_room_judged s ds) (or_else (when p PolygonRoom) (Ok tt)) (room-placed s ds) (placed_or most_input (when p PolygonRoom) (Ok tt) (placed-when most_input p PolygonRoom (omega arith)) tt)

pub polygon_fits : (s : Corner) (ds before : List ℕ) (r : Counted) (after : List ℕ) → PolygonCall s ds before r after → CountedFits r
polygon_fits s ds before r after w = subst CountedFits (sym w.answer) (go (polygon_judged s ds (length before)) refl)
  where
    go : (j : Judged) → polygon_judged s ds (length before) ≡ j → CountedFits (counted_of (polygon_judged s ds (length before)) (length (polygon_of s ds)))
    go (Ok _) e = let k = polygon_few s ds (length before) e in rw e (omega (arith, k.0, k.1))
    go (Err x) e = rw e (omega (arith, subst (Placed most_input) e (polygon_placed s ds (length before))))

rows-placed : (s : Corner) (ds : List ℕ) (room n : ℕ) → Placed most_input (rows_judged s ds room n)
rows-placed s ds room n =
    let p = ltb room (3 * n) in
    placed_or most_input (as_room_judged s ds) (or_else (when p SpanRoom) (Ok tt)) (room-placed s ds) (placed_or most_input (when p SpanRoom) (Ok tt) (placed-when most_input p SpanRoom (omega arith)) tt)

pub rows_fit : (s : Corner) (ds : List ℕ) (before : List ℤ) (r : Counted) (after : List ℤ) → RowsCall s ds before r after → CountedFits r
rows_fit s ds before r after w = subst CountedFits (sym w.answer) (go (rows_judged s ds (length before) (length w.list)) refl)
  where
    go : (j : Judged) → rows_judged s ds (length before) (length w.list) ≡ j → CountedFits (counted_of (rows_judged s ds (length before) (length w.list)) (length w.list))
    go (Ok _) e =
        let g = (or_else_good (as_room_judged s ds) (or_else (when (ltb (length before) (3 * length w.list)) SpanRoom) (Ok tt)) e).0 in
        rw e (omega (arith, rows_few s ds g w.list (w.rows g)))
    go (Err x) e = rw e (omega (arith, subst (Placed most_input) e (rows-placed s ds (length before) (length w.list))))

-- two rooms: the first's refusals, then the second's, then 21
overlay_placed : (s : Corner) (ds : List ℕ) (t : Corner) (es : List ℕ) (before : Part → List ℤ) (L : Part → List Span) → Placed most_input (overlay_judged s ds t es before L)
overlay_placed s ds t es before L =
    placed_or most_input (as_room_judged s ds) (or_else (as_room_judged t es) (buffers_judged before L)) (room-placed s ds)
    (placed_or most_input (as_room_judged t es) (buffers_judged before L) (room-placed t es) (short First (or_else (judged Second) (or_else (judged Both) (Ok tt))) (short Second (or_else (judged Both) (Ok tt)) (short Both (Ok tt) tt))))
  where
    judged : Part → Judged
    judged k = part_room_judged before L k

    short : (k : Part) (j : Judged) → Placed most_input j → Placed most_input (or_else (part_room_judged before L k) j)
    short k j p = placed_or most_input (part_room_judged before L k) j (placed-when most_input (ltb (length (before k)) (3 * length (L k))) SpanRoom (omega arith)) p

pub overlay_fit : (s : Corner) (ds : List ℕ) (t : Corner) (es : List ℕ) (before : Part → List ℤ) (r : Overlaid) (after : Part → List ℤ) → OverlayCall s ds t es before r after → OverlaidFits r
overlay_fit s ds t es before r after w = go (overlay_judged s ds t es before w.lists) refl
  where
    few : (m : Measures) → OverlayCall s ds t es before (Ok m) after → MeasuresFit m
    few m v =
        let k = overlay_few s ds t es before m v in
        let at : (p : Part) → MeasureFits (of_parts m.first m.second m.both p) = λ p. (omega (arith, (k p).1), omega (arith, (k p).0, (k p).1)) in
        (at First, at Second, at Both)

    go : (j : Judged) → overlay_judged s ds t es before w.lists ≡ j → OverlaidFits r
    go (Ok _) e =
        let f = w.answer ∙ ap (λ (i : Judged). overlaid_of i w.lists) e in
        subst OverlaidFits (sym f) (few (measures_of w.lists) (subst (λ (x : Overlaid). OverlayCall s ds t es before x after) f w))
    go (Err x) e =
        let f = w.answer ∙ ap (λ (i : Judged). overlaid_of i w.lists) e in
        subst OverlaidFits (sym f) (omega (arith, subst (Placed most_input) e (overlay_placed s ds t es before w.lists)))

-- a room on a grid: 22 after 10, and 18 last
orthogonal_placed : (s : Corner) (ds : List ℕ) (g room n : ℕ) → Placed most_input (orthogonal_judged s ds g room n)
orthogonal_placed s ds g room n =
    placed_or most_input (on_grid_judged s ds g) (or_else (when (ltb room n) ChainRoom) (Ok tt)) on_grid
    (placed_or most_input (when (ltb room n) ChainRoom) (Ok tt) (placed-when most_input (ltb room n) ChainRoom (omega arith)) tt)
  where
    on_grid : Placed most_input (on_grid_judged s ds g)
    on_grid =
        let a = when (not (start_fits s)) StartRange in
        let z = when (not (grid_fits g)) GridSize in
        let f = chain_judged 0 ds in
        let r = when (not (is_room s ds)) NotRoom in
        placed-after (length ds) (or_else a (or_else z (or_else f (or_else r (Ok tt))))) (λ h.
        placed_or most_input a (or_else z (or_else f (or_else r (Ok tt)))) (placed-when most_input (not (start_fits s)) StartRange (omega arith))
        (placed_or most_input z (or_else f (or_else r (Ok tt))) (placed-when most_input (not (grid_fits g)) GridSize (omega arith))
        (placed_or most_input f (or_else r (Ok tt)) (placed_hull 0 ds most_input (omega arith)) (placed_or most_input r (Ok tt) (placed-when most_input (not (is_room s ds)) NotRoom (omega arith)) tt))))

pub orthogonal_fit : (s : Corner) (ds : List ℕ) (g : ℕ) (before : List ℕ) (r : Orthogonal) (after : List ℕ) → OrthogonalCall s ds g before r after → OrthogonalFits r
orthogonal_fit s ds g before r after w = go (orthogonal_judged s ds g (length before) (length w.steps)) refl
  where
    few : (h : Enclosed) → OrthogonalCall s ds g before (Ok h) after → EnclosedFits h
    few h v = let k = orthogonal_most s ds g before h v in (omega (arith, k.0), omega (arith, k.1))

    go : (j : Judged) → orthogonal_judged s ds g (length before) (length w.steps) ≡ j → OrthogonalFits r
    go (Ok _) e =
        let f = w.answer ∙ ap (λ (i : Judged). orthogonal_of i w.start w.steps) e in
        subst OrthogonalFits (sym f) (few (enclosed_of w.start w.steps) (subst (λ (x : Orthogonal). OrthogonalCall s ds g before x after) f w))
    go (Err x) e =
        let f = w.answer ∙ ap (λ (i : Judged). orthogonal_of i w.start w.steps) e in
        subst OrthogonalFits (sym f) (omega (arith, subst (Placed most_input) e (orthogonal_placed s ds g (length before) (length w.steps))))

pub convex_fits : (s : Corner) (ds : List ℕ) (r : Counted) → ConvexCall s ds r → CountedFits r
convex_fits s ds r w = subst CountedFits (sym w.answer) (go (as_room_judged s ds) (room-placed s ds) w.says)
  where
    go : (j : Judged) → Placed most_input j → (b : Bool) → CountedFits (counted_of j (tally b))
    go (Ok _) p true = omega arith
    go (Ok _) p false = omega arith
    go (Err x) p b = omega (arith, p)

placed_tests : (a b c d e f g : Bool)
    → Placed most_input (first_of (when a FileLength ∷ when b FileKind ∷ when c FileLength ∷ when d BadCoordinate ∷ when e BadRing ∷ when f (TooLong most_steps) ∷ when g ChainRoom ∷ []))
placed_tests true b c d e f g = omega arith
placed_tests false true c d e f g = omega arith
placed_tests false false true d e f g = omega arith
placed_tests false false false true e f g = omega arith
placed_tests false false false false true f g = omega arith
placed_tests false false false false false true g = omega arith
placed_tests false false false false false false true = omega arith
placed_tests false false false false false false false = tt

read-placed : (file : List ℕ) (room : ℕ) → Placed most_input (read_judged file room)
read-placed file room =
    placed_tests (ltb (length file) 13) (is_neither (order_of file)) (not (eqb (length file) (13 + 16 * count_given file))) (any is_faulty (points_given file)) (not (is_ring (ring_of file)))
    (ltb most_steps (length_of (ring_of file))) (ltb room (length_of (ring_of file)))

pub given_fits : (file before : List ℕ) (r : Given) (after : List ℕ) → ReadCall file before r after → GivenFits r
given_fits file before r after w = subst GivenFits (sym w.answer) (go (read_judged file (length before)) refl)
  where
    go : (j : Judged) → read_judged file (length before) ≡ j → GivenFits (given_of j (ring_of file))
    go (Ok _) e = omega (arith, read_few file (length before) e)
    go (Err x) e = omega (arith, subst (Placed most_input) e (read-placed file (length before)))
