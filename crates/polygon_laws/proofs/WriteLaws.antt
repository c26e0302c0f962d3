-- A polygon laid down part by part, and the call that does it.
-- Assumes nothing.
use Rattle.std.specs.Prelude.{Err, Ok}
use mathlib.Core.Path.{◌≡◌, refl, sym, ap, ap₂, ◌∙◌}
use mathlib.Core.Bool.{Bool}
use mathlib.Core.List.{List, [], ◌∷◌, ◌++◌, append_assoc}
use Prim.Native.Nat.{ℕ, ◌+◌, ◌-◌, ◌*◌, ◌≤◌, ◌<◌}
use native.Mathlib.Omega.{arith}
use borrow.Author.Tests.{lt-ltb, le-ltb}
use lib.ListN.{length, take, drop, length-append}
use Rattle.answer.specs.Answers.{Counted, Judged}
use Rattle.lists.specs.Lists.{Below}
use Rattle.lists.proofs.BelowLaws.{below_all}
use Rattle.grid.specs.declared.Corner.{Corner}
use Rattle.polygon.specs.Bytes.{bytes_of}
use Rattle.answer.specs.Limits.{most_steps}
use Rattle.answer.specs.Refusal.{when, or_else}
use Rattle.answer.proofs.RefusalLaws.{or_else-right, or_else_good}
use Rattle.answer.specs.Listed.{counted_of, laid_if}
use Rattle.steps.proofs.ChainLaws.{good_digits, good_short}
use Rattle.room.specs.Room.{as_room_judged}
use Rattle.room.proofs.RoomLaws.{good_room}
use Rattle.polygon.specs.Polygon.{prefix, point_bytes, points_bytes, polygon_bytes, bends_of, points_of, polygon_of, polygon_room_judged, polygon_judged, PolygonCall}
use Rattle.answer.specs.declared.{Refusal.Refusal, Refusal.TheVariants.PolygonRoom}
use Rattle.polygon_laws.specs.Bends.{Drawable, turning, Drawn}
use Rattle.polygon_laws.proofs.BytesLaws.{lent-more, length-bytes_of, length-point_bytes, length-points_bytes, points_bytes-append, points_bytes-one, length-polygon_bytes}
use Rattle.polygon_laws.proofs.BendLaws.{turning-less, length-bends_of, length-points_of}

-- a part ys that was written from place a on
abbrev put : List ℕ → ℕ → List ℕ → List ℕ
put cur a ys = take a cur ++ (ys ++ drop (length cur - a) (drop a cur))

-- the part that is lent from place a on
abbrev lent : List ℕ → ℕ → List ℕ
lent cur a = take (length cur - a) (drop a cur)

three_points : (s : Corner) (bs : List Corner) → point_bytes s ++ points_bytes bs ++ point_bytes s ≡ points_bytes (s ∷ bs ++ (s ∷ []))
unfolding points_bytes
three_points s bs =
    append_assoc (point_bytes s) (points_bytes bs) (point_bytes s)
    ∙ ap (λ (z : List ℕ). point_bytes s ++ z) (ap (λ (z : List ℕ). points_bytes bs ++ z) (sym (points_bytes-one s)) ∙ sym (points_bytes-append bs (s ∷ [])))

pub ring_laid : (l cur ys zs : List ℕ) (s : Corner) (ds : List ℕ) (k : ℕ) → Below 4 ds → k ≡ turning ds → cur ≡ point_bytes s ++ drop 16 l
    → ys ≡ points_bytes (bends_of s ds) ++ drop (16 * turning ds) (lent cur 16)
    → zs ≡ point_bytes s ++ drop 16 (lent (put cur 16 ys) (16 * (k + 1)))
    → put (put cur 16 ys) (16 * (k + 1)) zs ≡ points_bytes (points_of s ds) ++ drop (16 * (turning ds + 2)) l
ring_laid l cur ys zs s ds k b e p q w =
    let A = point_bytes s in
    let B = points_bytes (bends_of s ds) in
    let n : 16 + 16 * turning ds ≡ 16 * (k + 1) = omega arith in
    let m : 16 * (k + 1) + 16 ≡ 16 * (turning ds + 2) = omega arith in
    let first : put cur 16 ys ≡ A ++ B ++ drop (16 * (k + 1)) l =
    lent-more l cur A B ys 16 (16 * turning ds) (length-point_bytes s) p q ∙ ap (λ (z : ℕ). A ++ B ++ drop z l) n in
    let size : length (A ++ B) ≡ 16 * (k + 1) =
    length-append A B ∙ sum (length A) (length B) (length (bends_of s ds)) (turning ds) (length-point_bytes s) (length-points_bytes (bends_of s ds)) (length-bends_of s ds b) e in
    lent-more l (put cur 16 ys) (A ++ B) A zs (16 * (k + 1)) 16 size first w
    ∙ ap₂ (λ (y : List ℕ) (z : ℕ). y ++ drop z l) (three_points s (bends_of s ds)) m
  where
    sum : (a b n t : ℕ) → a ≡ 16 → b ≡ 16 * n → n ≡ t → k ≡ t → a + b ≡ 16 * (k + 1)
    sum a b n t p q r e = omega arith

pub polygon_laid : (l cur ys zs : List ℕ) (s : Corner) (ds : List ℕ) (n : ℕ) → Below 4 ds → n ≡ turning ds + 2 → cur ≡ prefix ++ drop 9 l
    → ys ≡ bytes_of 4 n ++ drop 4 (lent cur 9)
    → zs ≡ points_bytes (points_of s ds) ++ drop (16 * (turning ds + 2)) (lent (put cur 9 ys) 13)
    → put (put cur 9 ys) 13 zs ≡ polygon_of s ds ++ drop (length (polygon_of s ds)) l
unfolding polygon_bytes
polygon_laid l cur ys zs s ds n b e p q w =
    let same : length (points_of s ds) ≡ turning ds + 2 = length-points_of s ds b in
    lent-more l (put cur 9 ys) (prefix ++ bytes_of 4 n) (points_bytes (points_of s ds)) zs 13 (16 * (turning ds + 2)) (simp length-bytes_of)
    (lent-more l cur prefix (bytes_of 4 n) ys 9 4 refl p q) w
    ∙ ap₂ (λ (m k : ℕ). prefix ++ bytes_of 4 m ++ points_bytes (points_of s ds) ++ drop k l) (e ∙ sym same) (ap (λ (m : ℕ). 13 + 16 * m) (sym same) ∙ sym (length-polygon_bytes (points_of s ds)))

-- ---- the call

length-polygon_of : (s : Corner) (ds : List ℕ) → Below 4 ds → length (polygon_of s ds) ≡ 13 + 16 * (turning ds + 2)
length-polygon_of s ds b = length-polygon_bytes (points_of s ds) ∙ ap (λ (m : ℕ). 13 + 16 * m) (length-points_of s ds b)

pub draw_short : (s : Corner) (ds out : List ℕ) (n : ℕ) → Below 4 ds → n ≡ turning ds + 2 → length out < 13 + 16 * n → Drawn s ds out (Err PolygonRoom) out
draw_short s ds out n b e h =
    let j : polygon_room_judged s ds (length out) ≡ Err PolygonRoom = ap (λ (t : Bool). when t PolygonRoom) (lt-ltb (length out) (length (polygon_of s ds)) (omega (arith, length-polygon_of s ds b))) in record {
      answer = ap (λ (c : Judged). counted_of c (length (polygon_of s ds))) (sym j);
      buffer = ap (λ (c : Judged). laid_if c (polygon_of s ds) out) (sym j);
    }

pub draw_done : (s : Corner) (ds out after : List ℕ) (n : ℕ) → Below 4 ds → n ≡ turning ds + 2 → (length out < 13 + 16 * n → ⊥) → after ≡ polygon_of s ds ++ drop (length (polygon_of s ds)) out
    → Drawn s ds out (Ok (13 + 16 * n)) after
draw_done s ds out after n b e h w =
    let j : polygon_room_judged s ds (length out) ≡ Ok tt = ap (λ (t : Bool). when t PolygonRoom) (le-ltb (length out) (length (polygon_of s ds)) (omega (arith, length-polygon_of s ds b))) in record {
      answer = ap Ok (ap (λ (m : ℕ). 13 + 16 * m) e ∙ sym (length-polygon_of s ds b)) ∙ ap (λ (c : Judged). counted_of c (length (polygon_of s ds))) (sym j);
      buffer = w ∙ ap (λ (c : Judged). laid_if c (polygon_of s ds) out) (sym j);
    }

-- a start and a chain that nothing is wrong with can be drawn
pub room_drawable : (s : Corner) (ds : List ℕ) (j : Judged) → j ≡ as_room_judged s ds → j ≡ Ok tt → Drawable s ds
room_drawable s ds j e g =
    let r = good_room s ds (sym e ∙ g) in
    record { near_x = r.near.0; near_y = r.near.1; digits = below_all 4 ds (good_digits 0 ds r.steps); few = omega (arith, good_short 0 ds (omega arith) r.steps) }

module _ (s : Corner) (ds out : List ℕ) (j : Judged) (e : j ≡ as_room_judged s ds) where
  pub call_good : (r : Counted) (after : List ℕ) → j ≡ Ok tt → Drawn s ds out r after → PolygonCall s ds out r after
  call_good r after g d =
      let k : polygon_room_judged s ds (length out) ≡ polygon_judged s ds (length out) =
      sym (ap (λ (c : Judged). or_else c (or_else (polygon_room_judged s ds (length out)) (Ok tt))) (sym e ∙ g) ∙ or_else-right (polygon_room_judged s ds (length out))) in record {
        answer = d.answer ∙ ap (λ (c : Judged). counted_of c (length (polygon_of s ds))) k;
        buffer = d.buffer ∙ ap (λ (c : Judged). laid_if c (polygon_of s ds) out) k;
      }

  pub call_refused : (r : Refusal) → j ≡ Err r → PolygonCall s ds out (Err r) out
  call_refused r q =
      let k : Err r ≡ polygon_judged s ds (length out) = sym (ap (λ (c : Judged). or_else c (or_else (polygon_room_judged s ds (length out)) (Ok tt))) (sym e ∙ q)) in record {
        answer = ap (λ (c : Judged). counted_of c (length (polygon_of s ds))) k;
        buffer = ap (λ (c : Judged). laid_if c (polygon_of s ds) out) k;
      }

-- the polygon of an accepted call has sixteen bytes for each step at most, and 29
pub polygon_few : (s : Corner) (ds : List ℕ) (room : ℕ) → polygon_judged s ds room ≡ Ok tt → (length (polygon_of s ds) ≤ 16 * length ds + 29) × (length ds ≤ most_steps)
polygon_few s ds room e =
    let g = or_else_good (as_room_judged s ds) (or_else (polygon_room_judged s ds room) (Ok tt)) e in
    let w = room_drawable s ds (as_room_judged s ds) refl g.0 in
    let r = good_room s ds g.0 in
    (omega (arith, length-polygon_of s ds w.digits, turning-less ds w.digits (omega (arith, r.room.four))), w.few)
