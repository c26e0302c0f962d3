-- The judgements of a file are given on their occasions and on no other; the promise of the call that reads it taken apart.
-- Assumes nothing.
use Rattle.std.specs.Prelude.{Err, Ok}
use mathlib.Core.Bool.{Bool, true, false, false≢true}
use mathlib.Core.List.{List, map}
use mathlib.Core.Logic.{◌↔◌}
use mathlib.Core.Path.{◌≡◌, refl, ap, sym, ◌∙◌, subst}
use Prim.Native.Nat.{ℕ, ◌+◌, ◌*◌, ◌≤◌}
use native.Mathlib.Decide.{ℕ_discrete, dec_lt}
use native.Mathlib.Omega.{arith}
use borrow.Author.Tests.{lt-ltb, le-ltb, eq-eqb, ne_eqb}
use lib.Dec.{ltb}
use lib.ListN.{length}
use Rattle.polygon_ring.specs.Answers.{Given}
use Rattle.answer.specs.Answers.{Judged}
use Rattle.lists.specs.Lists.{any}
use Rattle.answer.specs.declared.Refusal.{Refusal}
use Rattle.answer.specs.declared.Refusal.TheVariants.{FileLength, FileKind, BadCoordinate, BadRing, TooLong, ChainRoom}
use Rattle.answer.specs.Limits.{most_steps}
use Rattle.grid.specs.declared.Corner.{Corner}
use Rattle.polygon_ring.specs.declared.{Found.Found}
use Rattle.polygon_ring.specs.Ring.{order_of, is_little, is_neither, is_faulty, corner_in, start_of, length_of, chain_of_points, is_ring, count_in, points_in, ring_of, read_judged, given_of, ReadCall}
use Rattle.polygon_ring_laws.specs.Reading.{ring_judged, points_judged}
use Rattle.polygon_ring_laws.specs.Files.{Headed, Sized, HasCorners, IsRing}
use Rattle.polygon_ring_laws.proofs.ReadLaws.{given_fine, given_refused, judged_by, ring_tests, judged_sized, judged-short, judged_neither, judged_ordered}
use Rattle.polygon_ring_laws.proofs.FileLaws.{headed_order, order_some, point_faulty, faulty_point, points_corners, corners-read, ring_exactly}
use Rattle.answer.proofs.RefusalLaws.{refused_not_good}
use Rattle.answer.specs.Listed.{laid_if}
use Rattle.demands.specs.GivenFile.{GivenFile}
use Rattle.demands.specs.GivenFile as given

module _ (file : List ℕ) (room : ℕ) where
  abbrev long : List Corner → Bool
  long ps = ltb most_steps (length_of ps)

  abbrev short : List Corner → Bool
  short ps = ltb room (length_of ps)

  ordered : (little : Bool) → Headed little file → read_judged file room ≡ points_judged little file room
  ordered little h = let o = headed_order little file h in judged_ordered little file h.enough o.0 o.1 room

  whole : (little : Bool) → Sized little file → read_judged file room ≡ ring_judged (points_in little file) room
  whole little s = ordered little s.headed ∙ judged_sized little file room true (eq-eqb (length file) (13 + 16 * count_in little file) s.size)

  no_header : 13 ≤ length file → ((little : Bool) → Headed little file → ⊥) → (b : Bool) → is_neither (order_of file) ≡ b → is_neither (order_of file) ≡ true
  no_header h f true e = e
  no_header h f false e = absurd (f (is_little (order_of file)) (order_some file h e))

  no_ring : (ps : List Corner) → (IsRing ps → ⊥) → (b : Bool) → is_ring ps ≡ b → is_ring ps ≡ false
  no_ring ps f true e = absurd (f ((ring_exactly ps).0 e))
  no_ring ps f false e = e

  -- by the corners of the file
  cornered : (little : Bool) (ps : List Corner) → HasCorners little file ps → (r l t : Bool) → is_ring ps ≡ r → long ps ≡ l → short ps ≡ t → read_judged file room ≡ judged_by false r l t
  cornered little ps h r l t e f g =
      let c = corners-read little file ps h in
      whole little h.sized
      ∙ ring_tests (points_in little file) room false r l t c.0 (ap is_ring c.1 ∙ e) (ap long c.1 ∙ f) (ap short c.1 ∙ g)

  given_file : (j : Judged) → GivenFile file room j → read_judged file room ≡ j
  given_file _ (given.too_short h) = judged-short file room h
  given_file _ (given.other_kind h f) = judged_neither file room h (no_header h f (is_neither (order_of file)) refl)
  given_file _ (given.other_length little h f) = ordered little h ∙ judged_sized little file room false (ne_eqb (length file) (13 + 16 * count_in little file) f)
  given_file _ (given.bad_coordinate little i s k f) =
      let ps = map corner_in (points_in little file) in
      whole little s ∙ ring_tests (points_in little file) room true (is_ring ps) (long ps) (short ps) (point_faulty little file s i k f) refl refl refl
  given_file _ (given.bad_ring little ps h f) = cornered little ps h false (long ps) (short ps) (no_ring ps f (is_ring ps) refl) refl refl
  given_file _ (given.too_long little ps h r l) = cornered little ps h true true (short ps) ((ring_exactly ps).1 r) (lt-ltb most_steps (length_of ps) l) refl
  given_file _ (given.chain_room little ps h r l t) = cornered little ps h true false true ((ring_exactly ps).1 r) (le-ltb most_steps (length_of ps) l) (lt-ltb room (length_of ps) t)
  given_file _ (given.accepted little ps h r l t) = cornered little ps h true false false ((ring_exactly ps).1 r) (le-ltb most_steps (length_of ps) l) (le-ltb room (length_of ps) t)

  by_length : (little : Bool) (ps : List Corner) → HasCorners little file ps → IsRing ps → (j : Judged) × GivenFile file room j
  by_length little ps h r =
      elim (dec_lt most_steps (length_of ps)) [
        | yes l ↦ (Err (TooLong most_steps), given.too_long little ps h r l)
        | no l ↦ elim (dec_lt room (length_of ps)) [
          | yes t ↦ (Err ChainRoom, given.chain_room little ps h r (omega arith) t)
          | no t ↦ (Ok tt, given.accepted little ps h r (omega arith) (omega arith))
        ]
      ]

  by-ring : (little : Bool) (ps : List Corner) → HasCorners little file ps → (b : Bool) → is_ring ps ≡ b → (j : Judged) × GivenFile file room j
  by-ring little ps h true e = by_length little ps h ((ring_exactly ps).0 e)
  by-ring little ps h false e = (Err BadRing, given.bad_ring little ps h (λ r. false≢true (sym e ∙ (ring_exactly ps).1 r)))

  by_points : (little : Bool) → Sized little file → (b : Bool) → any is_faulty (points_in little file) ≡ b → (j : Judged) × GivenFile file room j
  by_points little s true e = let f = faulty_point little file s e in (Err BadCoordinate, given.bad_coordinate little f.0 s f.1 f.2)
  by_points little s false e = let ps = map corner_in (points_in little file) in by-ring little ps (points_corners little file s e) (is_ring ps) refl

  by_size : (little : Bool) → Headed little file → (j : Judged) × GivenFile file room j
  by_size little h =
      elim (ℕ_discrete (length file) (13 + 16 * count_in little file)) [
        | yes s ↦ by_points little (record { headed = h; size = s }) (any is_faulty (points_in little file)) refl
        | no s ↦ (Err FileLength, given.other_length little h s)
      ]

  by_order : 13 ≤ length file → (b : Bool) → is_neither (order_of file) ≡ b → (j : Judged) × GivenFile file room j
  by_order h true e = (Err FileKind, given.other_kind h (λ little k. false≢true (sym (headed_order little file k).0 ∙ e)))
  by_order h false e = by_size (is_little (order_of file)) (order_some file h e)

  some_file : (j : Judged) × GivenFile file room j
  some_file = elim (dec_lt (length file) 13) [ yes h ↦ (Err FileLength, given.too_short h) | no h ↦ by_order (omega arith) (is_neither (order_of file)) refl ]

  pub file-when : (j : Judged) → read_judged file room ≡ j ↔ GivenFile file room j
  file-when j = let x = some_file in (λ e. subst (GivenFile file room) (sym (given_file x.0 x.1) ∙ e) x.1, given_file j)

-- ---- the call

-- the answer to a file that is accepted
abbrev pub found_in : List ℕ → Found
found_in file = record { start = start_of (ring_of file); steps = length_of (ring_of file) }

module _ {file out : List ℕ} {r : Given} {out' : List ℕ} (c : ReadCall file out r out') where
  pub chain_refused_when : (q : Refusal) → r ≡ Err q ↔ GivenFile file (length out) (Err q)
  chain_refused_when q = (
    λ e. (file-when file (length out) (Err q)).0 (given_refused (read_judged file (length out)) (ring_of file) q (sym c.answer ∙ e)),
    λ g. c.answer ∙ ap (λ (j : Judged). given_of j (ring_of file)) ((file-when file (length out) (Err q)).1 g),
  )

  pub chain-read-when : r ≡ Ok (found_in file) ↔ GivenFile file (length out) (Ok tt)
  chain-read-when = (
    λ e. (file-when file (length out) (Ok tt)).0 (given_fine (read_judged file (length out)) (ring_of file) (found_in file) (sym c.answer ∙ e)).0,
    λ g. c.answer ∙ ap (λ (j : Judged). given_of j (ring_of file)) ((file-when file (length out) (Ok tt)).1 g),
  )

pub chain_some : (file out : List ℕ) → (r : Given) × (out' : List ℕ) × ReadCall file out r out'
chain_some file out =
    let j = read_judged file (length out) in
    (given_of j (ring_of file), laid_if j (chain_of_points (ring_of file)) out, record { answer = refl; buffer = refl })

-- the corners and the ring of a file that is accepted
good_ring : (file : List ℕ) (room : ℕ) (j : Judged) → j ≡ Ok tt → GivenFile file room j → (little : Bool) × HasCorners little file (ring_of file) × IsRing (ring_of file)
good_ring file room _ e (given.accepted little ps h r l t) =
    let o = headed_order little file h.sized.headed in
    let same : ring_of file ≡ ps = ap (λ (b : Bool). map corner_in (points_in b file)) o.1 ∙ (corners-read little file ps h).1 in
    (little, subst (HasCorners little file) (sym same) h, subst IsRing (sym same) r)
good_ring file room _ e (given.too_short h) = absurd (refused_not_good FileLength e)
good_ring file room _ e (given.other_kind h f) = absurd (refused_not_good FileKind e)
good_ring file room _ e (given.other_length little h f) = absurd (refused_not_good FileLength e)
good_ring file room _ e (given.bad_coordinate little i s k f) = absurd (refused_not_good BadCoordinate e)
good_ring file room _ e (given.bad_ring little ps h f) = absurd (refused_not_good BadRing e)
good_ring file room _ e (given.too_long little ps h r l) = absurd (refused_not_good (TooLong most_steps) e)
good_ring file room _ e (given.chain_room little ps h r l t) = absurd (refused_not_good ChainRoom e)

pub chain-corners : {file out out' : List ℕ} {f : Found} → ReadCall file out (Ok f) out' → (little : Bool) × HasCorners little file (ring_of file) × IsRing (ring_of file)
chain-corners {file = file} {out = out} {f = f} c =
    good_ring file (length out) (Ok tt) refl ((file-when file (length out) (Ok tt)).0 (given_fine (read_judged file (length out)) (ring_of file) f (sym c.answer)).0)
