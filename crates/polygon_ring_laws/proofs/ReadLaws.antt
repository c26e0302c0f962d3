-- The call that reads a file, by its parts: the length, the survey of the points, and the byte order.
-- Assumes nothing.
use Rattle.std.specs.Prelude.{Err, Ok, Option}
use mathlib.Core.Path.{◌≡◌, refl, sym, ap, ap₂, ◌∙◌}
use mathlib.Core.Bool.{Bool, true, false, not}
use mathlib.Core.List.{List, [], ◌∷◌, ◌++◌, map}
use Prim.Native.Nat.{ℕ, ◌+◌, ◌-◌, ◌*◌, ◌/◌, ◌≤◌, ◌<◌}
use native.Mathlib.Omega.{arith}
use borrow.Author.Tests.{lt-ltb, le-ltb, ltb-false}
use lib.Dec.{eqb, ltb}
use lib.ListN.{length, take, drop}
use Rattle.polygon_ring.specs.Answers.{Given}
use Rattle.answer.specs.Answers.{Judged}
use Rattle.lists.specs.Lists.{any}
use Rattle.answer.specs.Limits.{most_steps}
use Rattle.grid.specs.declared.Corner.{Corner}
use Rattle.answer.specs.Refusal.{when, or_else, first_of}
use Rattle.answer.specs.Listed.{laid_if}
use Rattle.polygon_ring.specs.Ring.{order_of, is_little, is_neither, point_at, points_from, is_faulty, corner_in, start_of, later_of, length_of, chain_of_points, is_ring, count_in, points_in, read_judged, given_of, ReadCall}
use Rattle.polygon_ring_laws.specs.Reading.{ring_from, ring_judged, points_judged, ReadIn}
use Rattle.polygon_laws.proofs.BytesLaws.{part}
use Rattle.polygon_ring_laws.proofs.RingLaws.{ring-first, ring_some, not-true, not-false, length-steps_from}
use Rattle.answer.specs.declared.{Refusal.Refusal, Refusal.TheVariants.FileLength, Refusal.TheVariants.FileKind, Refusal.TheVariants.BadCoordinate, Refusal.TheVariants.BadRing, Refusal.TheVariants.TooLong, Refusal.TheVariants.ChainRoom}
use Rattle.polygon_ring.specs.declared.Found.{Found}

clash : ◌≡◌ {A = ℕ} 0 1 → ⊥
clash z = omega arith

-- ---- answers and judgements

pub given_fine : (j : Judged) (ps : List Corner) (f : Found) → given_of j ps ≡ Ok f → (j ≡ Ok tt) × (f ≡ record { start = start_of ps; steps = length_of ps })
given_fine (Ok _) ps f e = (refl, cc)
given_fine (Err r) ps f e = let z : ◌≡◌ {A = ℕ} 0 1 = cc in absurd (clash z)

pub given_refused : (j : Judged) (ps : List Corner) (x : Refusal) → given_of j ps ≡ Err x → j ≡ Err x
given_refused (Ok _) ps x e = let z : ◌≡◌ {A = ℕ} 0 1 = cc in absurd (clash z)
given_refused (Err r) ps x e = let z : r ≡ x = cc in ap Err z

-- the refusals of the points, by four tests
abbrev pub judged_by : Bool → Bool → Bool → Bool → Judged
judged_by bad ring long short = first_of (when bad BadCoordinate ∷ when (not ring) BadRing ∷ when long (TooLong most_steps) ∷ when short ChainRoom ∷ [])

pub ring_tests : (ps : List (Option Corner)) (room : ℕ) (bad ring long short : Bool) → any is_faulty ps ≡ bad → is_ring (map corner_in ps) ≡ ring → ltb most_steps (length_of (map corner_in ps)) ≡ long
    → ltb room (length_of (map corner_in ps)) ≡ short → ring_judged ps room ≡ judged_by bad ring long short
ring_tests ps room bad ring long short e f u v =
    let n = length_of (map corner_in ps) in
    ap₂ (λ (b r : Bool). judged_by b r (ltb most_steps n) (ltb room n)) e f ∙ ap₂ (λ (l t : Bool). judged_by bad ring l t) u v

pub fine_by : (bad ring long short : Bool) → judged_by bad ring long short ≡ Ok tt
    → (bad ≡ false) × (ring ≡ true) × (long ≡ false) × (short ≡ false)
fine_by false true false false e = (refl, refl, refl, refl)
fine_by false true false true e = let z : ◌≡◌ {A = ℕ} 0 1 = cc in absurd (clash z)
fine_by false true true short e = let z : ◌≡◌ {A = ℕ} 0 1 = cc in absurd (clash z)
fine_by false false long short e = let z : ◌≡◌ {A = ℕ} 0 1 = cc in absurd (clash z)
fine_by true ring long short e = let z : ◌≡◌ {A = ℕ} 0 1 = cc in absurd (clash z)

-- ---- the points of a file, in the part after its header

pub judged_sized : (little : Bool) (file : List ℕ) (room : ℕ) (b : Bool) → eqb (length file) (13 + 16 * count_in little file) ≡ b
    → points_judged little file room ≡ or_else (when (not b) FileLength) (ring_judged (points_in little file) room)
judged_sized little file room b e = ap (λ (b : Bool). or_else (when (not b) FileLength) (ring_judged (points_in little file) room)) e

module _ (little : Bool) (file : List ℕ) (r : Bool) (e : r ≡ eqb (length file) (13 + 16 * count_in little file)) where
  pub read_uneven : (out : List ℕ) → not r ≡ true → ReadIn little file out (Err FileLength) out
  read_uneven out f =
      let j : points_judged little file (length out) ≡ Err FileLength = judged_sized little file (length out) false (sym e ∙ not-true r f) in record {
        answer = ap (λ (c : Judged). given_of c (map corner_in (points_in little file))) (sym j);
        buffer = ap (λ (c : Judged). laid_if c (chain_of_points (map corner_in (points_in little file))) out) (sym j);
      }

  module _ (f : not r ≡ false) where
    judged : (room : ℕ) → points_judged little file room ≡ ring_judged (points_in little file) room
    judged room = judged_sized little file room true (sym e ∙ not-false r f)

    there : points_from little (take (length file - 13) (drop 13 file)) 0 ((length file - 13) / 16) ≡ points_in little file
    there = ap (λ (s : List ℕ). points_from little s 0 ((length file - 13) / 16)) (part file 13)

    module _ (room : ℕ) (g : Given) (p : g ≡ given_of (ring_judged (points_from little (take (length file - 13) (drop 13 file)) 0 ((length file - 13) / 16)) room) (ring_from little (take (length file - 13) (drop 13 file)) 0 ((length file - 13) / 16))) where
      given : g ≡ given_of (ring_judged (points_in little file) room) (map corner_in (points_in little file))
      given = p ∙ ap (λ (ps : List (Option Corner)). given_of (ring_judged ps room) (map corner_in ps)) there

      -- what the writing of the chain asks
      pub ready : (x : Found) → g ≡ Ok x
          → (0 < (length file - 13) / 16) × (length_of (ring_from little (take (length file - 13) (drop 13 file)) 0 ((length file - 13) / 16)) ≤ room)
          × (any is_faulty (points_from little (take (length file - 13) (drop 13 file)) 0 ((length file - 13) / 16)) ≡ false) × (x.start ≡ corner_in (point_at little (take (length file - 13) (drop 13 file)) 0))
      ready x h =
          let P = take (length file - 13) (drop 13 file) in
          let n = (length file - 13) / 16 in
          let ps = points_from little P 0 n in
          let fine = given_fine (ring_judged ps room) (map corner_in ps) x (sym p ∙ h) in
          let w = fine_by (any is_faulty ps) (is_ring (map corner_in ps)) (ltb most_steps (length_of (map corner_in ps))) (ltb room (length_of (map corner_in ps))) fine.0 in
          let c = ring_some little P n w.1 in
          (c, ltb-false room (length_of (map corner_in ps)) w.3, w.0, ap (λ (f : Found). f.start) fine.1 ∙ ap start_of (ring-first little P n c))

      pub read_written : (out out' : List ℕ) (x : Found) → room ≡ length out → g ≡ Ok x
          → out' ≡ chain_of_points (ring_from little (take (length file - 13) (drop 13 file)) 0 ((length file - 13) / 16)) ++ drop (length_of (ring_from little (take (length file - 13) (drop 13 file)) 0 ((length file - 13) / 16))) out
          → ReadIn little file out g out'
      read_written out out' x q h w =
          let ring = map corner_in (points_in little file) in
          let j : points_judged little file (length out) ≡ Ok tt = judged (length out) ∙ ap (ring_judged (points_in little file)) (sym q) ∙ (given_fine (ring_judged (points_in little file) room) ring x (sym given ∙ h)).0 in record {
            answer = given ∙ ap (λ (c : Judged). given_of c ring) (ap (ring_judged (points_in little file)) q ∙ sym (judged (length out)));
            buffer =
                w
                ∙ ap (λ (ps : List (Option Corner)). chain_of_points (map corner_in ps) ++ drop (length_of (map corner_in ps)) out) there
                ∙ ap (λ (k : ℕ). chain_of_points ring ++ drop k out) (sym (length-steps_from (start_of ring) (later_of ring)))
                ∙ ap (λ (c : Judged). laid_if c (chain_of_points ring) out) (sym j);
          }

      pub read_kept : (out : List ℕ) (x : Refusal) → room ≡ length out → g ≡ Err x → ReadIn little file out g out
      read_kept out x q h =
          let ring = map corner_in (points_in little file) in
          let j : points_judged little file (length out) ≡ Err x = judged (length out) ∙ ap (ring_judged (points_in little file)) (sym q) ∙ given_refused (ring_judged (points_in little file) room) ring x (sym given ∙ h) in record {
            answer = given ∙ ap (λ (c : Judged). given_of c ring) (ap (ring_judged (points_in little file)) q ∙ sym (judged (length out)));
            buffer = ap (λ (c : Judged). laid_if c (chain_of_points ring) out) (sym j);
          }

-- ---- the whole call, by the order of the bytes

pub judged-short : (file : List ℕ) (room : ℕ) → length file < 13 → read_judged file room ≡ Err FileLength
judged-short file room h =
    ap (λ (b : Bool). or_else (when b FileLength) (or_else (when (is_neither (order_of file)) FileKind) (points_judged (is_little (order_of file)) file room))) (lt-ltb (length file) 13 h)

after-length : (file : List ℕ) (room : ℕ) → 13 ≤ length file → read_judged file room ≡ or_else (when (is_neither (order_of file)) FileKind) (points_judged (is_little (order_of file)) file room)
after-length file room h =
    ap (λ (b : Bool). or_else (when b FileLength) (or_else (when (is_neither (order_of file)) FileKind) (points_judged (is_little (order_of file)) file room))) (le-ltb (length file) 13 h)

pub judged_neither : (file : List ℕ) (room : ℕ) → 13 ≤ length file → is_neither (order_of file) ≡ true → read_judged file room ≡ Err FileKind
judged_neither file room h e = after-length file room h ∙ ap (λ (b : Bool). or_else (when b FileKind) (points_judged (is_little (order_of file)) file room)) e

module _ (little : Bool) (file : List ℕ) (h : 13 ≤ length file) (e : is_neither (order_of file) ≡ false) (f : is_little (order_of file) ≡ little) where
  -- the refusals that are left, by this byte order
  pub judged_ordered : (room : ℕ) → read_judged file room ≡ points_judged little file room
  judged_ordered room = after-length file room h ∙ ap₂ (λ (b l : Bool). or_else (when b FileKind) (points_judged l file room)) e f

  module _ (out : List ℕ) (g : Given) (out' : List ℕ) where
    pub read_ordered : ReadIn little file out g out' → ReadCall file out g out'
    read_ordered p = record {
      answer = p.answer ∙ ap₂ (λ (c : Judged) (l : Bool). given_of c (map corner_in (points_in l file))) (sym (judged_ordered (length out))) (sym f);
      buffer = p.buffer ∙ ap₂ (λ (c : Judged) (l : Bool). laid_if c (chain_of_points (map corner_in (points_in l file))) out) (sym (judged_ordered (length out))) (sym f);
    }

    pub ordered_read : ReadCall file out g out' → ReadIn little file out g out'
    ordered_read p = record {
      answer = p.answer ∙ ap₂ (λ (c : Judged) (l : Bool). given_of c (map corner_in (points_in l file))) (judged_ordered (length out)) f;
      buffer = p.buffer ∙ ap₂ (λ (c : Judged) (l : Bool). laid_if c (chain_of_points (map corner_in (points_in l file))) out) (judged_ordered (length out)) f;
    }
