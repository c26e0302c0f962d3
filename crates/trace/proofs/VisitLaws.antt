-- The different corners of a walk: exactly its corners, each once, in the order of the first visit.
-- Assumes nothing.
use mathlib.Core.List.Memᴰ
use mathlib.Core.List.{List, [], ◌∷◌, Memᴰ}
use mathlib.Core.Logic.{⊎_elim}
use mathlib.Core.Path.{◌≡◌, ap, sym, ◌∙◌, subst}
use Prim.Native.Nat.{ℕ, suc, ◌<◌, ◌≤◌}
use native.Mathlib.Decide.{ℕ_discrete, dec_lt}
use native.Mathlib.Omega.{arith}
use lib.ListN.{length, get_or, take}
use lib.Seq.{length-take-le, get_or-take}
use Rattle.lists.specs.Lists.{Distinct}
use Rattle.lists.proofs.DistinctLaws.{mem_get_d, get_d_mem, mem-take}
use Rattle.lists.proofs.GatherLaws.{gather_distinct, distinct_gather, mem-gather-right, mem-gather_cases}
use Rattle.lists.proofs.PigeonLaws.{pigeon}
use Rattle.grid.specs.declared.Corner.{Corner}
use Rattle.grid.specs.Grid.{origin, same, stepped, corners_from}
use Rattle.grid.proofs.CornerLaws.{same_refl, same_sound}
use Rattle.grid.proofs.StepLaws.{length-corners_from, corners_from-at, corner_at_end}
use Rattle.trace.specs.Meeting.{Meets, visited_of}
use Rattle.trace.specs.Verdict.{IsRoom}
use Rattle.trace.proofs.MeetingLaws.{none-meeting_of, corners_distinct, corners-fresh}
use Rattle.trace.proofs.VerdictLaws.{room-first}

pub visited_distinct : (ps : List Corner) → Distinct (visited_of ps)
visited_distinct ps = distinct_gather same same_sound same_refl [] ps tt

pub mem_visited : (ps : List Corner) {a : Corner} → Memᴰ a ps → Memᴰ a (visited_of ps)
mem_visited ps m = mem-gather-right same same_sound same_refl [] ps m

pub visited_mem : (ps : List Corner) {a : Corner} → Memᴰ a (visited_of ps) → Memᴰ a ps
visited_mem ps m = ⊎_elim (λ n. absurd (Memᴰ.not-nil n)) (λ n. n) (mem-gather_cases same same_sound same_refl [] ps m)

-- there are at most as many as visits
pub length_visited_le : (ps : List Corner) → length (visited_of ps) ≤ length ps
length_visited_le ps = pigeon (visited_of ps) ps (visited_distinct ps) (λ a m. visited_mem ps m)

-- and as many, n + 1, if nothing meets
pub visited_meetless : (c : Corner) (ds : List ℕ) → ((j k : ℕ) → Meets c ds j k → ⊥) → length (visited_of (corners_from c ds)) ≡ suc (length ds)
visited_meetless c ds f =
    ap length (gather_distinct same same_sound same_refl [] (corners_from c ds) (corners_distinct c ds (none-meeting_of c ds f)))
    ∙ length-corners_from c ds

-- after its first step a room meets no corner twice
pub room_distinct : (c : Corner) (d : ℕ) (ds : List ℕ) → IsRoom c (d ∷ ds) → Distinct (corners_from (stepped d c) ds)
room_distinct c d ds r = corners_distinct (stepped d c) ds (none-meeting_of (stepped d c) ds (λ j k m. no j k (r.only (suc j) (suc k) (record { earlier = omega (arith, m.earlier); within = omega (arith, m.within); equal = m.equal }))))
  where
    no : (j k : ℕ) → (suc j ≡ 0) × (suc k ≡ length (d ∷ ds)) → ⊥
    no j k h = omega (arith, h.0)

-- a room of n steps has n different corners
module _ (c : Corner) (ds : List ℕ) (r : IsRoom c ds) where
  abbrev ps : List Corner
  ps = corners_from c ds

  before_last : length (take (length ds) ps) ≡ length ds
  before_last = length-take-le (length ds) ps (omega (arith, length-corners_from c ds))

  -- the last corner is the first
  last-before : {a : Corner} → Memᴰ a ps → Memᴰ a (take (length ds) ps)
  last-before {a} m =
      let k = get_d_mem ps origin m in
      elim (dec_lt k.0 (length ds)) [
        | yes h ↦ at k.0 h k.2
        | no h ↦ at 0 (omega (arith, r.four)) (corners_from-at c ds 0 origin (omega arith) ∙ sym r.closed ∙ sym (corner_at_end c ds) ∙ sym (corners_from-at c ds (length ds) origin (omega arith)) ∙ ap (λ (n : ℕ). get_or ps n origin) (last k.0 k.1 h) ∙ k.2)
      ]
    where
      at : (i : ℕ) → i < length ds → get_or ps i origin ≡ a → Memᴰ a (take (length ds) ps)
      at i h e = Memᴰ.cast (sym (get_or-take (length ds) ps i origin h ∙ e)) (mem_get_d (take (length ds) ps) i origin (subst (λ (n : ℕ). i < n) (sym before_last) h))

      last : (i : ℕ) → i < length ps → (i < length ds → ⊥) → length ds ≡ i
      last i h f = elim (ℕ_discrete (length ds) i) [ yes e ↦ e | no g ↦ absurd (f (omega (arith, length-corners_from c ds))) ]

  pub visited_room : length (visited_of ps) ≡ length ds
  visited_room =
      let d = corners-fresh c ds 0 (length ds) (room-first c ds r) in
      let x = pigeon (visited_of ps) (take (length ds) ps) (visited_distinct ps) (λ a m. last-before (visited_mem ps m)) in
      let y = pigeon (take (length ds) ps) (visited_of ps) d (λ a m. mem_visited ps (mem-take (length ds) ps m)) in
      omega (arith, before_last)
