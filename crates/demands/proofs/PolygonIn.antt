-- What is asked of a polygon that is read (RULES 18), as theorems about the call's promise, `ReadCall`. Each is proved by naming
-- a law.
-- Assumes nothing.
use Rattle.std.specs.Prelude.{Err, Ok}
use mathlib.Core.Bool.{Bool}
use mathlib.Core.List.{List, [], ◌∷◌, ◌++◌}
use mathlib.Core.Logic.{◌↔◌}
use mathlib.Core.Path.{◌≡◌, ap}
use Prim.Native.Nat.{ℕ, ◌≤◌, ◌<◌}
use lib.ListN.{length, take, drop}
use Rattle.polygon_ring.specs.Answers.{Given}
use Rattle.answer.specs.Answers.{Judged}
use Rattle.answer.specs.declared.{Refusal.Refusal, Refusal.TheVariants.ChainRoom}
use Rattle.answer.specs.Refusal.{refusal_number, refusal_place}
use Rattle.answer.specs.Words.{bits_of}
use Rattle.grid.specs.declared.Corner.{Corner}
use Rattle.polygon.specs.Polygon.{PolygonCall}
use Rattle.polygon_ring.specs.declared.{Found.Found}
use Rattle.polygon_ring.specs.Ring.{start_of, length_of, ring_of, read_judged, ReadCall}
use Rattle.polygon_ring.specs.Words.{given_words}
use Rattle.polygon_ring.proofs.CallLaws as call_laws
use Rattle.polygon_ring_laws.specs.Files.{Headed, HasCorners, IsRing, twin_of}
use Rattle.polygon_ring_laws.specs.Passing.{RingPassed}
use Rattle.polygon_ring_laws.proofs.TripLaws as trip_laws
use Rattle.polygon_ring_laws.proofs.TwinLaws as twin_laws
use Rattle.demands.specs.GivenFile.{GivenFile}
use Rattle.demands.proofs.FileCallLaws as file_call_laws

-- the refusals, "first that applies": each exactly on its occasion
pub file_exactly : (file : List ℕ) (room : ℕ) (j : Judged) → read_judged file room ≡ j ↔ GivenFile file room j
file_exactly = file_call_laws.file-when

-- every file and every chain buffer has an answer and a state of the buffer
pub chain_answers : (file before : List ℕ) → (r : Given) × (after : List ℕ) × ReadCall file before r after
chain_answers = file_call_laws.chain_some

-- and only one
pub read_call_one : {file before after₁ after₂ : List ℕ} {r₁ r₂ : Given} → ReadCall file before r₁ after₁
    → ReadCall file before r₂ after₂ → (r₁ ≡ r₂) × (after₁ ≡ after₂)
read_call_one = call_laws.read_call_one

module _ {file before after : List ℕ} {r : Given} (c : ReadCall file before r after) where
  -- 14, 15, 14 again, 16, 17, 6 at place 16,384 and 18: each exactly on its occasion
  pub chain_refused_exactly : (q : Refusal) → r ≡ Err q ↔ GivenFile file (length before) (Err q)
  chain_refused_exactly = file_call_laws.chain_refused_when c

  -- accepted exactly if the file is a closed ring of whole corners, not too long, and the chain buffer is long enough
  pub chain-read_exactly : r ≡ Ok (record { start = start_of (ring_of file); steps = length_of (ring_of file) })
      ↔ GivenFile file (length before) (Ok tt)
  chain-read_exactly = file_call_laws.chain-read-when c

  -- the numbers of each
  pub chain_refused_words : (q : Refusal) → GivenFile file (length before) (Err q)
      → given_words r ≡ refusal_number q ∷ refusal_place q ∷ 0 ∷ 0 ∷ 0 ∷ []
  chain_refused_words q g = ap given_words ((chain_refused_exactly q).1 g)

  pub chain-read-words : GivenFile file (length before) (Ok tt)
      → given_words r ≡ 0 ∷ 0 ∷ length_of (ring_of file) ∷ bits_of (start_of (ring_of file)).0
      ∷ bits_of (start_of (ring_of file)).1 ∷ []
  chain-read-words g = ap given_words (chain-read_exactly.1 g)

module _ (file before after : List ℕ) where
  -- "a refusal writes nothing"
  pub chain_untouched : (q : Refusal) → ReadCall file before (Err q) after → after ≡ before
  chain_untouched = call_laws.call_untouched

  -- the points of an accepted file, each 600 times a corner, are those of the ring
  pub chain-corners : (f : Found) → ReadCall file before (Ok f) after
      → (little : Bool) × HasCorners little file (ring_of file) × IsRing (ring_of file)
  chain-corners f = file_call_laws.chain-corners

  -- the chain's walk from the start passes exactly these points in their order and ends where it began; "bytes after the chain
  -- are unchanged"
  pub chain_follows : (f : Found) → ReadCall file before (Ok f) after → RingPassed file before f after
  chain_follows f = trip_laws.read_follows file before f after

  -- the file in the other byte order gives the same answer and the same chain
  pub chain-twin : (little : Bool) (r : Given) → Headed little file → ReadCall file before r after
      → ReadCall (twin_of file) before r after
  chain-twin little r = twin_laws.twin-read little file before r after

module _ (s : Corner) (ds out : List ℕ) (n : ℕ) (out' chain : List ℕ) (r : Given) (chain' : List ℕ)
    (w : PolygonCall s ds out (Ok n) out') (c : ReadCall (take n out') chain r chain') where
  -- "reading what was written gives back start and chain", for every room and every start
  pub round_trip : length ds ≤ length chain
      → (r ≡ Ok (record { start = s; steps = length ds })) × (chain' ≡ ds ++ drop (length ds) chain)
  round_trip = trip_laws.round_trip s ds out n out' chain r chain' w c

  -- with a shorter chain buffer it is refused 18
  pub round_trip_short : length chain < length ds → (r ≡ Err ChainRoom) × (chain' ≡ chain)
  round_trip_short = trip_laws.round_trip_short s ds out n out' chain r chain' w c
