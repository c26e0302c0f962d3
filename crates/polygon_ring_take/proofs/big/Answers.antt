-- `polygon_ring_take::big` meets its contract.
use mathlib.Core.Path.{refl, ap, ◌∙◌}
use mathlib.Core.List.{List, reverse}
use Prim.Native.Nat.{ℕ, ◌+◌, ◌*◌, ◌^◌, ◌≤◌, ◌<◌}
use native.Mathlib.Omega.{arith}
use lib.ListN.{length, get_or}
use lib.Seq.{take_all}
use Rattle.polygon_ring.specs.Bytes.{number_of, number_in}
use Rattle.polygon_ring_laws.proofs.NumberLaws.{big_more, grows, fits_eight}
use Rattle.polygon_ring_take.proofs.big.Invariants.{Read}
use Rattle.polygon_ring_take.proofs.big.Goals as goal

next : (s : List ℕ) (v i : ℕ) → i < length s → get_or s i 0 < 256 → Read s v i → Read s (v * 256 + get_or s i 0) (i + 1)
next s v i p h r = record { within = omega arith; small = grows v (get_or s i 0) i r.small h; is = big_more s i v p r.is }

room : (s : List ℕ) (v i d : ℕ) → length s ≤ 8 → i < length s → d < 256 → Read s v i → v * 256 + d < 2 ^ 64
room s v i d l p h r = fits_eight (v * 256 + d) (i + 1) (omega arith) (grows v d i r.small h)

pub loop-d-init : goal.loop-d-init
unfolding number_of
loop-d-init c = record { within = omega arith; small = omega arith; is = refl }

pub overflow_mul-v : goal.overflow_mul-v
overflow_mul-v c = record { fits = omega (arith, room _ _ _ 0 c.requires c.loop-d-test.true (omega arith) c.loop-d.invariant) }

pub overflow_add-v : goal.overflow_add-v
overflow_add-v c =
    rw c.from.ensures (record { fits = room _ _ _ _ c.requires c.loop-d-test.true (c.type_inv.s c.loop-d.d-index).fits c.loop-d.invariant })

pub loop-d-preserved : goal.loop-d-preserved
loop-d-preserved c = rw c.from.ensures (next _ _ _ c.loop-d-test.true (c.type_inv.s c.loop-d.d-index).fits c.loop-d.invariant)

pub returns : goal.returns
unfolding number_in
returns c =
    let e : length c.args.s.now ≤ c.loop-d.d-index = omega arith in
    c.loop-d.invariant.is ∙ ap (λ (z : List ℕ). number_of (reverse z)) (take_all c.loop-d.d-index c.args.s.now e)
