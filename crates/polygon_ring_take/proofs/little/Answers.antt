-- `polygon_ring_take::little` meets its contract.
use mathlib.Core.Path.{◌≡◌, sym, ap, ◌∙◌, subst}
use mathlib.Core.List.{List}
use Prim.Native.Nat.{ℕ, ◌+◌, ◌-◌, ◌*◌, ◌^◌, ◌≤◌, ◌<◌}
use native.Mathlib.Omega.{arith}
use lib.ListN.{length, drop, get_or}
use Rattle.polygon_ring.specs.Bytes.{number_of, number_in}
use Rattle.polygon_ring_laws.proofs.NumberLaws.{little_first, little_more, grows, fits_eight}
use Rattle.polygon_ring_take.proofs.little.Invariants.{Read}
use Rattle.polygon_ring_take.proofs.little.Goals as goal

first : (s : List ℕ) → Read s 0 (length s)
first s =
    let e : length s - length s ≡ 0 = omega arith in
    record { within = omega arith; small = subst (λ (n : ℕ). 0 < 256 ^ n) (sym e) (omega arith); is = little_first s }

next : (s : List ℕ) (v i : ℕ) → 0 < i → get_or s (i - 1) 0 < 256 → Read s v i → Read s (v * 256 + get_or s (i - 1) 0) (i - 1)
next s v i p h r =
    let e : length s - i + 1 ≡ length s - (i - 1) = omega arith in
    record {
      within = omega arith;
      small = subst (λ (n : ℕ). v * 256 + get_or s (i - 1) 0 < 256 ^ n) e (grows v (get_or s (i - 1) 0) (length s - i) r.small h);
      is = little_more s i v p r.within r.is;
    }

room : (s : List ℕ) (v i d : ℕ) → length s ≤ 8 → 0 < i → d < 256 → Read s v i → v * 256 + d < 2 ^ 64
room s v i d l p h r = fits_eight (v * 256 + d) (length s - i + 1) (omega arith) (grows v d (length s - i) r.small h)

pub loop-i-init : goal.loop-i-init
loop-i-init c = first c.args.s.now

pub overflow_mul-v : goal.overflow_mul-v
overflow_mul-v c = record { fits = omega (arith, room _ _ _ 0 c.requires c.loop-i-test.true (omega arith) c.loop-i.invariant) }

pub overflow_add-v : goal.overflow_add-v
overflow_add-v c =
    rw c.from.ensures (record { fits = room _ _ _ _ c.requires c.loop-i-test.true (c.type_inv.s (c.loop-i.i - 1)).fits c.loop-i.invariant })

pub loop-i-preserved : goal.loop-i-preserved
loop-i-preserved c = rw c.from.ensures (next _ _ _ c.loop-i-test.true (c.type_inv.s (c.loop-i.i - 1)).fits c.loop-i.invariant)

pub returns : goal.returns
unfolding number_in
returns c =
    let e : c.loop-i.i ≡ 0 = omega arith in
    c.loop-i.invariant.is ∙ ap (λ (n : ℕ). number_of (drop n c.args.s.now)) e
