-- `overlay_call::fill_short` meets its contract.
use native.Mathlib.Omega.{arith}
use mathlib.Core.Path.{sym, ap, ◌∙◌}
use Prim.Native.Nat.{ℕ}
use lib.ListN.{take}
use lib.Seq.{length-take-le}
use Rattle.overlay_call.proofs.ListLaws.{lists_taken}
use Rattle.overlay_call.proofs.fill_short.Goals as goal

pub narrow-requires : goal.narrow-requires
narrow-requires c =
    let f = c.fill-n in
    let h = f.ensures in
    let size = length-take-le f.result f.new.list h.within in
    (λ k l. h.spans.numbers.small k (omega (arith, l, size, h.whole)), omega (arith, size, h.spans.short, h.whole, c.requires.0))

pub returns : goal.returns
returns c =
    let f = c.fill-n in
    let h = f.ensures in
    let n = c.narrow in
    let size = length-take-le f.result f.new.list h.within in
    lists_taken c.args.room.now.start c.args.room.now.chain.now f.new.list n.new.out f.result h
    (ap (λ (k : ℕ). take k n.new.out) (sym size) ∙ n.ensures) (omega (arith, size, h.spans.short, h.whole, c.requires.0, n.auto.out))
