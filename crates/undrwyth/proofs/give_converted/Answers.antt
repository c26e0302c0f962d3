-- `undrwyth::give_converted` meets its contract.
use mathlib.Core.List.{List}
use mathlib.Core.Path.{ap}
use Prim.Native.Nat.{ℕ}
use lib.ListN.{length, get_or}
use Rattle.undrwyth.proofs.BoundaryLaws.{turns_fit}
use Rattle.undrwyth.proofs.give_converted.Goals as goal

pub turns_words-words-requires : goal.turns_words-words-requires
turns_words-words-requires c =
    let a = c.args in
    turns_fit a.digits.now (length a.out.now) c.convert-j.result c.convert-j.ensures.answer

pub returns : goal.returns
returns c =
    record { answer = c.convert-j.result; converted = c.convert-j.ensures; words_are = c.turns_words-words.ensures; result = ap (λ (l : List ℕ). get_or l 0 0) c.turns_words-words.ensures }
