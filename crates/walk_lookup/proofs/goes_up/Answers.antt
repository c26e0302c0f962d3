-- `walk_lookup::goes_up` meets its contract.
use mathlib.Core.Bool.{Bool, true, false, ◌&&◌}
use mathlib.Core.Path.{◌≡◌, sym, ◌∙◌}
use native.Mathlib.Omega.{arith}
use borrow.Author.Tests.{eq-eqb, ne_eqb}
use lib.Dec.{eqb}
use lib.ListN.{get_or}
use Rattle.layout.specs.Table.{word_at, neighbour_word}
use Rattle.walk_corner.specs.Moves.{parted_by}
use Rattle.walk_lookup.proofs.goes_up.Goals as goal

stops : (a b : Bool) → a ≡ false → false ≡ a && b
stops a b e = rw e

goes : (a b r : Bool) → a ≡ true → r ≡ b → r ≡ a && b
goes a b r e f = rw e f

pub returns-then-beside-ne0 : goal.returns-then-beside-ne0
returns-then-beside-ne0 c =
    let a = c.args in
    stops (eqb (get_or a.t.now (word_at a.u (neighbour_word a.d)) 0) 0) (parted_by a.d a.c)
    (ne_eqb (get_or a.t.now (word_at a.u (neighbour_word a.d)) 0) 0 (λ z. c.if-beside-ne0.true (c.word-beside.ensures ∙ z)))

pub returns : goal.returns
returns c =
    let a = c.args in
    let w = c.word-beside in
    let z : w.result ≡ 0 = omega (arith, c.if-beside-ne0.false) in
    goes (eqb (get_or a.t.now (word_at a.u (neighbour_word a.d)) 0) 0) (parted_by a.d a.c) c.parted.result
    (eq-eqb (get_or a.t.now (word_at a.u (neighbour_word a.d)) 0) 0 (sym w.ensures ∙ z)) c.parted.ensures
