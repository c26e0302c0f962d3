-- Where a word of a record stands in the table.
-- Assumes nothing.
use mathlib.Core.List.{List, [], ◌∷◌}
use mathlib.Core.Path.{◌≡◌, refl, ◌∙◌}
use Prim.Native.Nat.{ℕ, zero, suc, ◌+◌, ◌*◌, ◌<◌}
use native.Mathlib.Omega.{arith}
use lib.ListN.{length, get_or, length-append, get_or-append}
use lib.Seq.{get_or-append-add}
use Rattle.grid.specs.declared.Corner.{Corner}
use Rattle.layout.specs.Table.{width, word_at, record_of, records_of}

pub length-records : (ps ns l : List Corner) → length (records_of ps ns l) ≡ width * length l
length-records ps ns [] = refl
length-records ps ns (a ∷ l) = omega (arith, length-append (record_of ps ns a) (records_of ps ns l), length-records ps ns l)

-- word w of record i among the words of the records
pub word_at_lem : (ps ns l : List Corner) (i w : ℕ) (z : Corner) → i < length l → w < width → get_or (records_of ps ns l) (word_at i w) 0 ≡ get_or (record_of ps ns (get_or l i z)) w 0
word_at_lem ps ns [] i w z h k = absurd (omega arith)
word_at_lem ps ns (a ∷ l) zero w z h k =
    let e : word_at 0 w ≡ w = omega arith in
    rw e (get_or-append (record_of ps ns a) (records_of ps ns l) 0 w k)
word_at_lem ps ns (a ∷ l) (suc i) w z h k =
    let e : word_at (suc i) w ≡ width + word_at i w = omega arith in
    rw e (get_or-append-add (record_of ps ns a) (records_of ps ns l) (word_at i w) 0 ∙ word_at_lem ps ns l i w z (omega arith) k)
