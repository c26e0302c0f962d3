-- `sheet_cells::spell_empty` meets its contract.
use mathlib.Core.Path.{◌≡◌, ap, ◌∙◌}
use Prim.Native.Nat.{ℕ, ◌+◌, ◌-◌}
use native.Mathlib.Omega.{arith}
use lib.ListN.{length, take, drop, replicate, length-drop}
use lib.Seq.{length-take-le}
use Rattle.line_fields.proofs.PutLaws.{wrote_mid}
use Rattle.sheet.specs.Entry.{empty_cells}
use Rattle.sheet.proofs.SizeLaws.{length-empty_cells}
use Rattle.sheet_cells.proofs.CellLaws.{empty_all}
use Rattle.sheet_cells.proofs.spell_empty.Goals as goal

pub returns : goal.returns
returns c =
    let a = c.args in
    let n : a.at + a.k - a.at ≡ a.k = omega arith in
    let l : length (take (a.at + a.k - a.at) (drop a.at a.out.now)) ≡ a.k =
    length-take-le (a.at + a.k - a.at) (drop a.at a.out.now) (omega (arith, length-drop a.at a.out.now)) ∙ n in
    let e : c.fill.new.self ≡ empty_cells a.k = c.fill.ensures.after (λ y h. h) ∙ ap (λ (m : ℕ). replicate m 44) l ∙ empty_all a.k in
    rw (e, n) (wrote_mid (empty_cells a.k) a.at a.k a.out.now (length-empty_cells a.k))
