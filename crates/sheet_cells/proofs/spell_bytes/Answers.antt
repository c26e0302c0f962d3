-- `sheet_cells::spell_bytes` meets its contract.
use native.Mathlib.Omega.{arith}
use lib.ListN.{get_or}
use Rattle.line_frame.proofs.HexLaws.{length-hex_of}
use Rattle.sheet_cells.proofs.CellLaws.{bytes-none, bytes_next, bytes-all}
use Rattle.sheet_cells.proofs.spell_bytes.Goals as goal

pub loop-b-init : goal.loop-b-init
loop-b-init c = (omega arith, bytes-none c.args.s.now c.args.at c.args.out.now)

pub loop-b-preserved : goal.loop-b-preserved
loop-b-preserved c =
    let a = c.args in
    let l = c.loop-b in
    let r = c.spell_byte-next in
    (omega (arith, r.ensures.end, length-hex_of 2 (get_or a.s.now l.b-index 0)), bytes_next a.s.now l.b-index a.at (omega arith) (omega arith) l.invariant.1 r.ensures)

pub returns : goal.returns
returns c =
    let l = c.loop-b in
    bytes-all c.args.s.now l.b-index c.args.at (omega arith) (omega arith) l.invariant.1
