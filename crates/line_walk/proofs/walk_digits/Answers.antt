-- `line_walk::walk_digits` meets its contract.
use mathlib.Core.Path.{◌≡◌, sym, ap, ◌∙◌}
use Prim.Native.Nat.{ℕ, ◌*◌}
use native.Mathlib.Omega.{arith}
use borrow.Author.Rules.{rules}
use lib.ListN.{length, take, drop, replicate}
use lib.Seq.{length-take-le}
use Rattle.layout.specs.Marks.{mark_words}
use Rattle.layout.specs.Table.{width}
use Rattle.line_frame.specs.Sizes.{most_digits}
use Rattle.line_frame.specs.Line.{digits_of}
use Rattle.line_frame.proofs.LineLaws.{length-digits_of}
use Rattle.line_fields.proofs.PutLaws.{take-put-start}
use Rattle.line_walk.proofs.ClearLaws.{clear_length, clear_zero, cleared_by}
use Rattle.line_walk.proofs.WalkLaws.{walk_handed}
use Rattle.line_walk.proofs.walk_digits.Goals as goal

pub slice_bounds-follow_clear-end : goal.slice_bounds-follow_clear-end
slice_bounds-follow_clear-end c =
    let d = c.copy_digits in
    sym (length-take-le c.args.n d.new.buf (omega (arith, d.auto.buf, c.requires.n_le_most_digits)))

pub slice_bounds-follow_clear-end-3 : goal.slice_bounds-follow_clear-end-3
slice_bounds-follow_clear-end-3 c =
    sym (length-take-le (mark_words * c.args.n) c.args.marks.now
    (omega (arith, c.requires.n_le_most_digits, c.requires.walk_buffers.marks)))

pub slice_bounds-follow_clear-end-5 : goal.slice_bounds-follow_clear-end-5
slice_bounds-follow_clear-end-5 c =
    sym (length-take-le c.args.n c.args.chain.now
    (omega (arith, c.requires.n_le_most_digits, c.requires.walk_buffers.chain)))

pub follow_clear-a-requires : goal.follow_clear-a-requires
follow_clear-a-requires c = clear_zero c.requires.walk_buffers.table

pub overflow_mul-used : goal.overflow_mul-used
overflow_mul-used c =
    let f = c.follow_clear-a in
    let l : length f.new.t ≡ length c.args.table.now = search rules in
    let h = (cleared_by f.ensures c.requires.walk_buffers.table l c.records-used.result c.records-used.ensures).0 in
    search (rules, h, l, clear_length c.requires.walk_buffers.table)

pub slice_bounds-zero-end : goal.slice_bounds-zero-end
slice_bounds-zero-end c =
    let f = c.follow_clear-a in
    let l : length f.new.t ≡ length c.args.table.now = search rules in
    (cleared_by f.ensures c.requires.walk_buffers.table l c.records-used.result c.records-used.ensures).0

pub slice_bounds-zero-end-2 : goal.slice_bounds-zero-end-2
slice_bounds-zero-end-2 c =
    let f = c.follow_clear-a in
    let r = c.records-used in
    let l : length f.new.t ≡ length c.args.table.now = search rules in
    sym (length-take-le (width * r.result) f.new.t
    (cleared_by f.ensures c.requires.walk_buffers.table l r.result r.ensures).0)

pub returns : goal.returns
returns c =
    let z = c.zero in
    let r = c.records-used in
    let f = c.follow_clear-a in
    let d = c.copy_digits in
    let a = c.args in
    let n = a.n in
    let e : take n d.new.buf ≡ digits_of a.s.now = ap (take n) d.ensures
    ∙ take-put-start (digits_of a.s.now) (replicate most_digits 0) n (length-digits_of a.s.now n c.requires.n_le_most_digits.1)
    (omega (arith, c.requires.n_le_most_digits)) in
    let l : length (take n d.new.buf) ≡ n = length-take-le n d.new.buf
    (omega (arith, d.auto.buf, c.requires.n_le_most_digits)) in
    let m = length-take-le (mark_words * n) a.marks.now (omega (arith, c.requires.n_le_most_digits, c.requires.walk_buffers.marks)) in
    let h = length-take-le n a.chain.now (omega (arith, c.requires.n_le_most_digits, c.requires.walk_buffers.chain)) in
    let w : length f.new.t ≡ length a.table.now = search rules in
    record {
      walked_by = walk_handed f.ensures (clear_length c.requires.walk_buffers.table) (m ∙ ap (λ (k : ℕ). mark_words * k) (sym l)) (h ∙ sym l) (omega (arith, l, c.requires.n_le_most_digits)) (drop n a.chain.now) (digits_of a.s.now) e;
      clear = (cleared_by f.ensures c.requires.walk_buffers.table w r.result r.ensures).1 z.new.t z.ensures;
    }
