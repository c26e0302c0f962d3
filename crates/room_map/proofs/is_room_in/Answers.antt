-- `room_map::is_room_in` meets its contract.
use Rattle.std.proofs.Common.{subst, arith}
use Rattle.lists.proofs.BoolLaws.{not-true, not-false}
use Rattle.room_thread_laws.specs.Threads.{Closes}
use Rattle.room_thread_laws.proofs.RoomLaws.{told_short}
use Rattle.room_map.proofs.MapLaws.{size_few, box_fits, box_told, box_open}
use Rattle.room_map.proofs.is_room_in.Goals.{then-chain-lt4-via-then-chain-lt4, then-chain-lt4-via-else-chain-lt4+then-not-b}
use Rattle.room_map.proofs.is_room_in.Goals as goal

pub returns-then-chain-lt4 : goal.returns-then-chain-lt4
returns-then-chain-lt4 c =
    elim c.then-chain-lt4.branch [
      | then-chain-lt4-via-then-chain-lt4 w ↦ told_short c.args.chain.now w.if-chain-lt4.true
      | then-chain-lt4-via-else-chain-lt4+then-not-b w ↦ box_open c.requires.0 c.requires.1 (not-true c.args.b.closed w.if-not-b.true)
    ]

pub overflow_mul-size : goal.overflow_mul-size
overflow_mul-size c =
    record { fits = omega (arith, size_few c.requires.0 c.requires.1) }

pub lone_sized-requires : goal.lone_sized-requires
lone_sized-requires c =
    (box_fits c.requires.0 c.requires.1 256 (omega arith), omega arith)

pub returns-then-size-le-SMALL : goal.returns-then-size-le-SMALL
returns-then-size-le-SMALL c =
    box_told c.requires.0 c.requires.1 c.lone_sized.result (omega arith) (not-false c.args.b.closed c.if-not-b.false) c.lone_sized.ensures

pub lone_sized-requires-then-size-le-NARROW : goal.lone_sized-requires-then-size-le-NARROW
lone_sized-requires-then-size-le-NARROW c =
    (box_fits c.requires.0 c.requires.1 2048 (omega arith), omega arith)

pub returns-then-size-le-NARROW : goal.returns-then-size-le-NARROW
returns-then-size-le-NARROW c =
    box_told c.requires.0 c.requires.1 c.lone_sized-then-size-le-NARROW.result (omega arith) (not-false c.args.b.closed c.if-not-b.false) c.lone_sized-then-size-le-NARROW.ensures

pub lone_sized-requires-then-size-le-WIDER : goal.lone_sized-requires-then-size-le-WIDER
lone_sized-requires-then-size-le-WIDER c =
    (box_fits c.requires.0 c.requires.1 16384 (omega arith), omega arith)

pub returns-then-size-le-WIDER : goal.returns-then-size-le-WIDER
returns-then-size-le-WIDER c =
    box_told c.requires.0 c.requires.1 c.lone_sized-then-size-le-WIDER.result (omega arith) (not-false c.args.b.closed c.if-not-b.false) c.lone_sized-then-size-le-WIDER.ensures

pub lone_sized-requires-then-size-le-WIDEST : goal.lone_sized-requires-then-size-le-WIDEST
lone_sized-requires-then-size-le-WIDEST c =
    (box_fits c.requires.0 c.requires.1 131072 (omega arith), omega arith)

pub returns-then-size-le-WIDEST : goal.returns-then-size-le-WIDEST
returns-then-size-le-WIDEST c =
    box_told c.requires.0 c.requires.1 c.lone_sized-then-size-le-WIDEST.result (omega arith) (not-false c.args.b.closed c.if-not-b.false) c.lone_sized-then-size-le-WIDEST.ensures

pub is_room-requires : goal.is_room-requires
is_room-requires c =
    (omega arith, c.requires.0.short, subst (Closes c.args.chain.now) (not-false c.args.b.closed c.if-not-b.false) c.requires.1.round, c.requires.0.digits)
