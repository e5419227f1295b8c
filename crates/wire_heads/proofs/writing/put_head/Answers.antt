-- The test for room is the one that `put_whole` makes; the first byte and the argument behind it are the head.
use native.Mathlib.Omega.{arith}
use lib.ListN.{length-set}
use Rattle.wire_heads.proofs.Widths.{info_small}
use Rattle.wire_heads.proofs.HeadSteps.{fits, head-stored, head-not_stored, no_major}
use Rattle.wire_heads.proofs.writing.put_head.Goals as goal

pub overflow_add-out : goal.overflow_add-out
overflow_add-out c = omega (arith, c.info_of-info.ensures, info_small c.args.arg)

pub overflow_cast-out : goal.overflow_cast-out
overflow_cast-out c = omega (arith, c.info_of-info.ensures, info_small c.args.arg, c.if-major-lt8.true)

pub bounds-out-at : goal.bounds-out-at
bounds-out-at c =
    omega (arith, fits c.args.out.now c.args.at c.args.arg _ _ c.head_len-len.ensures c.has_room.ensures c.if-has_room.true)

pub put_argument-requires : goal.put_argument-requires
put_argument-requires c =
    simp length-set (omega (
      arith,
      fits c.args.out.now c.args.at c.args.arg _ _ c.head_len-len.ensures c.has_room.ensures
          c.if-has_room.true,
    ))

pub returns-then-has_room : goal.returns-then-has_room
returns-then-has_room c =
    let both =
    head-stored c.args.out.now c.args.at c.args.major c.args.arg _ _ c.head_len-len.ensures c.if-major-lt8.true _ c.has_room.ensures
    c.if-has_room.true c.info_of-info.ensures _ c.put_argument.ensures in
    record { value = both.0; out_after = both.1 }

pub returns-else-has_room : goal.returns-else-has_room
returns-else-has_room c =
    let both =
    head-not_stored c.args.out.now c.args.at c.args.major c.args.arg _ 0 c.head_len-len.ensures c.if-major-lt8.true _
    c.has_room.ensures c.if-has_room.false in
    record { value = both.0; out_after = both.1 }

pub returns-else-major-lt8 : goal.returns-else-major-lt8
returns-else-major-lt8 c =
    let both =
    no_major c.args.out.now c.args.at c.args.major c.args.arg c.if-major-lt8.false in
    record { value = both.0; out_after = both.1 }
