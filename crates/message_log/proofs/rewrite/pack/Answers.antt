-- The loop keeps that the records left, packed from here on, give the whole (`Packing`).
use mathlib.Core.List.{[]}
use native.Mathlib.Omega.{arith}
use Rattle.message_log.proofs.RewriteLaws.{packing_ends, to_be_moved, packed_on}
use Rattle.message_log.proofs.TableLaws.{last_row}
use Rattle.message_log.proofs.rewrite.pack.Goals as goal

pub move_to-requires : goal.move_to-requires
move_to-requires c =
    let loop = c.loop-i in
    let moved = to_be_moved loop.invariant c.loop-i-test.true (omega
    (arith, c.loop-i-test.true, c.requires.0, loop.invariant.many)) in
    (moved.1, omega (arith, moved.0, moved.1))

pub overflow_add-to : goal.overflow_add-to
overflow_add-to c =
    let loop = c.loop-i in
    let moved = to_be_moved loop.invariant c.loop-i-test.true (omega
    (arith, c.loop-i-test.true, c.requires.0, loop.invariant.many)) in
    omega (arith, moved.0, moved.1)

pub loop-i-preserved : goal.loop-i-preserved
loop-i-preserved c =
    let loop = c.loop-i in
    packed_on loop.invariant c.loop-i-test.true (omega (
      arith,
      c.loop-i-test.true,
      c.requires.0,
      loop.invariant.many,
    )) _ c.move_to.ensures

pub returns : goal.returns
returns c =
    let all = packing_ends c.loop-i.invariant (last_row [] c.args.records.now c.args.count c.loop-i.i
    c.loop-i-test.false) in
    record { bytes = all.0; table = all.1 }
