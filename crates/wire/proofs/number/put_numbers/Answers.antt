-- The loop keeps that the numbers left, written from here on, give the whole.
use Rattle.std.proofs.Common.{arith}
use Rattle.text.proofs.WriteLaws.{begin, further, finish}
use Rattle.wire.proofs.NumberLaws.{numbers_more, numbers_end, numbers_room}
use Rattle.wire.proofs.number.put_numbers.Goals as goal

pub loop-n-init : goal.loop-n-init
loop-n-init c = begin _ _ _ c.requires

pub put_number-p-requires : goal.put_number-p-requires
put_number-p-requires c = omega (arith, numbers_room c.args.ns.now c.loop-n.n-index c.loop-n-test.true)

pub loop-n-preserved : goal.loop-n-preserved
loop-n-preserved c =
    further c.loop-n.invariant (numbers_more c.args.ns.now c.loop-n.n-index c.loop-n-test.true) c.put_number-p.ensures

pub returns : goal.returns
returns c = finish c.loop-n.invariant (numbers_end _ _ c.loop-n-test.false)
