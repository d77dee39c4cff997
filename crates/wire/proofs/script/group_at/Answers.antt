-- Each number stands at its place.
use Rattle.std.proofs.Common.{arith}
use Rattle.wire.proofs.NumberLaws.{numbers_said}
use Rattle.wire.proofs.script.group_at.Goals as goal

pub returns : goal.returns
returns c =
    numbers_said 37 c.args.s.now c.args.from c.loop-i.row c.loop-i.invariant.long (λ k h. c.loop-i.invariant.read k
    (omega arith))
