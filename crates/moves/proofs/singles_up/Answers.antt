-- The loop keeps that the single steps left give the whole (`GoingUp`).
use Rattle.std.proofs.Common.{◌+◌, ◌-◌, arith}
use Rattle.moves.proofs.MoveLaws.{up_one_more, up_ends, single_is}
use Rattle.moves.proofs.singles_up.Goals as goal

pub loop-left-preserved : goal.loop-left-preserved
loop-left-preserved c =
    let going = c.loop-left.invariant.going in
    let from = c.args.from + (c.loop-left.left - 1) in
    let to = c.args.to + (c.loop-left.left - 1) in
    record {
      counted = omega arith;
      going = up_one_more going from to _ (omega arith) (omega arith) (omega arith) (single_is c.loop-left.bytes from to
          (omega (arith, going.room, going.high)) (omega (arith, going.room)));
    }

pub returns : goal.returns
returns c = record { bytes = up_ends c.loop-left.invariant.going (omega arith); count = omega arith }
