-- The loop keeps that the single steps left give the whole (`GoingDown`).
use Rattle.std.proofs.Common.{◌+◌, arith}
use Rattle.moves.proofs.MoveLaws.{down_inside, down_one_more, down_ends, single_is}
use Rattle.moves.proofs.singles_down.Goals as goal

pub loop-k-preserved : goal.loop-k-preserved
loop-k-preserved c =
    let going = c.loop-k.invariant.going in
    let from = c.args.from + c.loop-k.k in
    let to = c.args.to + c.loop-k.k in
    let inside = down_inside going c.loop-k-test.true in
    record {
      counted = omega arith;
      going = down_one_more going from to _ c.loop-k-test.true (omega arith) (omega arith) (single_is c.loop-k.bytes
          from to (omega arith) (omega arith));
    }

pub returns-clause-bytes : goal.returns-clause-bytes
returns-clause-bytes c = down_ends c.loop-k.invariant.going c.loop-k-test.false
