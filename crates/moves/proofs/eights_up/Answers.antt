-- The loop keeps that the steps left give the whole (`GoingUp`).
use Rattle.std.proofs.Common.{arith}
use Rattle.moves.proofs.MoveLaws.{up_one_more, up_ends}
use Rattle.moves.proofs.eights_up.Goals as goal

pub loop-k-preserved : goal.loop-k-preserved
loop-k-preserved c = record {
  counted = omega arith;
  going = up_one_more c.loop-k.invariant.going _ _ _ (omega arith) (omega arith) (omega arith) c.move_eight.ensures;
}

pub returns : goal.returns
returns c = record { bytes = up_ends c.loop-k.invariant.going (omega arith); count = omega arith }
