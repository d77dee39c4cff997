-- The loop keeps that the steps left give the whole (`GoingDown`).
use Rattle.std.proofs.Common.{refl, arith}
use Rattle.moves.proofs.MoveLaws.{down_one_more, down_ends}
use Rattle.moves.proofs.eights_down.Goals as goal

pub loop-k-preserved : goal.loop-k-preserved
loop-k-preserved c = record {
  counted = omega arith;
  going = down_one_more c.loop-k.invariant.going _ _ _ c.loop-k-test.true refl refl c.move_eight.ensures;
}

pub returns-clause-bytes : goal.returns-clause-bytes
returns-clause-bytes c = down_ends c.loop-k.invariant.going c.loop-k-test.false
