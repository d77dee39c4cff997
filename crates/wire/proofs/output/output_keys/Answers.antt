-- The loop keeps that the rows left, poured from here on, give the whole.
use Rattle.wire.specs.Output.{output_with}
use Rattle.wire.proofs.OutputLaws.{keys_more, keys_end}
use Rattle.wire.proofs.output.output_keys.Goals as goal

pub loop-row-preserved : goal.loop-row-preserved
loop-row-preserved c =
    let l = c.loop-row in
    keys_more _ l.row-index (output_with l.out l.e.at l.e.code) c.loop-row-test.true c.output_bytes-e.ensures
    l.invariant

pub returns : goal.returns
returns c = keys_end _ _ c.loop-row-test.false c.loop-row.invariant
