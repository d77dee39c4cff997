-- The loop keeps that the rows left, poured from here on, give the whole.
use Rattle.wire.specs.Output.{output_with}
use Rattle.wire.proofs.OutputLaws.{rows_more, rows_end}
use Rattle.wire.proofs.output.output_rows.Goals as goal

pub loop-row-preserved : goal.loop-row-preserved
loop-row-preserved g c =
    let l = c.loop-row in
    rows_more _ l.row-index (output_with l.out l.e.at l.e.code) c.loop-row-test.true c.row-item.result c.row-item.is
    c.output_numbers-e.ensures l.invariant

pub returns : goal.returns
returns g c = rows_end _ _ c.loop-row-test.false c.loop-row.invariant
