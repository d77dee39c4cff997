-- The loop keeps that the rows left, poured from here on, give the whole.
use Rattle.std.proofs.Common.{◌≡◌, drop}
use Rattle.wire.specs.Output.{output_with, output_rows}
use Rattle.wire.proofs.output.output_rows.Given as goal

abbrev pub invariant-loop-row : goal.invariant-loop-row
invariant-loop-row g l =
    output_rows (output_with l.out l.e.at l.e.code) (drop l.row-index l.rows)
    ≡ output_rows (output_with l.initial.out l.initial.e.at l.initial.e.code) l.rows
