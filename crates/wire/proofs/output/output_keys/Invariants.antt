-- The loop keeps that the rows left, poured from here on, give the whole.
use Rattle.std.proofs.Common.{◌≡◌, drop}
use Rattle.wire.specs.Output.{output_with, output_keys}
use Rattle.wire.proofs.output.output_keys.Given as goal

abbrev pub invariant-loop-row : goal.invariant-loop-row
invariant-loop-row l =
    output_keys (output_with l.out l.e.at l.e.code) (drop l.row-index l.t)
    ≡ output_keys (output_with l.initial.out l.initial.e.at l.initial.e.code) l.t
