-- `ranges::rows_fit` meets its contract: the rows from the loop's on give what all of them do.
use Rattle.std.proofs.Common.{◌≡◌, drop}
use Rattle.settings.specs.Ranges.{rows_fit}
use Rattle.settings.proofs.ranges.rows_fit.Given as goal

abbrev pub invariant-loop-row : goal.invariant-loop-row
invariant-loop-row l = rows_fit (drop l.row-index l.given) ≡ rows_fit l.given
