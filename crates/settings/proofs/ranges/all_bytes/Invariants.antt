-- `ranges::all_bytes` meets its contract: the cells from the loop's on give what all of them do.
use Rattle.std.proofs.Common.{◌≡◌, drop}
use Rattle.settings.specs.Ranges.{all_bytes}
use Rattle.settings.proofs.ranges.all_bytes.Given as goal

abbrev pub invariant-loop-b : goal.invariant-loop-b
invariant-loop-b l = all_bytes (drop l.b-index l.b-items) ≡ all_bytes (drop 5 l.row)
