-- The loop keeps that the search that is left, from `lo` on and below `hi`, finds what the whole search finds.
use Prim.Native.Nat.{◌≤◌, ◌-◌}
use lib.ListN.{length, take}
use Rattle.message_log.proofs.SearchLaws.{Left}
use Rattle.message_log.proofs.table.search_row.Given as goal

abbrev pub invariant-loop-lo : goal.invariant-loop-lo
invariant-loop-lo l = (l.hi ≤ length l.rows) × Left l.id (take l.count l.rows) l.lo l.hi

abbrev pub decreases-loop-lo : goal.decreases-loop-lo
decreases-loop-lo l = l.hi - l.lo
