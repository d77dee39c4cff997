-- The loop keeps that the row at the place, if there is one, is not below.
use mathlib.Core.List.{[]}
use Prim.Native.Nat.{◌≤◌, ◌<◌}
use lib.ListN.{get_or}
use Rattle.message_log.specs.Log.{row_id}
use Rattle.message_log.proofs.opening.row_place.Given as goal

abbrev pub invariant-loop-i : goal.invariant-loop-i
invariant-loop-i l = (l.i ≤ l.count) × (l.i < l.count → l.id ≤ row_id (get_or l.rows l.i []))

abbrev pub decreases-loop-i : goal.decreases-loop-i
decreases-loop-i l = l.i
