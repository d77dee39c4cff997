-- The loop keeps that the rows left, stored from this entry on, give the whole (`Storing`).
use Rattle.message_log.proofs.StoreLaws.{Storing}
use Rattle.message_log.proofs.opening.store_rows.Given as goal

abbrev pub invariant-loop-i : goal.invariant-loop-i
invariant-loop-i l = Storing l.file l.rows l.initial.store l.initial.left l.store l.left l.i
