-- The loop keeps that what is said of the rows left is said of all (`Measuring`).
use Rattle.message_log.proofs.RewriteLaws.{Measuring}
use Rattle.message_log.proofs.rewrite.image_len.Given as goal

abbrev pub invariant-loop-r : goal.invariant-loop-r
invariant-loop-r l = Measuring l.long l.records l.start l.to l.r-index
