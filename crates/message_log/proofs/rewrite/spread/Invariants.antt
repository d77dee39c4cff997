-- The loop keeps that the records from place i on stand where they are to stand (`Spreading`).
use Rattle.message_log.proofs.RewriteLaws.{Spreading}
use Rattle.message_log.proofs.rewrite.spread.Given as goal

abbrev pub invariant-loop-i : goal.invariant-loop-i
invariant-loop-i l = Spreading l.initial.log l.initial.records l.count l.log l.records l.to l.i
