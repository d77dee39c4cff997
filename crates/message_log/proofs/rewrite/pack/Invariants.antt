-- The loop keeps that the records left, packed from here on, give the whole (`Packing`).
use Rattle.message_log.proofs.RewriteLaws.{Packing}
use Rattle.message_log.proofs.rewrite.pack.Given as goal

abbrev pub invariant-loop-i : goal.invariant-loop-i
invariant-loop-i l = Packing l.initial.log l.initial.records l.count l.log l.records l.to l.i
