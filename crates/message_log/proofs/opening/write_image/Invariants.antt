-- The loop keeps that the messages left, written from here on, give the whole (`Imaging`).
use Rattle.message_log.proofs.StoreLaws.{Imaging}
use Rattle.message_log.proofs.opening.write_image.Given as goal

abbrev pub invariant-loop-i : goal.invariant-loop-i
invariant-loop-i l = Imaging l.initial.log l.initial.records l.store l.left l.log l.records l.p l.i
