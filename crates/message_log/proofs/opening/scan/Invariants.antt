-- One reader goes over the file, and what each turn keeps is said of the place where it is (proofs/PassLaws).
-- Assumes nothing.
use Rattle.std.proofs.Common.{◌≡◌}
use Rattle.message_log.proofs.PassLaws.{Inv}
use Rattle.message_log.proofs.opening.scan.Given as goal

abbrev pub invariant-loop-from : goal.invariant-loop-from
invariant-loop-from l = (l.from-iterator.log.now ≡ l.file) × Inv l.file l.lo l.from-iterator.at l.p l.rows
