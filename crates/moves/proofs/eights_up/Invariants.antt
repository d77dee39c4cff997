-- The loop keeps that the steps left give the whole (`GoingUp`).
use Rattle.std.proofs.Common.{◌≡◌, ◌+◌, ◌/◌, ◌%◌}
use Rattle.moves.proofs.MoveLaws.{GoingUp}
use Rattle.moves.proofs.eights_up.Given as goal

abbrev pub invariant-loop-k : goal.invariant-loop-k
invariant-loop-k l = record {
  counted : l.count + l.k ≡ l.n / 8;
  going : GoingUp 8 (l.n / 8) l.initial.bytes (l.from + l.n % 8) (l.to + l.n % 8) l.bytes l.count;
}
