-- The loop keeps that the steps left give the whole (`GoingDown`).
use Rattle.std.proofs.Common.{◌≡◌, ◌/◌}
use Rattle.moves.proofs.MoveLaws.{GoingDown}
use Rattle.moves.proofs.eights_down.Given as goal

abbrev pub invariant-loop-k : goal.invariant-loop-k
invariant-loop-k l = record {
  counted : l.count ≡ l.k;
  going : GoingDown 8 (l.n / 8) l.initial.bytes l.from l.to l.bytes l.k;
}
