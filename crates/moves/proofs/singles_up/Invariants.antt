-- The loop keeps that the single steps left give the whole (`GoingUp`).
use Rattle.std.proofs.Common.{◌≡◌, ◌+◌}
use Rattle.moves.proofs.MoveLaws.{GoingUp}
use Rattle.moves.proofs.singles_up.Given as goal

abbrev pub invariant-loop-left : goal.invariant-loop-left
invariant-loop-left l = record {
  counted : l.count + l.left ≡ l.n;
  going : GoingUp 1 l.n l.initial.bytes l.from l.to l.bytes l.count;
}
