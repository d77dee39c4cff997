-- The numbers below `i` are read.
use Rattle.std.proofs.Common.{◌≡◌, ℕ, ◌+◌, ◌*◌, ◌<◌, length, get_or}
use Rattle.wire.specs.Number.{number_at}
use Rattle.wire.proofs.script.group_at.Given as goal

abbrev pub invariant-loop-i : goal.invariant-loop-i
invariant-loop-i l = record {
  long : length l.row ≡ 37;
  read : (k : ℕ) → k < l.i → get_or l.row k 0 ≡ number_at l.s (l.from + 8 * k);
}
