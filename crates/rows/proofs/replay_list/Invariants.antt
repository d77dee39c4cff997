-- No more cases than bytes passed, no more answers replayed than cases; the script held lies in its slice.
use Rattle.std.proofs.Common.{◌≤◌, length}
use Rattle.rows.proofs.replay_list.Given as goal

abbrev pub invariant-loop-end : goal.invariant-loop-end
invariant-loop-end g l = (l.n ≤ length l.script) × (l.passed ≤ l.cases) × (l.cases ≤ l.from) × (l.from ≤ l.end)
