-- `play::run_calls` meets its contract: the calls from p on, run from here, give the whole (`Running`). Assumes nothing.
use Rattle.std.proofs.Common.{◌≡◌, ◌-◌, length}
use Rattle.replay.specs.Replay.{play, calls_at, lent_state}
use Rattle.replay.proofs.PlayLaws.{Running}
use Rattle.replay.proofs.play.run_calls.Given as goal

abbrev pub invariant-loop-e : goal.invariant-loop-e
invariant-loop-e l =
    (length l.log ≡ length l.initial.log) ×
    (length l.store ≡ length l.initial.store) ×
    (length l.out ≡ length l.initial.out) ×
    Running
    (play l.show (lent_state l.initial.t l.initial.log l.initial.store)
    (record { out = l.initial.out; at = l.initial.e.at; code = l.initial.e.code })
    (calls_at (length l.script) l.script l.start))
    l.show l.script (lent_state l.t l.log l.store)
    (record { out = l.out; at = l.e.at; code = l.e.code }) l.p

abbrev pub decreases-loop-e : goal.decreases-loop-e
decreases-loop-e l = length l.script - l.p
