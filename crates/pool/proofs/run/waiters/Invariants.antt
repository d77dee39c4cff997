-- The loop of `run::waiters`.
use Rattle.std.specs.Prelude.{◌≡◌, false}
use Rattle.pool.specs.Run.{waiters_from}
use Rattle.pool.proofs.run.waiters.Given as goal

-- the waiting lists of the groups below g are empty
abbrev pub invariant-loop-g : goal.invariant-loop-g
invariant-loop-g l = waiters_from l.keys l.g ≡ false
