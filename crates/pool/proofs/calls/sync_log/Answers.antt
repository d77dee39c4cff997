-- `calls::sync_log` meets its contract: by whether a flush was due. Assumes nothing.
use Rattle.answers.specs.Answers.{shown}
use Rattle.pool.proofs.SyncLaws.{sync_due, sync_none}
use Rattle.pool.proofs.calls.sync_log.Goals as goal

pub returns-in-Some : goal.returns-in-Some
unfolding shown
returns-in-Some c bytes records store groups links rows keys actors =
    let did = simp (c.counters-counters.ensures, c.in-Some.is) at c.sync.ensures in
    simp (c.waits.ensures, c.from.ensures, c.set_log.ensures) (sync_due _ _ _ did)

pub returns-in_default : goal.returns-in_default
unfolding shown
returns-in_default c bytes records store groups links rows keys actors =
    sync_none _ _ (simp (c.counters-counters.ensures, c.in_default.is) at c.sync.ensures)
