-- `calls::collect_send` meets its contract: by what it keeps. Assumes nothing.
use Rattle.pool.specs.Calls.{collect_send}
use Rattle.answers.specs.Answers.{shown}
use Rattle.pool.proofs.calls.collect_send.Goals as goal

pub returns : goal.returns
unfolding collect_send shown
returns c bytes records groups keys actors = simp (← c.keep.ensures)
