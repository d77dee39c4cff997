-- `admit::admit_called` meets its contract: by what it keeps. Assumes nothing.
use Rattle.pool.specs.Admit.{admit_called}
use Rattle.answers.specs.Answers.{shown}
use Rattle.pool.proofs.admit.admit_called.Goals as goal

pub returns : goal.returns
unfolding admit_called shown
returns c bytes records groups keys actors = simp (← c.keep.ensures)
