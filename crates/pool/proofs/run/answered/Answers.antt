-- `run::answered` meets its contract: by whether a turn is under way. Assumes nothing.
use Rattle.pool.specs.Run.{answered_of}
use Rattle.answers.specs.Answers.{shown}
use Rattle.pool.proofs.run.answered.Goals as goal

pub returns-then-in_turn : goal.returns-then-in_turn
unfolding answered_of shown
returns-then-in_turn c =
    let during = simp (c.where_in.ensures, c.in_turn.ensures) at c.if-in_turn.true in
    simp (c.where_in.ensures, during)

pub returns : goal.returns
unfolding answered_of shown
returns c =
    let over = simp (c.where_in.ensures, c.in_turn.ensures) at c.if-in_turn.false in
    simp (c.where_in.ensures, c.busy.ensures, c.groups.ensures, c.waiters.ensures, over)
