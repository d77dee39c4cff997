-- `calls::resume_at` meets its contract: by where the turn stands. Assumes nothing.
use mathlib.Core.Path.{◌∙◌}
use Rattle.points.proofs.WordLaws.{at_asks}
use Rattle.pool.proofs.ReplyLaws.{resume_asks}
use Rattle.pool.proofs.calls.resume_at.Goals as goal

pub returns-then-asks-clause-resumed : goal.returns-then-asks-clause-resumed
returns-then-asks-clause-resumed c =
    let stands = c.where_in-w.ensures ∙ at_asks _ (simp (c.asks.ensures, c.from.ensures) at c.if-asks.true) in
    c.resume.ensures _ _ _ ∙ resume_asks _ _ _ stands
