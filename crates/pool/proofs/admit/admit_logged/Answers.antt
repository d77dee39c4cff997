-- `admit::admit_logged` meets its contract: by what the log answered. Assumes nothing.
use mathlib.Core.Path.{ap, ◌∙◌}
use Rattle.std.proofs.lemmas.Result.{err_from_is_err_and}
use Rattle.answers.specs.Answers.{shown}
use Rattle.pool.specs.Admit.{recorded_by, admit_logged}
use Rattle.pool.proofs.AdmitLaws.{logged_kept, logged_refused}
use Rattle.pool.proofs.admit.admit_logged.Goals as goal

pub returns-in_err-order : goal.returns-in_err-order
unfolding admit_logged
returns-in_err-order c groups keys actors =
    let p = err_from_is_err_and c.from_residual.result c.from_residual.ensures.1 in
    let did = simp c.counters-counters.ensures at c.append.ensures in
    rw (p.1, p.2) (logged_refused _ _ _ _ _ c.in_err-order.was ∙ ap (recorded_by _ _ _) did)

pub returns : goal.returns
unfolding admit_logged shown
returns c groups keys actors =
    let did = simp c.counters-counters.ensures at c.append.ensures in
    let keeps = simp c.counters-counters.ensures at c.keep.ensures in
    simp (c.waits.ensures, c.from.ensures, c.set_log.ensures)
    (logged_kept _ _ _ _ _ _ c.in_ok-order.was keeps ∙ ap (recorded_by _ _ _) did)
