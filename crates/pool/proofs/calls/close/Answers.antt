-- `calls::close` meets its contract: by its table. Assumes nothing.
use mathlib.Core.Path.{refl}
use Rattle.std.proofs.lemmas.Result.{err_from_is_err_and}
use Rattle.answers.specs.Answers.{shown}
use Rattle.answers.proofs.RefusalLaws.{by_refused, by_effect}
use Rattle.pool.specs.Calls.{close_of}
use Rattle.pool.proofs.calls.close.Goals as goal

pub returns-in_err-sync_check : goal.returns-in_err-sync_check
unfolding close_of
returns-in_err-sync_check c bytes records store groups links rows keys actors =
    let p = err_from_is_err_and c.from_residual.result c.from_residual.ensures.1 in
    rw (p.1, p.2) (by_refused _ _ _ _ _ c.sync_check.ensures _ c.in_err-sync_check.was refl)

pub returns : goal.returns
unfolding close_of shown
returns c bytes records store groups links rows keys actors =
    by_effect _ _ _ _ _ c.sync_check.ensures c.in_ok-sync_check.was (simp c.close.ensures)
