-- `admit::admit` meets its contract: by its table, and by whether a caller waits. Assumes nothing.
use mathlib.Core.Path.{refl, sym, ◌∙◌}
use Rattle.std.proofs.lemmas.Result.{err_from_is_err_and}
use Rattle.pool.proofs.AdmitLaws.{admit_refused, admit_called_lem, admit_logged_lem}
use Rattle.pool.proofs.admit.admit.Goals as goal

pub returns-in_err-admit_check : goal.returns-in_err-admit_check
returns-in_err-admit_check c keys actors =
    let p = err_from_is_err_and c.from_residual.result c.from_residual.ensures.1 in
    let says = sym (c.admit_check.ensures _ _ _ _ _ _) ∙ c.in_err-admit_check.was in
    rw (p.1, p.2) (admit_refused _ _ _ _ _ _ says refl)

pub returns-in-Some : goal.returns-in-Some
returns-in-Some c keys actors =
    let fine = sym (c.admit_check.ensures _ _ _ _ _ _) ∙ c.in_ok-admit_check.was in
    simp c.in-Some.is (admit_called_lem _ _ _ _ _ fine (c.admit_called.ensures _ _ _ _ _))

pub returns-in-None : goal.returns-in-None
returns-in-None c keys actors =
    let fine = sym (c.admit_check.ensures _ _ _ _ _ _) ∙ c.in_ok-admit_check.was in
    simp c.in-None.is (admit_logged_lem _ _ _ _ fine (c.admit_logged.ensures _ _ _))
