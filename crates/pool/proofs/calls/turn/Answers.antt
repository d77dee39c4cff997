-- `calls::turn` meets its contract: by its table; a turn that begins runs. Assumes nothing.
use Rattle.std.proofs.Common.{rules}
use mathlib.Core.Path.{refl, sym, ◌∙◌}
use Rattle.std.proofs.lemmas.Result.{err_from_is_err_and}
use Rattle.answers.proofs.RefusalLaws.{by_refused}
use Rattle.pool.proofs.ReplyLaws.{turn_runs}
use Rattle.pool.specs.Calls.{turn_of}
use Rattle.pool.proofs.calls.turn.Goals as goal

pub returns-in_err-turn_check : goal.returns-in_err-turn_check
unfolding turn_of
returns-in_err-turn_check c =
    let p = err_from_is_err_and c.from_residual.result c.from_residual.ensures.1 in
    rw (p.1, p.2) (by_refused _ _ _ _ _ c.turn_check.ensures _ c.in_err-turn_check.was refl)

pub returns : goal.returns
returns c =
    let fine = sym c.turn_check.ensures ∙ c.in_ok-turn_check.was in
    let did = turn_runs _ _ _ fine c.begin.ensures c.run.ensures.ran in
    search (rules, did)
