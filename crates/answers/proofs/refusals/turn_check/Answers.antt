-- `refusals::turn_check` meets its contract: what the disk's lines refuse, the table refuses. The check finds the rest.
use mathlib.Core.Path.{sym, ◌∙◌}
use Rattle.std.proofs.lemmas.Result.{err_from_is_err_and}
use Rattle.turn.specs.Words.{pool_of}
use Rattle.answers.specs.Refusals.{sync_refusals, turn_refusals}
use Rattle.answers.proofs.RefusalLaws.{first_refuses}
use Rattle.answers.proofs.refusals.turn_check.Goals as goal

pub returns-in_err-sync_check : goal.returns-in_err-sync_check
unfolding sync_refusals turn_refusals
returns-in_err-sync_check c =
    let p = err_from_is_err_and c.from_residual.result c.from_residual.ensures.1 in
    let says = sym c.sync_check.ensures ∙ c.in_err-sync_check.was in
    rw (p.1, p.2) (sym (first_refuses (sync_refusals (pool_of c.args.pool.now)) _ _ says))
