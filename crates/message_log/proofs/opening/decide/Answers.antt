-- One law for each answer of the reader.
use Rattle.std.proofs.Common.{arith}
use Rattle.std.proofs.lemmas.Result.{err_from_is_err_and}
use Rattle.message_log.proofs.DecisionLaws.{left_refused, rows_too_long, rows_accepted}
use Rattle.message_log.proofs.opening.decide.Goals as goal

pub returns-in_err-kept : goal.returns-in_err-kept
returns-in_err-kept c =
    let p = err_from_is_err_and c.from_residual.result c.from_residual.ensures.1 in
    rw (p.1, p.2) (left_refused c.args.file.now c.left_rows.new.rows _ c.in_err-kept.ensures)

pub returns-then-not-rows_fit : goal.returns-then-not-rows_fit
returns-then-not-rows_fit c =
    rows_too_long c.args.file.now _ c.in_ok-kept.kept (omega arith) c.in_ok-kept.ensures c.if-not-rows_fit.ensures

pub returns : goal.returns
returns c =
    rows_accepted c.args.file.now _ c.in_ok-kept.kept (omega arith) c.in_ok-kept.ensures c.if-not-rows_fit.ensures
