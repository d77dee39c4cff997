-- An id that is not open, and a number that no line says, change nothing.
use mathlib.Core.Path.{sym, ◌∙◌}
use Rattle.message_log.specs.Log.{state}
use Rattle.message_log.proofs.WalLaws.{retry_uncounted, retry_unknown, retry_known}
use Rattle.message_log.proofs.wal.retry.Goals as goal

pub returns-then-not-counts_tries : goal.returns-then-not-counts_tries
returns-then-not-counts_tries c =
    let args = c.args in
    retry_uncounted (state args.log.now args.records.now args.counters.now) args.id.0 args.attempts
    (sym c.if-not-counts_tries.ensures)

pub returns-in_err-i : goal.returns-in_err-i
returns-in_err-i c =
    let args = c.args in
    rw c.from_residual.ensures (retry_unknown (state args.log.now args.records.now args.counters.now) args.id.0
    args.attempts (sym c.if-not-counts_tries.ensures) (sym c.in_err-i.ensures))

pub returns : goal.returns
returns c =
    let args = c.args in
    c.retry_at.ensures ∙ retry_known (state args.log.now args.records.now args.counters.now) args.id.0 args.attempts
    c.in_ok-i.i (sym c.if-not-counts_tries.ensures) (sym c.in_ok-i.ensures)
