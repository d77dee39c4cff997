-- The row found is taken out, and the message is marked done.
use mathlib.Core.Path.{sym, ap, ◌∙◌}
use Rattle.message_log.specs.Log.{state, marked_done}
use Rattle.message_log.proofs.WalLaws.{mark_unknown, mark_known, without_any}
use Rattle.message_log.proofs.wal.mark.Goals as goal

pub returns-in_err-i : goal.returns-in_err-i
returns-in_err-i c =
    let args = c.args in
    rw c.from_residual.ensures
    (mark_unknown args.limit (state args.log.now args.records.now args.counters.now) args.id.0 (sym c.in_err-i.ensures))

pub returns : goal.returns
returns c =
    let args = c.args in
    let w = state args.log.now args.records.now args.counters.now in
    c.mark_done.ensures ∙ (ap (λ v. marked_done args.limit v args.id.0)
    (without_any args.log.now args.records.now _ args.counters.now _ c.in_ok-i.i c.take_record.ensures)
    ∙ mark_known args.limit w args.id.0 c.in_ok-i.i (sym c.in_ok-i.ensures))
