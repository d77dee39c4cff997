-- The row says the attempts first, where all then fits; else nothing changes.
use mathlib.Core.Path.{sym, ap, ◌∙◌}
use Prim.Native.Nat.{◌+◌}
use Rattle.message_log.specs.declared.Counters.{Counters}
use Rattle.message_log.specs.Log.{state, retry_written}
use Rattle.message_log.proofs.WalLaws.{retry_fits, retry_no_room}
use Rattle.message_log.proofs.wal.retry_at.Goals as goal

pub returns-then-not-fits_behind : goal.returns-then-not-fits_behind
returns-then-not-fits_behind c =
    let args = c.args in
    retry_no_room args.log.now args.records.now args.counters.now args.id args.attempts args.i
    c.less_tries-rest.result c.retry_len-n.result c.less_tries-rest.ensures c.retry_len-n.ensures
    (sym c.if-not-fits_behind.ensures)

pub returns : goal.returns
returns c =
    let args = c.args in
    let tried : Counters = record args.counters.now { live = c.less_tries-rest.result + c.retry_len-n.result } in
    retry_fits args.log.now args.records.now args.counters.now args.id args.attempts args.i
    c.less_tries-rest.result c.retry_len-n.result c.less_tries-rest.ensures c.retry_len-n.ensures
    (sym c.if-not-fits_behind.ensures) _
    (c.write_retry.ensures ∙ ap (λ t. retry_written (state args.log.now t tried) args.id args.attempts)
    c.set_tried.ensures)
