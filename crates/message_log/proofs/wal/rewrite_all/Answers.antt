-- The rewrite, and the counters after it.
use Rattle.message_log.specs.Log.{state}
use Rattle.message_log.proofs.WalLaws.{compacted_is, all_anew_lem}
use Rattle.message_log.proofs.wal.rewrite_all.Goals as goal

pub returns : goal.returns
returns c =
    let args = c.args in
    let compact = c.compact in
    all_anew_lem (state args.log.now args.records.now args.counters.now) _
    (compacted_is args.log.now _ args.records.now _ args.counters.now compact.ensures)
