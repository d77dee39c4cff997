-- The encoder fills the part of the log that starts at `size`; the row says where it did.
use Prim.Native.Nat.{◌+◌, ◌≤◌}
use native.Mathlib.Omega.{arith}
use lib.ListN.{length}
use Rattle.text.specs.Format.{untried, Message, record_line}
use Rattle.text.proofs.AnswerLaws.{filled_part}
use Rattle.message_log.proofs.WalLaws.{logged_is}
use Rattle.message_log.proofs.wal.put_record.Goals as goal

pub returns : goal.returns
returns c =
    let args = c.args in
    let pre = c.requires in
    let encode-record = c.encode_record in
    let set_row = c.set_row in
    let m : Message = untried args.counters.now.next args.name.now args.body.now in
    let room : args.counters.now.size + length (record_line m) ≤ length args.log.now = omega
    (arith, pre.0.len_is, pre.1) in
    logged_is args.log.now _ args.records.now _ args.counters.now m args.len pre.0.len_is
    (filled_part args.log.now args.counters.now.size (record_line m) _ _ room encode-record.ensures) set_row.ensures
