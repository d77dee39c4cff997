-- A retry line that fits is the digits of the id, a TAB, the digits of the attempts, then LF.
use Rattle.std.proofs.Common.{arith}
use Rattle.text.proofs.AnswerLaws.{filled_len}
use Rattle.text.proofs.RecordLaws.{after_body, wrote_tried, byte, text}
use Rattle.text.proofs.WriteLaws.{last}
use Rattle.text.proofs.record.encode_retry.Goals as goal

pub returns : goal.returns
returns c =
    let w = wrote_tried c.args.id c.args.attempts (omega arith) c.print_id-a.ensures in
    filled_len _ _ _ _ (omega arith) (last (text after_body (byte w c.put-b.ensures) c.put_id-c.ensures) c.put.ensures)
