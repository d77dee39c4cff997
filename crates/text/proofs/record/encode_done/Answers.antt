-- A done line that fits is the id's digits, then LF.
use Rattle.std.proofs.Common.{arith}
use Rattle.text.specs.Format.{done_line}
use Rattle.text.proofs.WriteLaws.{both}
use Rattle.text.proofs.RecordLaws.{done_parts}
use Rattle.text.proofs.AnswerLaws.{filled_len}
use Rattle.text.proofs.record.encode_done.Goals as goal

pub returns : goal.returns
returns c =
    filled_len _ _ _ _ (omega arith) (both (done_line c.args.id) (omega arith) (done_parts c.args.id)
    c.print_id-a.ensures c.put.ensures)
