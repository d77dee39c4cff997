-- A text that has room goes out.
use Rattle.std.proofs.Common.{sym, arith}
use Rattle.wire.proofs.OutputLaws.{output_room}
use Rattle.wire.proofs.output.output_bytes.Goals as goal

pub returns : goal.returns
returns c = output_room _ (omega arith) (sym c.if-not-fits_behind.ensures) c.put_bytes.ensures
