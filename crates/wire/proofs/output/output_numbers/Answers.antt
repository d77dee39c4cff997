-- Numbers that have room go out.
use Rattle.std.proofs.Common.{sym, arith}
use Rattle.wire.specs.Number.{numbers}
use Rattle.wire.proofs.OutputLaws.{output_room}
use Rattle.wire.proofs.NumberLaws.{length_numbers}
use Rattle.wire.proofs.output.output_numbers.Goals as goal

pub returns : goal.returns
returns c =
    output_room (numbers c.args.ns.now) (omega arith) (rw (length_numbers c.args.ns.now) (sym
    c.if-not-fits_behind.ensures)) c.put_numbers.ensures
