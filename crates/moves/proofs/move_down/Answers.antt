-- Refused by the same tests as its definition; else the two loops take and count its steps (`down_done`).
use Rattle.std.proofs.Common.{arith}
use Rattle.moves.proofs.MoveLaws.{down_done}
use Rattle.moves.proofs.move_down.Goals as goal

pub returns : goal.returns
returns c =
    let eights = c.eights_down-eights.ensures in
    let singles = c.singles_down-singles.ensures in
    down_done c.args.bytes.now c.args.from c.args.n c.args.to _ _ _ _ (omega arith) (omega arith) eights.bytes
    eights.count singles.bytes singles.count
