-- Eight stores of what was read are one write of the eight bytes.
use Rattle.moves.proofs.MoveLaws.{eight_is}
use Rattle.moves.proofs.move_eight.Goals as goal

pub returns : goal.returns
returns c = eight_is c.args.bytes.now c.args.from c.args.to c.requires.0 c.requires.1
