-- `play::place_file` meets its contract: the file is written at the front of the log. Assumes nothing.
use Rattle.replay.specs.Replay.{placed}
use mathlib.Core.Path.{ap}
use Rattle.replay.proofs.play.place_file.Goals as goal

pub returns : goal.returns
unfolding placed
returns c = ap (λ d. d.out) c.output_bytes.ensures
