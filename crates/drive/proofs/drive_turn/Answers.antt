-- `drive_turn` meets its contract: the turn, then what it says. Assumes nothing.
use mathlib.Core.Path.{ap}
use Rattle.drive.specs.Drive.{driven}
use Rattle.drive.proofs.drive_turn.Goals as goal

pub returns : goal.returns
returns c = simp c.show.ensures (ap driven c.turn-called.ensures)
