-- `drive_admit` meets its contract: the admission, then what it says. Assumes nothing.
use mathlib.Core.Path.{ap}
use Rattle.drive.specs.Drive.{driven}
use Rattle.drive.proofs.drive_admit.Goals as goal

pub returns : goal.returns
returns c keys actors = simp c.show.ensures (ap driven (simp c.caller_in.ensures at (c.admit-called.ensures keys actors)))
