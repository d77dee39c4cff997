-- `drive_open` meets its contract: the opening, then what it says. Assumes nothing.
use mathlib.Core.Path.{ap}
use Rattle.drive.specs.Drive.{driven}
use Rattle.drive.proofs.drive_open.Goals as goal

pub returns : goal.returns
returns c = simp c.show.ensures (ap driven (simp c.settings_in.ensures at c.open-called.ensures))
