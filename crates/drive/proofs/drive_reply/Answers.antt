-- `drive_reply` meets its contract: the reply, then what it says. Assumes nothing.
use mathlib.Core.Path.{ap}
use Rattle.drive.specs.Drive.{driven}
use Rattle.drive.proofs.drive_reply.Goals as goal

pub returns : goal.returns
returns c = simp c.show.ensures (ap driven (simp c.reply_in.ensures at c.reply-called.ensures))
