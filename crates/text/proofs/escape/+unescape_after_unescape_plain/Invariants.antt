-- Each byte read is passed over or written, and the bytes left fall with each call.
use Rattle.std.proofs.Common.{length, ◌-◌}
use Rattle.text.proofs.escape.+unescape_after_unescape_plain.Given as goal

abbrev pub decreases-unescape_after : goal.decreases-unescape_after
decreases-unescape_after l = length l.s.now - l.i

abbrev pub decreases-unescape_plain : goal.decreases-unescape_plain
decreases-unescape_plain l = length l.s.now - l.i
