-- Each byte read is counted or passed over, and the bytes left fall with each call.
use Rattle.std.proofs.Common.{length, ◌-◌}
use Rattle.text.proofs.escape.+after_len_unescaped_len.Given as goal

abbrev pub decreases-after_len : goal.decreases-after_len
decreases-after_len l = length l.s.now - l.i

abbrev pub decreases-unescaped_len : goal.decreases-unescaped_len
decreases-unescaped_len l = length l.s.now - l.i
