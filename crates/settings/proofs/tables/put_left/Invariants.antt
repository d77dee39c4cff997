-- `tables::put_left` meets its contract: the messages from `i` on, put into the tables as they are now, give the whole.
use Rattle.std.proofs.Common.{◌≡◌, ◌-◌}
use Rattle.settings.specs.Tables.{put_left}
use Rattle.settings.proofs.tables.put_left.Given as goal

abbrev pub invariant-loop-i : goal.invariant-loop-i
invariant-loop-i l =
    put_left l.links l.rows l.left l.i (l.n - l.i) ≡ put_left l.initial.links l.initial.rows l.left 0 l.n
