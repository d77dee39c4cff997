-- `keys::shift` meets its contract: moving the first key behind the others gives the same from every turn's row.
use Rattle.std.proofs.Common.{◌≡◌}
use Rattle.lists.specs.KeyLists.{moved_last}
use Rattle.lists.proofs.keys.shift.Given as goal

abbrev pub invariant-loop-j : goal.invariant-loop-j
invariant-loop-j l = moved_last l.keys l.j 0 ≡ moved_last l.initial.keys 1 0
