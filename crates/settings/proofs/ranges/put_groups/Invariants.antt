-- `ranges::put_groups` meets its contract: the rows below `g` are written, and the groups from `g` on give the rest.
use Rattle.std.proofs.Common.{◌≡◌}
use Rattle.settings.specs.Ranges.{groups_from}
use Rattle.settings.proofs.Loops.{written}
use Rattle.settings.proofs.ranges.put_groups.Given as goal

abbrev pub invariant-loop-g : goal.invariant-loop-g
invariant-loop-g l = written l.most l.groups l.given l.g ≡ groups_from l.most l.initial.groups l.given
