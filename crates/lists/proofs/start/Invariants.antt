-- `start` meets its contract: the rows below `i` are those of the start.
use Rattle.lists.proofs.AtStart.{Below}
use Rattle.lists.proofs.start.Given as goal

abbrev pub invariant-loop-i : goal.invariant-loop-i
invariant-loop-i l = Below l.links l.i
