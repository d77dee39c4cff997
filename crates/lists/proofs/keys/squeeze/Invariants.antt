-- `keys::squeeze` meets its contract: squeezing what is left into the row so far gives the same at every turn.
use Rattle.std.proofs.Common.{◌≡◌, drop}
use Rattle.lists.specs.KeyLists.{blank_row, squeeze_of}
use Rattle.lists.proofs.keys.squeeze.Given as goal

abbrev pub invariant-loop-k : goal.invariant-loop-k
invariant-loop-k l = squeeze_of l.out (drop l.k-index l.k-items) ≡ squeeze_of blank_row l.k-items
