-- The answer is that of opening with a store and tables of zeros.
use Rattle.std.proofs.Common.{rules}
use Rattle.reopening.specs.Reopened.{freshly}
use Rattle.reopening.proofs.reopen.Goals as goal

pub returns : goal.returns
unfolding freshly
returns c = search rules
