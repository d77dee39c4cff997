-- By the test.
use borrow.Author.Tests.{lt-ltb, le-ltb}
use Rattle.replay.specs.Entry.{output_store}
use Rattle.replay.proofs.entry.output_store.Goals as goal

pub returns-then-show-lt3 : goal.returns-then-show-lt3
unfolding output_store
returns-then-show-lt3 c = rw (lt-ltb c.args.show 3 c.if-show-lt3.true)

pub returns : goal.returns
unfolding output_store
returns c =
    rw (le-ltb c.args.show 3 c.if-show-lt3.false) c.output_bytes.ensures
