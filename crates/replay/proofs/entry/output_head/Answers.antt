-- By the flag's number.
use Rattle.replay.proofs.entry.output_head.Goals as goal

pub returns : goal.returns
returns c = simp (c.counters-counters.ensures, c.queued.ensures, c.losses-losses.ensures, c.flag.ensures) at c.output_numbers.ensures
