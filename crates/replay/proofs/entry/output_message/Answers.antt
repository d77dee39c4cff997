-- By whether a message is shown; if one is, by its part of the body store.
use Rattle.replay.specs.Entry.{output_message}
use Rattle.replay.proofs.entry.output_message.Goals as goal

pub returns-in-None : goal.returns-in-None
unfolding output_message
returns-in-None c = rw c.in-None.is c.output_numbers.ensures

pub returns-in-Some : goal.returns-in-Some
unfolding output_message
returns-in-Some c =
    let entry = c.in-Some.is in
    rw entry
    (simp (c.bytes_in.ensures, c.bytes_in-in-Some.ensures, c.message_part-shown.ensures, entry) at
    c.output_texts.ensures)
